-- The ways in which a command ends that reads no input: refused, cut off, or with one text printed once all is done; and the
-- outcomes of the commands of a hand.
use Rattle.std.proofs.Common.{◌≡◌, false, List, [], ◌∷◌, ℕ, None, refl, Option, Some, IfSome, ◌≢◌, true, ◌++◌, Result, Ok, Err, sym, subst}
use Rattle.std.proofs.Common.{inl, inr, arith, append-nil, Bool, ap}
use Rattle.command_laws.proofs.CommandEndings.{Rules, appends_none, any_input, none_reached, nothing_front, text_front, none_printed}
use Rattle.command_laws.proofs.CommandTable.{plain_is_function}
use Rattle.command_spec.specs.Commands.{traits_of}
use Rattle.command_spec.specs.Single.{DefectOutcome, LoseOutcome}
use Rattle.command_spec.specs.Lines.{protected_line, lost_line, defect_line, upgraded_line}
use Rattle.command_laws.specs.CommandRecord.{is_unsound}
use Rattle.command_laws.specs.CommandFields.{Yields, CommandPrints}
use Rattle.command_laws.specs.RunTerms.{EndsBlind}
use Rattle.command_spec.specs.Outcome.{CommandOutcome, refused, refused_behind, acted, carried_out}
use Rattle.command_laws.specs.Outcomes.{ProtectOutcome, UpgradeOutcome}
use Rattle.command_spec.specs.Machine.{InputLeft, IsOfBytes, may_come_from, IsCutOff}
use Rattle.command_spec.specs.declared.status.Status.{Status}
use Rattle.command_spec.specs.declared.words.Words.{Words}
use Rattle.qic_base.proofs.Joins.{broke_first}
use Rattle.qic_base.proofs.Steps.{Broke-front, Done-told}
use Rattle.qic_base.specs.Acts.{Act, next_steps, TapeFails, SinkFails, Went, TapeCut, SinkCut}
use Rattle.qic_base.specs.Alone.{no_source, around}
use Rattle.qic_base.specs.Cartridge.{Cartridge, IsPlace, view_at}
use Rattle.qic_base.specs.Step.{Step as TapeStep, SetProtected, Wear, Spoil, Upgrade}
use Rattle.qic_base.specs.Tape.{spoil_answer}
use Rattle.qic_base.specs.declared.sink.SinkFailed.{SinkFailed}
use Rattle.qic_base.specs.declared.tape.TapeInfo.{TapeInfo}
use Rattle.hand_commands.specs.Outcome.{first_steps}
use Rattle.hand_commands.specs.Writing.{printed_status}
use Rattle.qic_base.specs.CartridgeTerms.{IsInfoOf}
use Rattle.command_spec.specs.declared.status.Status.TheVariants as status
use Rattle.qic_base.specs.Sink as sinks
use Rattle.qic_base.specs.SinkCalls as sink_calls
use Rattle.qic_base.specs.Tape as tapes

-- ---- commands that read no input

pub record IsBlind (command : Words) : Type 0 where
  pub reads : (traits_of command).reads ≡ false

-- the first act of an outcome
abbrev first_of : List Act → Act
first_of [] = record { steps = []; text = [] }
first_of (act ∷ acts) = act

abbrev pub first_act : CommandOutcome → Act
first_act outcome = first_of outcome.acts

-- no byte was taken of a source that is never asked
pub none_taken : (answer : Status) (taken : ℕ) → InputLeft answer taken None None
none_taken (status.ScriptFault line place) taken = (0, refl, inl (omega arith))
none_taken answer taken = refl

-- its rule over what is told, with some input
over_rules : (held : Option (Option Cartridge)) (command : Words) (outcome : CommandOutcome) → IsBlind command →
    IfSome held (λ h. Rules command h outcome) →
    IfSome held (λ h. (input : List ℕ) × Unit {0} × (IsOfBytes command None input × Yields command h input outcome))
over_rules None command outcome blind known = tt
over_rules (Some h) command outcome blind known = ([], tt, (appends_none command None [] blind.reads, known []))

module _ {T K : Type 0} (t : tapes.Meaning T) (k : sinks.Meaning K) where
  -- one act went
  went_one : (a b : T) (x y : K) (steps : List TapeStep) (text : List ℕ) → tapes.Done t a b steps → sinks.Wrote k x y text →
      Went t no_source k (around a x) (around b y) (record { steps = steps; text = text } ∷ [])
  went_one a b x y steps text did wrote = record {
    did = subst (tapes.Done t a b) (sym (append-nil steps)) did;
    wrote = subst (sinks.Wrote k x y) (sym (append-nil text)) wrote;
    source_later = omega arith;
  }

  -- it was carried out, and printed its output
  done : (command : Words) → IsBlind command → (a b : T) (x y : K) (outcome : CommandOutcome) →
      may_come_from status.Done command ≡ true → outcome.status ≡ status.Done →
      outcome ≡ acted (first_act outcome).steps (first_act outcome).text →
      CommandPrints command (first_act outcome).text →
      IfSome (t.told a) (λ held. Rules command held outcome) →
      tapes.Done t a b (first_act outcome).steps → sinks.Wrote k x y (first_act outcome).text → EndsBlind t k command a b x y status.Done
  done command blind a b x y outcome sound ends one prints told did wrote =
      let act : Act = first_act outcome in
      inl (record {
        outcome = acted act.steps act.text;
        answered = refl;
        told = over_rules (t.told a) command (acted act.steps act.text) blind
            (subst (λ (o : CommandOutcome). IfSome (t.told a) (λ held. Rules command held o)) one told);
        went = went_one a b x y act.steps act.text did wrote;
        left = refl;
        sound = sound;
        none_taken = λ blind. refl;
        prints = ((λ is. subst (CommandPrints command) (sym (append-nil act.text)) prints), (λ other. absurd (other refl)));
        silent = λ still other. absurd (other refl);
        fault = tt;
      })

  -- it was refused, with nothing done and nothing printed
  pub turned_down : (command : Words) → IsBlind command → (a b : T) (x : K) (why : Status) → ((z : K) → k.took z [] z) →
      may_come_from why command ≡ true → is_unsound why ≡ false → why ≢ status.Done →
      IfSome (t.told a) (λ held. Rules command held (refused why)) →
      tapes.Done t a b [] → EndsBlind t k command a b x x why
  turned_down command blind a b x why nothing sound uncounted other told did = inl (record {
    outcome = refused why;
    answered = refl;
    told = over_rules (t.told a) command (refused why) blind told;
    went = record { did = did; wrote = record { took = nothing x; later = omega arith }; source_later = omega arith };
    left = none_taken why 0;
    sound = sound;
    none_taken = λ blind. refl;
    prints = ((λ is. absurd (other is)), (λ unlike. none_printed command why uncounted));
    silent = λ still unlike. refl;
    fault = tt;
  })

  -- .. with some steps done
  pub turned_behind : (command : Words) → IsBlind command → (a b : T) (x : K) (why : Status) (steps : List TapeStep) →
      ((z : K) → k.took z [] z) →
      may_come_from why command ≡ true → is_unsound why ≡ false → why ≢ status.Done →
      IfSome (t.told a) (λ held. Rules command held (refused_behind steps why)) →
      tapes.Done t a b steps → EndsBlind t k command a b x x why
  turned_behind command blind a b x why steps nothing sound uncounted other told did = inl (record {
    outcome = refused_behind steps why;
    answered = refl;
    told = over_rules (t.told a) command (refused_behind steps why) blind told;
    went = went_one a b x x steps [] did (record { took = nothing x; later = omega arith });
    left = none_taken why 0;
    sound = sound;
    none_taken = λ blind. refl;
    prints = ((λ is. absurd (other is)), (λ unlike. none_printed command why uncounted));
    silent = λ still unlike. refl;
    fault = tt;
  })

  -- the sink broke its output off
  unprinted : (command : Words) → IsBlind command → (a b : T) (x y : K) (outcome : CommandOutcome) →
      outcome.status ≡ status.Done → outcome ≡ acted (first_act outcome).steps (first_act outcome).text →
      CommandPrints command (first_act outcome).text →
      IfSome (t.told a) (λ held. Rules command held outcome) →
      tapes.Done t a b (first_act outcome).steps → sink_calls.BrokeOff k x y (first_act outcome).text →
      EndsBlind t k command a b x y status.SinkFault
  unprinted command blind a b x y outcome ends one prints told did broke =
      let act : Act = first_act outcome in
      let cut : SinkCut t no_source k (around a x) (around b y) (act ∷ []) = record {
        at = record { front = []; act = act; rest = []; parts = refl };
        did = did;
        broke = broke_first broke;
        source_later = omega arith;
      } in
      let off : (held : Option Cartridge) → IsCutOff t no_source k command held [] (around a x) (around b y) SinkFails outcome =
      λ held. subst (IsCutOff t no_source k command held [] (around a x) (around b y) SinkFails) (sym one) (record {
        cut = cut;
        taken = 0;
        left = refl;
        reaches = none_reached command held [] (acted act.steps act.text) [];
        done = λ same still. (refl, subst (tapes.Done t a b) (sym (append-nil act.steps)) did);
        silent = λ still. refl;
      }) in
      inr (
        SinkFails,
        refl,
        record {
          told = by_told (t.told a) told off;
          acts = act ∷ [];
          cut = cut;
          front = text_front command (act.text ++ []) (subst (CommandPrints command) (sym (append-nil act.text)) prints);
          silent = λ still other. absurd (other refl);
          reads = λ same. absurd (cc);
          source_tells = refl;
        },
      )
    where
      by_told : (o : Option (Option Cartridge)) → IfSome o (λ held. Rules command held outcome) →
          ((held : Option Cartridge) → IsCutOff t no_source k command held [] (around a x) (around b y) SinkFails outcome) →
          IfSome o (λ held. (input : List ℕ) × Unit {0}
          × (IsOfBytes command None input × ((other : CommandOutcome) → Yields command held input other →
          IsCutOff t no_source k command held input (around a x) (around b y) SinkFails other)))
      by_told None told off = tt
      by_told (Some held) told off = (
        [],
        tt,
        (
          appends_none command None [] blind.reads,
          λ other plain.
              subst (IsCutOff t no_source k command held [] (around a x) (around b y) SinkFails)
              (plain_is_function command held [] outcome other (told []) plain) (off held),
        ),
      )

  -- it was carried out, and its output written or broken off
  pub printed : (command : Words) → IsBlind command → (a b : T) (x y : K) (outcome : CommandOutcome) (r : Result (Unit {0}) SinkFailed) →
      may_come_from status.Done command ≡ true → outcome.status ≡ status.Done →
      outcome ≡ acted (first_act outcome).steps (first_act outcome).text →
      CommandPrints command (first_act outcome).text →
      IfSome (t.told a) (λ held. Rules command held outcome) →
      tapes.Done t a b (first_act outcome).steps → sink_calls.Writes k x y (first_act outcome).text r →
      EndsBlind t k command a b x y (printed_status r)
  printed command blind a b x y outcome (Ok all) sound ends one prints told did wrote =
      done command blind a b x y outcome sound ends one prints told did wrote
  printed command blind a b x y outcome (Err failed) sound ends one prints told did broke =
      unprinted command blind a b x y outcome ends one prints told did broke

  abbrev tape_cut_first : (a b : T) (x : K) (acts : List Act) → ((z : K) → k.took z [] z) → tapes.Broke t a b (next_steps acts) →
      TapeCut t no_source k (around a x) (around b x) acts
  tape_cut_first a b x acts nothing broke = record {
    front = [];
    rest = acts;
    parts = refl;
    broke = broke;
    here = λ held left told now. broke.torn held left told now;
    wrote = record { took = nothing x; later = omega arith };
    source_later = omega arith;
  }

  -- the tape failed in a front of its steps
  pub cut_off : (command : Words) → IsBlind command → (a b : T) (x : K) (steps : List TapeStep) → ((z : K) → k.took z [] z) →
      IfSome (t.told a) (λ held. (outcome : CommandOutcome) → Rules command held outcome → (rest : List TapeStep)
      × (steps ++ rest ≡ first_steps outcome)) →
      tapes.Broke t a b steps → EndsBlind t k command a b x x status.TapeFault
  cut_off command blind a b x steps nothing front broke =
      inr (
        TapeFails,
        refl,
        record {
          told = by_told (t.told a) front;
          acts = record { steps = steps; text = [] } ∷ [];
          cut = tape_cut_first a b x (record { steps = steps; text = [] } ∷ []) nothing broke;
          front = nothing_front command;
          silent = λ still other. refl;
          reads = λ same. absurd (cc);
          source_tells = refl;
        },
      )
    where
      by_told : (o : Option (Option Cartridge)) →
          IfSome o (λ held. (outcome : CommandOutcome) → Rules command held outcome → (rest : List TapeStep)
          × (steps ++ rest ≡ first_steps outcome)) →
          IfSome o (λ held. (input : List ℕ) × Unit {0}
          × (IsOfBytes command None input × ((outcome : CommandOutcome) → Yields command held input outcome →
          IsCutOff t no_source k command held input (around a x) (around b x) TapeFails outcome)))
      by_told None front = tt
      by_told (Some held) front = (
        [],
        tt,
        (
          appends_none command None [] blind.reads,
          λ outcome plain.
              let longer = front outcome (any_input command held [] outcome blind.reads plain) in
              record {
                cut = tape_cut_first a b x outcome.acts nothing (subst (tapes.Broke t a b) longer.1 (Broke-front longer.0 broke));
                taken = 0;
                left = refl;
                reaches = none_reached command held [] outcome [];
                done = λ same still. absurd (cc);
                silent = λ still. refl;
              },
        ),
      )

  -- .. before the first of them
  pub cut_off_first : (command : Words) → IsBlind command → (a b : T) (x : K) → ((z : K) → k.took z [] z) →
      tapes.Broke t a b [] → EndsBlind t k command a b x x status.TapeFault
  cut_off_first command blind a b x nothing broke = cut_off command blind a b x [] nothing (nothing_yet (t.told a)) broke
    where
      nothing_yet : (held : Option (Option Cartridge)) →
          IfSome held (λ h. (outcome : CommandOutcome) → Rules command h outcome → (rest : List TapeStep)
          × ([] ++ rest ≡ first_steps outcome))
      nothing_yet None = tt
      nothing_yet (Some h) = λ outcome plain. (first_steps outcome, refl)

-- a fact of what is told follows from one
pub told_map : {A : Type 0} (held : Option A) (P Q : A → Type 0) → IfSome held P → ((a : A) → P a → Q a) → IfSome held Q
told_map None P Q known follows = tt
told_map (Some a) P Q known follows = follows a known

-- .. or from two
pub told_both : {A : Type 0} (held : Option A) (P Q : A → Type 0) → IfSome held P → IfSome held Q → IfSome held (λ a. P a × Q a)
told_both None P Q one other = tt
told_both (Some a) P Q one other = (one, other)

-- what is told behind calls that only read was told before them
pub told_back : {T : Type 0} (t : tapes.Meaning T) (a b : T) (P : Option Cartridge → Type 0) → tapes.Done t a b [] → IfSome (t.told b) P →
    IfSome (t.told a) P
told_back t a b P read told = subst (λ (held : Option (Option Cartridge)). IfSome held P) (Done-told read) told

-- ---- by what the drive knows of the cartridge

pub protect_absent : (on : Bool) (held : Option Cartridge) → IsInfoOf None held → ProtectOutcome on held (refused status.NoCartridge)
protect_absent on None known = refl
protect_absent on (Some c) known = cc

pub protect_present : (on : Bool) (info : TapeInfo) (held : Option Cartridge) → IsInfoOf (Some info) held →
    ProtectOutcome on held (carried_out (SetProtected on) (protected_line on))
protect_present on info None known = cc
protect_present on info (Some c) known = refl

pub protect_front : (on : Bool) (info : TapeInfo) (held : Option Cartridge) (outcome : CommandOutcome) → IsInfoOf (Some info) held →
    ProtectOutcome on held outcome → SetProtected on ∷ [] ≡ first_steps outcome
protect_front on info None outcome known plain = cc
protect_front on info (Some c) outcome known plain = sym (ap (λ (o : CommandOutcome). first_steps o) plain)

pub upgrade_absent : (held : Option Cartridge) → IsInfoOf None held → UpgradeOutcome held (refused status.NoCartridge)
upgrade_absent None known = refl
upgrade_absent (Some c) known = cc

pub upgrade_present : (info : TapeInfo) (version : ℕ) (held : Option Cartridge) → IsInfoOf (Some info) held →
    IfSome held (λ c. version ≡ c.version) → UpgradeOutcome held (carried_out Upgrade (upgraded_line version))
upgrade_present info version None known told = cc
upgrade_present info version (Some c) known told = ap (λ (v : ℕ). carried_out Upgrade (upgraded_line v)) told

pub upgrade_front : (info : TapeInfo) (held : Option Cartridge) (outcome : CommandOutcome) → IsInfoOf (Some info) held →
    UpgradeOutcome held outcome → Upgrade ∷ [] ≡ first_steps outcome
upgrade_front info None outcome known plain = cc
upgrade_front info (Some c) outcome known plain = sym (ap (λ (o : CommandOutcome). first_steps o) plain)

pub lose_absent : (segment sector : ℕ) (held : Option Cartridge) → IsInfoOf None held →
    LoseOutcome segment sector held (refused status.NoCartridge)
lose_absent segment sector None known = refl
lose_absent segment sector (Some c) known = cc

-- a place by the length that the drive knows is one of the cartridge
place_known : (info : TapeInfo) (c : Cartridge) (segment sector : ℕ) → IsInfoOf (Some info) (Some c) →
    IsPlace info.segments_per_track segment sector → IsPlace c.info.segments_per_track segment sector
place_known info c segment sector known place =
    let same : info ≡ c.info = cc in
    subst (λ (i : TapeInfo). IsPlace i.segments_per_track segment sector) same place

place_told : (info : TapeInfo) (c : Cartridge) (segment sector : ℕ) → IsInfoOf (Some info) (Some c) →
    IsPlace c.info.segments_per_track segment sector → IsPlace info.segments_per_track segment sector
place_told info c segment sector known place =
    let same : c.info ≡ info = cc in
    subst (λ (i : TapeInfo). IsPlace i.segments_per_track segment sector) same place

pub lose_misplaced : (segment sector : ℕ) (info : TapeInfo) (held : Option Cartridge) → IsInfoOf (Some info) held →
    ¬ (IsPlace info.segments_per_track segment sector) → LoseOutcome segment sector held (refused status.BadPlace)
lose_misplaced segment sector info None known none = cc
lose_misplaced segment sector info (Some c) known none = inl ((λ place. none (place_told info c segment sector known place)), refl)

pub lose_placed : (segment sector : ℕ) (info : TapeInfo) (held : Option Cartridge) → IsInfoOf (Some info) held →
    IsPlace info.segments_per_track segment sector →
    LoseOutcome segment sector held (carried_out (Wear segment sector) (lost_line segment sector))
lose_placed segment sector info None known place = cc
lose_placed segment sector info (Some c) known place = inr (place_known info c segment sector known place, refl)

pub lose_front : (segment sector : ℕ) (info : TapeInfo) (held : Option Cartridge) (outcome : CommandOutcome) → IsInfoOf (Some info) held →
    IsPlace info.segments_per_track segment sector → LoseOutcome segment sector held outcome →
    Wear segment sector ∷ [] ≡ first_steps outcome
lose_front segment sector info None outcome known place plain = cc
lose_front segment sector info (Some c) outcome known place (inl plain) = absurd (plain.0 (place_known info c segment sector known place))
lose_front segment sector info (Some c) outcome known place (inr plain) = sym (ap (λ (o : CommandOutcome). first_steps o) plain.1)

pub defect_absent : (segment sector : ℕ) (held : Option Cartridge) → IsInfoOf None held →
    DefectOutcome segment sector held (refused status.NoCartridge)
defect_absent segment sector None known = refl
defect_absent segment sector (Some c) known = cc

pub defect_misplaced : (segment sector : ℕ) (info : TapeInfo) (held : Option Cartridge) → IsInfoOf (Some info) held →
    ¬ (IsPlace info.segments_per_track segment sector) → DefectOutcome segment sector held (refused status.BadPlace)
defect_misplaced segment sector info None known none = cc
defect_misplaced segment sector info (Some c) known none = inl ((λ place. none (place_told info c segment sector known place)), refl)

pub defect_placed : (segment sector : ℕ) (info : TapeInfo) (held : Option Cartridge) → IsInfoOf (Some info) held →
    IsPlace info.segments_per_track segment sector → IfSome held (λ c. spoil_answer (view_at c segment sector) ≡ true) →
    DefectOutcome segment sector held (carried_out (Spoil segment sector) (defect_line segment sector))
defect_placed segment sector info None known place spoiled = cc
defect_placed segment sector info (Some c) known place spoiled = inr (inr (place_known info c segment sector known place, spoiled, refl))

pub defect_formatted : (segment sector : ℕ) (info : TapeInfo) (held : Option Cartridge) → IsInfoOf (Some info) held →
    IsPlace info.segments_per_track segment sector → IfSome held (λ c. spoil_answer (view_at c segment sector) ≡ false) →
    DefectOutcome segment sector held (refused_behind (Spoil segment sector ∷ []) status.NotBlank)
defect_formatted segment sector info None known place kept = cc
defect_formatted segment sector info (Some c) known place kept = inr (inl (place_known info c segment sector known place, kept, refl))

pub defect_front : (segment sector : ℕ) (info : TapeInfo) (held : Option Cartridge) (outcome : CommandOutcome) → IsInfoOf (Some info) held →
    IsPlace info.segments_per_track segment sector → DefectOutcome segment sector held outcome →
    Spoil segment sector ∷ [] ≡ first_steps outcome
defect_front segment sector info None outcome known place plain = cc
defect_front segment sector info (Some c) outcome known place (inl plain) = absurd (plain.0 (place_known info c segment sector known place))
defect_front segment sector info (Some c) outcome known place (inr (inl plain)) = sym (ap (λ (o : CommandOutcome). first_steps o) plain.2)
defect_front segment sector info (Some c) outcome known place (inr (inr plain)) = sym (ap (λ (o : CommandOutcome). first_steps o) plain.2)
