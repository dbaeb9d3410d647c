-- What runs of several items leave of the plain cartridge that a cartridge stands for: how acts ended, and generated runs.
use Rattle.std.proofs.Common.{◌≡◌, inl, inr, ℕ, ◌⊎◌, Some, subst, List, [], ◌∷◌, ◌++◌, Option, IsSomeAnd, refl, ap, ◌∙◌, None, true}
use Rattle.std.proofs.Common.{is_some, ◌≢◌, sym, append-nil, ◌<◌, length, arith, false, ◌≤◌, append_assoc, IfSome}
use Rattle.cartridge_laws.proofs.FormatWriting.{effects-some, some_and}
use Rattle.cartridge_laws.proofs.MountKeeping.{stopped_stands}
use Rattle.cartridge_laws.proofs.MountStanding.{standing_mounts_only_so}
use Rattle.cartridge_laws.proofs.MountWhole.{settling_effects}
use Rattle.cartridge_spec.specs.Mounting.{Mounts, mounted_as, Mounting, settled}
use Rattle.cartridge_spec.specs.TableSegment.{IsTableLive}
use Rattle.cartridge_spec.specs.Settling.{changed_by, settling_steps}
use Rattle.cartridge_spec.specs.Table.{Entry}
use Rattle.cartridge_spec.specs.Volumes.{Plain, entries_of, Stands}
use Rattle.command_laws.proofs.MadeCounting.{appended_by}
use Rattle.command_laws.proofs.CommandEnds.{after_steps, is_a_fault, Laws, over_at, told_whole}
use Rattle.command_laws.proofs.CommandOpened.{quiet}
use Rattle.command_laws.proofs.CommandTable.{plain_answers}
use Rattle.command_laws.proofs.CommandVolumes.{now_weaker, whole_of, done_now, each_weaker}
use Rattle.command_laws.proofs.MadeAnswered.{made_are_answered}
use Rattle.command_laws.proofs.MadeRefused.{answered_make_stands}
use Rattle.command_laws.proofs.MadeStops.{stopped_make_stands}
use Rattle.command_laws.proofs.MountedHeld.{mounted_open, settled_live}
use Rattle.command_laws.proofs.MountedKeeping.{live_kept}
use Rattle.command_laws.proofs.ScriptReached.{front_steps}
use Rattle.command_laws.proofs.TextWords.{one_command}
use Rattle.command_laws.specs.ActStops.{Behind, IsLeftBy}
use Rattle.command_laws.specs.MountedKept.{IsKept, IsOpen}
use Rattle.command_spec.specs.Headline.{ToldNow, StopLeaves, WordsLeave, EachLeft}
use Rattle.command_spec.specs.Several.{IsHeard, SomeMade, AllMade, Generated}
use Rattle.command_laws.specs.MadeTerms.{AppendedFrom, Makes}
use Rattle.command_laws.specs.Outcomes.{MakeOutcome}
use Rattle.command_laws.specs.CommandFields.{Yields}
use Rattle.command_spec.specs.Machine.{HasValues, Spells, may_come_from, fault_of, is_fault, CommandEnds, IsOfBytes}
use Rattle.command_spec.specs.Make.{AppendedBy, Making, with_made}
use Rattle.command_spec.specs.Outcome.{Going, CommandOutcome, refused, Opened, OpenOutcome}
use Rattle.command_spec.specs.Volumes.{IsCarriedOut}
use Rattle.command_spec.specs.declared.status.Status.{Status}
use Rattle.command_spec.specs.declared.words.Words.{Words}
use Rattle.qic_base.proofs.Joins.{text_of-append}
use Rattle.qic_base.proofs.Steps.{Torn-append, effects-append}
use Rattle.qic_base.specs.Acts.{Act, steps_of, text_of, next_steps, Outside, Failing, TapeFails, SourceFails, SinkFails, Went, Cut}
use Rattle.qic_base.specs.Cartridge.{Cartridge}
use Rattle.qic_base.specs.CartridgeTerms.{IsCartridge}
use Rattle.qic_base.specs.Step.{effects, Step as TapeStep, Torn}
use Rattle.qic_base.specs.Source.{IsInput}
use Rattle.command_laws.proofs.ScriptListing.{no_rest}
use Rattle.command_laws.proofs.CommandComplete.{GoesOn}
use Rattle.command_spec.specs.declared.status.Status.TheVariants as status
use Rattle.qic_base.specs.Tape as tapes
use Rattle.qic_base.specs.TapeCalls as tape_calls
use Rattle.qic_base.specs.Sink as sinks
use Rattle.qic_base.specs.Source as sources
use Rattle.command_spec.specs.declared.words.Words.TheVariants as commands

-- ---- a cartridge that stands for a plain one, mounted

-- what is refused, and not for a line that was heard
pub record WasTurned (outcome : CommandOutcome) : Type 0 where
  pub why : Status
  pub is : outcome ≡ refused why
  pub unheard : IsHeard why → ⊥
  pub none_made : (seed count : ℕ) (words : List ℕ) (es : List Entry) → AppendedFrom seed 1 count words es why 0

never_heard : (lost : ℕ) → IsHeard (status.Lost 2 lost) → ⊥
never_heard lost (inl done) = cc
never_heard lost (inr (line, place, is)) = cc

pub mounted_or_turned : (goes : Going) (c : Cartridge) (plain : Plain) (outcome : CommandOutcome) → Stands c plain →
    OpenOutcome goes (Some c) outcome →
    WasTurned outcome ⊎ GoesOn goes c plain outcome
mounted_or_turned goes c plain outcome stood (m, mounts, opened) =
    elim (standing_mounts_only_so c plain m stood mounts) [
      | inl same ↦ inr (record {
        mounts = subst (Mounts c) same mounts;
        did = subst (λ (a : Mounting). Opened goes c a outcome) same opened;
      })
      | inr (n, same) ↦ inl (record {
        why = status.Lost 2 n;
        is = subst (λ (a : Mounting). Opened goes c a outcome) same opened;
        unheard = never_heard n;
        none_made = λ seed count words es other. absurd (other refl);
      })
    ]

-- ---- what acts print

-- none is left of a text where the act that printed some of it and those before print nothing
pub none_left : (front : List Act) (act : Act) (some more : List ℕ) → some ++ more ≡ act.text → text_of (front ++ act ∷ []) ≡ [] → more ≡ []
none_left front act some more written none =
    let last : act.text ++ [] ≡ [] = no_rest (text_of front) (act.text ++ []) (sym (text_of-append front (act ∷ [])) ∙ none) in
    no_rest some more (written ∙ sym (append-nil act.text) ∙ last)

pub some_long : (text : List ℕ) → text ≢ [] → 0 < length text
some_long [] some = absurd (some refl)
some_long (x ∷ xs) some = omega arith

none_torn : (steps : List TapeStep) (held : Option Cartridge) → Torn steps held held
none_torn [] held = refl
none_torn (x ∷ xs) held = inl refl

-- ---- the settling comes first

-- what is left of some acts, the first of which settles the table
module _ (c : Cartridge) (plain : Plain) (whole : IsCartridge c) (stood : Stands c plain) (mounts : Mounts c (mounted_as plain)) where
  abbrev still : Cartridge
  still = settled plain.table_area c

  abbrev settling : Act
  settling = quiet (settling_steps plain.table_area c)

  settled_now : effects (settling_steps plain.table_area c) (Some c) ≡ Some still
  settled_now = settling_effects c plain.table_area mounts.reads

  -- a stop came in the settling, or behind it
  pub stopped_first : (acts : List Act) (left : Option Cartridge) → Torn (steps_of (settling ∷ acts)) (Some c) left →
      IsSomeAnd left (λ d. Stands d plain) ⊎ Torn (steps_of acts) (Some still) left
  stopped_first acts left torn =
      elim (Torn-append (settling_steps plain.table_area c) (steps_of acts) (Some c) left torn) [
        | inl front ↦ inl (stopped_stands c plain plain.table_area left stood mounts.reads front)
        | inr behind ↦ inr (subst (λ (held : Option Cartridge). Torn (steps_of acts) held left) settled_now behind)
      ]

  -- a front of the acts is none, or the settling and a front of those behind it
  begun : (front rest acts : List Act) → front ++ rest ≡ settling ∷ acts → ((front ≡ []) × (rest ≡ settling ∷ acts))
      ⊎ ((more : List Act) × (front ≡ settling ∷ more) × (more ++ rest ≡ acts))
  begun [] rest acts parts = inl (refl, parts)
  begun (x ∷ more) rest acts parts = let same : x ≡ settling = cc in let behind : more ++ rest ≡ acts = cc in
      inr (more, ap (λ (a : Act). a ∷ more) same, behind)

  -- what stands behind the settling and a front
  pub behind_front : (more : List Act) → effects (steps_of (settling ∷ more)) (Some c) ≡ Some (changed_by (steps_of more) still)
  behind_front more =
      effects-append (settling_steps plain.table_area c) (steps_of more) (Some c) ∙ ap (effects (steps_of more)) settled_now
      ∙ effects-some (steps_of more) still

  -- acts that were cut off: in the settling, and then nothing was printed; or behind it
  pub behind_then : (acts : List Act) (text : List ℕ) (left : Option Cartridge) → Behind c (settling ∷ acts) text left →
      Behind still acts text left
  behind_then acts text left at =
      elim (begun at.front (at.act ∷ at.rest) acts at.parts) [
        | inl (none, all) ↦
            let first : at.act ≡ settling = cc in
            absurd (at.lacks (no_rest at.some at.more (at.written ∙ ap (λ (a : Act). a.text) first)))
        | inr (more, is, parts) ↦ record {
          front = more;
          act = at.act;
          rest = at.rest;
          parts = parts;
          is = at.is ∙ ap (λ (xs : List Act). effects (steps_of xs ++ at.act.steps) (Some c)) is
              ∙ ap (λ (ss : List TapeStep). effects ss (Some c))
              (append_assoc (settling_steps plain.table_area c) (steps_of more) at.act.steps)
              ∙ effects-append (settling_steps plain.table_area c) (steps_of more ++ at.act.steps) (Some c)
              ∙ ap (effects (steps_of more ++ at.act.steps)) settled_now;
          some = at.some;
          more = at.more;
          written = at.written;
          lacks = at.lacks;
          is_text = at.is_text ∙ ap (λ (xs : List Act). text_of xs ++ at.some) is;
        }
      ]

  pub left_then : (acts : List Act) (text : List ℕ) (left : Option Cartridge) → IsLeftBy c (settling ∷ acts) text left →
      ((text ≡ []) × Torn (settling_steps plain.table_area c) (Some c) left) ⊎ IsLeftBy still acts text left
  left_then acts text left (inr at) = inr (inr (behind_then acts text left at))
  left_then acts text left (inl at) =
      elim (begun at.front at.rest acts at.parts) [
        | inl (none, all) ↦ inl (
          at.is_text ∙ ap text_of none,
          subst (λ (rest : List Act). Torn (next_steps rest) (Some c) left) all
              (subst (λ (front : List Act). Torn (next_steps at.rest) (effects (steps_of front) (Some c)) left) none at.torn),
        )
        | inr (more, is, parts) ↦ inr (inl (record {
          front = more;
          rest = at.rest;
          parts = parts;
          torn = subst (λ (held : Option Cartridge). Torn (next_steps at.rest) held left)
              (ap (λ (xs : List Act). effects (steps_of xs) (Some c)) is ∙ effects-append (settling_steps plain.table_area c)
              (steps_of more) (Some c)
              ∙ ap (effects (steps_of more)) settled_now) at.torn;
          is_text = at.is_text ∙ ap text_of is;
        }))
      ]

-- a refusal leaves all as it was, and prints nothing
pub turned_left : (c : Cartridge) (outcome : CommandOutcome) (text : List ℕ) (left : Option Cartridge) → WasTurned outcome →
    IsLeftBy c outcome.acts text left → (text ≡ []) × (left ≡ Some c)
turned_left c outcome text left turned so = by_acts (subst (λ (o : CommandOutcome). IsLeftBy c o.acts text left) turned.is so)
  where
    by_acts : IsLeftBy c [] text left → (text ≡ []) × (left ≡ Some c)
    by_acts (inl at) = by_front at.front at.rest at.parts at.is_text at.torn
      where
        by_front : (front rest : List Act) → front ++ rest ≡ [] → text ≡ text_of front →
            Torn (next_steps rest) (effects (steps_of front) (Some c)) left → (text ≡ []) × (left ≡ Some c)
        by_front [] [] none is torn = (is, torn)
        by_front [] (x ∷ xs) none is torn = cc
        by_front (x ∷ xs) rest none is torn = cc
    by_acts (inr at) = by_front at.front at.act at.rest at.parts
      where
        by_front : (front : List Act) (act : Act) (rest : List Act) → front ++ act ∷ rest ≡ [] → (text ≡ []) × (left ≡ Some c)
        by_front [] act rest none = cc
        by_front (x ∷ xs) act rest none = cc

-- a front of the acts that prints something was done, and a stop came in the next one
pub record HasPrinted (c : Cartridge) (acts : List Act) (left : Option Cartridge) : Type 0 where
  pub front : List Act
  pub rest : List Act
  pub parts : front ++ rest ≡ acts
  pub some : text_of front ≢ []
  pub torn : Torn (next_steps rest) (Some (changed_by (steps_of front) c)) left

behind_printed : (c : Cartridge) (acts : List Act) (text : List ℕ) (left : Option Cartridge) → Behind c acts text left →
    HasPrinted c acts left
behind_printed c acts text left at = record {
  front = at.front ++ at.act ∷ [];
  rest = at.rest;
  parts = append_assoc at.front (at.act ∷ []) at.rest ∙ at.parts;
  some = λ none. at.lacks (none_left at.front at.act at.some at.more at.written none);
  torn = subst (λ (held : Option Cartridge). Torn (next_steps at.rest) held left)
      (at.is ∙ ap (λ (ss : List TapeStep). effects ss (Some c)) (sym (front_steps at.front at.act))
      ∙ effects-some (steps_of (at.front ++ at.act ∷ [])) c)
      (none_torn (next_steps at.rest) left);
}

left_printed : (c : Cartridge) (acts : List Act) (text : List ℕ) (left : Option Cartridge) → text ≢ [] → IsLeftBy c acts text left →
    HasPrinted c acts left
left_printed c acts text left some (inr at) = behind_printed c acts text left at
left_printed c acts text left some (inl at) = record {
  front = at.front;
  rest = at.rest;
  parts = at.parts;
  some = λ none. some (at.is_text ∙ none);
  torn = subst (λ (held : Option Cartridge). Torn (next_steps at.rest) held left) (effects-some (steps_of at.front) c) at.torn;
}

-- ---- what is told when a run is over

-- something is told of what a told cartridge became
pub still_told : (o : Option (Option Cartridge)) (P : Option Cartridge → Type 0) → is_some o ≡ true →
    ((left : Option Cartridge) → o ≡ Some left → P left) → IsSomeAnd o P
still_told None P some each = cc
still_told (Some left) P some each = each left refl

-- ---- how acts ended

module _ {T S K : Type 0} (t : tapes.Meaning T) (s : sources.Meaning S) (k : sinks.Meaning K) (old new : Outside T S K) (c : Cartridge)
    (told : t.told old.tape ≡ Some (Some c)) where
  -- how acts ended
  pub record WasLeft (acts : List Act) : Type 0 where
    pub text : List ℕ
    pub took : k.took old.sink text new.sink
    pub each : ToldNow t new.tape (IsLeftBy c acts text)

  done_steps : (steps : List TapeStep) → tapes.Done t old.tape new.tape steps → t.told new.tape ≡ Some (effects steps (Some c))
  done_steps steps did = after_steps t old.tape new.tape steps (Some c) did told

  left_done : (acts : List Act) (text : List ℕ) (steps : List TapeStep) → tapes.Done t old.tape new.tape steps →
      IsLeftBy c acts text (effects steps (Some c)) → ToldNow t new.tape (IsLeftBy c acts text)
  left_done acts text steps did is =
      subst (λ (o : Option (Option Cartridge)). IsSomeAnd o (IsLeftBy c acts text)) (sym (done_steps steps did)) is

  pub went_left : (acts : List Act) → Went t s k old new acts → WasLeft acts
  went_left acts went = record {
    text = text_of acts;
    took = went.wrote.took;
    each = left_done acts (text_of acts) (steps_of acts) went.did
        (inl (record { front = acts; rest = []; parts = append-nil acts; torn = refl; is_text = refl }));
  }

  -- the sink broke a text off
  pub record WasBroken (acts : List Act) : Type 0 where
    pub text : List ℕ
    pub took : k.took old.sink text new.sink
    pub each : ToldNow t new.tape (Behind c acts text)

  pub broke_left : (acts : List Act) → Cut t s k old new acts SinkFails → WasBroken acts
  broke_left acts cut =
      let at = cut.at in
      let broke = cut.broke in
      let text : List ℕ = text_of at.front ++ broke.part in record {
        text = text;
        took = broke.took;
        each =
            (subst (λ (o : Option (Option Cartridge)). IsSomeAnd o (Behind c acts text))
            (sym (done_steps (steps_of at.front ++ at.act.steps) cut.did)) (record {
              front = at.front;
              act = at.act;
              rest = at.rest;
              parts = at.parts;
              is = refl;
              some = broke.part;
              more = broke.rest;
              written = broke.parts;
              lacks = broke.some;
              is_text = refl;
            }));
      }

  pub cut_left : (acts : List Act) (failing : Failing) → Cut t s k old new acts failing → WasLeft acts
  cut_left acts TapeFails cut = record {
    text = text_of cut.front;
    took = cut.wrote.took;
    each =
        (still_told (t.told new.tape) (IsLeftBy c acts (text_of cut.front)) (cut.broke.tells ∙ ap is_some told)
        (λ left is. inl (record {
          front = cut.front;
          rest = cut.rest;
          parts = cut.parts;
          torn = cut.here (Some c) left told is;
          is_text = refl;
        })));
  }
  cut_left acts SourceFails cut = record {
    text = text_of cut.front;
    took = cut.wrote.took;
    each = left_done acts (text_of cut.front) (steps_of cut.front) cut.did (inl (record {
      front = cut.front;
      rest = cut.rest;
      parts = cut.parts;
      torn = none_torn (next_steps cut.rest) (effects (steps_of cut.front) (Some c));
      is_text = refl;
    }));
  }
  cut_left acts SinkFails cut =
      let was : WasBroken acts = broke_left acts cut in
      record { text = was.text; took = was.took; each = now_weaker t old.tape new.tape (λ left behind. inr behind) was.each }

-- over what is told of a command: some input and its outcome, and how the acts of this ended
pub record Ran {T S K : Type 0} (t : tapes.Meaning T) (s : sources.Meaning S) (k : sinks.Meaning K) (command : Words)
    (old new : Outside T S K) (answer : Status) (c : Cartridge) (told : t.told old.tape ≡ Some (Some c)) : Type 0 where
  pub input : List ℕ
  pub is_told : IsInput (s.left old.source) input
  pub bytes : IsOfBytes command (s.left old.source) input
  pub outcome : CommandOutcome
  pub plain : Yields command (Some c) input outcome
  pub was : WasLeft t s k old new c told outcome.acts
  pub sound : is_fault answer ≡ false → (outcome.status ≡ answer) × tapes.Done t old.tape new.tape (steps_of outcome.acts)
  pub heard : IsHeard answer → (outcome.status ≡ answer) × tapes.Done t old.tape new.tape (steps_of outcome.acts)
  pub broke : answer ≡ status.SinkFault → WasBroken t s k old new c told outcome.acts

pub never_sink : (answer : Status) (command : Words) → may_come_from answer command ≡ true → answer ≢ status.SinkFault
never_sink answer command sound is = let no : may_come_from status.SinkFault command ≡ true =
    subst (λ (a : Status). may_come_from a command ≡ true) is sound in absurd (cc)

-- no fault of the outside comes where the input was carried out
pub heard_fault : (failing : Failing) (answer : Status) → answer ≡ fault_of failing → IsHeard answer → ⊥
heard_fault failing answer is (inl done) = let fault : is_fault answer ≡ true = ap is_fault is ∙ is_a_fault failing in
    let no : is_fault answer ≡ false = ap is_fault done in cc
heard_fault failing answer is (inr (line, place, named)) =
    let fault : is_fault answer ≡ true = ap is_fault is ∙ is_a_fault failing in let no : is_fault answer ≡ false = ap is_fault named in cc

sink_alone : (failing : Failing) (answer : Status) → answer ≡ fault_of failing → answer ≡ status.SinkFault → failing ≡ SinkFails
sink_alone TapeFails answer is sink = let other : fault_of TapeFails ≡ status.SinkFault = sym is ∙ sink in absurd (cc)
sink_alone SourceFails answer is sink = let other : fault_of SourceFails ≡ status.SinkFault = sym is ∙ sink in absurd (cc)
sink_alone SinkFails answer is sink = refl

pub ends_ran : {T S K : Type 0} (t : tapes.Meaning T) (s : sources.Meaning S) (k : sinks.Meaning K) (command : Words)
    (old new : Outside T S K) (answer : Status) → Laws t s k old new → HasValues command →
    CommandEnds t s k command old new answer → (c : Cartridge) (told : t.told old.tape ≡ Some (Some c)) →
    Ran t s k command old new answer c told
ends_ran t s k command old new answer laws values (inl finished) c told =
    let over = over_at (t.told old.tape) _ (Some c) finished.told told in record {
      input = over.0;
      is_told = over.1;
      bytes = over.2.0;
      outcome = finished.outcome;
      plain = over.2.1;
      was = went_left t s k old new c told finished.outcome.acts finished.went;
      sound = λ none. (sym finished.answered, finished.went.did);
      heard = λ which. (sym finished.answered, finished.went.did);
      broke = λ is. absurd (never_sink answer command finished.sound is);
    }
ends_ran t s k command old new answer laws values (inr (failing, is, stopped)) c told =
    let over = over_at (t.told old.tape) _ (Some c) stopped.told told in
    let some = plain_answers command (Some c) over.0 values (told_whole (Some c) (t.told old.tape) (t.size old.tape) laws.right told) in
    let off = over.2.1 some.0 some.1 in record {
      input = over.0;
      is_told = over.1;
      bytes = over.2.0;
      outcome = some.0;
      plain = some.1;
      was = cut_left t s k old new c told some.0.acts failing off.cut;
      sound = λ none. absurd (let fault : is_fault answer ≡ true = ap is_fault is ∙ is_a_fault failing in cc);
      heard = λ which. absurd (heard_fault failing answer is which);
      broke = λ sink. broke_left t s k old new c told some.0.acts
          (subst (Cut t s k old new some.0.acts) (sink_alone failing answer is sink) off.cut);
    }

-- ---- a generated run

module _ (seed count : ℕ) (few : count ≤ 200) (c : Cartridge) (plain : Plain) (whole : IsCartridge c) (stood : Stands c plain) where
  -- its steps were carried out on a settled cartridge that may be written
  pub record MakeRan (outcome : CommandOutcome) : Type 0 where
    pub free : c.info.protected ≡ false
    pub mounts : Mounts c (mounted_as plain)
    pub held : IsOpen (settled plain.table_area c) plain
    pub acts : List Act
    pub answer : Status
    pub makes : Makes seed count (settled plain.table_area c) plain.words (entries_of plain) acts answer
    pub is : outcome ≡ record { acts = quiet (settling_steps plain.table_area c) ∷ acts; taken = 0; status = answer }

  never_protected : IsHeard status.Protected → ⊥
  never_protected (inl done) = cc
  never_protected (inr (line, place, is)) = cc

  pub make_course : (outcome : CommandOutcome) → MakeOutcome seed count (Some c) outcome → WasTurned outcome ⊎ MakeRan outcome
  make_course outcome (inl (locked, is)) =
      inl (record { why = status.Protected; is = is; unheard = never_protected; none_made = λ seed count words es. tt })
  make_course outcome (inr (free, opened)) =
      elim (mounted_or_turned (Making seed count) c plain outcome stood opened) [
        | inl turned ↦ inl turned
        | inr was ↦
            let did = was.did in inr (record {
              free = free;
              mounts = was.mounts;
              held = mounted_open c plain whole stood was.mounts free;
              acts = did.acts;
              answer = did.answer;
              makes = did.makes;
              is = did.is;
            })
      ]

  -- .. and where each sector of the table's segment takes a write, it still did
  kept_now : (outcome : CommandOutcome) → IsTableLive c → MakeRan outcome → IsKept (settled plain.table_area c) plain
  kept_now outcome live run =
      live_kept (settled plain.table_area c) plain run.held (settled_live c plain.table_area run.mounts.reads live)

  abbrev HasMade : (n : ℕ) → Option Cartridge → Type 0
  HasMade n left = IsSomeAnd left (λ d. Stands d (with_made plain seed n))

  -- a stop leaves some of the volumes
  pub make_stopped : (outcome : CommandOutcome) (left : Option Cartridge) → IsTableLive c → MakeOutcome seed count (Some c) outcome →
      Torn (steps_of outcome.acts) (Some c) left →
      (n : ℕ) × (n ≤ count) × HasMade n left
  make_stopped outcome left live does torn =
      elim (make_course outcome does) [
        | inl turned ↦ (
          0,
          omega arith,
          some_and (λ d. Stands d plain) c left stood
              (subst (λ (o : CommandOutcome). Torn (steps_of o.acts) (Some c) left) turned.is torn),
        )
        | inr run ↦ elim (stopped_first c plain whole stood run.mounts run.acts left
            (subst (λ (o : CommandOutcome). Torn (steps_of o.acts) (Some c) left) run.is torn)) [
              | inl stands ↦ (0, omega arith, stands)
              | inr behind ↦
                  let some = stopped_make_stands seed count (settled plain.table_area c) plain run.acts run.answer left few
                  (kept_now outcome live run) run.makes behind in
                  (some.appended, some.within, some.stands)
            ]
      ]

  -- its steps printed something, or the sink failed
  pub make_has_printed : (outcome : CommandOutcome) (text : List ℕ) (left : Option Cartridge) → MakeOutcome seed count (Some c) outcome →
      ((text ≢ []) × IsLeftBy c outcome.acts text left) ⊎ Behind c outcome.acts text left → (run : MakeRan outcome)
      × HasPrinted (settled plain.table_area c) run.acts left
  make_has_printed outcome text left does which =
      elim (make_course outcome does) [
        | inl turned ↦ elim which [
          | inl (some, so) ↦ absurd (some (turned_left c outcome text left turned so).0)
          | inr so ↦ none_behind (subst (λ (o : CommandOutcome). Behind c o.acts text left) turned.is so)
        ]
        | inr run ↦
            let acts_are : outcome.acts ≡ quiet (settling_steps plain.table_area c) ∷ run.acts =
            ap (λ (o : CommandOutcome). o.acts) run.is in (
              run,
              elim which [
                | inl (some, so) ↦
                    elim (left_then c plain whole stood run.mounts run.acts text left
                    (subst (λ (acts : List Act). IsLeftBy c acts text left) acts_are so)) [
                      | inl (none, torn) ↦ absurd (some none)
                      | inr at ↦ left_printed (settled plain.table_area c) run.acts text left some at
                    ]
                | inr so ↦
                    behind_printed (settled plain.table_area c) run.acts text left
                    (behind_then c plain whole stood run.mounts run.acts text left
                    (subst (λ (acts : List Act). Behind c acts text left) acts_are so))
              ],
            )
      ]
    where
      none_behind : {P : Type 0} → Behind c [] text left → P
      none_behind at = by_front at.front at.act at.rest at.parts
        where
          by_front : {P : Type 0} (front : List Act) (act : Act) (rest : List Act) → front ++ act ∷ rest ≡ [] → P
          by_front [] act rest none = cc
          by_front (x ∷ xs) act rest none = cc

  -- once it did, or the sink failed, all of them are there
  pub make_printed : (outcome : CommandOutcome) (text : List ℕ) (left : Option Cartridge) → IsTableLive c →
      MakeOutcome seed count (Some c) outcome →
      ((text ≢ []) × IsLeftBy c outcome.acts text left) ⊎ Behind c outcome.acts text left → HasMade count left
  make_printed outcome text left live does which =
      let (run, at) = make_has_printed outcome text left does which in
      made_are_answered seed count (settled plain.table_area c) plain run.acts at.front at.rest run.answer left few
      (kept_now outcome live run) run.makes at.parts at.some at.torn

  -- and where all acts went, as many as were appended by the answer, also where sectors of the table's segment take no write
  pub make_answered : (outcome : CommandOutcome) → MakeOutcome seed count (Some c) outcome →
      (n : ℕ) × AppendedBy seed count plain.words (entries_of plain) outcome.status n × HasMade n (effects (steps_of outcome.acts) (Some c))
  make_answered outcome does =
      elim (make_course outcome does) [
        | inl turned ↦ (
          0,
          appended_by seed count plain.words (entries_of plain) outcome.status 0 (omega arith)
              (subst (λ (why : Status). AppendedFrom seed 1 count plain.words (entries_of plain) why 0)
              (sym (ap (λ (o : CommandOutcome). o.status) turned.is))
              (turned.none_made seed count plain.words (entries_of plain))),
          some_and (λ d. Stands d plain) c (effects (steps_of outcome.acts) (Some c)) stood
              (ap (λ (o : CommandOutcome). effects (steps_of o.acts) (Some c)) turned.is),
        )
        | inr run ↦
            let made = answered_make_stands seed count (settled plain.table_area c) plain run.acts run.answer few run.held run.makes in (
              made.0,
              appended_by seed count plain.words (entries_of plain) outcome.status made.0 made.1
                  (subst (λ (why : Status). AppendedFrom seed 1 count plain.words (entries_of plain) why made.0)
                  (sym (ap (λ (o : CommandOutcome). o.status) run.is)) made.2),
              some_and (λ d. Stands d (with_made plain seed made.0)) (changed_by (steps_of run.acts) (settled plain.table_area c))
                  (effects (steps_of outcome.acts) (Some c))
                  made.3 (ap (λ (o : CommandOutcome). effects (steps_of o.acts) (Some c)) run.is
                  ∙ behind_front c plain whole stood run.mounts run.acts),
            )
      ]

  -- .. which are all once it was carried out
  pub make_done : (outcome : CommandOutcome) → MakeOutcome seed count (Some c) outcome → outcome.status ≡ status.Done →
      HasMade count (effects (steps_of outcome.acts) (Some c))
  make_done outcome does is_done =
      let made = make_answered outcome does in
      subst (λ (n : ℕ). HasMade n (effects (steps_of outcome.acts) (Some c)))
      (subst (λ (why : Status). AppendedBy seed count plain.words (entries_of plain) why made.0) is_done made.1) made.2

-- what is left by words of a generated run
pub some_made : (told : Option (List ℕ)) (words : List (List ℕ)) (held left : Option Cartridge) →
    ((command : Words) → Spells words command → HasValues command) → IfSome held IsCartridge →
    WordsLeave told words held left → SomeMade words held left
some_made told words held left values whole (inl same) seed count c plain is run live =
    (0, omega arith, some_and (λ d. Stands d plain) c left run.stands (same ∙ is))
some_made told words held left values whole (inr (command, spelled, leaves)) seed count c plain is run live =
    let other : Words = commands.Make seed count in
    let same : command ≡ other = one_command words command other spelled run.spelled in
    let l : StopLeaves told other (Some c) left =
    subst (λ (w : Words). StopLeaves told w (Some c) left) same (subst (λ (h : Option Cartridge). StopLeaves told command h left) is leaves)
    in
    make_stopped seed count (values other run.spelled) c plain (whole_of held c whole is) run.stands l.outcome left live l.plain l.torn

pub makes_stop : {T : Type 0} (t : tapes.Meaning T) (told : Option (List ℕ)) (words : List (List ℕ)) (a b : T) →
    tape_calls.IsToldRight (t.told a) (t.size a) →
    ((other : Words) → Spells words other → HasValues other) → EachLeft t a b (WordsLeave told words) → EachLeft t a b (SomeMade words)
makes_stop t told words a b right values leaves = each_weaker t a b right
    (λ held left whole is. some_made told words held left values whole is) leaves

pub makes_volumes : {T S K : Type 0} (t : tapes.Meaning T) (s : sources.Meaning S) (k : sinks.Meaning K) (words : List (List ℕ))
    (command : Words) (old new : Outside T S K) (answer : Status) →
    Laws t s k old new → Spells words command → ((other : Words) → Spells words other → HasValues other) →
    CommandEnds t s k command old new answer →
    (seed count : ℕ) (c : Cartridge) (plain : Plain) → t.told old.tape ≡ Some (Some c) → Generated words seed count c plain →
    AllMade t k new.tape old.sink new.sink answer seed count c plain
makes_volumes t s k words command old new answer laws spelled values ends seed count c plain told run =
    let other : Words = commands.Make seed count in
    let same : command ≡ other = one_command words command other spelled run.spelled in
    let few : count ≤ 200 = values other run.spelled in
    let whole : IsCartridge c = told_whole (Some c) (t.told old.tape) (t.size old.tape) laws.right told in
    let ran = ends_ran t s k other old new answer laws few (subst (λ (w : Words). CommandEnds t s k w old new answer) same ends) c told in
    let was = ran.was in record {
      text = was.text;
      took = was.took;
      answered = λ sound.
          let all = ran.sound sound in
          let made = make_answered seed count few c plain whole run.stands ran.outcome ran.plain in (
            made.0,
            subst (λ (why : Status). AppendedBy seed count plain.words (entries_of plain) why made.0) all.0 made.1,
            now_weaker t old.tape new.tape
                (λ left is. subst (λ (o : Option Cartridge). IsSomeAnd o (λ d. Stands d (with_made plain seed made.0))) (sym is) made.2)
                (done_now t old.tape new.tape (steps_of ran.outcome.acts) (Some c) all.1 told),
          );
      all = λ live which. elim which [
        | inl some ↦ now_weaker t old.tape new.tape
            (λ left is. make_printed seed count few c plain whole run.stands ran.outcome was.text left live ran.plain (inl (some, is)))
            was.each
        | inr sink ↦
            let broken = ran.broke sink in
            now_weaker t old.tape new.tape
            (λ left is. make_printed seed count few c plain whole run.stands ran.outcome broken.text left live ran.plain (inr is))
            broken.each
      ];
    }

-- ---- a run that touched nothing

pub untouched_now : {T : Type 0} (t : tapes.Meaning T) (a : T) (c : Cartridge) (P : Option Cartridge → Type 0) → t.told a ≡ Some (Some c) →
    P (Some c) → ToldNow t a P
untouched_now t a c P told holds = subst (λ (o : Option (Option Cartridge)). IsSomeAnd o P) (sym told) holds

pub none_made : {T K : Type 0} (t : tapes.Meaning T) (k : sinks.Meaning K) (words : List (List ℕ)) (a : T) (x : K) (answer : Status) →
    k.took x [] x → (IsCarriedOut answer → ⊥) →
    ((seed count : ℕ) (words : List ℕ) (es : List Entry) → AppendedFrom seed 1 count words es answer 0) →
    (seed count : ℕ) (c : Cartridge) (plain : Plain) → t.told a ≡ Some (Some c) → Generated words seed count c plain →
    AllMade t k a x x answer seed count c plain
none_made t k words a x answer nothing never unmade seed count c plain is run = record {
  text = [];
  took = nothing;
  answered = λ sound. (
    0,
    appended_by seed count plain.words (entries_of plain) answer 0 (omega arith) (unmade seed count plain.words (entries_of plain)),
    untouched_now t a c (λ left. IsSomeAnd left (λ d. Stands d plain)) is run.stands,
  );
  all = λ live which. elim which [ inl some ↦ absurd (some refl) | inr sink ↦ absurd (never (inr sink)) ];
}
