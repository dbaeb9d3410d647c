-- What the other commands, answered or stopped, make of the volumes.
use Rattle.std.proofs.Common.{◌++◌, append-nil, ◌≡◌, ◌≢◌, ◌⊎◌, ◌≤◌, ◌<◌, ℕ, All, arith, inl, inr, List, [], ◌∷◌, ap, ◌∙◌, sym, subst, refl}
use Rattle.std.proofs.Common.{Bool, Option, Some, None, IsSomeAnd, IfSome, false, length, take}
use Rattle.std.proofs.lemmas.List.{take_all}
use Rattle.std.specs.Prelude.{codes}
use Rattle.cartridge_laws.proofs.ChangeLive.{steps_keep_live}
use Rattle.cartridge_laws.proofs.FormatWriting.{some_and}
use Rattle.cartridge_laws.specs.AppendLaws.{with_content, IsAppendable}
use Rattle.cartridge_laws.specs.ChangeSteps.{HasNoRenew, IsNoRenew}
use Rattle.cartridge_spec.specs.Appending.{Content, with_all}
use Rattle.cartridge_spec.specs.Formatting.{HasCleanCopies, HasNoHeader}
use Rattle.cartridge_spec.specs.TableSegment.{IsTableLive}
use Rattle.cartridge_spec.specs.Mounting.{settled}
use Rattle.cartridge_spec.specs.Settling.{changed_by}
use Rattle.cartridge_spec.specs.Volumes.{Plain, Stands, entries_of}
use Rattle.command_laws.proofs.CommandAppends.{append_done, append_refused, append_stopped}
use Rattle.command_laws.proofs.CommandSeveral.{WasTurned, behind_front, make_done, make_printed, make_stopped, mounted_or_turned}
use Rattle.command_laws.proofs.CommandScripted.{script_answered, script_stopped}
use Rattle.command_laws.proofs.CommandTable.{copies_stay_bare, copies_stay_clean, laws_of, only_new_renews}
use Rattle.command_laws.proofs.LifeFormats.{Makes, torn_by}
use Rattle.command_laws.proofs.MountedHeld.{mounted_held}
use Rattle.command_laws.proofs.ScriptAnswered.{done_script_stands}
use Rattle.command_laws.proofs.ScriptSpeaking.{as_many}
use Rattle.command_laws.specs.ActStops.{IsLeftBy}
use Rattle.command_laws.specs.Life.{Ended, Answered, Stopped, AnsweredAmong, CommandSpares, HasPrinted, IsSoundWith, IsSound, IsWithout}
use Rattle.command_laws.specs.Life.{Leaves, WasDone, WasHeard}
use Rattle.command_laws.specs.MountedHeld.{IsHeld}
use Rattle.command_spec.specs.Commands.{command_of}
use Rattle.command_spec.specs.Input.{Item}
use Rattle.command_spec.specs.Several.{IsHeard}
use Rattle.command_spec.specs.Machine.{HasValues}
use Rattle.command_laws.specs.Outcomes.{ScriptOutcome}
use Rattle.command_spec.specs.Make.{made_contents, with_made}
use Rattle.command_spec.specs.Outcome.{CommandOutcome, output_of}
use Rattle.command_spec.specs.Script.{Did, ScriptDoes, Scripting}
use Rattle.command_spec.specs.ScriptLists.{all_added, with_items, plain_behind}
use Rattle.command_laws.specs.CommandFields.{KeepsCopies, KeepsLive, KeepsVolumes, Yields}
use Rattle.command_spec.specs.declared.status.Status.{Status}
use Rattle.command_spec.specs.declared.words.Words.{Words}
use Rattle.qic_base.specs.Acts.{Act, steps_of, text_of}
use Rattle.qic_base.specs.Cartridge.{Cartridge}
use Rattle.qic_base.specs.CartridgeTerms.{IsCartridge}
use Rattle.qic_base.specs.Step.{Step, Renew, effect, effects, Halfway, Torn}
use Rattle.command_laws.proofs.MadeMachineLaws.{done_or_not}
use Rattle.command_laws.proofs.CommandComplete.{GoesOn}
use Rattle.cartridge_laws.specs.HeaderTerms.{NeitherReads}
use Rattle.command_spec.specs.Several as several
use Rattle.command_spec.specs.declared.status.Status.TheVariants as status
use Rattle.command_spec.specs.declared.words.Words.TheVariants as words

-- ---- header data

-- appended volumes leave the header data
pub all_header : (plain : Plain) (contents : List Content) → (with_all plain contents).header_area ≡ plain.header_area
all_header plain [] = refl
all_header plain (content ∷ more) = all_header (with_content plain content) more

-- ---- commands but `new`

pub others_keep_live : (command : Words) → ((segments : ℕ) → command ≢ words.New segments) → KeepsLive command
others_keep_live (words.New segments) other = other segments refl
others_keep_live command other = tt

-- ---- what is sound

-- what is left stands for these volumes, with the same header data
ready_now : (begun : Bool) (left : Option Cartridge) (plain after : Plain) → after.header_area ≡ plain.header_area →
    IfSome left IsCartridge → IsSomeAnd left (λ d. Stands d after) →
    IsSomeAnd left IsTableLive → (begun ≡ false → IsSomeAnd left (λ d. HasCleanCopies d plain.header_area)) →
    IsSound begun left (Some after)
ready_now begun None plain after same whole stands live clean = absurd stands
ready_now begun (Some d) plain after same whole stands live clean = record {
  whole = whole;
  stands = stands;
  live = live;
  clean = λ is. subst (λ (area : List (List ℕ)). HasCleanCopies d area) (sym same) (clean is);
}

-- a command other than `new` over a cartridge with a list
module _ (command : Words) (c : Cartridge) (input : List ℕ) (begun : Bool) (plain : Plain) (left : Option Cartridge)
    (outcome : CommandOutcome) where
  ready_after : (after : Plain) → after.header_area ≡ plain.header_area → ((segments : ℕ) → command ≢ words.New segments) →
      KeepsCopies command c → IsSoundWith begun c plain →
      Yields command (Some c) input outcome → Torn (steps_of outcome.acts) (Some c) left → IfSome left IsCartridge →
      IsSomeAnd left (λ d. Stands d after) →
      IsSound begun left (Some after)
  ready_after after same other keeps ready yields torn whole stands =
      ready_now begun left plain after same whole stands
      (steps_keep_live (steps_of outcome.acts) c left
      (only_new_renews command (Some c) input outcome (others_keep_live command other) yields) ready.live torn)
      (λ is. copies_stay_clean command c input outcome plain.header_area left keeps yields ready.stands.whole.header_area
      (ready.clean is) torn)

  -- one that keeps the volumes
  pub keeping : ((segments : ℕ) → command ≢ words.New segments) → KeepsVolumes command c plain → KeepsCopies command c →
      IsSoundWith begun c plain →
      Yields command (Some c) input outcome → Torn (steps_of outcome.acts) (Some c) left → IfSome left IsCartridge →
      IsSound begun left (Some plain)
  keeping other keeps copies ready yields torn whole =
      ready_after plain refl other copies ready yields torn whole
      ((laws_of command).stands c plain keeps ready.stands input outcome left yields torn)

-- .. and over one without a header
without_now : (begun : Bool) (left : Option Cartridge) → IfSome left IsCartridge → IsSomeAnd left NeitherReads →
    (begun ≡ false → IsSomeAnd left HasNoHeader) → IsSound begun left None
without_now begun None whole none bare = tt
without_now begun (Some d) whole none bare = record { whole = whole; first = none.0; second = none.1; bare = bare }

-- a sector that a command loses spares them
spares_unread : (command : Words) (ended : Ended) (c : Cartridge) (input : List ℕ) (left : Option Cartridge) →
    CommandSpares command ended input left c → NeitherReads c →
    (command_of command).keeps_unread c
spares_unread (words.Lose segment sector) ended c input left spares none = λ place. (spares place).copies none.0 none.1
spares_unread command ended c input left spares none = tt

pub without_stays : (command : Words) (ended : Ended) (c : Cartridge) (input : List ℕ) (begun : Bool) (left : Option Cartridge)
    (outcome : CommandOutcome) →
    KeepsCopies command c → CommandSpares command ended input left c → IsWithout begun c → Yields command (Some c) input outcome →
    Torn (steps_of outcome.acts) (Some c) left → IfSome left IsCartridge → IsSound begun left None
without_stays command ended c input begun left outcome keeps spares without yields torn whole =
    let none : NeitherReads c = (without.first, without.second) in
    without_now begun left whole
    ((laws_of command).unread c keeps (spares_unread command ended c input left spares none) none input outcome left yields torn)
    (λ is. copies_stay_bare command c input outcome left keeps yields (without.bare is) torn)

-- where no cartridge is held none is left, but by `new`
effect_of_none : (s : Step) → IsNoRenew s → effect s None ≡ None
effect_of_none (Renew n) none = absurd none
effect_of_none s none = refl

half_of_none : (s : Step) (left : Option Cartridge) → IsNoRenew s → Halfway s None left → left ≡ None
half_of_none (Renew n) left none half = absurd none
half_of_none s left none half = absurd half

pub none_of_none : (steps : List Step) (left : Option Cartridge) → HasNoRenew steps → Torn steps None left → left ≡ None
none_of_none [] left none torn = torn
none_of_none (s ∷ ss) left none (inl same) = same
none_of_none (s ∷ ss) left none (inr (inl half)) = half_of_none s left none.0 half
none_of_none (s ∷ ss) left none (inr (inr torn)) = none_of_none ss left none.1
    (subst (λ (o : Option Cartridge). Torn ss o left) (effect_of_none s none.0) torn)

-- ---- append

module _ (content : Content) (c : Cartridge) (begun : Bool) (plain : Plain) (left : Option Cartridge) (outcome : CommandOutcome)
    (may : IsAppendable content) (ready : IsSoundWith begun c plain)
    (yields : Yields (words.Append content.name content.date) (Some c) content.bytes outcome) (whole : IfSome left IsCartridge) where
  -- the plain cartridge with the volume
  abbrev more : Plain
  more = with_content plain content

  abbrev AppendMakes : Ended → Type 0
  AppendMakes ended = Makes (words.Append content.name content.date) content.bytes ended begun (Some c) left (Some plain)

  append_sound : (after : Plain) → after.header_area ≡ plain.header_area → Torn (steps_of outcome.acts) (Some c) left →
      IsSomeAnd left (λ d. Stands d after) → IsSound begun left (Some after)
  append_sound after same torn stands =
      ready_after (words.Append content.name content.date) c content.bytes begun plain left outcome after same (λ segments is. cc) tt ready
      yields torn whole stands

  either_list : (l : Option Cartridge) → IsSomeAnd l (λ d. Stands d plain ⊎ Stands d more) →
      IsSomeAnd l (λ d. Stands d plain) ⊎ IsSomeAnd l (λ d. Stands d more)
  either_list None is = absurd is
  either_list (Some d) (inl old) = inl old
  either_list (Some d) (inr new) = inr new

  pub append_makes : (ended : Ended) → Leaves ended outcome (Some c) left → AppendMakes ended
  append_makes (Answered answer printed) (is, said, all) =
      let torn : Torn (steps_of outcome.acts) (Some c) left = torn_by (Answered answer printed) outcome (Some c) left (is, said, all) in
      elim (done_or_not answer) [
        | inl done ↦ (
          Some more,
          inl (done, refl),
          append_sound more refl torn
              (subst (λ (o : Option Cartridge). IsSomeAnd o (λ d. Stands d more)) (sym all)
              (append_done content c plain outcome may ready.whole ready.stands yields (is ∙ done))),
        )
        | inr other ↦ (
          Some plain,
          inr (other, refl),
          append_sound plain refl torn
              (subst (λ (o : Option Cartridge). IsSomeAnd o (λ d. Stands d plain)) (sym all)
              (append_refused content c plain outcome ready.whole ready.stands yields (λ done. other (sym is ∙ done)))),
        )
      ]
  append_makes (Stopped printed) leaves =
      let torn : Torn (steps_of outcome.acts) (Some c) left = torn_by (Stopped printed) outcome (Some c) left leaves in
      elim (either_list left (append_stopped content c plain outcome left may ready.whole ready.stands ready.live yields torn)) [
        | inl old ↦ (Some plain, inl refl, append_sound plain refl torn old)
        | inr new ↦ (Some more, inr refl, append_sound more refl torn new)
      ]

-- all acts went
pub all_went : (c : Cartridge) (acts : List Act) (left : Option Cartridge) → left ≡ effects (steps_of acts) (Some c) →
    IsLeftBy c acts (text_of acts) left
all_went c acts left is = inl (record { front = acts; rest = []; parts = append-nil acts; torn = is; is_text = refl })

-- ---- a generated run

module _ (seed count : ℕ) (c : Cartridge) (input : List ℕ) (begun : Bool) (plain : Plain) (left : Option Cartridge)
    (outcome : CommandOutcome) (few : HasValues (words.Make seed count)) (ready : IsSoundWith begun c plain)
    (yields : Yields (words.Make seed count) (Some c) input outcome) (whole : IfSome left IsCartridge) where
  abbrev RunMakes : Ended → Type 0
  RunMakes ended = Makes (words.Make seed count) input ended begun (Some c) left (Some plain)

  abbrev StandsMade : ℕ → Option Cartridge → Type 0
  StandsMade n l = IsSomeAnd l (λ d. Stands d (with_made plain seed n))

  made_sound : (n : ℕ) → Torn (steps_of outcome.acts) (Some c) left → StandsMade n left → IsSound begun left (Some (with_made plain seed n))
  made_sound n torn stands =
      ready_after (words.Make seed count) c input begun plain left outcome (with_made plain seed n)
      (all_header plain (made_contents seed 1 n)) (λ segments is. cc) tt ready yields torn whole stands

  all_made : (ended : Ended) → Torn (steps_of outcome.acts) (Some c) left → StandsMade count left → RunMakes ended
  all_made ended torn stands = (
    Some (with_made plain seed count),
    record { made = count; within = omega arith; all = λ which. refl; is = refl },
    made_sound count torn stands,
  )

  some_made : (ended : Ended) → (WasDone ended ⊎ HasPrinted ended → ⊥) → Torn (steps_of outcome.acts) (Some c) left → RunMakes ended
  some_made ended never torn =
      let stopped = make_stopped seed count few c plain ready.whole ready.stands outcome left ready.live yields torn in (
        Some (with_made plain seed stopped.0),
        record { made = stopped.0; within = stopped.1; all = λ which. absurd (never which); is = refl },
        made_sound stopped.0 torn stopped.2,
      )

  said_made : (text : List ℕ) → text ≢ [] → IsLeftBy c outcome.acts text left → StandsMade count left
  said_made text some so = make_printed seed count few c plain ready.whole ready.stands outcome text left ready.live yields (inl (some, so))

  refused_makes : (answer : Status) (printed : List ℕ) → answer ≢ status.Done → Leaves (Answered answer printed) outcome (Some c) left →
      RunMakes (Answered answer printed)
  refused_makes answer [] other leaves =
      some_made (Answered answer []) (λ which. elim which [ inl done ↦ other done | inr some ↦ some refl ])
      (torn_by (Answered answer []) outcome (Some c) left leaves)
  refused_makes answer (x ∷ xs) other (is, said, all) =
      all_made (Answered answer (x ∷ xs)) (torn_by (Answered answer (x ∷ xs)) outcome (Some c) left (is, said, all))
      (said_made (text_of outcome.acts) (λ none. let no : x ∷ xs ≡ [] = sym said ∙ none in absurd (cc)) (all_went c outcome.acts left all))

  pub make_makes : (ended : Ended) → Leaves ended outcome (Some c) left → RunMakes ended
  make_makes (Answered answer printed) (is, said, all) =
      elim (done_or_not answer) [
        | inl done ↦
            all_made (Answered answer printed) (torn_by (Answered answer printed) outcome (Some c) left (is, said, all))
            (subst (λ (o : Option Cartridge). StandsMade count o) (sym all)
            (make_done seed count few c plain ready.whole ready.stands outcome yields (is ∙ done)))
        | inr other ↦ refused_makes answer printed other (is, said, all)
      ]
  make_makes (Stopped None) torn = some_made (Stopped None) (λ which. elim which [ inl done ↦ done | inr some ↦ some ]) torn
  make_makes (Stopped (Some [])) so =
      some_made (Stopped (Some [])) (λ which. elim which [ inl done ↦ absurd done | inr some ↦ some refl ])
      (torn_by (Stopped (Some [])) outcome (Some c) left so)
  make_makes (Stopped (Some (x ∷ xs))) so =
      all_made (Stopped (Some (x ∷ xs))) (torn_by (Stopped (Some (x ∷ xs))) outcome (Some c) left so) (said_made (x ∷ xs) (λ none. cc) so)

-- ---- a script

-- of no acts nothing is printed
none_said : (c : Cartridge) (acts : List Act) (text : List ℕ) (left : Option Cartridge) → acts ≡ [] → IsLeftBy c acts text left → text ≡ []
none_said c acts text left none (inl at) = by_front at.front at.rest (at.parts ∙ none) at.is_text
  where
    by_front : (front rest : List Act) → front ++ rest ≡ [] → text ≡ text_of front → text ≡ []
    by_front [] rest parts is = is
    by_front (x ∷ xs) rest parts is = absurd (cc)
none_said c acts text left none (inr at) = by_front at.front (at.parts ∙ none)
  where
    by_front : (front : List Act) → front ++ at.act ∷ at.rest ≡ [] → text ≡ []
    by_front [] parts = absurd (cc)
    by_front (x ∷ xs) parts = absurd (cc)

module _ (c : Cartridge) (input : List ℕ) (begun : Bool) (plain : Plain) (left : Option Cartridge) (outcome : CommandOutcome)
    (bytes : All (λ b. b < 256) input) (ready : IsSoundWith begun c plain) (yields : ScriptOutcome (Some c) input outcome)
    (whole : IfSome left IsCartridge) where
  abbrev ScriptMakes : Ended → Type 0
  ScriptMakes ended = Makes words.Script input ended begun (Some c) left (Some plain)

  script_sound : (after : Plain) → after.header_area ≡ plain.header_area → Torn (steps_of outcome.acts) (Some c) left →
      IsSomeAnd left (λ d. Stands d after) → IsSound begun left (Some after)
  script_sound after same torn stands = ready_after words.Script c input begun plain left outcome after same
      (λ segments is. cc) tt ready yields torn whole stands

  -- the cartridge was refused
  pub never_heard : (ended : Ended) → WasTurned outcome → Leaves ended outcome (Some c) left → ¬ (WasHeard ended)
  never_heard (Answered answer printed) turned (is, said, all) heard =
      turned.unheard (subst IsHeard (sym is ∙ ap (λ (o : CommandOutcome). o.status) turned.is) heard)
  never_heard (Stopped printed) turned leaves heard = heard

  pub never_said : (ended : Ended) → WasTurned outcome → Leaves ended outcome (Some c) left → ¬ (HasPrinted ended)
  never_said (Answered answer printed) turned (is, said, all) some = some (sym said ∙ ap output_of turned.is)
  never_said (Stopped None) turned leaves some = some
  never_said (Stopped (Some text)) turned leaves some =
      some (none_said c outcome.acts text left (ap (λ (o : CommandOutcome). o.acts) turned.is) leaves)

  turned_makes : (ended : Ended) → WasTurned outcome → Leaves ended outcome (Some c) left → ScriptMakes ended
  turned_makes ended turned leaves =
      let torn : Torn (steps_of outcome.acts) (Some c) left = torn_by ended outcome (Some c) left leaves in (
        Some plain,
        inr (never_heard ended turned leaves, never_said ended turned leaves, refl),
        script_sound plain refl torn
            (some_and (λ d. Stands d plain) c left ready.stands
            (subst (λ (o : CommandOutcome). Torn (steps_of o.acts) (Some c) left) turned.is torn)),
      )

  -- its lines were carried out
  some_lines : (ended : Ended) (came : CommandOutcome)
      (does : ScriptDoes (settled plain.table_area c) plain.words (entries_of plain) input came) (n : ℕ) → n ≤ length does.items →
      AnsweredAmong ended does.items does.dids n → Torn (steps_of outcome.acts) (Some c) left →
      IsSomeAnd left (λ d. Stands d (with_items plain does.items does.dids n)) → ScriptMakes ended
  some_lines ended came does n within answered torn stands = (
    Some (with_items plain does.items does.dids n),
    inl (record { run = came; does = does; count = n; within = within; answered = answered; is = refl }),
    script_sound (with_items plain does.items does.dids n)
        (all_header plain (all_added (entries_of plain) (take n does.items) (take n does.dids))) torn stands,
  )

  all_lines : (items : List Item) (dids : List Did) → length dids ≡ length items →
      with_all plain (all_added (entries_of plain) (take (length items) items) (take (length items) dids)) ≡ plain_behind plain items dids
  all_lines items dids long =
      ap (λ (xs : List Item). with_all plain (all_added (entries_of plain) xs (take (length items) dids)))
      (take_all (length items) items (omega arith))
      ∙ ap (λ (ds : List Did). plain_behind plain items ds) (take_all (length items) dids (omega arith))

  -- the lines, as words of a script ask for them
  abbrev pub as_scripted : (was : GoesOn (Scripting input) c plain outcome) → several.Scripted input (codes "script" ∷ []) c plain
  as_scripted was = record {
    spelled = inl (refl, tt);
    bytes = bytes;
    stands = ready.stands;
    outcome = was.did.came;
    does = was.did.does;
  }

  lines_make : (ended : Ended) → CommandSpares words.Script ended input left c → GoesOn (Scripting input) c plain outcome →
      Leaves ended outcome (Some c) left → ScriptMakes ended
  lines_make (Answered answer printed) spares was (is, said, all) =
      let came : CommandOutcome = was.did.came in
      let does : ScriptDoes (settled plain.table_area c) plain.words (entries_of plain) input was.did.came = was.did.does in
      let held : IsHeld (settled plain.table_area c) plain = mounted_held c plain ready.whole ready.stands was.mounts in
      some_lines (Answered answer printed) was.did.came was.did.does (length does.items) (omega arith) (λ heard. refl)
      (torn_by (Answered answer printed) outcome (Some c) left (is, said, all))
      (some_and (λ d. Stands d (with_all plain
      (all_added (entries_of plain) (take (length does.items) does.items) (take (length does.items) does.dids))))
      (changed_by (steps_of came.acts) (settled plain.table_area c)) left
      (subst (λ (p : Plain). Stands (changed_by (steps_of came.acts) (settled plain.table_area c)) p)
      (sym (all_lines does.items does.dids
      (as_many does.items does.dids (settled plain.table_area c) plain.words (entries_of plain) does.did)))
      (done_script_stands (settled plain.table_area c) plain input was.did.came held was.did.does bytes
      (spares plain was.did.came ready.stands was.did.does)))
      (all ∙ ap (λ (o : CommandOutcome). effects (steps_of o.acts) (Some c)) was.did.is
      ∙ behind_front c plain ready.whole ready.stands was.mounts came.acts))
  lines_make (Stopped (Some text)) spares was so =
      let carried = spares plain was.did.came ready.stands was.did.does in
      let answered = script_answered input (codes "script" ∷ []) c plain ready.whole (as_scripted was) outcome text left ready.live yields
      (carried.0, carried.1, carried.2, carried.3) so in
      some_lines (Stopped (Some text)) was.did.came was.did.does answered.count answered.within (answered.answered, answered.most)
      (torn_by (Stopped (Some text)) outcome (Some c) left so) answered.stands
  lines_make (Stopped None) spares was torn =
      let carried = spares plain was.did.came ready.stands was.did.does in
      elim (script_stopped input (codes "script" ∷ []) c plain ready.whole (as_scripted was) outcome left ready.live yields carried.0
      (carried.1, carried.3) torn) [
        | inl further ↦ absurd (carried.2 further)
        | inr some ↦ some_lines (Stopped None) was.did.came was.did.does some.0 (let less = some.1 in let most = carried.1 in omega arith)
            tt torn some.2
      ]

  pub script_makes : (ended : Ended) → CommandSpares words.Script ended input left c → Leaves ended outcome (Some c) left →
      ScriptMakes ended
  script_makes ended spares leaves =
      elim (mounted_or_turned (Scripting input) c plain outcome ready.stands yields) [
        | inl turned ↦ turned_makes ended turned leaves
        | inr was ↦ lines_make ended spares was leaves
      ]
