-- What a generated run and a script leave comes back where one sector more of the table's segment is lost.
use Rattle.std.proofs.Common.{◌≡◌, ◌∙◌, ◌⊎◌, ◌≤◌, ℕ, List, ◌∷◌, Option, Some, inl, inr, ap, sym, subst, false, length, take, drop, None}
use Rattle.std.proofs.Common.{◌≢◌, ◌<◌, zero}
use Rattle.std.proofs.Common.{suc, [], refl, arith}
use Rattle.cartridge_laws.proofs.MountWhole.{settling_effects}
use Rattle.cartridge_spec.specs.TableSegment.{IsTableLive}
use Rattle.cartridge_spec.specs.Mounting.{Mounts, mounted_as, settled}
use Rattle.cartridge_spec.specs.Settling.{changed_by, settling_steps}
use Rattle.cartridge_spec.specs.Volumes.{Plain, Stands, entries_of}
use Rattle.command_laws.proofs.CommandOneLoss.{nothing_torn}
use Rattle.command_laws.proofs.CommandOpened.{quiet}
use Rattle.command_laws.proofs.CommandScripted.{script_course, ScriptRan}
use Rattle.command_laws.proofs.CommandSeveral.{WasTurned, behind_front, make_course, left_then, make_has_printed}
use Rattle.command_laws.proofs.CommandSeveral.{turned_left, MakeRan}
use Rattle.command_laws.proofs.IntactBehind.{answered_behind_append, done_behind_append, stopped_behind_append}
use Rattle.command_laws.proofs.IntactKeeping.{settled_is_intact, intact_is_one, one_comes}
use Rattle.command_laws.proofs.IntactMade.{done_make_is_intact, stopped_make_comes_back, printed_make_comes_back}
use Rattle.command_laws.proofs.IntactScript.{stopped_script_comes_back, answered_script_comes_back, done_script_comes_back}
use Rattle.command_laws.proofs.ScriptReached.{first_prints}
use Rattle.command_laws.proofs.ScriptSpeaking.{as_many, script_speaks}
use Rattle.command_laws.specs.ActStops.{Behind, IsLeftBy}
use Rattle.command_laws.specs.Intact.{IsIntact}
use Rattle.command_spec.specs.Several.{IsHeard, Scripted, FirstLinesSpare}
use Rattle.command_laws.specs.MadeTerms.{Makes}
use Rattle.command_laws.specs.Outcomes.{ScriptOutcome, MakeOutcome}
use Rattle.command_spec.specs.OneLoss.{LeftComesBack, LinesComeBack, ScriptSettling, SettlingAppend, SomeComeBack, lines_before}
use Rattle.command_spec.specs.OneLoss.{steps_until}
use Rattle.command_spec.specs.Outcome.{CommandOutcome}
use Rattle.command_spec.specs.Script.{Did, ScriptDoes}
use Rattle.command_spec.specs.ScriptLists.{CameFurther, GoesNoFurther, printed_by, ItemsSpare, ItemsSpareTable, with_items}
use Rattle.qic_base.proofs.Steps.{Torn-append, Torn-behind, Torn-front}
use Rattle.qic_base.specs.Acts.{Act, steps_of}
use Rattle.qic_base.specs.Cartridge.{Cartridge}
use Rattle.qic_base.specs.CartridgeTerms.{IsCartridge}
use Rattle.qic_base.specs.Step.{effects, Torn}
use Rattle.command_spec.specs.Input.{Item}
use Rattle.command_spec.specs.declared.status.Status.{Status}
use Rattle.command_spec.specs.Make.{with_made}
use Rattle.command_spec.specs.declared.status.Status.TheVariants as status

-- ---- the settling comes first

module _ (c : Cartridge) (plain : Plain) (whole : IsCartridge c) (stood : Stands c plain) (mounts : Mounts c (mounted_as plain)) where
  abbrev Settling : Option Cartridge → Type 0
  Settling left = Torn (settling_steps plain.table_area c) (Some c) left

  settled_intact : IsTableLive c → c.info.protected ≡ false → IsIntact (settled plain.table_area c) plain
  settled_intact live free = settled_is_intact c plain (record {
    cartridge = whole;
    stands = stood;
    table = mounts.reads;
    live = live;
    unprotected = free;
  })

  settled_first : (acts : List Act) (left : Option Cartridge) → Torn (steps_of (quiet (settling_steps plain.table_area c) ∷ acts))
      (Some c) left →
      Settling left ⊎ Torn (steps_of acts) (Some (settled plain.table_area c)) left
  settled_first acts left torn =
      elim (Torn-append (settling_steps plain.table_area c) (steps_of acts) (Some c) left torn) [
        | inl front ↦ inl front
        | inr behind ↦ inr (subst (λ (held : Option Cartridge). Torn (steps_of acts) held left)
            (settling_effects c plain.table_area mounts.reads) behind)
      ]

-- a refusal leaves all as it was
turned_is : (c : Cartridge) (outcome : CommandOutcome) (left : Option Cartridge) → WasTurned outcome →
    Torn (steps_of outcome.acts) (Some c) left → left ≡ Some c
turned_is c outcome left turned torn = subst (λ (o : CommandOutcome). Torn (steps_of o.acts) (Some c) left) turned.is torn

turned_torn : (c : Cartridge) (plain : Plain) (outcome : CommandOutcome) (left : Option Cartridge) → WasTurned outcome →
    Torn (steps_of outcome.acts) (Some c) left →
    Torn (settling_steps plain.table_area c) (Some c) left
turned_torn c plain outcome left turned torn =
    nothing_torn c (settling_steps plain.table_area c) left (turned_is c outcome left turned torn)

-- ---- a generated run

module _ (seed count : ℕ) (few : count ≤ 200) (c : Cartridge) (plain : Plain) (whole : IsCartridge c) (stood : Stands c plain)
    (live : IsTableLive c) where
  ran_intact : (outcome : CommandOutcome) → MakeRan seed count few c plain whole stood outcome → IsIntact (settled plain.table_area c) plain
  ran_intact outcome run = settled_intact c plain whole stood run.mounts live run.free

  pub make_comes_back : (outcome : CommandOutcome) (left : Option Cartridge) → MakeOutcome seed count (Some c) outcome →
      Torn (steps_of outcome.acts) (Some c) left →
      LeftComesBack c (with_made plain seed) 0 count left
  make_comes_back outcome left does torn =
      elim (make_course seed count few c plain whole stood outcome does) [
        | inl turned ↦ inl (refl, turned_torn c plain outcome left turned torn)
        | inr run ↦
            elim (settled_first c plain whole stood run.mounts run.acts left
            (subst (λ (o : CommandOutcome). Torn (steps_of o.acts) (Some c) left) run.is torn)) [
              | inl settling ↦ inl (refl, settling)
              | inr behind ↦ inr (stopped_make_comes_back seed count (settled plain.table_area c) plain run.acts run.answer left few
                  (ran_intact outcome run) run.makes behind)
            ]
      ]

  -- with all volumes, where it has printed anything, or the sink failed; ..
  pub make_comes_printed : (outcome : CommandOutcome) (text : List ℕ) (left : Option Cartridge) → MakeOutcome seed count (Some c) outcome →
      ((text ≢ []) × IsLeftBy c outcome.acts text left) ⊎ Behind c outcome.acts text left →
      SomeComeBack (with_made plain seed) count count left
  make_comes_printed outcome text left does which =
      let (run, at) = make_has_printed seed count few c plain whole stood outcome text left does which in
      printed_make_comes_back seed count (settled plain.table_area c) plain run.acts at.front at.rest run.answer left few
      (ran_intact outcome run) run.makes at.parts at.some at.torn

  -- .. and where it was carried out
  pub make_comes_done : (outcome : CommandOutcome) → MakeOutcome seed count (Some c) outcome → outcome.status ≡ status.Done →
      SomeComeBack (with_made plain seed) count count (effects (steps_of outcome.acts) (Some c))
  make_comes_done outcome does is_done =
      elim (make_course seed count few c plain whole stood outcome does) [
        | inl turned ↦ absurd (turned.unheard (inl (sym (ap (λ (o : CommandOutcome). o.status) turned.is) ∙ is_done)))
        | inr run ↦
            let still : Cartridge = settled plain.table_area c in
            let all : run.answer ≡ status.Done = sym (ap (λ (o : CommandOutcome). o.status) run.is) ∙ is_done in
            let made : IsIntact (changed_by (steps_of run.acts) still) (with_made plain seed count) =
            done_make_is_intact seed count still plain run.acts few (ran_intact outcome run)
            (subst (λ (a : Status). Makes seed count still plain.words (entries_of plain) run.acts a) all run.makes) in
            one_comes (with_made plain seed) count (effects (steps_of outcome.acts) (Some c))
            (intact_is_one (changed_by (steps_of run.acts) still) (with_made plain seed count) (with_made plain seed count)
            (effects (steps_of outcome.acts) (Some c)) made
            (ap (λ (o : CommandOutcome). effects (steps_of o.acts) (Some c)) run.is ∙ behind_front c plain whole stood run.mounts run.acts))
      ]

-- ---- a script

-- where nothing was printed no line was answered
pub none_answered : (c : Cartridge) (plain : Plain) (input : List ℕ) (outcome : CommandOutcome)
    (does : ScriptDoes c plain.words (entries_of plain) input outcome) (answered : ℕ) (text : List ℕ) →
    answered ≤ length does.items → printed_by does.dids answered ≤ length text → text ≡ [] → answered ≡ 0
none_answered c plain input outcome does zero text known written none = refl
none_answered c plain input outcome does (suc n) text known written none =
    let some : 0 < printed_by does.dids (suc n) =
    first_prints does.dids (script_speaks c plain.words (entries_of plain) input outcome does)
    (let long = as_many does.items does.dids c plain.words (entries_of plain) does.did in omega arith) n in
    let nothing = ap (λ (t : List ℕ). length t) none in
    absurd (omega arith)

module _ (input : List ℕ) (words : List (List ℕ)) (c : Cartridge) (plain : Plain) (whole : IsCartridge c)
    (script : Scripted input words c plain) (live : IsTableLive c) (free : c.info.protected ≡ false)
    (outcome : CommandOutcome) (does : ScriptOutcome (Some c) input outcome) where
  abbrev items : List Item
  items = script.does.items

  abbrev dids : List Did
  dids = script.does.dids

  abbrev standing : ℕ → Plain
  standing = with_items plain items dids

  no_line : (answered : ℕ) (text : List ℕ) → answered ≤ length items → printed_by dids answered ≤ length text → text ≡ [] → answered ≡ 0
  no_line answered text known written none = none_answered (settled plain.table_area c) plain input script.outcome script.does answered text
      known written none

  script_intact : ScriptRan input words c plain whole script outcome → IsIntact (settled plain.table_area c) plain
  script_intact run = settled_intact c plain whole script.stands run.mounts live free

  pub script_comes_back : (left : Option Cartridge) (count : ℕ) → FirstLinesSpare script count → ItemsSpareTable (take count items) →
      Torn (steps_of outcome.acts) (Some c) left →
      CameFurther (settled plain.table_area c) items dids script.does.last count left ⊎ LeftComesBack c standing 0 count left
  script_comes_back left count spares table torn =
      elim (script_course input words c plain whole script outcome does) [
        | inl turned ↦ inr (inl (refl, turned_torn c plain outcome left turned torn))
        | inr run ↦
            elim (settled_first c plain whole script.stands run.mounts script.outcome.acts left
            (subst (λ (acts : List Act). Torn (steps_of acts) (Some c) left) run.acts torn)) [
              | inl settling ↦ inr (inl (refl, settling))
              | inr rest ↦
                  elim (stopped_script_comes_back (settled plain.table_area c) plain input script.outcome left
                  (script_intact run) script.does script.bytes count spares.0 spares.1 table rest) [
                    | inl further ↦ inl further
                    | inr comes ↦ inr (inr comes)
                  ]
            ]
      ]

  -- by what was printed
  pub script_comes_answered : (text : List ℕ) (left : Option Cartridge) (answered count : ℕ) → answered ≤ length items →
      printed_by dids answered ≤ length text →
      GoesNoFurther items dids count (length text) → FirstLinesSpare script count → ItemsSpareTable (take count items) →
      IsLeftBy c outcome.acts text left →
      LeftComesBack c standing answered count left
  script_comes_answered text left answered count known written further spares table so =
      elim (script_course input words c plain whole script outcome does) [
        | inl turned ↦
            let was = turned_left c outcome text left turned so in
            inl (no_line answered text known written was.0, nothing_torn c (settling_steps plain.table_area c) left was.1)
        | inr run ↦
            elim (left_then c plain whole script.stands run.mounts script.outcome.acts text left
            (subst (λ (acts : List Act). IsLeftBy c acts text left) run.acts so)) [
              | inl (none, torn) ↦ inl (no_line answered text known written none, torn)
              | inr at ↦ inr (answered_script_comes_back (settled plain.table_area c) plain input script.outcome text left
                  (script_intact run) script.does script.bytes
                  answered count known written spares.0 further spares.1 table at)
            ]
      ]

  -- once its input was carried out
  pub script_comes_heard : IsHeard outcome.status → ItemsSpare (settled plain.table_area c) plain items dids → ItemsSpareTable items →
      SomeComeBack standing (length items) (length items) (effects (steps_of outcome.acts) (Some c))
  script_comes_heard heard spares table =
      elim (script_course input words c plain whole script outcome does) [
        | inl turned ↦ absurd (turned.unheard (subst (λ (o : CommandOutcome). IsHeard o.status) turned.is heard))
        | inr run ↦
            subst (λ (left : Option Cartridge). SomeComeBack standing (length items) (length items) left)
            (sym (ap (λ (acts : List Act). effects (steps_of acts) (Some c)) run.acts
            ∙ behind_front c plain whole script.stands run.mounts script.outcome.acts))
            (done_script_comes_back (settled plain.table_area c) plain input script.outcome
            (script_intact run) script.does script.bytes spares table)
      ]

  -- ---- behind the settling in question

  module _ (mounts : Mounts c (mounted_as plain)) (count : ℕ)
      (append : SettlingAppend (settled plain.table_area c) items dids count) where
    -- a stop in the mounting's, or in the lines up to the end of the append's
    until_front : (left : Option Cartridge) → Torn (settling_steps plain.table_area c) (Some c) left →
        Torn (steps_until (settling_steps plain.table_area c) (Some append)) (Some c) left
    until_front left torn =
        Torn-front (settling_steps plain.table_area c) (steps_until [] (Some append)) (Some c) left torn

    until_behind : (left : Option Cartridge) → Torn (steps_until [] (Some append)) (Some (settled plain.table_area c)) left →
        Torn (steps_until (settling_steps plain.table_area c) (Some append)) (Some c) left
    until_behind left torn =
        Torn-behind (settling_steps plain.table_area c) (steps_until [] (Some append)) (Some c) left
        (subst (λ (held : Option Cartridge). Torn (steps_until [] (Some append)) held left)
        (sym (settling_effects c plain.table_area mounts.reads)) torn)

  pub lines_come_back : (left : Option Cartridge) (count : ℕ) → FirstLinesSpare script count → (settling : ScriptSettling script count) →
      ItemsSpareTable (drop (lines_before settling) (take count items)) → Torn (steps_of outcome.acts) (Some c) left →
      CameFurther (settled plain.table_area c) items dids script.does.last count left
      ⊎ LinesComeBack script (lines_before settling) count settling left
  lines_come_back left count spares None table torn = script_comes_back left count spares table torn
  lines_come_back left count spares (Some append) table torn =
      elim (script_course input words c plain whole script outcome does) [
        | inl turned ↦ inr (inl (
          refl,
          nothing_torn c (steps_until (settling_steps plain.table_area c) (Some append)) left
              (turned_is c outcome left turned torn),
        ))
        | inr run ↦
            elim (settled_first c plain whole script.stands run.mounts script.outcome.acts left
            (subst (λ (acts : List Act). Torn (steps_of acts) (Some c) left) run.acts torn)) [
              | inl settling ↦ inr (inl (refl, until_front run.mounts count append left settling))
              | inr rest ↦
                  elim (stopped_behind_append (settled plain.table_area c) plain input script.outcome left
                  (script_intact run) script.does script.bytes count spares.0 spares.1 append table rest) [
                    | inl further ↦ inl further
                    | inr (inl early) ↦ inr (inl (refl, until_behind run.mounts count append left early))
                    | inr (inr comes) ↦ inr (inr comes)
                  ]
            ]
      ]

  pub lines_come_answered : (text : List ℕ) (left : Option Cartridge) (answered count : ℕ) → answered ≤ length items →
      printed_by dids answered ≤ length text →
      GoesNoFurther items dids count (length text) → FirstLinesSpare script count → (settling : ScriptSettling script count) →
      lines_before settling ≤ answered → ItemsSpareTable (drop (lines_before settling) (take count items)) →
      IsLeftBy c outcome.acts text left → LinesComeBack script answered count settling left
  lines_come_answered text left answered count known written further spares None behind table so =
      script_comes_answered text left answered count known written further spares table so
  lines_come_answered text left answered count known written further spares (Some append) behind table so =
      elim (script_course input words c plain whole script outcome does) [
        | inl turned ↦
            let was = turned_left c outcome text left turned so in
            let none = no_line answered text known written was.0 in
            inl (omega arith, nothing_torn c (steps_until (settling_steps plain.table_area c) (Some append)) left was.1)
        | inr run ↦
            elim (left_then c plain whole script.stands run.mounts script.outcome.acts text left
            (subst (λ (acts : List Act). IsLeftBy c acts text left) run.acts so)) [
              | inl (none, torn) ↦
                  let no = no_line answered text known written none in
                  inl (omega arith, until_front run.mounts count append left torn)
              | inr at ↦
                  elim (answered_behind_append (settled plain.table_area c) plain input script.outcome text left
                  (script_intact run) script.does script.bytes answered count known written spares.0 further spares.1 append behind
                  table at) [
                    | inl (here, early) ↦ inl (here, until_behind run.mounts count append left early)
                    | inr comes ↦ inr comes
                  ]
            ]
      ]

  pub lines_come_heard : IsHeard outcome.status → ItemsSpare (settled plain.table_area c) plain items dids →
      (settling : ScriptSettling script (length items)) → ItemsSpareTable (drop (lines_before settling) items) →
      SomeComeBack standing (length items) (length items) (effects (steps_of outcome.acts) (Some c))
  lines_come_heard heard spares None table = script_comes_heard heard spares table
  lines_come_heard heard spares (Some append) table =
      elim (script_course input words c plain whole script outcome does) [
        | inl turned ↦ absurd (turned.unheard (subst (λ (o : CommandOutcome). IsHeard o.status) turned.is heard))
        | inr run ↦
            subst (λ (left : Option Cartridge). SomeComeBack standing (length items) (length items) left)
            (sym (ap (λ (acts : List Act). effects (steps_of acts) (Some c)) run.acts
            ∙ behind_front c plain whole script.stands run.mounts script.outcome.acts))
            (done_behind_append (settled plain.table_area c) plain input script.outcome
            (script_intact run) script.does script.bytes spares append table)
      ]
