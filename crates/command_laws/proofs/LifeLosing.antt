-- What a run that adds volumes makes of these, behind whose settling one sector more of the table's segment was lost.
use Rattle.std.proofs.Common.{◌≡◌, ◌≢◌, ◌∙◌, ◌⊎◌, ◌<◌, ◌≤◌, zero, suc, ℕ, All, List, [], ◌∷◌, Bool, Option, Some, None, IsSomeAnd}
use Rattle.std.proofs.Common.{inl, inr, ap, arith, length, refl, subst, sym, take}
use Rattle.std.proofs.lemmas.Bool.{cases_lt}
use Rattle.std.specs.Prelude.{codes}
use Rattle.cartridge_spec.specs.Appending.{with_all, Content}
use Rattle.cartridge_spec.specs.Mounting.{ComesBackAs, settled}
use Rattle.cartridge_spec.specs.Settling.{changed_by, settling_steps}
use Rattle.cartridge_spec.specs.TableSegment.{LosesOneAlone}
use Rattle.cartridge_spec.specs.Volumes.{Plain, entries_of}
use Rattle.command_laws.proofs.CommandAppends.{can_append}
use Rattle.command_laws.proofs.CommandComesBack.{make_comes_back, make_comes_done, make_comes_printed, script_comes_answered}
use Rattle.command_laws.proofs.CommandComesBack.{script_comes_back}
use Rattle.command_laws.proofs.CommandComplete.{GoesOn}
use Rattle.command_laws.proofs.CommandOneLoss.{append_comes_back, done_comes_back, refused_comes_back}
use Rattle.command_laws.proofs.CommandSeveral.{WasTurned, behind_front, mounted_or_turned}
use Rattle.command_laws.proofs.IntactKeeping.{intact_is_one, settled_is_intact, whole_needs_no_steps}
use Rattle.command_laws.proofs.IntactScript.{done_script_comes_back}
use Rattle.command_laws.proofs.LifeBack.{IsSettledSound}
use Rattle.command_laws.proofs.LifeFormats.{torn_by}
use Rattle.command_laws.proofs.LifeReopening.{AmongLines, among_lines}
use Rattle.command_laws.proofs.LifeRuns.{all_header, all_went, as_scripted, never_heard, never_said}
use Rattle.command_laws.proofs.MadeMachineLaws.{done_or_not}
use Rattle.command_laws.proofs.ScriptAnswered.{more_printed}
use Rattle.command_laws.specs.AppendTerms.{content_with}
use Rattle.command_laws.specs.CommandFields.{Yields}
use Rattle.command_laws.specs.Intact.{IsIntact}
use Rattle.command_laws.specs.Life.{Adds, Answered, AnsweredAmong, CommandSpares, Ended, HasPrinted, Leaves, LinesSpare, Stopped, WasDone}
use Rattle.command_laws.specs.LifeOneLoss.{AddsVolumes}
use Rattle.command_laws.specs.LifeReopens.{LinesSpareTable, SparesTable}
use Rattle.command_laws.specs.MountedKept.{IsKept}
use Rattle.command_laws.specs.Outcomes.{ScriptOutcome}
use Rattle.command_spec.specs.Input.{Item}
use Rattle.command_spec.specs.Several.{Scripted}
use Rattle.command_spec.specs.Machine.{HasValues}
use Rattle.command_spec.specs.Make.{made_contents, with_made}
use Rattle.command_spec.specs.OneLoss.{ComesBackAsOneOf, LeftComesBack, SomeComeBack}
use Rattle.command_spec.specs.Outcome.{CommandOutcome}
use Rattle.command_spec.specs.Script.{Did, Scripting}
use Rattle.command_spec.specs.ScriptLists.{GoesNoFurther, ItemsSpare, ItemsSpareTable, all_added, item_added, printed_by, with_items}
use Rattle.qic_base.specs.Acts.{steps_of, text_of}
use Rattle.qic_base.specs.Cartridge.{Cartridge}
use Rattle.qic_base.specs.CartridgeTerms.{IsCartridge}
use Rattle.qic_base.specs.Step.{Step, Torn, effects}
use Rattle.command_laws.specs.ActStops.{IsLeftBy}
use Rattle.command_spec.specs.declared.status.Status.{Status}
use Rattle.command_spec.specs.declared.status.Status.TheVariants as status
use Rattle.command_spec.specs.declared.words.Words.{Words}
use Rattle.command_spec.specs.declared.words.Words.TheVariants as words
use Rattle.cartridge_laws.specs.AppendLaws.{with_content}

-- ---- which of several comes back

-- behind one of them, from so many on, up to so many
record Picked (standing : ℕ → Plain) (least most : ℕ) (f : Cartridge) : Type 0 where
  count : ℕ
  from : least ≤ count
  within : count ≤ most
  comes : ComesBackAs f (standing count)

picked : (standing : ℕ → Plain) (least most : ℕ) (next f : Cartridge) (lost : ℕ) → SomeComeBack standing least most (Some next) →
    LosesOneAlone next f lost → Picked standing least most f
picked standing least most next f lost back loses =
    let from = back.from in
    let order = back.next in
    let within = back.within in
    elim (back.comes f lost loses) [
      | inl one ↦ record { count = back.one; from = from; within = omega arith; comes = one }
      | inr other ↦ record { count = back.other; from = omega arith; within = within; comes = other }
    ]

-- ---- how many lines were answered

record LastAnswered (dids : List Did) (most printed : ℕ) : Type 0 where
  count : ℕ
  within : count ≤ most
  written : printed_by dids count ≤ printed
  further : (count ≡ most) ⊎ ((count < most) × (printed < printed_by dids (suc count)))

last_answered : (dids : List Did) (most printed : ℕ) → LastAnswered dids most printed
last_answered dids zero printed = record { count = 0; within = omega arith; written = omega arith; further = inl refl }
last_answered dids (suc most) printed =
    let before : LastAnswered dids most printed = last_answered dids most printed in
    let few = before.within in
    elim before.further [
      | inr (less, more) ↦ record {
        count = before.count;
        within = omega arith;
        written = before.written;
        further = inr
            (omega arith, more);
      }
      | inl all ↦ elim (cases_lt printed (printed_by dids (suc most))) [
        | inl more ↦ record {
          count = most;
          within = omega arith;
          written = subst (λ (n : ℕ). printed_by dids n ≤ printed) all before.written;
          further = inr (omega arith, more);
        }
        | inr less ↦ record { count = suc most; within = omega arith; written = less; further = inl refl }
      ]
    ]

-- fewer lines spare as well
fewer_spare : (n m : ℕ) (c : Cartridge) (plain : Plain) (items : List Item) (dids : List Did) → n ≤ m →
    ItemsSpare c plain (take m items) (take m dids) → ItemsSpare c plain (take n items) (take n dids)
fewer_spare zero m c plain items dids less spares = tt
fewer_spare (suc n) zero c plain items dids less spares = absurd (omega arith)
fewer_spare (suc n) (suc m) c plain [] dids less spares = tt
fewer_spare (suc n) (suc m) c plain (item ∷ items) [] less spares = tt
fewer_spare (suc n) (suc m) c plain (item ∷ items) (did ∷ dids) less spares = (
  spares.0,
  fewer_spare n m (changed_by (steps_of did.acts) c) (with_all plain (item_added (entries_of plain) item did)) items dids
      (omega arith) spares.1,
)

fewer_spare_table : (n m : ℕ) (items : List Item) → n ≤ m → ItemsSpareTable (take m items) → ItemsSpareTable (take n items)
fewer_spare_table zero m items less spares = tt
fewer_spare_table (suc n) zero items less spares = absurd (omega arith)
fewer_spare_table (suc n) (suc m) [] less spares = tt
fewer_spare_table (suc n) (suc m) (item ∷ items) less spares = (spares.0, fewer_spare_table n m items (omega arith) spares.1)

-- ---- a run over a settled cartridge

-- what the run makes of the volumes comes back
abbrev pub LossMakes : Words → (s : Cartridge) (input : List ℕ) (plain : Plain) → Ended → (f : Cartridge) → Type 0
LossMakes command s input plain ended f =
    (after : Plain) × Adds command s input plain ended (Some after) × (after.header_area ≡ plain.header_area) × ComesBackAs f after

module _ (begun : Bool) (s : Cartridge) (plain : Plain) (known : IsSettledSound begun s plain)
    (twice : settled plain.table_area s ≡ s) (input : List ℕ) (next f : Cartridge) (lost : ℕ) (loses : LosesOneAlone next f lost) where
  kept : IsKept s plain
  kept = record {
    cartridge = known.sound.whole;
    stands = known.sound.stands;
    table = known.table;
    live = known.sound.live;
    unprotected = known.free;
  }

  intact : IsIntact s plain
  intact = subst (λ (d : Cartridge). IsIntact d plain) twice (settled_is_intact s plain kept)

  none_settle : settling_steps plain.table_area s ≡ []
  none_settle = whole_needs_no_steps s plain.table_area intact.table known.free

  -- nothing was done yet
  not_yet : (left : Option Cartridge) → Torn (settling_steps plain.table_area s) (Some s) left → left ≡ Some s
  not_yet left torn = subst (λ (ss : List Step). Torn ss (Some s) left) none_settle torn

  -- .. so it comes back as it was
  still_comes : Torn (settling_steps plain.table_area s) (Some s) (Some next) → ComesBackAs f plain
  still_comes torn =
      elim (intact_is_one s plain plain (Some next) intact (not_yet (Some next) torn) f lost loses) [ inl one ↦ one | inr other ↦ other ]

  left_picked : (standing : ℕ → Plain) (least most : ℕ) → standing 0 ≡ plain → LeftComesBack s standing least most (Some next) →
      Picked standing least most f
  left_picked standing least most first (inl (none, torn)) = record {
    count = 0;
    from = omega arith;
    within = omega arith;
    comes = subst (λ (p : Plain). ComesBackAs f p) (sym first)
        (still_comes (subst (λ (p : Plain). Torn (settling_steps p.table_area s) (Some s) (Some next)) first torn));
  }
  left_picked standing least most first (inr back) = picked standing least most next f lost back loses

  -- ---- an append

  module _ (name : List ℕ) (date : ℕ) (outcome : CommandOutcome) (values : HasValues (words.Append name date))
      (bytes : All (λ b. b < 256) input) (yields : Yields (words.Append name date) (Some s) input outcome) where
    abbrev content : Content
    content = content_with name date input

    -- the plain cartridge with the volume
    abbrev more : Plain
    more = with_content plain content

    abbrev AppendLoses : Ended → Type 0
    AppendLoses ended = LossMakes (words.Append name date) s input plain ended f

    one_of : (other : Plain) → ComesBackAsOneOf plain other next → ComesBackAs f plain ⊎ ComesBackAs f other
    one_of other comes = comes f lost loses

    append_loses : (ended : Ended) → Leaves ended outcome (Some s) (Some next) → AppendLoses ended
    append_loses (Answered answer printed) (is, said, all) =
        let torn : Torn (steps_of outcome.acts) (Some s) (Some next) =
        torn_by (Answered answer printed) outcome (Some s) (Some next) (is, said, all) in
        elim (done_or_not answer) [
          | inl done ↦
              let back = subst (λ (o : Option Cartridge).
              IsSomeAnd o (λ d. (g : Cartridge) (i : ℕ) → LosesOneAlone d g i → ComesBackAs g more)) (sym all)
              (done_comes_back content s plain outcome (can_append values bytes) known.sound.whole known.sound.stands
              known.sound.live yields (is ∙ done)) in
              (more, inl (done, refl), refl, back f lost loses)
          | inr other ↦ (
            plain,
            inr (other, refl),
            refl,
            elim (refused_comes_back content s plain outcome (Some next) (can_append values bytes) known.sound.whole
                known.sound.stands known.sound.live yields (λ done. other (sym is ∙ done)) torn) [
                  | inl settling ↦ still_comes settling
                  | inr comes ↦ elim (one_of plain comes) [ inl one ↦ one | inr same ↦ same ]
                ],
          )
        ]
    append_loses (Stopped printed) leaves =
        let torn : Torn (steps_of outcome.acts) (Some s) (Some next) = torn_by (Stopped printed) outcome (Some s) (Some next) leaves in
        elim (append_comes_back content s plain outcome (Some next) (can_append values bytes) known.sound.whole known.sound.stands
        known.sound.live yields torn) [
          | inl settling ↦ (plain, inl refl, refl, still_comes settling)
          | inr comes ↦ elim (one_of more comes) [
            | inl one ↦ (plain, inl refl, refl, one)
            | inr other ↦ (more, inr refl, refl, other)
          ]
        ]

  -- ---- a generated run

  module _ (seed count : ℕ) (outcome : CommandOutcome) (few : HasValues (words.Make seed count))
      (yields : Yields (words.Make seed count) (Some s) input outcome) where
    abbrev MakeLoses : Ended → Type 0
    MakeLoses ended = LossMakes (words.Make seed count) s input plain ended f

    made_all : (ended : Ended) → SomeComeBack (with_made plain seed) count count (Some next) → MakeLoses ended
    made_all ended back =
        let p = picked (with_made plain seed) count count next f lost back loses in
        let from = p.from in
        let within = p.within in (
          with_made plain seed p.count,
          record { made = p.count; within = within; all = λ which. omega arith; is = refl },
          all_header plain (made_contents seed 1 p.count),
          p.comes,
        )

    made_some : (ended : Ended) → (WasDone ended ⊎ HasPrinted ended → ⊥) → Torn (steps_of outcome.acts) (Some s) (Some next) →
        MakeLoses ended
    made_some ended never torn =
        let p = left_picked (with_made plain seed) 0 count refl
        (make_comes_back seed count few s plain known.sound.whole known.sound.stands known.sound.live outcome (Some next) yields torn) in (
          with_made plain seed p.count,
          record { made = p.count; within = p.within; all = λ which. absurd (never which); is = refl },
          all_header plain (made_contents seed 1 p.count),
          p.comes,
        )

    said : (text : List ℕ) → text ≢ [] → IsLeftBy s outcome.acts text (Some next) →
        SomeComeBack (with_made plain seed) count count (Some next)
    said text some so =
        make_comes_printed seed count few s plain known.sound.whole known.sound.stands known.sound.live outcome text (Some next) yields
        (inl (some, so))

    refused_loses : (answer : Status) (printed : List ℕ) → answer ≢ status.Done → Leaves (Answered answer printed) outcome (Some s)
        (Some next) → MakeLoses (Answered answer printed)
    refused_loses answer [] other leaves =
        made_some (Answered answer []) (λ which. elim which [ inl done ↦ other done | inr some ↦ some refl ])
        (torn_by (Answered answer []) outcome (Some s) (Some next) leaves)
    refused_loses answer (x ∷ xs) other (is, printed, all) =
        made_all (Answered answer (x ∷ xs))
        (said (text_of outcome.acts) (λ none. let no : x ∷ xs ≡ [] = sym printed ∙ none in absurd (cc))
        (all_went s outcome.acts (Some next) all))

    make_loses : (ended : Ended) → Leaves ended outcome (Some s) (Some next) → MakeLoses ended
    make_loses (Answered answer printed) (is, text, all) =
        elim (done_or_not answer) [
          | inl done ↦ made_all (Answered answer printed)
              (subst (λ (o : Option Cartridge). SomeComeBack (with_made plain seed) count count o) (sym all)
              (make_comes_done seed count few s plain known.sound.whole known.sound.stands known.sound.live outcome yields (is ∙ done)))
          | inr other ↦ refused_loses answer printed other (is, text, all)
        ]
    make_loses (Stopped None) torn = made_some (Stopped None) (λ which. elim which [ inl done ↦ done | inr some ↦ some ]) torn
    make_loses (Stopped (Some [])) so =
        made_some (Stopped (Some [])) (λ which. elim which [ inl done ↦ absurd done | inr some ↦ some refl ])
        (torn_by (Stopped (Some [])) outcome (Some s) (Some next) so)
    make_loses (Stopped (Some (x ∷ xs))) so = made_all (Stopped (Some (x ∷ xs))) (said (x ∷ xs) (λ none. cc) so)

  -- ---- a script

  module _ (outcome : CommandOutcome) (bytes : All (λ b. b < 256) input) (yields : ScriptOutcome (Some s) input outcome)
      (whole : IsCartridge next) where
    abbrev ScriptLoses : Ended → Type 0
    ScriptLoses ended = LossMakes words.Script s input plain ended f

    refused_so : (ended : Ended) → WasTurned outcome → Leaves ended outcome (Some s) (Some next) → ScriptLoses ended
    refused_so ended turned leaves =
        let torn : Torn (steps_of outcome.acts) (Some s) (Some next) = torn_by ended outcome (Some s) (Some next) leaves in
        let same : Some next ≡ Some s = subst (λ (o : CommandOutcome). Torn (steps_of o.acts) (Some s) (Some next)) turned.is torn in (
          plain,
          inr (
            never_heard s input begun plain (Some next) outcome bytes known.sound yields whole ended turned leaves,
            never_said s input begun plain (Some next) outcome bytes known.sound yields whole ended turned leaves,
            refl,
          ),
          refl,
          elim (intact_is_one s plain plain (Some next) intact same f lost loses) [ inl one ↦ one | inr other ↦ other ],
        )

    module _ (was : GoesOn (Scripting input) s plain outcome) where
      abbrev script : Scripted input (codes "script" ∷ []) s plain
      script = as_scripted s input begun plain (Some next) outcome bytes known.sound yields whole was

      abbrev items : List Item
      items = was.did.does.items

      abbrev dids : List Did
      dids = was.did.does.dids

      abbrev standing : ℕ → Plain
      standing = with_items plain items dids

      -- the appends of so many lines
      some_lines : (ended : Ended) (n : ℕ) → n ≤ length items → AnsweredAmong ended items dids n → ComesBackAs f (standing n) →
          ScriptLoses ended
      some_lines ended n within answered comes = (
        standing n,
        inl (record { run = was.did.came; does = was.did.does; count = n; within = within; answered = answered; is = refl }),
        all_header plain (all_added (entries_of plain) (take n items) (take n dids)),
        comes,
      )

      all_lines : (answer : Status) (printed : List ℕ) → ItemsSpare (settled plain.table_area s) plain items dids →
          ItemsSpareTable items →
          Leaves (Answered answer printed) outcome (Some s) (Some next) → ScriptLoses (Answered answer printed)
      all_lines answer printed spares table (is, said, all) =
          let n : ℕ = length items in
          let came : CommandOutcome = was.did.came in
          let still : Cartridge = settled plain.table_area s in
          let there : Some next ≡ Some (changed_by (steps_of came.acts) still) =
          all ∙ ap (λ (o : CommandOutcome). effects (steps_of o.acts) (Some s)) was.did.is
          ∙ behind_front s plain known.sound.whole known.sound.stands was.mounts came.acts in
          let back : SomeComeBack standing n n (Some next) =
          subst (λ (o : Option Cartridge). SomeComeBack standing n n o) (sym there)
          (done_script_comes_back still plain input came (settled_is_intact s plain kept) was.did.does bytes spares table) in
          let p = picked standing n n next f lost back loses in
          let from = p.from in
          let within = p.within in
          some_lines (Answered answer printed) p.count (omega arith) (λ heard. omega arith) p.comes

      -- by what was printed
      answered_lines : (text : List ℕ) → AmongLines (Some text) (settled plain.table_area s) plain items dids was.did.does.last
          (Some next) →
          Leaves (Stopped (Some text)) outcome (Some s) (Some next) → ScriptLoses (Stopped (Some text))
      answered_lines text lines so =
          let a : LastAnswered dids lines.count (length text) = last_answered dids lines.count (length text) in
          let few = a.within in
          let among = lines.within in
          elim a.further [
            | inl all ↦
                let back = script_comes_answered input (codes "script" ∷ []) s plain known.sound.whole script known.sound.live known.free
                outcome yields text (Some next) a.count lines.count (omega arith) a.written lines.among (lines.within, lines.spare)
                lines.table so in
                let p = left_picked standing a.count lines.count refl back in
                let from = p.from in
                let within = p.within in
                some_lines (Stopped (Some text)) p.count (omega arith) (
                  upper a.count lines.count (length text) (inl all) lines.among among p.count from within,
                  lower a.count (length text) a.written p.count (omega arith),
                ) p.comes
            | inr (less, more) ↦
                let back = script_comes_answered input (codes "script" ∷ []) s plain known.sound.whole script known.sound.live known.free
                outcome yields text (Some next) a.count (suc a.count) (omega arith) a.written (inr more)
                (omega arith, fewer_spare (suc a.count) lines.count (settled plain.table_area s) plain items dids (omega arith) lines.spare)
                (fewer_spare_table (suc a.count) lines.count items (omega arith) lines.table) so in
                let p = left_picked standing a.count (suc a.count) refl back in
                let from = p.from in
                let within = p.within in
                some_lines (Stopped (Some text)) p.count (omega arith)
                (beyond a.count (length text) more p.count from, lower a.count (length text) a.written p.count within) p.comes
          ]
        where
          -- all lines that were answered are among those
          beyond : (k printed : ℕ) → printed < printed_by dids (suc k) → (n : ℕ) → k ≤ n →
              (m : ℕ) → m ≤ length items → printed_by dids m ≤ printed → m ≤ n
          beyond k printed more n from m within written =
              elim (cases_lt k m) [
                | inl past ↦ absurd (let grows = more_printed (suc k) m dids (omega arith) in omega arith)
                | inr few ↦ omega arith
              ]

          upper : (k count printed : ℕ) → (k ≡ count) ⊎ (printed < printed_by dids (suc k)) → GoesNoFurther items dids count printed →
              count ≤ length items → (n : ℕ) → k ≤ n → n ≤ count →
              (m : ℕ) → m ≤ length items → printed_by dids m ≤ printed → m ≤ n
          upper k count printed (inr more) further few n from within m small written = beyond k printed more n from m small written
          upper k count printed (inl all) (inl every) few n from within m small written = omega arith
          upper k count printed (inl all) (inr more) few n from within m small written =
              elim (cases_lt m count) [
                | inl less ↦ omega arith
                | inr past ↦ absurd (let grows = more_printed count m dids (omega arith) in omega arith)
              ]

          -- and at most one more
          lower : (k printed : ℕ) → printed_by dids k ≤ printed → (n : ℕ) → n ≤ suc k → (m : ℕ) → suc m ≤ n → printed_by dids m ≤ printed
          lower k printed written n few m less = let grows = more_printed m k dids (omega arith) in omega arith

      stopped_lines : AmongLines None (settled plain.table_area s) plain items dids was.did.does.last (Some next) →
          Leaves (Stopped None) outcome (Some s) (Some next) → ScriptLoses (Stopped None)
      stopped_lines lines torn =
          elim (script_comes_back input (codes "script" ∷ []) s plain known.sound.whole script known.sound.live known.free outcome yields
          (Some next) lines.count (lines.within, lines.spare) lines.table torn) [
            | inl further ↦ absurd (lines.among further)
            | inr back ↦
                let p = left_picked standing 0 lines.count refl back in
                let within = p.within in
                let among = lines.within in
                some_lines (Stopped None) p.count (omega arith) tt p.comes
          ]

      lines_lose : (ended : Ended) →
          LinesSpare ended (settled plain.table_area s) plain items dids was.did.does.last (Some next) →
          LinesSpareTable ended (settled plain.table_area s) plain items dids was.did.does.last (Some next) →
          Leaves ended outcome (Some s) (Some next) → ScriptLoses ended
      lines_lose (Answered answer printed) spares table leaves = all_lines answer printed spares table leaves
      lines_lose (Stopped (Some text)) spares table leaves =
          answered_lines text
          (among_lines (Some text) (settled plain.table_area s) plain items dids was.did.does.last (Some next) spares table) leaves
      lines_lose (Stopped None) spares table leaves =
          stopped_lines (among_lines None (settled plain.table_area s) plain items dids was.did.does.last (Some next) spares table) leaves

    script_loses : (ended : Ended) → CommandSpares words.Script ended input (Some next) s →
        SparesTable words.Script ended input (Some next) s → Leaves ended outcome (Some s) (Some next) → ScriptLoses ended
    script_loses ended spares table leaves =
        elim (mounted_or_turned (Scripting input) s plain outcome known.sound.stands yields) [
          | inl turned ↦ refused_so ended turned leaves
          | inr was ↦
              lines_lose was ended (spares plain was.did.came known.sound.stands was.did.does)
              (table plain was.did.came known.sound.stands was.did.does) leaves
        ]

-- ---- any of them

pub loss_makes : (command : Words) (begun : Bool) (s : Cartridge) (plain : Plain) → IsSettledSound begun s plain →
    settled plain.table_area s ≡ s → (input : List ℕ) (next f : Cartridge) (lost : ℕ) → LosesOneAlone next f lost →
    AddsVolumes command → HasValues command → All (λ b. b < 256) input → (outcome : CommandOutcome) →
    Yields command (Some s) input outcome →
    IsCartridge next → (ended : Ended) → CommandSpares command ended input (Some next) s → SparesTable command ended input (Some next) s →
    Leaves ended outcome (Some s) (Some next) → LossMakes command s input plain ended f
loss_makes (words.Append name date) begun s plain known twice input next f lost loses adds values bytes outcome yields whole ended spares
    table leaves =
    append_loses begun s plain known twice input next f lost loses name date outcome values bytes yields ended leaves
loss_makes (words.Make seed count) begun s plain known twice input next f lost loses adds values bytes outcome yields whole ended spares
    table leaves =
    make_loses begun s plain known twice input next f lost loses seed count outcome values yields ended leaves
loss_makes words.Script begun s plain known twice input next f lost loses adds values bytes outcome yields whole ended spares table leaves =
    script_loses begun s plain known twice input next f lost loses outcome bytes yields whole ended spares table leaves
loss_makes command begun s plain known twice input next f lost loses adds values bytes outcome yields whole ended spares table leaves =
    absurd adds
