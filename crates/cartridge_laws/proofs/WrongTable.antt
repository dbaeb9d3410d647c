-- Where one sector of the table's segment silently holds other bytes: which one a stop in an append may leave so, and what is read
-- once it is lost.
use Rattle.std.proofs.Common.{◌≡◌, ◌≢◌, ◌⊎◌, inl, inr, ℕ, List, [], ◌∷◌, ◌<◌, ◌≤◌, arith, ap, sym, ◌∙◌, refl, subst, length, Option, Some}
use Rattle.std.specs.Prelude.{unwrap_or}
use Rattle.std.proofs.lemmas.Bool.{cases_eq}
use Rattle.cartridge_laws.proofs.AppendBetween.{begun_written}
use Rattle.cartridge_laws.proofs.AppendDone.{stopped_list}
use Rattle.cartridge_laws.proofs.AppendVolume.{stopped_volume}
use Rattle.cartridge_laws.proofs.ChangeViews.{view_elsewhere}
use Rattle.cartridge_laws.proofs.FormatCopies.{held_view, view_held}
use Rattle.cartridge_laws.proofs.FormatWriting.{effects-some, some_weaker}
use Rattle.cartridge_laws.proofs.MountParts.{code_block, front_sector, length-block, near_blocks, sector_there}
use Rattle.cartridge_laws.proofs.MountSeen.{HoldsOutside, by_place, last_used_is}
use Rattle.cartridge_laws.proofs.OneLossAppend.{append_changes_one_sector}
use Rattle.cartridge_laws.proofs.OneLossLines.{shows_used}
use Rattle.cartridge_laws.proofs.OneLossParity.{parity_differs, same_data}
use Rattle.cartridge_laws.proofs.Segments.{length-whole_cells}
use Rattle.cartridge_laws.proofs.Sets.{IsNoneOf}
use Rattle.cartridge_laws.specs.AppendBetween.{IsTurned, IsWhole}
use Rattle.cartridge_laws.specs.AppendLaws.{list_steps, new_table, volume_steps}
use Rattle.cartridge_laws.specs.MountBlocks.{HoldsPart}
use Rattle.cartridge_laws.specs.OneLossTables.{DifferInOne, IsLastInUse}
use Rattle.cartridge_laws.specs.Slots.{slot_sector}
use Rattle.cartridge_laws.specs.TableCells.{last_used}
use Rattle.cartridge_laws.specs.WrongTableLaws.{BetweenHasWrong, NoStopLeavesWrong, StoppedAppendHasWrong}
use Rattle.cartridge_laws.specs.WrongTableSector.{IsWrongInTable}
use Rattle.cartridge_spec.specs.Says.{with_parity}
use Rattle.cartridge_spec.specs.Settling.{changed_by}
use Rattle.cartridge_spec.specs.Shape.{IsArea, sector_at}
use Rattle.cartridge_spec.specs.TableSegment.{table_cells}
use Rattle.cartridge_spec.specs.Volumes.{worn}
use Rattle.qic_base.proofs.Steps.{Torn-append}
use Rattle.qic_base.specs.Cartridge.{Cartridge, view_at}
use Rattle.qic_base.specs.Step.{Step, Torn, worn_view}
use Rattle.qic_base.specs.declared.tape.SectorView.TheVariants.{Holds}

-- ---- a wrong sector

-- the sectors but the worn one are as they were
pub worn_other : (c : Cartridge) (wrong i : ℕ) → i ≢ wrong → view_at (worn 2 wrong c) 2 i ≡ view_at c 2 i
worn_other c wrong i apart =
    view_elsewhere c 2 wrong 2 i (worn_view (view_at c 2 wrong)) (λ same. let one : i ≡ wrong = omega arith in apart one)

-- the block of the others
abbrev pub block_of : {c : Cartridge} {wrong : ℕ} {area : List (List ℕ)} → IsWrongInTable c wrong area → List (List ℕ)
block_of is = is.says.1.block

long_block : (c : Cartridge) (wrong : ℕ) (area : List (List ℕ)) (is : IsWrongInTable c wrong area) → length (block_of is) ≡ 32
long_block c wrong area is = is.says.1.agrees.size ∙ length-whole_cells (worn 2 wrong c) 2

-- it holds what they hold
seen_at : (c : Cartridge) (wrong : ℕ) (area : List (List ℕ)) (is : IsWrongInTable c wrong area) (i : ℕ) (bytes : List ℕ) → i < 32 →
    i ≢ wrong →
    view_at c 2 i ≡ Holds bytes → sector_at (block_of is) i ≡ bytes
seen_at c wrong area is i bytes h apart held =
    ap (λ (o : Option (List ℕ)). unwrap_or o [])
    (is.says.1.agrees.each i bytes (view_held (worn 2 wrong c) 2 i bytes h (worn_other c wrong i apart ∙ held)))

-- and something else than the wrong one
not_here : (c : Cartridge) (wrong : ℕ) (area : List (List ℕ)) (is : IsWrongInTable c wrong area) (bytes : List ℕ) →
    view_at c 2 wrong ≡ Holds bytes → sector_at (block_of is) wrong ≢ bytes
not_here c wrong area is bytes here same =
    let long : length (block_of is) ≡ 32 = long_block c wrong area is in
    is.mismatch (block_of is) is.says.1.code (record {
      size = long ∙ sym (length-whole_cells c 2);
      each = λ i held at.
          let seen = held_view c 2 i held at in
          let within : i < 32 = seen.within in
          sector_there (block_of is) i (omega arith)
          ∙ ap (λ (b : List ℕ). Some b) (elim (cases_eq i wrong) [
            | inr apart ↦ seen_at c wrong area is i held within apart seen.view
            | inl there ↦
                let both : Holds bytes ≡ Holds held = sym here ∙ ap (view_at c 2) (sym there) ∙ seen.view in
                let one : bytes ≡ held = cc in
                ap (sector_at (block_of is)) there ∙ same ∙ one
          ]);
    })

-- where all sectors but this one and two more hold their part of an area, it is that one's block
block_is : (c : Cartridge) (wrong : ℕ) (area here : List (List ℕ)) (ps : List ℕ) (is : IsWrongInTable c wrong area) → IsArea here →
    length ps ≤ 2 → HoldsOutside c here (wrong ∷ ps) → block_of is ≡ with_parity here
block_is c wrong area here ps is sectors few holds =
    near_blocks (block_of is) (with_parity here) (wrong ∷ ps) is.says.1.code (code_block here sectors) (long_block c wrong area is)
    (length-block here sectors) (omega arith)
    (λ i h none. seen_at c wrong area is i (sector_at (with_parity here) i) h none.0 (holds i h none))

-- then the sector itself doesn't hold its part
not_its_part : (c : Cartridge) (wrong : ℕ) (area here : List (List ℕ)) (ps : List ℕ) (is : IsWrongInTable c wrong area) → IsArea here →
    length ps ≤ 2 → HoldsOutside c here (wrong ∷ ps) → ¬ (HoldsPart c here wrong)
not_its_part c wrong area here ps is sectors few holds part =
    not_here c wrong area is (sector_at (with_parity here) wrong) part
    (ap (λ (ss : List (List ℕ)). sector_at ss wrong) (block_is c wrong area here ps is sectors few holds))

-- ---- between two tables

last_is : (c : Cartridge) (new : List (List ℕ)) (k : ℕ) → IsArea new → k < 29 → IsLastInUse new k →
    ((i : ℕ) → i < 29 → HoldsPart c new i) → last_used (table_cells c) ≡ Some k
last_is c new k is place last holds =
    last_used_is (table_cells c) 29 k place (shows_used c new k is place (holds k place) ∙ last.used)
    (λ i behind h. shows_used c new i is h (holds i h) ∙ last.behind i behind h)

-- the data are new, and no sector of parity is
none_is_new : (c : Cartridge) (old new : List (List ℕ)) (k wrong : ℕ) (area : List (List ℕ)) → DifferInOne old new k → IsLastInUse new k →
    (turned : IsTurned c old new) → turned.turn ≡ 29 → IsWrongInTable c wrong area → last_used (table_cells c) ≡ Some wrong
none_is_new c old new k wrong area differ last turned first is =
    let place : k < 29 = differ.data_sector in
    let new_data : (i : ℕ) → i < 29 → HoldsPart c new i = λ i h. turned.before i (omega arith) in
    let holds : HoldsOutside c old (wrong ∷ k ∷ 29 ∷ []) =
    by_place (λ i. IsNoneOf (wrong ∷ k ∷ 29 ∷ []) i → HoldsPart c old i)
    (λ i h none. new_data i h ∙ ap Holds (sym (same_data old new k i differ h none.1.0)))
    (λ none. absurd (none.1.1.0 refl))
    (λ none. turned.behind 30 (omega arith) (omega arith))
    (λ none. turned.behind 31 (omega arith) (omega arith)) in
    let block : block_of is ≡ with_parity old = block_is c wrong area old (k ∷ 29 ∷ []) is differ.old_area (omega arith) holds in
    elim (cases_eq wrong k) [
      | inl same ↦ last_is c new k differ.new_area place last new_data ∙ ap (λ (n : ℕ). Some n) (sym same)
      | inr apart ↦
          let seen : sector_at (block_of is) k ≡ sector_at (with_parity new) k =
          seen_at c wrong area is k (sector_at (with_parity new) k) (omega arith) (λ e. apart (sym e)) (new_data k place) in
          absurd (differ.differs (sym (front_sector old differ.old_area k place)
          ∙ ap (λ (ss : List (List ℕ)). sector_at ss k) (sym block) ∙ seen ∙ front_sector new differ.new_area k place))
    ]

-- the data and the first sector of parity are new, and the last one isn't
last_is_old : (c : Cartridge) (old new : List (List ℕ)) (k wrong : ℕ) (area : List (List ℕ)) → DifferInOne old new k →
    (turned : IsTurned c old new) → turned.turn ≡ 30 → IsWrongInTable c wrong area → wrong ≡ 31
last_is_old c old new k wrong area differ turned second is =
    elim (cases_eq wrong 31) [
      | inl same ↦ same
      | inr apart ↦
          let holds : HoldsOutside c new (wrong ∷ 30 ∷ 31 ∷ []) =
          by_place (λ i. IsNoneOf (wrong ∷ 30 ∷ 31 ∷ []) i → HoldsPart c new i)
          (λ i h none. turned.before i (omega arith))
          (λ none. turned.before 29 (omega arith))
          (λ none. absurd (none.1.0 refl))
          (λ none. absurd (none.1.1.0 refl)) in
          let block : block_of is ≡ with_parity new = block_is c wrong area new (30 ∷ 31 ∷ []) is differ.new_area (omega arith) holds in
          let seen : sector_at (block_of is) 31 ≡ sector_at (with_parity old) 31 =
          seen_at c wrong area is 31 (sector_at (with_parity old) 31) (omega arith) (λ e. apart (sym e))
          (turned.behind 31 (omega arith) (omega arith)) in
          absurd (parity_differs old new k 31 differ (omega arith) (omega arith)
          (sym seen ∙ ap (λ (ss : List (List ℕ)). sector_at ss 31) block))
    ]

-- all sectors but the last one are new
but_the_last : (c : Cartridge) (old new : List (List ℕ)) (wrong : ℕ) (area : List (List ℕ)) → IsArea new →
    (turned : IsTurned c old new) → 31 ≤ turned.turn → IsWrongInTable c wrong area → wrong ≡ 31
but_the_last c old new wrong area is_new turned late is =
    elim (cases_eq wrong 31) [
      | inl same ↦ same
      | inr apart ↦
          let within : wrong < 32 = is.within in
          let holds : HoldsOutside c new (wrong ∷ 31 ∷ []) =
          by_place (λ i. IsNoneOf (wrong ∷ 31 ∷ []) i → HoldsPart c new i)
          (λ i h none. turned.before i (omega arith))
          (λ none. turned.before 29 (omega arith))
          (λ none. turned.before 30 (omega arith))
          (λ none. absurd (none.1.0 refl)) in
          absurd (not_its_part c wrong area new (31 ∷ []) is is_new (omega arith) holds (turned.before wrong (omega arith)))
    ]

turned_has_wrong : (c : Cartridge) (old new : List (List ℕ)) (k wrong : ℕ) (area : List (List ℕ)) → DifferInOne old new k →
    IsLastInUse new k → IsTurned c old new → IsWrongInTable c wrong area → (wrong ≡ 31) ⊎ (last_used (table_cells c) ≡ Some wrong)
turned_has_wrong c old new k wrong area differ last turned is =
    let from : 29 ≤ turned.turn = turned.from in
    elim (cases_eq turned.turn 29) [
      | inl first ↦ inr (none_is_new c old new k wrong area differ last turned first is)
      | inr not_first ↦ elim (cases_eq turned.turn 30) [
        | inl second ↦ inl (last_is_old c old new k wrong area differ turned second is)
        | inr not_second ↦ inl (but_the_last c old new wrong area differ.new_area turned (omega arith) is)
      ]
    ]

whole_has_none : (c : Cartridge) (here : List (List ℕ)) (wrong : ℕ) (area : List (List ℕ)) → IsArea here → IsWhole c here →
    ¬ (IsWrongInTable c wrong area)
whole_has_none c here wrong area sectors whole is =
    not_its_part c wrong area here [] is sectors (omega arith) (λ i h none. whole i h) (whole wrong is.within)

pub between_has_wrong : BetweenHasWrong
between_has_wrong c old new k wrong area differ last (inl whole) is = absurd (whole_has_none c old wrong area differ.old_area whole is)
between_has_wrong c old new k wrong area differ last (inr (inl begun)) is =
    absurd (is.mismatch (with_parity old) (code_block old differ.old_area) (begun_written c old k differ.old_area begun))
between_has_wrong c old new k wrong area differ last (inr (inr turned)) is = turned_has_wrong c old new k wrong area differ last turned is

-- ---- an append

pub stopped_append_has_wrong : StoppedAppendHasWrong
stopped_append_has_wrong c plain content left ready torn =
    let first : List Step = volume_steps plain content in
    let next : List Step = list_steps plain content in
    let d : Cartridge = changed_by first c in
    let changes = append_changes_one_sector c plain content ready.may in
    elim (Torn-append first next (Some c) left torn) [
      | inl front ↦
          some_weaker left
          (λ e stood wrong area is. absurd (whole_has_none e plain.table_area wrong area changes.0.old_area stood.1 is))
          (stopped_volume c plain content left ready front)
      | inr behind ↦
          let rear : Torn next (Some d) left = subst (λ (held : Option Cartridge). Torn next held left) (effects-some first c) behind in
          some_weaker left
          (λ e between wrong area is.
          between_has_wrong e plain.table_area (new_table plain content) (slot_sector (length plain.volumes)) wrong area
          changes.0 changes.1 between is)
          (stopped_list c d plain content left ready refl rear)
    ]

pub no_stop_leaves_wrong : NoStopLeavesWrong
no_stop_leaves_wrong c d plain content wrong area ready is small other torn =
    elim (stopped_append_has_wrong c plain content (Some d) ready torn wrong area is) [
      | inl last ↦ absurd (omega arith)
      | inr used ↦ other used
    ]
