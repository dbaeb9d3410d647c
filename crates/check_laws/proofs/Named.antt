-- Where the sectors of the table's segment are those of two tables that differ in one sector of data, a check names none.
use Rattle.std.proofs.Common.{◌≡◌, ◌≢◌, ◌⊎◌, inl, inr, ℕ, zero, suc, ◌<◌, ◌≤◌, List, [], ◌∷◌, length, Option, Some, arith, ap, sym, ◌∙◌}
use Rattle.std.proofs.Common.{cond, subst, Bool, slice_get}
use Rattle.std.specs.Prelude.{unwrap_or, IsSomeAnd}
use Rattle.std.proofs.lemmas.Bool.{cases_eq, cases_lt}
use Rattle.cartridge_laws.proofs.Cells.{unreadable_count-first}
use Rattle.cartridge_laws.proofs.FormatCopies.{held_view, view_held}
use Rattle.cartridge_laws.proofs.MountParts.{code_block, front_sector, length-block, near_blocks, sector_there}
use Rattle.cartridge_laws.proofs.MountSeen.{HoldsOutside, last_used_is, some_lost}
use Rattle.cartridge_laws.proofs.OneLossLines.{shows_used}
use Rattle.cartridge_laws.proofs.OneLossParity.{same_data}
use Rattle.cartridge_laws.proofs.Segments.{cells_of_whole, length-whole_cells}
use Rattle.cartridge_laws.proofs.WrongTable.{worn_other}
use Rattle.cartridge_laws.specs.MountBlocks.{HoldsPart}
use Rattle.cartridge_laws.specs.OneLossTables.{DifferInOne, IsLastInUse}
use Rattle.cartridge_laws.specs.Segment.{IsUnreadable, unreadable_data}
use Rattle.cartridge_laws.specs.TableCells.{last_used}
use Rattle.cartridge_laws.specs.WrongTableSector.{IsWrongInTable}
use Rattle.cartridge_spec.specs.Says.{unreadable_count, with_parity}
use Rattle.cartridge_spec.specs.Shape.{IsArea, is_unreadable, sector_at}
use Rattle.cartridge_spec.specs.TableSegment.{table_cells}
use Rattle.cartridge_spec.specs.Volumes.{worn}
use Rattle.command_laws.proofs.CheckTable.{named_in_table_is_wrong}
use Rattle.command_spec.specs.Check.{IsTold}
use Rattle.command_spec.specs.Scrub.{whole_segment}
use Rattle.command_spec.specs.declared.verdict.Verdict.TheVariants.{Wrong}
use Rattle.qic_base.specs.Cartridge.{Cartridge, view_at}
use Rattle.qic_base.specs.declared.tape.SectorView.{SectorView}
use Rattle.qic_base.specs.declared.tape.SectorView.TheVariants.{Holds}

-- ---- the sectors of two tables

-- each sector of the table's segment is unreadable, or holds its part of one of these two tables
abbrev pub IsOfTwo : (d : Cartridge) (old new : List (List ℕ)) → Type 0
IsOfTwo d old new = (i : ℕ) → i < 32 → IsUnreadable (view_at d 2 i) ⊎ HoldsPart d old i ⊎ HoldsPart d new i

-- this one isn't old
abbrev pub IsNotOld : (d : Cartridge) (new : List (List ℕ)) (changed : ℕ) → Type 0
IsNotOld d new changed = IsUnreadable (view_at d 2 changed) ⊎ HoldsPart d new changed

-- at most one sector of parity is new
abbrev pub HasFewNew : (d : Cartridge) (new : List (List ℕ)) → Type 0
HasFewNew d new = (i j : ℕ) → 29 ≤ i → i < j → j < 32 → HoldsPart d new i → HoldsPart d new j → ⊥

-- so a stopped append and the settling behind it leave them
pub record IsBetween (d : Cartridge) (old new : List (List ℕ)) (changed : ℕ) : Type 0 where
  pub differ : DifferInOne old new changed
  pub last : IsLastInUse new changed
  pub each : IsOfTwo d old new
  pub turned : IsNotOld d new changed ⊎ HasFewNew d new

-- ---- unreadable sectors

IsGone : List SectorView → ℕ → Type 0
IsGone cells i = IsSomeAnd (slice_get cells i) IsUnreadable

one_gone : (cells : List SectorView) (i : ℕ) → IsGone cells i → 1 ≤ unreadable_count cells
unfolding IsGone
one_gone [] i gone = absurd gone
one_gone (cell ∷ cells) zero gone =
    let one : cond {A = ℕ} (is_unreadable cell) 1 0 ≡ 1 = ap (λ (b : Bool). cond {A = ℕ} b 1 0) gone in
    omega (arith, unreadable_count-first cell cells)
one_gone (cell ∷ cells) (suc i) gone = let rest = one_gone cells i gone in omega (arith, unreadable_count-first cell cells)

two_gone : (cells : List SectorView) (i j : ℕ) → i < j → IsGone cells i → IsGone cells j → 2 ≤ unreadable_count cells
unfolding IsGone
two_gone [] i j before first second = absurd first
two_gone (cell ∷ cells) i zero before first second = absurd (omega arith)
two_gone (cell ∷ cells) zero (suc j) before first second =
    let one : cond {A = ℕ} (is_unreadable cell) 1 0 ≡ 1 = ap (λ (b : Bool). cond {A = ℕ} b 1 0) first in
    let rest = one_gone cells j second in
    omega (arith, unreadable_count-first cell cells)
two_gone (cell ∷ cells) (suc i) (suc j) before first second =
    let rest = two_gone cells i j (omega arith) first second in omega (arith, unreadable_count-first cell cells)

gone_there : (d : Cartridge) (i : ℕ) → i < 32 → IsUnreadable (view_at d 2 i) → IsGone (table_cells d) i
unfolding IsGone
gone_there d i h gone = subst (λ (o : Option SectorView). IsSomeAnd o IsUnreadable) (sym (cells_of_whole d 2 i h)) gone

-- ---- two of three sectors of parity

two_of_three : (d : Cartridge) (P : ℕ → Type 0) → unreadable_count (table_cells d) ≤ 1 →
    ((i : ℕ) → 29 ≤ i → i < 32 → IsUnreadable (view_at d 2 i) ⊎ P i) → (P 29 × P 30) ⊎ (P 29 × P 31) ⊎ (P 30 × P 31)
two_of_three d P few each =
    elim (each 29 (omega arith) (omega arith)) [
      | inl lost ↦ inr (inr (
        beside 29 30 (omega arith) (omega arith) lost (each 30 (omega arith) (omega arith)),
        beside 29 31 (omega arith) (omega arith) lost (each 31 (omega arith) (omega arith)),
      ))
      | inr first ↦ elim (each 30 (omega arith) (omega arith)) [
        | inl lost ↦ inr (inl (first, beside 30 31 (omega arith) (omega arith) lost (each 31 (omega arith) (omega arith))))
        | inr second ↦ inl (first, second)
      ]
    ]
  where
    beside : (i j : ℕ) → i < j → j < 32 → IsUnreadable (view_at d 2 i) → IsUnreadable (view_at d 2 j) ⊎ P j → P j
    beside i j before h lost (inl other) =
        let both : 2 ≤ unreadable_count (table_cells d) =
        two_gone (table_cells d) i j before (gone_there d i (omega arith) lost) (gone_there d j h other) in
        absurd (omega arith)
    beside i j before h lost (inr here) = here

-- ---- the block of all others

module _ (d : Cartridge) (w : ℕ) (area : List (List ℕ)) (is : IsWrongInTable d w area) where
  block : List (List ℕ)
  block = is.says.1.block

  long : length block ≡ 32
  unfolding block
  long = is.says.1.agrees.size ∙ length-whole_cells (worn 2 w d) 2

  -- it holds what they hold
  seen : (i : ℕ) (bytes : List ℕ) → i < 32 → i ≢ w → view_at d 2 i ≡ Holds bytes → sector_at block i ≡ bytes
  unfolding block
  seen i bytes h apart held =
      ap (λ (o : Option (List ℕ)). unwrap_or o [])
      (is.says.1.agrees.each i bytes (view_held (worn 2 w d) 2 i bytes h (worn_other d w i apart ∙ held)))

  -- where they hold their parts of an area, but for two more, it is that one's
  block_is : (here : List (List ℕ)) (ps : List ℕ) → IsArea here → length ps ≤ 2 → HoldsOutside d here (w ∷ ps) →
      block ≡ with_parity here
  unfolding block
  block_is here ps sectors few holds =
      near_blocks block (with_parity here) (w ∷ ps) is.says.1.code (code_block here sectors) long (length-block here sectors) (omega arith)
      (λ i h none. seen i (sector_at (with_parity here) i) h none.0 (holds i h none))

  -- and then this one doesn't
  not_its_part : (here : List (List ℕ)) (ps : List ℕ) → IsArea here → length ps ≤ 2 → HoldsOutside d here (w ∷ ps) → HoldsPart d here w → ⊥
  not_its_part here ps sectors few holds part =
      let same : block ≡ with_parity here = block_is here ps sectors few holds in
      is.mismatch (with_parity here) (code_block here sectors) (record {
        size = length-block here sectors ∙ sym (length-whole_cells d 2);
        each = λ i held at.
            let found = held_view d 2 i held at in
            let within : i < 32 = found.within in
            sector_there (with_parity here) i (omega (arith, length-block here sectors))
            ∙ ap (λ (b : List ℕ). Some b) (elim (cases_eq i w) [
              | inr apart ↦ ap (λ (ss : List (List ℕ)). sector_at ss i) (sym same) ∙ seen i held within apart found.view
              | inl there ↦
                  let both : Holds (sector_at (with_parity here) w) ≡ Holds held = sym part ∙ ap (view_at d 2) (sym there) ∙ found.view in
                  let one : sector_at (with_parity here) w ≡ held = cc in
                  ap (sector_at (with_parity here)) there ∙ one
            ]);
      })

  -- ---- all sectors of data are those of an area

  module _ (here : List (List ℕ)) (sectors : IsArea here) (data_here : (i : ℕ) → i < 29 → HoldsPart d here i) (small : w < 29) where
    -- then each sector of parity is another one's
    not_parity : (q a b : ℕ) → ((i : ℕ) → 29 ≤ i → i < 32 → i ≢ a → i ≢ b → i ≡ q) → HoldsPart d here q → ⊥
    not_parity q a b only part =
        not_its_part here (a ∷ b ∷ []) sectors (omega arith)
        (λ i h none.
        elim (cases_lt i 29) [
          | inl front ↦ data_here i front
          | inr behind ↦ subst (HoldsPart d here) (sym (only i behind h none.1.0 none.1.1.0)) part
        ])
        (data_here w small)

    no_parity : (i : ℕ) → 29 ≤ i → i < 32 → HoldsPart d here i → ⊥
    no_parity i from below part =
        elim (cases_eq i 29) [
          | inl first ↦ not_parity i 30 31 (λ j l h p q. omega arith) part
          | inr not_first ↦ elim (cases_eq i 30) [
            | inl second ↦ not_parity i 29 31 (λ j l h p q. omega arith) part
            | inr not_second ↦ not_parity i 29 30 (λ j l h p q. omega arith) part
          ]
        ]

-- ---- none is named

module _ (d : Cartridge) (old new : List (List ℕ)) (k : ℕ) (left : IsBetween d old new k) (w : ℕ) (area : List (List ℕ))
    (is : IsWrongInTable d w area) (small : w < 29) (readable : unreadable_data (table_cells d) ≡ 0)
    (few : unreadable_count (table_cells d) ≤ 1) where
  not_lost : (i : ℕ) → i < 29 → IsUnreadable (view_at d 2 i) → ⊥
  not_lost i h gone = let some = some_lost d i h gone in omega arith

  -- the changed sector is old
  old_data : HoldsPart d old k → (i : ℕ) → i < 29 → HoldsPart d old i
  old_data here i h =
      elim (cases_eq i k) [
        | inl same ↦ subst (HoldsPart d old) (sym same) here
        | inr apart ↦ elim (left.each i (omega arith)) [
          | inl gone ↦ absurd (not_lost i h gone)
          | inr (inl part) ↦ part
          | inr (inr part) ↦ part ∙ ap Holds (sym (same_data old new k i left.differ h apart))
        ]
      ]

  is_old : HasFewNew d new → HoldsPart d old k → ⊥
  is_old none here =
      let data_old : (i : ℕ) → i < 29 → HoldsPart d old i = old_data here in
      let parity : (i : ℕ) → 29 ≤ i → i < 32 → IsUnreadable (view_at d 2 i) ⊎ HoldsPart d new i = λ i l h.
      elim (left.each i h) [
        | inl gone ↦ inl gone
        | inr (inl part) ↦ absurd (no_parity d w area is old left.differ.old_area data_old small i l h part)
        | inr (inr part) ↦ inr part
      ] in
      elim (two_of_three d (HoldsPart d new) few parity) [
        | inl both ↦ none 29 30 (omega arith) (omega arith) (omega arith) both.0 both.1
        | inr (inl both) ↦ none 29 31 (omega arith) (omega arith) (omega arith) both.0 both.1
        | inr (inr both) ↦ none 30 31 (omega arith) (omega arith) (omega arith) both.0 both.1
      ]

  -- it is new
  new_data : HoldsPart d new k → (i : ℕ) → i < 29 → HoldsPart d new i
  new_data here i h =
      elim (cases_eq i k) [
        | inl same ↦ subst (HoldsPart d new) (sym same) here
        | inr apart ↦ elim (left.each i (omega arith)) [
          | inl gone ↦ absurd (not_lost i h gone)
          | inr (inl part) ↦ part ∙ ap Holds (same_data old new k i left.differ h apart)
          | inr (inr part) ↦ part
        ]
      ]

  -- then it is the last one in use
  last_is : ((i : ℕ) → i < 29 → HoldsPart d new i) → last_used (table_cells d) ≡ Some k
  last_is holds =
      let place : k < 29 = left.differ.data_sector in
      last_used_is (table_cells d) 29 k place (shows_used d new k left.differ.new_area place (holds k place) ∙ left.last.used)
      (λ i behind h. shows_used d new i left.differ.new_area h (holds i h) ∙ left.last.behind i behind h)

  -- all sectors of parity but one are old
  old_but : (p : ℕ) → ((i : ℕ) → i < 29 → HoldsPart d new i) → w ≢ k → ((i : ℕ) → 29 ≤ i → i < 32 → i ≢ p → HoldsPart d old i) → ⊥
  old_but p data_new apart parity =
      let place : k < 29 = left.differ.data_sector in
      let holds : HoldsOutside d old (w ∷ k ∷ p ∷ []) = λ i h none.
      elim (cases_lt i 29) [
        | inl front ↦ data_new i front ∙ ap Holds (sym (same_data old new k i left.differ front none.1.0))
        | inr behind ↦ parity i behind h none.1.1.0
      ] in
      let same = block_is d w area is old (k ∷ p ∷ []) left.differ.old_area (omega arith) holds in
      let there = seen d w area is k (sector_at (with_parity new) k) (omega arith) (λ e. apart (sym e)) (data_new k place) in
      left.differ.differs (sym (front_sector old left.differ.old_area k place)
      ∙ ap (λ (ss : List (List ℕ)). sector_at ss k) (sym same) ∙ there ∙ front_sector new left.differ.new_area k place)

  two_but : (p q r : ℕ) → ((i : ℕ) → 29 ≤ i → i < 32 → i ≢ p → i ≢ q → i ≡ r) → HoldsPart d old q → HoldsPart d old r → (i : ℕ) →
      29 ≤ i → i < 32 → i ≢ p → HoldsPart d old i
  two_but p q r only first second i l h apart =
      elim (cases_eq i q) [
        | inl same ↦ subst (HoldsPart d old) (sym same) first
        | inr other ↦ subst (HoldsPart d old) (sym (only i l h apart other)) second
      ]

  is_new : last_used (table_cells d) ≢ Some w → HoldsPart d new k → ⊥
  is_new other here =
      let data_new : (i : ℕ) → i < 29 → HoldsPart d new i = new_data here in
      let used : last_used (table_cells d) ≡ Some k = last_is data_new in
      let apart : w ≢ k = λ same. other (used ∙ ap (λ (n : ℕ). Some n) (sym same)) in
      let parity : (i : ℕ) → 29 ≤ i → i < 32 → IsUnreadable (view_at d 2 i) ⊎ HoldsPart d old i = λ i l h.
      elim (left.each i h) [
        | inl gone ↦ inl gone
        | inr (inl part) ↦ inr part
        | inr (inr part) ↦ absurd (no_parity d w area is new left.differ.new_area data_new small i l h part)
      ] in
      elim (two_of_three d (HoldsPart d old) few parity) [
        | inl both ↦ old_but 31 data_new apart (two_but 31 29 30 (λ i l h p q. omega arith) both.0 both.1)
        | inr (inl both) ↦ old_but 30 data_new apart (two_but 30 29 31 (λ i l h p q. omega arith) both.0 both.1)
        | inr (inr both) ↦ old_but 29 data_new apart (two_but 29 30 31 (λ i l h p q. omega arith) both.0 both.1)
      ]

  none_wrong : last_used (table_cells d) ≢ Some w → ⊥
  none_wrong other =
      let place : k < 29 = left.differ.data_sector in
      elim left.turned [
        | inl (inl gone) ↦ not_lost k place gone
        | inl (inr part) ↦ is_new other part
        | inr none ↦ elim (left.each k (omega arith)) [
          | inl gone ↦ not_lost k place gone
          | inr (inl part) ↦ is_old none part
          | inr (inr part) ↦ is_new other part
        ]
      ]

pub between_names_none : (d : Cartridge) (old new : List (List ℕ)) (k : ℕ) → IsBetween d old new k → (sector : ℕ) →
    ¬ (IsTold d (whole_segment 2) (Wrong sector))
between_names_none d old new k left sector told =
    let named = named_in_table_is_wrong d sector told in
    none_wrong d old new k left sector named.0.0 named.0.1 named.1 named.3 named.4 named.2
