-- The table's data by its cells, of which the sectors were gathered.
use Rattle.std.proofs.Common.{◌≡◌, ◌↔◌, ℕ, ◌*◌, ◌/◌, ◌%◌, ◌^◌, ◌<◌, List, ◌++◌, length, take, drop, Option, Some, None, IfSome, refl}
use Rattle.std.proofs.Common.{sym, subst, inl, inr, arith}
use Rattle.std.proofs.lemmas.Bool.{cases_eq}
use Rattle.std.proofs.lemmas.List.{length-take-le, take_at}
use Rattle.std.proofs.lemmas.Nat.Bits.{bit_at-zero}
use Rattle.table_solve.proofs.Collected.{left_some}
use Rattle.table_solve.proofs.Segment.{collected_loses}
use Rattle.table_solve.proofs.Trials.{IsCollected, has_data}
use Rattle.table_solve.specs.Reading.{IsSolvedAt}
use Rattle.table_solve.specs.declared.unread.Unread.{Unread}
use Rattle.cartridge_laws.proofs.TableSayings.{table_says_is_function}
use Rattle.cartridge_laws.specs.Says.{LosesData}
use Rattle.cartridge_spec.specs.Says.{TableSays, AsRead, ByCode, Data, LostSectors, Mismatch}
use Rattle.dump_spec.specs.Table.{IsTapeTable}
use Rattle.qic_base.specs.Cartridge.{lost_places}
use Rattle.qic_base.specs.CartridgeTerms.{IsLost}
use Rattle.qic_base.specs.declared.tape.SectorView.{SectorView}
use Rattle.segment_solve.proofs.SolvedCells.{says_lost}
use Rattle.segment_solve.specs.Gathered.{Gathered}
use Rattle.volume_table.specs.Trials.{tried}

-- ---- as they stand

-- ---- none

none_lost : (cells : List SectorView) (n : ℕ) → TableSays cells (ByCode (LostSectors n)) → (area : List (List ℕ)) → IsTapeTable cells area →
    ⊥
none_lost cells n says area (inl reads) =
    let same : ByCode (LostSectors n) ≡ AsRead area = table_says_is_function cells (ByCode (LostSectors n)) (AsRead area) says reads in cc
none_lost cells n says area (inr other) =
    let same : ByCode (LostSectors n) ≡ ByCode (Data area) =
    table_says_is_function cells (ByCode (LostSectors n)) (ByCode (Data area)) says other in cc

pub none_many : (cells : List SectorView) (lost n : ℕ) (sectors : List (List ℕ)) → length cells ≡ 32 → Gathered cells lost sectors →
    LosesData lost → length (lost_places lost 32) ≡ n → 3 < n → (area : List (List ℕ)) → IsTapeTable cells area → ⊥
none_many cells lost n sectors count gathered loses number many =
    none_lost cells n (
      collected_loses cells lost sectors gathered loses,
      says_lost cells lost n (omega arith) gathered.unreadable number many,
    )

pub none_mismatch : (cells : List SectorView) → TableSays cells (ByCode Mismatch) → (area : List (List ℕ)) → IsTapeTable cells area → ⊥
none_mismatch cells says area (inl reads) =
    let same : ByCode Mismatch ≡ AsRead area = table_says_is_function cells (ByCode Mismatch) (AsRead area) says reads in cc
none_mismatch cells says area (inr other) =
    let same : ByCode Mismatch ≡ ByCode (Data area) = table_says_is_function cells (ByCode Mismatch) (ByCode (Data area)) says other in cc

-- ---- by a set

-- the set of the last used sector, where that is in a set
some_left : (set : ℕ) (used : Option ℕ) → IfSome used (λ k. k < 29) → (left : ℕ) ×
    ((i : ℕ) → IsLost left i ↔ ((used ≡ Some i) × IsLost set i))
some_left set None below = (0, λ i. (λ there. absurd (no_bit i there), λ both. absurd (cc (both.0))))
  where
    no_bit : (i : ℕ) → IsLost 0 i → ⊥
    no_bit i there = let bit : 0 / 2 ^ i % 2 ≡ 0 = bit_at-zero i in absurd (omega arith)
some_left set (Some place) below =
    elim (cases_eq (set / 2 ^ place % 2) 1) [
      | inl there ↦ (1 * 2 ^ place % 2 ^ 32, left_some set (1 * 2 ^ place % 2 ^ 32) place (Some place) refl below there refl)
      | inr kept ↦ (
        0,
        λ i. (
          λ there. absurd (no_bit i there),
          λ both. absurd (let same : place ≡ i = cc (both.0) in kept (subst (IsLost set) (sym same) both.1)),
        ),
      )
    ]
  where
    no_bit : (i : ℕ) → IsLost 0 i → ⊥
    no_bit i there = let bit : 0 / 2 ^ i % 2 ≡ 0 = bit_at-zero i in absurd (omega arith)

pub has_table : (cells : List SectorView) (lost : ℕ) (used : Option ℕ) (old new : List (List ℕ)) (set : ℕ) → IsCollected cells lost used
    old →
    IsSolvedAt (tried lost used) old new set → length new ≡ 32 → IsTapeTable cells (take 29 new)
has_table cells lost used old new set is solved size =
    let left = some_left set used is.data_sector in
    let unread : Unread = record { lost = lost; left_out = left.0 } in
    let says = (has_data cells lost used old new (take 29 new ++ drop 29 old) set unread is solved size refl refl left.1).says in
    inr (subst (λ (area : List (List ℕ)). TableSays cells (ByCode (Data area)))
    (take_at (take 29 new) (drop 29 old) 29 (length-take-le 29 new (omega arith))) says)
