-- Which sectors a reading left out of account, and which of them settling writes.
use Rattle.std.proofs.Common.{◌≡◌, ℕ, ◌∙◌, ap, false, List, refl, sym, not, ◌<◌, Bool, ◌≤◌, inl, inr, ◌++◌, true, arith, [], length, Some}
use Rattle.std.specs.Str.{bytes_eq}
use Rattle.std.proofs.lemmas.Bool.{not-false, lt-ltb, le-ltb, cases_lt, true≢false}
use Rattle.std.proofs.lemmas.Slice.Eq.{bytes_eq-Decides}
use Rattle.std.specs.Prelude.{if◌then◌else◌}
use Rattle.std.proofs.lemmas.Option.{get_or_from_slice_get}
use Rattle.cartridge_laws.proofs.MountNear.{IsRead, PartOrGone, gone_not_read, gone_or_read}
use Rattle.cartridge_laws.proofs.MountParts.{data_sector}
use Rattle.cartridge_laws.proofs.MountPlaces.{no_place}
use Rattle.cartridge_laws.proofs.MountSoFar.{IsTest}
use Rattle.cartridge_laws.proofs.MountStops.{holds_same}
use Rattle.cartridge_laws.proofs.MountWriting.{unsettled_data, unsettled_parity, held_there, solved_agree}
use Rattle.cartridge_laws.proofs.Segments.{cells_of_whole}
use Rattle.cartridge_laws.specs.MountBlocks.{HoldsPart}
use Rattle.cartridge_laws.specs.Segment.{IsUnreadable, places_where}
use Rattle.cartridge_spec.specs.TableSegment.{ReadsPlainly}
use Rattle.cartridge_spec.specs.Says.{with_parity}
use Rattle.cartridge_spec.specs.Settling.{holds_other, settling_places, holds}
use Rattle.cartridge_laws.specs.TableCells.{is_left_out, is_unsettled}
use Rattle.cartridge_spec.specs.Shape.{sector_at}
use Rattle.qic_base.specs.Cartridge.{Cartridge, view_at}
use Rattle.qic_base.specs.declared.tape.SectorView.{SectorView}
use Rattle.qic_base.specs.declared.tape.SectorView.TheVariants.{Holds, Blank, Defect, Lost}

-- ---- the two tests

part_is_no_other : (view : SectorView) (bytes : List ℕ) → view ≡ Holds bytes → holds_other view bytes ≡ false
part_is_no_other view bytes part = ap (λ (v : SectorView). holds_other v bytes) part ∙ holds_same bytes

gone_is_no_other : (view : SectorView) (bytes : List ℕ) → IsUnreadable view → holds_other view bytes ≡ false
gone_is_no_other Blank bytes gone = refl
gone_is_no_other Defect bytes gone = refl
gone_is_no_other Lost bytes gone = refl
gone_is_no_other (Holds held) bytes gone = absurd (cc)

-- a readable sector that holds no other bytes holds these
pub no_other_is_part : (view : SectorView) (bytes : List ℕ) → IsRead view → holds_other view bytes ≡ false → view ≡ Holds bytes
no_other_is_part view bytes read same =
    let equal : not (bytes_eq read.0 bytes) ≡ false = ap (λ (v : SectorView). holds_other v bytes) (sym read.1) ∙ same in
    read.1 ∙ ap Holds ((bytes_eq-Decides read.0 bytes).0 (not-false (bytes_eq read.0 bytes) equal))

pub left_out_data : (c : Cartridge) (block : List (List ℕ)) (i : ℕ) → i < 29 →
    is_left_out c block i ≡ holds_other (view_at c 2 i) (sector_at block i)
left_out_data c block i h = ap (λ (b : Bool). if b then holds_other (view_at c 2 i) (sector_at block i) else false) (lt-ltb i 29 h)

pub left_out_parity : (c : Cartridge) (block : List (List ℕ)) (i : ℕ) → 29 ≤ i → is_left_out c block i ≡ false
left_out_parity c block i h = ap (λ (b : Bool). if b then holds_other (view_at c 2 i) (sector_at block i) else false) (le-ltb i 29 h)

-- a sector that holds its part, or is unreadable, was not left out
pub not_left_out : (c : Cartridge) (area : List (List ℕ)) (i : ℕ) → i < 29 → PartOrGone c area i →
    is_left_out c (with_parity area) i ≡ false
not_left_out c area i h (inl part) =
    left_out_data c (with_parity area) i h ∙ part_is_no_other (view_at c 2 i) (sector_at (with_parity area) i) part
not_left_out c area i h (inr gone) =
    left_out_data c (with_parity area) i h ∙ gone_is_no_other (view_at c 2 i) (sector_at (with_parity area) i) gone

pub none_left_out : (c : Cartridge) (area : List (List ℕ)) → ((i : ℕ) → i < 29 → PartOrGone c area i) →
    settling_places c area ≡ places_where (is_unsettled c (with_parity area))
none_left_out c area each =
    ap (λ (ps : List ℕ). ps ++ places_where (is_unsettled c (with_parity area)))
    (no_place (is_left_out c (with_parity area)) (λ i h.
    elim (cases_lt i 29) [
      | inl front ↦ not_left_out c area i front (each i front)
      | inr back ↦ left_out_parity c (with_parity area) i back
    ]))

pub unsettled_holds_not : (c : Cartridge) (area : List (List ℕ)) (i : ℕ) → is_unsettled c (with_parity area) i ≡ true → HoldsPart c area i →
    ⊥
unsettled_holds_not c area i passes part =
    let bytes : List ℕ = sector_at (with_parity area) i in
    elim (cases_lt i 29) [
      | inl front ↦ gone_not_read (view_at c 2 i) bytes (sym (unsettled_data c (with_parity area) i front) ∙ passes) part
      | inr back ↦
          true≢false (sym passes ∙ unsettled_parity c (with_parity area) i back
          ∙ ap (λ (v : SectorView). not (holds v bytes)) part ∙ holds_same bytes)
    ]

pub settled_parity : (c : Cartridge) (area : List (List ℕ)) (i : ℕ) → 29 ≤ i → is_unsettled c (with_parity area) i ≡ false →
    HoldsPart c area i
settled_parity c area i back fails =
    let bytes : List ℕ = sector_at (with_parity area) i in
    held_there (view_at c 2 i) bytes
    (not-false (holds (view_at c 2 i) bytes) (sym (unsettled_parity c (with_parity area) i back) ∙ fails))

pub unsettled_test : (c : Cartridge) (area : List (List ℕ)) → IsTest c area (is_unsettled c (with_parity area))
unsettled_test c area = record {
  passes = λ i h. unsettled_holds_not c area i;
  fails = λ i back h. settled_parity c area i back;
}

-- ---- a table that is read plainly

plain_part : (c : Cartridge) (area : List (List ℕ)) (i : ℕ) → ReadsPlainly c area → i < 29 → PartOrGone c area i
plain_part c area i (inl reads) h =
    let here = reads.each i h in
    let size : length area ≡ 29 = reads.size in
    let both : Some (view_at c 2 i) ≡ Some (Holds here.0) = sym (cells_of_whole c 2 i (omega arith)) ∙ here.1 in
    let view : view_at c 2 i ≡ Holds here.0 = cc in
    let part : sector_at (with_parity area) i ≡ here.0 = data_sector area i (omega arith) ∙ get_or_from_slice_get area i here.0 [] here.2 in
    inl (view ∙ ap Holds (sym part))
plain_part c area i (inr says) h =
    elim (gone_or_read (view_at c 2 i)) [
      | inl gone ↦ inr gone
      | inr read ↦ inl (read.1 ∙ ap Holds (solved_agree c area i read.0 says (omega arith) read.1))
    ]

-- so none is left out
pub plain_places : (c : Cartridge) (area : List (List ℕ)) → ReadsPlainly c area →
    settling_places c area ≡ places_where (is_unsettled c (with_parity area))
plain_places c area plain = none_left_out c area (λ i h. plain_part c area i plain h)
