-- What the cells of a segment are by the views of its sectors, and whether a header copy reads.
use Rattle.std.proofs.Common.{◌≡◌, ℕ, ◌<◌, List, ◌-◌, sym, ◌∙◌, arith, length, slice_get, Some, ap, ◌≤◌, true, inl, inr, false, cond, refl}
use Rattle.std.proofs.Common.{suc, [], ◌∷◌, ◌+◌, ◌*◌, replicate, zero, ◌==◌, get_or}
use Rattle.std.proofs.lemmas.Option.{slice_get_within, unwrap_or-slice_get, slice_get-get_or, get_or_from_slice_get}
use Rattle.std.proofs.lemmas.Bool.{cases_lt, false≢true}
use Rattle.std.proofs.lemmas.List.{get_or-replicate, get_or_past, length-replicate, take_all, get_or-take}
use Rattle.cartridge_laws.proofs.Cells.{unreadable_count-first, IsReadable, count_of_readable, one_if_any}
use Rattle.cartridge_laws.proofs.Sayings.{written_is_said}
use Rattle.cartridge_laws.proofs.Segments.{cells_of_whole, length-whole_cells, zero_does_not_read}
use Rattle.cartridge_laws.specs.FormatLaws.{NewHasNoHeader}
use Rattle.cartridge_laws.specs.HeaderTerms.{IsBareCopy}
use Rattle.cartridge_spec.specs.Formatting.{HasNoHeader}
use Rattle.cartridge_spec.specs.Header.{has_signature}
use Rattle.cartridge_spec.specs.Shape.{IsArea, is_unreadable, sector_at}
use Rattle.cartridge_spec.specs.HeaderCopies.{copy_cells, CopyReads, CopyDoesNotRead, IsUnformatted}
use Rattle.cartridge_spec.specs.Says.{whole_mask, cells_of, Zero, Written, unreadable_count, with_parity, HasBlock}
use Rattle.qic_base.specs.Cartridge.{Cartridge, view_at, zero_sector, new_cartridge}
use Rattle.qic_base.specs.Field.{number_at}
use Rattle.qic_base.specs.declared.tape.SectorView.{SectorView}
use Rattle.qic_base.specs.declared.tape.SectorView.TheVariants.{Holds, Blank, Defect, Lost}

-- ---- cells and views

-- a cell that holds bytes is a sector that does
pub record IsHeld (c : Cartridge) (segment i : ℕ) (bytes : List ℕ) : Type 0 where
  pub within : i < 32
  pub view : view_at c segment i ≡ Holds bytes

pub held_view : (c : Cartridge) (segment i : ℕ) (bytes : List ℕ) →
    slice_get (cells_of c segment whole_mask) i ≡ Some (Holds bytes) → IsHeld c segment i bytes
held_view c segment i bytes at =
    let long : length (cells_of c segment whole_mask) ≡ 32 = length-whole_cells c segment in
    let below : i < length (cells_of c segment whole_mask) = slice_get_within (cells_of c segment whole_mask) i (Holds bytes) at in
    let within : i < 32 = omega arith in
    let same : Some (view_at c segment i) ≡ Some (Holds bytes) = sym (cells_of_whole c segment i within) ∙ at in
    record { within = within; view = cc }

pub view_held : (c : Cartridge) (segment i : ℕ) (bytes : List ℕ) → i < 32 → view_at c segment i ≡ Holds bytes →
    slice_get (cells_of c segment whole_mask) i ≡ Some (Holds bytes)
view_held c segment i bytes h view = cells_of_whole c segment i h ∙ ap Some view

-- each sector of the segment that can be read holds zero bytes
pub record HoldsZeros (c : Cartridge) (segment : ℕ) : Type 0 where
  pub each : (i : ℕ) (bytes : List ℕ) → i < 32 → view_at c segment i ≡ Holds bytes → bytes ≡ zero_sector

-- each sector of the segment that can be read could be read, and held the same
pub record Shrank (segment : ℕ) (c d : Cartridge) : Type 0 where
  pub each : (i : ℕ) (bytes : List ℕ) → i < 32 → view_at d segment i ≡ Holds bytes → view_at c segment i ≡ Holds bytes

pub zero_from_views : {c : Cartridge} {segment : ℕ} → HoldsZeros c segment → Zero (cells_of c segment whole_mask)
zero_from_views {c = c} {segment = segment} zeros i bytes at =
    let held = held_view c segment i bytes at in
    zeros.each i bytes held.within held.view

pub zero_shrank : {segment : ℕ} {c d : Cartridge} → Shrank segment c d → Zero (cells_of c segment whole_mask) →
    Zero (cells_of d segment whole_mask)
zero_shrank {segment = segment} {c = c} {d = d} shrank zeros i bytes at =
    let held = held_view d segment i bytes at in
    zeros i bytes (view_held c segment i bytes held.within (shrank.each i bytes held.within held.view))

pub written_shrank : {segment : ℕ} {c d : Cartridge} (sectors : List (List ℕ)) → Shrank segment c d →
    Written (cells_of c segment whole_mask) sectors → Written (cells_of d segment whole_mask) sectors
written_shrank {segment = segment} {c = c} {d = d} sectors shrank written = record {
  size = written.size ∙ length-whole_cells c segment ∙ sym (length-whole_cells d segment);
  each = λ i bytes at.
      let held = held_view d segment i bytes at in
      written.each i bytes (view_held c segment i bytes held.within (shrank.each i bytes held.within held.view));
}

-- ---- header copies

pub written_reads : (c : Cartridge) (copy : ℕ) (area : List (List ℕ)) → IsArea area → has_signature area ≡ true →
    Written (copy_cells c copy) area → unreadable_count (copy_cells c copy) ≤ 3 → CopyReads c copy area
written_reads c copy area is_area signature written few =
    let size : length area ≡ 29 = is_area.size in
    record {
      says = written_is_said (copy_cells c copy) area (omega arith) (omega arith) is_area.sectors written few;
      signature = signature;
    }

pub lost_does_not_read : (c : Cartridge) (copy : ℕ) → 3 < unreadable_count (copy_cells c copy) → CopyDoesNotRead c copy
lost_does_not_read c copy many area reads =
    let few : unreadable_count (copy_cells c copy) ≤ 3 = reads.says.0 in
    omega arith

-- a copy that is bare can't be read
bare_does_not_read : (c : Cartridge) (copy : ℕ) → IsBareCopy c copy → CopyDoesNotRead c copy
bare_does_not_read c copy (inl zeros) = zero_does_not_read c copy zeros
bare_does_not_read c copy (inr many) = lost_does_not_read c copy many

pub unformatted_from_bare : (c : Cartridge) → HasNoHeader c → IsUnformatted c
unformatted_from_bare c none = inr (bare_does_not_read c 0 none.first, bare_does_not_read c 1 none.second)

-- where a cell can be read only if another can, it counts no less
counts_no_less : (x y : SectorView) → ((bytes : List ℕ) → y ≡ Holds bytes → x ≡ Holds bytes) →
    cond (is_unreadable x) 1 0 ≤ cond (is_unreadable y) 1 0
counts_no_less x Blank held = one_if_any (is_unreadable x)
counts_no_less x Defect held = one_if_any (is_unreadable x)
counts_no_less x Lost held = one_if_any (is_unreadable x)
counts_no_less x (Holds bytes) held =
    let one : SectorView → ℕ = λ view. cond (is_unreadable view) 1 0 in
    let none : one x ≡ 0 = ap one (held bytes refl) in
    omega arith

pub no_fewer_unreadable : (xs ys : List SectorView) → length xs ≡ length ys →
    ((i : ℕ) (bytes : List ℕ) → slice_get ys i ≡ Some (Holds bytes) → slice_get xs i ≡ Some (Holds bytes)) →
    unreadable_count xs ≤ unreadable_count ys
no_fewer_unreadable [] [] long held = omega arith
no_fewer_unreadable [] (y ∷ ys) long held = absurd (omega arith)
no_fewer_unreadable (x ∷ xs) [] long held = absurd (omega arith)
no_fewer_unreadable (x ∷ xs) (y ∷ ys) long held =
    let first = counts_no_less x y (λ bytes is. let at : Some x ≡ Some (Holds bytes) = held 0 bytes (ap (λ (z : SectorView). Some z) is) in
    cc) in
    let rest = no_fewer_unreadable xs ys (omega arith) (λ i. held (suc i)) in
    omega (arith, unreadable_count-first x xs, unreadable_count-first y ys)

-- a copy whose readable sectors are some of those that it had is as bare
pub bare_shrank : {copy : ℕ} {c d : Cartridge} → Shrank copy c d → IsBareCopy c copy → IsBareCopy d copy
bare_shrank shrank (inl zeros) = inl (zero_shrank shrank zeros)
bare_shrank {copy = copy} {c = c} {d = d} shrank (inr many) =
    let no_fewer = no_fewer_unreadable (copy_cells c copy) (copy_cells d copy) (length-whole_cells c copy ∙ sym (length-whole_cells d copy))
    (λ i bytes at.
    let held = held_view d copy i bytes at in
    view_held c copy i bytes held.within (shrank.each i bytes held.within held.view)) in
    inr (omega arith)

-- so are both of a new cartridge
new_view : (n segment i : ℕ) → view_at (new_cartridge n) segment i ≡ Blank
new_view n segment i =
    unwrap_or-slice_get (replicate (896 * n) Blank) (32 * segment + i) Blank
    ∙ elim (cases_lt (32 * segment + i) (896 * n)) [
      | inl inside ↦ get_or-replicate (896 * n) (32 * segment + i) Blank Blank inside
      | inr past ↦ get_or_past (replicate (896 * n) Blank) (32 * segment + i) Blank (simp length-replicate past)
    ]

new_zeros : (n segment : ℕ) → HoldsZeros (new_cartridge n) segment
new_zeros n segment = record {
  each = λ i bytes h view.
      let none : Blank ≡ Holds bytes = sym (new_view n segment i) ∙ view in
      absurd (cc);
}

pub new_has_no_header : NewHasNoHeader
new_has_no_header n = record { first = inl (zero_from_views (new_zeros n 0)); second = inl (zero_from_views (new_zeros n 1)) }

-- ---- a copy that was written

-- the segment's sectors hold those of the block, but that the first may be unreadable
pub record IsCopyOf (c : Cartridge) (segment : ℕ) (block : List (List ℕ)) : Type 0 where
  pub first : (bytes : List ℕ) → view_at c segment 0 ≡ Holds bytes → bytes ≡ sector_at block 0
  pub here : (i : ℕ) → 1 ≤ i → i < 32 → view_at c segment i ≡ Holds (sector_at block i)

held_sector : (c : Cartridge) (segment i : ℕ) (block : List (List ℕ)) (bytes : List ℕ) → IsCopyOf c segment block → i < 32 →
    view_at c segment i ≡ Holds bytes → bytes ≡ sector_at block i
held_sector c segment zero block bytes copy h view = copy.first bytes view
held_sector c segment (suc i) block bytes copy h view =
    let same : Holds bytes ≡ Holds (sector_at block (suc i)) = sym view ∙ copy.here (suc i) (omega arith) h in
    cc

pub copy_is_written : (c : Cartridge) (segment : ℕ) (area : List (List ℕ)) → length (with_parity area) ≡ 32 →
    IsCopyOf c segment (with_parity area) → Written (cells_of c segment whole_mask) area
copy_is_written c segment area long copy = record {
  size = long ∙ sym (length-whole_cells c segment);
  each = λ i bytes at.
      let held = held_view c segment i bytes at in
      let within : i < 32 = held.within in
      let same : bytes ≡ sector_at (with_parity area) i = held_sector c segment i (with_parity area) bytes copy within held.view in
      slice_get-get_or (with_parity area) i [] (omega arith)
      ∙ ap Some (sym (unwrap_or-slice_get (with_parity area) i []) ∙ sym same);
}

-- cells of which each but the first can be read
few_unreadable : (n : ℕ) (cells : List SectorView) → length cells ≡ n + 1 → ((i : ℕ) → i < n → IsReadable cells (suc i)) →
    unreadable_count cells ≤ 1
few_unreadable n [] long each = absurd (omega arith)
few_unreadable n (cell ∷ cells) long each =
    let rest : unreadable_count cells ≡ 0 =
    ap (λ (xs : List SectorView). unreadable_count xs) (sym (take_all n cells (omega arith))) ∙ count_of_readable n cells each in
    let first = one_if_any (is_unreadable cell) in
    omega (arith, unreadable_count-first cell cells)

pub copy_is_readable : (c : Cartridge) (segment : ℕ) (block : List (List ℕ)) → IsCopyOf c segment block →
    unreadable_count (cells_of c segment whole_mask) ≤ 3
copy_is_readable c segment block copy =
    let few : unreadable_count (cells_of c segment whole_mask) ≤ 1 =
    few_unreadable 31 (cells_of c segment whole_mask) (length-whole_cells c segment) (λ i h. (
      sector_at block (suc i),
      view_held c segment (suc i) (sector_at block (suc i)) (omega arith)
          (copy.here (suc i) (omega arith) (omega arith)),
    )) in
    omega arith

-- ---- a copy that was not written to the end

zeros_unsigned : (number_at zero_sector 0 4 == 0xAA55_AA55) ≡ false
unfolding zero_sector number_at
zeros_unsigned = refl

-- a copy whose first sector holds zero bytes can't be read, whatever the others hold
pub zero_front_does_not_read : (c : Cartridge) (copy : ℕ) → view_at c copy 0 ≡ Holds zero_sector → CopyDoesNotRead c copy
zero_front_does_not_read c copy zeros area reads =
    let has : HasBlock (copy_cells c copy) area = reads.says.1 in
    let size : length has.block ≡ 32 = has.agrees.size ∙ length-whole_cells c copy in
    let front : get_or area 0 [] ≡ zero_sector =
    ap (λ (ss : List (List ℕ)). get_or ss 0 []) has.shown
    ∙ get_or-take (length has.block - 3) has.block 0 [] (omega arith)
    ∙ get_or_from_slice_get has.block 0 zero_sector [] (has.agrees.each 0 zero_sector (view_held c copy 0 zero_sector (omega arith) zeros))
    in
    false≢true
    (sym (ap (λ (bytes : List ℕ). number_at bytes 0 4 == 0xAA55_AA55) (unwrap_or-slice_get area 0 [] ∙ front) ∙ zeros_unsigned)
    ∙ reads.signature)
