-- Writes to the table's segment at the places that pass a test, and cartridges whose whole segment was written.
use Rattle.std.proofs.Common.{ℕ, List, Bool, filter, ◌≡◌, zero, [], refl, suc, ◌+◌, true, ◌∷◌, false, ap, ◌*◌, ◌/◌, ◌%◌, ◌<◌, length}
use Rattle.std.proofs.Common.{get_or, slice_get, sym, ◌∙◌, subst, arith, ◌≢◌, inl, inr, zero-add, Option, not, cond, ◌≤◌}
use Rattle.std.specs.List.{range_with_len}
use Rattle.std.specs.Prelude.{unwrap_or}
use Rattle.std.proofs.lemmas.List.{same_lists, get_or_default, length-set}
use Rattle.std.proofs.lemmas.Option.{unwrap_or-slice_get}
use Rattle.std.proofs.lemmas.Bool.{cases_eq, lt-ltb, le-ltb}
use Rattle.std.proofs.lemmas.Slice.Eq.{bytes_eq-Decides}
use Rattle.cartridge_laws.proofs.FormatCopies.{view_held}
use Rattle.cartridge_laws.proofs.FormatWriting.{writes_untouched, view_written}
use Rattle.cartridge_laws.proofs.Sayings.{said_is_written}
use Rattle.cartridge_laws.proofs.Segments.{places_of_whole}
use Rattle.cartridge_spec.specs.TableSegment.{table_cells}
use Rattle.cartridge_spec.specs.Says.{with_parity, whole_mask, Written, Says, Data}
use Rattle.cartridge_spec.specs.Settling.{block_writes, writes_of, changed_by, holds}
use Rattle.cartridge_laws.specs.TableCells.{is_unsettled}
use Rattle.cartridge_laws.specs.Segment.{places_where}
use Rattle.cartridge_spec.specs.Shape.{sector_at, usable_places, is_unreadable}
use Rattle.qic_base.specs.Cartridge.{Cartridge, view_at}
use Rattle.qic_base.specs.Step.{Step, write_sector, written_view, changed}
use Rattle.qic_base.specs.declared.tape.SectorView.{SectorView}
use Rattle.qic_base.specs.declared.tape.SectorView.TheVariants.{Blank, Holds, Defect, Lost}
use Rattle.qic_base.specs.declared.tape.TapeInfo.{TapeInfo}

-- ---- the steps, one after the other

-- the table's data sectors and their parity
abbrev pub table_block : (area : List (List ℕ)) → List (List ℕ)
table_block area = with_parity area

-- so many places from one on, those that pass a test, ascending
unfoldable pub places_that : (test : ℕ → Bool) → (from count : ℕ) → List ℕ
places_that test from count = filter test (range_with_len from count)

pub places_none : (test : ℕ → Bool) (from : ℕ) → places_that test from zero ≡ []
unfolding places_that
places_none test from = refl

pub places_passes : (test : ℕ → Bool) (from m : ℕ) → test from ≡ true → places_that test from (suc m) ≡ from ∷ places_that test (from + 1) m
unfolding places_that
places_passes test from m passes = rw passes refl

pub places_fails : (test : ℕ → Bool) (from m : ℕ) → test from ≡ false → places_that test from (suc m) ≡ places_that test (from + 1) m
unfolding places_that
places_fails test from m fails = rw fails refl

-- the writes of a block's sectors at the places that pass a test
abbrev pub steps_that : (test : ℕ → Bool) → (block : List (List ℕ)) → (from count : ℕ) → List Step
steps_that test block from count = block_writes block (places_that test from count)

pub steps_none : (test : ℕ → Bool) (block : List (List ℕ)) (from : ℕ) → steps_that test block from zero ≡ []
steps_none test block from = ap (λ (ps : List ℕ). block_writes block ps) (places_none test from)

pub steps_passes : (test : ℕ → Bool) (block : List (List ℕ)) (from m : ℕ) → test from ≡ true →
    steps_that test block from (suc m) ≡ write_sector 2 from (sector_at block from) ∷ steps_that test block (from + 1) m
steps_passes test block from m passes = ap (λ (ps : List ℕ). block_writes block ps) (places_passes test from m passes)

pub steps_fails : (test : ℕ → Bool) (block : List (List ℕ)) (from m : ℕ) → test from ≡ false →
    steps_that test block from (suc m) ≡ steps_that test block (from + 1) m
steps_fails test block from m fails = ap (λ (ps : List ℕ). block_writes block ps) (places_fails test from m fails)

pub places_are : (test : ℕ → Bool) → places_where test ≡ places_that test 0 32
unfolding places_that
places_are test = refl

-- ---- cartridges by their views

same_views : (xs ys : List SectorView) → length xs ≡ length ys →
    ((s i : ℕ) → i < 32 → unwrap_or (slice_get xs (32 * s + i)) Blank ≡ unwrap_or (slice_get ys (32 * s + i)) Blank) → xs ≡ ys
same_views xs ys long same =
    same_lists xs ys long (λ k d h.
    let place : 32 * (k / 32) + k % 32 ≡ k = omega arith in
    let here : get_or xs k Blank ≡ get_or ys k Blank =
    sym (unwrap_or-slice_get xs k Blank)
    ∙ subst (λ (p : ℕ). unwrap_or (slice_get xs p) Blank ≡ unwrap_or (slice_get ys p) Blank) place (same (k / 32) (k % 32) (omega arith))
    ∙ unwrap_or-slice_get ys k Blank in
    get_or_default xs k d Blank h ∙ here ∙ get_or_default ys k Blank d (omega arith))

same_parts : (c : Cartridge) (info : TapeInfo) (version : ℕ) (views : List SectorView) → c.info ≡ info → c.version ≡ version →
    c.views ≡ views →
    c ≡ record { info = info; version = version; views = views }
same_parts c info version views i n v = rw (sym i, sym n, sym v) refl

-- two cartridges with the same marks, the same version and the same views are one
same_cartridge : (c d : Cartridge) → c.info ≡ d.info → c.version ≡ d.version → length c.views ≡ length d.views →
    ((s i : ℕ) → i < 32 → view_at c s i ≡ view_at d s i) → c ≡ d
same_cartridge c d info version long same = same_parts c d.info d.version d.views info version (same_views c.views d.views long same)

-- ---- the whole segment written

-- each sector of the table's segment takes its sector of the block, and nothing else changed
pub record IsAllWritten (block : List (List ℕ)) (c d : Cartridge) : Type 0 where
  pub info : d.info ≡ c.info
  pub version : d.version ≡ c.version
  pub size : length d.views ≡ length c.views
  pub table : (i : ℕ) → i < 32 → view_at d 2 i ≡ written_view (sector_at block i) (view_at c 2 i)
  pub others : (s i : ℕ) → i < 32 → s ≢ 2 → view_at d s i ≡ view_at c s i

same_choice : (block : List (List ℕ)) (c d e : Cartridge) → IsAllWritten block c d → IsAllWritten block c e → (s i : ℕ) → i < 32 →
    view_at d s i ≡ view_at e s i
same_choice block c d e left right s i h =
    elim (cases_eq s 2) [
      | inl table ↦ subst (λ (t : ℕ). view_at d t i ≡ view_at e t i) (sym table) (left.table i h ∙ sym (right.table i h))
      | inr other ↦ left.others s i h other ∙ sym (right.others s i h other)
    ]

pub same_written : (block : List (List ℕ)) (c d e : Cartridge) → IsAllWritten block c d → IsAllWritten block c e → d ≡ e
same_written block c d e left right =
    same_cartridge d e (left.info ∙ sym right.info) (left.version ∙ sym right.version) (left.size ∙ sym right.size)
    (same_choice block c d e left right)

pub length-writes_of : (places : List ℕ) (sectors : List (List ℕ)) (segment : ℕ) (c : Cartridge) →
    length (changed_by (writes_of segment places sectors) c).views ≡ length c.views
length-writes_of [] sectors segment c = refl
length-writes_of (place ∷ places) [] segment c = refl
length-writes_of (place ∷ places) (bytes ∷ sectors) segment c =
    length-writes_of places sectors segment (changed (write_sector segment place bytes) c)
    ∙ length-set c.views (32 * segment + place) (written_view bytes (view_at c segment place))

range_written : (block : List (List ℕ)) (c : Cartridge) → length block ≡ 32 →
    IsAllWritten block c (changed_by (writes_of 2 (range_with_len 0 32) block) c)
range_written block c long =
    let rest = writes_untouched 32 0 block 2 c (omega arith) in
    record {
      info = rest.info;
      version = rest.version;
      size = length-writes_of (range_with_len 0 32) block 2 c;
      table = λ i h.
          subst (λ (j : ℕ). view_at (changed_by (writes_of 2 (range_with_len 0 32) block) c) 2 j ≡ written_view (sector_at block i)
          (view_at c 2 j)) (zero-add i)
          (view_written 32 0 i block 2 c (omega arith) long h
          ∙ ap (λ (bytes : List ℕ). written_view bytes (view_at c 2 (0 + i))) (sym (unwrap_or-slice_get block i [])));
      others = λ s i h apart. rest.others s i h (λ same. absurd (apart same));
    }

pub all_written : (block : List (List ℕ)) (c : Cartridge) → length block ≡ 32 →
    IsAllWritten block c (changed_by (writes_of 2 (usable_places whole_mask) block) c)
all_written block c long =
    subst (λ (places : List ℕ). IsAllWritten block c (changed_by (writes_of 2 places block) c)) (sym places_of_whole)
    (range_written block c long)

-- ---- what a table is known to hold

-- where the code found the data, each sector that can be read holds its sector of the block
pub solved_agree : (c : Cartridge) (area : List (List ℕ)) (i : ℕ) (held : List ℕ) → Says (table_cells c) (Data area) → i < 32 →
    view_at c 2 i ≡ Holds held → held ≡ sector_at (table_block area) i
solved_agree c area i held says h view =
    let written : Written (table_cells c) area = said_is_written (table_cells c) area says in
    sym (ap (λ (o : Option (List ℕ)). unwrap_or o []) (written.each i held (view_held c 2 i held h view)))

-- ---- a sector that needs no write

pub unsettled_data : (c : Cartridge) (block : List (List ℕ)) (i : ℕ) → i < 29 → is_unsettled c block i ≡ is_unreadable (view_at c 2 i)
unsettled_data c block i h =
    ap (λ (b : Bool). cond b (is_unreadable (view_at c 2 i)) (not (holds (view_at c 2 i) (sector_at block i)))) (lt-ltb i 29 h)

pub unsettled_parity : (c : Cartridge) (block : List (List ℕ)) (i : ℕ) → 29 ≤ i →
    is_unsettled c block i ≡ not (holds (view_at c 2 i) (sector_at block i))
unsettled_parity c block i h =
    ap (λ (b : Bool). cond b (is_unreadable (view_at c 2 i)) (not (holds (view_at c 2 i) (sector_at block i)))) (le-ltb i 29 h)

pub held_there : (view : SectorView) (bytes : List ℕ) → holds view bytes ≡ true → view ≡ Holds bytes
held_there Blank bytes same = absurd (cc)
held_there Defect bytes same = absurd (cc)
held_there Lost bytes same = absurd (cc)
held_there (Holds held) bytes same = ap (λ (b : List ℕ). Holds b) ((bytes_eq-Decides held bytes).0 same)
