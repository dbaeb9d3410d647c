-- What is read of several sectors of a segment.
use Rattle.std.proofs.Common.{◌≡◌, ◌≢◌, ℕ, ◌+◌, ◌*◌, ◌-◌, ◌<◌, ◌≤◌, Bool, true, false, List, [], length, get_or, refl, sym, ◌∙◌, ap}
use Rattle.std.proofs.Common.{arith, Option, Some, None, IfSome, below_more, get_or-set_other, get_or-set_same}
use Rattle.std.specs.Prelude.{slice_index, slice_index_or, slice_range, slice_set, ◌==◌, ◌&&◌, if◌then◌else◌}
use Rattle.std.proofs.lemmas.List.{same_lists, length-set}
use Rattle.std.proofs.lemmas.List.Edits.{length-between, get_or-between}
use Rattle.std.proofs.lemmas.Option.{IfSome_then}
use Rattle.qic_base.specs.declared.tape.SectorView.{SectorView}
use Rattle.qic_base.specs.declared.tape.SectorView.TheVariants.{Blank, Defect, Lost, Holds}
use Rattle.qic_base.specs.CartridgeTerms.{is_lost, place_of}
use Rattle.cart_image.specs.declared.layout.Layout.{Layout}
use Rattle.cart_image.specs.declared.layout.Part.TheVariants.{GateByte, FormedByte, DefectByte, Data}
use Rattle.cart_image.specs.declared.reading.SectorState.{SectorState}
use Rattle.cart_image.specs.declared.reading.SectorState.TheVariants as state
use Rattle.cart_image.specs.Image.{view_by, view_in, sector_bytes}
use Rattle.cart_image.specs.Layout.{cell_len, cells_len}
use Rattle.cart_image.specs.Layout.{place, end_of, touches, open_gate, formed_byte, defect_byte}
use Rattle.qic_base.specs.TapeCalls.{is_readable, is_blank, bytes_read, ReadsSectors}
use Rattle.cart_image.specs.State.{state_of, AreStatesOf, GotBytes}
use Rattle.cart_image.proofs.Known.{cell-at, told-same}
use Rattle.cart_image.proofs.Layouts.{in-row, laid_out}
use Rattle.cart_image.proofs.States.{in-cell}

-- a part of a part
range-within : (b : List ℕ) (p n a m : ℕ) → a + m ≤ n → p + n ≤ length b →
    slice_range (slice_range b p (p + n)) a (a + m) ≡ slice_range b (p + a) (p + a + m)
range-within b p n a m few long =
    let outer = length-between b p (p + n) long in
    let inner = length-between (slice_range b p (p + n)) a (a + m) (omega arith) in
    let all = length-between b (p + a) (p + a + m) (omega arith) in
    same_lists _ _ (inner ∙ (let e : a + m - a ≡ p + a + m - (p + a) = omega arith in e) ∙ sym all) (λ k d less.
    let there : p + (a + k) ≡ p + a + k = omega arith in
    get_or-between (slice_range b p (p + n)) a (a + m) k d (omega arith)
    ∙ get_or-between b p (p + n) (a + k) d (omega arith)
    ∙ ap (λ j. get_or b j d) there
    ∙ sym (get_or-between b (p + a) (p + a + m) k d (omega arith)))

-- the bytes of a sector among those of the 32 cells of its segment
pub cell-bytes : (l : Layout) (segment i p : ℕ) (b cells : List ℕ) → touches l.kind ≡ false → segment < 28 * l.segments_per_track → i < 32 →
    p ≡ place l GateByte (32 * segment) → end_of l ≤ length b → cells ≡ slice_range b p (p + cells_len) →
    slice_range cells (3 + cell_len * i) (3 + cell_len * i + 1024) ≡ sector_bytes l b (place_of segment i)
cell-bytes l segment i p b cells in_cells on less at long is =
    let first = cell-at l (32 * segment) in_cells in
    let here = cell-at l (place_of segment i) in_cells in
    let behind = (in-cell l (place_of segment i) in_cells).2 in
    let before = (laid_out l).before Data (place_of segment i) (omega arith) in
    let last = (laid_out l).before Data (place_of segment 31) (omega arith) in
    let last_at = cell-at l (place_of segment 31) in_cells in
    let last_behind = (in-cell l (place_of segment 31) in_cells).2 in
    let e : p + (3 + cell_len * i) ≡ place l Data (place_of segment i) = omega arith in
    ap (λ xs. slice_range xs (3 + cell_len * i) (3 + cell_len * i + 1024)) is
    ∙ range-within b p cells_len (3 + cell_len * i) 1024 (omega arith) (omega arith)
    ∙ ap (λ q. slice_range b q (q + 1024)) e

-- .. and among those of its segment in planes
pub block-bytes : (l : Layout) (segment i p : ℕ) (b block : List ℕ) → touches l.kind ≡ true → segment < 28 * l.segments_per_track → i < 32 →
    p ≡ place l Data (32 * segment) → end_of l ≤ length b → block ≡ slice_range b p (p + 32768) →
    slice_range block (0 + 1024 * i) (0 + 1024 * i + 1024) ≡ sector_bytes l b (place_of segment i)
block-bytes l segment i p b block planes on less at long is =
    let here = in-row l Data (32 * segment) i planes in
    let last_at = in-row l Data (32 * segment) 31 planes in
    let last = (laid_out l).before Data (place_of segment 31) (omega arith) in
    let e : p + (0 + 1024 * i) ≡ place l Data (place_of segment i) = omega arith in
    ap (λ xs. slice_range xs (0 + 1024 * i) (0 + 1024 * i + 1024)) is
    ∙ range-within b p 32768 (0 + 1024 * i) 1024 (omega arith) (omega arith)
    ∙ ap (λ q. slice_range b q (q + 1024)) e

-- the bytes of a sector that can be read are those that it holds
good-bytes : (d f g : ℕ) (bytes old : List ℕ) → (if is_readable (view_by d f g bytes) then bytes else old) ≡ bytes_read true
    (view_by d f g bytes) old
good-bytes d f g bytes old = by_tests (d == defect_byte) (f == formed_byte) (g == open_gate)
  where
    by_tests : (bd bf bg : Bool) → (if is_readable (if bd then Defect else (if bf then (if bg then Holds bytes else Lost) else Blank)) then
        bytes
        else old) ≡ bytes_read true (if bd then Defect else (if bf then (if bg then Holds bytes else Lost) else Blank)) old
    by_tests true bf bg = refl
    by_tests false false bg = refl
    by_tests false true true = refl
    by_tests false true false = refl

read-one : (l : Layout) (b : List ℕ) (q : ℕ) (wanted good : Bool) (old new : List ℕ) → good ≡ (wanted && is_readable (view_in l b q)) →
    new ≡ (if good then sector_bytes l b q else old) → new ≡ bytes_read wanted (view_in l b q) old
unfolding view_in
read-one l b q true good old new is given =
    given ∙ ap (λ g. if g then sector_bytes l b q else old) is
    ∙ good-bytes (slice_index b (place l DefectByte q)) (slice_index b (place l FormedByte q)) (slice_index b (place l GateByte q))
    (sector_bytes l b q) old
read-one l b q false good old new is given = given ∙ ap (λ g. if g then sector_bytes l b q else old) is

-- the words of the sectors, and what is in their entries
pub reads-are : (l : Layout) (segment wanted good blank : ℕ) (b : List ℕ) (states : List SectorState) (old new : List (List ℕ)) →
    AreStatesOf l segment wanted b states
    → ((view : SectorView) (i : ℕ) → i < 32 → (is_lost wanted i ≡ true → slice_index_or states i state.Blank ≡ state_of view) →
    is_lost good i ≡ (is_lost wanted i && is_readable view))
    → ((view : SectorView) (i : ℕ) → i < 32 → (is_lost wanted i ≡ true → slice_index_or states i state.Blank ≡ state_of view) →
    is_lost blank i ≡ (is_lost wanted i && is_blank view))
    → ((i : ℕ) → i < 32 → slice_index_or new i [] ≡ (if is_lost good i then sector_bytes l b (place_of segment i) else slice_index_or old i
    []))
    → ReadsSectors wanted good blank (λ i. view_in l b (place_of segment i)) old new
reads-are l segment wanted good blank b states old new are goods blanks given = record {
  good_are = λ i less. goods (view_in l b (place_of segment i)) i less (are i less);
  blank_are = λ i less. blanks (view_in l b (place_of segment i)) i less (are i less);
  bytes = λ i less. read-one l b (place_of segment i) (is_lost wanted i) (is_lost good i) (slice_index_or old i [])
      (slice_index_or new i [])
      (goods (view_in l b (place_of segment i)) i less (are i less)) (given i less);
}

-- .. where all that is good was got
pub reads-got : (l : Layout) (segment wanted good got blank : ℕ) (b : List ℕ) (states : List SectorState) (old new : List (List ℕ)) →
    AreStatesOf l segment wanted b states
    → ((view : SectorView) (i : ℕ) → i < 32 → (is_lost wanted i ≡ true → slice_index_or states i state.Blank ≡ state_of view) →
    is_lost good i ≡ (is_lost wanted i && is_readable view))
    → ((view : SectorView) (i : ℕ) → i < 32 → (is_lost wanted i ≡ true → slice_index_or states i state.Blank ≡ state_of view) →
    is_lost blank i ≡ (is_lost wanted i && is_blank view))
    → GotBytes l segment b good got old new → ReadsSectors wanted got blank (λ i. view_in l b (place_of segment i)) old new
reads-got l segment wanted good got blank b states old new are goods blanks gets =
    reads-are l segment wanted got blank b states old new are (λ view i less seen. gets.same i less ∙ goods view i less seen) blanks
    (λ i less. gets.into i less ∙ ap (λ g. if g then sector_bytes l b (place_of segment i) else slice_index_or old i [])
    (sym (gets.same i less)))

pub reads-apart : (told t1 : Option (List ℕ)) (l : Layout) (segment wanted good got blank : ℕ) (states : List SectorState)
    (old new : List (List ℕ)) → t1 ≡ told → IfSome told (λ b. end_of l ≤ length b → AreStatesOf l segment wanted b states)
    → ((view : SectorView) (i : ℕ) → i < 32 → (is_lost wanted i ≡ true → slice_index_or states i state.Blank ≡ state_of view) →
    is_lost good i ≡ (is_lost wanted i && is_readable view))
    → ((view : SectorView) (i : ℕ) → i < 32 → (is_lost wanted i ≡ true → slice_index_or states i state.Blank ≡ state_of view) →
    is_lost blank i ≡ (is_lost wanted i && is_blank view))
    → IfSome t1 (λ b. end_of l ≤ length b → GotBytes l segment b good got old new)
    → IfSome told (λ b. end_of l ≤ length b → ReadsSectors wanted got blank (λ i. view_in l b (place_of segment i)) old new)
reads-apart told t1 l segment wanted good got blank states old new same are goods blanks gets =
    by_told told are (told-same (λ b. end_of l ≤ length b → GotBytes l segment b good got old new) same gets)
  where
    by_told : (o : Option (List ℕ)) → IfSome o (λ b. end_of l ≤ length b → AreStatesOf l segment wanted b states) →
        IfSome o (λ b. end_of l ≤ length b → GotBytes l segment b good got old new) →
        IfSome o (λ b. end_of l ≤ length b → ReadsSectors wanted got blank (λ i. view_in l b (place_of segment i)) old new)
    by_told None are gets = tt
    by_told (Some b) are gets = λ long. reads-got l segment wanted good got blank b states old new (are long) goods blanks (gets long)

-- the states of the wanted sectors, of bytes that are long enough in any case
pub any-length : (told : Option (List ℕ)) (l : Layout) (segment wanted : ℕ) (states : List SectorState) →
    IfSome told (λ b. AreStatesOf l segment wanted b states) → IfSome told (λ b. end_of l ≤ length b → AreStatesOf l segment wanted b
    states)
any-length told l segment wanted states are = IfSome_then told are (λ b is. λ long. is)

-- what was read of the segment at once
pub reads-cells : (told : Option (List ℕ)) (l : Layout) (segment wanted good blank p : ℕ) (cells : List ℕ) (states : List SectorState)
    (old new : List (List ℕ)) → touches l.kind ≡ false → segment < 28 * l.segments_per_track → p ≡ place l GateByte (32 * segment)
    → IfSome told (λ b. p + cells_len ≤ length b → cells ≡ slice_range b p (p + cells_len))
    → IfSome told (λ b. end_of l ≤ length b → AreStatesOf l segment wanted b states)
    → ((view : SectorView) (i : ℕ) → i < 32 → (is_lost wanted i ≡ true → slice_index_or states i state.Blank ≡ state_of view) →
    is_lost good i ≡ (is_lost wanted i && is_readable view))
    → ((view : SectorView) (i : ℕ) → i < 32 → (is_lost wanted i ≡ true → slice_index_or states i state.Blank ≡ state_of view) →
    is_lost blank i ≡ (is_lost wanted i && is_blank view))
    → ((i : ℕ) → i < 32 → slice_index_or new i [] ≡
    (if is_lost good i then slice_range cells (3 + cell_len * i) (3 + cell_len * i + 1024) else
    slice_index_or old i []))
    → IfSome told (λ b. end_of l ≤ length b → ReadsSectors wanted good blank (λ i. view_in l b (place_of segment i)) old new)
reads-cells None l segment wanted good blank p cells states old new in_cells on at fact are goods blanks copied = tt
reads-cells (Some b) l segment wanted good blank p cells states old new in_cells on at fact are goods blanks copied = λ long.
    let first = cell-at l (32 * segment) in_cells in
    let is : cells ≡ slice_range b p (p + cells_len) = fact (omega arith) in
    reads-are l segment wanted good blank b states old new (are long) goods blanks (λ i less.
    copied i less
    ∙ ap (λ part. if is_lost good i then part else slice_index_or old i []) (cell-bytes l segment i p b cells in_cells on less at long is))

pub reads-block : (told : Option (List ℕ)) (l : Layout) (segment wanted good blank p : ℕ) (block : List ℕ) (states : List SectorState)
    (old new : List (List ℕ)) → touches l.kind ≡ true → segment < 28 * l.segments_per_track → p ≡ place l Data (32 * segment)
    → IfSome told (λ b. p + 32768 ≤ length b → block ≡ slice_range b p (p + 32768))
    → IfSome told (λ b. end_of l ≤ length b → AreStatesOf l segment wanted b states)
    → ((view : SectorView) (i : ℕ) → i < 32 → (is_lost wanted i ≡ true → slice_index_or states i state.Blank ≡ state_of view) →
    is_lost good i ≡ (is_lost wanted i && is_readable view))
    → ((view : SectorView) (i : ℕ) → i < 32 → (is_lost wanted i ≡ true → slice_index_or states i state.Blank ≡ state_of view) →
    is_lost blank i ≡ (is_lost wanted i && is_blank view))
    → ((i : ℕ) → i < 32 → slice_index_or new i [] ≡ (if is_lost good i then slice_range block (0 + 1024 * i) (0 + 1024 * i + 1024) else
    slice_index_or old i []))
    → IfSome told (λ b. end_of l ≤ length b → ReadsSectors wanted good blank (λ i. view_in l b (place_of segment i)) old new)
reads-block None l segment wanted good blank p block states old new planes on at fact are goods blanks copied = tt
reads-block (Some b) l segment wanted good blank p block states old new planes on at fact are goods blanks copied = λ long.
    let last_at = in-row l Data (32 * segment) 31 planes in
    let last = (laid_out l).before Data (place_of segment 31) (omega arith) in
    let is : block ≡ slice_range b p (p + 32768) = fact (omega arith) in
    reads-are l segment wanted good blank b states old new (are long) goods blanks (λ i less.
    copied i less
    ∙ ap (λ part. if is_lost good i then part else slice_index_or old i []) (block-bytes l segment i p b block planes on less at long is))

-- ---- the loop that reads them one by one

pub record GotSo (told : Option (List ℕ)) (l : Layout) (segment good got : ℕ) (old new : List (List ℕ)) (count : ℕ) : Type 0 where
  pub long : length new ≡ 32
  pub rest : (i : ℕ) → count ≤ i → slice_index_or new i [] ≡ slice_index_or old i []
  pub later : (i : ℕ) → count ≤ i → is_lost got i ≡ false
  pub kept : (i : ℕ) → i < count → is_lost got i ≡ false → slice_index_or new i [] ≡ slice_index_or old i []
  pub same : (i : ℕ) → i < count → IfSome told (λ b. end_of l ≤ length b → is_lost got i ≡ is_lost good i)
  pub into : (i : ℕ) → i < count → IfSome told (λ b. end_of l ≤ length b →
      slice_index_or new i [] ≡ (if is_lost good i then sector_bytes l b (place_of segment i) else slice_index_or old i []))

pub got-all : (told : Option (List ℕ)) (l : Layout) (segment good got : ℕ) (old new : List (List ℕ)) (count : ℕ) → count ≡ 32 →
    GotSo told l segment good got old new count → IfSome told (λ b. end_of l ≤ length b → GotBytes l segment b good got old new)
got-all None l segment good got old new count all so = tt
got-all (Some b) l segment good got old new count all so = λ long. record {
  same = λ i less. so.same i (omega arith) long;
  into = λ i less. so.into i (omega arith) long;
}

pub got-more : (told t1 : Option (List ℕ)) (l : Layout) (segment good got now count q : ℕ) (old new : List (List ℕ)) (row : List ℕ)
    (is_good is_got : Bool) → t1 ≡ told → q ≡ place_of segment count → count < 32 → is_good ≡ is_lost good count
    → IfSome t1 (λ b. end_of l ≤ length b → is_got ≡ is_good)
    → IfSome t1 (λ b. end_of l ≤ length b → row ≡ (if is_good then sector_bytes l b q else slice_index_or new count []))
    → (is_got ≡ false → row ≡ slice_index_or new count [])
    → is_lost now count ≡ is_got → ((i : ℕ) → i ≢ count → is_lost now i ≡ is_lost got i)
    → GotSo told l segment good got old new count → GotSo told l segment good now old (slice_set new count row) (count + 1)
got-more told t1 l segment good got now count q old new row is_good is_got told_is at less good_is gots bytes kept here others so = record {
  long = length-set _ _ _ ∙ so.long;
  rest = λ i more. other i (omega arith) ∙ so.rest i (omega arith);
  later = λ i more. others i (λ e. omega arith) ∙ so.later i (omega arith);
  kept = below_more _ _
      (λ k h out. other k (omega arith) ∙ so.kept k h (sym (others k (λ e. omega arith)) ∙ out))
      (λ out. same_row ∙ kept (sym here ∙ out) ∙ so.rest count (omega arith));
  same = below_more _ _
      (λ k h. IfSome_then told (so.same k h) (λ b is. λ long. others k (λ e. omega arith) ∙ is long))
      (IfSome_then told (back (λ b. end_of l ≤ length b → is_got ≡ is_good) gots) (λ b is. λ long. here ∙ is long ∙ good_is));
  into = below_more _ _
      (λ k h. IfSome_then told (so.into k h) (λ b is. λ long. other k (omega arith) ∙ is long))
      (IfSome_then told (back (λ b. end_of l ≤ length b → row ≡ (if is_good then sector_bytes l b q else slice_index_or new count []))
      bytes)
      (λ b is. λ long.
      same_row ∙ is long
      ∙ ap (λ g. if g then sector_bytes l b q else slice_index_or new count []) good_is
      ∙ ap (λ j. if is_lost good count then sector_bytes l b j else slice_index_or new count []) at
      ∙ ap (λ r. if is_lost good count then sector_bytes l b (place_of segment count) else r) (so.rest count (omega arith))));
}
  where
    back : (P : List ℕ → Type 0) → IfSome t1 P → IfSome told P
    back P fact = told-same P told_is fact

    other : (i : ℕ) → i ≢ count → slice_index_or (slice_set new count row) i [] ≡ slice_index_or new i []
    other i ne = get_or-set_other new count i row [] ne

    same_row : slice_index_or (slice_set new count row) count [] ≡ row
    same_row = let n = so.long in get_or-set_same new count row [] (omega arith)
