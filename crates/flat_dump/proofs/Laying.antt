-- What the bytes of a file with cells behind a head are read as.
use Rattle.std.proofs.Common.{◌≡◌, ℕ, zero, suc, ◌+◌, ◌-◌, ◌*◌, ◌<◌, ⊎_elim, Bool, true, false, List, [], ◌∷◌, ◌++◌, length}
use Rattle.std.proofs.Common.{get_or, take, drop, replicate, Some, refl, sym, ◌∙◌, ap, ap₂, subst, arith}
use Rattle.std.specs.Prelude.{slice_range}
use Rattle.std.proofs.Math.ListN.{get_or-append}
use Rattle.std.proofs.Math.Seq.{drop-append-add}
use Rattle.std.proofs.lemmas.Bool.{cases_lt}
use Rattle.std.proofs.lemmas.List.{take_at, drop_at, same_lists, get_or_default, get_or-take, get_or-drop, get_or-append_right}
use Rattle.std.proofs.lemmas.List.{get_or-replicate, length-replicate, length-append, replicate-append-replicate}
use Rattle.std.proofs.lemmas.List.Concat.{flat_map-append}
use Rattle.std.proofs.lemmas.List.Edits.{length-between, get_or-between}
use Rattle.std.proofs.lemmas.List as lists
use Rattle.qic_base.specs.Cartridge.{IsLength, zero_sector}
use Rattle.qic_base.specs.Field.{little_endian_bytes}
use Rattle.qic_base.specs.declared.tape.SectorView.{SectorView}
use Rattle.qic_base.specs.declared.tape.SectorView.TheVariants.{Blank, Lost}
use Rattle.cart_image.specs.declared.layout.Head.{Head}
use Rattle.cart_image.specs.declared.layout.Kind.TheVariants.{Cells}
use Rattle.cart_image.specs.declared.layout.Layout.{Layout}
use Rattle.cart_image.specs.declared.layout.Part.TheVariants.{GateByte, FormedByte, DefectByte, Data}
use Rattle.cart_image.specs.Image.{view_by, read_len, head_by, head_of, view_in, views_in, sector_bytes, cartridge_of}
use Rattle.cart_image.specs.Layout.{cell_len, cells_len, formed_cell, image_len, made_head, place, sectors}
use Rattle.cart_image.specs.Whole.{cartridge_of-read, length-views}
use Rattle.flat_dump.specs.Cells.{joined, lost_cell}
use Rattle.flat_dump.specs.Imported.{imported_info}
use Rattle.flat_dump.specs.Importing.{IsCell, IsLaid, begun, image_with, lost_cells}
use Rattle.flat_dump.proofs.Bytes.{length-zero_sector}
use Rattle.flat_dump.proofs.Celling.{cell_shows}
use Rattle.cart_image.proofs.Bytes.{view_in-is}
use Rattle.cart_image.proofs.Changes.{get_or-views}
use Rattle.cart_image.proofs.Renews.{length-made, made-told}

-- ---- cells, one behind the other

other_cells : (cell : List ℕ) (cells : List (List ℕ)) →
    ((q : ℕ) → q < length (cell ∷ cells) → length (get_or (cell ∷ cells) q []) ≡ cell_len) →
    (q : ℕ) → q < length cells → length (get_or cells q []) ≡ cell_len
other_cells cell cells each q within = each (suc q) (omega arith)

pub length-joined : (cells : List (List ℕ)) → ((q : ℕ) → q < length cells → length (get_or cells q []) ≡ cell_len) →
    length (joined cells) ≡ cell_len * length cells
length-joined [] each = refl
length-joined (cell ∷ cells) each =
    let one = each zero (omega arith) in
    let rest = length-joined cells (other_cells cell cells each) in
    length-append cell (joined cells) ∙ (omega arith)

cell_at : (cells : List (List ℕ)) (q : ℕ) → ((k : ℕ) → k < length cells → length (get_or cells k []) ≡ cell_len) → q < length cells →
    take cell_len (drop (cell_len * q) (joined cells)) ≡ get_or cells q []
cell_at [] q each within = absurd (omega arith)
cell_at (cell ∷ cells) zero each within = take_at cell (joined cells) cell_len (each zero (omega arith))
cell_at (cell ∷ cells) (suc q) each within =
    let one = each zero (omega arith) in
    let far : cell_len * suc q ≡ length cell + cell_len * q = omega arith in
    ap (λ (n : ℕ). take cell_len (drop n (cell ++ joined cells))) far
    ∙ ap (take cell_len) (drop-append-add cell (joined cells) (cell_len * q))
    ∙ cell_at cells q (other_cells cell cells each) (omega arith)

-- a byte of a cell
byte_at : (cells : List (List ℕ)) (q j : ℕ) → ((k : ℕ) → k < length cells → length (get_or cells k []) ≡ cell_len) → q < length cells →
    j < cell_len → get_or (joined cells) (cell_len * q + j) 0 ≡ get_or (get_or cells q []) j 0
byte_at cells q j each within small =
    sym (get_or-drop (cell_len * q) (joined cells) j 0)
    ∙ sym (get_or-take cell_len (drop (cell_len * q) (joined cells)) j 0 small)
    ∙ ap (λ (c : List ℕ). get_or c j 0) (cell_at cells q each within)

-- ---- more cells

pub laid_none : IsLaid begun []
laid_none = record { cells = []; bytes = sym (lists.append-nil begun); size = refl; each = λ q within. absurd (omega arith) }

pub laid_more : (file : List ℕ) (views : List SectorView) (cells : List (List ℕ)) (more : List SectorView) → IsLaid file views →
    length cells ≡ length more →
    ((q : ℕ) → q < length more → IsCell (get_or cells q []) (get_or more q Blank)) → IsLaid (file ++ joined cells) (views ++ more)
laid_more file views cells more laid size each = record {
  cells = laid.cells ++ cells;
  bytes = ap (λ (f : List ℕ). f ++ joined cells) laid.bytes ∙ lists.append_assoc begun (joined laid.cells) (joined cells)
      ∙ ap (λ (f : List ℕ). begun ++ f) (sym (flat_map-append (λ (c : List ℕ). c) laid.cells cells));
  size = length-append laid.cells cells ∙ ap₂ (λ (a b : ℕ). a + b) laid.size size ∙ sym (length-append views more);
  each = λ q within.
      let both = length-append views more in
      let before = laid.size in
      ⊎_elim
      (λ below. subst (λ (c : List ℕ). IsCell c (get_or (views ++ more) q Blank)) (sym (get_or-append laid.cells cells [] q (omega arith)))
      (subst (λ (v : SectorView). IsCell (get_or laid.cells q []) v) (sym (get_or-append views more Blank q below)) (laid.each q below)))
      (λ past. subst (λ (c : List ℕ). IsCell c (get_or (views ++ more) q Blank))
      (sym (get_or-append_right laid.cells cells (length views) q [] before past))
      (subst (λ (v : SectorView). IsCell (get_or cells (q - length views) []) v)
      (sym (get_or-append_right views more (length views) q Blank refl past)) (each (q - length views) (omega arith))))
      (cases_lt q (length views));
}

view_by-is : (d d2 f f2 g g2 : ℕ) (b b2 : List ℕ) → d ≡ d2 → f ≡ f2 → g ≡ g2 → b ≡ b2 → view_by d f g b ≡ view_by d2 f2 g2 b2
view_by-is d d2 f f2 g g2 b b2 p q r s = rw (p, q, r, s) refl

pub length-laid : (file : List ℕ) (views : List SectorView) → IsLaid file views → length file ≡ 64 + cell_len * length views
length-laid file views laid =
    let size = laid.size in
    let all = length-joined laid.cells (λ q within. let c = laid.each q (omega arith) in c.size) in
    let head : length begun ≡ 64 = length-replicate {A = ℕ} 64 0 in
    ap (λ (f : List ℕ). length f) laid.bytes ∙ length-append begun (joined laid.cells) ∙ (omega arith)

-- ---- the image

module _ (n : ℕ) (long : IsLength n) where
  abbrev layout : Layout
  layout = record { segments_per_track = n; kind = Cells }

  abbrev head_told : Head
  head_told = record { layout = layout; protected = false; referenced = true }

  front : (rest : List ℕ) → slice_range (made_head true n ++ rest) 0 read_len ≡ slice_range (made_head true n) 0 read_len
  unfolding little_endian_bytes
  front rest = refl

  module _ (cells : List (List ℕ)) (views : List SectorView) (count : length cells ≡ 896 * n) (size : length views ≡ 896 * n)
      (each : (q : ℕ) → q < 896 * n → IsCell (get_or cells q []) (get_or views q Blank)) where
    abbrev bytes : List ℕ
    bytes = made_head true n ++ joined cells

    are_long : (q : ℕ) → q < length cells → length (get_or cells q []) ≡ cell_len
    are_long q within = let c = each q (omega arith) in c.size

    length-bytes : length bytes ≡ image_len n
    length-bytes = let h = length-made true n in let j = length-joined cells are_long in length-append (made_head true n) (joined cells)
        ∙ (omega arith)

    head_is : head_of bytes ≡ Some head_told
    unfolding head_of
    head_is = ap (λ (l : ℕ). head_by l (slice_range bytes 0 read_len)) length-bytes ∙ ap (head_by (image_len n)) (front (joined cells))
        ∙ made-told true n long

    byte_of : (q j p : ℕ) → q < 896 * n → j < cell_len → p ≡ 64 + cell_len * q + j → get_or bytes p 0 ≡ get_or (get_or cells q []) j 0
    byte_of q j p within small at =
        let h = length-made true n in
        let there : p - 64 ≡ cell_len * q + j = omega arith in
        get_or-append_right (made_head true n) (joined cells) 64 p 0 h (omega arith)
        ∙ ap (λ (k : ℕ). get_or (joined cells) k 0) there
        ∙ byte_at cells q j are_long (omega arith) small

    data_of : (q : ℕ) → q < 896 * n → sector_bytes layout bytes q ≡ slice_range (get_or cells q []) 3 cell_len
    data_of q within =
        let l = length-bytes in
        let p : ℕ = place layout Data q in
        let at : p ≡ 64 + cell_len * q + 3 = omega arith in
        let c = are_long q (omega arith) in
        let a = length-between bytes p (p + 1024) (omega arith) in
        let b = length-between (get_or cells q []) 3 cell_len (omega arith) in
        same_lists (slice_range bytes p (p + 1024)) (slice_range (get_or cells q []) 3 cell_len) (omega arith) (λ k d less.
        get_or-between bytes p (p + 1024) k d (omega arith)
        ∙ get_or_default bytes (p + k) d 0 (omega arith)
        ∙ byte_of q (3 + k) (p + k) within (omega arith) (omega arith)
        ∙ get_or_default (get_or cells q []) (3 + k) 0 d (omega arith)
        ∙ sym (get_or-between (get_or cells q []) 3 cell_len k d (omega arith)))

    view_of : (q : ℕ) → q < 896 * n → view_in layout bytes q ≡ get_or views q Blank
    view_of q within =
        let c = each q within in
        view_in-is layout bytes q
        ∙ view_by-is _ _ _ _ _ _ _ _ (byte_of q 2 (place layout DefectByte q) within (omega arith) (omega arith))
        (byte_of q 1 (place layout FormedByte q) within (omega arith) (omega arith))
        (byte_of q 0 (place layout GateByte q) within (omega arith) (omega arith)) (data_of q within)
        ∙ c.shows

    views_are : views_in layout bytes ≡ views
    views_are = same_lists (views_in layout bytes) views (length-views layout bytes ∙ sym size) (λ q d within.
        let there : q < sectors n = let l = length-views layout bytes in omega arith in
        get_or-views layout bytes q d there ∙ view_of q there ∙ get_or_default views q Blank d (omega arith))

    shows : cartridge_of bytes ≡ Some (record { info = imported_info n; version = 2; views = views })
    shows = cartridge_of-read bytes head_told head_is
        ∙ ap (λ (vs : List SectorView). Some (record { info = imported_info n; version = 2; views = vs })) views_are

pub image_shows : (n : ℕ) (file : List ℕ) (views : List SectorView) → IsLength n → length views ≡ 896 * n → IsLaid file views →
    cartridge_of (image_with n file) ≡ Some (record { info = imported_info n; version = 2; views = views })
image_shows n file views long size laid =
    let head : length begun ≡ 64 = length-replicate {A = ℕ} 64 0 in
    let cut : drop 64 file ≡ joined laid.cells = ap (drop 64) laid.bytes ∙ drop_at begun (joined laid.cells) 64 head in
    let count = laid.size in
    ap (λ (rest : List ℕ). cartridge_of (made_head true n ++ rest)) cut
    ∙ shows n long laid.cells views (omega arith) size (λ q within. laid.each q (omega arith))

-- ---- lost cells

pub length-cell : (held : Bool) (bytes : List ℕ) → length (formed_cell held bytes) ≡ 3 + length bytes
unfolding formed_cell
length-cell true bytes = omega arith
length-cell false bytes = omega arith

pub lost_is_cell : IsCell lost_cell Lost
lost_is_cell = record {
  size = let l = length-zero_sector in let c = length-cell false zero_sector in omega arith;
  shows = cell_shows false zero_sector length-zero_sector;
}

pub length-lost : length (joined (replicate 32 lost_cell)) ≡ cells_len
length-lost =
    let c = lost_is_cell in
    let l : length (replicate 32 lost_cell) ≡ 32 = length-replicate {A = List ℕ} 32 lost_cell in
    length-joined (replicate 32 lost_cell) (λ q within. ap (λ (x : List ℕ). length x) (get_or-replicate 32 q lost_cell [] (omega arith))
    ∙ c.size) ∙ (omega arith)

pub lost_more : (k : ℕ) → lost_cells (k + 1) ≡ lost_cells k ++ joined (replicate 32 lost_cell)
lost_more k =
    let more : 32 * (k + 1) ≡ 32 * k + 32 = omega arith in
    ap (λ (n : ℕ). joined (replicate n lost_cell)) more
    ∙ ap joined (sym (replicate-append-replicate (32 * k) 32 lost_cell))
    ∙ flat_map-append (λ (c : List ℕ). c) (replicate (32 * k) lost_cell) (replicate 32 lost_cell)

pub length-lost_cells : (k : ℕ) → length (lost_cells k) ≡ cells_len * k
length-lost_cells k =
    let c = lost_is_cell in
    let l : length (replicate (32 * k) lost_cell) ≡ 32 * k = length-replicate {A = List ℕ} (32 * k) lost_cell in
    length-joined (replicate (32 * k) lost_cell)
    (λ q within. ap (λ (x : List ℕ). length x) (get_or-replicate (32 * k) q lost_cell [] (omega arith)) ∙ c.size) ∙ (omega arith)
