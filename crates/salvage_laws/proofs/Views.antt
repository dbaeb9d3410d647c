-- The sectors of an exported cartridge as its dump and its map tell them.
use Rattle.std.proofs.Common.{◌≡◌, ◌↔◌, inl, inr, ℕ, zero, suc, ◌+◌, ◌-◌, ◌*◌, ◌<◌, ◌≤◌, ◌&&◌, nat_le, nat_lt, Bool, true}
use Rattle.std.proofs.Common.{false}
use Rattle.std.proofs.Common.{List, [], ◌∷◌, length, map, get_or, if◌then◌else◌, replicate, Option, Some, refl, sym, ap, subst}
use Rattle.std.proofs.Common.{◌∙◌, arith}
use Rattle.std.proofs.lemmas.Bool.{leb-true}
use Rattle.std.proofs.lemmas.Bool.Decides.{nat_tests}
use Rattle.std.proofs.lemmas.List.{length-map, get_or-map, same_lists}
use Rattle.std.proofs.lemmas.List.Sums.{sum_by-append}
use Rattle.std.proofs.lemmas.Option.{unwrap_or-slice_get}
use Rattle.std.specs.Prelude.{slice_range, sum_by}
use Rattle.std.specs.List.{range_with_len}
use Rattle.cartridge_laws.proofs.Places.{usable_small}
use Rattle.cartridge_spec.specs.Says.{cells_of}
use Rattle.cartridge_spec.specs.Shape.{usable_places, usable_count}
use Rattle.flat_dump.proofs.Bytes.{dump_is_whole}
use Rattle.flat_dump.proofs.Coming.{brings_back}
use Rattle.flat_dump.proofs.Maps.{each_map_tells}
use Rattle.flat_dump.specs.Dump.{dump_of}
use Rattle.flat_dump.specs.Imported.{IsImportedView, brought_back, brought_view}
use Rattle.qic_base.specs.Cartridge.{Cartridge, view_at}
use Rattle.qic_base.specs.CartridgeTerms.{IsCartridge, place_of}
use Rattle.qic_base.specs.declared.tape.SectorView.{SectorView}
use Rattle.qic_base.specs.declared.tape.SectorView.TheVariants.{Blank, Lost, Holds}
use Rattle.rescue_map.specs.declared.form.Block.{Block}
use Rattle.rescue_map.specs.Map.{Reading, IsWhole}
use Rattle.dump_spec.specs.Answers.{IsKnown, Known, blocks_in}
use Rattle.dump_spec.specs.Cells.{cells_in}
use Rattle.dump_spec.specs.Dump.{Dump, sector_view}
use Rattle.dump_spec.specs.Lists.{Span}
use Rattle.dump_spec.specs.Pieces.{Layout, piece_start, has_piece}
use Rattle.dump_spec.specs.declared.asked.Command.{Command}
use Rattle.dump_spec.specs.declared.form.Form.{Form}
use Rattle.dump_spec.specs.declared.form.Form.TheVariants as forms
use Rattle.salvage_laws.specs.Exported.{exported, plainly}
use Rattle.salvage_laws.specs.CellLaws.{SectorsAreViews, CellsAreCells}

-- ---- one sector

-- what is imported of a sector is what is read of it
view_of : (dump : Dump) (bytes : List ℕ) (blocks : List Block) (q : ℕ) (view : SectorView) → dump.bytes ≡ bytes →
    ((dump.rescued q ≡ true) ↔ IsWhole blocks q) → IsImportedView bytes (Some blocks) q view → sector_view dump q ≡ view
view_of dump bytes blocks q view same rescued (inl (taken, is)) =
    let fits : nat_le (1024 * q + 1024) (length bytes) ≡ true = (let has : 1024 * q + 1024 ≤ length bytes = taken.0 in
    grind (arith, nat_tests)) in
    rw (same, fits, rescued.1 taken.1) (sym is)
view_of dump bytes blocks q view same rescued (inr (none, is)) = by_fit (nat_le (1024 * q + 1024) (length bytes)) refl where
  by_rescue : (b : Bool) → dump.rescued q ≡ b → 1024 * q + 1024 ≤ length bytes →
      (if b then Holds (slice_range bytes (1024 * q) (1024 * q + 1024)) else Lost) ≡ view
  by_rescue true e fits = absurd (none (fits, rescued.0 e))
  by_rescue false e fits = sym is

  by_fit : (b : Bool) → nat_le (1024 * q + 1024) (length bytes) ≡ b → sector_view dump q ≡ view
  by_fit true e = rw (same, e) (by_rescue (dump.rescued q) refl (leb-true (1024 * q + 1024) (length bytes) e))
  by_fit false e = rw (same, e) (sym is)

-- all of them are read so
abbrev pub AreViews : Cartridge → Dump → Type 0
AreViews c dump =
    (s i : ℕ) → s < 28 * c.info.segments_per_track → i < 32 → sector_view dump (32 * s + i) ≡ view_at (brought_back c) s i

pub known_views : (c : Cartridge) (sure : Option (List ℕ)) (command : Command) (known : Known) → IsCartridge c →
    IsKnown (exported c sure) (plainly command) known → AreViews c known.dump
known_views c sure command known is by s i within low =
    let q : ℕ = place_of s i in
    let tells = each_map_tells c is in
    let back = brings_back c tells.blocks is tells.reading in
    let P : Reading → Type 0 = λ r. (known.dump.rescued q ≡ true) ↔ IsWhole (blocks_in r) q in
    view_of known.dump (dump_of c) tells.blocks q (get_or (brought_back c).views q Blank) by.bytes
    (subst P tells.reading (by.rescued q)) (back.views q (omega arith))
    ∙ sym (unwrap_or-slice_get (brought_back c).views q Blank)

pub sectors_are_views : SectorsAreViews
sectors_are_views c sure command known s i is by within low =
    let size = is.sectors in
    known_views c sure command known is by s i within low
    ∙ unwrap_or-slice_get (brought_back c).views (place_of s i) Blank
    ∙ get_or-map brought_view c.views (place_of s i) Blank Blank (omega arith)
    ∙ ap brought_view (sym (unwrap_or-slice_get c.views (place_of s i) Blank))

-- ---- pieces

-- the layout of the form of sectors from segment 0 on
abbrev pub plain_layout : (masks : ℕ → ℕ) → Layout
plain_layout masks = record { form = forms.Sectors; first = 0; missing = []; masks = masks }

pub layout_is : (layout : Layout) → layout.form ≡ forms.Sectors → layout.first ≡ 0 → layout.missing ≡ [] →
    layout ≡ plain_layout layout.masks
layout_is layout form first missing =
    ap (λ (f : Form). record layout { form = f }) form
    ∙ ap (λ (n : ℕ). record layout { form = forms.Sectors; first = n }) first
    ∙ ap (λ (spans : List Span). record layout { form = forms.Sectors; first = 0; missing = spans }) missing

-- 32 sectors lie in each segment
sectors_before : (a n : ℕ) → sum_by (λ (s : ℕ). 32) (range_with_len a n) ≡ 32 * n
sectors_before a zero = refl
sectors_before a (suc n) =
    sum_by-append (λ (s : ℕ). 32) (a ∷ []) (range_with_len (a + 1) n) ∙ (let rest = sectors_before (a + 1) n in omega arith)

start_is : (masks : ℕ → ℕ) (s : ℕ) → piece_start (plain_layout masks) s ≡ 32 * s
start_is masks s =
    let all : s - 0 ≡ s = omega arith in
    ap (λ (n : ℕ). sum_by (λ (k : ℕ). 32) (range_with_len 0 n)) all ∙ sectors_before 0 s

pub piece_is_there : (dump : Dump) (masks : ℕ → ℕ) (s n : ℕ) → length dump.bytes ≡ 917504 * n → n ≤ 246 → s < 28 * n →
    has_piece dump (plain_layout masks) s ≡ true
piece_is_there dump masks s n long short within =
    let front : nat_lt (1024 * (32 * s)) (length dump.bytes) ≡ true = (let l : 1024 * (32 * s) < length dump.bytes = omega arith in
    grind (arith, nat_tests)) in
    let few : nat_le s 65535 ≡ true = grind (arith, nat_tests) in
    let least : nat_le 0 s ≡ true = grind (arith, nat_tests) in
    ap (λ (b : Bool). b && nat_le s 65535 && true && nat_lt (1024 * piece_start (plain_layout masks) s) (length dump.bytes)) least
    ∙ ap (λ (b : Bool). b && true && nat_lt (1024 * piece_start (plain_layout masks) s) (length dump.bytes)) few
    ∙ ap (λ (k : ℕ). nat_lt (1024 * k) (length dump.bytes)) (start_is masks s)
    ∙ front

-- ---- cells

map_small : (f g : ℕ → SectorView) (mask : ℕ) → ((i : ℕ) → i < 32 → f i ≡ g i) →
    map f (usable_places mask) ≡ map g (usable_places mask)
map_small f g mask same =
    let places : List ℕ = usable_places mask in
    same_lists (map f places) (map g places) (length-map places f ∙ sym (length-map places g))
    (λ k d below.
    let within : k < length places = omega (arith, length-map places f) in
    get_or-map f places k 0 d within
    ∙ same (get_or places k 0) (usable_small mask k within)
    ∙ sym (get_or-map g places k 0 d within))

pub cells_as : (c : Cartridge) (dump : Dump) (masks : ℕ → ℕ) (s : ℕ) → IsCartridge c → dump.bytes ≡ dump_of c → AreViews c dump →
    s < 28 * c.info.segments_per_track →
    cells_in dump (plain_layout masks) s ≡ cells_of (brought_back c) s (masks s)
cells_as c dump masks s is bytes views within =
    let long : length dump.bytes ≡ 917504 * c.info.segments_per_track = ap length bytes ∙ dump_is_whole c is in
    ap (λ (b : Bool). if b then map (λ i. sector_view dump (piece_start (plain_layout masks) s + i)) (usable_places (masks s))
    else replicate (usable_count (masks s)) Lost) (piece_is_there dump masks s c.info.segments_per_track long is.long.longest within)
    ∙ ap (λ (k : ℕ). map (λ i. sector_view dump (k + i)) (usable_places (masks s))) (start_is masks s)
    ∙ map_small (λ i. sector_view dump (32 * s + i)) (view_at (brought_back c) s) (masks s) (λ i low. views s i within low)

-- ---- by what is known

pub known_layout : (c : Cartridge) (sure : Option (List ℕ)) (command : Command) (known : Known) →
    IsKnown (exported c sure) (plainly command) known → known.layout ≡ plain_layout known.layout.masks
known_layout c sure command known by = layout_is known.layout by.form by.first by.missing

pub cells_are_cells : CellsAreCells
cells_are_cells c sure command known s is by within =
    ap (λ (layout : Layout). cells_in known.dump layout s) (known_layout c sure command known by)
    ∙ cells_as c known.dump known.layout.masks s is by.bytes (known_views c sure command known is by) within
