-- What the writes of a segment leave on a cartridge.
use Rattle.std.proofs.Common.{◌≡◌, ℕ, zero, suc, ◌<◌, refl, arith, List, [], ◌∷◌, length, set, slice_get, Some, ◌≢◌, ap, ◌≤◌, ◌∙◌, sym, inl}
use Rattle.std.proofs.Common.{inr, Option, get_or, subst, map}
use Rattle.std.proofs.lemmas.List.{length-append, length-take-le, set_past, length-map, take_all}
use Rattle.std.specs.Prelude.{unwrap_or}
use Rattle.std.proofs.lemmas.Bool.{cases_lt}
use Rattle.std.proofs.lemmas.Option.{slice_get_past, slice_get-map, slice_get-get_or, slice_get_within, get_or_from_slice_get}
use Rattle.std.specs.Option.{option_map}
use Rattle.std.proofs.lemmas.List.Elements.{All-get_or}
use Rattle.cartridge_laws.proofs.Cells.{IsReadable, count_of_readable}
use Rattle.cartridge_laws.proofs.Places.{AreSmall, AreApart, usable_small, usable_apart}
use Rattle.cartridge_laws.specs.AppendWrites.{AreWrites, EachIs}
use Rattle.cartridge_laws.specs.Writes.{data_in, block_in, segment_writes}
use Rattle.cartridge_laws.specs.WritingLaws.{WritesLeaveData, WritesMakeReadable, WritesTouchOnly}
use Rattle.cartridge_spec.specs.Appending.{new_sectors}
use Rattle.cartridge_spec.specs.Code.{parity_sectors}
use Rattle.cartridge_spec.specs.Says.{cells_of, unreadable_count}
use Rattle.cartridge_spec.specs.Settling.{writes_of, changed_by}
use Rattle.cartridge_spec.specs.Shape.{usable_count, data_count, usable_places, IsLive}
use Rattle.gf256_qic.proofs.Parities.{length-parity_sectors}
use Rattle.qic_base.specs.Cartridge.{Cartridge, view_at}
use Rattle.qic_base.specs.CartridgeTerms.{place_of}
use Rattle.qic_base.specs.Step.{write_sector, changed, written_view, Step, with_sectors}
use Rattle.qic_base.specs.declared.tape.SectorView.{SectorView}
use Rattle.qic_base.specs.declared.tape.SectorView.TheVariants.{Blank, Defect, Lost, Holds}
use Rattle.qic_base.proofs.Arrays.{slice_get-set_other}

-- ---- lists

pub slice_get-set_same : {A : Type 0} (xs : List A) (i : ℕ) (y : A) → i < length xs → slice_get (set xs i y) i ≡ Some y
slice_get-set_same [] i y h = absurd (omega arith)
slice_get-set_same (x ∷ xs) zero y h = refl
slice_get-set_same (x ∷ xs) (suc i) y h = slice_get-set_same xs i y (omega arith)

-- the block of data sectors and their parity is as long as there are usable sectors
pub length-block_in : (usable : ℕ) (sectors : List (List ℕ)) → 4 ≤ usable_count usable → usable_count usable ≤ length sectors →
    length (block_in usable sectors) ≡ usable_count usable
length-block_in usable sectors least room =
    let three : length (parity_sectors (data_in usable sectors)) ≡ 3 = length-parity_sectors (data_in usable sectors) in
    let shown : length (data_in usable sectors) ≡ data_count usable =
    length-take-le (data_count usable) sectors (omega arith) in
    length-append (data_in usable sectors) (parity_sectors (data_in usable sectors)) ∙ omega arith

-- ---- one write

at_written : (c : Cartridge) (segment place : ℕ) (bytes : List ℕ) →
    view_at (changed (write_sector segment place bytes) c) segment place ≡ written_view bytes (view_at c segment place)
at_written c segment place bytes =
    let p : ℕ = place_of segment place in
    let view : SectorView = written_view bytes (view_at c segment place) in
    elim (cases_lt p (length c.views)) [
      | inl within ↦ ap (λ (o : Option SectorView). unwrap_or o Blank) (slice_get-set_same c.views p view within)
      | inr past ↦
          let blank : view_at c segment place ≡ Blank = ap (λ (o : Option SectorView). unwrap_or o Blank) (slice_get_past c.views p past) in
          ap (λ (views : List SectorView). unwrap_or (slice_get views p) Blank) (set_past c.views p view past)
          ∙ blank ∙ sym (ap (written_view bytes) blank)
    ]

at_other : (c : Cartridge) (segment place s i : ℕ) (bytes : List ℕ) → place < 32 → i < 32 → (s ≡ segment → place ≡ i → ⊥) →
    view_at (changed (write_sector segment place bytes) c) s i ≡ view_at c s i
at_other c segment place s i bytes small h apart =
    let other : place_of s i ≢ place_of segment place =
    λ e. let same : s ≡ segment = omega arith in let one : place ≡ i = omega arith in apart same one in
    ap (λ (o : Option SectorView). unwrap_or o Blank)
    (slice_get-set_other c.views (place_of segment place) (place_of s i) (written_view bytes (view_at c segment place)) other)

-- ---- several writes

-- sectors that are written in one step are as those that are written one after the other
pub written_together : (segment : ℕ) (places : List ℕ) (sectors : List (List ℕ)) (c : Cartridge) →
    with_sectors segment (new_sectors places sectors) c ≡ changed_by (writes_of segment places sectors) c
written_together segment [] sectors c = refl
written_together segment (p ∷ places) [] c = refl
written_together segment (p ∷ places) (bytes ∷ sectors) c =
    written_together segment places sectors (changed (write_sector segment p bytes) c)

-- what is true of each of the writes is true of each of the sectors
pub each_together : (of : ℕ → ℕ → List ℕ → Type 0) (segment : ℕ) (places : List ℕ) (sectors : List (List ℕ)) →
    AreWrites of (writes_of segment places sectors) → EachIs of segment (new_sectors places sectors)
each_together of segment [] sectors are = tt
each_together of segment (p ∷ places) [] are = tt
each_together of segment (p ∷ places) (bytes ∷ sectors) are = (are.0.0, each_together of segment places sectors are.1)

abbrev NamesNot : List ℕ → (segment s i : ℕ) → Type 0
NamesNot places segment s i = s ≡ segment → (k : ℕ) → k < length places → get_or places k 0 ≡ i → ⊥

-- what is not written stays
view_kept : (places : List ℕ) (sectors : List (List ℕ)) (c : Cartridge) (segment s i : ℕ) → AreSmall places → i < 32 →
    NamesNot places segment s i → view_at (changed_by (writes_of segment places sectors) c) s i ≡ view_at c s i
view_kept [] sectors c segment s i small h other = refl
view_kept (p ∷ places) [] c segment s i small h other = refl
view_kept (p ∷ places) (bytes ∷ sectors) c segment s i small h other =
    view_kept places sectors (changed (write_sector segment p bytes) c) segment s i
    (λ k l. small (suc k) (omega arith)) h (λ same k l e. other same (suc k) (omega arith) e)
    ∙ at_other c segment p s i bytes (small 0 (omega arith)) h (λ same e. other same 0 (omega arith) e)

-- what is written stands at its place
view_after : (places : List ℕ) (sectors : List (List ℕ)) (c : Cartridge) (segment k : ℕ) → AreSmall places → AreApart places →
    k < length places → length places ≤ length sectors →
    view_at (changed_by (writes_of segment places sectors) c) segment (get_or places k 0)
    ≡ written_view (get_or sectors k []) (view_at c segment (get_or places k 0))
view_after [] sectors c segment k small apart h room = absurd (omega arith)
view_after (p ∷ places) [] c segment k small apart h room = absurd (omega arith)
view_after (p ∷ places) (bytes ∷ sectors) c segment zero small apart h room =
    view_kept places sectors (changed (write_sector segment p bytes) c) segment segment p
    (λ k l. small (suc k) (omega arith)) (small 0 (omega arith)) (λ same k l e. apart 0 (suc k) (omega arith) (omega arith) (sym e))
    ∙ at_written c segment p bytes
view_after (p ∷ places) (bytes ∷ sectors) c segment (suc k) small apart h room =
    let q : ℕ = get_or places k 0 in
    view_after places sectors (changed (write_sector segment p bytes) c) segment k
    (λ j l. small (suc j) (omega arith)) (λ i j l m e. apart (suc i) (suc j) (omega arith) (omega arith) e) (omega arith) (omega arith)
    ∙ ap (written_view (get_or sectors k []))
    (at_other c segment p segment q bytes (small 0 (omega arith)) (small (suc k) (omega arith))
    (λ same e. apart 0 (suc k) (omega arith) (omega arith) e))

-- ---- a segment written

-- the view of a usable sector after all are written
after_all : (c : Cartridge) (segment usable : ℕ) (sectors : List (List ℕ)) (k : ℕ) → 4 ≤ usable_count usable →
    usable_count usable ≤ length sectors → k < usable_count usable →
    view_at (changed_by (segment_writes segment usable sectors) c) segment (get_or (usable_places usable) k 0)
    ≡ written_view (get_or (block_in usable sectors) k []) (view_at c segment (get_or (usable_places usable) k 0))
after_all c segment usable sectors k least room h =
    let long : length (block_in usable sectors) ≡ usable_count usable = length-block_in usable sectors least room in
    ap (λ (d : Cartridge). view_at d segment (get_or (usable_places usable) k 0))
    (written_together segment (usable_places usable) (block_in usable sectors) c)
    ∙ view_after (usable_places usable) (block_in usable sectors) c segment k (usable_small usable) (usable_apart usable) h (omega arith)

-- the cell at a place
pub cell_at : (c : Cartridge) (segment usable k : ℕ) → k < usable_count usable →
    slice_get (cells_of c segment usable) k ≡ Some (view_at c segment (get_or (usable_places usable) k 0))
cell_at c segment usable k h =
    slice_get-map (view_at c segment) (usable_places usable) k
    ∙ ap (option_map (view_at c segment)) (slice_get-get_or (usable_places usable) k 0 h)

-- a written sector that can be read holds what was written
held_bytes : (view : SectorView) (bytes held : List ℕ) → written_view bytes view ≡ Holds held → bytes ≡ held
held_bytes Blank bytes held e = absurd (cc)
held_bytes Defect bytes held e = absurd (cc)
held_bytes Lost bytes held e = cc
held_bytes (Holds old) bytes held e = cc

pub writes_leave_data : WritesLeaveData
writes_leave_data c segment usable sectors least room =
    let after : Cartridge = changed_by (segment_writes segment usable sectors) c in
    let long : length (block_in usable sectors) ≡ usable_count usable = length-block_in usable sectors least room in
    let count : length (cells_of after segment usable) ≡ usable_count usable = length-map (usable_places usable) (view_at after segment) in
    record {
      size = long ∙ sym count;
      each = λ k held at.
          let within : k < length (cells_of after segment usable) = slice_get_within (cells_of after segment usable) k (Holds held) at in
          let below : k < usable_count usable = omega arith in
          let here : Some (Holds held) ≡ Some (view_at after segment (get_or (usable_places usable) k 0)) = sym at
          ∙ cell_at after segment usable k below in
          let view : view_at after segment (get_or (usable_places usable) k 0) ≡ Holds held = cc in
          let bytes : get_or (block_in usable sectors) k [] ≡ held =
          held_bytes (view_at c segment (get_or (usable_places usable) k 0)) (get_or (block_in usable sectors) k []) held
          (sym (after_all c segment usable sectors k least room below) ∙ view) in
          slice_get-get_or (block_in usable sectors) k [] (omega arith) ∙ ap Some bytes;
    }

pub live_holds : (view : SectorView) (bytes : List ℕ) → IsLive view → written_view bytes view ≡ Holds bytes
live_holds Blank bytes live = absurd live
live_holds Defect bytes live = absurd live
live_holds Lost bytes live = refl
live_holds (Holds old) bytes live = refl

pub writes_make_readable : WritesMakeReadable
writes_make_readable c segment usable sectors least room live =
    let after : Cartridge = changed_by (segment_writes segment usable sectors) c in
    let before : length (cells_of c segment usable) ≡ usable_count usable = length-map (usable_places usable) (view_at c segment) in
    let count : length (cells_of after segment usable) ≡ usable_count usable = length-map (usable_places usable) (view_at after segment) in
    let each : (k : ℕ) → k < usable_count usable → IsReadable (cells_of after segment usable) k =
    λ k h.
    let view : SectorView = view_at c segment (get_or (usable_places usable) k 0) in
    let is : get_or (cells_of c segment usable) k Blank ≡ view =
    get_or_from_slice_get (cells_of c segment usable) k view Blank (cell_at c segment usable k h) in
    let lives : IsLive view = subst IsLive is (All-get_or IsLive (cells_of c segment usable) k Blank (omega arith) live) in (
      get_or (block_in usable sectors) k [],
      cell_at after segment usable k h
          ∙ ap Some (after_all c segment usable sectors k least room h ∙ live_holds view (get_or (block_in usable sectors) k []) lives),
    ) in
    ap unreadable_count (sym (take_all (usable_count usable) (cells_of after segment usable) (omega arith)))
    ∙ count_of_readable (usable_count usable) (cells_of after segment usable) each

-- ---- the sectors that aren't named

pub writes_touch_only : WritesTouchOnly
writes_touch_only c segment places sectors s i small h other = view_kept places sectors c segment s i small h other

pub writes_of_map : (segment : ℕ) (f : ℕ → ℕ) (g : ℕ → List ℕ) (places : List ℕ) →
    writes_of segment (map f places) (map g places) ≡ map (λ p. write_sector segment (f p) (g p)) places
writes_of_map segment f g [] = refl
writes_of_map segment f g (p ∷ places) =
    ap (λ (steps : List Step). write_sector segment (f p) (g p) ∷ steps) (writes_of_map segment f g places)
