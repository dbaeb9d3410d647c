-- What the state bytes say of a sector, and what each call then writes and answers.
use Rattle.std.proofs.Common.{◌≡◌, ℕ, ◌+◌, ◌<◌, Bool, true, false, ◌≤◌, List, [], ◌∷◌, length, refl, sym, ◌∙◌, ap, arith}
use Rattle.std.proofs.Common.{Option, Some, None, IfSome}
use Rattle.std.specs.Prelude.{slice_index, slice_range, ◌==◌}
use Rattle.qic_base.specs.declared.tape.SectorView.{SectorView}
use Rattle.qic_base.specs.declared.tape.SectorView.TheVariants.{Blank, Defect, Lost, Holds}
use Rattle.qic_base.specs.Tape.{spoil_answer}
use Rattle.cart_image.specs.declared.reading.SectorState.{SectorState}
use Rattle.cart_image.specs.declared.reading.SectorState.TheVariants as state
use Rattle.cart_image.specs.declared.layout.Kind.{Kind}
use Rattle.cart_image.specs.declared.layout.Kind.TheVariants.{Planes, Cells, CellsBehind}
use Rattle.cart_image.specs.declared.layout.Layout.{Layout}
use Rattle.cart_image.specs.declared.layout.Part.TheVariants.{GateByte, FormedByte, DefectByte, Data}
use Rattle.cart_image.specs.Layout.{cell_len}
use Rattle.cart_image.specs.Layout.{place, place_in, sectors, touches, end_of, wear_steps, spoil_steps}
use Rattle.cart_image.specs.Layout.{mark_steps, put, closed_gate, defect_byte, mark_byte}
use Rattle.cart_image.proofs.Bytes.{view_in-is}
use Rattle.cart_image.proofs.Known.{part-index}
use Rattle.cart_image.proofs.Layouts.{laid_out}
use Rattle.cart_image.specs.Image.{view_by, view_in, sector_bytes}
use Rattle.cart_image.specs.State.{state_of}

pub wear-readable : (l : Layout) (q : ℕ) (v : SectorView) → state.Readable ≡ state_of v →
    put (place l GateByte q) (closed_gate ∷ []) ≡ wear_steps l q v
wear-readable l q Blank is = cc
wear-readable l q Defect is = cc
wear-readable l q Lost is = cc
wear-readable l q (Holds bytes) is = refl

pub spoil-blank : (l : Layout) (q : ℕ) (v : SectorView) → state.Blank ≡ state_of v →
    (put (place l DefectByte q) (defect_byte ∷ []) ≡ spoil_steps l q v) × (true ≡ spoil_answer v)
spoil-blank l q Blank is = (refl, refl)
spoil-blank l q Defect is = cc
spoil-blank l q Lost is = cc
spoil-blank l q (Holds bytes) is = cc

pub mark-set : (place byte : ℕ) (on : Bool) → on ≡ true → (byte == mark_byte) ≡ false →
    put place (mark_byte ∷ []) ≡ mark_steps place on byte
mark-set place byte on is not_set = rw (is, not_set) refl

pub mark-cleared : (place byte : ℕ) (on : Bool) → on ≡ false → (byte == mark_byte) ≡ true → put place (0 ∷ []) ≡ mark_steps place on byte
mark-cleared place byte on is set = rw (is, set) refl

-- the parts of a sector in its cell
pub in-cell : (l : Layout) (q : ℕ) → touches l.kind ≡ false
    → (place l FormedByte q ≡ place l GateByte q + 1) × (place l DefectByte q ≡ place l GateByte q + 2)
    × (place l Data q ≡ place l GateByte q + 3)
in-cell l q cells = by_kind l.kind cells
  where
    by_kind : (kind : Kind) → touches kind ≡ false
        → (place_in kind l.segments_per_track FormedByte q ≡ place_in kind l.segments_per_track GateByte q + 1)
        × (place_in kind l.segments_per_track DefectByte q ≡ place_in kind l.segments_per_track GateByte q + 2)
        × (place_in kind l.segments_per_track Data q ≡ place_in kind l.segments_per_track GateByte q + 3)
    by_kind Planes is = cc
    by_kind Cells is = (refl, refl, refl)
    by_kind CellsBehind is = (refl, refl, refl)

-- what the first bytes of a cell say
pub cell-state : (told : Option (List ℕ)) (l : Layout) (q p w : ℕ) (part : List ℕ) (s : SectorState) → touches l.kind ≡ false →
    q < sectors l.segments_per_track → p ≡ place l GateByte q → 3 ≤ w → w ≤ cell_len
    → IfSome told (λ b. p + w ≤ length b → part ≡ slice_range b p (p + w)) →
    ((bytes : List ℕ) → s ≡ state_of (view_by (slice_index part 2) (slice_index part 1) (slice_index part 0) bytes))
    → IfSome told (λ b. end_of l ≤ length b → s ≡ state_of (view_in l b q))
cell-state None l q p w part s cells on at least most fact by = tt
cell-state (Some b) l q p w part s cells on at least most fact by = λ long.
    let c = in-cell l q cells in
    let e = (laid_out l).before Data q on in
    let f = c.0 in
    let d = c.1 in
    let t = c.2 in
    let is : part ≡ slice_range b p (p + w) = fact (omega arith) in
    by (sector_bytes l b q)
    ∙ ap (λ x. state_of (view_by x (slice_index part 1) (slice_index part 0) (sector_bytes l b q)))
    (part-index b part p (place l DefectByte q) 2 w is (omega arith) (omega arith))
    ∙ ap (λ x. state_of (view_by (slice_index b (place l DefectByte q)) x (slice_index part 0) (sector_bytes l b q)))
    (part-index b part p (place l FormedByte q) 1 w is (omega arith) (omega arith))
    ∙ ap (λ x. state_of (view_by (slice_index b (place l DefectByte q)) (slice_index b (place l FormedByte q)) x (sector_bytes l b q)))
    (part-index b part p (place l GateByte q) 0 w is (omega arith) (omega arith))
    ∙ ap state_of (sym (view_in-is l b q))
