-- The cells of sectors in memory, by those of a dump.
use Rattle.std.proofs.Common.{◌≡◌, ℕ, zero, suc, ◌+◌, ◌-◌, ◌<◌, ◌≤◌, true, List, [], ◌∷◌, ◌++◌, length, map, get_or, replicate, refl, sym}
use Rattle.std.proofs.Common.{ap, ◌∙◌, arith}
use Rattle.std.proofs.lemmas.List.{replicate-append-replicate}
use Rattle.std.specs.List.{range_with_len}
use Rattle.cartridge_laws.proofs.Places.{count_below, usable_small}
use Rattle.cartridge_spec.specs.Shape.{sector_at, usable_count, usable_places, data_count}
use Rattle.dump_spec.specs.Dump.{sector_view}
use Rattle.dump_spec.specs.declared.form.Form.TheVariants as forms
use Rattle.qic_base.specs.CartridgeTerms.{is_lost}
use Rattle.qic_base.specs.declared.tape.SectorView.{SectorView}
use Rattle.qic_base.specs.declared.tape.SectorView.TheVariants.{Lost}
use Rattle.segment_salvage.specs.Buffer.{buffer_view}
use Rattle.segment_salvage.specs.Laws.{BufferIsPiece, UnreadIsLost}
use Rattle.silent_locate.specs.Deep.{cell_of}

-- ---- functions that are the same at the numbers of a list

map-same : {A : Type 0} (f g : ℕ → A) (places : List ℕ) → ((k : ℕ) → k < length places → f (get_or places k 0) ≡ g (get_or places k 0)) →
    map f places ≡ map g places
map-same f g [] same = refl
map-same f g (place ∷ places) same =
    ap (λ t. t ∷ map f places) (same 0 (omega arith))
    ∙ ap (λ t. g place ∷ t) (map-same f g places (λ k h. same (suc k) (omega arith)))

map-const : {A : Type 0} (f : ℕ → A) (x : A) (places : List ℕ) → ((k : ℕ) → k < length places → f (get_or places k 0) ≡ x) →
    map f places ≡ replicate (length places) x
map-const f x [] same = refl
map-const f x (place ∷ places) same =
    ap (λ t. t ∷ map f places) (same 0 (omega arith))
    ∙ ap (λ t. x ∷ t) (map-const f x places (λ k h. same (suc k) (omega arith)))

-- and of a range
range-same : {A : Type 0} (f g : ℕ → A) (start other n : ℕ) → ((i : ℕ) → i < n → f (start + i) ≡ g (other + i)) →
    map f (range_with_len start n) ≡ map g (range_with_len other n)
range-same f g start other zero same = refl
range-same f g start other (suc n) same =
    let here : f start ≡ g other = ap f (sym (plus_none start)) ∙ same 0 (omega arith) ∙ ap g (plus_none other) in
    ap (λ t. t ∷ map f (range_with_len (start + 1) n)) here
    ∙ ap (λ t. g other ∷ t) (range-same f g (start + 1) (other + 1) n (λ i h.
    ap f (one_more start i) ∙ same (suc i) (omega arith) ∙ ap g (sym (one_more other i))))
  where
    plus_none : (k : ℕ) → k + 0 ≡ k
    plus_none k = omega arith

    one_more : (k i : ℕ) → k + 1 + i ≡ k + suc i
    one_more k i = omega arith

-- ---- the laws

pub buffer_is_piece : BufferIsPiece
buffer_is_piece forms.Sectors dump start usable unread sectors holds =
    map-same (buffer_view unread sectors) (λ index. sector_view dump (start + index)) (usable_places usable)
    (λ k h. holds (get_or (usable_places usable) k 0) (usable_small usable k h))
buffer_is_piece forms.Data dump start usable unread sectors holds =
    ap (λ (cells : List SectorView). cells ++ replicate (usable_count usable - data_count usable) Lost)
    (range-same (buffer_view unread sectors) (sector_view dump) 0 start (data_count usable) (λ i h.
    ap (buffer_view unread sectors) (none_more i) ∙ holds i h))
  where
    none_more : (i : ℕ) → 0 + i ≡ i
    none_more i = omega arith

lost_one : (unread : ℕ) (sectors : List (List ℕ)) (index : ℕ) → is_lost unread index ≡ true → buffer_view unread sectors index ≡ Lost
lost_one unread sectors index on = ap (λ t. cell_of t (sector_at sectors index)) on

lost_range : (unread : ℕ) (sectors : List (List ℕ)) (start n : ℕ) → start + n ≤ 32 →
    ((index : ℕ) → index < 32 → is_lost unread index ≡ true) →
    map (buffer_view unread sectors) (range_with_len start n) ≡ replicate n Lost
lost_range unread sectors start zero within all = refl
lost_range unread sectors start (suc n) within all =
    ap (λ t. t ∷ map (buffer_view unread sectors) (range_with_len (start + 1) n)) (lost_one unread sectors start (all start (omega arith)))
    ∙ ap (λ t. Lost ∷ t) (lost_range unread sectors (start + 1) n (omega arith) all)

pub unread_is_lost : UnreadIsLost
unread_is_lost forms.Sectors usable unread sectors all =
    map-const (buffer_view unread sectors) Lost (usable_places usable)
    (λ k h. lost_one unread sectors (get_or (usable_places usable) k 0) (all (get_or (usable_places usable) k 0) (usable_small usable k h)))
unread_is_lost forms.Data usable unread sectors all =
    let n : ℕ = usable_count usable in
    let d : ℕ = data_count usable in
    let most : n ≤ 32 = count_below usable 32 in
    let whole : d + (n - d) ≡ n = omega arith in
    ap (λ (cells : List SectorView). cells ++ replicate (n - d) Lost) (lost_range unread sectors 0 d (omega arith) all)
    ∙ replicate-append-replicate d (n - d) Lost
    ∙ ap (λ (k : ℕ). replicate k Lost) whole
