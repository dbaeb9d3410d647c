-- What a read of a segment shows of its sectors.
use Rattle.std.proofs.Common.{◌≡◌, ℕ, zero, suc, ◌+◌, ◌*◌, ◌%◌, ◌^◌, ◌<◌, ◌≤◌, List, [], ◌∷◌, ◌++◌, length, get_or, map, replicate, take}
use Rattle.std.proofs.Common.{All, Option, Some, None, IfSome, Bool, true, false, ◌&&◌, ◌==◌, if◌then◌else◌, refl, sym, ◌∙◌, ap, ap₂, subst}
use Rattle.std.proofs.Common.{arith, append_assoc, add-one}
use Rattle.std.proofs.Math.Nat.{mod-one, mod-eq_of_lt}
use Rattle.std.proofs.lemmas.List.{take_all, take_more, get_or-replicate}
use Rattle.std.proofs.lemmas.List.Concat.{flat_map-append}
use Rattle.std.proofs.lemmas.List.Elements.{All-push, All-nil}
use Rattle.std.proofs.lemmas.List.FromFn.{get_or-map-range_with_len, length-map-range_with_len, map-range_with_len_more}
use Rattle.std.proofs.lemmas.Nat.{mod-pow-add}
use Rattle.std.proofs.lemmas.Nat.Bits.{bit_at_ones, bit_at-lt}
use Rattle.std.specs.Int.{bit_at}
use Rattle.std.specs.List.{flat_map, range_with_len}
use Rattle.qic_base.proofs.Steps.{Tells-map}
use Rattle.qic_base.specs.Cartridge.{Cartridge, IsSector, view_at, zero_sector}
use Rattle.qic_base.specs.CartridgeTerms.{IsView, is_lost}
use Rattle.qic_base.specs.Tape.{Meaning}
use Rattle.qic_base.specs.TapeCalls.{Tells, ReadsSectors, KeepsOthers, is_readable, bytes_read}
use Rattle.qic_base.specs.declared.tape.SectorView.{SectorView}
use Rattle.qic_base.specs.declared.tape.SectorView.TheVariants.{Blank, Defect, Lost, Holds}
use Rattle.flat_dump.specs.Dump.{sector_bytes, views_bytes}
use Rattle.flat_dump.specs.Held.{held_bit, held_word}
use Rattle.flat_dump.specs.Seen.{AreSeen}
use Rattle.flat_dump.proofs.Held.{held_word-more}

-- ---- one sector

-- these are the bytes that a sector with this view shows, and whether it holds them
record Shows (bytes : List ℕ) (held : Bool) (view : SectorView) : Type 0 where
  is_view : IsView view
  shown : bytes ≡ sector_bytes view
  bit : held_bit view ≡ (if held then 1 else 0)

-- a wanted one was read over zero bytes
shows_read : (view : SectorView) (bytes : List ℕ) (held : Bool) → IsSector bytes → held ≡ is_readable view →
    bytes ≡ bytes_read true view zero_sector → Shows bytes held view
shows_read Blank bytes held is e read = record { is_view = tt; shown = read; bit = rw e refl }
shows_read Defect bytes held is e read = record { is_view = tt; shown = read; bit = rw e refl }
shows_read Lost bytes held is e read = record { is_view = tt; shown = read; bit = rw e refl }
shows_read (Holds own) bytes held is e read = record { is_view = subst IsSector read is; shown = read; bit = rw e refl }

-- the view of one of which nothing is told
view_by : (held : Bool) (bytes : List ℕ) → SectorView
view_by held bytes = if held then Holds bytes else Lost

shows_some : (held : Bool) (bytes : List ℕ) → IsSector bytes → (held ≡ false → bytes ≡ zero_sector) →
    Shows bytes held (view_by held bytes)
unfolding view_by
shows_some true bytes is kept = record { is_view = is; shown = refl; bit = refl }
shows_some false bytes is kept = record { is_view = tt; shown = kept refl; bit = refl }

-- ---- the sectors of a segment, one behind the other

pub views_bytes-append : (xs ys : List SectorView) → views_bytes (xs ++ ys) ≡ views_bytes xs ++ views_bytes ys
views_bytes-append [] ys = refl
views_bytes-append (x ∷ xs) ys =
    ap (λ (bytes : List ℕ). sector_bytes x ++ bytes) (views_bytes-append xs ys)
    ∙ sym (append_assoc (sector_bytes x) (views_bytes xs) (views_bytes ys))

-- the views of the first ones, so many
first_views : (view : ℕ → SectorView) (count : ℕ) → List SectorView
first_views view count = map view (range_with_len 0 count)

-- the first ones show these, and so does the word
record FirstShow (view : ℕ → SectorView) (sectors : List (List ℕ)) (word count : ℕ) : Type 0 where
  each : All IsView (first_views view count)
  shown : flat_map (λ (b : List ℕ). b) (take count sectors) ≡ views_bytes (first_views view count)
  masked : word % 2 ^ count ≡ held_word (first_views view count)

show_more : (view : ℕ → SectorView) (sectors : List (List ℕ)) (word count : ℕ) → count < length sectors →
    FirstShow view sectors word count → Shows (get_or sectors count []) (is_lost word count) (view count) →
    FirstShow view sectors word (count + 1)
unfolding first_views
show_more view sectors word count within first next =
    let more : first_views view (count + 1) ≡ first_views view count ++ view count ∷ [] =
    map-range_with_len_more view 0 count count (omega arith) in
    record {
      each = subst (All IsView) (sym more) (All-push IsView (first_views view count) (view count) first.each next.is_view);
      shown = ap (flat_map (λ (b : List ℕ). b)) (take_more sectors count [] within)
          ∙ flat_map-append (λ (b : List ℕ). b) (take count sectors) (get_or sectors count [] ∷ [])
          ∙ ap₂ (λ (xs ys : List ℕ). xs ++ ys) first.shown (ap (λ (b : List ℕ). b ++ []) next.shown)
          ∙ sym (views_bytes-append (first_views view count) (view count ∷ []))
          ∙ ap views_bytes (sym more);
      masked = masked ∙ sym (held_word-more (first_views view count) (view count)) ∙ ap held_word (sym more);
    }
  where
    by_bit : (bit : ℕ) → bit < 2 → bit ≡ (if bit == 1 then 1 else 0)
    by_bit zero small = refl
    by_bit (suc zero) small = refl
    by_bit (suc (suc n)) small = absurd (omega arith)

    bit : bit_at word count ≡ held_bit (view count)
    bit = by_bit (bit_at word count) (bit_at-lt word count) ∙ sym next.bit

    masked : word % 2 ^ (count + 1) ≡ held_word (first_views view count) + held_bit (view count) * 2 ^ length (first_views view count)
    masked =
        ap (λ (k : ℕ). word % 2 ^ k) (omega arith)
        ∙ mod-pow-add word 1 count
        ∙ ap₂ (λ (b w : ℕ). b * 2 ^ count + w) bit first.masked
        ∙ ap (λ (k : ℕ). held_bit (view count) * 2 ^ k + held_word (first_views view count)) (sym (length-map-range_with_len view 0 count))
        ∙ (omega arith)

first_show : (view : ℕ → SectorView) (sectors : List (List ℕ)) (word : ℕ) →
    ((k : ℕ) → k < length sectors → Shows (get_or sectors k []) (is_lost word k) (view k)) → (count : ℕ) → count ≤ length sectors →
    FirstShow view sectors word count
unfolding first_views
first_show view sectors word each zero within = record { each = All-nil IsView; shown = refl; masked = mod-one word }
first_show view sectors word each (suc count) within =
    subst (FirstShow view sectors word) (add-one count)
    (show_more view sectors word count (omega arith) (first_show view sectors word each count (omega arith)) (each count (omega arith)))

-- ---- as the tape tells them

seen_by : {T : Type 0} (t : Meaning T) (tape : T) (segment : ℕ) (sectors : List (List ℕ)) (word : ℕ) (view : ℕ → SectorView) →
    word < 2 ^ 32 → length sectors ≡ 32 → ((k : ℕ) → k < 32 → Shows (get_or sectors k []) (is_lost word k) (view k)) →
    Tells t tape (λ c. (k : ℕ) → k < 32 → view k ≡ view_at c segment k) → AreSeen t tape segment sectors word
unfolding first_views
seen_by t tape segment sectors word view small long each told = record {
  views = first_views view 32;
  each = first.each;
  size = length-map-range_with_len view 0 32;
  told = Tells-map t tape (λ c. (k : ℕ) → k < 32 → view k ≡ view_at c segment k)
      (λ c. (k : ℕ) → k < 32 → get_or (first_views view 32) k Blank ≡ view_at c segment k)
      (λ c at k within. get_or-map-range_with_len view 0 32 k k Blank within (omega arith) ∙ at k within) told;
  shown = ap (flat_map (λ (b : List ℕ). b)) (sym (take_all 32 sectors (omega arith))) ∙ first.shown;
  masked = sym (mod-eq_of_lt small) ∙ first.masked;
}
  where
    first : FirstShow view sectors word 32
    first = first_show view sectors word (λ k within. each k (omega arith)) 32 (omega arith)

-- zero bytes lay in each entry, and the sectors that hold bytes were read into theirs
pub segment_seen : {T : Type 0} (t : Meaning T) (tape : T) (segment wanted good blank : ℕ) (old new : List (List ℕ)) →
    wanted ≡ 4294967295 → old ≡ replicate 32 zero_sector → good < 2 ^ 32 → length new ≡ 32 →
    ((k : ℕ) → k < 32 → IsSector (get_or new k [])) → KeepsOthers good old new →
    Tells t tape (λ c. ReadsSectors wanted good blank (view_at c segment) old new) → AreSeen t tape segment new good
unfolding view_by
segment_seen {T} t tape segment wanted good blank old new all zeros small long are kept told = by_told (t.told tape) refl told where
  tells : (view : ℕ → SectorView) (held : Option (Option Cartridge)) → t.told tape ≡ held →
      IfSome held (λ h. IfSome h (λ c. (k : ℕ) → k < 32 → view k ≡ view_at c segment k)) →
      Tells t tape (λ c. (k : ℕ) → k < 32 → view k ≡ view_at c segment k)
  tells view held e fact =
      subst (λ (o : Option (Option Cartridge)). IfSome o (λ h. IfSome h (λ c. (k : ℕ) → k < 32 → view k ≡ view_at c segment k)))
      (sym e) fact

  lay : (k : ℕ) → k < 32 → get_or old k [] ≡ zero_sector
  lay k within = ap (λ (ss : List (List ℕ)). get_or ss k []) zeros ∙ get_or-replicate 32 k zero_sector [] within

  asked : (k : ℕ) → k < 32 → is_lost wanted k ≡ true
  asked k within = ap (λ (w : ℕ). is_lost w k) all ∙ ap (λ (b : ℕ). b == 1) (bit_at_ones 32 k within)

  some : ℕ → SectorView
  some k = view_by (is_lost good k) (get_or new k [])

  shows : (k : ℕ) → k < 32 → Shows (get_or new k []) (is_lost good k) (some k)
  shows k within = shows_some (is_lost good k) (get_or new k []) (are k within) (λ other. kept k within other ∙ lay k within)

  shows_told : (c : Cartridge) → ReadsSectors wanted good blank (view_at c segment) old new → (k : ℕ) → k < 32 →
      Shows (get_or new k []) (is_lost good k) (view_at c segment k)
  shows_told c reads k within =
      shows_read (view_at c segment k) (get_or new k []) (is_lost good k) (are k within)
      (reads.good_are k within ∙ ap (λ (b : Bool). b && is_readable (view_at c segment k)) (asked k within))
      (reads.bytes k within
      ∙ ap₂ (λ (b : Bool) (bytes : List ℕ). bytes_read b (view_at c segment k) bytes) (asked k within) (lay k within))

  by_told : (held : Option (Option Cartridge)) → t.told tape ≡ held →
      IfSome held (λ h. IfSome h (λ c. ReadsSectors wanted good blank (view_at c segment) old new)) → AreSeen t tape segment new good
  by_told None e reads = seen_by t tape segment new good some small long shows (tells some None e tt)
  by_told (Some None) e reads = seen_by t tape segment new good some small long shows (tells some (Some None) e tt)
  by_told (Some (Some c)) e reads =
      seen_by t tape segment new good (view_at c segment) small long (shows_told c reads)
      (tells (view_at c segment) (Some (Some c)) e (λ k within. refl))
