-- Segments that are read and written one behind the other.
use Rattle.std.proofs.Common.{◌≡◌, ℕ, ◌+◌, ◌-◌, ◌*◌, ◌<◌, ◌≤◌, List, [], ◌∷◌, ◌++◌, length, get_or, take, Option, Some, None, IfSome}
use Rattle.std.proofs.Common.{⊎_elim, sym, ◌∙◌, ap, ap₂, subst, arith, length-append}
use Rattle.std.proofs.Math.ListN.{get_or-append}
use Rattle.std.proofs.lemmas.Bool.{cases_lt}
use Rattle.std.proofs.lemmas.List.{same_lists, get_or_default, length-take-le, get_or-take, get_or-append_right}
use Rattle.std.proofs.lemmas.List.Elements.{All-append}
use Rattle.std.proofs.lemmas.Option.{unwrap_or-slice_get}
use Rattle.std.specs.List.{flat_map}
use Rattle.qic_base.proofs.Steps.{Tells-read, tells_two}
use Rattle.qic_base.specs.Cartridge.{Cartridge, view_at}
use Rattle.qic_base.specs.CartridgeTerms.{IsView}
use Rattle.qic_base.specs.Sink as sinks
use Rattle.qic_base.specs.Tape as tapes
use Rattle.qic_base.specs.TapeCalls as tape_calls
use Rattle.qic_base.specs.declared.tape.SectorView.{SectorView}
use Rattle.qic_base.specs.declared.tape.SectorView.TheVariants.{Blank}
use Rattle.flat_dump.specs.Export.{IsFrontOf, AreFirst}
use Rattle.flat_dump.specs.Seen.{AreSeen, SegmentsSeen}
use Rattle.flat_dump.proofs.Held.{held_words-more}
use Rattle.flat_dump.proofs.Seeing.{views_bytes-append}

-- the first segments were read and written
pub record SoFar {T K : Type 0} (t : tapes.Meaning T) (k : sinks.Meaning K) (first : T) (from to : K) (count : ℕ)
    (mask : List ℕ) : Type 0 where
  pub text : List ℕ
  pub seen : SegmentsSeen t first count text mask
  pub wrote : sinks.Wrote k from to text

-- a segment behind others
segment_behind : (c : Cartridge) (views more : List SectorView) (count : ℕ) → length views ≡ 32 * count →
    ((q : ℕ) → q < 32 * count → get_or views q Blank ≡ get_or c.views q Blank) →
    ((k : ℕ) → k < 32 → get_or more k Blank ≡ view_at c count k) →
    (q : ℕ) → q < 32 * (count + 1) → get_or (views ++ more) q Blank ≡ get_or c.views q Blank
segment_behind c views more count size before here q within = ⊎_elim
    (λ below. get_or-append views more Blank q (omega arith) ∙ before q below)
    (λ past.
    let place : 32 * count + (q - 32 * count) ≡ q = omega arith in
    get_or-append_right views more (32 * count) q Blank size past
    ∙ here (q - 32 * count) (omega arith)
    ∙ unwrap_or-slice_get c.views (32 * count + (q - 32 * count)) Blank
    ∙ ap (λ (p : ℕ). get_or c.views p Blank) place)
    (cases_lt q (32 * count))

pub segment_more : {T : Type 0} (t : tapes.Meaning T) (first tape : T) (count : ℕ) (text mask : List ℕ) (sectors : List (List ℕ))
    (word : ℕ) → tapes.Done t first tape [] →
    SegmentsSeen t first count text mask → AreSeen t tape count sectors word →
    SegmentsSeen t first (count + 1) (text ++ flat_map (λ (b : List ℕ). b) sectors) (mask ++ word ∷ [])
segment_more t first tape count text mask sectors word did seen next = record {
  views = seen.views ++ next.views;
  each = All-append IsView seen.views next.views seen.each next.each;
  size = length-append seen.views next.views ∙ (let a = seen.size in let b = next.size in omega arith);
  told = tells_two t first (λ c. (q : ℕ) → q < 32 * count → get_or seen.views q Blank ≡ get_or c.views q Blank)
      (λ c. (k : ℕ) → k < 32 → get_or next.views k Blank ≡ view_at c count k)
      (λ c. (q : ℕ) → q < 32 * (count + 1) → get_or (seen.views ++ next.views) q Blank ≡ get_or c.views q Blank)
      (λ c before here. segment_behind c seen.views next.views count seen.size before here)
      seen.told (Tells-read (λ c. (k : ℕ) → k < 32 → get_or next.views k Blank ≡ view_at c count k) did next.told);
  shown = ap₂ (λ (xs ys : List ℕ). xs ++ ys) seen.shown next.shown
      ∙ sym (views_bytes-append seen.views next.views);
  masked = ap₂ (λ (ws : List ℕ) (w : ℕ). ws ++ w ∷ []) seen.masked next.masked
      ∙ sym (held_words-more count seen.views next.views seen.size next.size);
}

-- what was read is a front of what the tape tells
pub are_first : {T : Type 0} (t : tapes.Meaning T) (tape : T) (n count : ℕ) (text mask : List ℕ) → tape_calls.IsToldRight (t.told tape)
    (t.size tape) → t.size tape ≡ Some n → count ≤ 28 * n →
    (seen : SegmentsSeen t tape count text mask) → AreFirst t tape seen.views
are_first t tape n count text mask right size few seen =
    record { told = by_told (t.told tape) (t.size tape) right size seen.told; each = seen.each } where
      by_told : (held : Option (Option Cartridge)) (long : Option ℕ) → tape_calls.IsToldRight held long → long ≡ Some n →
          IfSome held (λ h. IfSome h (λ c. (q : ℕ) → q < 32 * count → get_or seen.views q Blank ≡ get_or c.views q Blank)) →
          IfSome held (IsFrontOf seen.views)
      by_told None long right e told = tt
      by_told (Some None) long right e told = absurd (let none : long ≡ None = right in cc)
      by_told (Some (Some c)) long right e at =
          let P : Option ℕ → Type 0 = λ o. IfSome o (λ m. c.info.segments_per_track ≡ m) in
          let same : c.info.segments_per_track ≡ n = subst P e right.1 in
          let whole = right.0.sectors in
          let size = seen.size in
          let fits : length seen.views ≤ length c.views = omega arith in
          same_lists seen.views (take (length seen.views) c.views) (sym (length-take-le (length seen.views) c.views fits))
          (λ k d within.
          get_or_default seen.views k d Blank within
          ∙ at k (omega arith)
          ∙ get_or_default c.views k Blank d (omega arith)
          ∙ sym (get_or-take (length seen.views) c.views k d within))
