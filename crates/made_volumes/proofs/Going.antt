-- How a loop over steps of `make` goes on: one step more, or a fault in one of them.
use Rattle.std.proofs.Common.{◌≡◌, ◌≢◌, ℕ, zero, suc, ◌+◌, ◌-◌, ◌%◌, ◌<◌, ◌≤◌, ◌==◌, Bool, true, false, cond, List, [], ◌∷◌, ◌++◌, length}
use Rattle.std.proofs.Common.{take, drop, Option, Some, IfSome, slice_get, Result, Ok, Err, refl, sym, ap, ◌∙◌, subst, arith, append-nil}
use Rattle.std.proofs.lemmas.Bool.{eq-eqb, ne_eqb}
use Rattle.qic_base.specs.Alone.{around, no_sink}
use Rattle.qic_base.specs.CartridgeTerms.{IsLost}
use Rattle.qic_base.specs.Cartridge.{lost_places}
use Rattle.qic_base.proofs.Writing.{TakesBoth}
use Rattle.qic_base.specs.Acts.{Outside}
use Rattle.cartridge_spec.specs.Shape.{mask_at, usable_count}
use Rattle.cartridge_spec.specs.Table.{Entry}
use Rattle.cartridge_spec.specs.Volumes.{carrying, carrying_segments}
use Rattle.cartridge_laws.proofs.Places.{none_below, front_of_places, front_of_all}
use Rattle.qic_base.specs.declared.store_fault.StoreFault.{StoreFault}
use Rattle.command_spec.specs.Make.{MakeStep, AppendMade, WearSector, ScrubAll, SumVolume, appending, wearing_in, wearing_volumes, summing}
use Rattle.command_spec.specs.Make.{made_list, making}
use Rattle.command_laws.specs.MadeTerms.{made_entry, first_two, wearing}
use Rattle.made_volumes.specs.Runs.{HasRun, RunEnds}
use Rattle.made_volumes.proofs.Joining.{run_none, ends_behind, ends_longer, ends_quietly}
use Rattle.made_volumes.proofs.Loops.{appending_next, appending_whole, made_next, after_summing, ends_after, two_below, two_next, two_full}
use Rattle.made_volumes.proofs.Loops.{wearing_next, wearing_part, wearing_in_part, volumes_next, volumes_whole, summing_next, summing_whole}
use Rattle.command_laws.proofs.MadeLoops.{length-made, after_wearing, after_wearing_in, after_wearing_volumes}
use Rattle.segment_mending.proofs.Looked.{carrying_below, below_none, segments_part, one_more, one_carries, none_carries}
use Rattle.cartridge_laws.proofs.AppendSegments.{carries}
use Rattle.qic_base.specs.Sink as sinks
use Rattle.qic_base.specs.Tape as tapes
use Rattle.command_spec.specs.declared.status.Status.TheVariants as status

-- a sink that is never asked takes two texts as one
none_takes_both : TakesBoth no_sink
none_takes_both a b c xs ys one other = ap (λ (text : List ℕ). text ++ ys) one ∙ other

-- ---- appends

module _ {T : Type 0} (t : tapes.Meaning T) (seed : ℕ) (words : List ℕ) (es : List Entry) (v : ℕ) (some : 1 ≤ v) (now : List ℕ)
    (list : List Entry) (same : now ≡ words) (is : list ≡ made_list seed (v - 1) words es) (a b c : T) where
  pub append_next : (r : Result (Unit {0}) StoreFault) → HasRun t no_sink seed words es (appending 1 (v - 1)) (around a tt)
      (around b tt) status.Done →
      RunEnds t no_sink seed now list (AppendMade v ∷ []) (around b tt) (around c tt) r →
      RunEnds t no_sink seed words es (appending 1 (v + 1 - 1)) (around a tt) (around c tt) r
  append_next r ran ends =
      let number : v ≡ 1 + (v - 1) = omega arith in
      let more : v - 1 + 1 ≡ v + 1 - 1 = omega arith in
      let here : RunEnds t no_sink seed words (made_list seed (v - 1) words es) (AppendMade (1 + (v - 1)) ∷ []) (around b tt)
      (around c tt) r =
      subst (λ (n : ℕ). RunEnds t no_sink seed words (made_list seed (v - 1) words es) (AppendMade n ∷ []) (around b tt) (around c tt) r)
      number
      (subst (λ (now' : List Entry). RunEnds t no_sink seed words now' (AppendMade v ∷ []) (around b tt) (around c tt) r) is
      (subst (λ (ws : List ℕ). RunEnds t no_sink seed ws list (AppendMade v ∷ []) (around b tt) (around c tt) r) same ends)) in
      subst (λ (items : List MakeStep). RunEnds t no_sink seed words es items (around a tt) (around c tt) r)
      (appending_next (v - 1) ∙ ap (appending 1) more)
      (ends_behind t no_sink seed words none_takes_both es (appending 1 (v - 1)) (AppendMade (1 + (v - 1)) ∷ []) (around a tt) (around b tt)
      (around c tt) r ran here)

  pub append_failed : (count : ℕ) → v ≤ count → (f : StoreFault) → HasRun t no_sink seed words es (appending 1 (v - 1)) (around a tt)
      (around b tt) status.Done →
      RunEnds t no_sink seed now list (AppendMade v ∷ []) (around b tt) (around c tt) (Err f) →
      RunEnds t no_sink seed words es (appending 1 count) (around a tt) (around c tt) (Err f)
  append_failed count few f ran ends =
      subst (λ (items : List MakeStep). RunEnds t no_sink seed words es items (around a tt) (around c tt) (Err f))
      (appending_whole (v + 1 - 1) count (omega arith))
      (ends_longer t no_sink seed words es (appending 1 (v + 1 - 1)) (appending (1 + (v + 1 - 1)) (count - (v + 1 - 1))) (around a tt)
      (around c tt) f (append_next (Err f) ran ends))

  pub append_listed : (after : List Entry) → after ≡ list ++ made_entry seed now list v ∷ [] → after ≡ made_list seed (v + 1 - 1) words es
  append_listed after added =
      let number : v ≡ 1 + (v - 1) = omega arith in
      let more : v - 1 + 1 ≡ v + 1 - 1 = omega arith in
      added ∙ ap (λ (ws : List ℕ). list ++ made_entry seed ws list v ∷ []) same
      ∙ ap (λ (l : List Entry). l ++ made_entry seed words l v ∷ []) is
      ∙ ap (λ (n : ℕ). made_list seed (v - 1) words es ++ made_entry seed words (made_list seed (v - 1) words es) n ∷ []) number
      ∙ sym (made_next seed (v - 1) words es) ∙ ap (λ (n : ℕ). made_list seed n words es) more

-- ---- two sectors

-- the first two of some sectors stay the first ones
two_front : (xs ys : List ℕ) → (zs : List ℕ) × (take 2 xs ++ zs ≡ take 2 (xs ++ ys))
two_front [] ys = (take 2 ys, refl)
two_front (x ∷ []) ys = (take 1 ys, refl)
two_front (x ∷ y ∷ xs) ys = ([], refl)

pub two_none : (mask : ℕ) → two_below mask 0 ≡ []
two_none mask = ap (take 2) (none_below mask)

module _ {T : Type 0} (t : tapes.Meaning T) (words : List ℕ) (es : List Entry) (segment : ℕ) (a b c : T) where
  pub wear_begun : (seed : ℕ) → HasRun t no_sink seed words es (wearing segment (two_below (mask_at words segment) 0)) (around a tt)
      (around a tt) status.Done
  wear_begun seed =
      subst (λ (xs : List ℕ). HasRun t no_sink seed words es (wearing segment xs) (around a tt) (around a tt) status.Done)
      (sym (two_none (mask_at words segment)))
      (run_none t no_sink seed words es (around a tt) (λ x. refl))

  abbrev mask : ℕ
  mask = mask_at words segment

  pub wear_next : (seed sector : ℕ) (r : Result (Unit {0}) StoreFault) → IsLost mask sector → length (two_below mask sector) < 2 →
      HasRun t no_sink seed words es (wearing segment (two_below mask sector)) (around a tt) (around b tt) status.Done →
      RunEnds t no_sink seed words es (WearSector segment sector ∷ []) (around b tt) (around c tt) r →
      RunEnds t no_sink seed words es (wearing segment (two_below mask (sector + 1))) (around a tt) (around c tt) r
  wear_next seed sector r usable few ran ends =
      subst (λ (items : List MakeStep). RunEnds t no_sink seed words es items (around a tt) (around c tt) r)
      (wearing_next segment (two_below mask sector) sector ∙ ap (wearing segment) (sym (two_next mask sector usable few)))
      (ends_after t no_sink seed words es none_takes_both (wearing segment (two_below mask sector)) (WearSector segment sector ∷ [])
      (around a tt) (around b tt) (around c tt) r
      (after_wearing seed words es segment (two_below mask sector)) ran ends)

  pub wear_failed : (seed sector : ℕ) (f : StoreFault) → sector < 32 → IsLost mask sector → length (two_below mask sector) < 2 →
      HasRun t no_sink seed words es (wearing segment (two_below mask sector)) (around a tt) (around b tt) status.Done →
      RunEnds t no_sink seed words es (WearSector segment sector ∷ []) (around b tt) (around c tt) (Err f) →
      RunEnds t no_sink seed words es (wearing segment (first_two words segment)) (around a tt) (around c tt) (Err f)
  wear_failed seed sector f within usable few ran ends =
      let front = front_of_all mask (sector + 1) (omega arith) in
      let two = two_front (lost_places mask (sector + 1)) front.rest in
      subst (λ (items : List MakeStep). RunEnds t no_sink seed words es items (around a tt) (around c tt) (Err f))
      (sym (wearing_part segment (two_below mask (sector + 1)) two.0) ∙ ap (wearing segment) (two.1 ∙ ap (take 2) (sym front.parts)))
      (ends_longer t no_sink seed words es (wearing segment (two_below mask (sector + 1))) (wearing segment two.0) (around a tt)
      (around c tt) f
      (wear_next seed sector (Err f) usable few ran ends))

-- the places below the next one begin with those below this one
places_next : (mask sector : ℕ) → (ys : List ℕ) × (lost_places mask (sector + 1) ≡ lost_places mask sector ++ ys)
places_next mask sector = let front = front_of_places mask sector 1 in (front.rest, front.parts)

-- with two of them no further one is worn
pub two_stay : (mask sector : ℕ) → 2 ≤ length (two_below mask sector) → two_below mask (sector + 1) ≡ two_below mask sector
two_stay mask sector full =
    let next = places_next mask sector in
    ap (take 2) next.1 ∙ two_full (lost_places mask sector) next.0 full

-- ---- one segment

not_due : (words : List ℕ) (segment : ℕ) → segment % 100 ≢ 0 → (b : Bool) → wearing_in words (cond b (segment ∷ []) []) ≡ []
not_due words segment other true =
    let no : (segment % 100 == 0) ≡ false = ne_eqb (segment % 100) 0 other in
    ap (λ (b : Bool). cond b (wearing segment (first_two words segment)) [] ++ []) no
not_due words segment other false = refl

-- a segment whose number is no multiple of 100
pub segment_not_due : (words : List ℕ) (segment : ℕ) → segment % 100 ≢ 0 → wearing_in words (carrying words segment segment) ≡ []
segment_not_due words segment other =
    ap (wearing_in words) (one_more words segment) ∙ not_due words segment other (carries words segment)

-- one that carries no data
pub segment_bare : (words : List ℕ) (segment : ℕ) → usable_count (mask_at words segment) < 4 →
    wearing_in words (carrying words segment segment) ≡ []
segment_bare words segment few = ap (wearing_in words) (none_carries words segment few)

-- and one that is due
pub segment_due : (words : List ℕ) (segment : ℕ) → segment % 100 ≡ 0 → 4 ≤ usable_count (mask_at words segment) →
    wearing segment (first_two words segment) ≡ wearing_in words (carrying words segment segment)
segment_due words segment due many =
    let is : (segment % 100 == 0) ≡ true = eq-eqb (segment % 100) 0 due in
    sym (ap (wearing_in words) (one_carries words segment many)
    ∙ ap (λ (b : Bool). cond b (wearing segment (first_two words segment)) [] ++ []) is
    ∙ append-nil (wearing segment (first_two words segment)))

-- ---- several segments

module _ {T : Type 0} (t : tapes.Meaning T) (words : List ℕ) (es : List Entry) (start segment : ℕ) (low : start ≤ segment) (a b c : T) where
  pub segments_begun : (seed : ℕ) → HasRun t no_sink seed words es (wearing_in words (carrying_below words start start)) (around a tt)
      (around a tt) status.Done
  segments_begun seed =
      subst (λ (ss : List ℕ). HasRun t no_sink seed words es (wearing_in words ss) (around a tt) (around a tt) status.Done)
      (sym (below_none words start))
      (run_none t no_sink seed words es (around a tt) (λ x. refl))

  pub segments_next : (seed : ℕ) (r : Result (Unit {0}) StoreFault) →
      HasRun t no_sink seed words es (wearing_in words (carrying_below words start segment)) (around a tt) (around b tt) status.Done →
      RunEnds t no_sink seed words es (wearing_in words (carrying words segment segment)) (around b tt) (around c tt) r →
      RunEnds t no_sink seed words es (wearing_in words (carrying_below words start (segment + 1))) (around a tt) (around c tt) r
  segments_next seed r ran ends =
      subst (λ (items : List MakeStep). RunEnds t no_sink seed words es items (around a tt) (around c tt) r)
      (sym (wearing_in_part words (carrying_below words start segment) (carrying words segment segment))
      ∙ ap (wearing_in words) (sym (segments_part words start segment (segment + 1) low (omega arith))))
      (ends_after t no_sink seed words es none_takes_both (wearing_in words (carrying_below words start segment))
      (wearing_in words (carrying words segment segment))
      (around a tt) (around b tt) (around c tt) r (after_wearing_in seed words es (carrying_below words start segment)) ran ends)

  pub segments_failed : (seed last : ℕ) (f : StoreFault) → segment < last →
      HasRun t no_sink seed words es (wearing_in words (carrying_below words start segment)) (around a tt) (around b tt) status.Done →
      RunEnds t no_sink seed words es (wearing_in words (carrying words segment segment)) (around b tt) (around c tt) (Err f) →
      RunEnds t no_sink seed words es (wearing_in words (carrying_below words start last)) (around a tt) (around c tt) (Err f)
  segments_failed seed last f high ran ends =
      subst (λ (items : List MakeStep). RunEnds t no_sink seed words es items (around a tt) (around c tt) (Err f))
      (sym (wearing_in_part words (carrying_below words start (segment + 1)) (carrying_below words (segment + 1) last))
      ∙ ap (wearing_in words) (sym (segments_part words start (segment + 1) last (omega arith) (omega arith))))
      (ends_longer t no_sink seed words es (wearing_in words (carrying_below words start (segment + 1)))
      (wearing_in words (carrying_below words (segment + 1) last))
      (around a tt) (around c tt) f (segments_next seed (Err f) ran ends))

-- ---- several volumes

module _ {T : Type 0} (t : tapes.Meaning T) (words : List ℕ) (es : List Entry) (first index : ℕ) (low : first ≤ index) (e : Entry)
    (at : slice_get es index ≡ Some e) (a b c : T) where
  abbrev rest : List Entry
  rest = drop first es

  pub volumes_go_on : (seed : ℕ) (r : Result (Unit {0}) StoreFault) →
      HasRun t no_sink seed words es (wearing_volumes words (take (index - first) rest)) (around a tt) (around b tt) status.Done →
      RunEnds t no_sink seed words es (wearing_in words (carrying_segments words e)) (around b tt) (around c tt) r →
      RunEnds t no_sink seed words es (wearing_volumes words (take (index + 1 - first) rest)) (around a tt) (around c tt) r
  volumes_go_on seed r ran ends =
      let place : index ≡ first + (index - first) = omega arith in
      let more : index - first + 1 ≡ index + 1 - first = omega arith in
      subst (λ (items : List MakeStep). RunEnds t no_sink seed words es items (around a tt) (around c tt) r)
      (volumes_next words first (index - first) es e (ap (slice_get es) (sym place) ∙ at)
      ∙ ap (λ (n : ℕ). wearing_volumes words (take n rest)) more)
      (ends_after t no_sink seed words es none_takes_both (wearing_volumes words (take (index - first) rest))
      (wearing_in words (carrying_segments words e))
      (around a tt) (around b tt) (around c tt) r (after_wearing_volumes seed words es (take (index - first) rest)) ran ends)

  pub volumes_failed : (seed : ℕ) (f : StoreFault) →
      HasRun t no_sink seed words es (wearing_volumes words (take (index - first) rest)) (around a tt) (around b tt) status.Done →
      RunEnds t no_sink seed words es (wearing_in words (carrying_segments words e)) (around b tt) (around c tt) (Err f) →
      RunEnds t no_sink seed words es (wearing_volumes words rest) (around a tt) (around c tt) (Err f)
  volumes_failed seed f ran ends =
      subst (λ (items : List MakeStep). RunEnds t no_sink seed words es items (around a tt) (around c tt) (Err f))
      (volumes_whole words (index + 1 - first) rest)
      (ends_longer t no_sink seed words es (wearing_volumes words (take (index + 1 - first) rest))
      (wearing_volumes words (drop (index + 1 - first) rest))
      (around a tt) (around c tt) f (volumes_go_on seed (Err f) ran ends))

-- ---- sums

module _ {T K : Type 0} (t : tapes.Meaning T) (k : sinks.Meaning K) (both : TakesBoth k) (words : List ℕ) (es : List Entry)
    (first number : ℕ) (low : first + 1 ≤ number) (a b c : Outside T (Unit {0}) K) where
  pub sums_next : (seed : ℕ) (r : Result (Unit {0}) StoreFault) →
      HasRun t k seed words es (summing (first + 1) (number - (first + 1))) a b status.Done →
      RunEnds t k seed words es (SumVolume number ∷ []) b c r →
      RunEnds t k seed words es (summing (first + 1) (number + 1 - (first + 1))) a c r
  sums_next seed r ran ends =
      let here : number ≡ first + 1 + (number - (first + 1)) = omega arith in
      let more : number - (first + 1) + 1 ≡ number + 1 - (first + 1) = omega arith in
      subst (λ (items : List MakeStep). RunEnds t k seed words es items a c r)
      (summing_next (first + 1) (number - (first + 1)) ∙ ap (summing (first + 1)) more)
      (ends_after t k seed words es both (summing (first + 1) (number - (first + 1)))
      (SumVolume (first + 1 + (number - (first + 1))) ∷ []) a b c r
      (after_summing seed words es (first + 1) (number - (first + 1))) ran
      (subst (λ (n : ℕ). RunEnds t k seed words es (SumVolume n ∷ []) b c r) here ends))

  pub sums_failed : (seed count : ℕ) (f : StoreFault) → number < first + 1 + count →
      HasRun t k seed words es (summing (first + 1) (number - (first + 1))) a b status.Done →
      RunEnds t k seed words es (SumVolume number ∷ []) b c (Err f) → RunEnds t k seed words es (summing (first + 1) count) a c (Err f)
  sums_failed seed count f high ran ends =
      subst (λ (items : List MakeStep). RunEnds t k seed words es items a c (Err f))
      (summing_whole (first + 1) (number + 1 - (first + 1)) count (omega arith))
      (ends_longer t k seed words es (summing (first + 1) (number + 1 - (first + 1)))
      (summing (first + 1 + (number + 1 - (first + 1))) (count - (number + 1 - (first + 1))))
      a c f (sums_next seed (Err f) ran ends))

-- ---- the whole run

module _ {T K : Type 0} (t : tapes.Meaning T) (k : sinks.Meaning K) (both : TakesBoth k) (none : (z : K) → k.took z [] z) (seed count : ℕ)
    (words : List ℕ) (es made : List Entry) (is : made ≡ made_list seed count words es) (x : K) (a b : T) where
  abbrev wears : List MakeStep
  wears = wearing_volumes words (drop (length es) (made_list seed count words es))

  abbrev sums : List MakeStep
  sums = summing (length es + 1) count

  abbrev behind : List MakeStep
  behind = wears ++ ScrubAll ∷ sums

  -- the appends failed
  pub make_unappended : (f : StoreFault) → RunEnds t no_sink seed words es (appending 1 count) (around a tt) (around b tt) (Err f) →
      RunEnds t k seed words es (making seed count words es) (around a x) (around b x) (Err f)
  make_unappended f ends =
      ends_longer t k seed words es (appending 1 count) behind (around a x) (around b x) f
      (ends_quietly t k seed words es (appending 1 count) a b x (none x) (Err f) ends)

  -- they were carried out, and what comes behind ended so
  pub make_appended : (c : Outside T (Unit {0}) K) (r : Result (Unit {0}) StoreFault) → HasRun t no_sink seed words es (appending 1 count)
      (around a tt) (around b tt) status.Done →
      RunEnds t k seed words made behind (around b x) c r → RunEnds t k seed words es (making seed count words es) (around a x) c r
  make_appended c r ran ends =
      ends_behind t k seed words both es (appending 1 count) behind (around a x) (around b x) c r
      (ends_quietly t k seed words es (appending 1 count) a b x (none x) (Ok tt) ran)
      (subst (λ (l : List Entry). RunEnds t k seed words l behind (around b x) c r) is ends)

  -- the wears failed
  pub make_unworn : (c : T) (f : StoreFault) → RunEnds t no_sink seed words made (wearing_volumes words (drop (length es) made))
      (around b tt) (around c tt) (Err f) →
      RunEnds t k seed words made behind (around b x) (around c x) (Err f)
  make_unworn c f ends =
      ends_longer t k seed words made wears (ScrubAll ∷ sums) (around b x) (around c x) f
      (ends_quietly t k seed words made wears b c x (none x) (Err f)
      (subst (λ (l : List Entry). RunEnds t no_sink seed words made (wearing_volumes words (drop (length es) l)) (around b tt) (around c tt)
      (Err f)) is ends))

  pub make_worn : (c : T) (d : Outside T (Unit {0}) K) (r : Result (Unit {0}) StoreFault) →
      HasRun t no_sink seed words made (wearing_volumes words (drop (length es) made)) (around b tt) (around c tt) status.Done →
      RunEnds t k seed words made (ScrubAll ∷ sums) (around c x) d r → RunEnds t k seed words made behind (around b x) d r
  make_worn c d r ran ends =
      ends_after t k seed words made both wears (ScrubAll ∷ sums) (around b x) (around c x) d r
      (after_wearing_volumes seed words made (drop (length es) (made_list seed count words es)))
      (ends_quietly t k seed words made wears b c x (none x) (Ok tt)
      (subst (λ (l : List Entry). HasRun t no_sink seed words made (wearing_volumes words (drop (length es) l)) (around b tt)
      (around c tt) status.Done) is ran)) ends

  -- the scrub failed
  pub make_unscrubbed : (c d : Outside T (Unit {0}) K) (f : StoreFault) → RunEnds t k seed words made (ScrubAll ∷ []) c d (Err f) →
      RunEnds t k seed words made (ScrubAll ∷ sums) c d (Err f)
  make_unscrubbed c d f ends = ends_longer t k seed words made (ScrubAll ∷ []) sums c d f ends

  pub make_scrubbed : (c d e : Outside T (Unit {0}) K) (r : Result (Unit {0}) StoreFault) →
      HasRun t k seed words made (ScrubAll ∷ []) c d status.Done →
      RunEnds t k seed words made (summing (length es + 1) (length made - length es)) d e r →
      RunEnds t k seed words made (ScrubAll ∷ sums) c e r
  make_scrubbed c d e r ran ends =
      let long : length made ≡ length es + count = ap length is ∙ length-made seed words es 1 count in
      let many : length made - length es ≡ count = omega arith in
      ends_after t k seed words made both (ScrubAll ∷ []) sums c d e r refl ran
      (subst (λ (n : ℕ). RunEnds t k seed words made (summing (length es + 1) n) d e r) many ends)

-- a fact of an entry that is there
pub of_entry : (es : List Entry) (index : ℕ) (e : Entry) → slice_get es index ≡ Some e → (P : Entry → Type 0) → P e →
    IfSome (slice_get es index) P
of_entry es index e at P fact = subst (λ (o : Option Entry). IfSome o P) (sym at) fact

-- no volume was gone through yet
pub volumes_begun : {T : Type 0} (t : tapes.Meaning T) (words : List ℕ) (es : List Entry) (first : ℕ) (a : T) (seed : ℕ) →
    HasRun t no_sink seed words es (wearing_volumes words (take (first - first) (drop first es))) (around a tt) (around a tt) status.Done
volumes_begun t words es first a seed =
    let zero_more : 0 ≡ first - first = omega arith in
    subst (λ (n : ℕ). HasRun t no_sink seed words es (wearing_volumes words (take n (drop first es))) (around a tt)
    (around a tt) status.Done) zero_more
    (run_none t no_sink seed words es (around a tt) (λ x. refl))

-- a fact of the entry at an index, where there is one
pub volume_there : (es : List Entry) (index : ℕ) → index < length es → (P : Entry → Type 0) → IfSome (slice_get es index) P →
    (e : Entry) × (slice_get es index ≡ Some e) × P e
volume_there [] index within P fact = absurd (omega arith)
volume_there (e ∷ es) zero within P fact = (e, refl, fact)
volume_there (e ∷ es) (suc i) within P fact = volume_there es i (omega arith) P fact

-- no volume was summed yet
pub sums_begun : {T K : Type 0} (t : tapes.Meaning T) (k : sinks.Meaning K) (none : (z : K) → k.took z [] z) (words : List ℕ)
    (es : List Entry) (number : ℕ) (a : Outside T (Unit {0}) K) (seed : ℕ) →
    HasRun t k seed words es (summing number (number - number)) a a status.Done
sums_begun t k none words es number a seed =
    let zero_more : 0 ≡ number - number = omega arith in
    subst (λ (n : ℕ). HasRun t k seed words es (summing number n) a a status.Done) zero_more (run_none t k seed words es a none)

-- steps of a store with the same map and list
pub same_store : {T K : Type 0} (t : tapes.Meaning T) (k : sinks.Meaning K) (seed : ℕ) (words now : List ℕ) (es list : List Entry)
    (items : List MakeStep) (a b : Outside T (Unit {0}) K) (r : Result (Unit {0}) StoreFault) →
    now ≡ words → list ≡ es → RunEnds t k seed now list items a b r → RunEnds t k seed words es items a b r
same_store t k seed words now es list items a b r same is ends =
    subst (λ (l : List Entry). RunEnds t k seed words l items a b r) is
    (subst (λ (ws : List ℕ). RunEnds t k seed ws list items a b r) same ends)

-- the wears and the sums of a store that holds the made volumes, with as many volumes before them
module _ {T K : Type 0} (t : tapes.Meaning T) (k : sinks.Meaning K) (seed : ℕ) (words now : List ℕ) (es made list : List Entry) (first : ℕ)
    (a b : Outside T (Unit {0}) K) (r : Result (Unit {0}) StoreFault) where
  pub wears_of_made : now ≡ words → first ≡ length es → RunEnds t k seed now made (wearing_volumes now (drop first made)) a b r →
      RunEnds t k seed words made (wearing_volumes words (drop (length es) made)) a b r
  wears_of_made same is ends =
      subst (λ (n : ℕ). RunEnds t k seed words made (wearing_volumes words (drop n made)) a b r) is
      (subst (λ (ws : List ℕ). RunEnds t k seed ws made (wearing_volumes ws (drop first made)) a b r) same ends)

  pub sums_of_made : now ≡ words → list ≡ made → first ≡ length es →
      RunEnds t k seed now list (summing (first + 1) (length list - first)) a b r →
      RunEnds t k seed words made (summing (length es + 1) (length made - length es)) a b r
  sums_of_made same held is ends =
      subst (λ (n : ℕ). RunEnds t k seed words made (summing (n + 1) (length made - n)) a b r) is
      (subst (λ (l : List Entry). RunEnds t k seed words l (summing (first + 1) (length l - first)) a b r) held
      (subst (λ (ws : List ℕ). RunEnds t k seed ws list (summing (first + 1) (length list - first)) a b r) same ends))
