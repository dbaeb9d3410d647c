-- What a reader has learned from the slots below one: the invariant of its loop.
use Rattle.std.proofs.Common.{◌≡◌, ℕ, ◌+◌, ◌<◌, ◌≤◌, ◌||◌, Bool, true, false, List, [], ◌∷◌, ◌++◌, length, Some, None, zero, suc, refl, sym}
use Rattle.std.proofs.Common.{ap, ◌∙◌, arith, add-one, below_more, nat_lt}
use Rattle.std.specs.List.{slice_get}
use Rattle.std.proofs.lemmas.List.{length-append}
use Rattle.std.proofs.lemmas.Bool.Decides.{nat_tests}
use Rattle.cartridge_spec.specs.Table.{slot, slot_fault, some_free_below, entry_in, is_free, is_used, has_bad_range}
use Rattle.cartridge_laws.specs.Slots.{BadRange}
use Rattle.cartridge_spec.specs.Table as table
use Rattle.volume_table.specs.declared.entry.Entry.{Entry}
use Rattle.volume_table.specs.Entry.{entry_of}
use Rattle.cartridge_laws.specs.TableReading.{IsTakenBefore, taken_before}
use Rattle.volume_table.specs.Reading.{ShowsVolume}
use Rattle.volume_table.proofs.SlotLaws.{slot_fault-bad_range}
use Rattle.cartridge_laws.proofs.TableSlotLaws.{used_not_free}

pub record SoFar (area : List (List ℕ)) (last n taken : ℕ) (seen_free : Bool) (entries : List table.Entry) : Type 0 where
  pub sound : (i : ℕ) → i < n → slot_fault area last i ≡ None
  pub freed : seen_free ≡ some_free_below area n
  pub before : seen_free ≡ false → IsTakenBefore area n taken
  pub all_used : seen_free ≡ false → length entries ≡ n
  pub few : length entries ≤ n
  pub used : (i : ℕ) → i < length entries → is_used (slot area i) ≡ true
  pub shown : (i : ℕ) → i < length entries → slice_get entries i ≡ Some (entry_in (slot area i))
  pub free : (i : ℕ) → length entries ≤ i → i < n → is_free (slot area i) ≡ true

some_free_below-none : (area : List (List ℕ)) → false ≡ some_free_below area 0
unfolding some_free_below
some_free_below-none area = refl

some_free_below-more : (area : List (List ℕ)) (n : ℕ) → some_free_below area (n + 1) ≡ (is_free (slot area n) || some_free_below area n)
unfolding some_free_below
some_free_below-more area n = rw add-one refl

-- before the first slot
pub SoFar-start : (area : List (List ℕ)) (last taken : ℕ) → taken ≡ 2 → SoFar area last 0 taken false []
SoFar-start area last taken is =
    record {
      sound = λ i h. absurd (omega arith);
      freed = some_free_below-none area;
      before = λ _. record { is = is; least = omega arith };
      all_used = λ _. refl;
      few = omega arith;
      used = λ i h. absurd (omega arith);
      shown = λ i h. absurd (omega arith);
      free = λ i l h. absurd (omega arith);
    }

-- behind a free slot
pub SoFar-free : (area : List (List ℕ)) (last n taken : ℕ) (seen_free : Bool) (entries : List table.Entry) →
    SoFar area last n taken seen_free entries → slot_fault area last n ≡ None → is_free (slot area n) ≡ true →
    SoFar area last (n + 1) taken true entries
SoFar-free area last n taken seen_free entries s sound free =
    record {
      sound = below_more (λ (i : ℕ). slot_fault area last i ≡ None) n s.sound sound;
      freed = sym (some_free_below-more area n ∙ ap (λ (b : Bool). b || some_free_below area n) free);
      before = λ h. absurd (cc);
      all_used = λ h. absurd (cc);
      few = omega (arith, s.few);
      used = s.used;
      shown = s.shown;
      free = λ i l h. below_more (λ (k : ℕ). length entries ≤ k → is_free (slot area k) ≡ true) n (λ k b m. s.free k m b) (λ _. free) i h l;
    }

-- a used slot at no fault ends behind the table
ends_behind : (start end last : ℕ) (b : Bool) → (nat_lt start 3 || nat_lt end start || nat_lt last end || b) ≡ false → 2 ≤ end
ends_behind start end last b h = grind (arith, nat_tests)

good_range : (area : List (List ℕ)) (last n : ℕ) → is_used (slot area n) ≡ true → some_free_below area n ≡ false →
    slot_fault area last n ≡ None → (b : Bool) → has_bad_range area last n ≡ b → b ≡ false
good_range area last n used below sound true bad =
    let e : slot_fault area last n ≡ Some (BadRange n) = slot_fault-bad_range area last n used below bad in cc
good_range area last n used below sound false good = refl

slice_get-append_left : (xs ys : List table.Entry) (i : ℕ) (x : table.Entry) → slice_get xs i ≡ Some x → slice_get (xs ++ ys) i ≡ Some x
slice_get-append_left [] ys i x h = absurd (cc)
slice_get-append_left (y ∷ xs) ys zero x h = h
slice_get-append_left (y ∷ xs) ys (suc i) x h = slice_get-append_left xs ys i x h

slice_get-push : (xs : List table.Entry) (x : table.Entry) → slice_get (xs ++ x ∷ []) (length xs) ≡ Some x
slice_get-push [] x = refl
slice_get-push (y ∷ xs) x = slice_get-push xs x

taken_before-more : (area : List (List ℕ)) (n : ℕ) → taken_before area (n + 1) ≡ (entry_in (slot area n)).end
taken_before-more area n = rw add-one refl

ends_at : (area : List (List ℕ)) (last n : ℕ) (entry : Entry) → slot_fault area last n ≡ None → ShowsVolume area n entry →
    IsTakenBefore area (n + 1) entry.end
ends_at area last n entry sound v =
    let is : entry.end ≡ (entry_in (slot area n)).end = ap (λ (e : table.Entry). e.end) v.shown in
    let good : has_bad_range area last n ≡ false = good_range area last n v.used v.behind_used sound (has_bad_range area last n) refl in
    let least : 2 ≤ (entry_in (slot area n)).end = ends_behind (entry_in (slot area n)).start (entry_in (slot area n)).end last _ good in
    record { is = is ∙ sym (taken_before-more area n); least = omega arith }

-- behind a used slot
SoFar-push : (area : List (List ℕ)) (last n taken : ℕ) (seen_free : Bool) (entries : List table.Entry) (entry : Entry) →
    SoFar area last n taken seen_free entries → slot_fault area last n ≡ None → ShowsVolume area n entry →
    SoFar area last (n + 1) entry.end seen_free (entries ++ entry_of entry ∷ [])
SoFar-push area last n taken seen_free entries entry s sound v =
    let count : length entries ≡ n = s.all_used (s.freed ∙ v.behind_used) in
    let more : length (entries ++ entry_of entry ∷ []) ≡ n + 1 = length-append entries (entry_of entry ∷ [])
    ∙ ap (λ (k : ℕ). k + 1) count in
    let free_here : is_free (slot area n) ≡ false = used_not_free (slot area n) v.used in
    record {
      sound = below_more (λ (i : ℕ). slot_fault area last i ≡ None) n s.sound sound;
      freed = s.freed ∙ sym (some_free_below-more area n ∙ ap (λ (b : Bool). b || some_free_below area n) free_here);
      before = λ _. ends_at area last n entry sound v;
      all_used = λ _. more;
      few = omega arith;
      used = λ i h. below_more (λ (k : ℕ). is_used (slot area k) ≡ true) n (λ k b. s.used k (omega arith)) v.used i (omega arith);
      shown = λ i h. below_more
          (λ (k : ℕ). slice_get (entries ++ entry_of entry ∷ []) k ≡ Some (entry_in (slot area k))) n
          (λ k b. slice_get-append_left entries _ k _ (s.shown k (omega arith)))
          (ap (slice_get (entries ++ entry_of entry ∷ [])) (sym count) ∙ slice_get-push entries (entry_of entry) ∙ ap Some v.shown) i
          (omega arith);
      free = λ i l h. absurd (omega arith);
    }

pub SoFar-used : (area : List (List ℕ)) (last n taken end : ℕ) (seen_free : Bool) (entries more : List table.Entry) (entry : Entry) →
    SoFar area last n taken seen_free entries → slot_fault area last n ≡ None → ShowsVolume area n entry → end ≡ entry.end →
    more ≡ entries ++ entry_of entry ∷ [] → SoFar area last (n + 1) end seen_free more
SoFar-used area last n taken end seen_free entries more entry s sound v ends pushed =
    rw (ends, pushed) (SoFar-push area last n taken seen_free entries entry s sound v)
