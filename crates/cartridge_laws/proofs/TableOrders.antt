-- Data without a slot at fault show a list of volumes in order, and data that show such a list have none.
use Rattle.std.proofs.Common.{ℕ, ◌<◌, ◌≤◌, ◌≡◌, Bool, true, false, cond, not, ◌||◌, Some, None, refl, List, nat_lt, nat_le, arith, sym, ◌∙◌}
use Rattle.std.proofs.Common.{◌+◌, length, slice_get, ◌∷◌, ap, add-zero, suc, subst, [], zero, inl, inr}
use Rattle.std.proofs.lemmas.Bool.Decides.{nat_tests}
use Rattle.std.proofs.lemmas.Option.{same_Some}
use Rattle.std.proofs.lemmas.Bool.{cases_lt}
use Rattle.cartridge_laws.proofs.TableSlotLaws.{used_not_free, has_bad_range-taken, slot_fault-free, slot_fault-sound}
use Rattle.cartridge_laws.specs.Table.{LieBehind}
use Rattle.cartridge_laws.specs.TableLaws.{FaultlessIsSound, SoundIsFaultless}
use Rattle.cartridge_laws.specs.TableReading.{IsTakenBefore}
use Rattle.cartridge_spec.specs.Table.{Entry, is_used, slot, is_free, some_free_below, slot_fault, has_bad_range, entry_in, Shows}
use Rattle.cartridge_laws.specs.Slots.{ForeignSlot, BadRange}

-- ---- a slot without fault

-- a volume lies behind a segment, forwards, up to the last one
record LiesBehind (before last : ℕ) (e : Entry) : Type 0 where
  behind : before < e.start
  forwards : e.start ≤ e.end
  within : e.end ≤ last

pick_range : (free used below bad : Bool) (i : ℕ) → free ≡ false → used ≡ true →
    cond free None (cond (not used || below) (Some (ForeignSlot i)) (cond bad (Some (BadRange i)) None)) ≡ None → bad ≡ false
pick_range free used below false i is_taken is_used none = refl
pick_range true used below true i is_taken is_used none = cc
pick_range false false below true i is_taken is_used none = cc
pick_range false true true true i is_taken is_used none = cc
pick_range false true false true i is_taken is_used none = cc

pub good_range : (area : List (List ℕ)) (last i : ℕ) → is_used (slot area i) ≡ true → slot_fault area last i ≡ None →
    has_bad_range area last i ≡ false
unfolding slot_fault
good_range area last i used none =
    pick_range (is_free (slot area i)) (is_used (slot area i)) (some_free_below area i) (has_bad_range area last i) i
    (used_not_free (slot area i) used) used none

is_behind : (start end before last : ℕ) → (nat_le start before || nat_lt end start || nat_lt last end) ≡ false → before < start
is_behind start end before last good = grind (arith, nat_tests)

is_forwards : (start end before last : ℕ) → (nat_le start before || nat_lt end start || nat_lt last end) ≡ false → start ≤ end
is_forwards start end before last good = grind (arith, nat_tests)

is_within : (start end before last : ℕ) → (nat_le start before || nat_lt end start || nat_lt last end) ≡ false → end ≤ last
is_within start end before last good = grind (arith, nat_tests)

is_good : (start end before last : ℕ) → before < start → start ≤ end → end ≤ last →
    (nat_le start before || nat_lt end start || nat_lt last end) ≡ false
is_good start end before last behind forwards within = grind (arith, nat_tests)

lies : (area : List (List ℕ)) (last i before : ℕ) → IsTakenBefore area i before → has_bad_range area last i ≡ false →
    LiesBehind before last (entry_in (slot area i))
lies area last i before taken good =
    let e : Entry = entry_in (slot area i) in
    let tests = sym (has_bad_range-taken area last i before taken) ∙ good in
    record {
      behind = is_behind e.start e.end before last tests;
      forwards = is_forwards e.start e.end before last tests;
      within = is_within e.start e.end before last tests;
    }

good_from : (area : List (List ℕ)) (last i before : ℕ) → IsTakenBefore area i before → LiesBehind before last (entry_in (slot area i)) →
    has_bad_range area last i ≡ false
good_from area last i before taken there =
    let e : Entry = entry_in (slot area i) in
    has_bad_range-taken area last i before taken ∙ is_good e.start e.end before last there.behind there.forwards there.within

-- ---- lists

-- the slots from k on show these volumes
record ShowsFrom (area : List (List ℕ)) (k : ℕ) (entries : List Entry) : Type 0 where
  used : (i : ℕ) → i < length entries → is_used (slot area (k + i)) ≡ true
  shown : (i : ℕ) → i < length entries → slice_get entries i ≡ Some (entry_in (slot area (k + i)))

first_shown : (area : List (List ℕ)) (k : ℕ) (e : Entry) (es : List Entry) → ShowsFrom area k (e ∷ es) → e ≡ entry_in (slot area k)
first_shown area k e es shows =
    same_Some e (entry_in (slot area (k + 0))) (shows.shown 0 (omega arith)) ∙ ap (λ (n : ℕ). entry_in (slot area n)) (add-zero k)

rest_shown : (area : List (List ℕ)) (k : ℕ) (e : Entry) (es : List Entry) → ShowsFrom area k (e ∷ es) → ShowsFrom area (suc k) es
rest_shown area k e es shows = record {
  used = λ i h.
      let next : k + suc i ≡ suc k + i = omega arith in
      subst (λ (n : ℕ). is_used (slot area n) ≡ true) next (shows.used (suc i) (omega arith));
  shown = λ i h.
      let next : k + suc i ≡ suc k + i = omega arith in
      subst (λ (n : ℕ). slice_get es i ≡ Some (entry_in (slot area n))) next (shows.shown (suc i) (omega arith));
}

next_taken : (area : List (List ℕ)) (k before : ℕ) (e : Entry) → e ≡ entry_in (slot area k) → 2 ≤ before → before < e.start →
    e.start ≤ e.end →
    IsTakenBefore area (suc k) e.end
next_taken area k before e is least behind forwards = record {
  is = ap (λ (x : Entry). x.end) is;
  least = omega arith;
}

in_order : (area : List (List ℕ)) (last k before : ℕ) (es : List Entry) → IsTakenBefore area k before → ShowsFrom area k es →
    ((i : ℕ) → i < length es → slot_fault area last (k + i) ≡ None) → LieBehind before last es
in_order area last k before [] taken shows none = tt
in_order area last k before (e ∷ es) taken shows none =
    let is : e ≡ entry_in (slot area k) = first_shown area k e es shows in
    let here : k + 0 ≡ k = add-zero k in
    let used : is_used (slot area k) ≡ true = subst (λ (n : ℕ). is_used (slot area n) ≡ true) here (shows.used 0 (omega arith)) in
    let sound : slot_fault area last k ≡ None = subst (λ (n : ℕ). slot_fault area last n ≡ None) here (none 0 (omega arith)) in
    let there : LiesBehind before last e =
    subst (LiesBehind before last) (sym is) (lies area last k before taken (good_range area last k used sound)) in (
      there.behind,
      there.forwards,
      there.within,
      in_order area last (suc k) e.end es (next_taken area k before e is taken.least there.behind there.forwards)
          (rest_shown area k e es shows)
          (λ i h.
          let next : k + suc i ≡ suc k + i = omega arith in
          subst (λ (n : ℕ). slot_fault area last n ≡ None) next (none (suc i) (omega arith))),
    )

ranges_are_good : (area : List (List ℕ)) (last k before : ℕ) (es : List Entry) → IsTakenBefore area k before → ShowsFrom area k es →
    LieBehind before last es → (i : ℕ) → i < length es → has_bad_range area last (k + i) ≡ false
ranges_are_good area last k before [] taken shows order i h = absurd (omega arith)
ranges_are_good area last k before (e ∷ es) taken shows order zero h =
    let is : e ≡ entry_in (slot area k) = first_shown area k e es shows in
    let there : LiesBehind before last e = record { behind = order.0; forwards = order.1; within = order.2 } in
    subst (λ (n : ℕ). has_bad_range area last n ≡ false) (sym (add-zero k))
    (good_from area last k before taken (subst (LiesBehind before last) is there))
ranges_are_good area last k before (e ∷ es) taken shows order (suc i) h =
    let is : e ≡ entry_in (slot area k) = first_shown area k e es shows in
    let next : suc k + i ≡ k + suc i = omega arith in
    subst (λ (n : ℕ). has_bad_range area last n ≡ false) next
    (ranges_are_good area last (suc k) e.end es (next_taken area k before e is taken.least order.0 order.1)
    (rest_shown area k e es shows) order.3 i (omega arith))

-- ---- the table

shows_from : (area : List (List ℕ)) (entries : List Entry) → Shows area entries → ShowsFrom area 0 entries
shows_from area entries shows = record {
  used = λ i h. let same : i ≡ 0 + i = omega arith in subst (λ (n : ℕ). is_used (slot area n) ≡ true) same (shows.used i h);
  shown = λ i h. let same : i ≡ 0 + i = omega arith in subst (λ (n : ℕ). slice_get entries i ≡ Some (entry_in (slot area n))) same
      (shows.shown i h);
}

first_taken : (area : List (List ℕ)) → IsTakenBefore area 0 2
first_taken area = record { is = refl; least = omega arith }

pub faultless_is_sound : FaultlessIsSound
faultless_is_sound area last entries none shows =
    let room : length entries ≤ 232 = shows.room in
    in_order area last 0 2 entries (first_taken area) (shows_from area entries shows)
    (λ i h. let same : i ≡ 0 + i = omega arith in subst (λ (n : ℕ). slot_fault area last n ≡ None) same (none i (omega arith)))

none_free : (area : List (List ℕ)) (entries : List Entry) → Shows area entries → (n : ℕ) → n ≤ length entries →
    some_free_below area n ≡ false
unfolding some_free_below
none_free area entries shows zero h = refl
none_free area entries shows (suc n) h =
    ap (λ (b : Bool). b || some_free_below area n) (used_not_free (slot area n) (shows.used n (omega arith)))
    ∙ none_free area entries shows n (omega arith)

pub sound_is_faultless : SoundIsFaultless
sound_is_faultless area last entries order shows i h =
    elim (cases_lt i (length entries)) [
      | inl used ↦
          let same : 0 + i ≡ i = omega arith in
          slot_fault-sound area last i (shows.used i used) (none_free area entries shows i (omega arith))
          (subst (λ (n : ℕ). has_bad_range area last n ≡ false) same
          (ranges_are_good area last 0 2 entries (first_taken area) (shows_from area entries shows) order i used))
      | inr behind ↦ slot_fault-free area last i (shows.free i behind h)
    ]
