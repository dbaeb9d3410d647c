-- Each volume table has a first slot at fault, or shows a list of volumes.
use Rattle.std.proofs.Common.{◌≡◌, ◌⊎◌, ℕ, ◌+◌, ◌<◌, Bool, true, false, refl, inl, inr, nat_lt, ltb-true, ltb-false, arith, List, None, ap}
use Rattle.std.proofs.Common.{◌∙◌, Option, Some, zero, suc, ◌≤◌, add-one, cond, not, ◌||◌, length, slice_get, ◌++◌, length-append, [], ◌∷◌}
use Rattle.std.proofs.Common.{get_or, sym}
use Rattle.std.proofs.lemmas.List.{get_or_append_left}
use Rattle.std.proofs.lemmas.Option.{slice_get-get_or, slice_get_within, get_or_from_slice_get}
use Rattle.std.proofs.Math.Seq.{get_or-append_seam}
use Rattle.cartridge_laws.specs.TableLaws.{SoundDataShowVolumes, DataAreSoundOrFaulty}
use Rattle.cartridge_spec.specs.Table.{slot_fault, IsFirstFault, slot, is_free, is_used, some_free_below, has_bad_range, Entry, entry_in}
use Rattle.cartridge_spec.specs.Table.{HasNoFault}
use Rattle.cartridge_laws.specs.Slots.{TableFault, ForeignSlot, BadRange}

-- an index below n + 1 is below n or is n
last_or_before : (i n : ℕ) → i < n + 1 → (i < n) ⊎ (i ≡ n)
last_or_before i n within = by_test (nat_lt i n) refl
  where
    by_test : (b : Bool) → nat_lt i n ≡ b → (i < n) ⊎ (i ≡ n)
    by_test true below = inl (ltb-true i n below)
    by_test false not_below = inr (let above = ltb-false i n not_below in omega arith)

-- ---- faults

-- no slot below n is at fault
abbrev pub NoneBelow : List (List ℕ) → (last n : ℕ) → Type 0
NoneBelow area last n = (i : ℕ) → i < n → slot_fault area last i ≡ None

-- the first fault of a table
pub record FirstFault (area : List (List ℕ)) (last : ℕ) : Type 0 where
  pub fault : TableFault
  pub first : IsFirstFault area last fault

none_next : (area : List (List ℕ)) (last n : ℕ) → NoneBelow area last n → slot_fault area last n ≡ None → NoneBelow area last (n + 1)
none_next area last n below here i within = by_place (last_or_before i n within)
  where
    by_place : (i < n) ⊎ (i ≡ n) → slot_fault area last i ≡ None
    by_place (inl before) = below i before
    by_place (inr same) = ap (slot_fault area last) same ∙ here

next_fault : (area : List (List ℕ)) (last n : ℕ) (o : Option TableFault) → n < 232 → slot_fault area last n ≡ o → NoneBelow area last n →
    FirstFault area last ⊎ NoneBelow area last (n + 1)
next_fault area last n None within here below = inr (none_next area last n below here)
next_fault area last n (Some f) within here below =
    inl (record { fault = f; first = record { place = n; within = within; here = here; before = below } })

fault_or_none : (area : List (List ℕ)) (last n : ℕ) → n ≤ 232 → FirstFault area last ⊎ NoneBelow area last n
fault_or_none area last zero within = inr (λ i none. absurd (omega arith))
fault_or_none area last (suc n) within = rw (← add-one) (next (fault_or_none area last n (omega arith)))
  where
    next : FirstFault area last ⊎ NoneBelow area last n → FirstFault area last ⊎ NoneBelow area last (n + 1)
    next (inl fault) = inl fault
    next (inr below) = next_fault area last n (slot_fault area last n) (omega arith) refl below

-- ---- lists

-- a slot without fault is free, or used with no free slot before it
pick : (free used below bad : Bool) (i : ℕ) →
    cond free None (cond (not used || below) (Some (ForeignSlot i)) (cond bad (Some (BadRange i)) None)) ≡ None →
    (free ≡ true) ⊎ ((used ≡ true) × (below ≡ false))
pick true used below bad i none = inl refl
pick false true false bad i none = inr (refl, refl)
pick false false below bad i none = cc
pick false true true bad i none = cc

free_or_used : (area : List (List ℕ)) (last i : ℕ) → slot_fault area last i ≡ None →
    (is_free (slot area i) ≡ true) ⊎ ((is_used (slot area i) ≡ true) × (some_free_below area i ≡ false))
unfolding slot_fault
free_or_used area last i none =
    pick (is_free (slot area i)) (is_used (slot area i)) (some_free_below area i) (has_bad_range area last i) i none

-- the list of the first slots' volumes
record Front (area : List (List ℕ)) (n : ℕ) : Type 0 where
  entries : List Entry
  within : length entries ≤ n
  used : (i : ℕ) → i < length entries → is_used (slot area i) ≡ true
  shown : (i : ℕ) → i < length entries → slice_get entries i ≡ Some (entry_in (slot area i))
  free : (i : ℕ) → length entries ≤ i → i < n → is_free (slot area i) ≡ true
  full : (length entries ≡ n) ⊎ (some_free_below area n ≡ true)

front_free : (area : List (List ℕ)) (n : ℕ) → Front area n → is_free (slot area n) ≡ true → Front area (n + 1)
unfolding some_free_below
front_free area n front free = record {
  entries = front.entries;
  within = let w = front.within in omega arith;
  used = front.used;
  shown = front.shown;
  free = λ i past within. by_place i past (last_or_before i n within);
  full = inr (rw (add-one, free) refl);
}
  where
    by_place : (i : ℕ) → length front.entries ≤ i → (i < n) ⊎ (i ≡ n) → is_free (slot area i) ≡ true
    by_place i past (inl before) = front.free i past before
    by_place i past (inr same) = ap (λ k. is_free (slot area k)) same ∙ free

slice_get-left : (xs ys : List Entry) (i : ℕ) (e : Entry) → slice_get xs i ≡ Some e → slice_get (xs ++ ys) i ≡ Some e
slice_get-left xs ys i e here =
    let within = slice_get_within xs i e here in
    slice_get-get_or (xs ++ ys) i e (omega (arith, length-append xs ys, within))
    ∙ ap Some (get_or_append_left xs ys e i within ∙ get_or_from_slice_get xs i e e here)

pub slice_get-last : (xs : List Entry) (e : Entry) (i : ℕ) → i ≡ length xs → slice_get (xs ++ e ∷ []) i ≡ Some e
slice_get-last xs e i here =
    slice_get-get_or (xs ++ e ∷ []) i e (omega (arith, length-append xs (e ∷ []), here))
    ∙ ap Some (ap (λ k. get_or (xs ++ e ∷ []) k e) here ∙ get_or-append_seam xs e [] e)

front_used : (area : List (List ℕ)) (n : ℕ) (front : Front area n) → length front.entries ≡ n → is_used (slot area n) ≡ true →
    Front area (n + 1)
front_used area n front full used = record {
  entries = front.entries ++ entry_in (slot area n) ∷ [];
  within = omega (arith, length-append front.entries (entry_in (slot area n) ∷ []), full);
  used = λ i within. used_at i (place i within);
  shown = λ i within. shown_at i (place i within);
  free = λ i past within. absurd (omega (arith, length-append front.entries (entry_in (slot area n) ∷ []), full));
  full = inl (length-append front.entries (entry_in (slot area n) ∷ []) ∙ ap (λ k. k + 1) full);
}
  where
    place : (i : ℕ) → i < length (front.entries ++ entry_in (slot area n) ∷ []) → (i < n) ⊎ (i ≡ n)
    place i within = last_or_before i n (omega (arith, length-append front.entries (entry_in (slot area n) ∷ []), full))

    used_at : (i : ℕ) → (i < n) ⊎ (i ≡ n) → is_used (slot area i) ≡ true
    used_at i (inl before) = front.used i (omega (arith, full))
    used_at i (inr same) = ap (λ k. is_used (slot area k)) same ∙ used

    shown_at : (i : ℕ) → (i < n) ⊎ (i ≡ n) → slice_get (front.entries ++ entry_in (slot area n) ∷ []) i ≡ Some (entry_in (slot area i))
    shown_at i (inl before) = slice_get-left front.entries (entry_in (slot area n) ∷ []) i (entry_in (slot area i))
        (front.shown i (omega (arith, full)))
    shown_at i (inr same) = slice_get-last front.entries (entry_in (slot area n)) i (same ∙ sym full)
        ∙ ap (λ k. Some (entry_in (slot area k))) (sym same)

next_front : (area : List (List ℕ)) (n : ℕ) → Front area n → (is_free (slot area n) ≡ true)
    ⊎ ((is_used (slot area n) ≡ true) × (some_free_below area n ≡ false)) → Front area (n + 1)
next_front area n front (inl free) = front_free area n front free
next_front area n front (inr used) = by_full front.full
  where
    by_full : (length front.entries ≡ n) ⊎ (some_free_below area n ≡ true) → Front area (n + 1)
    by_full (inl full) = front_used area n front full used.0
    by_full (inr behind) = let not_behind = used.1 in cc

front_of : (area : List (List ℕ)) (last n : ℕ) → NoneBelow area last n → Front area n
front_of area last zero none = record {
  entries = [];
  within = omega arith;
  used = λ i within. absurd (omega arith);
  shown = λ i within. absurd (omega arith);
  free = λ i past within. absurd (omega arith);
  full = inl refl;
}
front_of area last (suc n) none =
    rw (← add-one) (next_front area n (front_of area last n (λ i within. none i (omega arith)))
    (free_or_used area last n (none n (omega arith))))

pub sound_data_show_volumes : SoundDataShowVolumes
sound_data_show_volumes area last sound =
    let front = front_of area last 232 sound in
    (front.entries, record { room = front.within; used = front.used; shown = front.shown; free = front.free })

sound_or_faulty : (area : List (List ℕ)) (last : ℕ) → FirstFault area last ⊎ NoneBelow area last 232 →
    ((fault : TableFault) × IsFirstFault area last fault) ⊎ HasNoFault area last
sound_or_faulty area last (inl fault) = inl (fault.fault, fault.first)
sound_or_faulty area last (inr sound) = inr sound

pub data_are_sound_or_faulty : DataAreSoundOrFaulty
data_are_sound_or_faulty area last = sound_or_faulty area last (fault_or_none area last 232 (omega arith))
