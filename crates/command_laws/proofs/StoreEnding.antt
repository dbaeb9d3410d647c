-- An input that fits has room, and a list with its volume is in order.
use Rattle.std.proofs.Common.{◌≡◌, ℕ, Bool, true, false, cond, List, refl, ◌+◌, ◌-◌, ◌≤◌, ◌&&◌, min, nat_lt, nat_le, length, take, Option}
use Rattle.std.proofs.Common.{Some, None, subst, arith, ◌<◌, [], ◌∷◌, ◌++◌}
use Rattle.std.proofs.lemmas.Bool.{and_parts, leb-true, le-leb}
use Rattle.std.proofs.lemmas.List.{length-take}
use Rattle.std.specs.Prelude.{slice_index}
use Rattle.cartridge_laws.proofs.AppendOrders.{order_more}
use Rattle.cartridge_laws.proofs.AppendSegments.{AreTaken, room_is, segments_taken}
use Rattle.cartridge_laws.specs.Table.{IsSoundList, last_end}
use Rattle.cartridge_spec.specs.Appending.{new_entry, taken_by, room, free_segments}
use Rattle.cartridge_spec.specs.Table.{Entry}
use Rattle.command_laws.proofs.StoreTaking.{both_true}
use Rattle.command_spec.specs.Append.{Taking, Fits, TooLong, TooShort, taking, has_promised_room}

-- what fits is within the room
fits_within : (b : Bool) (input bytes : List ℕ) (other : Taking) → ((xs : List ℕ) → other ≡ Fits xs → ⊥) →
    cond b (Fits input) other ≡ Fits bytes → (b ≡ true) × (input ≡ bytes)
fits_within true input bytes other none is = (refl, (cc))
fits_within false input bytes other none is = absurd (none bytes is)

promised_within : (b d : Bool) (input bytes : List ℕ) (m n have read : ℕ) → cond b (cond d (TooShort m read) (Fits input))
    (TooLong n have) ≡ Fits bytes → (b ≡ true) × (input ≡ bytes)
promised_within true true input bytes m n have read is = absurd (cc)
promised_within true false input bytes m n have read is = (refl, (cc))
promised_within false d input bytes m n have read is = absurd (cc)

pub took_fits : (have : ℕ) (promised : Option ℕ) (input bytes : List ℕ) → taking have promised input ≡ Fits bytes → (1 ≤ have)
    × (length bytes ≤ have)
took_fits have None input bytes is =
    let all = fits_within (nat_le 1 have && nat_le (length input) have) input bytes (TooLong (min (length input) (have + 1)) have)
    (λ xs e. absurd (cc)) is in
    let parts = and_parts (nat_le 1 have) (nat_le (length input) have) all.0 in
    (leb-true 1 have parts.0, subst (λ (xs : List ℕ). length xs ≤ have) all.1 (leb-true (length input) have parts.1))
took_fits have (Some n) input bytes is =
    let all = promised_within (has_promised_room have (Some n)) (nat_lt (length input) n) (take n input) bytes n n have (length input) is in
    let parts = and_parts (nat_le 1 have) (nat_le n have) all.0 in
    let most : n ≤ have = leb-true n have parts.1 in
    (leb-true 1 have parts.0, subst (λ (xs : List ℕ). length xs ≤ have) all.1 (omega (arith, length-take n input)))

-- a new list is in order
pub list_more : (words : List ℕ) (entries : List Entry) (name : List ℕ) (date n : ℕ) → IsSoundList (length words - 1) entries →
    1 ≤ room words entries → n ≤ room words entries →
    IsSoundList (length words - 1) (entries ++ new_entry (taken_by words n (free_segments words entries)) name date n ∷ [])
list_more words entries name date n order some within =
    let last : ℕ = length words - 1 in
    let has = room_is words entries n (both_true (nat_le 1 (room words entries)) (nat_le n (room words entries))
    (le-leb 1 (room words entries) some) (le-leb n (room words entries) within)) in
    let segments : List ℕ = taken_by words n (free_segments words entries) in
    let taken : AreTaken words (last_end entries) last segments = segments_taken words entries n has in
    let starts : slice_index segments 0 ≡ taken.start = taken.starts in
    let ends : slice_index segments (length segments - 1) ≡ taken.end = taken.ends in
    let behind : last_end entries < taken.start = taken.behind in
    let forwards : taken.start ≤ taken.end = taken.forwards in
    let end : taken.end ≤ last = taken.within in
    order_more 2 last entries (new_entry segments name date n) order (omega arith) (omega arith) (omega arith)
