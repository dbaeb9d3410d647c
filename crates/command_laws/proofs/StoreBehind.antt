-- The writes of an input lie behind the table's segment.
use Rattle.std.proofs.Common.{◌<◌, List, Bool, true, false, cond, ◌≡◌, ℕ, ◌+◌, [], ◌∷◌, ◌++◌, take, ap, ◌∙◌, subst, arith, append-nil}
use Rattle.std.proofs.Common.{length, drop, All, nat_le, ◌≤◌, ◌&&◌, Option, nat_lt, sym, ◌-◌}
use Rattle.std.proofs.lemmas.List.{take_all}
use Rattle.std.proofs.lemmas.List.Elements.{All-nil, All-cons, All-head, All-tail}
use Rattle.std.specs.Prelude.{is_some}
use Rattle.cartridge_laws.proofs.AppendDead.{settled_kept}
use Rattle.cartridge_laws.proofs.AppendKeeping.{AreIn, parts_of_segments, in_append, steps_kept}
use Rattle.cartridge_laws.proofs.AppendParts.{length-in_sectors}
use Rattle.cartridge_laws.proofs.AppendSegments.{carrying_from}
use Rattle.cartridge_laws.specs.AppendSettled.{IsSettledFor}
use Rattle.cartridge_spec.specs.Table.{Entry}
use Rattle.cartridge_spec.specs.Appending.{part_writes, in_sectors, room, free_segments}
use Rattle.cartridge_laws.specs.Table.{last_end}
use Rattle.cartridge_spec.specs.Settling.{changed_by}
use Rattle.cartridge_spec.specs.Shape.{mask_at, data_count, capacity}
use Rattle.command_spec.specs.Append.{segment_act, volume_acts, filled_acts, input_acts, input_writes, has_promised_room}
use Rattle.command_laws.specs.AppendTerms.{most_written}
use Rattle.qic_base.proofs.Joins.{steps_of-append}
use Rattle.qic_base.specs.Acts.{Act, steps_of}
use Rattle.qic_base.specs.Cartridge.{Cartridge}
use Rattle.qic_base.specs.Step.{Step}

-- these acts write behind segment 2
abbrev pub AreBehind : List Act → Type 0
AreBehind acts = AreIn (λ s i. 2 < s) (steps_of acts)

by_test : (b : Bool) (xs ys : List Act) → AreBehind xs → AreBehind ys → AreBehind (cond b xs ys)
by_test true xs ys one other = one
by_test false xs ys one other = other

act_behind : (words : List ℕ) (s : ℕ) (bytes : List ℕ) → 2 < s → AreIn (λ s i. 2 < s) (segment_act words s bytes).steps
act_behind words s bytes past =
    let n : ℕ = data_count (mask_at words s) in
    let area : List (List ℕ) = in_sectors n bytes in
    let steps : List (List ℕ) → List Step = λ sectors. part_writes words (record { segment = s; sectors = sectors }) in
    let of_area : AreIn (λ s i. 2 < s) (steps (take n area) ++ []) =
    parts_of_segments (λ t. 2 < t) words (s ∷ []) area (All-cons (λ (t : ℕ). 2 < t) s [] past (All-nil (λ (t : ℕ). 2 < t))) in
    let whole : take n area ≡ area = take_all n area (let size = length-in_sectors n bytes in omega arith) in
    subst (AreIn (λ s i. 2 < s)) (append-nil (steps (take n area)) ∙ ap steps whole) of_area

volume_behind : (words segments bytes : List ℕ) → All (λ s. 2 < s) segments → AreBehind (volume_acts words segments bytes)
volume_behind words [] bytes are = tt
volume_behind words (s ∷ ss) bytes are =
    let cap : ℕ = capacity (mask_at words s) in
    let rest : List Act = cond (nat_le (length bytes) cap) [] (volume_acts words ss (drop cap bytes)) in
    in_append (λ s i. 2 < s) (segment_act words s bytes).steps (steps_of rest)
    (act_behind words s bytes (All-head (λ (t : ℕ). 2 < t) s ss are))
    (by_test (nat_le (length bytes) cap) [] (volume_acts words ss (drop cap bytes)) tt
    (volume_behind words ss (drop cap bytes) (All-tail (λ (t : ℕ). 2 < t) s ss are)))

filled_behind : (words segments bytes : List ℕ) → All (λ s. 2 < s) segments → AreBehind (filled_acts words segments bytes)
filled_behind words [] bytes are = tt
filled_behind words (s ∷ ss) bytes are =
    let cap : ℕ = capacity (mask_at words s) in
    by_test (nat_le cap (length bytes)) (segment_act words s bytes ∷ filled_acts words ss (drop cap bytes)) []
    (in_append (λ s i. 2 < s) (segment_act words s bytes).steps (steps_of (filled_acts words ss (drop cap bytes)))
    (act_behind words s bytes (All-head (λ (t : ℕ). 2 < t) s ss are))
    (filled_behind words ss (drop cap bytes) (All-tail (λ (t : ℕ). 2 < t) s ss are))) tt

over : (from : ℕ) (segments : List ℕ) → 3 ≤ from → All (λ s. from ≤ s) segments → All (λ s. 2 < s) segments
over from [] least are = All-nil (λ (t : ℕ). 2 < t)
over from (s ∷ ss) least are =
    let here : from ≤ s = All-head (λ (t : ℕ). from ≤ t) s ss are in
    All-cons (λ (t : ℕ). 2 < t) s ss (omega arith) (over from ss least (All-tail (λ (t : ℕ). from ≤ t) s ss are))

pub input_behind : (words : List ℕ) (entries : List Entry) (promised : Option ℕ) (input : List ℕ) → 2 ≤ last_end entries →
    AreBehind (input_writes words entries promised input)
input_behind words entries promised input least =
    let segments : List ℕ = free_segments words entries in
    let most : ℕ = most_written (room words entries) promised in
    let are : All (λ s. 2 < s) segments = over (last_end entries + 1) segments (omega arith)
    (carrying_from words (last_end entries + 1) (length words - 1)) in
    by_test (has_promised_room (room words entries) promised) (input_acts words segments most (is_some promised) input) []
    (by_test (is_some promised && nat_lt (length input) most) (filled_acts words segments input)
    (volume_acts words segments (take most input))
    (filled_behind words segments input are) (volume_behind words segments (take most input) are)) tt

-- the settled table stays so
pub settled_behind : (c : Cartridge) (area : List (List ℕ)) (steps : List Step) → AreIn (λ s i. 2 < s) steps → IsSettledFor c area →
    IsSettledFor (changed_by steps c) area
settled_behind c area steps are known =
    settled_kept c (changed_by steps c) area (λ s i within h. (steps_kept (λ t j. 2 < t) steps c are).others s i h (λ past. omega arith))
    known

front_in : (xs ys : List Step) → AreIn (λ s i. 2 < s) (xs ++ ys) → AreIn (λ s i. 2 < s) xs
front_in [] ys are = tt
front_in (x ∷ xs) ys are = (are.0, front_in xs ys are.1)

pub front_behind : (front rest acts : List Act) → front ++ rest ≡ acts → AreBehind acts → AreBehind front
front_behind front rest acts parts are =
    front_in (steps_of front) (steps_of rest)
    (subst (AreIn (λ s i. 2 < s)) (steps_of-append front rest) (subst AreBehind (sym parts) are))
