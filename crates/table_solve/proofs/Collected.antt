-- The calls that solve the table's segment, one by one.
use Rattle.std.proofs.Common.{◌≡◌, ◌↔◌, ℕ, zero, suc, ◌+◌, ◌-◌, ◌*◌, ◌%◌, ◌^◌, ◌<◌, ◌≤◌, ◌++◌, refl, sym, ◌∙◌, ap, subst, arith, inl, inr}
use Rattle.std.proofs.Common.{List, [], ◌∷◌, length, take, drop, map, get_or, replicate, Option, Some, None, slice_get, IfSome, Err, Bool}
use Rattle.std.proofs.Common.{true, false, nat_lt}
use Rattle.std.specs.Prelude.{◌==◌, if◌then◌else◌}
use Rattle.std.specs.Int.{bit_at}
use Rattle.std.proofs.lemmas.Bool.{cases_eq}
use Rattle.std.proofs.lemmas.List.{length-append, length-drop, length-take-le, take_at, take_all}
use Rattle.std.proofs.lemmas.Nat.{one_shl}
use Rattle.std.proofs.lemmas.Nat.Bits.{bit_at-pow_same, bit_at-pow_other}
use Rattle.qic_base.specs.CartridgeTerms.{IsLost}
use Rattle.qic_base.specs.Cartridge.{lost_places}
use Rattle.qic_base.specs.declared.tape.SectorView.{SectorView}
use Rattle.qic_base.specs.declared.tape.SectorView.TheVariants.{Holds}
use Rattle.cartridge_spec.specs.Code.{IsCodeBlock}
use Rattle.cartridge_laws.specs.Says.{LosesData}
use Rattle.cartridge_laws.specs.TableCells.{last_used, sets_by_one}
use Rattle.cartridge_laws.specs.Segment.{hidden}
use Rattle.cartridge_spec.specs.Says.{set_of, sets_by, with_used}
use Rattle.cartridge_spec.specs.Shape.{usable_count}
use Rattle.cartridge_laws.proofs.Segments.{count_of_whole}
use Rattle.segment_solve.specs.Gathered.{Gathered}
use Rattle.segment_solve.specs.Reading.{Solves, HasSolved}
use Rattle.segment_solve.specs.declared.fault.SegFault.{SegFault}
use Rattle.volume_table.specs.declared.sets_tried.Trials.{Trials}
use Rattle.volume_table.specs.Trials.{AreTrials, IsLastUsed, tried}
use Rattle.table_solve.specs.Reading.{Unsolved, IsSolved}
use Rattle.table_solve.proofs.Places.{put_end}
use Rattle.table_solve.proofs.Trials.{IsCollected}
use borrow.Rule.Slice.PartMut.{put_mid}
use Rattle.segment_solve.specs.declared.fault.SegFault.TheVariants as seg

-- ---- a set of one place

one_bit : (place i : ℕ) → place < 32 → bit_at (1 * 2 ^ place % 2 ^ 32) i ≡ bit_at (2 ^ place) i
one_bit place i within = ap (λ (n : ℕ). bit_at n i) (one_shl place 32 within)

pub left_some : (set result place : ℕ) (used : Option ℕ) → used ≡ Some place → IfSome used (λ k. k < 29) → IsLost set place →
    result ≡ 1 * 2 ^ place % 2 ^ 32 →
    (i : ℕ) → IsLost result i ↔ ((used ≡ Some i) × IsLost set i)
left_some set result place used is below there mask i =
    let small : place < 29 = subst (λ (o : Option ℕ). IfSome o (λ k. k < 29)) is below in
    let bit : bit_at result i ≡ bit_at (2 ^ place) i = ap (λ (n : ℕ). bit_at n i) mask ∙ one_bit place i (omega arith) in
    elim (cases_eq i place) [
      | inl here ↦ (
        λ lost. (is ∙ ap Some (sym here), subst (λ (k : ℕ). IsLost set k) (sym here) there),
        λ both. bit ∙ ap (bit_at (2 ^ place)) here ∙ bit_at-pow_same place,
      )
      | inr other ↦
          let none : bit_at result i ≡ 0 = bit ∙ bit_at-pow_other place i other in (
            λ lost. let one : bit_at result i ≡ 1 = lost in absurd (omega arith),
            λ both. let same : Some place ≡ Some i = sym is ∙ both.0 in absurd (other (let e : place ≡ i = cc in sym e)),
          )
    ]

-- ---- the parity sectors

pub last_three : {A : Type 0} (i : ℕ) (xs : List A) (d : A) → length xs ≡ i + 3 → get_or xs i d ∷ get_or xs (suc i) d ∷ get_or xs
    (suc (suc i)) d ∷ [] ≡ drop i xs
last_three zero [] d long = absurd (omega arith)
last_three zero (a ∷ []) d long = absurd (omega arith)
last_three zero (a ∷ b ∷ []) d long = absurd (omega arith)
last_three zero (a ∷ b ∷ c ∷ []) d long = refl
last_three zero (a ∷ b ∷ c ∷ e ∷ rest) d long = absurd (omega arith)
last_three (suc i) [] d long = absurd (omega arith)
last_three (suc i) (x ∷ xs) d long = last_three i xs d (omega arith)

pub put_in : (old lent new parity : List (List ℕ)) → lent ≡ old → new ≡ parity → length old ≡ 32 → length parity ≡ 3 →
    take 32 (put_mid 29 (length lent - 29) lent new ++ drop (length (put_mid 29 (length lent - 29) lent new)) old) ≡ take 29 old ++ parity
put_in old lent new parity was is room three =
    let put : put_mid 29 (length lent - 29) lent new ≡ take 29 old ++ parity =
    ap (λ (l : List (List ℕ)). put_mid 29 (length l - 29) l new) was ∙ ap (put_mid 29 (length old - 29) old) is ∙ put_end old parity room in
    let long : length (put_mid 29 (length lent - 29) lent new) ≡ 32 =
    ap (λ (l : List (List ℕ)). length l) put ∙ length-append (take 29 old) parity
    ∙ (let front : length (take 29 old) ≡ 29 = length-take-le 29 old (omega arith) in omega arith) in
    take_at (put_mid 29 (length lent - 29) lent new) (drop (length (put_mid 29 (length lent - 29) lent new)) old) 32 long ∙ put

-- ---- one set after the other

whole_length : (cells : List SectorView) → length cells ≡ 32 → length cells ≡ usable_count 4294967295
whole_length cells count = count ∙ sym count_of_whole

-- an answer with a fault
pub unsolved_fault : (set : ℕ) (old new : List (List ℕ)) (fault : SegFault) →
    ((cells : List SectorView) → length cells ≡ usable_count 4294967295 → Gathered cells set old →
    Solves {A = Unit {0}} 2 cells new (Err fault)) → Unsolved set old
unsolved_fault set old new (seg.Lost segment n) solves = λ cells count gathered few.
    let says = (solves cells (whole_length cells count) gathered).1 in absurd (omega (arith, says.0, says.1))
unsolved_fault set old new (seg.Mismatch segment) solves =
    λ cells count gathered few. (solves cells (whole_length cells count) gathered).1.1

-- an answer without one
pub solved_answer : (set : ℕ) (old new : List (List ℕ)) →
    ((cells : List SectorView) → length cells ≡ usable_count 4294967295 → Gathered cells set old → HasSolved cells new) →
    IsSolved set old new
solved_answer set old new solves = λ cells count gathered. solves cells (whole_length cells count) gathered

pub block_answer : (new : List (List ℕ)) → length new ≡ 32 → IsCodeBlock (take (usable_count 4294967295) new) → IsCodeBlock new
block_answer new room code =
    let count : usable_count 4294967295 ≡ 32 = count_of_whole in
    subst IsCodeBlock (take_all (usable_count 4294967295) new (omega arith)) code

-- the sets so far don't solve the sectors
abbrev pub NoneBelow : (sets : List ℕ) (index : ℕ) (sectors : List (List ℕ)) → Type 0
NoneBelow sets index sectors = (i other : ℕ) → i < index → slice_get sets i ≡ Some other → Unsolved other sectors

pub none_so_far : (sets : List ℕ) (index set : ℕ) (sectors : List (List ℕ)) → NoneBelow sets index sectors →
    slice_get sets index ≡ Some set → Unsolved set sectors →
    NoneBelow sets (index + 1) sectors
none_so_far sets index set sectors before at unsolved = λ i other within there.
    elim (cases_eq i index) [
      | inl here ↦
          let same : Some set ≡ Some other = sym at ∙ ap (slice_get sets) (sym here) ∙ there in
          let one : set ≡ other = cc in subst (λ (s : ℕ). Unsolved s sectors) one unsolved
      | inr lower ↦ before i other (omega arith) there
    ]

pub get_first : (n : ℕ) (xs : List ℕ) (i d : ℕ) → i < n → i < length xs → slice_get (take n xs) i ≡ Some (get_or xs i d)
get_first zero xs i d within inside = absurd (omega arith)
get_first (suc n) [] i d within inside = absurd (omega arith)
get_first (suc n) (x ∷ xs) zero d within inside = refl
get_first (suc n) (x ∷ xs) (suc i) d within inside = get_first n xs i d (omega arith) (omega arith)

-- the sets that are tried
pub tried_sets : (trials : Trials) (sets : List ℕ) → AreTrials trials sets → take trials.count trials.sets ≡ sets
tried_sets trials sets are =
    ap (λ (n : ℕ). take n trials.sets) are.count ∙ ap (take (length sets)) are.listed
    ∙ take_at sets (replicate (5 - length sets) 0) (length sets) refl

few_with : (used : Option ℕ) (ps : List ℕ) → length (with_used used ps) ≤ 4
few_with None ps = omega arith
few_with (Some k) ps = omega arith

few_by_one : (used : Option ℕ) (m : ℕ) (b : Bool) → length (if b then sets_by_one used m else []) ≤ 4
few_by_one None m true = omega arith
few_by_one (Some k) m true = omega arith
few_by_one used m false = omega arith

few_by_two : (used : Option ℕ) (m : ℕ) (a b d : Bool) →
    length (if a then (if b then with_used used (m ∷ 29 ∷ []) else if d then set_of (m ∷ 30 ∷ 31 ∷ []) ∷ [] else []) else []) ≤ 4
few_by_two used m false b d = omega arith
few_by_two used m true true d = few_with used (m ∷ 29 ∷ [])
few_by_two used m true false true = omega arith
few_by_two used m true false false = omega arith

few_sets : (used : Option ℕ) (ps : List ℕ) → length (sets_by used ps) ≤ 4
few_sets used [] = omega arith
few_sets used (m ∷ []) = few_by_one used m (nat_lt m 29)
few_sets used (m ∷ other ∷ []) = few_by_two used m (nat_lt m 29) (other == 29) (other == 30)
few_sets used (m ∷ other ∷ third ∷ more) = omega arith

pub few_tried : (trials : Trials) (lost : ℕ) (used : Option ℕ) → AreTrials trials (tried lost used) → trials.count ≤ 5
few_tried trials lost used are =
    let few : length (sets_by used (lost_places lost 32)) ≤ 4 = few_sets used (lost_places lost 32) in
    let count : trials.count ≡ suc (length (sets_by used (lost_places lost 32))) = are.count in
    omega arith

pub put_room : (old parity new work : List (List ℕ)) → length old ≡ 32 → length work ≡ 32 → parity ≡ drop 29 work →
    new ≡ take 29 old ++ parity → length new ≡ 32
put_room old parity new work room long is put =
    let front : length (take 29 old) ≡ 29 = length-take-le 29 old (omega arith) in
    let back : length parity ≡ 3 = ap (λ (l : List (List ℕ)). length l) is ∙ length-drop 29 work ∙ omega arith in
    ap (λ (l : List (List ℕ)). length l) put ∙ length-append (take 29 old) parity ∙ omega arith

-- ---- what was collected

used_data : (o : Option ℕ) → ((k : ℕ) → o ≡ Some k → k < 29) → IfSome o (λ k. k < 29)
used_data None each = tt
used_data (Some k) each = each k refl

pub used_small : (o : Option ℕ) → IfSome o (λ k. k < 29) → IfSome o (λ k. k < 32)
used_small None below = tt
used_small (Some k) below = omega (arith, below)

pub last_data : (area : List (List ℕ)) (lost : ℕ) (used : Option ℕ) → ((k : ℕ) → (used ≡ Some k) ↔ IsLastUsed area lost k) →
    IfSome used (λ k. k < 29)
last_data area lost used greatest = used_data used (λ k is. ((greatest k).0 is).shows.data_sector)

pub collected : (cells : List SectorView) (lost : ℕ) (used : Option ℕ) (area sectors : List (List ℕ)) → length cells ≡ 32 →
    length sectors ≡ 32 → Gathered cells lost sectors →
    lost < 2 ^ 32 → length (lost_places lost 32) ≤ 3 → LosesData lost → area ≡ take 29 sectors →
    used ≡ last_used (hidden lost (map Holds area)) → ((k : ℕ) → (used ≡ Some k) ↔ IsLastUsed area lost k) →
    IsCollected cells lost used sectors
collected cells lost used area sectors count room gathered mask few loses is last greatest = record {
  count = count;
  room = room;
  gathered = gathered;
  mask = mask;
  few = few;
  loses = loses;
  last = last ∙ ap (λ (a : List (List ℕ)). last_used (hidden lost (map Holds a))) is;
  data_sector = last_data area lost used greatest;
  kept = λ i at. ((greatest i).0 at).shows.kept;
}
