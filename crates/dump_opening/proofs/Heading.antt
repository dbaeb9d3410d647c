-- A dump has one header, or none.
use Rattle.std.proofs.Common.{◌≡◌, ⊎_elim, ℕ, ◌<◌, ◌≤◌, Bool, List, Option, Some, None, refl, sym, ap, subst, ◌∙◌, arith}
use Rattle.std.proofs.lemmas.Bool.{cases_lt}
use Rattle.dump_spec.specs.Dump.{Dump}
use Rattle.dump_spec.specs.HeaderPlace.{FoundHeader, IsHeader, IsFirstHeader, IsHeaderIn}
use Rattle.dump_spec.specs.Pieces.{Layout}
use Rattle.segment_salvage.proofs.ReadingWhole.{one_reads}

area_one : (dump : Dump) (layout : Layout) (zero_lost : Bool) (segment : ℕ) (one other : List (List ℕ)) →
    IsHeaderIn dump layout zero_lost segment one → IsHeaderIn dump layout zero_lost segment other → one ≡ other
area_one dump layout zero_lost segment one other p q = one_reads layout.form zero_lost _ one other p.reads q.reads

first_one : (dump : Dump) (layout : Layout) (zero_lost : Bool) (s t : ℕ) (one other : List (List ℕ)) →
    IsFirstHeader dump layout zero_lost s one → IsFirstHeader dump layout zero_lost t other → s ≡ t
first_one dump layout zero_lost s t one other p q = ⊎_elim
    (λ (low : s < t). absurd (q.before s one low p.here))
    (λ (high : t ≤ s). ⊎_elim
    (λ (low : t < s). absurd (p.before t other low q.here))
    (λ (also : s ≤ t). let e : s ≡ t = omega arith in e)
    (cases_lt t s))
    (cases_lt s t)

abbrev found_of : List (List ℕ) → Option ℕ → FoundHeader
found_of area segment = record { area = area; segment = segment }

found_one : (one other : FoundHeader) → one.area ≡ other.area → one.segment ≡ other.segment → one ≡ other
found_one one other area segment =
    ap (found_of one.area) segment ∙ ap (λ (a : List (List ℕ)). found_of a other.segment) area

pub one_header : (file : Option (List ℕ)) (dump : Dump) (layout : Layout) (zero_lost : Bool) (one other : Option FoundHeader) →
    IsHeader file dump layout zero_lost one → IsHeader file dump layout zero_lost other → one ≡ other
one_header (Some file) dump layout zero_lost one other p q = p ∙ sym q
one_header None dump layout zero_lost None None p q = refl
one_header None dump layout zero_lost (Some one) None p q =
    absurd (q p.2.looked_for p.0 one.area p.2.within p.2.here)
one_header None dump layout zero_lost None (Some other) p q =
    absurd (p q.2.looked_for q.0 other.area q.2.within q.2.here)
one_header None dump layout zero_lost (Some one) (Some other) p q =
    let place : p.0 ≡ q.0 = first_one dump layout zero_lost p.0 q.0 one.area other.area p.2 q.2 in
    let area : one.area ≡ other.area = area_one dump layout zero_lost q.0 one.area other.area
    (subst (λ (s : ℕ). IsHeaderIn dump layout zero_lost s one.area) place p.2.here) q.2.here in
    ap Some (found_one one other area (p.1 ∙ ap Some place ∙ sym q.1))
