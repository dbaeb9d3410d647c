-- The carrying segments from one on, one after the other.
use Rattle.std.proofs.Common.{◌≡◌, ◌⊎◌, inl, inr, ℕ, suc, ◌+◌, ◌-◌, ◌*◌, ◌≤◌, Bool, true, false, cond, List, [], ◌∷◌, refl, sym, ap, ◌∙◌}
use Rattle.std.proofs.Common.{arith, nat_le, length}
use Rattle.std.proofs.lemmas.Bool.{cases_Bool, le-leb, leb-true}
use Rattle.qic_base.specs.Cartridge.{lost_places}
use Rattle.cartridge_laws.specs.Shape.{Carries}
use Rattle.cartridge_spec.specs.Shape.{mask_at, usable_count, data_count, capacity}
use Rattle.cartridge_spec.specs.Volumes.{carrying}
use Rattle.cartridge_laws.proofs.Places.{count_below}
use Rattle.cartridge_laws.proofs.MountWriting.{places_that, places_none, places_passes, places_fails}
use Rattle.cartridge_laws.proofs.AppendBytes.{carried_all}
use Rattle.cartridge_laws.proofs.AppendSegments.{carries, carrying_are}

-- a segment of some bytes carries data
carries_cond : (b : Bool) (n : ℕ) → 1 ≤ cond b n 0 → b ≡ true
carries_cond true n some = refl
carries_cond false n some = absurd (omega arith)

pub capacity_carries : (words : List ℕ) (s : ℕ) → 1 ≤ capacity (mask_at words s) → Carries (mask_at words s)
capacity_carries words s some =
    leb-true 4 (usable_count (mask_at words s))
    (carries_cond (nat_le 4 (usable_count (mask_at words s))) (1024 * data_count (mask_at words s)) some)

pub data_most : (words : List ℕ) (s : ℕ) → data_count (mask_at words s) ≤ 29
data_most words s =
    let usable : length (lost_places (mask_at words s) 32) ≤ 32 = count_below (mask_at words s) 32 in
    omega arith

module _ (words : List ℕ) (segment last : ℕ) (here : segment ≤ last) where
  count : last + 1 - segment ≡ suc (last + 1 - (segment + 1))
  count = omega arith

  pub carrying_next : Carries (mask_at words segment) → carrying words segment last ≡ segment ∷ carrying words (segment + 1) last
  carrying_next carry =
      carrying_are words segment last
      ∙ ap (places_that (carries words) segment) count
      ∙ places_passes (carries words) segment (last + 1 - (segment + 1)) (le-leb 4 (usable_count (mask_at words segment)) carry)
      ∙ ap (λ (ss : List ℕ). segment ∷ ss) (sym (carrying_are words (segment + 1) last))

  pub carrying_skips : capacity (mask_at words segment) ≡ 0 → carrying words segment last ≡ carrying words (segment + 1) last
  carrying_skips none =
      carrying_are words segment last
      ∙ ap (places_that (carries words) segment) count
      ∙ places_fails (carries words) segment (last + 1 - (segment + 1)) (fails (cases_Bool (carries words segment)))
      ∙ sym (carrying_are words (segment + 1) last)
    where
      fails : (carries words segment ≡ true) ⊎ (carries words segment ≡ false) → carries words segment ≡ false
      fails (inl passes) =
          let carry : Carries (mask_at words segment) = leb-true 4 (usable_count (mask_at words segment)) passes in
          let least : 4 ≤ usable_count (mask_at words segment) = carry in
          let all = carried_all words segment carry in
          absurd (omega arith)
      fails (inr is) = is

pub carrying_none : (words : List ℕ) (segment last : ℕ) → last + 1 ≤ segment → carrying words segment last ≡ []
carrying_none words segment last past =
    let none : last + 1 - segment ≡ 0 = omega arith in
    carrying_are words segment last ∙ ap (places_that (carries words) segment) none ∙ places_none (carries words) segment
