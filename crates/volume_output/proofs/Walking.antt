-- The segments of a volume, one after the other.
use Rattle.std.proofs.Common.{◌≡◌, ℕ, zero, suc, ◌+◌, ◌-◌, ◌*◌, ◌<◌, ◌≤◌, inl, inr, Bool, true, false, List, [], ◌∷◌, Result, Ok, Err, refl}
use Rattle.std.proofs.Common.{sym, ap, ◌∙◌, subst, arith}
use Rattle.std.specs.Prelude.{min}
use Rattle.std.proofs.lemmas.Bool.{cases_Bool, leb-true}
use Rattle.qic_base.specs.Sink as sinks
use Rattle.qic_base.specs.Tape as tapes
use Rattle.qic_base.proofs.Writing.{TakesBoth}
use Rattle.qic_base.specs.Acts.{Outside}
use Rattle.cartridge_spec.specs.Shape.{mask_at, usable_count, data_count, capacity}
use Rattle.cartridge_spec.specs.Volumes.{carrying}
use Rattle.cartridge_laws.proofs.MountWriting.{places_that, places_none, places_passes, places_fails}
use Rattle.cartridge_laws.proofs.AppendSegments.{carries, carried, carrying_are}
use Rattle.command_spec.specs.Restore.{Piece, Restored, pieces_of}
use Rattle.qic_base.specs.declared.store_fault.StoreFault.{StoreFault}
use Rattle.volume_output.specs.Output.{GaveVolume, OutputEnds}
use Rattle.volume_output.specs.Piece.{piece_of}
use Rattle.volume_output.proofs.Joining.{gave_none, ends_behind, ends_there}
use Rattle.command_laws.specs.OutputLaws.{pieces_between}

-- ---- how many bytes a segment gives

pub count_is : (left count held : ℕ) (answered cap : ℕ) → count ≡ min left held → held ≡ answered → answered ≡ cap → count ≡ min left cap
count_is left count held answered cap least same is = least ∙ ap (min left) (same ∙ is)

-- ---- what is left from a segment on

module _ (words : List ℕ) where
  nothing_left : (segments : List ℕ) → pieces_of words segments 0 ≡ []
  nothing_left [] = refl
  nothing_left (s ∷ ss) = refl

  -- the first of some segments that carry data
  first_given : (s : ℕ) (ss : List ℕ) (left count : ℕ) → count ≡ min left (capacity (mask_at words s)) → 0 < count →
      pieces_of words (s ∷ ss) left ≡ piece_of s count ∷ pieces_of words ss (left - count)
  first_given s ss zero count is some = absurd (omega arith)
  first_given s ss (suc left) count is some =
      let cap : ℕ = capacity (mask_at words s) in
      let rest : suc left - cap ≡ suc left - count = omega arith in
      ap (λ (n : ℕ). piece_of s n ∷ pieces_of words ss (suc left - cap)) (sym is)
      ∙ ap (λ (n : ℕ). piece_of s count ∷ pieces_of words ss n) rest

  module _ (segment end : ℕ) where
    -- behind the last segment
    pub left_behind : (left : ℕ) → end < segment → pieces_of words (carrying words segment end) left ≡ []
    left_behind left past =
        let none : end + 1 - segment ≡ 0 = omega arith in
        ap (λ (ss : List ℕ). pieces_of words ss left)
        (carrying_are words segment end ∙ ap (places_that (carries words) segment) none ∙ places_none (carries words) segment)

    module _ (within : segment ≤ end) where
      one_more : carrying words segment end ≡ places_that (carries words) segment (suc (end + 1 - (segment + 1)))
      one_more =
          let more : end + 1 - segment ≡ suc (end + 1 - (segment + 1)) = omega arith in
          carrying_are words segment end ∙ ap (places_that (carries words) segment) more

      next_passes : carries words segment ≡ true → carrying words segment end ≡ segment ∷ carrying words (segment + 1) end
      next_passes passes =
          one_more ∙ places_passes (carries words) segment (end + 1 - (segment + 1)) passes
          ∙ ap (λ (ss : List ℕ). segment ∷ ss) (sym (carrying_are words (segment + 1) end))

      next_fails : carries words segment ≡ false → carrying words segment end ≡ carrying words (segment + 1) end
      next_fails fails =
          one_more ∙ places_fails (carries words) segment (end + 1 - (segment + 1)) fails ∙ sym (carrying_are words (segment + 1) end)

      -- a segment that holds none of the bytes
      pub left_skipped : (left : ℕ) → min left (capacity (mask_at words segment)) ≡ 0 →
          pieces_between words segment end left ≡ pieces_between words (segment + 1) end left
      left_skipped left none =
          elim (cases_Bool (carries words segment)) [
            | inl passes ↦
                let many : 4 ≤ usable_count (mask_at words segment) = leb-true 4 (usable_count (mask_at words segment)) passes in
                let all : capacity (mask_at words segment) ≡ 1024 * data_count (mask_at words segment) = capacity_passes passes in
                let over : left ≡ 0 = omega arith in
                ap (pieces_of words (carrying words segment end)) over ∙ nothing_left (carrying words segment end)
                ∙ sym (ap (pieces_of words (carrying words (segment + 1) end)) over ∙ nothing_left (carrying words (segment + 1) end))
            | inr fails ↦ ap (λ (ss : List ℕ). pieces_of words ss left) (next_fails fails)
          ]
        where
          capacity_passes : carries words segment ≡ true → capacity (mask_at words segment) ≡ 1024 * data_count (mask_at words segment)
          capacity_passes passes = rw passes refl

      -- one that holds some of them
      pub left_given : (left count : ℕ) → count ≡ min left (capacity (mask_at words segment)) → 0 < count →
          pieces_between words segment end left ≡ piece_of segment count ∷ pieces_between words (segment + 1) end (left - count)
      left_given left count is some =
          elim (cases_Bool (carries words segment)) [
            | inl passes ↦
                ap (λ (ss : List ℕ). pieces_of words ss left) (next_passes passes)
                ∙ first_given segment (carrying words (segment + 1) end) left count is some
            | inr fails ↦
                let none = carried (carries words segment) (1024 * data_count (mask_at words segment)) fails in
                absurd (omega arith)
          ]

-- ---- the loop

-- however what is left ends, all ends so
abbrev pub GoesOn : {T K : Type 0} (t : tapes.Meaning T) (k : sinks.Meaning K) (words : List ℕ) (all left : List Piece) (lined : Bool)
    (start now : Outside T (Unit {0}) K) → Type 0
GoesOn {T} {K} t k words all left lined start now =
    (new : Outside T (Unit {0}) K) (result : Result (Unit {0}) StoreFault) → OutputEnds t k words left lined now new result →
    OutputEnds t k words all lined start new result

module _ {T K : Type 0} (t : tapes.Meaning T) (k : sinks.Meaning K) (words : List ℕ) (all left : List Piece) (lined : Bool)
    (start now : Outside T (Unit {0}) K) (goes : GoesOn t k words all left lined start now) where
  -- what is left by another name
  pub same_left : (rest : List Piece) → left ≡ rest → GoesOn t k words all rest lined start now
  same_left rest same = subst (λ (ps : List Piece). GoesOn t k words all ps lined start now) same goes

  pub one_given : TakesBoth k → (piece : Piece) (rest : List Piece) (after : Outside T (Unit {0}) K) → left ≡ piece ∷ rest →
      GaveVolume t k words (piece ∷ []) lined now after Restored → GoesOn t k words all rest lined start after
  one_given both piece rest after same gave = λ new result ends.
      same_left (piece ∷ rest) same new result (ends_behind t k words lined piece rest now after both new result gave ends)

  pub one_failed : (piece : Piece) (rest : List Piece) (after : Outside T (Unit {0}) K) (why : StoreFault) → left ≡ piece ∷ rest →
      OutputEnds t k words (piece ∷ []) lined now after (Err why) → OutputEnds t k words all lined start after (Err why)
  one_failed piece rest after why same ends =
      same_left (piece ∷ rest) same after (Err why) (ends_there t k words lined piece rest now after why ends)

  pub all_given : ((x : K) → k.took x [] x) → left ≡ [] → (done : Unit {0}) → OutputEnds t k words all lined start now (Ok done)
  all_given none same done = same_left [] same now (Ok done) (gave_none t k words lined none now)
