-- The segments of a volume that are gone through, up to the last one of the cartridge.
use Rattle.std.proofs.Common.{◌≡◌, ◌⊎◌, inl, inr, ℕ, ◌+◌, ◌-◌, ◌<◌, ◌≤◌, ◌≢◌, Bool, List, [], ◌∷◌, ◌++◌, length, Err, ap, sym, ◌∙◌}
use Rattle.std.proofs.Common.{subst, arith, append-nil}
use Rattle.qic_base.specs.Source as sources
use Rattle.qic_base.specs.Tape as tapes
use Rattle.qic_base.specs.Acts.{Outside}
use Rattle.qic_base.specs.declared.store_fault.StoreFault.{StoreFault}
use Rattle.cartridge_laws.specs.Shape.{Carries}
use Rattle.cartridge_spec.specs.Shape.{mask_at, capacity}
use Rattle.cartridge_spec.specs.Volumes.{carrying, capacity_between}
use Rattle.cartridge_laws.proofs.AppendBytes.{capacity_of, between_carries}
use Rattle.volume_input.specs.declared.written.Written.{Written}
use Rattle.volume_input.proofs.Places.{carrying_next, carrying_skips, carrying_none}
use Rattle.volume_input.specs.Input.{HasWritten, InputEnds}
use Rattle.volume_input.specs.Next.{NextEnds, NextWritten, NoneCame, grown}
use Rattle.volume_input.proofs.Running.{SoFar, next, last, none_came, failed}

-- ---- the segments

module _ {T S : Type 0} {t : tapes.Meaning T} {s : sources.Meaning S} (words : List ℕ) (first segment most : ℕ)
    (start now : Outside T S (Unit {0})) (written : Written)
    (far : SoFar t s words (carrying words first (length words - 1)) most start now (carrying words segment (length words - 1)) written)
  where
    -- one that carries data
    pub here_next : segment < length words → Carries (mask_at words segment) →
        SoFar t s words (carrying words first (length words - 1)) most start now (segment ∷ carrying words (segment + 1) (length words - 1))
        written
    here_next inside carry =
        subst (λ (rest : List ℕ). SoFar t s words (carrying words first (length words - 1)) most start now rest written)
        (carrying_next words segment (length words - 1) (omega arith) carry) far

    -- one that doesn't
    pub skipped : segment < length words → capacity (mask_at words segment) ≡ 0 →
        SoFar t s words (carrying words first (length words - 1)) most start now (carrying words (segment + 1) (length words - 1)) written
    skipped inside none =
        subst (λ (rest : List ℕ). SoFar t s words (carrying words first (length words - 1)) most start now rest written)
        (carrying_skips words segment (length words - 1) (omega arith) none) far

    -- none is left only where nothing is to come
    pub not_over : length words ≤ segment → 1 ≤ length words → 1 ≤ capacity_between words first (length words - 1) →
        most ≤ capacity_between words first (length words - 1) → ⊥
    not_over past some room enough =
        let none : carrying words segment (length words - 1) ≡ [] = carrying_none words segment (length words - 1) (omega arith) in
        let all : carrying words first (length words - 1) ≡ far.front =
        far.parts ∙ ap (λ (rest : List ℕ). far.front ++ rest) none ∙ append-nil far.front in
        let carry : capacity_between words first (length words - 1) ≡ capacity_of words far.front =
        between_carries words first (length words - 1) ∙ ap (capacity_of words) all in
        by_going far.going carry
      where
        by_going : (far.front ≡ []) ⊎ (length far.bytes < most) →
            capacity_between words first (length words - 1) ≡ capacity_of words far.front → ⊥
        by_going (inl empty) carry =
            let zero : capacity_of words far.front ≡ 0 = ap (capacity_of words) empty in
            omega arith
        by_going (inr less) carry = let full = far.full in omega arith

    -- the bytes so far are no more than are wanted
    pub written_within : written.bytes ≤ most
    written_within = by_going far.going
      where
        by_going : (far.front ≡ []) ⊎ (length far.bytes < most) → written.bytes ≤ most
        by_going (inl empty) =
            let zero : capacity_of words far.front ≡ 0 = ap (capacity_of words) empty in
            let full = far.full in
            let count = far.tells.bytes in
            omega arith
        by_going (inr less) = let count = far.tells.bytes in omega arith

    -- ---- what comes of one that carries data

    module _ (exact : Bool) (new : Outside T S (Unit {0})) (inside : segment < length words) (carry : Carries (mask_at words segment)) where
      -- it was filled, and bytes are still to come
      pub filled_here : (read : ℕ) (told : Written) → told ≡ grown written segment read →
          NextWritten t s words segment written.bytes most exact now new read → capacity (mask_at words segment) ≤ read →
          told.bytes ≢ most →
          SoFar t s words (carrying words first (length words - 1)) most start new (carrying words (segment + 1) (length words - 1)) told
      filled_here read told is come filled going =
          let few : length come.bytes ≤ most - written.bytes = come.came.took.within in
          let count : read ≡ length come.bytes = come.count in
          let sum : told.bytes ≡ written.bytes + read = ap (λ (w : Written). w.bytes) is in
          let before : written.bytes ≤ most = written_within in
          subst (λ (w : Written). SoFar t s words (carrying words first (length words - 1)) most start new
          (carrying words (segment + 1) (length words - 1)) w) (sym is)
          (next words (carrying words first (length words - 1)) segment most exact start now new
          (carrying words (segment + 1) (length words - 1)) written carry (here_next inside carry) read come filled (omega arith))

      -- it was the last one
      pub last_here : (read : ℕ) (told : Written) → told ≡ grown written segment read →
          NextWritten t s words segment written.bytes most exact now new read →
          (read < capacity (mask_at words segment)) ⊎ (told.bytes ≡ most) →
          HasWritten t s words (carrying words first (length words - 1)) most exact start new told
      last_here read told is come ends =
          subst (λ (w : Written). HasWritten t s words (carrying words first (length words - 1)) most exact start new w) (sym is)
          (last words (carrying words first (length words - 1)) segment most exact start now new
          (carrying words (segment + 1) (length words - 1)) written carry (here_next inside carry) read come
          (subst (λ (w : Written). (read < capacity (mask_at words segment)) ⊎ (w.bytes ≡ most)) is ends))

      -- none came for it
      pub none_here : NoneCame t s words segment written.bytes most exact now new →
          HasWritten t s words (carrying words first (length words - 1)) most exact start new written
      none_here =
          none_came words (carrying words first (length words - 1)) segment most exact start now new
          (carrying words (segment + 1) (length words - 1)) written carry (here_next inside carry)

      -- a fault
      pub failed_here : (why : StoreFault) → NextEnds t s words segment written.bytes most exact now new (Err why) →
          InputEnds t s words (carrying words first (length words - 1)) most exact start new (Err why)
      failed_here =
          failed words (carrying words first (length words - 1)) segment most exact start now new
          (carrying words (segment + 1) (length words - 1)) written carry (here_next inside carry)
