-- What the writing of one segment of a volume did, with so many bytes of the input in the segments before it (this
-- project's own).
use Rattle.std.specs.Prelude.{◌≡◌, ◌⊎◌, ℕ, ◌+◌, ◌-◌, ◌==◌, ◌<◌, ◌≤◌, if◌then◌else◌, min, Bool, true, List, [], ◌∷◌, length, All, Option}
use Rattle.std.specs.Prelude.{Some, None, Result, Ok, Err}
use Rattle.qic_base.specs.Source as sources
use Rattle.qic_base.specs.Tape as tapes
use Rattle.qic_base.specs.Acts.{Outside, TapeFails, SourceFails, Went, Cut}
use Rattle.qic_base.specs.Alone.{no_sink}
use Rattle.cartridge_spec.specs.Shape.{mask_at, capacity}
use Rattle.sector_fill.specs.Filling.{GaveUpTo, GaveWithin}
use Rattle.command_spec.specs.Append.{segment_act}
use Rattle.qic_base.specs.declared.store_fault.StoreFault.{StoreFault}
use Rattle.qic_base.specs.declared.store_fault.StoreFault.TheVariants as fault
use Rattle.volume_input.specs.declared.written.Written.{Written}

-- The source gave these bytes: as many as the segment carries, or as are still wanted, or fewer where it has ended and an
-- exact number of bytes was not asked for. They are some, or the segment is the first one.
pub record Came {S : Type 0} (s : sources.Meaning S) (words : List ℕ) (segment before most : ℕ) (exact : Bool) (old new : S)
    (bytes : List ℕ) : Type 0 where
  pub content : All (λ b. b < 256) bytes
  pub took : GaveUpTo s old new (capacity (mask_at words segment)) (most - before) bytes
  pub whole : exact ≡ true → length bytes ≡ min (capacity (mask_at words segment)) (most - before)
  pub some : (before ≡ 0) ⊎ (1 ≤ length bytes)

-- they were written
pub record NextWritten {T S : Type 0} (t : tapes.Meaning T) (s : sources.Meaning S) (words : List ℕ) (segment before most : ℕ)
    (exact : Bool) (old new : Outside T S (Unit {0})) (read : ℕ) : Type 0 where
  pub bytes : List ℕ
  pub came : Came s words segment before most exact old.source new.source bytes
  pub went : Went t s no_sink old new (segment_act words segment bytes ∷ [])
  pub count : read ≡ length bytes

-- the tape failed as they were written
pub record NextBroken {T S : Type 0} (t : tapes.Meaning T) (s : sources.Meaning S) (words : List ℕ) (segment before most : ℕ) (exact : Bool)
    (old new : Outside T S (Unit {0})) : Type 0 where
  pub bytes : List ℕ
  pub came : Came s words segment before most exact old.source new.source bytes
  pub cut : Cut t s no_sink old new (segment_act words segment bytes ∷ []) TapeFails

-- none came behind some others, and the segment was left
pub record NoneCame {T S : Type 0} (t : tapes.Meaning T) (s : sources.Meaning S) (words : List ℕ) (segment before most : ℕ) (exact : Bool)
    (old new : Outside T S (Unit {0})) : Type 0 where
  pub took : GaveUpTo s old.source new.source (capacity (mask_at words segment)) (most - before) []
  pub whole : exact ≡ true → 0 ≡ min (capacity (mask_at words segment)) (most - before)
  pub behind : 1 ≤ before
  pub went : Went t s no_sink old new []

-- fewer came than an exact number of bytes asks for, and the segment was left
pub record CameShort {T S : Type 0} (t : tapes.Meaning T) (s : sources.Meaning S) (words : List ℕ) (segment before most : ℕ) (exact : Bool)
    (old new : Outside T S (Unit {0})) (read : ℕ) : Type 0 where
  pub bytes : List ℕ
  pub content : All (λ b. b < 256) bytes
  pub took : GaveUpTo s old.source new.source (capacity (mask_at words segment)) (most - before) bytes
  pub is_exact : exact ≡ true
  pub short : length bytes < min (capacity (mask_at words segment)) (most - before)
  pub went : Went t s no_sink old new []
  pub count : read ≡ before + length bytes

abbrev pub NextEnds : {T S : Type 0} (t : tapes.Meaning T) (s : sources.Meaning S) (words : List ℕ) (segment before most : ℕ) (exact : Bool)
    (old new : Outside T S (Unit {0})) → Result (Option ℕ) StoreFault → Type 0
NextEnds t s words segment before most exact old new (Ok (Some read)) = NextWritten t s words segment before most exact old new read
NextEnds t s words segment before most exact old new (Ok None) = NoneCame t s words segment before most exact old new
NextEnds t s words segment before most exact old new (Err (fault.Short promised read)) =
    (promised ≡ most) × CameShort t s words segment before most exact old new read
NextEnds t s words segment before most exact old new (Err fault.Source) =
    GaveWithin s old.source new.source (capacity (mask_at words segment)) (most - before) × Cut t s no_sink old new [] SourceFails
NextEnds t s words segment before most exact old new (Err fault.Tape) = NextBroken t s words segment before most exact old new
NextEnds t s words segment before most exact old new (Err other) = ⊥

-- ---- what is told of a volume that goes on

-- with so many bytes more in a further segment
abbrev pub grown : Written → (segment read : ℕ) → Written
grown written segment read = record {
  bytes = written.bytes + read;
  start = if written.bytes == 0 then segment else written.start;
  end = segment;
}
