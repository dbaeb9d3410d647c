-- How the bytes of a source went into the segments of a volume (this project's own).
use Rattle.std.specs.Prelude.{◌≡◌, ℕ, ◌-◌, ◌<◌, ◌≤◌, Bool, true, List, length, drop, All, slice_index, IfNone, Result, Ok, Err}
use Rattle.std.specs.Option.{option_map}
use Rattle.cartridge_spec.specs.Appending.{taken_by}
use Rattle.command_spec.specs.Append.{volume_acts, filled_acts, input_acts}
use Rattle.qic_base.specs.Acts.{Outside, Went, Failing, Cut, TapeFails, SourceFails}
use Rattle.qic_base.specs.Alone.{no_sink}
use Rattle.qic_base.specs.SourceCalls.{Gave, HasEnded}
use Rattle.qic_base.specs.declared.store_fault.StoreFault.{StoreFault}
use Rattle.volume_input.specs.declared.written.Written.{Written}
use Rattle.qic_base.specs.Source.{IsInput}
use Rattle.qic_base.specs.Source as sources
use Rattle.qic_base.specs.Tape as tapes
use Rattle.qic_base.specs.declared.store_fault.StoreFault.TheVariants as fault

-- ---- how it ended

-- The source gave these bytes, as many as were wanted, or fewer where it has ended; they were written.
pub record HasWritten {T S : Type 0} (t : tapes.Meaning T) (s : sources.Meaning S) (words segments : List ℕ) (most : ℕ) (exact : Bool)
    (old new : Outside T S (Unit {0})) (written : Written) : Type 0 where
  pub bytes : List ℕ
  pub content : All (λ b. b < 256) bytes
  pub gave : Gave s old.source new.source bytes
  pub within : length bytes ≤ most
  pub ended : length bytes < most → HasEnded s new.source
  pub whole : exact ≡ true → length bytes ≡ most
  pub went : Went t s no_sink old new (volume_acts words segments bytes)
  -- what is told of them: their number, and the first and the last segment that they take
  pub count : written.bytes ≡ length bytes
  pub start : written.start ≡ slice_index (taken_by words (length bytes) segments) 0
  pub end : written.end ≡ slice_index (taken_by words (length bytes) segments) (length (taken_by words (length bytes) segments) - 1)

-- It ended before just as many bytes as were wanted; the segments that they fill were written.
pub record EndedShort {T S : Type 0} (t : tapes.Meaning T) (s : sources.Meaning S) (words segments : List ℕ) (most : ℕ) (exact : Bool)
    (old new : Outside T S (Unit {0})) (read : ℕ) : Type 0 where
  pub bytes : List ℕ
  pub content : All (λ b. b < 256) bytes
  pub gave : Gave s old.source new.source bytes
  pub ended : HasEnded s new.source
  pub is_exact : exact ≡ true
  pub short : length bytes < most
  pub went : Went t s no_sink old new (filled_acts words segments bytes)
  pub count : read ≡ length bytes

-- A fault of the tape or of the source cut that off, over the input that the source told, or some input where it tells none. Of that
-- no more bytes were taken than are wanted.
pub record InputCut {T S : Type 0} (t : tapes.Meaning T) (s : sources.Meaning S) (words segments : List ℕ) (most : ℕ) (exact : Bool)
    (old new : Outside T S (Unit {0})) (failing : Failing) : Type 0 where
  pub input : List ℕ
  pub is_told : IsInput (s.left old.source) input
  pub content : IfNone (s.left old.source) (All (λ b. b < 256) input)
  pub cut : Cut t s no_sink old new (input_acts words segments most exact input) failing
  pub taken : ℕ
  pub left : s.left new.source ≡ option_map (drop taken) (s.left old.source)
  pub there : taken ≤ length input
  pub few : taken ≤ most

abbrev pub InputEnds : {T S : Type 0} (t : tapes.Meaning T) (s : sources.Meaning S) (words segments : List ℕ) (most : ℕ) (exact : Bool)
    (old new : Outside T S (Unit {0})) → Result Written StoreFault → Type 0
InputEnds t s words segments most exact old new (Ok written) = HasWritten t s words segments most exact old new written
InputEnds t s words segments most exact old new (Err (fault.Short promised read)) =
    (promised ≡ most) × EndedShort t s words segments most exact old new read
InputEnds t s words segments most exact old new (Err fault.Source) = InputCut t s words segments most exact old new SourceFails
InputEnds t s words segments most exact old new (Err fault.Tape) = InputCut t s words segments most exact old new TapeFails
InputEnds t s words segments most exact old new (Err other) = ⊥
