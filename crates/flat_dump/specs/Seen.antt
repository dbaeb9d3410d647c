-- What the reading of sectors saw (this project's own).
use Rattle.std.specs.Prelude.{◌≡◌, ℕ, ◌*◌, ◌<◌, List, [], length, All, Result, Ok, Err, slice_index_or}
use Rattle.std.specs.List.{flat_map}
use Rattle.qic_base.specs.CartridgeTerms.{IsView}
use Rattle.qic_base.specs.Cartridge.{view_at}
use Rattle.qic_base.specs.declared.tape.SectorView.{SectorView}
use Rattle.qic_base.specs.declared.tape.SectorView.TheVariants.{Blank}
use Rattle.qic_base.specs.Sink as sinks
use Rattle.qic_base.specs.Tape as tapes
use Rattle.qic_base.specs.TapeCalls as tape_calls
use Rattle.flat_dump.specs.declared.exporting.ExportError.{ExportError}
use Rattle.flat_dump.specs.declared.exporting.ExportError.TheVariants as error
use Rattle.flat_dump.specs.Dump.{views_bytes}
use Rattle.flat_dump.specs.Export.{TapeBroke, SinkBroke}
use Rattle.flat_dump.specs.Held.{held_word, held_words}

-- the sectors of a segment, and the word of those that hold bytes: as the tape tells it, where it does
pub record AreSeen {T : Type 0} (t : tapes.Meaning T) (tape : T) (segment : ℕ) (sectors : List (List ℕ)) (word : ℕ) : Type 0 where
  pub views : List SectorView
  pub each : All IsView views
  pub size : length views ≡ 32
  pub told : tape_calls.Tells t tape (λ c. (k : ℕ) → k < 32 → slice_index_or views k Blank ≡ view_at c segment k)
  pub shown : flat_map (λ bytes. bytes) sectors ≡ views_bytes views
  pub masked : word ≡ held_word views

-- the first segments, so many of them, and their mask
pub record SegmentsSeen {T : Type 0} (t : tapes.Meaning T) (tape : T) (count : ℕ) (text mask : List ℕ) : Type 0 where
  pub views : List SectorView
  pub each : All IsView views
  pub size : length views ≡ 32 * count
  pub told : tape_calls.Tells t tape (λ c. (q : ℕ) → q < 32 * count → slice_index_or views q Blank ≡ slice_index_or c.views q Blank)
  pub shown : text ≡ views_bytes views
  pub masked : mask ≡ held_words count views

-- All segments were read and written.
pub record Dumped {T K : Type 0} (t : tapes.Meaning T) (k : sinks.Meaning K) (old new : T) (from to : K) (n : ℕ)
    (mask : List ℕ) : Type 0 where
  pub did : tapes.Done t old new []
  pub text : List ℕ
  pub seen : SegmentsSeen t old (28 * n) text mask
  pub wrote : sinks.Wrote k from to text

-- how the writing of all segments ended, with n of them per track
abbrev pub Dumps : {T K : Type 0} (t : tapes.Meaning T) (k : sinks.Meaning K) (old new : T) (from to : K) (n : ℕ) (mask : List ℕ) →
    Result (Unit {0}) ExportError → Type 0
Dumps t k old new from to n mask (Ok done) = Dumped t k old new from to n mask
Dumps t k old new from to n mask (Err error.NoCartridge) = ⊥
Dumps t k old new from to n mask (Err error.Tape) = TapeBroke t k old new from to
Dumps t k old new from to n mask (Err error.Sink) = SinkBroke t k old new from to
