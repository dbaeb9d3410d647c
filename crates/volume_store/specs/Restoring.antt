-- How the restoring of a volume ended, or the reading of one piece of it, by the answer of the call (this project's own).
use Rattle.std.specs.Prelude.{◌≡◌, ℕ, [], Option, Some, length, slice_get, None, Bool, Result, Ok, Err}
use Rattle.cartridge_spec.specs.Table.{Entry}
use Rattle.cartridge_spec.specs.Volumes.{volume_length}
use Rattle.command_spec.specs.Restore.{volume_at, Restored, LostIn, MismatchIn, pieces}
use Rattle.qic_base.specs.Acts.{Outside, TapeFails, SinkFails}
use Rattle.qic_base.specs.Alone.{around}
use Rattle.volume_output.specs.Output.{GaveVolume, VolumeCut}
use Rattle.volume_output.specs.declared.extent.Extent.{Extent}
use Rattle.volume_output.specs.Part.{OfPiece, ReadsPiece, LosesPiece, MismatchesPiece}
use Rattle.volume_store.specs.Mounting.{StoreView}
use Rattle.qic_base.specs.declared.store_fault.StoreFault.{StoreFault}
use Rattle.qic_base.specs.Sink as sinks
use Rattle.qic_base.specs.Tape as tapes
use Rattle.qic_base.specs.declared.store_fault.StoreFault.TheVariants as fault

-- there is a volume of this number, and this is so of it
abbrev pub OfVolume : StoreView → (number : ℕ) → (Entry → Type 0) → Type 0
OfVolume store number P = (e : Entry) × (volume_at store.entries number ≡ Some e) × P e

-- The bytes of a volume and the segments in which they lie, by the answer of the call.
abbrev pub FindsVolume : StoreView → (number : ℕ) → Result Extent StoreFault → Type 0
FindsVolume store number (Ok volume) =
    OfVolume store number (λ e. volume ≡ record { start = e.start; end = e.end; bytes = volume_length store.words e })
FindsVolume store number (Err (fault.NoVolume asked count)) =
    (volume_at store.entries number ≡ None) × (asked ≡ number) × (count ≡ length store.entries)
FindsVolume store number (Err fault) = ⊥

-- there is none, and nothing was touched
pub record NoneGiven {T K : Type 0} (store : StoreView) (asked : ℕ) (old new : Outside T (Unit {0}) K) (number count : ℕ) : Type 0 where
  pub none : volume_at store.entries asked ≡ None
  pub named : number ≡ asked
  pub counted : count ≡ length store.entries
  pub tape : new.tape ≡ old.tape
  pub sink : new.sink ≡ old.sink

abbrev pub RestoreEnds : {T K : Type 0} (t : tapes.Meaning T) (k : sinks.Meaning K) (store : StoreView) (number : ℕ) (lined : Bool)
    (old new : Outside T (Unit {0}) K) → Result ℕ StoreFault → Type 0
RestoreEnds t k store number lined old new (Ok bytes) =
    OfVolume store number (λ e. (bytes ≡ volume_length store.words e)
    × GaveVolume t k store.words (pieces store.words e) lined old new Restored)
RestoreEnds t k store number lined old new (Err (fault.NoVolume asked count)) = NoneGiven store number old new asked count
RestoreEnds t k store number lined old new (Err (fault.Lost segment lost)) =
    OfVolume store number (λ e. GaveVolume t k store.words (pieces store.words e) lined old new (LostIn segment lost))
RestoreEnds t k store number lined old new (Err (fault.Mismatch segment)) =
    OfVolume store number (λ e. GaveVolume t k store.words (pieces store.words e) lined old new (MismatchIn segment))
RestoreEnds t k store number lined old new (Err fault.Sink) =
    OfVolume store number (λ e. VolumeCut t k store.words (pieces store.words e) lined old new SinkFails)
RestoreEnds t k store number lined old new (Err fault.Tape) =
    OfVolume store number (λ e. VolumeCut t k store.words (pieces store.words e) lined old new TapeFails)
RestoreEnds t k store number lined old new (Err fault) = ⊥

-- How the reading of one piece of a volume ended: its data sectors then stand in the store. Without such a piece nothing
-- was read.
abbrev pub ReadsPart : {T : Type 0} (t : tapes.Meaning T) (store after : StoreView) (number part : ℕ) (old new : T) →
    Result (Option ℕ) StoreFault → Type 0
ReadsPart t store after number part old new (Ok None) =
    OfVolume store number (λ e. (slice_get (pieces store.words e) part ≡ None) × (new ≡ old))
ReadsPart t store after number part old new (Ok (Some count)) =
    OfVolume store number (λ e. OfPiece (pieces store.words e) part (λ piece. ReadsPiece t store.words piece old new after.part count))
ReadsPart t store after number part old new (Err (fault.NoVolume asked count)) =
    NoneGiven store number (around old (tt {0})) (around new (tt {0})) asked count
ReadsPart t store after number part old new (Err (fault.Lost segment lost)) =
    OfVolume store number (λ e. OfPiece (pieces store.words e) part (λ piece. LosesPiece t store.words piece old new segment lost))
ReadsPart t store after number part old new (Err (fault.Mismatch segment)) =
    OfVolume store number (λ e. OfPiece (pieces store.words e) part (λ piece. MismatchesPiece t store.words piece old new segment))
ReadsPart t store after number part old new (Err fault.Tape) =
    OfVolume store number (λ e. OfPiece (pieces store.words e) part (λ piece. tapes.Broke t old new []))
ReadsPart t store after number part old new (Err fault) = ⊥
