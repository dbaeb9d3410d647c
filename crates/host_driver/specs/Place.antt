-- Where the tape stands (this project's profile of QIC-117).
use Rattle.std.specs.Prelude.{◌≡◌, ℕ, ◌+◌, ◌<◌, ◌≤◌, ◌==◌, ◌&&◌, Bool, if◌then◌else◌}
use Rattle.drive_spec.specs.declared.deck.Deck.{Deck}
use Rattle.drive_spec.specs.declared.deck.Motion.TheVariants.{Stopped, Streaming}
use Rattle.drive_spec.specs.Deck.{segments_per_track, is_streaming}
use Rattle.drive_spec.specs.Terms.{run_on}
use Rattle.drive_states.specs.Reach.{segment_of}

-- the tape streams at a segment, of which the head has yet to reach the sectors from `next` on
pub record StreamsAt (segment next : ℕ) (d : Deck) : Type 0 where
  pub motion : d.motion ≡ Streaming next
  pub here : segment ≡ segment_of d

-- the tape streams at the segment before the one with this offset, on its track
abbrev pub streams_before : ℕ → ℕ → Deck → Bool
streams_before track offset d = is_streaming d.motion && d.track == track && d.offset + 1 == offset

-- the cartridge and the mode are what they were
pub record KeepsMode (old new : Deck) : Type 0 where
  pub cartridge : new.cartridge ≡ old.cartridge
  pub mode : new.mode ≡ old.mode

-- the tape stands before the segment with an offset on a track, or behind the last
pub record StandsAt (track offset : ℕ) (d : Deck) : Type 0 where
  pub motion : d.motion ≡ Stopped
  pub on_track : d.track ≡ track
  pub at_offset : d.offset ≡ offset

-- the tape has run on from a segment: it streams at the next one of its track, or stands behind the last
pub record RunsOn (old new : Deck) : Type 0 where
  pub within : old.offset + 1 < segments_per_track old → StreamsAt (segment_of old + 1) 0 new
  pub end : segments_per_track old ≤ old.offset + 1 → new.motion ≡ Stopped

-- an empty gap moves the tape on where it streams
abbrev pub idled_deck : Deck → Deck
idled_deck d = if is_streaming d.motion then run_on d else d
