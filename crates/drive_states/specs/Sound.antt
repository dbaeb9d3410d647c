-- What is true of every drive: the bounds of its record (this project's profile of QIC-117).
use Rattle.std.specs.Prelude.{◌≡◌, ℕ, ◌^◌, ◌<◌, ◌≤◌, true, false, [], ◌∷◌, Option, Some, None, is_some}
use Rattle.qic_base.specs.Cartridge.{IsLength}
use Rattle.qic_base.specs.declared.tape.TapeInfo.{TapeInfo}
use Rattle.qic117_commands.specs.declared.command.Command.{Command}
use Rattle.qic117_commands.specs.declared.command.Command.TheVariants.{SeekTrack, SkipReverse, SkipForward, SetFormatSegments}
use Rattle.qic117_commands.specs.declared.view.Mode.TheVariants.{Primary}
use Rattle.qic117_commands.specs.Views.{is_primary}
use Rattle.drive_spec.specs.declared.deck.Deck.{Deck}
use Rattle.drive_spec.specs.declared.deck.Motion.{Motion}
use Rattle.drive_spec.specs.declared.deck.Motion.TheVariants.{Stopped, Streaming, Seeking}
use Rattle.drive_spec.specs.declared.under_way.UnderWay.{UnderWay}
use Rattle.drive_spec.specs.declared.under_way.UnderWay.TheVariants.{Nothing, Report, Awaited}
use Rattle.drive_spec.specs.Deck.{segments_per_track, limit, is_streaming}
use Rattle.drive_spec.specs.Terms.{refusal_of}
use Rattle.drive_spec.specs.Record.{Record}
use Rattle.drive_spec.specs.Parameters.{parameter_trains}

-- a cartridge that is present has 3 segments per track or more, up to the greatest number
abbrev pub HasLength : Option TapeInfo → Type 0
HasLength None = Unit {0}
HasLength (Some info) = IsLength info.segments_per_track

-- a tape that streams is before the limit of its track, in a segment of 32 sectors; a seek takes 160 gaps at most
abbrev pub IsInMotion : (limit : ℕ) (offset : ℕ) → Motion → Type 0
IsInMotion limit offset Stopped = Unit {0}
IsInMotion limit offset (Streaming next) = (offset < limit) × (next ≤ 32)
IsInMotion limit offset (Seeking left) = (1 ≤ left) × (left ≤ 160)

-- at the load point the drive is in Primary mode, before the first segment, and does not stream
pub record IsAtLoadPoint (d : Deck) : Type 0 where
  pub primary : d.mode ≡ Primary
  pub track : d.track ≡ 0
  pub offset : d.offset ≡ 0
  pub still : is_streaming d.motion ≡ false

pub record IsSound (d : Deck) : Type 0 where
  pub long : HasLength d.cartridge
  -- another mode than Primary is entered with a cartridge alone
  pub present : is_primary d.mode ≡ false → is_some d.cartridge ≡ true
  pub load_point : d.at_load_point ≡ true → IsAtLoadPoint d
  pub track : d.track < 28
  pub offset : d.offset ≤ segments_per_track d
  pub motion : IsInMotion (limit d) d.offset d.motion
  pub format_segments : d.format_segments < 4096

-- a whole parameter: a track, or two nibbles, or three
abbrev pub IsParameter : Command → ℕ → Type 0
IsParameter SeekTrack track = track < 28
IsParameter SkipReverse count = count < 256
IsParameter SkipForward count = count < 256
IsParameter SetFormatSegments count = count < 4096
IsParameter command parameter = Unit {0}

-- a report has more to show; a parameter's command was accepted, it is not whole, and its nibbles are what was sent
abbrev pub IsUnderWay : Deck → UnderWay → Type 0
IsUnderWay d Nothing = Unit {0}
IsUnderWay d (Report []) = ⊥
IsUnderWay d (Report (level ∷ rest)) = Unit {0}
IsUnderWay d (Awaited a) =
    (refusal_of d a.command ≡ None) × (a.taken < parameter_trains a.command) × (a.value < 16 ^ a.taken)

pub record IsSoundRecord (r : Record) : Type 0 where
  pub deck : IsSound r.deck
  pub train : r.train ≤ 255
  pub under_way : IsUnderWay r.deck r.under_way
