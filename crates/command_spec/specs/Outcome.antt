-- The outcome of a command, and how the opening of a cartridge ends (this project's own).
use Rattle.std.specs.Prelude.{ℕ, List, ◌≡◌, Option, Some, None, ◌⊎◌, true, false, [], ◌==◌, ◌&&◌, nat_lt, Bool, not, ◌∷◌}
use Rattle.cartridge_spec.specs.Header.{Header}
use Rattle.cartridge_spec.specs.Mounting.{Mounting, Mounts}
use Rattle.cartridge_spec.specs.Settling.{settling_steps}
use Rattle.cartridge_spec.specs.Table.{Entry}
use Rattle.command_spec.specs.declared.status.Status.{Status}
use Rattle.qic_base.specs.Acts.{Act, text_of}
use Rattle.qic_base.specs.Cartridge.{Cartridge, IsPlace}
use Rattle.qic_base.specs.Step.{Step}
use Rattle.qic_base.specs.declared.foreign.ForeignField.{ForeignField}
use Rattle.qic_base.specs.declared.foreign.ForeignField.TheVariants.{FormatCode, FirstHeader, SecondHeader, FirstData, LastData}
use Rattle.qic_base.specs.declared.foreign.ForeignField.TheVariants.{SegmentsPerTrack, Tracks, TrackMaximum}
use Rattle.qic_base.specs.declared.foreign.ForeignField.TheVariants.{SectorMaximum, Map, Slot, Range}
use Rattle.command_spec.specs.declared.status.Status.TheVariants as status
use Rattle.cartridge_spec.specs.Mounting as mounting

-- the cartridge has it
abbrev pub HasPlace : Cartridge → (segment sector : ℕ) → Type 0
HasPlace c segment sector = IsPlace c.info.segments_per_track segment sector

-- ---- the plain machine

-- the acts of a command, how many bytes of its input it took, and its answer
pub record CommandOutcome : Type 0 where
  pub acts : List Act
  pub taken : ℕ
  pub status : Status

-- what a command does on a cartridge that is mounted with this header, these words, these data of the table and these volumes
abbrev pub Going : Type 1
Going = Cartridge → Header → (words : List ℕ) → (table : List (List ℕ)) → List Entry → CommandOutcome → Type 0

-- nothing was done but to answer
abbrev pub refused : Status → CommandOutcome
refused why = record { acts = []; taken = 0; status = why }

-- what it does by what the mounting gives
abbrev pub Opened : Going → Cartridge → Mounting → CommandOutcome → Type 0
Opened goes c mounting.NotFormatted outcome = outcome ≡ refused status.NotFormatted
Opened goes c (mounting.Foreign fault) outcome = outcome ≡ refused (status.Foreign fault.field fault.value)
Opened goes c (mounting.TableLost lost) outcome = outcome ≡ refused (status.Lost 2 lost)
Opened goes c mounting.TableMismatch outcome = outcome ≡ refused status.TableMismatch
Opened goes c (mounting.Mounted header words table entries) outcome = goes c header words table entries outcome

-- what it does by what the drive holds: without a cartridge it is refused
abbrev pub HeldOutcome : (Cartridge → CommandOutcome → Type 0) → Option Cartridge → CommandOutcome → Type 0
HeldOutcome Does None outcome = outcome ≡ refused status.NoCartridge
HeldOutcome Does (Some c) outcome = Does c outcome

-- and by what the mounting of that gives
abbrev pub OpenOutcome : Going → Option Cartridge → CommandOutcome → Type 0
OpenOutcome goes = HeldOutcome (λ c outcome. (m : Mounting) × Mounts c m × Opened goes c m outcome)

-- what a command does that writes on the cartridge: a protected one is refused, whether it mounts or not
abbrev pub WritableOutcome : Going → Option Cartridge → CommandOutcome → Type 0
WritableOutcome goes = HeldOutcome (λ c outcome. ((c.info.protected ≡ true) × (outcome ≡ refused status.Protected))
    ⊎ ((c.info.protected ≡ false) × OpenOutcome goes (Some c) outcome))

-- the act with which each begins: the table is settled
abbrev pub settling_act : (table : List (List ℕ)) → Cartridge → Act
settling_act table c = record { steps = settling_steps table c; text = [] }

-- one act was done
abbrev pub acted : List Step → (text : List ℕ) → CommandOutcome
acted steps text = record { acts = record { steps = steps; text = text } ∷ []; taken = 0; status = status.Done }

-- a command that prints this of the header, the words of its map and the volumes, once the cartridge is open
abbrev pub Shows : (prints : Header → (words : List ℕ) → List Entry → List ℕ) → Going
Shows prints c header words table entries outcome = outcome ≡ acted (settling_steps table c) (prints header words entries)

-- a field of one byte or of two, which can have so many values, has another than this
abbrev pub is_other : (values right value : ℕ) → Bool
is_other values right value = nat_lt value values && not (value == right)

-- A drive that reports some number of segments per track refuses such a value of this field, which has one byte or two. Two fields go
-- by that number, so that each value of theirs is refused by some; of the map the value is a segment in front, of the table a slot's
-- number.
abbrev pub is_refused : ForeignField → (value : ℕ) → Bool
is_refused FormatCode value = is_other 256 2 value
is_refused FirstHeader value = is_other 65536 0 value
is_refused SecondHeader value = is_other 65536 1 value
is_refused FirstData value = is_other 65536 2 value
is_refused LastData value = nat_lt value 65536
is_refused SegmentsPerTrack value = nat_lt value 65536
is_refused Tracks value = is_other 256 28 value
is_refused TrackMaximum value = is_other 256 149 value
is_refused SectorMaximum value = is_other 256 128 value
is_refused Map value = nat_lt value 3
is_refused Slot value = nat_lt value 232
is_refused Range value = nat_lt value 232

-- nothing was printed, and this answered behind some steps
abbrev pub refused_behind : List Step → Status → CommandOutcome
refused_behind steps why = record { acts = record { steps = steps; text = [] } ∷ []; taken = 0; status = why }

-- one step was done, and this printed
abbrev pub carried_out : Step → (text : List ℕ) → CommandOutcome
carried_out step text = acted (step ∷ []) text

-- .. over a cartridge that is there, with a text by what it was
abbrev pub StepOutcome : Step → (text : Cartridge → List ℕ) → Option Cartridge → CommandOutcome → Type 0
StepOutcome step text = HeldOutcome (λ c outcome. outcome ≡ carried_out step (text c))

-- all that is printed
abbrev pub output_of : CommandOutcome → List ℕ
output_of outcome = text_of outcome.acts
