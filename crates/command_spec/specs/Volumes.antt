-- What a run leaves of the plain cartridge that a cartridge stands for, with its header and its volumes, of the list that it
-- is mounted with, and of the sectors of its table's segment (this project's own).
use Rattle.std.specs.Prelude.{sum_by, ◌≡◌, ℕ, List, Option, Some, IsSomeAnd, ◌⊎◌, IfSome, ◌<◌, All, ◌≢◌, false, take}
use Rattle.cartridge_spec.specs.Volumes.{volume_bytes, Plain, Stands, Volume}
use Rattle.cartridge_spec.specs.Appending.{with_bytes}
use Rattle.cartridge_spec.specs.Formatting.{IsFreshFor, fresh_plain, StandsCleanly, HasNoHeader}
use Rattle.cartridge_spec.specs.HeaderCopies.{IsUnformatted}
use Rattle.cartridge_spec.specs.TableSegment.{IsTableLive}
use Rattle.cartridge_spec.specs.Says.{unreadable_count}
use Rattle.command_spec.specs.Command.{Command}
use Rattle.command_spec.specs.Commands.{command_of}
use Rattle.command_spec.specs.Headline.{ToldNow}
use Rattle.command_spec.specs.Machine.{Spells, is_fault, fault_of}
use Rattle.command_spec.specs.Restore.{FirstLost, pieces_in, LosesFew, piece_cells}
use Rattle.command_spec.specs.declared.status.Status.{Status}
use Rattle.command_spec.specs.declared.words.Words.{Words}
use Rattle.qic_base.specs.Acts.{Failing, TookFront}
use Rattle.qic_base.specs.Cartridge.{Cartridge, new_cartridge}
use Rattle.qic_base.specs.Source.{IsInput}
use Rattle.command_spec.specs.declared.words.Words.TheVariants as commands
use Rattle.qic_base.specs.Tape as tapes
use Rattle.command_spec.specs.declared.status.Status.TheVariants as status
use Rattle.qic_base.specs.Sink as sinks

-- ---- what a command keeps

-- A fact of a cartridge that held before holds of what is left, where the words are those of a command that keeps it.
abbrev pub StillHolds : List (List ℕ) → (keeps : Command → Cartridge → Type 0) → (Holds : Cartridge → Type 0) →
    (held left : Option Cartridge) → Type 0
StillHolds words keeps Holds held left =
    (c : Cartridge) → held ≡ Some c → Holds c →
    ((command : Words) → Spells words command → keeps (command_of command) c) → IsSomeAnd left Holds

-- ---- formatting

-- A cartridge stands so for the empty plain one with the label and the date word, whose map marks the defects of the old
-- cartridge, none of them in the segments 0 to 2; and each sector of its table's segment takes a write, so that an append may
-- be stopped. Where it stands with clean header copies, a next formatting may be stopped, too.
pub record StandsEmpty (StandsSo : Cartridge → Plain → Type 0) (c : Cartridge) (label : List ℕ) (date : ℕ) (d : Cartridge) : Type 0 where
  pub words : List ℕ
  pub area : List (List ℕ)
  pub fresh : IsFreshFor c label date words area
  pub stands : StandsSo d (fresh_plain c label date words area)
  pub live : IsTableLive d

-- What words of formatting leave of a cartridge that stood for a plain one, with clean header copies: it stands for that so,
-- or is unformatted, or stands for the empty one. Where both header copies were bare, it is unformatted or stands for the
-- empty one. Behind a stop while they are written, header copies may be neither clean nor bare.
pub record FormatsOrNot (words : List (List ℕ)) (held left : Option Cartridge) : Type 0 where
  pub standing : (label : List ℕ) (date : ℕ) (c : Cartridge) (plain : Plain) → Spells words (commands.Format label date) →
      held ≡ Some c → StandsCleanly c plain →
      IsSomeAnd left (λ d. StandsCleanly d plain ⊎ IsUnformatted d ⊎ StandsEmpty Stands c label date d)
  pub bare : (label : List ℕ) (date : ℕ) (c : Cartridge) → Spells words (commands.Format label date) →
      held ≡ Some c → HasNoHeader c → IsSomeAnd left (λ d. IsUnformatted d ⊎ StandsEmpty Stands c label date d)

-- ---- appending

-- the volumes of a plain cartridge, and one of the input behind them
pub record StandsAppended (told : Option (List ℕ)) (name : List ℕ) (date : ℕ) (c : Cartridge) (plain : Plain) (d : Cartridge) : Type 0 where
  pub input : List ℕ
  pub is_told : IsInput told input
  pub stands : Stands d (with_bytes plain name date input)

-- an input that is told is one of bytes
abbrev pub TellsBytes : (told : Option (List ℕ)) → Type 0
TellsBytes told = IfSome told (λ bytes. All (λ b. b < 256) bytes)

-- What words of appending leave of a cartridge that stood for a plain one, each sector of whose table's segment takes a
-- write: it stands for that, or for that with the volume of the input.
abbrev pub AppendedOrNot : (told : Option (List ℕ)) → (words : List (List ℕ)) → (held left : Option Cartridge) → Type 0
AppendedOrNot told words held left =
    (name : List ℕ) (date : ℕ) (c : Cartridge) (plain : Plain) → Spells words (commands.Append name date) → held ≡ Some c →
    TellsBytes told → Stands c plain → IsTableLive c → IsSomeAnd left (λ d. Stands d plain ⊎ StandsAppended told name date c plain d)

-- ---- restoring

-- What words of restoring print of a volume: just its bytes, where no segment that holds some of them has lost more than
-- three sectors; and else those of the segments before the first that has, which is named with the number of its lost ones.
-- Behind a fault it is a front of the bytes.
pub record GivesBack {K : Type 0} (k : sinks.Meaning K) (c : Cartridge) (plain : Plain) (volume : Volume) (before behind : K)
    (answer : Status) : Type 0 where
  pub whole : is_fault answer ≡ false → answer ≢ status.NoMemory → All (LosesFew c plain.words) (pieces_in plain volume) →
      (answer ≡ status.Done) × k.took before (volume_bytes plain.words volume) behind
  pub lost : (first : FirstLost c plain.words (pieces_in plain volume)) → is_fault answer ≡ false → answer ≢ status.NoMemory →
      (answer ≡ status.Lost first.piece.segment (unreadable_count (piece_cells c plain.words first.piece)))
      × k.took before (take (sum_by (λ piece. piece.count) first.front) (volume_bytes plain.words volume)) behind
  pub broken : (failing : Failing) → answer ≡ fault_of failing → TookFront k before behind (volume_bytes plain.words volume)

-- ---- when a run is over

-- the command was carried out, though its output may be cut off
abbrev pub IsCarriedOut : Status → Type 0
IsCarriedOut answer = (answer ≡ status.Done) ⊎ (answer ≡ status.SinkFault)

-- What stands when a run is over: behind `new` the new cartridge, behind `format` the empty one; where a defect in front
-- was answered, a bare one. Behind `append` of a cartridge that stands for a plain one that with the volume of the input, and
-- where it was refused, or the input failed, what stood.
pub record IsChanged {T : Type 0} (t : tapes.Meaning T) (told : Option (List ℕ)) (words : List (List ℕ)) (old new : T)
    (answer : Status) : Type 0 where
  pub renewed : (segments : ℕ) (held : Option Cartridge) → IsCarriedOut answer → Spells words (commands.New segments) →
      t.told old ≡ Some held → ToldNow t new (λ left. left ≡ Some (new_cartridge segments))
  pub formatted : (label : List ℕ) (date : ℕ) (c : Cartridge) → IsCarriedOut answer → Spells words (commands.Format label date) →
      t.told old ≡ Some (Some c) → ToldNow t new (λ left. IsSomeAnd left (StandsEmpty StandsCleanly c label date))
  pub cleared : (label : List ℕ) (date segment : ℕ) (c : Cartridge) → answer ≡ status.DefectInFront segment →
      Spells words (commands.Format label date) → t.told old ≡ Some (Some c) →
      ToldNow t new (λ left. IsSomeAnd left (λ d. HasNoHeader d × IsUnformatted d))
  pub appended : (name : List ℕ) (date : ℕ) (c : Cartridge) (plain : Plain) → IsCarriedOut answer →
      Spells words (commands.Append name date) →
      t.told old ≡ Some (Some c) → TellsBytes told → Stands c plain →
      ToldNow t new (λ left. IsSomeAnd left (StandsAppended told name date c plain))
  pub unchanged : (name : List ℕ) (date : ℕ) (c : Cartridge) (plain : Plain) → answer ≢ status.Done → answer ≢ status.SinkFault →
      answer ≢ status.TapeFault → Spells words (commands.Append name date) → t.told old ≡ Some (Some c) → Stands c plain →
      ToldNow t new (λ left. IsSomeAnd left (λ d. Stands d plain))
