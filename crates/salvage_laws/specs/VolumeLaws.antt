-- The laws of a volume of an exported cartridge, as facts (this project's own).
use Rattle.std.specs.Prelude.{ℕ, ◌≡◌, ◌⊎◌, Bool, false, List, [], ◌∷◌, take, All, if◌then◌else◌, Option, Some, None}
use Rattle.cartridge_spec.specs.Header.{Header}
use Rattle.cartridge_spec.specs.Table.{Entry}
use Rattle.cartridge_spec.specs.TableSegment.{CanBeRead}
use Rattle.cartridge_spec.specs.Volumes.{Plain, Stands, Volume, VolumeStands, bytes_in, capacity_between, carrying_segments, entries_of}
use Rattle.cartridge_spec.specs.Volumes.{volume_bytes, volume_length}
use Rattle.command_spec.specs.Restore.{LosesFew, pieces, pieces_of, volume_at}
use Rattle.qic_base.specs.Cartridge.{Cartridge, IsSector}
use Rattle.qic_base.specs.CartridgeTerms.{IsCartridge}
use Rattle.dump_spec.specs.Answers.{Answer, Answers, output_answer, sure_refusal}
use Rattle.dump_spec.specs.Output.{Output}
use Rattle.dump_spec.specs.declared.asked.Command.TheVariants as commands
use Rattle.dump_spec.specs.declared.mark.Mark.{Mark}
use Rattle.dump_spec.specs.declared.mark.Mark.TheVariants.{Filled}
use Rattle.salvage_laws.specs.Exported.{exported, plainly, IsReadAs, IsUncompressed}

-- ---- what is told of a volume

-- As many bytes and marks as these bytes: each is the one that is told, or is a zero byte with the mark of a filled one.
abbrev pub Tell : (bytes : List ℕ) → List Mark → (told : List ℕ) → Type 0
Tell [] [] [] = Unit {0}
Tell (b ∷ bytes) (mark ∷ marks) (t ∷ told) = ((b ≡ t) ⊎ ((mark ≡ Filled) × (b ≡ 0))) × Tell bytes marks told
Tell bytes marks told = ⊥

-- an output of bytes was answered, with these marks, and so it tells these
pub record Tells (told : List ℕ) (answer : Answer) : Type 0 where
  pub output : Output
  pub warned : Bool
  pub is : answer ≡ output_answer warned output
  pub tell : Tell output.bytes output.marks told

-- the length in bytes that is asked for: that of the volume, or all that its segments carry
abbrev pub asked_length : (words : List ℕ) → (whole : Bool) → Entry → ℕ
asked_length words whole e = if whole then capacity_between words e.start e.end else volume_length words e

-- the bytes that are asked for: where the volume is not asked for whole they are its bytes
abbrev pub asked_bytes : (words : List ℕ) → (whole : Bool) → Volume → List ℕ
asked_bytes words whole volume = take (asked_length words whole volume.entry) (bytes_in volume.area)

-- ---- a volume of a cartridge that mounts

-- The volume with this number is on the cartridge, each of its segments written with its part, whatever was lost since.
pub record HasVolume (c : Cartridge) (words : List ℕ) (entries : List Entry) (number : ℕ) (volume : Volume) : Type 0 where
  pub numbered : volume_at entries number ≡ Some volume.entry
  pub stands : VolumeStands c words volume
  pub sectors : All IsSector volume.area

-- it has its length, and each byte that is not filled is its own
abbrev pub VolumeAgrees : Type 0
VolumeAgrees =
    (c : Cartridge) (header : Header) (words : List ℕ) (table : List (List ℕ)) (entries : List Entry) (number : ℕ) (whole : Bool)
    (volume : Volume) (sure : Option (List ℕ)) (answer : Answer) → IsReadAs c header words table entries →
    HasVolume c words entries number volume → sure_refusal sure ≡ None →
    Answers (exported c sure) (plainly (commands.Volume number whole)) answer → Tells (asked_bytes words whole volume) answer

-- byte for byte, where no segment that holds some of these bytes lost more than three sectors
abbrev pub VolumeComesWhole : Type 0
VolumeComesWhole =
    (c : Cartridge) (header : Header) (words : List ℕ) (table : List (List ℕ)) (entries : List Entry) (number : ℕ) (whole : Bool)
    (volume : Volume) (sure : Option (List ℕ)) (answer : Answer) → IsReadAs c header words table entries →
    HasVolume c words entries number volume →
    All (LosesFew c words) (pieces_of words (carrying_segments words volume.entry) (asked_length words whole volume.entry)) →
    sure_refusal sure ≡ None → Answers (exported c sure) (plainly (commands.Volume number whole)) answer →
    answer.printed ≡ asked_bytes words whole volume

-- ---- a volume of a cartridge that stands for a plain one

abbrev pub StandingVolumeAgrees : Type 0
StandingVolumeAgrees =
    (c : Cartridge) (plain : Plain) (number : ℕ) (volume : Volume) (sure : Option (List ℕ)) (answer : Answer) → IsCartridge c →
    Stands c plain → CanBeRead c → IsUncompressed plain.table_area (entries_of plain) → volume_at plain.volumes number ≡ Some volume →
    sure_refusal sure ≡ None → Answers (exported c sure) (plainly (commands.Volume number false)) answer →
    Tells (volume_bytes plain.words volume) answer

-- just what a restore gives of it
abbrev pub StandingVolumeComesWhole : Type 0
StandingVolumeComesWhole =
    (c : Cartridge) (plain : Plain) (number : ℕ) (volume : Volume) (sure : Option (List ℕ)) (answer : Answer) → IsCartridge c →
    Stands c plain → CanBeRead c → IsUncompressed plain.table_area (entries_of plain) → volume_at plain.volumes number ≡ Some volume →
    All (LosesFew c plain.words) (pieces plain.words volume.entry) → sure_refusal sure ≡ None →
    Answers (exported c sure) (plainly (commands.Volume number false)) answer →
    answer.printed ≡ volume_bytes plain.words volume
