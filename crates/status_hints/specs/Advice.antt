-- What is advised after a status (this project's own).
use Rattle.std.specs.Prelude.{ℕ, Bool, ◌==◌, List, [], ◌++◌, codes, decimal, Option, Some, None, if◌then◌else◌}
use Rattle.command_spec.specs.declared.status.Status.{Status}
use Rattle.command_spec.specs.declared.status.Status.TheVariants as status
use Rattle.qic_base.specs.declared.foreign.ForeignField.TheVariants.{Range, Slot}
use Rattle.status_hints.specs.declared.advice.Parts.{Parts}

-- a text, with a number in it or without
pub record Text : Type 0 where
  pub before : List ℕ
  pub number : Option ℕ
  pub after : List ℕ

abbrev pub plainly : (text : List ℕ) → Text
plainly text = record { before = text; number = None; after = [] }

abbrev pub with_number : (before : List ℕ) (number : ℕ) (after : List ℕ) → Text
with_number before number after = record { before = before; number = Some number; after = after }

abbrev pub seen : Parts → Text
seen parts = record { before = parts.before.now; number = parts.number; after = parts.after.now }

abbrev pub digits : Option ℕ → List ℕ
digits None = []
digits (Some number) = decimal number

abbrev pub advised : Text → List ℕ
advised text = text.before ++ digits text.number ++ text.after

-- what is advised; nothing after that of a command that was carried out, or of words that are no command
abbrev pub advice : Status → (restores : Bool) → Text
advice status.Done restores = plainly []
advice status.Usage restores = plainly []
advice (status.ScriptFault line place) restores = plainly (codes "the line is not valid; those before it were carried out")
advice status.NoCartridge restores = plainly (codes "it holds no cartridge, or a 'new' or an import was interrupted; check the path")
advice status.Protected restores = plainly (codes "write-protected; 'protect off' clears the mark")
advice status.NotFormatted restores =
    plainly (codes "no header can be read: if this cartridge was ever in use, do not format it; run check")
advice (status.Foreign Slot value) restores =
    plainly (codes "the volume table has an invalid entry; run check, and see EXIT STATUS 7 in man tape")
advice (status.Foreign Range value) restores =
    plainly (codes "the volume table has an invalid entry; run check, and see EXIT STATUS 7 in man tape")
advice (status.Foreign field value) restores =
    plainly (codes "another layout, or damage: keep the image; tape_export and tape_salvage can read it")
advice status.TableMismatch restores =
    plainly (codes "the volume table is corrupt: keep the image, and see EXIT STATUS 8 in man tape")
advice (status.Full need have) restores =
    if have == 0 then plainly (codes "there is no room for another volume")
    else with_number (codes "there is room for a volume of ") have (codes " bytes")
advice (status.NoVolume number count) restores = plainly (codes "'list' shows the volumes")
advice (status.Lost segment lost) restores =
    if segment == 2 then plainly (codes "the volume table can't be read: keep the image, and see EXIT STATUS 11 in man tape")
    else if restores
    then with_number (codes "the output is incomplete: it ends before segment ") segment (codes "; tape_salvage gives what is left")
    else with_number (codes "segment ") segment (codes " can't be read: parity recovers at most 3 lost sectors")
advice (status.Mismatch segment) restores =
    if restores
    then with_number (codes "the output is incomplete: it ends before segment ") segment (codes "; try 'scrub deep' on a copy")
    else with_number (codes "segment ") segment (codes " contradicts its parity; try 'scrub deep' on a copy")
advice (status.DefectInFront segment) restores = plainly (codes "it can't be formatted: segments 0 to 2 must have no bad sector")
advice status.NotBlank restores = plainly (codes "only a sector that was never formatted can be made a defect")
advice status.BadPlace restores = plainly (codes "'info' shows how many segments there are; sectors are 0 to 31")
advice status.SourceFault restores = plainly (codes "the input can't be read")
advice status.SinkFault restores = plainly (codes "the output can't be written")
advice status.TapeFault restores = plainly (codes "the image can't be read or written")
advice status.NoMemory restores = plainly (codes "out of memory")
advice (status.Unsound mendable bad) restores = plainly (codes "damaged; see EXIT STATUS 21 in man tape")
