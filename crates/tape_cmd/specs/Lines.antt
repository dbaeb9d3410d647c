-- The exit status of each answer, and the lines that a status prints (this project's own).
use Rattle.std.specs.Prelude.{ℕ, List, codes, [], ◌++◌, decimal}
use Rattle.command_spec.specs.declared.status.Status.{Status}
use Rattle.qic_base.specs.declared.foreign.ForeignField.{ForeignField}
use Rattle.qic_base.specs.declared.foreign.ForeignField.TheVariants.{FormatCode, FirstHeader, SecondHeader, FirstData, LastData}
use Rattle.qic_base.specs.declared.foreign.ForeignField.TheVariants.{SegmentsPerTrack, Tracks, TrackMaximum, SectorMaximum, Map, Slot}
use Rattle.qic_base.specs.declared.foreign.ForeignField.TheVariants.{Range}
use Rattle.command_spec.specs.declared.status.Status.TheVariants as status

-- ---- statuses

-- the exit status
abbrev pub status_code : Status → ℕ
status_code status.Done = 0
status_code status.Usage = 2
status_code (status.ScriptFault line place) = 3
status_code status.NoCartridge = 4
status_code status.Protected = 5
status_code status.NotFormatted = 6
status_code (status.Foreign field value) = 7
status_code status.TableMismatch = 8
status_code (status.Full need have) = 9
status_code (status.NoVolume number count) = 10
status_code (status.Lost segment lost) = 11
status_code (status.Mismatch segment) = 12
status_code (status.DefectInFront segment) = 13
status_code status.NotBlank = 14
status_code status.BadPlace = 15
status_code status.SourceFault = 16
status_code status.SinkFault = 17
status_code status.TapeFault = 18
status_code status.NoMemory = 19
-- 20 is that of an image that can't be opened
status_code (status.Unsound mendable bad) = 21

abbrev pub field_text : ForeignField → List ℕ
field_text FormatCode = codes "format-code"
field_text FirstHeader = codes "first-header"
field_text SecondHeader = codes "second-header"
field_text FirstData = codes "first-data"
field_text LastData = codes "last-data"
field_text SegmentsPerTrack = codes "segments-per-track"
field_text Tracks = codes "tracks"
field_text TrackMaximum = codes "floppy-track-maximum"
field_text SectorMaximum = codes "floppy-sector-maximum"
field_text Map = codes "map"
field_text Slot = codes "slot"
field_text Range = codes "range"

-- the line of a status without numbers
abbrev pub plain_text : Status → List ℕ
plain_text status.Usage = codes "usage: tape IMAGE COMMAND\n"
plain_text status.NoCartridge = codes "tape: no cartridge\n"
plain_text status.Protected = codes "tape: the cartridge is protected\n"
plain_text status.NotFormatted = codes "tape: the cartridge is not formatted\n"
plain_text status.TableMismatch = codes "tape: the volume table does not agree\n"
plain_text status.NotBlank = codes "tape: the sector is formatted\n"
plain_text status.BadPlace = codes "tape: no such sector\n"
plain_text status.SourceFault = codes "tape: input failed\n"
plain_text status.SinkFault = codes "tape: output failed\n"
plain_text status.TapeFault = codes "tape: the tape failed\n"
plain_text status.NoMemory = codes "tape: no memory\n"
plain_text other = []

-- the line of a status; a command that was carried out has none
abbrev pub status_text : Status → List ℕ
status_text (status.ScriptFault line place) =
    codes "tape: input fault in line " ++ decimal line ++ codes " at byte " ++ decimal place ++ codes "\n"
status_text (status.Foreign field value) =
    codes "tape: foreign " ++ field_text field ++ codes " " ++ decimal value ++ codes "\n"
status_text (status.Full need have) =
    codes "tape: full, need " ++ decimal need ++ codes " have " ++ decimal have ++ codes "\n"
status_text (status.NoVolume number count) =
    codes "tape: no volume " ++ decimal number ++ codes " of " ++ decimal count ++ codes "\n"
status_text (status.Lost segment lost) =
    codes "tape: segment " ++ decimal segment ++ codes " lost " ++ decimal lost ++ codes " sectors\n"
status_text (status.Mismatch segment) = codes "tape: segment " ++ decimal segment ++ codes " does not agree\n"
status_text (status.Unsound mendable bad) =
    codes "tape: " ++ decimal mendable ++ codes " segments can be mended, " ++ decimal bad ++ codes " not\n"
status_text (status.DefectInFront segment) = codes "tape: defect in segment " ++ decimal segment ++ codes "\n"
status_text other = plain_text other
