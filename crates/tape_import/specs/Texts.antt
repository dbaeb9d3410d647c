-- What the program prints, and its exit statuses (this project's own).
use Rattle.std.specs.Prelude.{ℕ, List, [], ◌++◌, codes, decimal}
use Rattle.flat_dump.specs.declared.importing.Imported.{Imported}
use Rattle.tape_import.specs.declared.status.ImportStatus.{ImportStatus}
use Rattle.tape_import.specs.declared.status.ImportStatus.TheVariants as status

-- the exit status
abbrev pub status_code : ImportStatus → ℕ
status_code status.Done = 0
status_code status.Usage = 2
status_code (status.MapFault line) = 3
status_code (status.Length bytes) = 4
status_code status.NotEmpty = 6
status_code status.SourceFault = 16
status_code status.SinkFault = 17
status_code status.DiskFault = 18
status_code status.NoMemory = 19
status_code status.NoImage = 20
status_code status.NoMap = 20

-- the line of a status without a number
abbrev pub plain_text : ImportStatus → List ℕ
plain_text status.Usage = codes "usage: tape_import [--map FILE] [--segments N] IMAGE\n"
plain_text status.NotEmpty = codes "tape_import: the image is not empty\n"
plain_text status.SourceFault = codes "tape_import: input failed\n"
plain_text status.SinkFault = codes "tape_import: output failed\n"
plain_text status.DiskFault = codes "tape_import: the image failed\n"
plain_text status.NoMemory = codes "tape_import: no memory\n"
plain_text status.NoImage = codes "tape_import: cannot open the image\n"
plain_text status.NoMap = codes "tape_import: cannot open the map\n"
plain_text other = []

-- the line of a status on standard error; none where all went well
abbrev pub status_text : ImportStatus → List ℕ
status_text (status.MapFault line) = codes "tape_import: fault in line " ++ (decimal line ++ codes " of the map\n")
status_text (status.Length bytes) = codes "tape_import: " ++ (decimal bytes ++ codes " bytes are no cartridge\n")
status_text other = plain_text other

-- what is told of an image that was made: its segments, and its lost sectors
abbrev pub imported_text : Imported → List ℕ
imported_text imported =
    (codes "imported " ++ (decimal imported.segments ++ codes " ")) ++ (decimal imported.lost ++ codes "\n")
