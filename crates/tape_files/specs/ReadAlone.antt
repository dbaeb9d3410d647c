-- An image that may not be written (this project's own).
use Rattle.std.specs.Prelude.{Bool}
use Rattle.tape_files.specs.Edge.{FileState}
use Rattle.tape_files.specs.declared.file.ImageFile.{ImageFile}

-- the file was opened for reading alone
abbrev pub is_read_alone : FileState ImageFile → Bool
is_read_alone disk = disk.file.reads_only
