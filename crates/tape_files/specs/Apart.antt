-- A file that is none of the standard streams (this project's own).
use Rattle.std.specs.Prelude.{pos, ◌<ℤ◌}
use Rattle.std.specs.Fd.{file_raw_fd}
use Rattle.std.specs.declared.fs.File.{File}

-- its descriptor is none of 0, 1 and 2
abbrev pub IsApart : File → Type 0
IsApart file = pos 2 <ℤ file_raw_fd file
