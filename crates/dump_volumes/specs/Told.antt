-- What is told of a header (this project's own).
use Rattle.std.specs.Prelude.{◌≡◌, Option, Some, None}
use Rattle.dump_header.specs.Shown.{ShowsFields}
use Rattle.dump_spec.specs.HeaderPlace.{FoundHeader}
use Rattle.dump_volumes.specs.declared.info.ToldHeader.{ToldHeader}

-- the fields of the header that was found, and where it was
abbrev pub IsTold : Option FoundHeader → Option ToldHeader → Type 0
IsTold None None = Unit {0}
IsTold (Some found) (Some header) = ShowsFields found.area header.fields × (found.segment ≡ header.segment)
IsTold found header = ⊥
