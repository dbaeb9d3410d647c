-- The header of a dump and the masks that it leaves, by the answer (this project's own).
use Rattle.std.specs.Prelude.{ℕ, ◌≡◌, Bool, List, Option, Some, None, Result, Ok, Err}
use Rattle.std.specs.Option.{option_map, option_and_then}
use Rattle.dump_header.specs.Marking.{AreMasks}
use Rattle.dump_reader.specs.Laid.{Describes}
use Rattle.dump_reader.specs.declared.known.KnownDump.{KnownDump}
use Rattle.dump_spec.specs.Answers.{foreign_status}
use Rattle.dump_spec.specs.Dump.{Dump}
use Rattle.dump_spec.specs.Header.{header_refusal}
use Rattle.dump_spec.specs.HeaderPlace.{FoundHeader, IsHeader, filed_area}
use Rattle.dump_spec.specs.Lists.{BadSectors}
use Rattle.dump_spec.specs.Pieces.{Layout}
use Rattle.dump_spec.specs.declared.status.Status.{Status}
use Rattle.dump_volumes.specs.Told.{IsTold}
use Rattle.dump_volumes.specs.declared.info.ToldHeader.{ToldHeader}
use Rattle.dump_opening.specs.declared.opened.OpenError.{OpenError}
use Rattle.dump_opening.specs.declared.opened.OpenError.TheVariants as error

-- the data of a header, if there is one
abbrev pub area_of : Option FoundHeader → Option (List (List ℕ))
area_of found = option_map (λ header. header.area) found

-- the header that is kept is one that was read
abbrev pub HasTold : Option ToldHeader → Type 0
HasTold told = (found : Option FoundHeader) × IsTold found told

-- the first field of a header that is refused, as a run is refused by it
abbrev pub foreign_of : Option FoundHeader → Option Status
foreign_of found = option_map foreign_status (option_and_then header_refusal (area_of found))

-- the fields of a header were taken; or it is refused
abbrev pub Takes : Option FoundHeader → Result (Option ToldHeader) OpenError → Type 0
Takes found (Ok told) = (foreign_of found ≡ None) × IsTold found told
Takes found (Err (error.Refused status)) = foreign_of found ≡ Some status
Takes found (Err error.Input) = ⊥

-- the same of one's data
abbrev pub Tells : FoundHeader → Result ToldHeader OpenError → Type 0
Tells found (Ok told) = (foreign_of (Some found) ≡ None) × IsTold (Some found) (Some told)
Tells found (Err (error.Refused status)) = foreign_of (Some found) ≡ Some status
Tells found (Err error.Input) = ⊥

-- the header of a dump that is known so far, if it has one
abbrev pub IsHeaderOf : (file : Option (List ℕ)) → KnownDump → (told : Option (List ℕ)) → (zero_lost : Bool) → Option FoundHeader → Type 0
IsHeaderOf file known told zero_lost found =
    (dump : Dump) (layout : Layout) → Describes known told dump layout → IsHeader file dump layout zero_lost found

-- it was looked for, the masks were made by it, and its fields were taken
pub record HasHeader (Is : Option FoundHeader → Type 0) (bad : List BadSectors) (masks : List ℕ)
    (result : Result (Option ToldHeader) OpenError) : Type 0 where
  pub found : Option FoundHeader
  pub is : Is found
  pub masked : AreMasks (area_of found) bad masks
  pub taken : Takes found result

abbrev pub OpensHeader : (Option FoundHeader → Type 0) → List BadSectors → (masks : List ℕ) → Result (Option ToldHeader) OpenError → Type 0
OpensHeader Is bad masks (Ok told) = HasHeader Is bad masks (Ok told)
OpensHeader Is bad masks (Err (error.Refused status)) = HasHeader Is bad masks (Err (error.Refused status))
OpensHeader Is bad masks (Err error.Input) = Unit {0}

-- that of a file
abbrev pub IsFiled : (file : List ℕ) → Option FoundHeader → Type 0
IsFiled file found = found ≡ Some (record { area = filed_area file; segment = None })
