-- The header of a dump, by what was read of it.
use Rattle.std.proofs.Common.{◌≡◌, ℕ, Bool, List, ap, subst}
use Rattle.std.specs.Prelude.{Result, Ok, Err, Option, Some, None, IfSome}
use Rattle.qic_base.specs.Disk as disks
use Rattle.dump_header.specs.Marking.{AreMasks}
use Rattle.dump_reader.specs.declared.known.KnownDump.{KnownDump}
use Rattle.dump_spec.specs.HeaderPlace.{FoundHeader, filed_area}
use Rattle.dump_spec.specs.Lists.{BadSectors}
use Rattle.dump_volumes.specs.declared.info.ToldHeader.{ToldHeader}
use Rattle.dump_opening.specs.Headers.{area_of, HasTold, IsFiled, IsHeaderOf, OpensHeader, Takes, Tells}
use Rattle.dump_opening.specs.Inputs.{TellsFile}
use Rattle.dump_opening.specs.declared.opened.OpenError.{OpenError}
use Rattle.dump_opening.specs.declared.opened.OpenError.TheVariants as error

-- ---- the fields

abbrev pub header_at : (area : List (List ℕ)) → Option ℕ → FoundHeader
header_at area segment = record { area = area; segment = segment }

pub has_told : (found : FoundHeader) (told : ToldHeader) → Tells found (Ok told) → HasTold (Some told)
has_told found told tells = (Some found, tells.1)

-- ---- the header

pub found_opened : (Is : Option FoundHeader → Type 0) (found : Option FoundHeader) (bad : List BadSectors) (masks : List ℕ)
    (result : Result (Option ToldHeader) OpenError) → Is found → AreMasks (area_of found) bad masks → Takes found result →
    OpensHeader Is bad masks result
found_opened Is found bad masks (Ok told) is masked takes = record { found = found; is = is; masked = masked; taken = takes }
found_opened Is found bad masks (Err (error.Refused status)) is masked takes =
    record { found = found; is = is; masked = masked; taken = takes }
found_opened Is found bad masks (Err error.Input) is masked takes = tt

pub opens_as : (P Q : Option FoundHeader → Type 0) (bad : List BadSectors) (masks : List ℕ)
    (result : Result (Option ToldHeader) OpenError) →
    ((found : Option FoundHeader) → P found → Q found) → OpensHeader P bad masks result → OpensHeader Q bad masks result
opens_as P Q bad masks (Ok told) implies has =
    record { found = has.found; is = implies has.found has.is; masked = has.masked; taken = has.taken }
opens_as P Q bad masks (Err (error.Refused status)) implies has =
    record { found = has.found; is = implies has.found has.is; masked = has.masked; taken = has.taken }
opens_as P Q bad masks (Err error.Input) implies has = tt

-- that of a file
pub filed_opened : (text : List ℕ) (told : Option (List ℕ)) (area : List (List ℕ)) (bad : List BadSectors) (masks : List ℕ)
    (result : Result (Option ToldHeader) OpenError) → told ≡ Some text → IfSome told (λ (file : List ℕ). area ≡ filed_area file) →
    AreMasks (Some area) bad masks → Takes (Some (header_at area None)) result → OpensHeader (IsFiled text) bad masks result
filed_opened text told area bad masks result tells same masked takes =
    let area_is : area ≡ filed_area text =
    subst (λ (t : Option (List ℕ)). IfSome t (λ (file : List ℕ). area ≡ filed_area file)) tells same in
    found_opened (IsFiled text) (Some (header_at area None)) bad masks result (ap (λ (a : List (List ℕ)). Some (header_at a None)) area_is)
    masked takes

pub opens_filed : {D : Type 0} (m : disks.Meaning D) (disk : D) (text : Option (List ℕ)) (known : KnownDump) (told : Option (List ℕ))
    (zero_lost : Bool) (bad : List BadSectors) (masks : List ℕ) (result : Result (Option ToldHeader) OpenError) →
    TellsFile m (Some disk) text →
    ((file : List ℕ) → m.told disk ≡ Some file → OpensHeader (IsFiled file) bad masks result) →
    OpensHeader (IsHeaderOf text known told zero_lost) bad masks result
opens_filed m disk None known told zero_lost bad masks result tells opens = absurd tells
opens_filed m disk (Some file) known told zero_lost bad masks result tells opens =
    opens_as (IsFiled file) (IsHeaderOf (Some file) known told zero_lost) bad masks result (λ found is. λ dump layout by. is)
    (opens file tells)
