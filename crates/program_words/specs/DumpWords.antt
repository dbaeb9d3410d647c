-- The words of the command lines (this project's own), by what the contract of `clap` calls the words of a simple command.
use Rattle.std.specs.Prelude.{◌≡◌, ◌≢◌, ℕ, ◌≤◌, true, List, [], Option, Some, None, codes, pos}
use Rattle.std.specs.Option.{option_map}
use Rattle.std.specs.Str.Parse.{digits_value, without_leading_plus}
use Rattle.clap.specs.Faults.{fault_of}
use Rattle.clap.specs.Simple.{App, new_app, new_rule, with_rule, matches_of}
use Rattle.clap.specs.Takes.{takes}
use Rattle.clap.specs.Values.{kind_of}
use Rattle.clap.specs.Walk.{Rule, Text, first_of, one_of}
use Rattle.clap.specs.declared.builder.action.ArgAction.TheVariants.{Set}
use Rattle.clap.specs.declared.builder.value_parser.ValueParser.TheVariants.{Signed}
use Rattle.clap.specs.declared.error.Error.{Error}
use Rattle.clap.specs.declared.error.kind.ErrorKind.TheVariants.{OutOfMemory}
use Rattle.program_words.specs.declared.export_words.ExportWords.{ExportWords}
use Rattle.program_words.specs.declared.import_words.ImportWords.{ImportWords}

-- the option `--map FILE`
abbrev pub map_rule : Rule
map_rule = record (new_rule (codes "map")) { long = Some (codes "map"); action = Some Set; value_names = 1 }

-- the option `--segments N`, from 3 to 246
abbrev pub segments_rule : Rule
segments_rule = record (new_rule (codes "segments")) {
  long = Some (codes "segments");
  action = Some Set;
  value_names = 1;
  parser = Some (Signed (pos 3) (pos 246));
}

-- the argument IMAGE, which is required
abbrev pub image_rule : Rule
image_rule = record (new_rule (codes "image")) { action = Some Set; value_names = 1; required = true }

abbrev pub export_name : Text
export_name = codes "tape_export"

abbrev pub export_app : App
export_app = with_rule (with_rule (new_app export_name) map_rule) image_rule

abbrev pub import_name : Text
import_name = codes "tape_import"

abbrev pub import_app : App
import_app = with_rule (with_rule (with_rule (new_app import_name) map_rule) segments_rule) image_rule

-- No step of the parse of these words fails, and its matches have this image and this map, or none.
pub record AskExport (words : List Text) (asked : ExportWords) : Type 0 where
  pub taken : fault_of export_app words ≡ []
  pub image : first_of (codes "image") (matches_of export_app words) ≡ Some asked.image.now
  pub file : first_of (codes "map") (matches_of export_app words) ≡ option_map (λ path. path.now) asked.map

-- a text is this number, in decimal digits and from 3 to 246; or there is none of both
abbrev pub IsLengthOf : Option Text → Option ℕ → Type 0
IsLengthOf None None = Unit {0}
IsLengthOf None (Some n) = ⊥
IsLengthOf (Some text) None = ⊥
IsLengthOf (Some text) (Some n) =
    (n ≡ digits_value 10 (without_leading_plus text)) × (3 ≤ n) × (n ≤ 246)

-- .. and these segments per track, or none
pub record AskImport (words : List Text) (asked : ImportWords) : Type 0 where
  pub taken : fault_of import_app words ≡ []
  pub image : first_of (codes "image") (matches_of import_app words) ≡ Some asked.image.now
  pub file : first_of (codes "map") (matches_of import_app words) ≡ option_map (λ path. path.now) asked.map
  pub size : IsLengthOf (one_of (codes "segments") (matches_of import_app words)) asked.segments_per_track

-- A step of the parse of these words fails, as where they ask for help, and they are not among those that the command
-- takes.
pub record IsRefused (app : App) (words : List Text) : Type 0 where
  pub fault : fault_of app words ≢ []
  pub not_taken : takes app words ≢ true

-- words are refused; want of memory says nothing of them
abbrev pub IsRefusedBy : App → List Text → Error → Type 0
IsRefusedBy app words error = kind_of error ≢ OutOfMemory → IsRefused app words
