-- What is read of the texts beside a dump, by the answer (this project's own).
use Rattle.std.specs.Prelude.{ℕ, ◌≡◌, ◌*◌, ◌<◌, List, length, Option, Some, None, Result, Ok, Err}
use Rattle.std.specs.Option.{option_or}
use Rattle.rescue_map.specs.Mask.{IsMarked}
use Rattle.rescue_map.specs.Mask as masks
use Rattle.rescue_map.specs.declared.form.Block.{Block}
use Rattle.dump_lists.specs.Masks.{IsMissingSet, IsBadSet}
use Rattle.dump_spec.specs.Answers.{map_refusal, missing_refusal, bad_refusal, map_blocks, missing_spans, listed_bad}
use Rattle.dump_opening.specs.declared.opened.OpenError.{OpenError}
use Rattle.dump_opening.specs.declared.opened.OpenError.TheVariants as error

-- the set of the sectors that were rescued whole by the blocks of a map; of all without a map
abbrev pub IsRescuedBy : Option (List Block) → (rescued : List ℕ) → Type 0
IsRescuedBy None rescued = (q : ℕ) → q < 32 * length rescued → IsMarked rescued q
IsRescuedBy (Some blocks) rescued = masks.IsMaskOf blocks rescued

-- the set was made; or the text is refused
abbrev pub ReadsMap : Option (List ℕ) → (rescued : List ℕ) → Result (Unit {0}) OpenError → Type 0
ReadsMap text rescued (Ok done) = (map_refusal text ≡ None) × IsRescuedBy (map_blocks text) rescued
ReadsMap text rescued (Err (error.Refused status)) = map_refusal text ≡ Some status
ReadsMap text rescued (Err error.Input) = Unit {0}

abbrev pub ReadsMissing : Option (List ℕ) → (missing : List ℕ) → Result (Unit {0}) OpenError → Type 0
ReadsMissing text missing (Ok done) = (missing_refusal text ≡ None) × IsMissingSet (missing_spans text) missing
ReadsMissing text missing (Err (error.Refused status)) = missing_refusal text ≡ Some status
ReadsMissing text missing (Err error.Input) = Unit {0}

abbrev pub ReadsBad : Option (List ℕ) → (words : List ℕ) → Result (Unit {0}) OpenError → Type 0
ReadsBad text words (Ok done) = (bad_refusal text ≡ None) × IsBadSet (listed_bad text) words
ReadsBad text words (Err (error.Refused status)) = bad_refusal text ≡ Some status
ReadsBad text words (Err error.Input) = Unit {0}

-- ---- all of them

-- the sets were made, and no text is refused
pub record HaveTexts (map missing bad : Option (List ℕ)) (rescued lacking words : List ℕ) : Type 0 where
  pub map_taken : map_refusal map ≡ None
  pub missing_taken : missing_refusal missing ≡ None
  pub bad_taken : bad_refusal bad ≡ None
  pub map_set : IsRescuedBy (map_blocks map) rescued
  pub missing_set : IsMissingSet (missing_spans missing) lacking
  pub bad_set : IsBadSet (listed_bad bad) words

abbrev pub ReadsTexts : (map missing bad : Option (List ℕ)) (rescued lacking words : List ℕ) → Result (Unit {0}) OpenError → Type 0
ReadsTexts map missing bad rescued lacking words (Ok done) = HaveTexts map missing bad rescued lacking words
ReadsTexts map missing bad rescued lacking words (Err (error.Refused status)) =
    option_or (map_refusal map) (option_or (missing_refusal missing) (bad_refusal bad)) ≡ Some status
ReadsTexts map missing bad rescued lacking words (Err error.Input) = Unit {0}
