-- An answer has a status of its own, and never that of a fault.
use Rattle.std.proofs.Common.{◌≡◌, ℕ, Bool, true, false, List, Option, Some, None, IfSome, refl, subst, sym}
use Rattle.std.specs.Prelude.{MatchBool, not, if◌then◌else◌}
use Rattle.std.specs.Option.{option_map, option_or}
use Rattle.cartridge_spec.specs.Header.{HeaderFault}
use Rattle.rescue_map.specs.Map as maps
use Rattle.dump_spec.specs.Answers.{Answer, Answers, AnswersBehind, AnswersTo, AnswersUnless, AnswersVolume, GivesVolume, Inputs}
use Rattle.dump_spec.specs.Answers.{Known, PutsOut}
use Rattle.dump_spec.specs.Answers.{bad_refusal, early_refusal, foreign_in, foreign_status, length_refusal, list_fault}
use Rattle.dump_spec.specs.Answers.{list_answer, refused, map_fault, map_refusal, missing_refusal, numbered, sure_refusal, volumes_in}
use Rattle.dump_spec.specs.Lists.{Reading, Listed, Fault}
use Rattle.dump_spec.specs.Table.{FoundTable}
use Rattle.dump_spec.specs.Volumes.{Volume, has_bad_range}
use Rattle.dump_spec.specs.declared.asked.Asked.{Asked}
use Rattle.dump_spec.specs.declared.asked.Command.{Command}
use Rattle.dump_spec.specs.declared.asked.Command.TheVariants as commands
use Rattle.dump_spec.specs.declared.status.InputText.{InputText}
use Rattle.dump_spec.specs.declared.status.Status.{Status}
use Rattle.dump_spec.specs.declared.status.Status.TheVariants as status
use Rattle.tape_salvage.specs.Runs.{is_answer}

abbrev AreSound : Option Status → Type 0
AreSound found = IfSome found (λ why. is_answer why ≡ true)

sound_or : (a b : Option Status) → AreSound a → AreSound b → AreSound (option_or a b)
sound_or None b first next = next
sound_or (Some why) b first next = first

sound_if : (test : Bool) (why : Status) → is_answer why ≡ true → AreSound (if test then None else Some why)
sound_if true why is = tt
sound_if false why is = is

sound_where : (test : Bool) (why : Status) → is_answer why ≡ true → AreSound (if test then Some why else None)
sound_where true why is = is
sound_where false why is = tt

sure_sound : (told : Option (List ℕ)) → AreSound (sure_refusal told)
sure_sound None = tt
sure_sound (Some bytes) = sound_if _ status.SureNotEmpty refl

map_sound : (text : Option (List ℕ)) → AreSound (map_refusal text)
map_sound None = tt
map_sound (Some text) = by (maps.reading_of text)
  where
    by : (reading : maps.Reading) → AreSound (map_fault reading)
    by (maps.Blocks blocks) = tt
    by (maps.Fault line) = refl

list_sound : {A : Type 0} (which : InputText) (reading : Reading A) → AreSound (list_fault which reading)
list_sound which (Listed names) = tt
list_sound which (Fault line) = refl

missing_sound : (text : Option (List ℕ)) → AreSound (missing_refusal text)
missing_sound None = tt
missing_sound (Some text) = list_sound _ _

bad_sound : (text : Option (List ℕ)) → AreSound (bad_refusal text)
bad_sound None = tt
bad_sound (Some text) = list_sound _ _

early_sound : (inputs : Inputs) (asked : Asked) → AreSound (early_refusal inputs asked)
early_sound inputs asked =
    sound_or (sure_refusal inputs.sure) _ (sure_sound inputs.sure)
    (sound_or (map_refusal inputs.map) _ (map_sound inputs.map)
    (sound_or (missing_refusal inputs.missing) _ (missing_sound inputs.missing)
    (sound_or (bad_refusal inputs.bad) (length_refusal inputs asked) (bad_sound inputs.bad)
    (sound_where _ (status.TooLong _) refl))))

foreign_sound : (fault : Option HeaderFault) → AreSound (option_map foreign_status fault)
foreign_sound None = tt
foreign_sound (Some fault) = refl

-- ---- the commands

abbrev IsSound : Answer → Type 0
IsSound answer = is_answer answer.status ≡ true

is_sound : (answer other : Answer) → answer ≡ other → IsSound other → IsSound answer
is_sound answer other same sound = subst IsSound (sym same) sound

output_sound : (test : Bool) (how : Status) → is_answer how ≡ true → is_answer (if test then status.Done else how) ≡ true
output_sound true how is = refl
output_sound false how is = is

puts_sound : (known : Known) (warned : Bool) (first last size : ℕ) (answer : Answer) → PutsOut known warned first last size answer →
    IsSound answer
puts_sound known warned first last size answer puts = is_sound answer _ puts.2 (output_sound _ (status.NotAllSure _ _ _) refl)

list_answer_sound : (known : Known) (table : Option FoundTable) → IsSound (list_answer known table)
list_answer_sound known None = refl
list_answer_sound known (Some table) = refl

range_sound : (known : Known) (warned : Bool) (number first last size : ℕ) (bad : Bool) (answer : Answer) →
    MatchBool bad (answer ≡ refused warned (status.BadRange number)) (PutsOut known warned first last size answer) → IsSound answer
range_sound known warned number first last size true answer is = is_sound answer _ is refl
range_sound known warned number first last size false answer puts = puts_sound known warned first last size answer puts

gives_sound : (known : Known) (table : FoundTable) (number : ℕ) (whole : Bool) (found : Option Volume) (answer : Answer) →
    GivesVolume known table number whole found answer → IsSound answer
gives_sound known table number whole None answer gives = is_sound answer _ gives refl
gives_sound known table number whole (Some volume) answer gives =
    range_sound known (not table.sure) number _ _ _ (has_bad_range table.segment volume) answer gives

volume_sound : (known : Known) (number : ℕ) (whole : Bool) (table : Option FoundTable) (answer : Answer) →
    AnswersVolume known number whole table answer → IsSound answer
volume_sound known number whole None answer is = is_sound answer _ is refl
volume_sound known number whole (Some table) answer gives =
    gives_sound known table number whole (numbered (volumes_in known table) number) answer gives

command_sound : (known : Known) (command : Command) (answer : Answer) → AnswersTo known command answer → IsSound answer
command_sound known commands.Info answer answers = is_sound answer _ answers.2 refl
command_sound known commands.List answer answers = is_sound answer _ answers.2 (list_answer_sound known answers.0)
command_sound known commands.Check answer answers = is_sound answer _ answers.2 (output_sound _ (status.Damaged _ _) refl)
command_sound known (commands.Volume number whole) answer answers = volume_sound known number whole answers.0 answer answers.2
command_sound known (commands.Segments first last) answer puts = puts_sound known false first last _ answer puts

behind_sound : (known : Known) (command : Command) (refusal : Option Status) (answer : Answer) → AreSound refusal →
    AnswersBehind known command refusal answer → IsSound answer
behind_sound known command None answer sound answers = command_sound known command answer answers
behind_sound known command (Some why) answer sound is = is_sound answer _ is sound

unless_sound : (inputs : Inputs) (asked : Asked) (refusal : Option Status) (answer : Answer) → AreSound refusal →
    AnswersUnless inputs asked refusal answer → IsSound answer
unless_sound inputs asked None answer sound answers =
    behind_sound answers.0 asked.command (foreign_in answers.0) answer (foreign_sound _) answers.2
unless_sound inputs asked (Some why) answer sound is = is_sound answer _ is sound

pub answer_sound : (inputs : Inputs) (asked : Asked) (answer : Answer) → Answers inputs asked answer → is_answer answer.status ≡ true
answer_sound inputs asked answer answers = unless_sound inputs asked (early_refusal inputs asked) answer (early_sound inputs asked) answers
