-- The laws of the command `script`.
use Rattle.std.proofs.Common.{[], ◌≡◌, refl, ℕ, List, arith, codes}
use Rattle.command_laws.proofs.CommandClean.{bare_open, Clean, open_leaves, scripting_leaves}
use Rattle.command_laws.proofs.CommandComplete.{where_some, script_goes}
use Rattle.command_laws.proofs.CommandPlainLaws.{open_is_function, scripting_one}
use Rattle.command_laws.proofs.CommandSteps.{open_none, scripting_none}
use Rattle.command_laws.proofs.CommandTexts.{fronted}
use Rattle.command_laws.proofs.CommandTotals.{open_answers, scripting_answers}
use Rattle.command_laws.proofs.CommandUnread.{open_unread}
use Rattle.command_laws.proofs.CommandWhole.{scripting_whole, some_whole}
use Rattle.command_laws.proofs.TextCommands.{only, one_word, spelled_length, IsRead, Reading, named}
use Rattle.command_laws.specs.CommandRecord.{CommandLaws}
use Rattle.command_spec.specs.Command.{HasForm, CanBeMounted}
use Rattle.command_spec.specs.Script.{Scripting, end_line, script_command, script_refused}
use Rattle.command_spec.specs.declared.status.Status.{Status}
use Rattle.qic_base.specs.CartridgeTerms.{IsCartridge}
use Rattle.command_laws.specs.Outcomes.{ScriptOutcome}
use Rattle.command_spec.specs.declared.status.Status.TheVariants as status
use Rattle.command_spec.specs.declared.words.Words.TheVariants as words

may_print_nothing : (answer : Status) → script_refused answer []
may_print_nothing (status.ScriptFault line place) = tt
may_print_nothing status.TableMismatch = tt
may_print_nothing answer = refl

-- its words are read as it
abbrev pub script_reading : Reading
script_reading = record { name = codes "script"; reads = λ behind. words.Script }

pub script_read : (ws : List (List ℕ)) → HasForm ws script_command.forms → IsRead script_reading ws words.Script
script_read ws h = let s = one_word ws _ (only ws _ h) in record { behind = []; are = named s.are s.one; is = refl }

pub script_laws : CommandLaws script_command
script_laws = record {
  values = λ words spelled. tt;
  few_words = λ ws h. let l = spelled_length ws _ (only ws _ h) in (omega arith, omega arith);
  answers = λ held input values whole. open_answers (Scripting input) (scripting_answers input) held whole;
  one = λ held input a b one other. open_is_function (Scripting input) (scripting_one input) held a b one other;
  none_held = λ is input outcome plain. plain;
  locked = λ is c input outcome locked plain. absurd (cc);
  in_front = λ is c segment input outcome free first plain. absurd (cc);
  done = λ held input outcome whole values needs.
      where_some CanBeMounted held (λ h. ScriptOutcome h input outcome → outcome.status ≡ status.Done)
      (λ c can does. script_goes input c can.0 outcome can.1 needs.1 does) needs.0;
  texts = fronted _ script_refused end_line ([], refl) (λ answer other. may_print_nothing answer) (λ answer front prints.
      (end_line, (front, refl)));
  blind = λ is. absurd (cc);
  stands = λ c plain keeps. absurd keeps;
  mounts = λ c header words table entries keeps. absurd keeps;
  clean = λ c area keeps is_area clean input outcome left does torn.
      open_leaves (Clean area is_area) (Scripting input) (scripting_leaves area is_area input) c outcome does clean left torn;
  bare = λ c keeps bare input outcome left does torn. bare_open (Scripting input) c outcome does bare left torn;
  unread = λ c copies keeps none input outcome left does torn. open_unread (Scripting input) c outcome left none does torn;
  whole = λ c input outcome left values content whole does torn.
      some_whole left (open_leaves IsCartridge (Scripting input) (scripting_whole input content) c outcome does whole left torn);
  live = λ held input outcome keeps does. open_none (Scripting input) (scripting_none input) held outcome does;
}
