-- The laws of the command `restore`.
use Rattle.std.proofs.Common.{[], ◌≡◌, ℕ, Some, refl, List, ap, arith, codes, ◌∷◌}
use Rattle.cartridge_spec.specs.Mounting.{Mounted}
use Rattle.command_laws.proofs.CommandClean.{bare_open, Clean, open_leaves, gives_leave}
use Rattle.command_laws.proofs.CommandComplete.{where_some, restore_goes}
use Rattle.command_laws.proofs.CommandKeeping.{open_stands, open_mounts}
use Rattle.command_laws.proofs.CommandPlainLaws.{restoring_leaves, open_is_function, gives_one}
use Rattle.command_laws.proofs.CommandSteps.{open_none, gives_none}
use Rattle.command_laws.proofs.CommandTexts.{fronted}
use Rattle.command_laws.proofs.CommandTotals.{open_answers, gives_answers}
use Rattle.command_laws.proofs.CommandUnread.{open_unread}
use Rattle.command_laws.proofs.CommandWhole.{gives_whole, some_whole}
use Rattle.command_laws.proofs.TextCommands.{only, two_words, spelled_length, IsNumber-value, IsRead, Reading, word_at, number_value, named}
use Rattle.command_laws.specs.CommandRecord.{CommandLaws}
use Rattle.command_spec.specs.Command.{HasForm}
use Rattle.command_spec.specs.Restore.{Gives, restore_command, restore_refused}
use Rattle.command_laws.specs.Needs.{CanGive}
use Rattle.command_spec.specs.declared.status.Status.{Status}
use Rattle.qic_base.specs.CartridgeTerms.{IsCartridge}
use Rattle.command_laws.specs.Outcomes.{RestoreOutcome}
use Rattle.command_spec.specs.declared.status.Status.TheVariants as status
use Rattle.command_spec.specs.declared.words.Words.TheVariants as words

may_print_nothing : (answer : Status) → restore_refused answer []
may_print_nothing (status.Lost segment lost) = tt
may_print_nothing (status.Mismatch segment) = tt
may_print_nothing answer = refl

-- its words are read as it
abbrev pub restore_reading : Reading
restore_reading = record { name = codes "restore"; reads = λ behind. words.Restore (number_value (word_at behind 0)) }

pub restore_read : (number : ℕ) (ws : List (List ℕ)) → HasForm ws (restore_command number).forms →
    IsRead restore_reading ws (words.Restore number)
restore_read number ws h =
    let s = two_words ws _ _ (only ws _ h) in
    record { behind = s.second ∷ []; are = named s.are s.one; is = ap words.Restore (IsNumber-value s.second number s.two.0) }

pub restore_laws : (number : ℕ) → CommandLaws (restore_command number)
restore_laws number = record {
  values = λ words spelled. tt;
  few_words = λ ws h. let l = spelled_length ws _ (only ws _ h) in (omega arith, omega arith);
  answers = λ held input values whole. open_answers (Gives number) (gives_answers number) held whole;
  one = λ held input a b one other. open_is_function (Gives number) (gives_one number) held a b one other;
  none_held = λ is input outcome plain. plain;
  locked = λ is c input outcome locked plain. absurd (cc);
  in_front = λ is c segment input outcome free first plain. absurd (cc);
  done = λ held input outcome whole values. where_some (λ c. CanGive c number) held
      (λ h. RestoreOutcome number h outcome → outcome.status ≡ status.Done) (λ c can does. restore_goes number c outcome can does);
  texts = fronted _ restore_refused [] tt (λ answer other. may_print_nothing answer) (λ answer front prints. ([], tt));
  blind = λ is. record {
    any = λ held input other outcome plain. plain;
    no_append = refl;
    no_lines = refl;
    no_fault = λ input line place fault. fault;
  };
  stands = λ c plain keeps stood input outcome left does torn. open_stands c plain left stood
      (restoring_leaves number (Some c) left outcome does torn);
  mounts = λ c header words table entries keeps mounts input outcome left does torn.
      open_mounts c (Mounted header words table entries) left mounts (restoring_leaves number (Some c) left outcome does torn);
  clean = λ c area keeps is_area clean input outcome left does torn.
      open_leaves (Clean area is_area) (Gives number) (gives_leave area is_area number) c outcome does clean left torn;
  bare = λ c keeps bare input outcome left does torn. bare_open (Gives number) c outcome does bare left torn;
  unread = λ c copies keeps none input outcome left does torn. open_unread (Gives number) c outcome left none does torn;
  whole = λ c input outcome left values content whole does torn.
      some_whole left (open_leaves IsCartridge (Gives number) (gives_whole number) c outcome does whole left torn);
  live = λ held input outcome keeps does. open_none (Gives number) (gives_none number) held outcome does;
}
