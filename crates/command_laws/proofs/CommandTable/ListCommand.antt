-- The laws of the command `list`.
use Rattle.std.proofs.Common.{[], ◌≡◌, Some, refl, ℕ, List, arith, codes}
use Rattle.cartridge_spec.specs.Mounting.{Mounted}
use Rattle.command_laws.proofs.CommandClean.{bare_open, Clean, open_leaves, shows_leave}
use Rattle.command_laws.proofs.CommandComplete.{where_some, shows_done}
use Rattle.command_laws.proofs.CommandKeeping.{open_stands, open_mounts}
use Rattle.command_laws.proofs.CommandPlainLaws.{opening_leaves, open_is_function, shows_one}
use Rattle.command_laws.proofs.CommandSteps.{open_none, shows_none}
use Rattle.command_laws.proofs.CommandTexts.{plain_texts}
use Rattle.command_laws.proofs.CommandTotals.{open_answers, shows_answers}
use Rattle.command_laws.proofs.CommandUnread.{open_unread}
use Rattle.command_laws.proofs.CommandWhole.{shows_whole, some_whole}
use Rattle.command_laws.proofs.TextCommands.{only, one_word, spelled_length, IsRead, Reading, named}
use Rattle.command_laws.specs.CommandRecord.{CommandLaws}
use Rattle.command_spec.specs.Command.{HasForm, CanBeMounted}
use Rattle.command_laws.specs.Outcomes.{ListOutcome, listing}
use Rattle.command_spec.specs.Single.{list_command}
use Rattle.command_spec.specs.Outcome.{Shows}
use Rattle.qic_base.specs.CartridgeTerms.{IsCartridge}
use Rattle.command_spec.specs.declared.status.Status.TheVariants as status
use Rattle.command_spec.specs.declared.words.Words.TheVariants as words

-- its words are read as it
abbrev pub list_reading : Reading
list_reading = record { name = codes "list"; reads = λ behind. words.List }

pub list_read : (ws : List (List ℕ)) → HasForm ws list_command.forms → IsRead list_reading ws words.List
list_read ws h = let s = one_word ws _ (only ws _ h) in record { behind = []; are = named s.are s.one; is = refl }

pub list_laws : CommandLaws list_command
list_laws = record {
  values = λ words spelled. tt;
  few_words = λ ws h. let l = spelled_length ws _ (only ws _ h) in (omega arith, omega arith);
  answers = λ held input values whole. open_answers (Shows listing) (shows_answers listing) held whole;
  one = λ held input a b one other. open_is_function (Shows listing) (shows_one listing) held a b one other;
  none_held = λ is input outcome plain. plain;
  locked = λ is c input outcome locked plain. absurd (cc);
  in_front = λ is c segment input outcome free first plain. absurd (cc);
  done = λ held input outcome whole values. where_some (CanBeMounted) held (λ h. ListOutcome h outcome → outcome.status ≡ status.Done)
      (λ c can does. shows_done listing c can.0 outcome can.1 does);
  texts = plain_texts _ _ (
    record { format_date = 0; write_date = 0; segments_per_track = 0; label = []; label_date = 0 },
    ([], ([], refl)),
  );
  blind = λ is. record {
    any = λ held input other outcome plain. plain;
    no_append = refl;
    no_lines = refl;
    no_fault = λ input line place fault. fault;
  };
  stands = λ c plain keeps stood input outcome left does torn. open_stands c plain left stood
      (opening_leaves listing (Some c) left outcome does torn);
  mounts = λ c header words table entries keeps mounts input outcome left does torn.
      open_mounts c (Mounted header words table entries) left mounts (opening_leaves listing (Some c) left outcome does torn);
  clean = λ c area keeps is_area clean input outcome left does torn.
      open_leaves (Clean area is_area) (Shows listing) (shows_leave area is_area listing) c outcome does clean left torn;
  bare = λ c keeps bare input outcome left does torn. bare_open (Shows listing) c outcome does bare left torn;
  unread = λ c copies keeps none input outcome left does torn. open_unread (Shows listing) c outcome left none does torn;
  whole = λ c input outcome left values content whole does torn.
      some_whole left (open_leaves IsCartridge (Shows listing) (shows_whole listing) c outcome does whole left torn);
  live = λ held input outcome keeps does. open_none (Shows listing) (shows_none listing) held outcome does;
}
