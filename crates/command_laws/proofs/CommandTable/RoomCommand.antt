-- The laws of the command `room`.
use Rattle.std.proofs.Common.{[], ◌≡◌, Option, Some, refl, sym, ◌∙◌, ap, ℕ, List, arith, codes}
use Rattle.cartridge_spec.specs.Mounting.{Mounted, Mounts}
use Rattle.cartridge_spec.specs.Formatting.{HasCleanCopies, HasNoHeader}
use Rattle.cartridge_spec.specs.Volumes.{Plain, Stands}
use Rattle.cartridge_laws.specs.HeaderTerms.{NeitherReads}
use Rattle.command_laws.proofs.CommandComplete.{where_some, goes_on, status_of}
use Rattle.command_laws.proofs.CommandLooking.{TakesNoStep, open_takes_none, still_so, puts_in_none, steps_in_all}
use Rattle.command_laws.proofs.CommandPlainLaws.{IsOne, open_is_function}
use Rattle.command_laws.proofs.CommandTexts.{plain_texts}
use Rattle.command_laws.proofs.CommandTotals.{Answers, open_answers}
use Rattle.command_laws.proofs.CommandWhole.{some_whole}
use Rattle.command_laws.proofs.TextCommands.{only, one_word, spelled_length, IsRead, Reading, named}
use Rattle.command_laws.specs.CommandRecord.{CommandLaws}
use Rattle.command_spec.specs.Command.{HasForm, CanBeMounted, ReadsAs}
use Rattle.command_spec.specs.Outcome.{CommandOutcome, OpenOutcome}
use Rattle.command_spec.specs.Room.{TellsRoom, room_command}
use Rattle.qic_base.specs.Acts.{steps_of}
use Rattle.qic_base.specs.Cartridge.{Cartridge}
use Rattle.qic_base.specs.CartridgeTerms.{IsCartridge}
use Rattle.command_spec.specs.declared.status.Status.TheVariants as status
use Rattle.command_spec.specs.declared.words.Words.TheVariants as words

-- its words are read as it
abbrev pub room_reading : Reading
room_reading = record { name = codes "room"; reads = λ behind. words.Room }

pub room_read : (ws : List (List ℕ)) → HasForm ws room_command.forms → IsRead room_reading ws words.Room
room_read ws h = let s = one_word ws _ (only ws _ h) in record { behind = []; are = named s.are s.one; is = refl }

tells_one : IsOne TellsRoom
tells_one c header ws table entries a b is was = is ∙ sym was

tells_answers : Answers TellsRoom
tells_answers c header ws table entries whole mounts = (_, refl)

tells_in_no_step : TakesNoStep TellsRoom
tells_in_no_step c header ws table entries outcome is = ap steps_in_all is

pub room_takes_no_step : (held : Option Cartridge) (outcome : CommandOutcome) → OpenOutcome TellsRoom held outcome → steps_of outcome.acts
    ≡ []
room_takes_no_step held outcome does = open_takes_none TellsRoom tells_in_no_step held outcome does

tells_done : (c : Cartridge) (plain : Plain) (outcome : CommandOutcome) → ReadsAs c plain → OpenOutcome TellsRoom (Some c) outcome →
    outcome.status ≡ status.Done
tells_done c plain outcome there opened = ap status_of (goes_on TellsRoom c plain outcome there opened).did

pub room_laws : CommandLaws room_command
room_laws = record {
  values = λ words spelled. tt;
  few_words = λ ws h. let l = spelled_length ws _ (only ws _ h) in (omega arith, omega arith);
  answers = λ held input values whole. open_answers TellsRoom tells_answers held whole;
  one = λ held input a b one other. open_is_function TellsRoom tells_one held a b one other;
  none_held = λ is input outcome plain. plain;
  locked = λ is c input outcome locked plain. absurd (cc);
  in_front = λ is c segment input outcome free first plain. absurd (cc);
  done = λ held input outcome whole values. where_some (CanBeMounted) held
      (λ h. OpenOutcome TellsRoom h outcome → outcome.status ≡ status.Done) (λ c can does. tells_done c can.0 outcome can.1 does);
  texts = plain_texts _ _ ([], ([], refl));
  blind = λ is. record {
    any = λ held input other outcome plain. plain;
    no_append = refl;
    no_lines = refl;
    no_fault = λ input line place fault. fault;
  };
  stands = λ c plain keeps stood input outcome left does torn. still_so (λ d. Stands d plain) c left outcome stood
      (room_takes_no_step (Some c) outcome does) torn;
  mounts = λ c header words table entries keeps mounts input outcome left does torn.
      still_so (λ d. Mounts d (Mounted header words table entries)) c left outcome mounts (room_takes_no_step (Some c) outcome does) torn;
  clean = λ c area keeps is_area clean input outcome left does torn. still_so (λ d. HasCleanCopies d area) c left outcome clean
      (room_takes_no_step (Some c) outcome does) torn;
  bare = λ c keeps bare input outcome left does torn. still_so HasNoHeader c left outcome bare (room_takes_no_step (Some c) outcome does)
      torn;
  unread = λ c copies keeps none input outcome left does torn. still_so NeitherReads c left outcome none
      (room_takes_no_step (Some c) outcome does) torn;
  whole = λ c input outcome left values content whole does torn. some_whole left
      (still_so IsCartridge c left outcome whole (room_takes_no_step (Some c) outcome does) torn);
  live = λ held input outcome keeps does. puts_in_none outcome (room_takes_no_step held outcome does);
}
