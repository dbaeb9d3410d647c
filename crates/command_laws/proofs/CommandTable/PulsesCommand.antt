-- The laws of the command `pulses`.
use Rattle.std.proofs.Common.{[], Some, None, refl, sym, subst, append-nil, ℕ, List, arith, codes}
use Rattle.cartridge_laws.proofs.ChangeStanding.{marks_read_no_more}
use Rattle.cartridge_spec.specs.Formatting.{HasNoHeader}
use Rattle.command_laws.proofs.CommandClean.{clean_from_less, Clean, sent_leaving}
use Rattle.command_laws.proofs.CommandComplete.{pulses_go}
use Rattle.command_laws.proofs.CommandKeeping.{pulses_stand, pulses_mount}
use Rattle.command_laws.proofs.CommandPlainLaws.{sent_leaves, sent_is_function}
use Rattle.command_laws.proofs.CommandSteps.{sent_none}
use Rattle.command_laws.proofs.CommandTexts.{fronted}
use Rattle.command_laws.proofs.CommandTotals.{sent_answers}
use Rattle.command_laws.proofs.CommandUnread.{marked_neither}
use Rattle.command_laws.proofs.CommandWhole.{some_whole}
use Rattle.command_laws.proofs.WholeSteps.{referenced_whole}
use Rattle.command_laws.proofs.TextCommands.{only, one_word, spelled_length, IsRead, Reading, named}
use Rattle.command_laws.specs.CommandRecord.{CommandLaws}
use Rattle.command_spec.specs.Command.{HasForm}
use Rattle.command_spec.specs.Pulses.{AreLevels, pulses_command}
use Rattle.qic_base.specs.Step.{changed, SetReferenced}
use Rattle.qic_base.specs.CartridgeTerms.{IsCartridge}
use Rattle.cartridge_laws.proofs.ChangeClean.{no_header_less}
use Rattle.cartridge_laws.specs.HeaderTerms.{NeitherReads}
use Rattle.command_spec.specs.declared.words.Words.TheVariants as words

-- its words are read as it
abbrev pub pulses_reading : Reading
pulses_reading = record { name = codes "pulses"; reads = λ behind. words.Pulses }

pub pulses_read : (ws : List (List ℕ)) → HasForm ws pulses_command.forms → IsRead pulses_reading ws words.Pulses
pulses_read ws h = let s = one_word ws _ (only ws _ h) in record { behind = []; are = named s.are s.one; is = refl }

pub pulses_laws : CommandLaws pulses_command
pulses_laws = record {
  values = λ words spelled. tt;
  few_words = λ ws h. let l = spelled_length ws _ (only ws _ h) in (omega arith, omega arith);
  answers = λ held input values whole. sent_answers held input;
  one = λ held input a b one other. sent_is_function held input a b one other;
  none_held = λ is input outcome plain. absurd (cc);
  locked = λ is c input outcome locked plain. absurd (cc);
  in_front = λ is c segment input outcome free first plain. absurd (cc);
  done = λ held input outcome whole values needs does. pulses_go held input outcome needs does;
  texts =
      fronted AreLevels (λ answer text. AreLevels text) _ (None, ([], refl)) (λ answer other. (None, ([], refl)))
      (λ answer front levels. ([], subst AreLevels (sym (append-nil front)) levels));
  blind = λ is. absurd (cc);
  stands = λ c plain keeps stood input outcome left does torn. pulses_stand c plain left stood
      (sent_leaves (Some c) left input outcome does torn);
  mounts = λ c header words table entries keeps mounts input outcome left does torn.
      pulses_mount c header words table entries left mounts (sent_leaves (Some c) left input outcome does torn);
  clean = λ c area keeps is_area clean input outcome left does torn.
      sent_leaving (Clean area is_area) c input outcome does clean
      (clean_from_less area is_area c (changed SetReferenced c) (marks_read_no_more c (changed (SetReferenced) c) refl) clean) left torn;
  bare = λ c keeps bare input outcome left does torn.
      sent_leaving HasNoHeader c input outcome does bare
      (no_header_less c (changed SetReferenced c) (marks_read_no_more c (changed (SetReferenced) c) refl) bare) left torn;
  unread = λ c copies keeps none input outcome left does torn.
      sent_leaving NeitherReads c input outcome does none (marked_neither c (changed SetReferenced c) refl none) left torn;
  whole = λ c input outcome left values content whole does torn.
      some_whole left (sent_leaving IsCartridge c input outcome does whole (referenced_whole c whole) left torn);
  live = λ held input outcome keeps does. sent_none held input outcome does;
}
