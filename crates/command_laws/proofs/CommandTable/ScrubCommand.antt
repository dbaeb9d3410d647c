-- The laws of the command `scrub`.
use Rattle.std.proofs.Common.{[], ◌≡◌, ◌∷◌, ◌++◌, None, Some, refl, ℕ, List, arith, codes}
use Rattle.cartridge_spec.specs.Mounting.{Mounted}
use Rattle.cartridge_spec.specs.Says.{Mismatch}
use Rattle.command_laws.proofs.CommandClean.{bare_writable, Clean, writable_leaves, mends_leave}
use Rattle.command_laws.proofs.CommandComplete.{where_some, scrub_goes}
use Rattle.command_laws.proofs.CommandKeeping.{scrub_stands, scrub_mounts}
use Rattle.command_laws.proofs.CommandPlainLaws.{scrubbing_leaves, writable_is_function, mends_one, writable_locked}
use Rattle.command_laws.proofs.CommandSteps.{writable_none, mends_none}
use Rattle.command_laws.proofs.CommandTexts.{plain_texts}
use Rattle.command_laws.proofs.CommandTotals.{writable_answers, mends_answers}
use Rattle.command_laws.proofs.CommandUnread.{writable_unread}
use Rattle.command_laws.proofs.CommandWhole.{mends_whole, some_whole}
use Rattle.command_laws.proofs.TextCommands.{only, one_word, spelled_length, IsRead, Reading, named}
use Rattle.command_laws.specs.CommandRecord.{CommandLaws}
use Rattle.command_spec.specs.Command.{HasForm, IsUnprotected, CanBeMounted}
use Rattle.command_laws.specs.Outcomes.{Mends, ScrubOutcome}
use Rattle.command_spec.specs.Scrub.{Counts, Finding, IsTextFor, counts_line, lines_for, looked_at, scrub_command}
use Rattle.command_spec.specs.declared.depth.Depth.{Depth}
use Rattle.command_spec.specs.declared.depth.Depth.TheVariants.{Shallow}
use Rattle.cartridge_spec.specs.Table.{Entry}
use Rattle.qic_base.specs.CartridgeTerms.{IsCartridge}
use Rattle.command_spec.specs.declared.words.Words.{Words}
use Rattle.command_spec.specs.declared.status.Status.TheVariants as status
use Rattle.command_spec.specs.declared.words.Words.TheVariants as words

-- The words of both forms begin with one word.
abbrev pub read_form : (behind : List (List ℕ)) → Words
read_form [] = words.Scrub
read_form (word ∷ behind) = words.ScrubDeep

abbrev pub scrub_reading : Reading
scrub_reading = record { name = codes "scrub"; reads = read_form }

-- its words are read as it
pub scrub_read : (ws : List (List ℕ)) → HasForm ws scrub_command.forms → IsRead scrub_reading ws words.Scrub
scrub_read ws h = let s = one_word ws _ (only ws _ h) in record { behind = []; are = named s.are s.one; is = refl }

-- a segment that doesn't read
abbrev unread : Finding
unread = record { saying = Mismatch; wrong = None }

abbrev none_read : Counts
none_read = record { segments = 3; mended = 0; unreadable = 3 }

-- a scrub of no volume that reads nothing prints a text, in each form
pub text_of_none : (depth : Depth) → (words : List ℕ)
    × ((entries : List Entry) × ((counts : Counts) × IsTextFor depth (looked_at words entries) counts
    (lines_for (looked_at [] []) (unread ∷ unread ∷ unread ∷ []) ++ counts_line none_read)))
text_of_none depth =
    let is : IsTextFor depth (looked_at [] []) none_read
    (lines_for (looked_at [] []) (unread ∷ unread ∷ unread ∷ []) ++ counts_line none_read) = record {
      findings = unread ∷ unread ∷ unread ∷ [];
      may = (tt, (tt, (tt, tt)));
      lines = refl;
      segments = refl;
      unreadable = refl;
    } in
    ([], ([], (none_read, is)))

pub scrub_laws : CommandLaws scrub_command
scrub_laws = record {
  values = λ words spelled. tt;
  few_words = λ ws h. let l = spelled_length ws _ (only ws _ h) in (omega arith, omega arith);
  answers = λ held input values whole. writable_answers Mends mends_answers held whole;
  one = λ held input a b one other. writable_is_function Mends mends_one held a b one other;
  none_held = λ is input outcome plain. plain;
  locked = λ is c input outcome locked plain. writable_locked Mends c outcome locked plain;
  in_front = λ is c segment input outcome free first plain. absurd (cc);
  done = λ held input outcome whole values. where_some (λ c. IsUnprotected c × CanBeMounted c) held
      (λ h. ScrubOutcome h outcome → outcome.status ≡ status.Done) (λ c can does. scrub_goes c can.1.0 outcome can.0 can.1.1 does);
  texts = plain_texts _ _ (text_of_none Shallow);
  blind = λ is. record {
    any = λ held input other outcome plain. plain;
    no_append = refl;
    no_lines = refl;
    no_fault = λ input line place fault. fault;
  };
  stands = λ c plain keeps stood input outcome left does torn. scrub_stands c plain left stood
      (scrubbing_leaves (Some c) left outcome does torn);
  mounts = λ c header words table entries keeps mounts input outcome left does torn.
      scrub_mounts c (Mounted header words table entries) left mounts (scrubbing_leaves (Some c) left outcome does torn);
  clean = λ c area keeps is_area clean input outcome left does torn.
      writable_leaves (Clean area is_area) Mends (mends_leave area is_area) c outcome does clean left torn;
  bare = λ c keeps bare input outcome left does torn. bare_writable Mends c outcome does bare left torn;
  unread = λ c copies keeps none input outcome left does torn. writable_unread Mends c outcome left none does torn;
  whole = λ c input outcome left values content whole does torn.
      some_whole left (writable_leaves IsCartridge Mends mends_whole c outcome does whole left torn);
  live = λ held input outcome keeps does. writable_none Mends mends_none held outcome does;
}
