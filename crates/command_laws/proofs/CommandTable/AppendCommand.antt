-- The laws of the command `append`.
use Rattle.std.proofs.Common.{◌≡◌, ℕ, List, Some, refl, codes, inl, inr, arith, [], ◌∷◌, ap, ◌∙◌, sym}
use Rattle.cartridge_laws.proofs.FormatWriting.{some_and}
use Rattle.cartridge_spec.specs.Mounting.{Mounted, Mounts}
use Rattle.command_laws.proofs.CommandAppends.{can_append}
use Rattle.command_laws.proofs.CommandClean.{bare_writable, Clean, writable_leaves, appends_leave}
use Rattle.command_laws.proofs.CommandComplete.{where_some, append_goes}
use Rattle.command_laws.proofs.CommandKeeping.{same_stands}
use Rattle.command_laws.proofs.CommandPlainLaws.{appending_leaves, writable_is_function, appends_one, writable_locked}
use Rattle.command_laws.proofs.CommandSteps.{writable_none, appends_none}
use Rattle.command_laws.proofs.CommandTexts.{plain_texts}
use Rattle.command_laws.proofs.CommandTotals.{writable_answers, appends_answers}
use Rattle.command_laws.proofs.CommandValues.{dated_values}
use Rattle.command_laws.proofs.CommandUnread.{writable_unread}
use Rattle.command_laws.proofs.CommandWhole.{append_whole, some_whole}
use Rattle.command_laws.proofs.TextCommands.{dated_cases, two_words, three_words, dated_length, IsDateWord-value, IsRead, Reading, word_at}
use Rattle.command_laws.proofs.TextCommands.{date_behind, named, date_value}
use Rattle.command_laws.specs.AppendTerms.{content_with}
use Rattle.command_laws.specs.CommandRecord.{CommandLaws}
use Rattle.command_laws.specs.Outcomes.{Appends}
use Rattle.command_spec.specs.Append.{AppendOutcome, append_command}
use Rattle.command_laws.specs.Needs.{CanTake}
use Rattle.command_spec.specs.Command.{HasForm, IsUnprotected}
use Rattle.qic_base.specs.Field.{filled}
use Rattle.command_spec.specs.declared.status.Status.TheVariants as status
use Rattle.command_spec.specs.declared.words.Words.TheVariants as words

-- its words are read as it
abbrev pub append_reading : Reading
append_reading = record { name = codes "append"; reads = λ behind. words.Append (filled (word_at behind 0)) (date_behind behind) }

pub append_read : (name : List ℕ) (date : ℕ) (ws : List (List ℕ)) → HasForm ws (append_command name date).forms →
    IsRead append_reading ws (words.Append name date)
append_read name date ws h = elim (dated_cases ws _ date h) [
  | inl full ↦
      let s = three_words ws _ _ _ full in
      record {
        behind = s.second ∷ s.third ∷ [];
        are = named s.are s.one;
        is = ap (λ n. words.Append n (date_value s.third)) (sym s.two.1) ∙ ap (words.Append name) (IsDateWord-value s.third date s.three);
      }
  | inr bare ↦ let s = two_words ws _ _ bare.0 in
      record {
        behind = s.second ∷ [];
        are = named s.are s.one;
        is = ap (λ n. words.Append n 0) (sym s.two.1)
            ∙ ap (words.Append name) (sym bare.1);
      }
]

pub append_laws : (name : List ℕ) (date : ℕ) → CommandLaws (append_command name date)
append_laws name date = record {
  values = λ words spelled. dated_values (codes "append") words name date spelled;
  few_words = λ ws h. let l = dated_length ws _ _ date h in (omega arith, omega arith);
  answers = λ held input values whole. writable_answers (Appends name date input) (appends_answers name date input) held whole;
  one = λ held input a b one other. writable_is_function (Appends name date input) (appends_one name date input) held a b one other;
  none_held = λ is input outcome plain. plain;
  locked = λ is c input outcome locked plain. writable_locked (Appends name date input) c outcome locked plain;
  in_front = λ is c segment input outcome free first plain. absurd (cc);
  done = λ held input outcome whole values. where_some (λ c. IsUnprotected c × CanTake c input) held
      (λ h. AppendOutcome name date h input outcome → outcome.status ≡ status.Done)
      (λ c can does. append_goes name date input c outcome can.0 can.1 does);
  texts = plain_texts _ _ (0, (0, (0, (0, refl))));
  blind = λ is. absurd (cc);
  stands = λ c plain keeps stood input outcome left does torn.
      same_stands c plain left stood (appending_leaves (Appends name date input) (Some c) left outcome does torn keeps);
  mounts = λ c header words table entries keeps mounts input outcome left does torn.
      some_and (λ d. Mounts d (Mounted header words table entries)) c left mounts
      (appending_leaves (Appends name date input) (Some c) left outcome does torn keeps);
  clean = λ c area keeps is_area clean input outcome left does torn.
      writable_leaves (Clean area is_area) (Appends name date input) (appends_leave area is_area name date input) c outcome does clean left
      torn;
  bare = λ c keeps bare input outcome left does torn. bare_writable (Appends name date input) c outcome does bare left torn;
  unread = λ c copies keeps none input outcome left does torn. writable_unread (Appends name date input) c outcome left none does torn;
  whole = λ c input outcome left values content whole does torn.
      some_whole left (append_whole (content_with name date input) (can_append values content) c outcome does whole left torn);
  live = λ held input outcome keeps does. writable_none (Appends name date input) (appends_none name date input) held outcome does;
}
