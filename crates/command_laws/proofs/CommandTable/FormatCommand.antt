-- The laws of the command `format`.
use Rattle.std.proofs.Common.{◌≡◌, ℕ, List, Some, refl, codes, inl, inr, arith, [], ◌∷◌, ap, ◌∙◌, sym}
use Rattle.cartridge_spec.specs.Formatting.{HasNoHeader, HasNoDefectInFront}
use Rattle.command_laws.proofs.CommandClean.{Clean, format_leaves as leaves_format}
use Rattle.command_laws.proofs.CommandComplete.{where_some, format_done}
use Rattle.command_laws.proofs.CommandKeeping.{format_stands, format_mounts}
use Rattle.command_laws.proofs.CommandPlainLaws.{format_in_front, format_leaves, format_is_function, format_locked}
use Rattle.command_laws.proofs.CommandSteps.{format_none}
use Rattle.command_laws.proofs.CommandTexts.{plain_texts}
use Rattle.command_laws.proofs.CommandTotals.{format_answers}
use Rattle.command_laws.proofs.CommandValues.{dated_values}
use Rattle.command_laws.proofs.CommandWhole.{format_whole, some_whole}
use Rattle.command_laws.proofs.TextCommands.{dated_cases, two_words, three_words, dated_length, IsDateWord-value, IsRead, Reading, word_at}
use Rattle.command_laws.proofs.TextCommands.{date_behind, named, date_value}
use Rattle.command_laws.specs.CommandRecord.{CommandLaws}
use Rattle.command_spec.specs.Command.{HasForm, IsUnprotected}
use Rattle.command_spec.specs.Single.{FormatOutcome, format_command}
use Rattle.qic_base.specs.Field.{filled}
use Rattle.cartridge_laws.specs.HeaderTerms.{NeitherReads}
use Rattle.command_spec.specs.declared.status.Status.TheVariants as status
use Rattle.command_spec.specs.declared.words.Words.TheVariants as words

-- its words are read as it
abbrev pub format_reading : Reading
format_reading = record { name = codes "format"; reads = λ behind. words.Format (filled (word_at behind 0)) (date_behind behind) }

pub format_read : (label : List ℕ) (date : ℕ) (ws : List (List ℕ)) → HasForm ws (format_command label date).forms →
    IsRead format_reading ws (words.Format label date)
format_read label date ws h = elim (dated_cases ws _ date h) [
  | inl full ↦
      let s = three_words ws _ _ _ full in
      record {
        behind = s.second ∷ s.third ∷ [];
        are = named s.are s.one;
        is = ap (λ n. words.Format n (date_value s.third)) (sym s.two.1) ∙ ap (words.Format label) (IsDateWord-value s.third date s.three);
      }
  | inr bare ↦ let s = two_words ws _ _ bare.0 in
      record {
        behind = s.second ∷ [];
        are = named s.are s.one;
        is = ap (λ n. words.Format n 0) (sym s.two.1)
            ∙ ap (words.Format label) (sym bare.1);
      }
]

pub format_laws : (label : List ℕ) (date : ℕ) → CommandLaws (format_command label date)
format_laws label date = record {
  values = λ words spelled. dated_values (codes "format") words label date spelled;
  few_words = λ ws h. let l = dated_length ws _ _ date h in (omega arith, omega arith);
  answers = λ held input values whole. format_answers label date held values.0 values.1 whole;
  one = λ held input a b one other. format_is_function label date held a b one other;
  none_held = λ is input outcome plain. plain;
  locked = λ is c input outcome locked plain. format_locked label date c outcome locked plain;
  in_front = λ is c segment input outcome free first plain. format_in_front label date c segment outcome free first plain;
  done = λ held input outcome whole values. where_some (λ c. IsUnprotected c × HasNoDefectInFront c) held
      (λ h. FormatOutcome label date h outcome → outcome.status ≡ status.Done)
      (λ c can does. format_done label date c outcome can.0 can.1 does);
  texts = plain_texts _ _ (0, (0, refl));
  blind = λ is. record {
    any = λ held input other outcome plain. plain;
    no_append = refl;
    no_lines = refl;
    no_fault = λ input line place fault. fault;
  };
  stands = λ c plain keeps stood input outcome left does torn. format_stands label date c plain left stood keeps
      (format_leaves label date (Some c) left outcome does torn);
  mounts = λ c header words table entries keeps mounts input outcome left does torn.
      format_mounts c header words table entries left mounts label date keeps (format_leaves label date (Some c) left outcome does torn);
  clean = λ c area keeps is_area clean input outcome left does torn. leaves_format
      (Clean area is_area) label date c outcome does keeps clean left torn;
  bare = λ c keeps bare input outcome left does torn. leaves_format HasNoHeader label date c outcome does keeps bare left torn;
  unread = λ c copies keeps none input outcome left does torn. leaves_format NeitherReads label date c outcome does copies none left torn;
  whole = λ c input outcome left values content whole does torn.
      some_whole left (format_whole label date c outcome does whole left torn);
  live = λ held input outcome keeps does. format_none label date held outcome does;
}
