-- The laws of the command `lose`.
use Rattle.std.proofs.Common.{◌≡◌, ℕ, Some, refl, List, arith, codes, [], ◌∷◌, ap, ◌∙◌}
use Rattle.cartridge_laws.proofs.ChangeMounted.{worn_mounts}
use Rattle.cartridge_laws.proofs.ChangeStanding.{worn_stands}
use Rattle.cartridge_laws.proofs.ChangeViews.{worn_reads_no_more}
use Rattle.cartridge_spec.specs.Formatting.{HasNoHeader}
use Rattle.cartridge_spec.specs.Mounting.{Mounted, Mounts}
use Rattle.cartridge_spec.specs.Volumes.{Stands}
use Rattle.command_laws.proofs.CommandClean.{clean_from_less, Clean, lose_leaving}
use Rattle.command_laws.proofs.CommandComplete.{where_some, lose_done}
use Rattle.command_laws.proofs.CommandKeeping.{sector_left}
use Rattle.command_laws.proofs.CommandPlainLaws.{lose_is_function, lose_leaves}
use Rattle.command_laws.proofs.CommandSteps.{lose_none}
use Rattle.command_laws.proofs.CommandTexts.{plain_texts}
use Rattle.command_laws.proofs.CommandTotals.{lose_answers}
use Rattle.command_laws.proofs.CommandUnread.{worn_neither}
use Rattle.command_laws.proofs.CommandWhole.{some_whole}
use Rattle.command_laws.proofs.WholeSteps.{worn_whole}
use Rattle.command_laws.proofs.TextCommands.{only, three_words, spelled_length, IsNumber-value, IsRead, Reading, word_at, number_value}
use Rattle.command_laws.proofs.TextCommands.{named}
use Rattle.command_laws.specs.CommandRecord.{CommandLaws}
use Rattle.command_spec.specs.Command.{HasForm}
use Rattle.command_spec.specs.Single.{LoseOutcome, lose_command}
use Rattle.command_spec.specs.Outcome.{HasPlace}
use Rattle.qic_base.specs.Step.{changed, Wear}
use Rattle.qic_base.specs.CartridgeTerms.{IsCartridge}
use Rattle.cartridge_laws.proofs.ChangeClean.{no_header_less}
use Rattle.cartridge_laws.specs.HeaderTerms.{NeitherReads}
use Rattle.command_spec.specs.declared.status.Status.TheVariants as status
use Rattle.command_spec.specs.declared.words.Words.TheVariants as words

-- its words are read as it
abbrev pub lose_reading : Reading
lose_reading = record {
  name = codes "lose";
  reads = λ behind. words.Lose (number_value (word_at behind 0))
      (number_value (word_at behind 1));
}

pub lose_read : (segment sector : ℕ) (ws : List (List ℕ)) → HasForm ws (lose_command segment sector).forms →
    IsRead lose_reading ws (words.Lose segment sector)
lose_read segment sector ws h =
    let s = three_words ws _ _ _ (only ws _ h) in
    record {
      behind = s.second ∷ s.third ∷ [];
      are = named s.are s.one;
      is = ap (λ n. words.Lose n (number_value s.third)) (IsNumber-value s.second segment s.two.0)
          ∙ ap (words.Lose segment) (IsNumber-value s.third sector s.three.0);
    }

pub lose_laws : (segment sector : ℕ) → CommandLaws (lose_command segment sector)
lose_laws segment sector = record {
  values = λ words spelled. tt;
  few_words = λ ws h. let l = spelled_length ws _ (only ws _ h) in (omega arith, omega arith);
  answers = λ held input values whole. lose_answers segment sector held;
  one = λ held input a b one other. lose_is_function segment sector held a b one other;
  none_held = λ is input outcome plain. plain;
  locked = λ is c input outcome locked plain. absurd (cc);
  in_front = λ is c segment input outcome free first plain. absurd (cc);
  done = λ held input outcome whole values. where_some (λ c. HasPlace c segment sector) held
      (λ h. LoseOutcome segment sector h outcome → outcome.status ≡ status.Done)
      (λ c can does. lose_done segment sector c outcome can does);
  texts = plain_texts _ _ refl;
  blind = λ is. record {
    any = λ held input other outcome plain. plain;
    no_append = refl;
    no_lines = refl;
    no_fault = λ input line place fault. fault;
  };
  stands = λ c plain keeps stood input outcome left does torn.
      sector_left (λ d. Stands d plain) (Wear segment sector) segment sector c left stood
      (λ place. worn_stands c plain segment sector place.in_segment stood (keeps place))
      (lose_leaves segment sector (Some c) left outcome does torn);
  mounts = λ c header words table entries keeps mounts input outcome left does torn.
      sector_left (λ d. Mounts d (Mounted header words table entries)) (Wear segment sector) segment sector c left mounts
      (λ place. worn_mounts c segment sector header words table entries place.in_segment (keeps place) mounts)
      (lose_leaves segment sector (Some c) left outcome does torn);
  clean = λ c area keeps is_area clean input outcome left does torn.
      lose_leaving (Clean area is_area) segment sector c outcome does clean
      (clean_from_less area is_area c (changed (Wear segment sector) c) (worn_reads_no_more c segment sector) clean) left torn;
  bare = λ c keeps bare input outcome left does torn.
      lose_leaving HasNoHeader segment sector c outcome does bare
      (no_header_less c (changed (Wear segment sector) c) (worn_reads_no_more c segment sector) bare) left torn;
  unread = λ c copies keeps none input outcome left does torn.
      sector_left NeitherReads (Wear segment sector) segment sector c left none
      (λ place. worn_neither c segment sector place.in_segment (keeps place) none)
      (lose_leaves segment sector (Some c) left outcome does torn);
  whole = λ c input outcome left values content whole does torn.
      some_whole left (lose_leaving IsCartridge segment sector c outcome does whole (worn_whole c segment sector whole) left torn);
  live = λ held input outcome keeps does. lose_none segment sector held outcome does;
}
