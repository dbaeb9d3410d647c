-- The laws of the command `defect`.
use Rattle.std.proofs.Common.{◌≡◌, ℕ, true, Some, refl, List, arith, codes, [], ◌∷◌, ap, ◌∙◌}
use Rattle.cartridge_laws.proofs.ChangeMounted.{spoiled_mounts}
use Rattle.cartridge_laws.proofs.ChangeStanding.{spoiled_cells, spoiled_stands}
use Rattle.cartridge_laws.proofs.ChangeViews.{spoiled_alike}
use Rattle.cartridge_spec.specs.Formatting.{HasNoHeader}
use Rattle.cartridge_spec.specs.Mounting.{Mounted, Mounts}
use Rattle.cartridge_spec.specs.Volumes.{Stands}
use Rattle.command_laws.proofs.CommandClean.{clean_from_less, Clean, defect_leaving}
use Rattle.command_laws.proofs.CommandComplete.{where_some, defect_done}
use Rattle.command_laws.proofs.CommandKeeping.{sector_left}
use Rattle.command_laws.proofs.CommandPlainLaws.{defect_is_function, defect_leaves}
use Rattle.command_laws.proofs.CommandSteps.{defect_none}
use Rattle.command_laws.proofs.CommandTexts.{plain_texts}
use Rattle.command_laws.proofs.CommandTotals.{defect_answers}
use Rattle.command_laws.proofs.CommandUnread.{neither_alike}
use Rattle.command_laws.proofs.CommandWhole.{some_whole}
use Rattle.command_laws.proofs.WholeSteps.{spoiled_whole}
use Rattle.command_laws.proofs.TextCommands.{only, three_words, spelled_length, IsNumber-value, IsRead, Reading, word_at, number_value}
use Rattle.command_laws.proofs.TextCommands.{named}
use Rattle.command_laws.specs.CommandRecord.{CommandLaws}
use Rattle.command_spec.specs.Command.{HasForm}
use Rattle.command_spec.specs.Single.{DefectOutcome, defect_command}
use Rattle.command_spec.specs.Outcome.{HasPlace}
use Rattle.qic_base.specs.Cartridge.{view_at}
use Rattle.qic_base.specs.CartridgeTerms.{IsCartridge}
use Rattle.qic_base.specs.Step.{changed, Spoil}
use Rattle.qic_base.specs.Tape.{spoil_answer}
use Rattle.cartridge_laws.proofs.ChangeClean.{no_header_less}
use Rattle.cartridge_laws.specs.HeaderTerms.{NeitherReads}
use Rattle.command_spec.specs.declared.status.Status.TheVariants as status
use Rattle.command_spec.specs.declared.words.Words.TheVariants as words

-- its words are read as it
abbrev pub defect_reading : Reading
defect_reading = record {
  name = codes "defect";
  reads = λ behind. words.Defect (number_value (word_at behind 0))
      (number_value (word_at behind 1));
}

pub defect_read : (segment sector : ℕ) (ws : List (List ℕ)) → HasForm ws (defect_command segment sector).forms →
    IsRead defect_reading ws (words.Defect segment sector)
defect_read segment sector ws h =
    let s = three_words ws _ _ _ (only ws _ h) in
    record {
      behind = s.second ∷ s.third ∷ [];
      are = named s.are s.one;
      is = ap (λ n. words.Defect n (number_value s.third)) (IsNumber-value s.second segment s.two.0)
          ∙ ap (words.Defect segment) (IsNumber-value s.third sector s.three.0);
    }

pub defect_laws : (segment sector : ℕ) → CommandLaws (defect_command segment sector)
defect_laws segment sector = record {
  values = λ words spelled. tt;
  few_words = λ ws h. let l = spelled_length ws _ (only ws _ h) in (omega arith, omega arith);
  answers = λ held input values whole. defect_answers segment sector held;
  one = λ held input a b one other. defect_is_function segment sector held a b one other;
  none_held = λ is input outcome plain. plain;
  locked = λ is c input outcome locked plain. absurd (cc);
  in_front = λ is c segment input outcome free first plain. absurd (cc);
  done = λ held input outcome whole values. where_some (λ c. HasPlace c segment sector × (spoil_answer (view_at c segment sector) ≡ true))
      held (λ h. DefectOutcome segment sector h outcome → outcome.status ≡ status.Done)
      (λ c can does. defect_done segment sector c outcome can.0 can.1 does);
  texts = plain_texts _ _ refl;
  blind = λ is. record {
    any = λ held input other outcome plain. plain;
    no_append = refl;
    no_lines = refl;
    no_fault = λ input line place fault. fault;
  };
  stands = λ c plain keeps stood input outcome left does torn.
      sector_left (λ d. Stands d plain) (Spoil segment sector) segment sector c left stood
      (λ place. spoiled_stands c plain segment sector stood)
      (defect_leaves segment sector (Some c) left outcome does torn);
  mounts = λ c header words table entries keeps mounts input outcome left does torn.
      sector_left (λ d. Mounts d (Mounted header words table entries)) (Spoil segment sector) segment sector c left mounts
      (λ place. spoiled_mounts c segment sector header words table entries mounts)
      (defect_leaves segment sector (Some c) left outcome does torn);
  clean = λ c area keeps is_area clean input outcome left does torn.
      defect_leaving (Clean area is_area) segment sector c outcome does clean
      (clean_from_less area is_area c (changed (Spoil segment sector) c) (spoiled_alike c segment sector).no_more clean) left torn;
  bare = λ c keeps bare input outcome left does torn.
      defect_leaving HasNoHeader segment sector c outcome does bare
      (no_header_less c (changed (Spoil segment sector) c) (spoiled_alike c segment sector).no_more bare) left torn;
  unread = λ c copies keeps none input outcome left does torn.
      sector_left NeitherReads (Spoil segment sector) segment sector c left none
      (λ place. neither_alike c (changed (Spoil segment sector) c) (λ copy h. spoiled_cells c segment sector copy) none)
      (defect_leaves segment sector (Some c) left outcome does torn);
  whole = λ c input outcome left values content whole does torn.
      some_whole left (defect_leaving IsCartridge segment sector c outcome does whole (spoiled_whole c segment sector whole) left torn);
  live = λ held input outcome keeps does. defect_none segment sector held outcome does;
}
