-- The laws of the command `make`.
use Rattle.std.proofs.Common.{[], ◌≡◌, ℕ, List, ◌∷◌, Some, IfSome, refl, inl, inr, arith, codes, ap, ◌∙◌}
use Rattle.cartridge_laws.proofs.FormatWriting.{some_and}
use Rattle.cartridge_spec.specs.Mounting.{Mounted, Mounts}
use Rattle.command_laws.proofs.CommandClean.{bare_writable, Clean, writable_leaves, making_leaves}
use Rattle.command_laws.proofs.CommandComplete.{where_some, make_goes}
use Rattle.command_laws.proofs.CommandKeeping.{same_stands}
use Rattle.command_laws.proofs.CommandPlainLaws.{appending_leaves, writable_is_function, making_one, writable_locked}
use Rattle.command_laws.proofs.CommandSteps.{writable_none, making_none}
use Rattle.command_laws.proofs.CommandTotals.{writable_answers, making_answers}
use Rattle.command_laws.proofs.CommandUnread.{writable_unread}
use Rattle.command_laws.proofs.CommandWhole.{making_whole, some_whole}
use Rattle.command_laws.proofs.TextCommands.{only, three_words, spelled_length, IsNumber-value, IsRead, Reading, word_at, number_value}
use Rattle.command_laws.proofs.TextCommands.{named}
use Rattle.command_laws.specs.CommandRecord.{CommandLaws}
use Rattle.command_spec.specs.Command.{HasForm, IsUnprotected}
use Rattle.command_spec.specs.Make.{Making, CanMake, make_command}
use Rattle.qic_base.specs.CartridgeTerms.{IsCartridge}
use Rattle.command_laws.specs.Outcomes.{MakeOutcome}
use Rattle.command_spec.specs.declared.status.Status.TheVariants as status
use Rattle.command_spec.specs.declared.words.Words.TheVariants as words

values_are : (words : List (List ℕ)) (seed count : ℕ) → HasForm words (make_command seed count).forms → (make_command seed count).values
values_are [] seed count (inl spelled) = absurd spelled
values_are [] seed count (inr spelled) = absurd spelled
values_are (word ∷ []) seed count (inl spelled) = absurd spelled.1
values_are (word ∷ []) seed count (inr spelled) = absurd spelled
values_are (word ∷ number ∷ []) seed count (inl spelled) = absurd spelled.1.1
values_are (word ∷ number ∷ []) seed count (inr spelled) = absurd spelled
values_are (word ∷ number ∷ volumes ∷ rest) seed count (inl spelled) = spelled.1.1.0.2
values_are (word ∷ number ∷ volumes ∷ rest) seed count (inr spelled) = absurd spelled

-- its words are read as it
abbrev pub make_reading : Reading
make_reading = record {
  name = codes "make";
  reads = λ behind. words.Make (number_value (word_at behind 0))
      (number_value (word_at behind 1));
}

pub make_read : (seed count : ℕ) (ws : List (List ℕ)) → HasForm ws (make_command seed count).forms →
    IsRead make_reading ws (words.Make seed count)
make_read seed count ws h =
    let s = three_words ws _ _ _ (only ws _ h) in
    record {
      behind = s.second ∷ s.third ∷ [];
      are = named s.are s.one;
      is = ap (λ n. words.Make n (number_value s.third)) (IsNumber-value s.second seed s.two.0)
          ∙ ap (words.Make seed) (IsNumber-value s.third count s.three.0);
    }

pub make_laws : (seed count : ℕ) → CommandLaws (make_command seed count)
make_laws seed count = record {
  values = λ words spelled. values_are words seed count spelled;
  few_words = λ ws h. let l = spelled_length ws _ (only ws _ h) in (omega arith, omega arith);
  answers = λ held input values whole. writable_answers (Making seed count) (making_answers seed count values) held whole;
  one = λ held input a b one other. writable_is_function (Making seed count) (making_one seed count) held a b one other;
  none_held = λ is input outcome plain. plain;
  locked = λ is c input outcome locked plain. writable_locked (Making seed count) c outcome locked plain;
  in_front = λ is c segment input outcome free first plain. absurd (cc);
  done = λ held input outcome whole values needs.
      where_some (λ c. IsUnprotected c × CanMake c seed count) held
      (λ h. IfSome h IsCartridge → MakeOutcome seed count h outcome → outcome.status ≡ status.Done)
      (λ c can known does. make_goes seed count c outcome values known can.0 can.1 does) needs whole;
  texts = record {
    none_printed = λ answer other. inl refl;
    nothing_front = tt;
    text_front = λ text prints. tt;
    shorter_front = λ front rest text parts prints. tt;
    refused_front = λ answer text prints. tt;
  };
  blind = λ is. record {
    any = λ held input other outcome plain. plain;
    no_append = refl;
    no_lines = refl;
    no_fault = λ input line place fault. fault;
  };
  stands = λ c plain keeps stood input outcome left does torn. same_stands c plain left stood
      (appending_leaves (Making seed count) (Some c) left outcome does torn keeps);
  mounts = λ c header words table entries keeps mounts input outcome left does torn.
      some_and (λ d. Mounts d (Mounted header words table entries)) c left mounts
      (appending_leaves (Making seed count) (Some c) left outcome does torn keeps);
  clean = λ c area keeps is_area clean input outcome left does torn.
      writable_leaves (Clean area is_area) (Making seed count) (making_leaves area is_area seed count) c outcome does clean left torn;
  bare = λ c keeps bare input outcome left does torn. bare_writable (Making seed count) c outcome does bare left torn;
  unread = λ c copies keeps none input outcome left does torn. writable_unread (Making seed count) c outcome left none does torn;
  whole = λ c input outcome left values content whole does torn.
      some_whole left (writable_leaves IsCartridge (Making seed count) (making_whole seed count values) c outcome does whole left torn);
  live = λ held input outcome keeps does. writable_none (Making seed count) (making_none seed count) held outcome does;
}
