-- The laws of the command `new`.
use Rattle.std.proofs.Common.{Some, [], ◌∙◌, ℕ, List, ◌∷◌, ap, refl, sym, inl, inr, arith, codes}
use Rattle.command_laws.proofs.CommandComplete.{status_of}
use Rattle.command_laws.proofs.CommandTexts.{plain_texts}
use Rattle.command_laws.proofs.CommandWhole.{renewed_whole}
use Rattle.command_laws.proofs.TextCommands.{only, two_words, spelled_length, IsNumber-value, IsRead, Reading, word_at, number_value, named}
use Rattle.command_laws.specs.CommandRecord.{CommandLaws}
use Rattle.command_spec.specs.Command.{HasForm}
use Rattle.command_spec.specs.Single.{new_command}
use Rattle.command_spec.specs.declared.words.Words.TheVariants as words

values_are : (words : List (List ℕ)) (segments : ℕ) → HasForm words (new_command segments).forms → (new_command segments).values
values_are [] segments (inl spelled) = absurd spelled
values_are [] segments (inr spelled) = absurd spelled
values_are (word ∷ []) segments (inl spelled) = absurd spelled.1
values_are (word ∷ []) segments (inr spelled) = absurd spelled
values_are (word ∷ number ∷ rest) segments (inl spelled) = record { shortest = spelled.1.0.1; longest = spelled.1.0.2 }
values_are (word ∷ number ∷ rest) segments (inr spelled) = absurd spelled

-- its words are read as it
abbrev pub new_reading : Reading
new_reading = record { name = codes "new"; reads = λ behind. words.New (number_value (word_at behind 0)) }

pub new_read : (segments : ℕ) (ws : List (List ℕ)) → HasForm ws (new_command segments).forms → IsRead new_reading ws (words.New segments)
new_read segments ws h =
    let s = two_words ws _ _ (only ws _ h) in
    record { behind = s.second ∷ []; are = named s.are s.one; is = ap words.New (IsNumber-value s.second segments s.two.0) }

pub new_laws : (segments : ℕ) → CommandLaws (new_command segments)
new_laws segments = record {
  values = λ words spelled. values_are words segments spelled;
  few_words = λ ws h. let l = spelled_length ws _ (only ws _ h) in (omega arith, omega arith);
  answers = λ held input values whole. (_, refl);
  one = λ held input a b one other. one ∙ sym other;
  none_held = λ is input outcome plain. absurd (cc);
  locked = λ is c input outcome locked plain. absurd (cc);
  in_front = λ is c segment input outcome free first plain. absurd (cc);
  done = λ held input outcome whole values needs does. ap status_of does;
  texts = plain_texts _ _ refl;
  blind = λ is. record {
    any = λ held input other outcome plain. plain;
    no_append = refl;
    no_lines = refl;
    no_fault = λ input line place fault. fault;
  };
  stands = λ c plain keeps. absurd keeps;
  mounts = λ c header words table entries keeps. absurd keeps;
  clean = λ c area keeps. absurd keeps;
  bare = λ c keeps. absurd keeps;
  unread = λ c copies. absurd copies;
  whole = λ c input outcome left values content whole does torn.
      renewed_whole segments (Some c) left outcome values whole does torn;
  live = λ held input outcome keeps. absurd keeps;
}
