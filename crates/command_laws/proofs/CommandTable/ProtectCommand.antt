-- The laws of the command `protect`.
use Rattle.std.proofs.Common.{◌≡◌, Bool, ap, refl, ◌≤◌, ℕ, length, List, true, false, arith, codes, [], ◌∷◌}
use Rattle.std.specs.Str.{bytes_eq}
use Rattle.cartridge_laws.proofs.ChangeMounted.{protected_mounts}
use Rattle.cartridge_laws.proofs.ChangeStanding.{marks_read_no_more, protected_stands}
use Rattle.command_laws.proofs.CommandComplete.{status_of, where_some}
use Rattle.command_laws.proofs.CommandStep.{KeepsAll, step_leaves, step_answers, step_is_one, step_no_renew, step_stands, step_mounts}
use Rattle.command_laws.proofs.CommandStep.{step_clean, step_bare}
use Rattle.command_laws.proofs.CommandTexts.{plain_texts}
use Rattle.command_laws.proofs.CommandUnread.{marked_neither}
use Rattle.command_laws.proofs.CommandWhole.{some_whole, step_whole}
use Rattle.command_laws.proofs.WholeSteps.{protected_whole}
use Rattle.command_laws.proofs.TextCommands.{only, two_words, spelled_length, IsRead, Reading, word_at, named}
use Rattle.command_laws.specs.CommandRecord.{CommandLaws}
use Rattle.command_spec.specs.Command.{HasForm}
use Rattle.command_spec.specs.Lines.{protected_line}
use Rattle.command_laws.specs.Outcomes.{ProtectOutcome}
use Rattle.command_spec.specs.Single.{protect_command}
use Rattle.qic_base.specs.Cartridge.{Cartridge}
use Rattle.qic_base.specs.Step.{changed, SetProtected}
use Rattle.cartridge_laws.specs.HeaderTerms.{NeitherReads}
use Rattle.command_spec.specs.declared.status.Status.TheVariants as status
use Rattle.command_spec.specs.declared.words.Words.TheVariants as words

-- its words are read as it
abbrev pub protect_reading : Reading
protect_reading = record { name = codes "protect"; reads = λ behind. words.Protect (bytes_eq (word_at behind 0) (codes "on")) }

pub protect_read : (on : Bool) (ws : List (List ℕ)) → HasForm ws (protect_command on).forms → IsRead protect_reading ws (words.Protect on)
protect_read true ws h = let s = two_words ws _ _ (only ws _ h) in
    record { behind = s.second ∷ []; are = named s.are s.one; is = ap (λ word. words.Protect (bytes_eq word (codes "on"))) s.two }
protect_read false ws h = let s = two_words ws _ _ (only ws _ h) in
    record { behind = s.second ∷ []; are = named s.are s.one; is = ap (λ word. words.Protect (bytes_eq word (codes "on"))) s.two }

are_few : (on : Bool) (ws : List (List ℕ)) → HasForm ws (protect_command on).forms → (1 ≤ length ws) × (length ws ≤ 3)
are_few true ws h = let l = spelled_length ws _ (only ws _ h) in (omega arith, omega arith)
are_few false ws h = let l = spelled_length ws _ (only ws _ h) in (omega arith, omega arith)

mark_keeps : (on : Bool) → KeepsAll (SetProtected on)
mark_keeps on = record {
  whole = λ held left inside. inside;
  stands = λ c plain stood. protected_stands c plain on stood;
  mounts = λ c header map_words table entries mounts. protected_mounts c on header map_words table entries mounts;
  reads = λ c. marks_read_no_more c (changed (SetProtected on) c) refl;
  no_renew = (tt, tt);
}

-- what is printed of any cartridge
abbrev pub line : Bool → Cartridge → List ℕ
line on c = protected_line on

pub protect_laws : (on : Bool) → CommandLaws (protect_command on)
protect_laws on = record {
  values = λ words spelled. tt;
  few_words = λ ws h. are_few on ws h;
  answers = λ held input values whole. step_answers (SetProtected on) (line on) held;
  one = λ held input a b is was. step_is_one (SetProtected on) (line on) held a b is was;
  none_held = λ is input outcome plain. plain;
  locked = λ is c input outcome locked plain. absurd (cc);
  in_front = λ is c segment input outcome free first plain. absurd (cc);
  done = λ held input outcome whole values. where_some (λ c. Unit {0}) held
      (λ h. ProtectOutcome on h outcome → outcome.status ≡ status.Done) (λ c can does. ap status_of does);
  texts = plain_texts _ _ refl;
  blind = λ is. record {
    any = λ held input other outcome plain. plain;
    no_append = refl;
    no_lines = refl;
    no_fault = λ input line place fault. fault;
  };
  stands = λ c plain keeps stood input outcome left does torn. step_stands (SetProtected on) (line on)
      (mark_keeps on) c plain stood outcome left does torn;
  mounts = λ c header words table entries keeps mounts input outcome left does torn.
      step_mounts (SetProtected on) (line on) (mark_keeps on) c header words table entries mounts outcome left does torn;
  clean = λ c area keeps is_area clean input outcome left does torn.
      step_clean (SetProtected on) (line on) (mark_keeps on) c area is_area clean outcome left does torn;
  bare = λ c keeps bare input outcome left does torn. step_bare (SetProtected on) (line on) (mark_keeps on) c bare outcome left does torn;
  unread = λ c copies keeps none input outcome left does torn.
      step_leaves (SetProtected on) (line on) NeitherReads (mark_keeps on) c outcome left none
      (marked_neither c (changed (SetProtected on) c) refl none) does torn;
  whole = λ c input outcome left values content whole does torn.
      some_whole left (step_whole (SetProtected on) (line on) c outcome does whole (protected_whole c on whole)
      (λ left half. half) left torn);
  live = λ held input outcome keeps does. step_no_renew (SetProtected on) (line on) (mark_keeps on) held outcome does;
}
