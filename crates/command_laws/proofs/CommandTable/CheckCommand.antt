-- The laws of the command `check`.
use Rattle.std.proofs.Common.{[], ◌∷◌, ◌++◌, ◌≡◌, Some, refl, sym, ◌∙◌, ap, ℕ, List, arith, codes, inl, inr, false}
use Rattle.std.proofs.Common.{append-nil}
use Rattle.std.proofs.Common.{append_assoc, subst}
use Rattle.std.specs.List.{AllZip}
use Rattle.cartridge_spec.specs.Mounting.{Mounted, Mounts}
use Rattle.cartridge_spec.specs.Formatting.{HasCleanCopies, HasNoHeader}
use Rattle.cartridge_spec.specs.Volumes.{Stands}
use Rattle.cartridge_laws.specs.HeaderTerms.{NeitherReads}
use Rattle.command_laws.proofs.Checked.{check_takes_no_step, checks_always, checks_once, sound_checks}
use Rattle.command_laws.proofs.CommandComplete.{where_some}
use Rattle.command_laws.proofs.CommandLooking.{still_so, puts_in_none}
use Rattle.command_laws.proofs.CommandWhole.{some_whole}
use Rattle.command_laws.proofs.TextCommands.{only, one_word, spelled_length, IsRead, Reading, named}
use Rattle.command_laws.specs.CommandRecord.{CommandLaws, is_unsound}
use Rattle.command_spec.specs.Check.{Checks, IsCheck, AreLines, IsSound, MayBeTold, check_command, check_line, check_refused, check_status}
use Rattle.command_spec.specs.Check.{header_copies, in_front, verdict_lines}
use Rattle.command_spec.specs.Command.{HasForm}
use Rattle.command_spec.specs.Outcome.{HeldOutcome}
use Rattle.command_spec.specs.declared.status.Status.{Status}
use Rattle.command_spec.specs.declared.verdict.Verdict.{Verdict}
use Rattle.command_spec.specs.declared.verdict.Verdict.TheVariants.{Sound}
use Rattle.qic_base.specs.CartridgeTerms.{IsCartridge}
use Rattle.command_spec.specs.declared.status.Status.TheVariants as status
use Rattle.command_spec.specs.declared.words.Words.TheVariants as words

-- its words are read as it
abbrev pub check_reading : Reading
check_reading = record { name = codes "check"; reads = λ behind. words.Check }

pub check_read : (ws : List (List ℕ)) → HasForm ws check_command.forms → IsRead check_reading ws words.Check
check_read ws h = let s = one_word ws _ (only ws _ h) in record { behind = []; are = named s.are s.one; is = refl }

-- ---- its text

abbrev pub ChecksFront : List ℕ → Type 0
ChecksFront text = (rest : List ℕ) × ((answer : Status) × IsCheck answer (text ++ rest))

-- the text of a check that finds this in front, and no volume
all_of : (vs : List Verdict) → AllZip MayBeTold in_front vs → IsCheck (check_status vs) (verdict_lines in_front vs ++ check_line 3 vs)
all_of vs may = record { words = []; entries = []; verdicts = vs; may = may; lines = refl; answered = refl }

whole_front : (answer : Status) (text : List ℕ) → IsCheck answer text → ChecksFront text
whole_front answer text all = ([], (answer, subst (IsCheck answer) (sym (append-nil text)) all))

front_told : (text : List ℕ) → AreLines in_front text → ChecksFront text
front_told text told = (
  check_line 3 told.verdicts,
  (
    check_status told.verdicts,
    subst (λ (front : List ℕ). IsCheck (check_status told.verdicts) (front ++ check_line 3 told.verdicts)) (sym told.lines)
        (all_of told.verdicts told.may),
  ),
)

copies_told : (text : List ℕ) → AreLines header_copies text → ChecksFront text
copies_told text told = by_lines text told.verdicts told.may told.lines
  where
    by_lines : (text : List ℕ) (vs : List Verdict) → AllZip MayBeTold header_copies vs → text ≡ verdict_lines header_copies vs →
        ChecksFront text
    by_lines text [] may lines = absurd may
    by_lines text (v ∷ []) may lines = absurd may.1
    by_lines text (v ∷ w ∷ []) may lines =
        let vs : List Verdict = v ∷ w ∷ Sound ∷ [] in (
          check_line 3 vs,
          (
            check_status vs,
            subst (λ (front : List ℕ). IsCheck (check_status vs) (front ++ check_line 3 vs)) (sym lines)
                (all_of vs (may.0, (may.1.0, (tt, tt)))),
          ),
        )
    by_lines text (v ∷ w ∷ x ∷ vs) may lines = absurd may.1.1

nothing_told : (text : List ℕ) → text ≡ [] → ChecksFront text
nothing_told text none = subst ChecksFront (sym none)
    (front_told [] (record {
      verdicts = Sound ∷ Sound ∷ Sound ∷ [];
      may = (tt, (tt, (tt, tt)));
      lines = refl;
    }))

no_lines_yet : AreLines header_copies []
no_lines_yet = record { verdicts = Sound ∷ Sound ∷ []; may = (tt, (tt, tt)); lines = refl }

none_in_front : AreLines in_front []
none_in_front = record { verdicts = Sound ∷ Sound ∷ Sound ∷ []; may = (tt, (tt, (tt, tt))); lines = refl }

none_yet : (answer : Status) → is_unsound answer ≡ false → check_refused answer []
none_yet (status.Unsound mendable bad) other = absurd (cc)
none_yet status.NotFormatted other = inl refl
none_yet (status.Foreign field value) other = inl no_lines_yet
none_yet (status.Lost segment lost) other = none_in_front
none_yet status.TableMismatch other = none_in_front
none_yet answer other = refl

refused_is_front : (answer : Status) (text : List ℕ) → check_refused answer text → ChecksFront text
refused_is_front (status.Unsound mendable bad) text told = whole_front (status.Unsound mendable bad) text told
refused_is_front status.NotFormatted text (inl none) = nothing_told text none
refused_is_front status.NotFormatted text (inr told) = copies_told text told
refused_is_front (status.Foreign field value) text (inl told) = copies_told text told
refused_is_front (status.Foreign field value) text (inr told) = front_told text told
refused_is_front (status.Lost segment lost) text told = front_told text told
refused_is_front status.TableMismatch text told = front_told text told
refused_is_front answer text none = nothing_told text none

-- ---- the command

pub check_laws : CommandLaws check_command
check_laws = record {
  values = λ words spelled. tt;
  few_words = λ ws h. let l = spelled_length ws _ (only ws _ h) in (omega arith, omega arith);
  answers = λ held input values whole. checks_always held whole;
  one = λ held input a b one other. checks_once held a b one other;
  none_held = λ is input outcome plain. plain;
  locked = λ is c input outcome locked plain. absurd (cc);
  in_front = λ is c segment input outcome free first plain. absurd (cc);
  done = λ held input outcome whole values. where_some IsSound held (λ h. HeldOutcome Checks h outcome → outcome.status ≡ status.Done)
      (λ c sound does. sound_checks c outcome sound does);
  texts = record {
    none_printed = none_yet;
    nothing_front = nothing_told [] refl;
    text_front = λ whole all. whole_front status.Done whole all;
    shorter_front = λ front rest whole parts all. (
      rest ++ all.0,
      (all.1.0, subst (IsCheck all.1.0) (ap (λ (xs : List ℕ). xs ++ all.0) (sym parts) ∙ append_assoc front rest all.0) all.1.1),
    );
    refused_front = refused_is_front;
  };
  blind = λ is. record {
    any = λ held input other outcome plain. plain;
    no_append = refl;
    no_lines = refl;
    no_fault = λ input line place fault. fault;
  };
  stands = λ c plain keeps stood input outcome left does torn. still_so (λ d. Stands d plain) c left outcome stood
      (check_takes_no_step (Some c) outcome does) torn;
  mounts = λ c header words table entries keeps mounts input outcome left does torn.
      still_so (λ d. Mounts d (Mounted header words table entries)) c left outcome mounts (check_takes_no_step (Some c) outcome does) torn;
  clean = λ c area keeps is_area clean input outcome left does torn. still_so (λ d. HasCleanCopies d area) c left outcome clean
      (check_takes_no_step (Some c) outcome does) torn;
  bare = λ c keeps bare input outcome left does torn. still_so HasNoHeader c left outcome bare (check_takes_no_step (Some c) outcome does)
      torn;
  unread = λ c copies keeps none input outcome left does torn. still_so NeitherReads c left outcome none
      (check_takes_no_step (Some c) outcome does) torn;
  whole = λ c input outcome left values content whole does torn. some_whole left
      (still_so IsCartridge c left outcome whole (check_takes_no_step (Some c) outcome does) torn);
  live = λ held input outcome keeps does. puts_in_none outcome (check_takes_no_step held outcome does);
}
