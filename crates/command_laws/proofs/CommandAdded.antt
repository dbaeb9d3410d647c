-- How an append ends.
use Rattle.std.proofs.Common.{◌≡◌, ℕ, Bool, true, false, List, refl, ◌+◌, ◌++◌, None, ap, ◌∙◌, append-nil, min, length, ◌&&◌, nat_le}
use Rattle.std.specs.Prelude.{if◌then◌else◌}
use Rattle.cartridge_spec.specs.Table.{Entry}
use Rattle.command_spec.specs.Append.{Kept, room_in, input_writes, Taking, Fits, taking, entry_acts, append_acts, TooLong}
use Rattle.command_laws.specs.AppendTerms.{entry_for, status_by_room}
use Rattle.qic_base.proofs.Joins.{text_of-append}
use Rattle.qic_base.specs.Acts.{text_of, Act}
use Rattle.command_laws.proofs.ScriptActs.{input_texts}
use Rattle.command_spec.specs.declared.status.Status.TheVariants as status

-- ---- the acts

-- and is the whole text
pub replied_text : (kept : Kept) (name : List ℕ) (date : ℕ) (reply : Entry → List ℕ) (input bytes : List ℕ) →
    taking (room_in kept) None input ≡ Fits bytes →
    text_of (append_acts kept name date None reply input) ≡ reply (entry_for kept name date bytes)
replied_text kept name date reply input bytes took =
    let ws : List Act = input_writes kept.words kept.entries None input in
    text_of-append ws (entry_acts kept name date reply (taking (room_in kept) None input))
    ∙ ap (λ (text : List ℕ). text ++ text_of (entry_acts kept name date reply (taking (room_in kept) None input)))
    (input_texts kept None input)
    ∙ ap (λ (became : Taking). text_of (entry_acts kept name date reply became)) took
    ∙ append-nil (reply (entry_for kept name date bytes))

-- ---- the answer

pub status_by : (flag : Bool) (have : ℕ) (input : List ℕ) (became : Taking) →
    (if flag then Fits input else TooLong (min (length input) (have + 1)) have) ≡ became →
    ((bytes : List ℕ) → became ≡ Fits bytes →
    (if flag then status.Done else status.Full (min (length input) (have + 1)) have) ≡ status.Done)
    × ((need most : ℕ) → became ≡ TooLong need most →
    (if flag then status.Done else status.Full (min (length input) (have + 1)) have) ≡ status.Full need most)
status_by true have input became is = ((λ bytes fits. refl), (λ need most long. cc))
status_by false have input became is = ((λ bytes fits. cc), (λ need most long. cc))

pub status_fits : (have : ℕ) (input bytes : List ℕ) → taking have None input ≡ Fits bytes → status_by_room have input ≡ status.Done
status_fits have input bytes took = (status_by (nat_le 1 have && nat_le (length input) have) have input (taking have None input) refl).0
    bytes took
