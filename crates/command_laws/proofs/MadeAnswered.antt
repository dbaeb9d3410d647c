-- A run of `make` prints nothing before all its appends are done, so what was printed tells that all made volumes stand.
use Rattle.std.proofs.Common.{◌≡◌, ℕ, ◌+◌, List, [], ◌∷◌, ◌++◌, refl, sym, ap, ◌∙◌, Option, inl, inr, Some, subst, ◌⊎◌, ◌≢◌, zero, suc, ◌≤◌}
use Rattle.std.proofs.Common.{IsSomeAnd, arith, length, drop}
use Rattle.cartridge_laws.proofs.FormatWriting.{effects-some}
use Rattle.cartridge_spec.specs.Appending.{with_all}
use Rattle.cartridge_spec.specs.Settling.{changed_by}
use Rattle.cartridge_spec.specs.Table.{Entry}
use Rattle.cartridge_spec.specs.Volumes.{Plain, Stands, entries_of}
use Rattle.command_laws.proofs.MadeStops.{made_one}
use Rattle.command_laws.proofs.MadeStops.{StillBehind, behind_next, done_append_kept, entries_more, stills_stopped, behind_is_still}
use Rattle.command_laws.proofs.MountedKeeping.{changed_by_acts, kept_open}
use Rattle.command_laws.specs.MadeLaws.{MadeAreAnswered}
use Rattle.command_laws.specs.MountedKept.{IsKept}
use Rattle.command_spec.specs.Append.{Kept, input_writes, room_in, Taking, Fits, TooLong, TooShort, entry_acts, append_acts, taking}
use Rattle.command_spec.specs.Append.{kept_over}
use Rattle.command_laws.specs.AppendTerms.{silently}
use Rattle.command_spec.specs.Make.{made_length, made_bytes, made_contents, AppendMade, made_name, StepDoes, MakeStep, appending, Runs}
use Rattle.command_spec.specs.Make.{ScrubAll, wearing_volumes, summing, made_list}
use Rattle.qic_base.proofs.Joins.{text_of-append, steps_of-append}
use Rattle.qic_base.proofs.Steps.{Torn-front, Torn-behind}
use Rattle.qic_base.specs.Acts.{Act, text_of, steps_of, next_steps}
use Rattle.qic_base.specs.Cartridge.{Cartridge}
use Rattle.qic_base.specs.Step.{Step, Torn}
use Rattle.command_spec.specs.declared.status.Status.{Status}
use Rattle.command_laws.proofs.ScriptActs.{input_texts}
use Rattle.command_spec.specs.declared.status.Status.TheVariants as status
use Rattle.cartridge_laws.specs.AppendLaws.{with_content}

-- ---- what is printed

pub no_front : (xs ys : List ℕ) → xs ++ ys ≡ [] → xs ≡ []
no_front [] ys none = refl
no_front (x ∷ xs) ys none = absurd (cc)

-- a front of acts that print nothing
pub quiet_front : (front rest acts : List Act) → front ++ rest ≡ acts → text_of acts ≡ [] → text_of front ≡ []
quiet_front front rest acts parts quiet = no_front (text_of front) (text_of rest)
    (sym (text_of-append front rest) ∙ ap text_of parts ∙ quiet)

entry_texts : (kept : Kept) (name : List ℕ) (date : ℕ) (became : Taking) → text_of (entry_acts kept name date silently became) ≡ []
entry_texts kept name date (Fits bytes) = refl
entry_texts kept name date (TooLong need have) = refl
entry_texts kept name date (TooShort asked read) = refl

quiet_acts : (kept : Kept) (name : List ℕ) (date : ℕ) (promised : Option ℕ) (input : List ℕ) →
    text_of (append_acts kept name date promised silently input) ≡ []
quiet_acts kept name date promised input =
    let last : List Act = entry_acts kept name date silently (taking (room_in kept) promised input) in
    text_of-append (input_writes kept.words kept.entries promised input) last
    ∙ ap (λ (text : List ℕ). text ++ text_of last) (input_texts kept promised input)
    ∙ entry_texts kept name date (taking (room_in kept) promised input)

pub append_prints_nothing : (seed : ℕ) (c : Cartridge) (words : List ℕ) (es : List Entry) (volume : ℕ) (acts : List Act) (answer : Status) →
    StepDoes seed c words es (AppendMade volume) acts answer → text_of acts ≡ []
append_prints_nothing seed c words es volume acts answer (inl refused) = ap text_of refused.1
append_prints_nothing seed c words es volume acts answer (inr (free, inl appended)) =
    ap text_of appended.does ∙ quiet_acts (kept_over c words es appended.table) (made_name volume) 0 (Some (made_length seed volume))
    (made_bytes seed volume)
append_prints_nothing seed c words es volume acts answer (inr (free, inr lost)) = ap text_of lost.2

-- ---- a stop behind a front of acts

pub next_torn : (rest : List Act) (held left : Option Cartridge) → Torn (next_steps rest) held left → Torn (steps_of rest) held left
next_torn [] held left torn = torn
next_torn (act ∷ rest) held left torn = Torn-front act.steps (steps_of rest) held left torn

pub torn_behind : (front rest acts : List Act) (c : Cartridge) (left : Option Cartridge) → front ++ rest ≡ acts →
    Torn (next_steps rest) (Some (changed_by (steps_of front) c)) left → Torn (steps_of acts) (Some c) left
torn_behind front rest acts c left parts torn =
    subst (λ (steps : List Step). Torn steps (Some c) left) (sym (steps_of-append front rest) ∙ ap steps_of parts)
    (Torn-behind (steps_of front) (steps_of rest) (Some c) left
    (subst (λ (held : Option Cartridge). Torn (steps_of rest) held left) (sym (effects-some (steps_of front) c))
    (next_torn rest (Some (changed_by (steps_of front) c)) left torn)))

-- of two fronts of one list one is a front of the other
pub two_fronts : (xs ys us vs : List Act) → xs ++ ys ≡ us ++ vs →
    ((more : List Act) × (xs ++ more ≡ us)) ⊎ ((more : List Act) × (us ++ more ≡ xs) × (more ++ ys ≡ vs))
two_fronts [] ys us vs same = inl (us, refl)
two_fronts (x ∷ xs) ys [] vs same = inr (x ∷ xs, refl, same)
two_fronts (x ∷ xs) ys (u ∷ us) vs same =
    let first : x ≡ u = cc in
    let rest : xs ++ ys ≡ us ++ vs = cc in
    elim (two_fronts xs ys us vs rest) [
      | inl (more, is) ↦ inl (more, ap (λ (zs : List Act). x ∷ zs) is ∙ ap (λ (a : Act). a ∷ us) first)
      | inr (more, is, behind) ↦ inr (more, ap (λ (zs : List Act). u ∷ zs) is ∙ ap (λ (a : Act). a ∷ xs) (sym first), behind)
    ]

-- ---- the appends, and what comes behind them

module _ (seed : ℕ) (rest : List MakeStep) where
  appends_answered : (n : ℕ) (c : Cartridge) (plain : Plain) (volume : ℕ) (acts front rear : List Act) (answer : Status)
      (left : Option Cartridge) → volume + n ≤ 201 → IsKept c plain →
      StillBehind seed plain.words (entries_of plain) volume n rest →
      Runs seed c plain.words (entries_of plain) (appending volume n ++ rest) acts answer → front ++ rear ≡ acts → text_of front ≢ [] →
      Torn (next_steps rear) (Some (changed_by (steps_of front) c)) left →
      IsSomeAnd left (λ d. Stands d (with_all plain (made_contents seed volume n)))
  appends_answered zero c plain volume acts front rear answer left few held still runs parts printed torn =
      stills_stopped seed rest c plain acts answer left (still c plain held.stands refl refl) (kept_open c plain held) runs
      (torn_behind front rear acts c left parts torn)
  appends_answered (suc n) c plain volume acts front rear answer left few held still (inl (other, does)) parts printed torn =
      absurd (printed (quiet_front front rear acts parts
      (append_prints_nothing seed c plain.words (entries_of plain) volume acts answer does)))
  appends_answered (suc n) c plain volume acts front rear answer left few held still
      (inr (first, behind, joined, does, more)) parts printed torn =
      let next : Plain = with_content plain (made_one seed volume) in
      let quiet : text_of first ≡ [] = append_prints_nothing seed c plain.words (entries_of plain) volume first status.Done does in
      elim (two_fronts front rear first behind (parts ∙ sym joined)) [
        | inl (some, is) ↦ absurd (printed (quiet_front front some first is quiet))
        | inr (later, is, parted) ↦
            appends_answered n (changed_by (steps_of first) c) next (volume + 1) behind later rear answer left (omega arith)
            (done_append_kept seed c plain held volume (omega arith) first does) (behind_next seed rest plain volume n still)
            (subst (λ (es : List Entry). Runs seed (changed_by (steps_of first) c) plain.words es
            (appending (volume + 1) n ++ rest) behind answer)
            (sym (entries_more seed plain volume)) more) parted
            (λ none. printed (ap text_of (sym is) ∙ text_of-append first later ∙ ap (λ (text : List ℕ). text ++ text_of later) quiet
            ∙ none))
            (subst (λ (d : Cartridge). Torn (next_steps rear) (Some d) left)
            (ap (λ (zs : List Act). changed_by (steps_of zs) c) (sym is) ∙ changed_by_acts first later c) torn)
      ]

-- ---- a run

pub made_are_answered : MadeAreAnswered
made_are_answered seed count c plain acts front rest answer left few held makes parts printed torn =
    let behind : List MakeStep = wearing_volumes plain.words
    (drop (length (entries_of plain)) (made_list seed count plain.words (entries_of plain))) ++ ScrubAll ∷ summing
    (length (entries_of plain) + 1) count in
    appends_answered seed behind count c plain 1 acts front rest answer left (omega arith) held
    (behind_is_still seed count plain.words (entries_of plain)) makes parts printed torn
