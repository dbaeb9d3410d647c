-- The acts of an append of promised bytes, whatever stands behind them in the input, and with or without the reply.
use Rattle.std.proofs.Common.{List, [], ◌≡◌, ◌≢◌, ℕ, Bool, true, false, cond, refl, ◌≤◌, nat_lt, ltb-false, length, take, Some, sym, ◌∷◌}
use Rattle.std.proofs.Common.{◌++◌, ap, ◌∙◌, Option, append-nil, ltb-true, arith, ◌<◌}
use Rattle.std.specs.Prelude.{is_some, if◌then◌else◌}
use Rattle.std.proofs.lemmas.List.{take_all, length-take-le}
use Rattle.cartridge_spec.specs.Table.{Entry}
use Rattle.command_laws.proofs.InputActLaws.{input_prints_nothing}
use Rattle.command_spec.specs.Append.{Fits, TooLong, TooShort, taking, has_promised_room, input_acts, Kept, Taking, room_in, entry_acts}
use Rattle.command_spec.specs.Append.{append_acts, input_writes, volume_acts, filled_acts}
use Rattle.command_laws.specs.ScriptTerms.{WearsBehind, LineSpares, LineSparesTable}
use Rattle.command_laws.specs.AppendTerms.{entry_for, free_in, most_written, silently}
use Rattle.qic_base.proofs.Joins.{steps_of-append, text_of-append}
use Rattle.qic_base.specs.Acts.{Act, text_of, steps_of}
use Rattle.cartridge_spec.specs.Volumes.{Plain, WearSpares}
use Rattle.command_spec.specs.declared.line.Line.{Line}
use Rattle.qic_base.specs.Cartridge.{Cartridge, IsPlace}
use Rattle.qic_base.specs.Step.{Step}
use Rattle.command_laws.proofs.CommandOpened.{quiet}
use Rattle.std.proofs.lemmas.Bool.{le-ltb}
use Rattle.command_spec.specs.declared.line.Line.TheVariants as line

-- ---- lines that wear a sector

pub wears_behind : (asked : Line) → ((segment sector : ℕ) → asked ≡ line.Lose segment sector → sector < 32 → 3 ≤ segment) →
    WearsBehind asked
wears_behind (line.Lose segment sector) behind = behind segment sector refl
wears_behind asked behind = tt

pub spares_table : (asked : Line) → ((segment sector : ℕ) → asked ≡ line.Lose segment sector → sector < 32 → segment ≢ 2) →
    LineSparesTable asked
spares_table (line.Lose segment sector) other = other segment sector refl
spares_table asked other = tt

pub line_spares : (c : Cartridge) (plain : Plain) (asked : Line) →
    ((segment sector : ℕ) → asked ≡ line.Lose segment sector → IsPlace c.info.segments_per_track segment sector →
    WearSpares c plain segment sector) → LineSpares c plain asked
line_spares c plain (line.Lose segment sector) spares = spares segment sector refl
line_spares c plain asked spares = tt

-- ---- bytes enough

module _ (kept : Kept) (name : List ℕ) (date n : ℕ) (input : List ℕ) (enough : n ≤ length input) where
  first_long : length (take n input) ≡ n
  first_long = length-take-le n input enough

  first_first : take n (take n input) ≡ take n input
  first_first = take_all n (take n input) (let l = first_long in omega arith)

  same_volume : (words segments : List ℕ) → input_acts words segments n true input ≡ input_acts words segments n true (take n input)
  same_volume words segments =
      ap (λ (b : Bool). cond b (filled_acts words segments input) (volume_acts words segments (take n input)))
      (le-ltb (length input) n enough)
      ∙ ap (λ (bytes : List ℕ). volume_acts words segments bytes) (sym first_first)
      ∙ sym (ap (λ (b : Bool). cond b (filled_acts words segments (take n input)) (volume_acts words segments (take n (take n input))))
      (le-ltb (length (take n input)) n (let l = first_long in omega arith)))

  pub same_writes : input_writes kept.words kept.entries (Some n) input ≡ input_writes kept.words kept.entries (Some n) (take n input)
  same_writes = ap (λ (acts : List Act). cond (has_promised_room (room_in kept) (Some n)) acts []) (same_volume kept.words (free_in kept))

  taking_where : (bytes : List ℕ) → n ≤ length bytes → taking (room_in kept) (Some n) bytes ≡ cond
      (has_promised_room (room_in kept) (Some n)) (Fits (take n bytes)) (TooLong n (room_in kept))
  taking_where bytes long =
      ap (λ (b : Bool). cond (has_promised_room (room_in kept) (Some n)) (cond b (TooShort n (length bytes)) (Fits (take n bytes)))
      (TooLong n (room_in kept))) (le-ltb (length bytes) n long)

  pub same_taking : taking (room_in kept) (Some n) input ≡ taking (room_in kept) (Some n) (take n input)
  same_taking =
      taking_where input enough
      ∙ ap (λ (bytes : List ℕ). cond (has_promised_room (room_in kept) (Some n)) (Fits bytes) (TooLong n (room_in kept))) (sym first_first)
      ∙ sym (taking_where (take n input) (let l = first_long in omega arith))

  pub same_acts : (reply : Entry → List ℕ) → append_acts kept name date (Some n) reply input ≡ append_acts kept name date (Some n) reply
      (take n input)
  same_acts reply =
      ap (λ (acts : List Act). quiet kept.settling ∷ (acts ++ entry_acts kept name date reply (taking (room_in kept) (Some n) input)))
      same_writes
      ∙ ap (λ (became : Taking). quiet kept.settling ∷ (input_writes kept.words kept.entries (Some n)
      (take n input) ++ entry_acts kept name date reply became)) same_taking

-- ---- what became of an input

fits_of : (b d : Bool) (n have read : ℕ) (first bytes : List ℕ) → cond b (cond d (TooShort n read) (Fits first))
    (TooLong n have) ≡ Fits bytes → (d ≡ false) × (first ≡ bytes)
fits_of true true n have read first bytes is = absurd (cc)
fits_of true false n have read first bytes is = (refl, (cc))
fits_of false d n have read first bytes is = absurd (cc)

pub took_enough : (have n : ℕ) (input bytes : List ℕ) → taking have (Some n) input ≡ Fits bytes → (n ≤ length input)
    × (bytes ≡ take n input)
took_enough have n input bytes took =
    let got = fits_of (has_promised_room have (Some n)) (nat_lt (length input) n) n have (length input) (take n input) bytes took in
    (ltb-false (length input) n got.0, sym got.1)

long_of : (b d : Bool) (n have read : ℕ) (first : List ℕ) (need most : ℕ) → cond b (cond d (TooShort n read) (Fits first))
    (TooLong n have) ≡ TooLong need most →
    (b ≡ false) × (need ≡ n) × (most ≡ have)
long_of true true n have read first need most is = absurd (cc)
long_of true false n have read first need most is = absurd (cc)
long_of false d n have read first need most is = (refl, (cc), (cc))

pub took_too_long : (have n : ℕ) (input : List ℕ) (need most : ℕ) → taking have (Some n) input ≡ TooLong need most →
    (has_promised_room have (Some n) ≡ false) × (need ≡ n) × (most ≡ have)
took_too_long have n input need most took =
    long_of (has_promised_room have (Some n)) (nat_lt (length input) n) n have (length input) (take n input) need most took

short_of : (b d : Bool) (n have read : ℕ) (first : List ℕ) (asked got : ℕ) → cond b (cond d (TooShort n read) (Fits first))
    (TooLong n have) ≡ TooShort asked got → (d ≡ true) × (got ≡ read)
short_of true true n have read first asked got is = (refl, (cc))
short_of true false n have read first asked got is = absurd (cc)
short_of false d n have read first asked got is = absurd (cc)

pub took_short : (have n : ℕ) (input : List ℕ) (asked got : ℕ) → taking have (Some n) input ≡ TooShort asked got → (length input < n)
    × (got ≡ length input)
took_short have n input asked got took =
    let s = short_of (has_promised_room have (Some n)) (nat_lt (length input) n) n have (length input) (take n input) asked got took in
    (ltb-true (length input) n s.0, s.1)

-- ---- no room

module _ (kept : Kept) (name : List ℕ) (date n : ℕ) (small : has_promised_room (room_in kept) (Some n) ≡ false) where
  pub full_taking : (bytes : List ℕ) → taking (room_in kept) (Some n) bytes ≡ TooLong n (room_in kept)
  full_taking bytes = ap (λ (b : Bool). cond b (cond (nat_lt (length bytes) n) (TooShort n (length bytes)) (Fits (take n bytes)))
      (TooLong n (room_in kept))) small

  -- the table is settled alone
  pub full_acts : (reply : Entry → List ℕ) (bytes : List ℕ) → append_acts kept name date (Some n) reply bytes ≡ quiet kept.settling ∷ []
  full_acts reply bytes =
      ap (λ (b : Bool). quiet kept.settling ∷ (cond b (input_acts kept.words (free_in kept) n true bytes) [] ++ entry_acts kept name date
      reply (taking (room_in kept) (Some n) bytes))) small
      ∙ ap (λ (became : Taking). quiet kept.settling ∷ entry_acts kept name date reply became) (full_taking bytes)

-- ---- too few

-- there is no reply then
pub short_acts : (kept : Kept) (name : List ℕ) (date n : ℕ) (one other : Entry → List ℕ) (input : List ℕ) (asked got : ℕ) →
    taking (room_in kept) (Some n) input ≡ TooShort asked got →
    append_acts kept name date (Some n) one input ≡ append_acts kept name date (Some n) other input
short_acts kept name date n one other input asked got took =
    ap (λ (became : Taking). quiet kept.settling ∷ (input_writes kept.words kept.entries
    (Some n) input ++ entry_acts kept name date one became)) took
    ∙ sym (ap (λ (became : Taking). quiet
    kept.settling ∷ (input_writes kept.words kept.entries (Some n) input ++ entry_acts kept name date other became)) took)

-- ---- the reply

pub input_texts : (kept : Kept) (promised : Option ℕ) (input : List ℕ) → text_of (input_writes kept.words kept.entries promised input) ≡ []
input_texts kept promised input = by_room (has_promised_room (room_in kept) promised)
  where
    by_room : (b : Bool) → text_of (if b then input_acts kept.words (free_in kept) (most_written (room_in kept) promised)
        (is_some promised) input else []) ≡ []
    by_room true = input_prints_nothing kept.words (free_in kept) (most_written (room_in kept) promised) (is_some promised) input
    by_room false = refl

-- all acts but the last
abbrev pub front_acts : Kept → (n : ℕ) → (input : List ℕ) → List Act
front_acts kept n input = quiet kept.settling ∷ input_writes kept.words kept.entries (Some n) input

-- the last one, whose reply is this
abbrev pub last_act : Kept → (name : List ℕ) → (date : ℕ) → (reply : Entry → List ℕ) → (bytes : List ℕ) → List Act
last_act kept name date reply bytes = entry_acts kept name date reply (Fits bytes)

module _ (kept : Kept) (name : List ℕ) (date n : ℕ) (input bytes : List ℕ) (took : taking (room_in kept) (Some n) input ≡ Fits bytes) where
  pub fits_acts : (reply : Entry → List ℕ) → append_acts kept name date (Some n) reply input ≡ front_acts kept n input ++ last_act kept name
      date reply bytes
  fits_acts reply = ap (λ (became : Taking). quiet
      kept.settling ∷ (input_writes kept.words kept.entries (Some n) input ++ entry_acts kept name date reply became)) took

  front_text : text_of (front_acts kept n input) ≡ []
  front_text = input_texts kept (Some n) input

  pub replied_steps : (reply : Entry → List ℕ) → steps_of (append_acts kept name date (Some n) silently input) ≡ steps_of
      (append_acts kept name date (Some n) reply input)
  replied_steps reply =
      ap steps_of (fits_acts silently) ∙ steps_of-append (front_acts kept n input) (last_act kept name date silently bytes)
      ∙ sym (ap steps_of (fits_acts reply) ∙ steps_of-append (front_acts kept n input) (last_act kept name date reply bytes))

  pub replied_text : (reply : Entry → List ℕ) → text_of (append_acts kept name date (Some n) reply input) ≡ reply
      (entry_for kept name date bytes)
  replied_text reply =
      ap text_of (fits_acts reply) ∙ text_of-append (front_acts kept n input) (last_act kept name date reply bytes)
      ∙ ap (λ (text : List ℕ). text ++ text_of (last_act kept name date reply bytes)) front_text
      ∙ append-nil (reply (entry_for kept name date bytes))

  pub front_and_last : (reply : Entry → List ℕ) → (last : Act) → last_act kept name date reply bytes ≡ last ∷ [] →
      steps_of (front_acts kept n input) ++ last.steps ≡ steps_of (append_acts kept name date (Some n) silently input)
  front_and_last reply last is =
      ap (λ (ss : List Step). steps_of (front_acts kept n input) ++ ss) (sym (append-nil last.steps) ∙ ap steps_of (sym is))
      ∙ sym (steps_of-append (front_acts kept n input) (last_act kept name date reply bytes))
      ∙ ap steps_of (sym (fits_acts reply)) ∙ sym (replied_steps reply)
