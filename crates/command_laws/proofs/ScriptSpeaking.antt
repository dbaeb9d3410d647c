-- The last act of an item prints something: its reply.
use Rattle.std.proofs.Common.{◌≡◌, ◌+◌, ◌<◌, List, [], ◌∷◌, ◌++◌, length, ℕ, ap, ◌∙◌, arith, sym, subst, codes, decimal, refl, inl, inr}
use Rattle.std.proofs.Common.{Bool, cond, nat_lt, take, Some}
use Rattle.std.proofs.lemmas.List.{length-append}
use Rattle.std.proofs.lemmas.Bool.{cases_Bool, le-ltb}
use Rattle.cartridge_spec.specs.Appending.{table_writes}
use Rattle.cartridge_spec.specs.Settling.{changed_by}
use Rattle.cartridge_spec.specs.Table.{Entry, table_with}
use Rattle.cartridge_laws.specs.Slots.{slot_sector}
use Rattle.command_laws.proofs.ScriptActs.{fits_acts, front_acts, full_taking}
use Rattle.command_spec.specs.Append.{Kept, Taking, Fits, TooLong, TooShort, append_acts, has_promised_room, room_in, taking, kept_over}
use Rattle.command_laws.specs.AppendTerms.{entry_for}
use Rattle.command_spec.specs.Input.{promised, Item, IsItem, Ending, HasItems}
use Rattle.command_spec.specs.Lines.{number_line, place_line, appended_line, list_text, count_line, volume_lines, reply_behind}
use Rattle.command_spec.specs.Restore.{Restored, LostIn, MismatchIn}
use Rattle.command_spec.specs.Script.{no_volume_line, refusal_line, line_refused, reply, given_as, taken_as, Did, LineDoes, Meeting, Finds}
use Rattle.command_spec.specs.Script.{Refuses, append_did, ItemsDo, ScriptDoes}
use Rattle.command_spec.specs.Outcome.{CommandOutcome}
use Rattle.command_spec.specs.Scrub.{Counts, counts_line, looked_at, finding_acts}
use Rattle.command_laws.specs.ScrubTerms.{counts_for, last_act}
use Rattle.command_spec.specs.declared.line.Line.{Line}
use Rattle.command_spec.specs.declared.refusal.Refusal.{Refusal}
use Rattle.qic_base.proofs.Joins.{text_of-append}
use Rattle.qic_base.specs.Acts.{Act, text_of, steps_of}
use Rattle.qic_base.specs.Cartridge.{Cartridge}
use Rattle.command_spec.specs.declared.refusal.Refusal.TheVariants as why
use Rattle.command_spec.specs.Restore as restoring
use Rattle.command_spec.specs.declared.line.Line.TheVariants as line

-- ---- acts whose last one prints something

pub record Speaks (acts : List Act) : Type 0 where
  pub front : List Act
  pub last : Act
  pub parts : front ++ last ∷ [] ≡ acts
  pub some : 0 < length last.text

-- they print more than a front of them
fewer : (f : List Act) (l : Act) (front : List Act) (act : Act) (rest : List Act) → 0 < length l.text → front ++ act ∷ rest ≡ f ++ l ∷ [] →
    length (text_of front) < length (text_of (f ++ l ∷ []))
fewer [] l [] act rest some parts = let n : length (l.text ++ []) ≡ length l.text + 0 = length-append l.text [] in omega arith
fewer [] l (x ∷ []) act rest some parts = let none : act ∷ rest ≡ [] = cc in absurd (cc)
fewer [] l (x ∷ y ∷ xs) act rest some parts = let none : y ∷ (xs ++ act ∷ rest) ≡ [] = cc in absurd (cc)
fewer (y ∷ ys) l [] act rest some parts =
    let all : length (text_of (ys ++ l ∷ [])) ≡ length (text_of ys) + length (l.text ++ []) =
    ap (λ (t : List ℕ). length t) (text_of-append ys (l ∷ [])) ∙ length-append (text_of ys) (l.text ++ []) in
    let n : length (l.text ++ []) ≡ length l.text + 0 = length-append l.text [] in
    let m : length (y.text ++ text_of (ys ++ l ∷ [])) ≡ length y.text + length (text_of (ys ++ l ∷ [])) =
    length-append y.text (text_of (ys ++ l ∷ [])) in
    omega arith
fewer (y ∷ ys) l (x ∷ xs) act rest some parts =
    let head : x ≡ y = cc in
    let tail : xs ++ act ∷ rest ≡ ys ++ l ∷ [] = cc in
    let less : length (text_of xs) < length (text_of (ys ++ l ∷ [])) = fewer ys l xs act rest some tail in
    let same : length x.text ≡ length y.text = ap (λ (a : Act). length a.text) head in
    let n : length (x.text ++ text_of xs) ≡ length x.text + length (text_of xs) = length-append x.text (text_of xs) in
    let m : length (y.text ++ text_of (ys ++ l ∷ [])) ≡ length y.text + length (text_of (ys ++ l ∷ [])) =
    length-append y.text (text_of (ys ++ l ∷ [])) in
    omega arith

pub front_prints_less : (acts front : List Act) (act : Act) (rest : List Act) → Speaks acts → front ++ act ∷ rest ≡ acts →
    length (text_of front) < length (text_of acts)
front_prints_less acts front act rest speaks parts =
    subst (λ (xs : List Act). length (text_of front) < length (text_of xs)) speaks.parts
    (fewer speaks.front speaks.last front act rest speaks.some (parts ∙ sym speaks.parts))

-- so they print something
pub prints_some : (acts : List Act) → Speaks acts → 0 < length (text_of acts)
prints_some acts speaks =
    let less : length (text_of speaks.front) < length (text_of acts) =
    front_prints_less acts speaks.front speaks.last [] speaks speaks.parts in
    omega arith

-- ---- the lines

-- a line has its newline at least
ends_so : (text : List ℕ) → 0 < length (text ++ codes "\n")
ends_so text = let n : length (text ++ codes "\n") ≡ length text + 1 = length-append text (codes "\n") in omega arith

number_some : (word : List ℕ) (n : ℕ) → 0 < length (number_line word n)
unfolding number_line
number_some word n = ends_so (word ++ codes " " ++ decimal n)

place_some : (word : List ℕ) (segment sector : ℕ) → 0 < length (place_line word segment sector)
unfolding place_line
place_some word segment sector = ends_so (word ++ codes " " ++ decimal segment ++ codes " " ++ decimal sector)

no_volume_some : (number count : ℕ) → 0 < length (no_volume_line number count)
unfolding no_volume_line
no_volume_some number count = ends_so (codes "refused no volume " ++ decimal number ++ codes " of " ++ decimal count)

appended_some : (number bytes start end : ℕ) → 0 < length (appended_line number bytes start end)
unfolding appended_line
appended_some number bytes start end =
    ends_so (codes "appended " ++ decimal number ++ codes " " ++ decimal bytes ++ codes " " ++ decimal start ++ codes " " ++ decimal end)

list_some : (words : List ℕ) (entries : List Entry) → 0 < length (list_text words entries)
unfolding list_text
list_some words entries =
    let n : length (volume_lines words 1 entries ++ count_line (length entries)) ≡ length (volume_lines words 1 entries) + length
    (count_line (length entries)) =
    length-append (volume_lines words 1 entries) (count_line (length entries)) in
    let m : 0 < length (count_line (length entries)) = number_some (codes "volumes") (length entries) in
    omega arith

counts_some : (counts : Counts) → 0 < length (counts_line counts)
counts_some counts =
    ends_so (codes "scrub " ++ decimal counts.segments ++ codes " " ++ decimal counts.mended ++ codes " " ++ decimal counts.unreadable)

refusal_some : (why : Refusal) → 0 < length (refusal_line why)
refusal_some why.Protected = omega arith
refusal_some (why.Full need have) = place_some (codes "refused full") need have
refusal_some (why.NoVolume number count) = no_volume_some number count
refusal_some (why.Lost segment lost) = place_some (codes "refused lost") segment lost
refusal_some (why.Mismatch segment) = number_some (codes "refused mismatch") segment
refusal_some (why.Place segment sector) = place_some (codes "refused place") segment sector

-- ---- each line of a script

speaks_so : (acts : List Act) (last : Act) → 0 < length last.text → Speaks (acts ++ last ∷ [])
speaks_so acts last some = record { front = acts; last = last; parts = refl; some = some }

refused_speaks : (acts : List Act) (entries : List Entry) (w : Refusal) → Speaks (line_refused acts entries w).acts
refused_speaks acts entries w = speaks_so acts (reply (refusal_line w)) (refusal_some w)

given_speaks : (words : List ℕ) (entries : List Entry) (number : ℕ) (e : Entry) (parts : List Act) (ending : restoring.GivingEnd) →
    Speaks (given_as words entries number e parts ending).acts
given_speaks words entries number e parts Restored = speaks_so parts (reply _) (place_some (codes "restored") number _)
given_speaks words entries number e parts (LostIn segment lost) = refused_speaks parts entries (why.Lost segment lost)
given_speaks words entries number e parts (MismatchIn segment) = refused_speaks parts entries (why.Mismatch segment)

-- an append of all of the promised bytes
appended_speaks : (kept : Kept) (name : List ℕ) (promised date : ℕ) (bytes : List ℕ) → length bytes ≡ promised →
    Speaks (taken_as kept name date (append_acts kept name date (Some promised) (reply_behind (length kept.entries)) bytes)
    (taking (room_in kept) (Some promised) bytes)).acts
appended_speaks kept name promised date bytes long = elim (cases_Bool (has_promised_room (room_in kept) (Some promised))) [
  | inl enough ↦
      let took : taking (room_in kept) (Some promised) bytes ≡ Fits (take promised bytes) =
      ap (λ (b : Bool). cond b (cond (nat_lt (length bytes) promised) (TooShort promised (length bytes)) (Fits (take promised bytes)))
      (TooLong promised (room_in kept))) enough
      ∙ ap (λ (b : Bool). cond b (TooShort promised (length bytes)) (Fits (take promised bytes)))
      (le-ltb (length bytes) promised (omega (arith, long))) in
      let acts : List Act = append_acts kept name date (Some promised) (reply_behind (length kept.entries)) bytes in
      let e : Entry = entry_for kept name date (take promised bytes) in
      subst (λ (became : Taking). Speaks (taken_as kept name date acts became).acts) (sym took)
      (subst Speaks (sym (fits_acts kept name date promised bytes (take promised bytes) took (reply_behind (length kept.entries))))
      (speaks_so (front_acts kept promised bytes)
      (record {
        steps = table_writes (slot_sector (length kept.entries)) (table_with kept.table (length kept.entries) e);
        text = reply_behind (length kept.entries) e;
      })
      (appended_some (length kept.entries + 1) e.size e.start e.end)))
  | inr small ↦
      let acts : List Act = append_acts kept name date (Some promised) (reply_behind (length kept.entries)) bytes in
      subst (λ (became : Taking). Speaks (taken_as kept name date acts became).acts) (sym (full_taking kept name date promised small bytes))
      (refused_speaks acts kept.entries (why.Full promised (room_in kept)))
]

-- the bytes behind a line are as many as it promises
abbrev pub IsLong : Line → (bytes : List ℕ) → Type 0
IsLong (line.Append name promised date) bytes = length bytes ≡ promised
IsLong other bytes = Unit {0}

speaks_line : (c : Cartridge) (words : List ℕ) (entries : List Entry) (asked : Line) (bytes : List ℕ) (did : Did) → IsLong asked bytes →
    LineDoes c words entries asked bytes did → Speaks did.acts
speaks_line c words entries (line.Append name promised date) bytes did long (m, meets, is) =
    subst (λ (d : Did). Speaks d.acts) (sym is) (by_meeting m)
  where
    by_meeting : (m : Meeting) → Speaks (append_did c words entries name promised date bytes m).acts
    by_meeting (Refuses w) = refused_speaks [] entries w
    by_meeting (Finds table) = appended_speaks (kept_over c words entries table) name promised date bytes long
speaks_line c words entries line.List bytes did long is =
    subst (λ (d : Did). Speaks d.acts) (sym is) (speaks_so [] (reply (list_text words entries)) (list_some words entries))
speaks_line c words entries (line.Restore number) bytes did long (inl (none, is)) =
    subst (λ (d : Did). Speaks d.acts) (sym is) (refused_speaks [] entries (why.NoVolume number (length entries)))
speaks_line c words entries (line.Restore number) bytes did long (inr gives) =
    subst (λ (d : Did). Speaks d.acts) (sym gives.is) (given_speaks words entries number gives.entry _ gives.ending)
speaks_line c words entries line.Scrub bytes did long (inl (mark, is)) =
    subst (λ (d : Did). Speaks d.acts) (sym is) (refused_speaks [] entries why.Protected)
speaks_line c words entries line.Scrub bytes did long (inr (free, (acts, scrubs, is))) =
    subst (λ (d : Did). Speaks d.acts) (sym is) (subst Speaks (sym scrubs.are)
    (speaks_so (finding_acts c (looked_at words entries) scrubs.findings)
    (last_act (counts_for c (looked_at words entries) scrubs.findings))
    (counts_some (counts_for c (looked_at words entries) scrubs.findings))))
speaks_line c words entries (line.Lose segment sector) bytes did long (inl (none, is)) =
    subst (λ (d : Did). Speaks d.acts) (sym is) (refused_speaks [] entries (why.Place segment sector))
speaks_line c words entries (line.Lose segment sector) bytes did long (inr (place, is)) =
    subst (λ (d : Did). Speaks d.acts) (sym is) (speaks_so [] _ (place_some (codes "lost") segment sector))
speaks_line c words entries line.End bytes did long never = absurd never

-- ---- the items of an input

-- each of them has a reply
abbrev pub AllSpeak : List Did → Type 0
AllSpeak [] = Unit {0}
AllSpeak (did ∷ dids) = Speaks did.acts × AllSpeak dids

is_long : (l : Line) (bytes : List ℕ) → length bytes ≡ promised l → IsLong l bytes
is_long (line.Append name count date) bytes long = long
is_long line.List bytes long = tt
is_long (line.Restore number) bytes long = tt
is_long line.Scrub bytes long = tt
is_long (line.Lose segment sector) bytes long = tt
is_long line.End bytes long = tt

all_speak : (number place : ℕ) (input : List ℕ) (items : List Item) (ending : Ending) (dids : List Did) (c : Cartridge) (words : List ℕ)
    (entries : List Entry) →
    HasItems IsItem number place input items ending → ItemsDo c words entries items dids → AllSpeak dids
all_speak number place input [] ending [] c words entries read ran = tt
all_speak number place input [] ending (did ∷ dids) c words entries read ran = absurd ran
all_speak number place input (item ∷ items) ending [] c words entries read ran = absurd ran
all_speak number place input (item ∷ items) ending (did ∷ dids) c words entries (within, (text, (behind, (parts, is, read)))) ran = (
  speaks_line c words entries item.line item.bytes did (is_long item.line item.bytes is.kept) ran.0,
  all_speak (number + 1) (place + length text) behind items ending dids (changed_by (steps_of did.acts) c) words did.entries read ran.1,
)

pub script_speaks : (c : Cartridge) (words : List ℕ) (entries : List Entry) (input : List ℕ) (outcome : CommandOutcome) →
    (does : ScriptDoes c words entries input outcome) → AllSpeak does.dids
script_speaks c words entries input outcome does = all_speak 1 0 input does.items does.ending does.dids c words entries does.read does.did

-- there are as many as there are lines
pub as_many : (items : List Item) (dids : List Did) (c : Cartridge) (words : List ℕ) (entries : List Entry) →
    ItemsDo c words entries items dids → length dids ≡ length items
as_many [] [] c words entries ran = refl
as_many [] (did ∷ dids) c words entries ran = absurd ran
as_many (item ∷ items) [] c words entries ran = absurd ran
as_many (item ∷ items) (did ∷ dids) c words entries ran =
    let rest : length dids ≡ length items = as_many items dids (changed_by (steps_of did.acts) c) words did.entries ran.1 in omega arith
