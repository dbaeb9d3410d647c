-- The laws of the plain machine of `script`.
use Rattle.std.proofs.Common.{◌≡◌, ℕ, ◌+◌, List, ◌++◌, [], ◌∷◌, length, refl, sym, ap, ◌∙◌, append_assoc, codes, subst, inl, inr}
use Rattle.std.proofs.Common.{append-nil, drop, Option, Some}
use Rattle.cartridge_laws.proofs.FormatWriting.{effects-some}
use Rattle.cartridge_spec.specs.Settling.{changed_by}
use Rattle.cartridge_spec.specs.Table.{Entry}
use Rattle.command_laws.proofs.ScriptInput.{early_lines}
use Rattle.command_laws.proofs.ScriptPlain.{meets_one}
use Rattle.command_laws.proofs.ScriptReading.{Reads, place_is, split_doing}
use Rattle.command_laws.proofs.TextInputs.{one_reading}
use Rattle.command_laws.specs.ScriptItems.{EarlyDoes}
use Rattle.command_laws.specs.ScriptLaws.{ScriptHasOneOutcome, StopsInOne}
use Rattle.command_spec.specs.Input.{Item, input_status, IsItem, Ending, HasItems, IsScript, AtEnd, AtStop, AtFault}
use Rattle.command_spec.specs.Script.{place_behind, items_taken, Meeting, acts_on, EndDoes, Did, ItemsDo, cartridge_behind, entries_behind}
use Rattle.command_spec.specs.Script.{acts_of}
use Rattle.command_laws.specs.ScriptTerms.{FaultDoes}
use Rattle.command_spec.specs.Outcome.{CommandOutcome}
use Rattle.command_spec.specs.declared.line.Line.{Line}
use Rattle.qic_base.proofs.Joins.{steps_of-append}
use Rattle.qic_base.proofs.Steps.{Torn-append}
use Rattle.qic_base.specs.Acts.{Act, steps_of}
use Rattle.qic_base.specs.Cartridge.{Cartridge}
use Rattle.qic_base.specs.Step.{Step, Torn}
use Rattle.command_spec.specs.declared.line.Line.TheVariants as line
use Rattle.command_laws.proofs.TextInputs as inputs

-- ---- one outcome

-- the bytes of the items of a reading
record Bytes (input : List ℕ) (items : List Item) : Type 0 where
  texts : List ℕ
  rest : List ℕ
  parts : input ≡ texts ++ rest
  reads : Reads texts items

bytes_of : (number place : ℕ) (input : List ℕ) (items : List Item) (ending : Ending) → HasItems IsItem number place input items ending →
    Bytes input items
bytes_of number place input [] ending read = record { texts = []; rest = input; parts = refl; reads = refl }
bytes_of number place input (item ∷ items) ending (within, (text, (behind, (parts, is, read)))) =
    let more = bytes_of (number + 1) (place + length text) behind items ending read in record {
      texts = text ++ more.texts;
      rest = more.rest;
      parts = parts ∙ ap (λ (bs : List ℕ). text ++ bs) more.parts ∙ sym (append_assoc text more.texts more.rest);
      reads = (text, (more.texts, (refl, is, more.reads)));
    }

same_place : (input : List ℕ) (items : List Item) (ending : Ending) (a b : IsScript input items ending) →
    place_behind 1 0 input items ending a ≡ place_behind 1 0 input items ending b
same_place input items ending a b =
    let bytes = bytes_of 1 0 input items ending a in
    place_is items bytes.texts bytes.rest 1 0 input ending a bytes.parts bytes.reads
    ∙ sym (place_is items bytes.texts bytes.rest 1 0 input ending b bytes.parts bytes.reads)

same_taken : (input : List ℕ) (items : List Item) (ending : Ending) (a b : IsScript input items ending) →
    items_taken input items ending a ≡ items_taken input items ending b
same_taken input items AtEnd a b = refl
same_taken input items AtStop a b = ap (λ (n : ℕ). n + length (codes "end\n")) (same_place input items AtStop a b)
same_taken input items (AtFault number place) a b = refl

one_early : (c : Cartridge) (words : List ℕ) (entries : List Entry) (x y : Line) (xs ys : List ℕ) (a b : List Act) → x ≡ y → xs ≡ ys →
    EarlyDoes c words entries x xs a → EarlyDoes c words entries y ys b → a ≡ b
one_early c words entries x y xs ys a b lines bytes first second =
    let there : EarlyDoes c words entries x xs b =
    subst (λ (l : Line). EarlyDoes c words entries l xs b) (sym lines)
    (subst (λ (bs : List ℕ). EarlyDoes c words entries y bs b) (sym bytes) second) in
    by_line x first there
  where
    by_line : (l : Line) → EarlyDoes c words entries l xs a → EarlyDoes c words entries l xs b → a ≡ b
    by_line (line.Append name n date) (m, meets, is) (other, again, too) =
        is ∙ ap (λ (k : Meeting). acts_on c words entries name n date xs k) (sym (meets_one c m other meets again)) ∙ sym too
    by_line line.List first second = absurd first
    by_line (line.Restore number) first second = absurd first
    by_line line.Scrub first second = absurd first
    by_line (line.Lose segment sector) first second = absurd first
    by_line line.End first second = absurd first

one_fault : (c : Cartridge) (words : List ℕ) (entries : List Entry) (number : ℕ) (rest : List ℕ) (a b : List Act) →
    FaultDoes c words entries number rest a → FaultDoes c words entries number rest b → a ≡ b
one_fault c words entries number rest a b (inl (below, (x, (m, meets, is)))) (inl (again, (y, (n, too, are)))) =
    let same = early_lines rest x y in
    one_early c words entries (line.Append x.name x.promised x.date) (line.Append y.name y.promised y.date) x.bytes y.bytes a b same.items
    same.rests (m, meets, is) (n, too, are)
one_fault c words entries number rest a b (inl (below, (x, met))) (inr (never, are)) = absurd (never below x)
one_fault c words entries number rest a b (inr (never, are)) (inl (below, (x, met))) = absurd (never below x)
one_fault c words entries number rest a b (inr (never, are)) (inr (again, too)) = are ∙ sym too

one_last : (c : Cartridge) (words : List ℕ) (entries : List Entry) (rest : List ℕ) (ending : Ending) (a b : List Act) →
    EndDoes c words entries rest ending a → EndDoes c words entries rest ending b → a ≡ b
one_last c words entries rest AtEnd a b first second = first ∙ sym second
one_last c words entries rest AtStop a b first second = first ∙ sym second
one_last c words entries rest (AtFault number place) a b first second = one_fault c words entries number rest a b first second

one_doing : (c : Cartridge) (words : List ℕ) (entries : List Entry) (items : List Item) (a b : List Did) → ItemsDo c words entries items a →
    ItemsDo c words entries items b → b ≡ a
one_doing c words entries items a b first second =
    let P : List Item → Type 0 = λ is. ItemsDo c words entries is b in
    let split = split_doing items [] c words entries a b first (subst P (sym (append-nil items)) second) in
    split.whole ∙ nothing split.rears split.ran_so
  where
    nothing : (rears : List Did) → ItemsDo (cartridge_behind c a) words (entries_behind entries a) [] rears → a ++ rears ≡ a
    nothing [] ran_so = append-nil a
    nothing (r ∷ rears) ran_so = absurd ran_so

made : List Did → List Act → ℕ → Ending → CommandOutcome
made dids last taken ending = record { acts = acts_of dids ++ last; taken = taken; status = input_status ending }

pub one_outcome : ScriptHasOneOutcome
unfolding made
one_outcome c words entries input x y a b =
    let reading = one_reading IsItem inputs.items 1 0 input b.items a.items b.ending a.ending b.read a.read in
    let R : List Item → Type 0 = λ is. IsScript input is b.ending in
    let S : Ending → Type 0 = λ e. IsScript input a.items e in
    let D : List Item → Type 0 = λ is. ItemsDo c words entries is b.dids in
    let dids : b.dids ≡ a.dids = one_doing c words entries a.items a.dids b.dids a.did (subst D reading.0 b.did) in
    a.is ∙ sym (same_so a.items b.items a.ending b.ending reading.0 reading.1 a.read b.read a.dids b.dids dids a.last b.last a.ends b.ends)
    ∙ sym b.is
  where
    same_so : (is js : List Item) (e d : Ending) → js ≡ is → d ≡ e → (r : IsScript input is e) (q : IsScript input js d)
        (xs ys : List Did) → ys ≡ xs → (last other : List Act) →
        EndDoes (cartridge_behind c xs) words (entries_behind entries xs) (drop (place_behind 1 0 input is e r) input) e last →
        EndDoes (cartridge_behind c ys) words (entries_behind entries ys) (drop (place_behind 1 0 input js d q) input) d other →
        made ys other (items_taken input js d q) d ≡ made xs last (items_taken input is e r) e
    same_so is js e d items endings r q xs ys dids last other ends again =
        let R : (List Item) → Type 0 = λ ks. (q : IsScript input ks d) → EndDoes (cartridge_behind c ys) words (entries_behind entries ys)
        (drop (place_behind 1 0 input ks d q) input) d other →
        made ys other (items_taken input ks d q) d ≡ made xs last (items_taken input is e r) e in
        subst R (sym items) (λ q again. by_ending d endings q again) q again
      where
        by_ending : (d : Ending) → d ≡ e → (q : IsScript input is d) → EndDoes (cartridge_behind c ys) words (entries_behind entries ys)
            (drop (place_behind 1 0 input is d q) input) d other →
            made ys other (items_taken input is d q) d ≡ made xs last (items_taken input is e r) e
        by_ending d endings =
            let R : Ending → Type 0 = λ f. (q : IsScript input is f) → EndDoes (cartridge_behind c ys) words (entries_behind entries ys)
            (drop (place_behind 1 0 input is f q) input) f other →
            made ys other (items_taken input is f q) f ≡ made xs last (items_taken input is e r) e in
            subst R (sym endings) (λ q again.
            let P : ℕ → Type 0 = λ n. EndDoes (cartridge_behind c ys) words (entries_behind entries ys) (drop n input) e other in
            let Q : List Did → Type 0 = λ ds. EndDoes (cartridge_behind c ds) words (entries_behind entries ds)
            (drop (place_behind 1 0 input is e r) input) e other in
            let lasts : other ≡ last = one_last (cartridge_behind c xs) words (entries_behind entries xs)
            (drop (place_behind 1 0 input is e r) input) e other last
            (subst Q dids (subst P (same_place input is e q r) again)) ends in
            ap (λ (ds : List Did). made ds other (items_taken input is e q) e) dids
            ∙ ap (λ (acts : List Act). made xs acts (items_taken input is e q) e) lasts
            ∙ ap (λ (n : ℕ). made xs last n e) (same_taken input is e q r))

-- ---- stops

pub stops_in_one : StopsInOne
stops_in_one c [] last left torn = inr torn
stops_in_one c (did ∷ dids) last left torn =
    let steps : steps_of ((did.acts ++ acts_of dids) ++ last) ≡ steps_of did.acts ++ steps_of (acts_of dids ++ last) =
    ap (λ (acts : List Act). steps_of acts) (append_assoc did.acts (acts_of dids) last) ∙ steps_of-append did.acts (acts_of dids ++ last) in
    elim (Torn-append (steps_of did.acts) (steps_of (acts_of dids ++ last)) (Some c) left
    (subst (λ (ss : List Step). Torn ss (Some c) left) steps torn)) [
      | inl here ↦ inl (record { done = []; did = did; rest = dids; parts = refl; torn = here })
      | inr behind ↦
          elim (stops_in_one (changed_by (steps_of did.acts) c) dids last left
          (subst (λ (held : Option Cartridge). Torn (steps_of (acts_of dids ++ last)) held left)
          (effects-some (steps_of did.acts) c) behind)) [
            | inl one ↦ inl (record {
              done = did ∷ one.done;
              did = one.did;
              rest = one.rest;
              parts = ap (λ (ds : List Did). did ∷ ds) one.parts;
              torn = one.torn;
            })
            | inr all ↦ inr all
          ]
    ]
