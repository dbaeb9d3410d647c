-- Items that were read, and what is read behind them; and what they did, and what others did behind them.
use Rattle.std.proofs.Common.{◌≡◌, ℕ, ◌+◌, List, [], ◌∷◌, ◌++◌, length, sym, ap, ◌∙◌, arith, append_assoc, refl, subst, append-nil, ◌≤◌}
use Rattle.std.proofs.lemmas.List.{length-append}
use Rattle.cartridge_laws.proofs.FormatWriting.{changed_by-append}
use Rattle.cartridge_spec.specs.Settling.{changed_by}
use Rattle.cartridge_spec.specs.Table.{Entry}
use Rattle.command_laws.proofs.ScriptPlain.{line_one}
use Rattle.command_laws.proofs.TextInputs.{one_item, no_ending}
use Rattle.command_spec.specs.Input.{Item, IsItem, Ending, HasItems, ItemsEnd, most_items}
use Rattle.command_spec.specs.Script.{place_behind, Did, acts_of, cartridge_behind, ItemsDo, entries_behind}
use Rattle.command_laws.specs.ScriptTerms.{ItemDoes}
use Rattle.qic_base.proofs.Joins.{steps_of-append}
use Rattle.qic_base.specs.Acts.{steps_of, Act}
use Rattle.qic_base.specs.Cartridge.{Cartridge}
use Rattle.command_laws.proofs.TextInputs as inputs

-- ---- reading

-- the text is that of these items, one after the other
abbrev pub Reads : (texts : List ℕ) → List Item → Type 0
Reads texts [] = texts ≡ []
Reads texts (item ∷ items) = (text : List ℕ) × ((behind : List ℕ) × ((texts ≡ text ++ behind) × IsItem text item × Reads behind items))

pub reads_more : (texts text : List ℕ) (items : List Item) (item : Item) → Reads texts items → IsItem text item →
    Reads (texts ++ text) (items ++ item ∷ [])
reads_more texts text [] item reads is = (text, ([], (ap (λ (t : List ℕ). t ++ text) reads ∙ sym (append-nil text), is, refl)))
reads_more texts text (first ∷ items) item (front, (behind, (parts, first_is, reads))) is = (
  front,
  (
    behind ++ text,
    (
      ap (λ (t : List ℕ). t ++ text) parts ∙ append_assoc front behind text,
      first_is,
      reads_more behind text items item reads is,
    ),
  ),
)

-- how the input ends behind them is how it ends
pub read_end : (items : List Item) (texts rest : List ℕ) (number place here at : ℕ) (ending : Ending) → Reads texts items →
    number + length items ≤ most_items + 1 →
    here ≡ number + length items → at ≡ place + length texts → ItemsEnd IsItem here at rest ending →
    HasItems IsItem number place (texts ++ rest) items ending
read_end [] texts rest number place here at ending reads few same equal ends =
    let P : ℕ → Type 0 = λ n. ItemsEnd IsItem n place rest ending in
    let Q : ℕ → Type 0 = λ n. ItemsEnd IsItem here n rest ending in
    let R : List ℕ → Type 0 = λ l. ItemsEnd IsItem number place (l ++ rest) ending in
    let now : here ≡ number = omega arith in
    let there : at ≡ place = (let l = ap length reads in omega arith) in
    subst R (sym reads) (subst P now (subst Q there ends))
read_end (item ∷ items) texts rest number place here at ending (text, (behind, (parts, is, reads))) few same equal ends =
    let l = ap length parts in let m = length-append text behind in (
      omega arith,
      (
        text,
        (
          behind ++ rest,
          (
            ap (λ (t : List ℕ). t ++ rest) parts ∙ append_assoc text behind rest,
            is,
            read_end items behind rest (number + 1) (place + length text) here at ending reads (omega arith) (omega arith)
                (omega arith) ends,
          ),
        ),
      ),
    )

-- and the place behind them is behind their bytes, however they are read
pub place_is : (items : List Item) (texts rest : List ℕ) (number place : ℕ) (input : List ℕ) (ending : Ending)
    (read : HasItems IsItem number place input items ending) →
    input ≡ texts ++ rest → Reads texts items → place_behind number place input items ending read ≡ place + length texts
place_is [] texts rest number place input ending read is reads = (let l = ap length reads in omega arith)
place_is (item ∷ items) texts rest number place input ending (within, (front, (after, (whole, front_is, more)))) is
    (text, (behind, (parts, text_is, reads))) =
    let one = one_item IsItem inputs.items front text after (behind ++ rest) item item front_is text_is
    (sym whole ∙ is ∙ ap (λ (t : List ℕ). t ++ rest) parts ∙ append_assoc text behind rest) in
    let next = place_is items behind rest (number + 1) (place + length front) after ending more one.rests reads in
    let f = ap length one.texts in let l = ap length parts in let m = length-append text behind in omega arith

-- what an input is read as that these items begin
pub record ReadBehind (items : List Item) (here at : ℕ) (rest : List ℕ) (all : List Item) (ending : Ending) : Type 0 where
  pub more : List Item
  pub whole : all ≡ items ++ more
  pub read : HasItems IsItem here at rest more ending

pub split_reading : (items : List Item) (texts rest : List ℕ) (number place here at : ℕ) (input : List ℕ) (all : List Item)
    (ending : Ending) → Reads texts items → input ≡ texts ++ rest →
    number + length items ≤ most_items + 1 → here ≡ number + length items → at ≡ place + length texts →
    HasItems IsItem number place input all ending → ReadBehind items here at rest all ending
split_reading [] texts rest number place here at input all ending reads is few same equal read =
    let P : ℕ → Type 0 = λ n. HasItems IsItem n place input all ending in
    let Q : ℕ → Type 0 = λ n. HasItems IsItem here n input all ending in
    let R : List ℕ → Type 0 = λ l. HasItems IsItem here at l all ending in
    let now : number ≡ here = omega arith in
    let there : place ≡ at = (let l = ap length reads in omega arith) in
    record { more = all; whole = refl; read = subst R (is ∙ ap (λ (t : List ℕ). t ++ rest) reads) (subst Q there (subst P now read)) }
split_reading (item ∷ items) texts rest number place here at input [] ending (text, (behind, (parts, text_is, reads))) is few same equal
    read =
    absurd (no_ending IsItem inputs.items number place input text (behind ++ rest) item ending read (omega arith)
    (is ∙ ap (λ (t : List ℕ). t ++ rest) parts ∙ append_assoc text behind rest) text_is)
split_reading (item ∷ items) texts rest number place here at input (x ∷ xs) ending
    (text, (behind, (parts, text_is, reads))) is few same equal (within, (front, (after, (whole, front_is, more)))) =
    let one = one_item IsItem inputs.items front text after (behind ++ rest) x item front_is text_is
    (sym whole ∙ is ∙ ap (λ (t : List ℕ). t ++ rest) parts ∙ append_assoc text behind rest) in
    let f = ap length one.texts in let l = ap length parts in let m = length-append text behind in
    let next = split_reading items behind rest (number + 1) (place + length front) here at after xs ending reads one.rests (omega arith)
    (omega arith) (omega arith) more in
    record {
      more = next.more;
      whole = ap (λ (y : Item). y ∷ xs) one.items ∙ ap (λ (ys : List Item). item ∷ ys) next.whole;
      read = next.read;
    }

-- ---- doing

pub acts_of-append : (xs ys : List Did) → acts_of (xs ++ ys) ≡ acts_of xs ++ acts_of ys
acts_of-append [] ys = refl
acts_of-append (x ∷ xs) ys = ap (λ (acts : List Act). x.acts ++ acts) (acts_of-append xs ys)
    ∙ sym (append_assoc x.acts (acts_of xs) (acts_of ys))

pub entries_behind-append : (entries : List Entry) (xs ys : List Did) → entries_behind entries (xs ++ ys) ≡ entries_behind
    (entries_behind entries xs) ys
entries_behind-append entries [] ys = refl
entries_behind-append entries (x ∷ xs) ys = entries_behind-append x.entries xs ys

-- the cartridge behind them is what all their steps make of it
pub cartridge_is : (c : Cartridge) (xs : List Did) → cartridge_behind c xs ≡ changed_by (steps_of (acts_of xs)) c
cartridge_is c [] = refl
cartridge_is c (x ∷ xs) =
    cartridge_is (changed_by (steps_of x.acts) c) xs
    ∙ sym (changed_by-append (steps_of x.acts) (steps_of (acts_of xs)) c)
    ∙ ap (λ ss. changed_by ss c) (sym (steps_of-append x.acts (acts_of xs)))

-- one item more
pub do_more : (c : Cartridge) (words : List ℕ) (entries : List Entry) (items : List Item) (item : Item) (dids : List Did) (did : Did) →
    ItemsDo c words entries items dids →
    ItemDoes (cartridge_behind c dids) words (entries_behind entries dids) item did → ItemsDo c words entries (items ++ item ∷ [])
    (dids ++ did ∷ [])
do_more c words entries [] item [] did ran_so does = (does, tt)
do_more c words entries [] item (x ∷ dids) did ran_so does = absurd ran_so
do_more c words entries (i ∷ items) item [] did ran_so does = absurd ran_so
do_more c words entries (i ∷ items) item (x ∷ dids) did (first, ran_so) does =
    (first, do_more (changed_by (steps_of x.acts) c) words x.entries items item dids did ran_so does)

-- what others ran_so behind them
pub record DoBehind (c : Cartridge) (words : List ℕ) (entries : List Entry) (dids : List Did) (more : List Item)
    (all : List Did) : Type 0 where
  pub rears : List Did
  pub whole : all ≡ dids ++ rears
  pub ran_so : ItemsDo (cartridge_behind c dids) words (entries_behind entries dids) more rears

pub split_doing : (items more : List Item) (c : Cartridge) (words : List ℕ) (entries : List Entry) (dids all : List Did) →
    ItemsDo c words entries items dids →
    ItemsDo c words entries (items ++ more) all → DoBehind c words entries dids more all
split_doing [] more c words entries [] all ran_so both = record { rears = all; whole = refl; ran_so = both }
split_doing [] more c words entries (x ∷ dids) all ran_so both = absurd ran_so
split_doing (item ∷ items) more c words entries [] all ran_so both = absurd ran_so
split_doing (item ∷ items) more c words entries (x ∷ dids) [] ran_so both = absurd both
split_doing (item ∷ items) more c words entries (x ∷ dids) (y ∷ all) (first, ran_so) (again, both) =
    let one : y ≡ x = line_one c words entries item.line item.bytes x y first again in
    let P : Did → Type 0 = λ d. ItemsDo (changed_by (steps_of d.acts) c) words d.entries (items ++ more) all in
    let next = split_doing items more (changed_by (steps_of x.acts) c) words x.entries dids all ran_so (subst P one both) in
    record { rears = next.rears; whole = ap (λ (d : Did). d ∷ all) one ∙ ap (λ (ds : List Did). x ∷ ds) next.whole; ran_so = next.ran_so }
