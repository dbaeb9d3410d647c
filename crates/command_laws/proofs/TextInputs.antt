-- The inputs of `script` and of `pulses`: their items are unique.
use Rattle.std.proofs.Common.{◌≡◌, ℕ, ◌+◌, List, [], ◌∷◌, ◌++◌, sym, ap, ◌∙◌, append_assoc, length, arith, subst, append-nil, ◌⊎◌, inl, inr}
use Rattle.std.proofs.Common.{refl, ◌≢◌, codes, ◌≤◌, lit<}
use Rattle.std.proofs.lemmas.List.{append_cancel_left, length-append, nil_from_length}
use Rattle.command_laws.proofs.TextDecimals.{one_number, all_digits}
use Rattle.command_laws.proofs.TextLined.{one_before, end_no_newline}
use Rattle.command_laws.proofs.TextLines.{one_line}
use Rattle.command_laws.specs.TextInput.{NoItemBegins, OneReading}
use Rattle.command_spec.specs.Input.{IsLined, Item, promised, IsItem, IsPulse, HasStop, Ending, AtEnd, AtStop, AtFault, ItemsEnd}
use Rattle.command_spec.specs.Input.{most_items, HasItems}
use Rattle.command_laws.specs.Inputs.{IsLine, words_of, IsTrain}
use Rattle.command_spec.specs.declared.line.Line.{Line}
use Rattle.command_spec.specs.declared.line.Line.TheVariants as line

-- ---- items

-- the line at the front of two texts that begin alike is one
same_before : (P Q : List ℕ → Type 0) (a b more rest : List ℕ) (x : IsLined P a) (y : IsLined Q b) → a ++ more ≡ b ++ rest →
    x.before ≡ y.before
same_before P Q a b more rest x y e =
    one_before x.before y.before more rest x.one_line y.one_line
    (sym (ap (λ t. t ++ more) x.whole ∙ append_assoc x.before (0x0A ∷ []) more) ∙ e ∙ ap (λ t. t ++ rest) y.whole
    ∙ append_assoc y.before (0x0A ∷ []) rest)

-- and what stands behind it
same_behind : (P Q : List ℕ → Type 0) (a b more rest : List ℕ) (x : IsLined P a) (y : IsLined Q b) → a ++ more ≡ b ++ rest → more ≡ rest
same_behind P Q a b more rest x y e =
    let before = same_before P Q a b more rest x y e in
    let same : a ≡ b = x.whole ∙ ap (λ t. t ++ 0x0A ∷ []) before ∙ sym y.whole in
    append_cancel_left a more rest (e ∙ ap (λ t. t ++ rest) (sym same))

same_item : (x y : Item) → x.line ≡ y.line → x.bytes ≡ y.bytes → x ≡ y
same_item x y lines bytes =
    let step : (l : Line) (b : List ℕ) → x.line ≡ l → x.bytes ≡ b → x ≡ record { line = l; bytes = b } =
    λ l b el eb. ap (λ (k : Line). record { line = k; bytes = x.bytes }) el ∙ ap (λ (k : List ℕ). record { line = l; bytes = k }) eb in
    step y.line y.bytes lines bytes

pub no_item_begins : NoItemBegins IsItem
no_item_begins a rest x y first second =
    let e : first.front ++ (x.bytes ++ rest) ≡ second.front ++ y.bytes =
    sym (append_assoc first.front x.bytes rest) ∙ ap (λ t. t ++ rest) (sym first.whole) ∙ second.whole in
    let P : List ℕ → Type 0 = λ before. IsLine before x.line in
    let Q : List ℕ → Type 0 = λ before. IsLine before y.line in
    let before = same_before P Q first.front second.front (x.bytes ++ rest) y.bytes first.lined second.lined e in
    let behind : x.bytes ++ rest ≡ y.bytes = same_behind P Q first.front second.front
    (x.bytes ++ rest) y.bytes first.lined second.lined e in
    let here : IsLine first.lined.before y.line = subst Q (sym before) second.lined.has in
    let lines : x.line ≡ y.line = one_line (words_of first.lined.before) x.line y.line first.lined.has here in
    let long : length x.bytes ≡ length y.bytes = first.kept ∙ ap promised lines ∙ sym second.kept in
    let none : rest ≡ [] = nil_from_length rest (let l = ap length behind in let m = length-append x.bytes rest in omega arith) in
    let bytes : x.bytes ≡ y.bytes = sym (append-nil x.bytes) ∙ ap (λ t. x.bytes ++ t) (sym none) ∙ behind in
    (none, same_item x y lines bytes)

pub no_pulse_begins : NoItemBegins IsPulse
no_pulse_begins a rest x y first second =
    let P : List ℕ → Type 0 = λ before. IsTrain before x in
    let Q : List ℕ → Type 0 = λ before. IsTrain before y in
    let e : a ++ rest ≡ (a ++ rest) ++ [] = sym (append-nil (a ++ rest)) in
    let before = same_before P Q a (a ++ rest) rest [] first second e in
    let behind : rest ≡ [] = same_behind P Q a (a ++ rest) rest [] first second e in
    let here : IsTrain first.before y = subst Q (sym before) second.has in
    (behind, one_number first.before x y first.has.0 here.0)

-- ---- inputs

-- two fronts of one list: one of them begins the other
record Begins (xs ys r s : List ℕ) : Type 0 where
  more : List ℕ
  longer : ys ≡ xs ++ more
  left : r ≡ more ++ s

fronts : (xs ys r s : List ℕ) → xs ++ r ≡ ys ++ s → Begins xs ys r s ⊎ Begins ys xs s r
fronts [] ys r s e = inl record { more = ys; longer = refl; left = e }
fronts (x ∷ xs) [] r s e = inr record { more = x ∷ xs; longer = refl; left = sym e }
fronts (x ∷ xs) (y ∷ ys) r s e =
    let head : x ≡ y = cc in
    let tail : xs ++ r ≡ ys ++ s = cc in
    elim (fronts xs ys r s tail) [
      | inl b ↦ inl record {
        more = b.more;
        longer = ap (λ t. y ∷ t) b.longer ∙ ap (λ (z : ℕ). z ∷ (xs ++ b.more)) (sym head);
        left = b.left;
      }
      | inr b ↦ inr record { more = b.more; longer = ap (λ t. x ∷ t) b.longer ∙ ap (λ (z : ℕ). z ∷ (ys ++ b.more)) head; left = b.left }
    ]

-- what holds of the texts of items of one kind
pub record AreItems {I : Type 0} (Spelled : List ℕ → I → Type 0) : Type 0 where
  pub no_begin : NoItemBegins Spelled
  pub some : (text : List ℕ) (x : I) → Spelled text x → text ≢ []
  pub no_stop : (text rest : List ℕ) (x : I) → Spelled text x → ¬ (HasStop (text ++ rest))

-- one item begins an input, or one line
pub record SameItem {I : Type 0} (s t r q : List ℕ) (x y : I) : Type 0 where
  pub texts : s ≡ t
  pub rests : r ≡ q
  pub items : x ≡ y

pub one_item : {I : Type 0} (Spelled : List ℕ → I → Type 0) → AreItems Spelled → (s t r q : List ℕ) (x y : I) → Spelled s x → Spelled t y →
    s ++ r ≡ t ++ q → SameItem s t r q x y
one_item {I} Spelled are s t r q x y a b e = elim (fronts s t r q e) [
  | inl f ↦ let law = are.no_begin s f.more x y a (let P : List ℕ → Type 0 = λ u. Spelled u y in subst P f.longer b) in record {
    texts = sym (f.longer ∙ ap (λ u. s ++ u) law.0 ∙ append-nil s);
    rests = f.left ∙ ap (λ u. u ++ q) law.0;
    items = law.1;
  }
  | inr f ↦ let law = are.no_begin t f.more y x b (let P : List ℕ → Type 0 = λ u. Spelled u x in subst P f.longer a) in record {
    texts = f.longer ∙ ap (λ u. t ++ u) law.0 ∙ append-nil t;
    rests = sym (f.left ∙ ap (λ u. u ++ r) law.0);
    items = sym law.1;
  }
]

one_ending : {I : Type 0} (Spelled : List ℕ → I → Type 0) (line place : ℕ) (input : List ℕ) (a b : Ending) →
    ItemsEnd Spelled line place input a → ItemsEnd Spelled line place input b → a ≡ b
one_ending Spelled line place input AtEnd AtEnd p q = refl
one_ending Spelled line place input AtEnd AtStop p q = absurd (let e : [] ≡ codes "end\n" ++ q.0 = sym p ∙ q.1 in cc)
one_ending Spelled line place input AtEnd (AtFault n m) p q = absurd (q.0.some p)
one_ending Spelled line place input AtStop AtEnd p q = absurd (let e : [] ≡ codes "end\n" ++ p.0 = sym q ∙ p.1 in cc)
one_ending Spelled line place input AtStop AtStop p q = refl
one_ending Spelled line place input AtStop (AtFault n m) p q = absurd (q.0.no_stop p)
one_ending Spelled line place input (AtFault n m) AtEnd p q = absurd (p.0.some q)
one_ending Spelled line place input (AtFault n m) AtStop p q = absurd (p.0.no_stop q)
one_ending Spelled line place input (AtFault n m) (AtFault k l) p q = rw (p.1, p.2, q.1, q.2) refl

-- where an item begins the input, it doesn't end there
pub no_ending : {I : Type 0} (Spelled : List ℕ → I → Type 0) → AreItems Spelled → (line place : ℕ) (input text rest : List ℕ) (x : I)
    (a : Ending) →
    ItemsEnd Spelled line place input a → line ≤ most_items → input ≡ text ++ rest → Spelled text x → ⊥
no_ending Spelled are line place input text rest x AtEnd p le e spelled =
    are.some text x spelled (nil_from_length text (let l = ap length (sym p ∙ e) in let m = length-append text rest in omega arith))
no_ending Spelled are line place input text rest x AtStop p le e spelled = are.no_stop text rest x spelled (p.0, sym e ∙ p.1)
no_ending Spelled are line place input text rest x (AtFault n m) p le e spelled = p.0.no_item le (x, (text, (rest, (e, spelled))))

pub one_reading : {I : Type 0} (Spelled : List ℕ → I → Type 0) → AreItems Spelled → OneReading Spelled
one_reading {I} Spelled are line place input [] [] a b p q = (refl, one_ending Spelled line place input a b p q)
one_reading {I} Spelled are line place input [] (y ∷ ys) a b p q =
    absurd (no_ending Spelled are line place input q.1.0 q.1.1.0 y a p q.0 q.1.1.1.0 q.1.1.1.1)
one_reading {I} Spelled are line place input (x ∷ xs) [] a b p q =
    absurd (no_ending Spelled are line place input p.1.0 p.1.1.0 x b q p.0 p.1.1.1.0 p.1.1.1.1)
one_reading {I} Spelled are line place input (x ∷ xs) (y ∷ ys) a b p q =
    let s = p.1.0 in let r = p.1.1.0 in let t = q.1.0 in let u = q.1.1.0 in
    let one = one_item Spelled are s t r u x y p.1.1.1.1 q.1.1.1.1 (sym p.1.1.1.0 ∙ q.1.1.1.0) in
    let R : List ℕ → Type 0 = λ z. HasItems Spelled (line + 1) (place + length s) z ys b in
    let S : List ℕ → Type 0 = λ z. HasItems Spelled (line + 1) (place + length z) u ys b in
    let next : HasItems Spelled (line + 1) (place + length s) r ys b = subst R (sym one.rests) (subst S (sym one.texts) q.1.1.1.2) in
    let both = one_reading Spelled are (line + 1) (place + length s) r xs ys a b p.1.1.1.2 next in
    (ap (λ (z : I). z ∷ xs) one.items ∙ ap (λ (zs : List I). y ∷ zs) both.0, both.1)

-- ---- both kinds

no_empty : (before more : List ℕ) → before ++ 0x0A ∷ more ≢ []
no_empty [] more e = cc
no_empty (b ∷ before) more e = cc

stop_before : (P : List ℕ → Type 0) (text rest : List ℕ) (x : IsLined P text) → HasStop (text ++ rest) → x.before ≡ codes "end"
stop_before P text rest x stop =
    one_before x.before (codes "end") rest stop.0 x.one_line end_no_newline
    (sym (append_assoc x.before (0x0A ∷ []) rest) ∙ ap (λ t. t ++ rest) (sym x.whole) ∙ stop.1)

pub items : AreItems IsItem
items = record {
  no_begin = no_item_begins;
  some = λ text x spelled e. no_empty spelled.lined.before x.bytes
      (sym (append_assoc spelled.lined.before (0x0A ∷ []) x.bytes) ∙ ap (λ t. t ++ x.bytes) (sym spelled.lined.whole) ∙ sym spelled.whole
      ∙ e);
  no_stop = λ text rest x spelled stop.
      let P : List ℕ → Type 0 = λ before. IsLine before x.line in
      let e : spelled.front ++ (x.bytes ++ rest) ≡ text ++ rest = sym (append_assoc spelled.front x.bytes rest)
      ∙ ap (λ t. t ++ rest) (sym spelled.whole) in
      let before = stop_before P spelled.front (x.bytes ++ rest) spelled.lined (stop.0, e ∙ stop.1) in
      let here : IsLine (codes "end") x.line = subst P before spelled.lined.has in
      spelled.not_end (one_line (words_of (codes "end")) x.line line.End here (inl (refl, tt)));
}

pub pulses : AreItems IsPulse
pulses = record {
  no_begin = no_pulse_begins;
  some = λ text x spelled e. no_empty spelled.before [] (sym spelled.whole ∙ e);
  no_stop = λ text rest x spelled stop.
      let P : List ℕ → Type 0 = λ before. IsTrain before x in
      let before = stop_before P text rest spelled stop in
      let here : IsTrain (codes "end") x = subst P before spelled.has in
      let digit = all_digits (codes "end") x 0 here.0 (lit< tt) in omega arith;
}
