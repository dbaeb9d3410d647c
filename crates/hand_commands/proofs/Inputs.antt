-- Inputs that begin with the lines of trains.
use Rattle.std.proofs.Common.{◌≡◌, ℕ, ◌+◌, ◌≤◌, ◌<◌, List, [], ◌∷◌, ◌++◌, length, Option, Some, None, IfSome, codes, get_or, refl, sym, ap}
use Rattle.std.proofs.Common.{◌∙◌, subst, arith, append_assoc, append-nil}
use Rattle.std.specs.Option.{option_map}
use Rattle.std.proofs.lemmas.List.{length-append, append_cancel_left, nil_from_length}
use Rattle.command_laws.specs.Inputs.{IsTrain}
use Rattle.command_spec.specs.Input.{IsPulse, Ending, AtEnd, AtStop, AtFault, IsFault, ItemsEnd, HasItems, most_items}
use Rattle.command_laws.proofs.TextDecimals.{one_number}
use Rattle.command_laws.proofs.TextInputs as inputs
use Rattle.command_laws.proofs.TextLined.{one_before}
use Rattle.tape_script.proofs.Rests.{Rest}
use Rattle.command_spec.specs.Pulses.{train_line, train_lines}
use Rattle.command_laws.specs.PulseLaws.{IsFront}

-- the lines of the trains are such as are read
abbrev pub ArePulses : List ℕ → Type 0
ArePulses [] = Unit {0}
ArePulses (p ∷ ps) = IsPulse (train_line p) p × ArePulses ps

pub ArePulses-push : (ps : List ℕ) (p : ℕ) → ArePulses ps → IsPulse (train_line p) p → ArePulses (ps ++ p ∷ [])
ArePulses-push [] p are is = (is, tt)
ArePulses-push (q ∷ ps) p are is = (are.0, ArePulses-push ps p are.1 is)

-- ---- readings

-- a reading, from an equal line and place
read_at : (line here place at : ℕ) (input trains : List ℕ) (ending : Ending) → here ≡ line → at ≡ place →
    HasItems IsPulse here at input trains ending → HasItems IsPulse line place input trains ending
read_at line here place at input trains ending same equal read =
    let P : ℕ → Type 0 = λ n. HasItems IsPulse n at input trains ending in
    let Q : ℕ → Type 0 = λ n. HasItems IsPulse line n input trains ending in
    subst Q equal (subst P same read)

-- what is read behind the lines of some trains is read behind these trains
pub read_behind : (ps qs rest : List ℕ) (line here place at : ℕ) (ending : Ending) → ArePulses ps → line + length ps ≤ most_items + 1 →
    here ≡ line + length ps → at ≡ place + length (train_lines ps) →
    HasItems IsPulse here at rest qs ending → HasItems IsPulse line place (train_lines ps ++ rest) (ps ++ qs) ending
read_behind [] qs rest line here place at ending are few same equal read =
    read_at line here place at rest qs ending (omega arith) (omega arith) read
read_behind (p ∷ ps) qs rest line here place at ending are few same equal read =
    let long = length-append (train_line p) (train_lines ps) in (
      omega arith,
      (
        train_line p,
        (
          train_lines ps ++ rest,
          (
            append_assoc (train_line p) (train_lines ps) rest,
            are.0,
            read_behind ps qs rest (line + 1) here (place + length (train_line p)) at ending are.1 (omega arith) (omega arith)
                (omega arith) read,
          ),
        ),
      ),
    )

-- the lines of some trains are these trains
pub read_all : (ps : List ℕ) → ArePulses ps → length ps ≤ most_items → HasItems IsPulse 1 0 (train_lines ps) ps AtEnd
read_all ps are few =
    let P : List ℕ → Type 0 = λ input. HasItems IsPulse 1 0 input (ps ++ []) AtEnd in
    let Q : List ℕ → Type 0 = λ qs. HasItems IsPulse 1 0 (train_lines ps) qs AtEnd in
    subst Q (append-nil ps) (subst P (append-nil (train_lines ps))
    (read_behind ps [] [] 1 (1 + length ps) 0 (length (train_lines ps)) AtEnd are (omega arith) refl (omega arith) refl))

-- one train begins an input
record SameTrain (x y : ℕ) (r q : List ℕ) : Type 0 where
  trains : x ≡ y
  rests : r ≡ q

one_train : (a b r q : List ℕ) (x y : ℕ) → IsPulse a x → IsPulse b y → a ++ r ≡ b ++ q → SameTrain x y r q
one_train a b r q x y first second e =
    let before : first.before ≡ second.before =
    one_before first.before second.before r q first.one_line second.one_line
    (sym (append_assoc first.before (0x0A ∷ []) r) ∙ ap (λ t. t ++ r) (sym first.whole) ∙ e
    ∙ ap (λ t. t ++ q) second.whole ∙ append_assoc second.before (0x0A ∷ []) q) in
    let P : List ℕ → Type 0 = λ t. IsTrain t y in
    let here : IsTrain first.before y = subst P (sym before) second.has in
    let same : a ≡ b = first.whole ∙ ap (λ t. t ++ 0x0A ∷ []) before ∙ sym second.whole in
    record {
      trains = one_number first.before x y first.has.0 here.0;
      rests = append_cancel_left a r q (e ∙ ap (λ t. t ++ q) (sym same));
    }

-- where a train may begin the input, it doesn't end there
no_ending : (line place p : ℕ) (input rest : List ℕ) (ending : Ending) → IsPulse (train_line p) p → line ≤ most_items →
    input ≡ train_line p ++ rest → ItemsEnd IsPulse line place input ending → ⊥
no_ending line place p input rest AtEnd is few e ends =
    inputs.pulses.some (train_line p) p is
    (nil_from_length (train_line p) (let l = ap length (sym ends ∙ e) in let m = length-append (train_line p) rest in omega arith))
no_ending line place p input rest AtStop is few e ends = inputs.pulses.no_stop (train_line p) rest p is (ends.0, sym e ∙ ends.1)
no_ending line place p input rest (AtFault n m) is few e ends = ends.0.no_item few (p, (train_line p, (rest, (e, is))))

-- where lines of trains begin an input, its trains begin with these
pub comes_first : (ps rest : List ℕ) (line place : ℕ) (trains : List ℕ) (ending : Ending) → ArePulses ps →
    line + length ps ≤ most_items + 1 →
    HasItems IsPulse line place (train_lines ps ++ rest) trains ending → IsFront ps trains
comes_first [] rest line place trains ending are few read = (trains, refl)
comes_first (p ∷ ps) rest line place [] ending are few read =
    absurd (no_ending line place p ((train_line p ++ train_lines ps) ++ rest) (train_lines ps ++ rest) ending are.0 (omega arith)
    (append_assoc (train_line p) (train_lines ps) rest) read)
comes_first (p ∷ ps) rest line place (q ∷ qs) ending are few read =
    let text = read.1.0 in
    let behind = read.1.1.0 in
    let one = one_train (train_line p) text (train_lines ps ++ rest) behind p q are.0 read.1.1.1.1
    (sym (append_assoc (train_line p) (train_lines ps) rest) ∙ read.1.1.1.0) in
    let P : List ℕ → Type 0 = λ input. HasItems IsPulse (line + 1) (place + length text) input qs ending in
    let next = comes_first ps rest (line + 1) (place + length text) qs ending are.1 (omega arith) (subst P (sym one.rests) read.1.1.1.2) in
    (next.0, ap (λ xs. p ∷ xs) next.1 ∙ ap (λ (x : ℕ). x ∷ qs) one.trains)

-- ---- the input, from what is left

-- a byte that begins no line
no_line : (line : ℕ) → IsFault IsPulse line (0 ∷ [])
no_line line = record {
  some = λ e. cc;
  no_stop = λ stop. let e = stop.1 in cc;
  no_item = λ within item.
      let l = item.1.1.1.1 in
      without l.before item.1.1.0 (item.1.1.1.0 ∙ ap (λ t. t ++ item.1.1.0) l.whole ∙ append_assoc l.before (0x0A ∷ []) item.1.1.0);
} where
  other : (n : ℕ) → n ≡ 0x0A → n ≡ 0 → ⊥
  other n p q = omega arith

  nothing : (before rest : List ℕ) → [] ≡ before ++ 0x0A ∷ rest → ⊥
  nothing [] rest e = cc
  nothing (b ∷ before) rest e = cc

  without : (before rest : List ℕ) → 0 ∷ [] ≡ before ++ 0x0A ∷ rest → ⊥
  without [] rest e = other 0 (ap (λ t. get_or t 0 0) e) refl
  without (b ∷ before) rest e = nothing before rest (cc)

-- bytes were given, and no line began there
pub fault_rest : (o p : Option (List ℕ)) (line n : ℕ) (bytes : List ℕ) → 0 < n → length bytes ≡ n →
    o ≡ option_map (λ rest. bytes ++ rest) p →
    IfSome o (λ all. (text rest : List ℕ) → all ≡ text ++ rest → ¬ (text ≡ codes "end\n")) →
    (line ≤ most_items → (train : ℕ) → IfSome o (λ all. (text rest : List ℕ) → all ≡ text ++ rest → ¬ (IsPulse text train))) →
    Rest o (IsFault IsPulse line)
fault_rest None p line n bytes some long gave no_stop no_train = record { rest = 0 ∷ []; told = tt; has = no_line line }
fault_rest (Some all) p line n bytes some long gave no_stop no_train = record {
  rest = all;
  told = refl;
  has = record {
    some = λ e. given p gave e;
    no_stop = λ stop. no_stop (codes "end\n") stop.0 stop.1 refl;
    no_item = λ within item. no_train within item.0 item.1.0 item.1.1.0 item.1.1.1.0 item.1.1.1.1;
  };
} where
  given : (p : Option (List ℕ)) → Some all ≡ option_map (λ rest. bytes ++ rest) p → all ≡ [] → ⊥
  given None gave e = cc
  given (Some rest) gave e =
      let same : all ≡ bytes ++ rest = cc in
      let l = ap length (sym e ∙ same) in
      let m = length-append bytes rest in omega arith
