-- The plain machine of `make`: it does one thing, and how its steps join.
use Rattle.std.proofs.Common.{◌≡◌, List, sym, ◌∙◌, true, false, inl, inr, ℕ, ◌⊎◌, [], ap, Some, subst, ◌∷◌, ◌++◌, refl, append_assoc}
use Rattle.std.proofs.Common.{append-nil, ◌≢◌}
use Rattle.cartridge_laws.proofs.MountOnce.{one_table, not_lost, one_loss}
use Rattle.cartridge_spec.specs.Settling.{changed_by}
use Rattle.cartridge_spec.specs.Table.{Entry}
use Rattle.cartridge_spec.specs.Volumes.{volume_length}
use Rattle.command_laws.proofs.MountedKeeping.{changed_by_acts}
use Rattle.command_laws.proofs.RestoreEndings.{restores_is_function}
use Rattle.command_spec.specs.Make.{IsAppended, IsTableLost, made_answer, sum_acts, MakeStep, AppendMade, WearSector, ScrubAll, SumVolume}
use Rattle.command_spec.specs.Make.{StepDoes, after_item, Runs}
use Rattle.command_laws.specs.MadeTerms.{IsSummed, made_acts, after_items}
use Rattle.command_spec.specs.Restore.{GivingEnd, Restores, pieces, ending_status}
use Rattle.qic_base.specs.Acts.{Act, text_of, steps_of}
use Rattle.qic_base.specs.Cartridge.{Cartridge}
use Rattle.command_spec.specs.declared.status.Status.{Status}
use Rattle.command_laws.proofs.ScrubOneWrong.{form_is_function}
use Rattle.command_spec.specs.declared.depth.Depth.TheVariants.{Shallow}
use Rattle.command_spec.specs.declared.status.Status.TheVariants as status

-- ---- one step does one thing

-- the same acts and the same answer
abbrev pub Same : (a b : List Act) → (x y : Status) → Type 0
Same a b x y = (a ≡ b) × (x ≡ y)

both_are : (a b : List Act) (x y : Status) (acts : List Act) (answer : Status) → a ≡ acts → b ≡ acts → x ≡ answer → y ≡ answer →
    Same a b x y
both_are a b x y acts answer p q r s = (p ∙ sym q, r ∙ sym s)

pub never_unlocked : (c : Cartridge) → c.info.protected ≡ true → c.info.protected ≡ false → ⊥
never_unlocked c locked free = let same : true ≡ false = sym locked ∙ free in cc

one_append : (seed : ℕ) (c : Cartridge) (words : List ℕ) (es : List Entry) (volume : ℕ) (a b : List Act) (x y : Status) →
    IsAppended seed c words es volume a x ⊎ IsTableLost c a x → IsAppended seed c words es volume b y ⊎ IsTableLost c b y → Same a b x y
one_append seed c words es volume a b x y (inl one) (inl other) =
    let same : one.table ≡ other.table = one_table c one.table other.table one.reads other.reads in
    both_are a b x y (made_acts seed c words es other.table volume) (made_answer seed words es volume)
    (one.does ∙ ap (λ (t : List (List ℕ)). made_acts seed c words es t volume) same) other.does one.answered other.answered
one_append seed c words es volume a b x y (inl one) (inr other) = absurd (not_lost c one.table other.0 one.reads other.1)
one_append seed c words es volume a b x y (inr one) (inl other) = absurd (not_lost c other.table one.0 other.reads one.1)
one_append seed c words es volume a b x y (inr one) (inr other) =
    both_are a b x y [] (status.Lost 2 other.0) one.2 other.2
    (one.3 ∙ ap (λ (n : ℕ). status.Lost 2 n) (one_loss c one.0 other.0 one.1 other.1)) other.3

one_sum : (c : Cartridge) (words : List ℕ) (es : List Entry) (number : ℕ) (a b : List Act) (x y : Status) →
    IsSummed c words es number a x → IsSummed c words es number b y → Same a b x y
one_sum c words es number a b x y one other =
    let there : Some one.entry ≡ Some other.entry = sym one.numbered ∙ other.numbered in
    let entry : one.entry ≡ other.entry = cc in
    let same = restores_is_function c words (pieces words other.entry) one.acts other.acts one.ending other.ending
    (subst (λ (e : Entry). Restores c words (pieces words e) one.acts one.ending) entry one.restores) other.restores in
    both_are a b x y (sum_acts number (volume_length words other.entry) (text_of other.acts) other.ending) (ending_status other.ending)
    (one.is.0 ∙ ap (λ (e : Entry). sum_acts number (volume_length words e) (text_of one.acts) one.ending) entry
    ∙ ap (λ (given : List Act). sum_acts number (volume_length words other.entry) (text_of given) one.ending) same.0
    ∙ ap (λ (ending : GivingEnd). sum_acts number (volume_length words other.entry) (text_of other.acts) ending) same.1) other.is.0
    (one.is.1 ∙ ap ending_status same.1) other.is.1

pub does_one : (seed : ℕ) (c : Cartridge) (words : List ℕ) (es : List Entry) (item : MakeStep) (a b : List Act) (x y : Status) →
    StepDoes seed c words es item a x → StepDoes seed c words es item b y → Same a b x y
does_one seed c words es (AppendMade volume) a b x y (inl one) (inl other) =
    both_are a b x y [] status.Protected one.1 other.1 one.2 other.2
does_one seed c words es (AppendMade volume) a b x y (inl one) (inr (free, other)) = absurd (never_unlocked c one.0 free)
does_one seed c words es (AppendMade volume) a b x y (inr (free, one)) (inl other) = absurd (never_unlocked c other.0 free)
does_one seed c words es (AppendMade volume) a b x y (inr (free, one)) (inr (again, other)) =
    one_append seed c words es volume a b x y one other
does_one seed c words es (WearSector segment sector) a b x y one other =
    both_are a b x y _ status.Done one.0 other.0 one.1 other.1
does_one seed c words es ScrubAll a b x y (inl one) (inl other) =
    both_are a b x y [] status.Protected one.1 other.1 one.2 other.2
does_one seed c words es ScrubAll a b x y (inl one) (inr (free, other)) = absurd (never_unlocked c one.0 free)
does_one seed c words es ScrubAll a b x y (inr (free, one)) (inl other) = absurd (never_unlocked c other.0 free)
does_one seed c words es ScrubAll a b x y (inr (free, one)) (inr (again, other)) =
    (form_is_function Shallow c words es a b one.0 other.0, one.1 ∙ sym other.1)
does_one seed c words es (SumVolume number) a b x y one other = one_sum c words es number a b x y one other

-- ---- steps one after the other

pub after_items-append : (seed : ℕ) (words : List ℕ) (es : List Entry) (xs ys : List MakeStep) →
    after_items seed words es (xs ++ ys) ≡ after_items seed words (after_items seed words es xs) ys
after_items-append seed words es [] ys = refl
after_items-append seed words es (x ∷ xs) ys = after_items-append seed words (after_item seed words es x) xs ys

-- a run that was carried out, and a run behind it
pub runs_both : (seed : ℕ) (c : Cartridge) (words : List ℕ) (es : List Entry) (xs ys : List MakeStep) (a b : List Act) (y : Status) →
    Runs seed c words es xs a status.Done → Runs seed (changed_by (steps_of a) c) words (after_items seed words es xs) ys b y →
    Runs seed c words es (xs ++ ys) (a ++ b) y
runs_both seed c words es [] ys a b y (none, done) behind =
    subst (λ (zs : List Act). Runs seed (changed_by (steps_of zs) c) words es ys b y → Runs seed c words es ys (zs ++ b) y) (sym none)
    (λ same. same) behind
runs_both seed c words es (x ∷ xs) ys a b y (inl (other, does)) behind = absurd (other refl)
runs_both seed c words es (x ∷ xs) ys a b y (inr (first, rest, parts, does, more)) behind =
    let d : Cartridge = changed_by (steps_of first) c in
    let here : changed_by (steps_of a) c ≡ changed_by (steps_of rest) d =
    ap (λ (zs : List Act). changed_by (steps_of zs) c) (sym parts) ∙ changed_by_acts first rest c in
    let next : List Entry = after_item seed words es x in
    let joined : Runs seed d words next (xs ++ ys) (rest ++ b) y = runs_both seed d words next xs ys rest b y more
    (subst (λ (e : Cartridge). Runs seed e words (after_items seed words next xs) ys b y) here behind) in
    inr (first, rest ++ b, sym (append_assoc first rest b) ∙ ap (λ (zs : List Act). zs ++ b) parts, does, joined)

-- a run that was refused, whatever would have come behind it
pub runs_longer : (seed : ℕ) (c : Cartridge) (words : List ℕ) (es : List Entry) (xs ys : List MakeStep) (a : List Act) (x : Status) →
    x ≢ status.Done →
    Runs seed c words es xs a x → Runs seed c words es (xs ++ ys) a x
runs_longer seed c words es [] ys a x other (none, done) = absurd (other done)
runs_longer seed c words es (item ∷ xs) ys a x other (inl refused) = inl refused
runs_longer seed c words es (item ∷ xs) ys a x other (inr (first, rest, parts, does, more)) =
    inr (
      first,
      rest,
      parts,
      does,
      runs_longer seed (changed_by (steps_of first) c) words
          (after_item seed words es item) xs ys rest x other more,
    )

-- what a run does behind a front that was carried out
pub record RunsBehind (seed : ℕ) (c : Cartridge) (words : List ℕ) (es : List Entry) (xs ys : List MakeStep) (a b : List Act)
    (y : Status) : Type 0 where
  pub rest : List Act
  pub parts : a ++ rest ≡ b
  pub runs : Runs seed (changed_by (steps_of a) c) words (after_items seed words es xs) ys rest y

pub runs_behind : (seed : ℕ) (c : Cartridge) (words : List ℕ) (es : List Entry) (xs ys : List MakeStep) (a b : List Act) (y : Status) →
    Runs seed c words es xs a status.Done → Runs seed c words es (xs ++ ys) b y → RunsBehind seed c words es xs ys a b y
runs_behind seed c words es [] ys a b y (none, done) all = record {
  rest = b;
  parts = ap (λ (zs : List Act). zs ++ b) none;
  runs = subst (λ (zs : List Act). Runs seed (changed_by (steps_of zs) c) words es ys b y) (sym none) all;
}
runs_behind seed c words es (x ∷ xs) ys a b y (inl (other, does)) all = absurd (other refl)
runs_behind seed c words es (x ∷ xs) ys a b y (inr (first, rest, parts, does, more)) (inl (refused, instead)) =
    absurd (refused (does_one seed c words es x b first y status.Done instead does).1)
runs_behind seed c words es (x ∷ xs) ys a b y (inr (first, rest, parts, does, more)) (inr (front, rear, joined, did, behind)) =
    let same : front ≡ first = (does_one seed c words es x front first status.Done status.Done did does).0 in
    let d : Cartridge = changed_by (steps_of first) c in
    let next : List Entry = after_item seed words es x in
    let then : RunsBehind seed d words next xs ys rest rear y = runs_behind seed d words next xs ys rest rear y more
    (subst (λ (zs : List Act). Runs seed (changed_by (steps_of zs) c) words next (xs ++ ys) rear y) same behind) in
    let here : changed_by (steps_of a) c ≡ changed_by (steps_of rest) d =
    ap (λ (zs : List Act). changed_by (steps_of zs) c) (sym parts) ∙ changed_by_acts first rest c in
    record {
      rest = then.rest;
      parts = ap (λ (zs : List Act). zs ++ then.rest) (sym parts) ∙ append_assoc first rest then.rest
          ∙ ap (λ (zs : List Act). first ++ zs) then.parts ∙ ap (λ (zs : List Act). zs ++ rear) (sym same) ∙ joined;
      runs = subst (λ (e : Cartridge). Runs seed e words (after_items seed words next xs) ys then.rest y) (sym here) then.runs;
    }

-- what a front of its steps does
pub record RunsFront (seed : ℕ) (c : Cartridge) (words : List ℕ) (es : List Entry) (xs : List MakeStep) (b : List Act)
    (y : Status) : Type 0 where
  pub acts : List Act
  pub answer : Status
  pub either : (answer ≡ status.Done) ⊎ (answer ≡ y)
  pub rest : List Act
  pub parts : acts ++ rest ≡ b
  pub runs : Runs seed c words es xs acts answer

pub runs_front : (seed : ℕ) (c : Cartridge) (words : List ℕ) (es : List Entry) (xs ys : List MakeStep) (b : List Act) (y : Status) →
    Runs seed c words es (xs ++ ys) b y → RunsFront seed c words es xs b y
runs_front seed c words es [] ys b y all =
    record { acts = []; answer = status.Done; either = inl refl; rest = b; parts = refl; runs = (refl, refl) }
runs_front seed c words es (x ∷ xs) ys b y (inl refused) =
    record { acts = b; answer = y; either = inr refl; rest = []; parts = append-nil b; runs = inl refused }
runs_front seed c words es (x ∷ xs) ys b y (inr (first, rest, parts, does, more)) =
    let then : RunsFront seed (changed_by (steps_of first) c) words (after_item seed words es x) xs rest y =
    runs_front seed (changed_by (steps_of first) c) words (after_item seed words es x) xs ys rest y more in
    record {
      acts = first ++ then.acts;
      answer = then.answer;
      either = then.either;
      rest = then.rest;
      parts = append_assoc first then.acts then.rest ∙ ap (λ (zs : List Act). first ++ zs) then.parts ∙ parts;
      runs = inr (first, then.acts, refl, does, then.runs);
    }

-- a run does one thing
pub runs_one : (seed : ℕ) (c : Cartridge) (words : List ℕ) (es : List Entry) (xs : List MakeStep) (a b : List Act) (x y : Status) →
    Runs seed c words es xs a x → Runs seed c words es xs b y → Same a b x y
runs_one seed c words es [] a b x y one other = both_are a b x y [] status.Done one.0 other.0 one.1 other.1
runs_one seed c words es (item ∷ xs) a b x y (inl (p, one)) (inl (q, other)) = does_one seed c words es item a b x y one other
runs_one seed c words es (item ∷ xs) a b x y (inl (p, one)) (inr (first, rest, parts, does, more)) =
    absurd (p (does_one seed c words es item a first x status.Done one does).1)
runs_one seed c words es (item ∷ xs) a b x y (inr (first, rest, parts, does, more)) (inl (q, other)) =
    absurd (q (does_one seed c words es item b first y status.Done other does).1)
runs_one seed c words es (item ∷ xs) a b x y (inr (first, rest, parts, does, more)) (inr (front, rear, joined, did, behind)) =
    let same : first ≡ front = (does_one seed c words es item first front status.Done status.Done does did).0 in
    let next : List Entry = after_item seed words es item in
    let both = runs_one seed (changed_by (steps_of front) c) words next xs rest rear x y
    (subst (λ (zs : List Act). Runs seed (changed_by (steps_of zs) c) words next xs rest x) same more) behind in (
      sym parts ∙ ap (λ (zs : List Act). zs ++ rest) same ∙ ap (λ (zs : List Act). front ++ zs) both.0 ∙ joined,
      both.1,
    )

-- ---- a run of one step

-- an answer is that all was carried out, or a refusal
pub done_or_not : (x : Status) → (x ≡ status.Done) ⊎ (x ≢ status.Done)
done_or_not status.Done = inl refl
done_or_not other = inr (λ same. cc)

pub run_of : (seed : ℕ) (c : Cartridge) (words : List ℕ) (es : List Entry) (item : MakeStep) (a : List Act) (x : Status) →
    StepDoes seed c words es item a x → Runs seed c words es (item ∷ []) a x
run_of seed c words es item a x does = elim (done_or_not x) [
  | inl done ↦ inr (a, [], append-nil a, subst (StepDoes seed c words es item a) done does, (refl, done))
  | inr other ↦ inl (other, does)
]

pub done_of : (seed : ℕ) (c : Cartridge) (words : List ℕ) (es : List Entry) (item : MakeStep) (a : List Act) (x : Status) →
    Runs seed c words es (item ∷ []) a x → StepDoes seed c words es item a x
done_of seed c words es item a x (inl refused) = refused.1
done_of seed c words es item a x (inr (first, rest, parts, does, behind)) =
    let all : first ≡ a = sym (append-nil first) ∙ ap (λ (zs : List Act). first ++ zs) (sym behind.0) ∙ parts in
    subst (λ (y : Status). StepDoes seed c words es item a y) (sym behind.1)
    (subst (λ (zs : List Act). StepDoes seed c words es item zs status.Done) all does)
