-- How many items are done behind a front of their acts, by how much was printed, whatever is said of the cartridge there.
use Rattle.std.proofs.Common.{◌≡◌, ◌≢◌, ℕ, ◌+◌, List, [], ◌∷◌, ◌++◌, suc, ◌≤◌, length, ◌<◌, zero, take, arith, ◌-◌, ap, ◌∙◌, inl, inr, sym}
use Rattle.std.proofs.Common.{subst, append_assoc}
use Rattle.std.specs.Prelude.{◌↔◌}
use Rattle.std.proofs.lemmas.List.{length-append}
use Rattle.cartridge_laws.proofs.FormatWriting.{changed_by-append}
use Rattle.cartridge_spec.specs.Settling.{changed_by}
use Rattle.command_laws.proofs.MountedFronts.{ends_in}
use Rattle.command_laws.proofs.MountedKeeping.{changed_by_acts}
use Rattle.command_laws.proofs.ScriptReached.{first_text, front_steps, first_prints}
use Rattle.command_laws.proofs.ScriptSpeaking.{AllSpeak, front_prints_less}
use Rattle.command_spec.specs.Script.{Did, acts_of}
use Rattle.command_spec.specs.ScriptLists.{printed_by}
use Rattle.qic_base.proofs.Joins.{text_of-append, steps_of-append}
use Rattle.qic_base.specs.Acts.{Act, steps_of, text_of}
use Rattle.qic_base.specs.Cartridge.{Cartridge}
use Rattle.qic_base.specs.Step.{Step}

-- ---- what holds of a cartridge

-- behind a front of an item's acts what holds before it, and behind an act that prints what holds behind it
pub record Counts (Holds : ℕ → Cartridge → Type 0) (c : Cartridge) (did : Did) : Type 0 where
  pub stopped : (front : List Act) (act : Act) (rest : List Act) → front ++ act ∷ rest ≡ did.acts → Holds 0 (changed_by (steps_of front) c)
  pub spoken : (front : List Act) (act : Act) (rest : List Act) → front ++ act ∷ rest ≡ did.acts → act.text ≢ [] →
      Holds 1 (changed_by (steps_of front ++ act.steps) c)

-- so of each item, and behind a front of the last acts what holds behind all of them
abbrev pub AllCount : (Holds : ℕ → Cartridge → Type 0) → Cartridge → List Did → (last : List Act) → Type 0
AllCount Holds c [] last = (front rest : List Act) → front ++ rest ≡ last → Holds 0 (changed_by (steps_of front) c)
AllCount Holds c (did ∷ dids) last = Counts Holds c did × AllCount (λ n. Holds (suc n)) (changed_by (steps_of did.acts) c) dids last

pub weaker : (P Q : ℕ → Cartridge → Type 0) → ((n : ℕ) (d : Cartridge) → P n d → Q n d) →
    (dids : List Did) (c : Cartridge) (last : List Act) → AllCount P c dids last → AllCount Q c dids last
weaker P Q less [] c last all = λ front rest parts. less 0 (changed_by (steps_of front) c) (all front rest parts)
weaker P Q less (did ∷ dids) c last all = (
  record {
    stopped = λ front act rest parts. less 0 (changed_by (steps_of front) c) (all.0.stopped front act rest parts);
    spoken = λ front act rest parts some. less 1 (changed_by (steps_of front ++ act.steps) c) (all.0.spoken front act rest parts some);
  },
  weaker (λ n. P (suc n)) (λ n. Q (suc n)) (λ n. less (suc n)) dids (changed_by (steps_of did.acts) c) last all.1,
)

-- ---- how many

-- it holds behind those whose reply was written whole
pub record Answered (Holds : ℕ → Cartridge → Type 0) (dids : List Did) (printed : ℕ) (d : Cartridge) : Type 0 where
  pub count : ℕ
  pub within : count ≤ length dids
  pub holds : Holds count d
  pub answered : (n : ℕ) → n ≤ length dids → (n ≤ count) ↔ (printed_by dids n ≤ printed)

-- .. and behind one more, whose reply broke off
pub record Broken (Holds : ℕ → Cartridge → Type 0) (dids : List Did) (printed : ℕ) (d : Cartridge) : Type 0 where
  pub count : ℕ
  pub within : count ≤ length dids
  pub holds : Holds count d
  pub begun : (n : ℕ) → n < length dids → (n < count) ↔ (printed_by dids n ≤ printed)

-- where the first item was not answered, none was
none_yet : (did : Did) (dids : List Did) (printed : ℕ) → printed < length (text_of did.acts) → (n : ℕ) → n ≤ length (did ∷ dids) →
    (n ≤ 0) ↔ (printed_by (did ∷ dids) n ≤ printed)
none_yet did dids printed less zero within = ((λ small. omega arith), (λ text. omega arith))
none_yet did dids printed less (suc n) within =
    let all = first_text did (take n dids) in
    ((λ small. absurd (omega arith)), (λ text. absurd (omega arith)))

-- .. and where its reply broke off, it alone was begun
first_begun : (did : Did) (dids : List Did) (printed : ℕ) → printed < length (text_of did.acts) → (n : ℕ) → n < length (did ∷ dids) →
    (n < 1) ↔ (printed_by (did ∷ dids) n ≤ printed)
first_begun did dids printed less zero within = ((λ small. omega arith), (λ text. omega arith))
first_begun did dids printed less (suc n) within =
    let all = first_text did (take n dids) in
    ((λ small. absurd (omega arith)), (λ text. absurd (omega arith)))

-- where it was answered, one more was than of the others
one_more : (did : Did) (dids : List Did) (printed behind count : ℕ) → printed ≡ length (text_of did.acts) + behind →
    ((n : ℕ) → n ≤ length dids → (n ≤ count) ↔ (printed_by dids n ≤ behind)) →
    (n : ℕ) → n ≤ length (did ∷ dids) → (n ≤ suc count) ↔ (printed_by (did ∷ dids) n ≤ printed)
one_more did dids printed behind count is others zero within = ((λ small. omega arith), (λ text. omega arith))
one_more did dids printed behind count is others (suc n) within =
    let all = first_text did (take n dids) in
    let both : (n ≤ count) ↔ (printed_by dids n ≤ behind) = others n (omega arith) in (
      (λ small. let text : printed_by dids n ≤ behind = both.0 (omega arith) in omega arith),
      (λ text. let small : n ≤ count = both.1 (omega arith) in omega arith),
    )

one_more_begun : (did : Did) (dids : List Did) (printed behind count : ℕ) → printed ≡ length (text_of did.acts) + behind →
    ((n : ℕ) → n < length dids → (n < count) ↔ (printed_by dids n ≤ behind)) →
    (n : ℕ) → n < length (did ∷ dids) → (n < suc count) ↔ (printed_by (did ∷ dids) n ≤ printed)
one_more_begun did dids printed behind count is others zero within = ((λ small. omega arith), (λ text. omega arith))
one_more_begun did dids printed behind count is others (suc n) within =
    let all = first_text did (take n dids) in
    let both : (n < count) ↔ (printed_by dids n ≤ behind) = others n (omega arith) in (
      (λ small. let text : printed_by dids n ≤ behind = both.0 (omega arith) in omega arith),
      (λ text. let small : n < count = both.1 (omega arith) in omega arith),
    )

-- ---- behind a front of the acts

-- what a front prints that goes beyond the first item
behind_first : (did : Did) (front next : List Act) → front ≡ did.acts ++ next → length (text_of front) ≡ length (text_of did.acts) + length
    (text_of next)
behind_first did front next is =
    ap (λ (xs : List Act). length (text_of xs)) is ∙ ap (λ (t : List ℕ). length t) (text_of-append did.acts next)
    ∙ length-append (text_of did.acts) (text_of next)

pub answered_between : (Holds : ℕ → Cartridge → Type 0) (dids : List Did) (c : Cartridge) (last front rest : List Act) → AllSpeak dids →
    AllCount Holds c dids last →
    front ++ rest ≡ acts_of dids ++ last → Answered Holds dids (length (text_of front)) (changed_by (steps_of front) c)
answered_between Holds [] c last front rest speak all parts = record {
  count = 0;
  within = omega arith;
  holds = all front rest parts;
  answered = λ n within. ((λ small. let none : n ≡ 0 = omega arith in rw none (omega arith)), (λ text. within));
}
answered_between Holds (did ∷ dids) c last front rest speak all parts =
    elim (ends_in front rest did.acts (acts_of dids ++ last) (parts ∙ append_assoc did.acts (acts_of dids) last)) [
      | inl w ↦ record {
        count = 0;
        within = omega arith;
        holds = all.0.stopped front w.act w.behind w.whole;
        answered = none_yet did dids (length (text_of front)) (front_prints_less did.acts front w.act w.behind speak.0 w.whole);
      }
      | inr p ↦
          let d : Cartridge = changed_by (steps_of did.acts) c in
          let next : Answered (λ n. Holds (suc n)) dids (length (text_of p.next)) (changed_by (steps_of p.next) d) =
          answered_between (λ n. Holds (suc n)) dids d last p.next rest speak.1 all.1 p.parts in
          let there : changed_by (steps_of p.next) d ≡ changed_by (steps_of front) c =
          sym (ap (λ (xs : List Act). changed_by (steps_of xs) c) p.front_is ∙ changed_by_acts did.acts p.next c) in
          record {
            count = suc next.count;
            within = (let most = next.within in omega arith);
            holds = subst (Holds (suc next.count)) there next.holds;
            answered = one_more did dids (length (text_of front)) (length (text_of p.next)) next.count
                (behind_first did front p.next p.front_is) next.answered;
          }
    ]

-- ---- behind the steps of an act, with a part of its text written

-- a text that is longer than nothing is some
some_text : (text : List ℕ) → 0 < length text → text ≢ []
some_text text long none = let short = ap length none in absurd (omega arith)

-- the act and what is printed before it are within what an item prints
within_item : (did : Did) (front : List Act) (act : Act) (behind : List Act) → front ++ act ∷ behind ≡ did.acts →
    length (text_of front) + length act.text ≤ length (text_of did.acts)
within_item did front act behind whole =
    let all : length (text_of did.acts) ≡ length (text_of front) + length (act.text ++ text_of behind) =
    ap (λ (xs : List Act). length (text_of xs)) (sym whole) ∙ ap (λ (t : List ℕ). length t) (text_of-append front (act ∷ behind))
    ∙ length-append (text_of front) (act.text ++ text_of behind) in
    let more : length (act.text ++ text_of behind) ≡ length act.text + length (text_of behind) = length-append act.text (text_of behind) in
    omega arith

pub broken_behind : (Holds : ℕ → Cartridge → Type 0) (dids : List Did) (c : Cartridge) (last front : List Act) (act : Act) (rest : List Act)
    (printed : ℕ) → AllCount Holds c dids last →
    front ++ act ∷ rest ≡ acts_of dids ++ last → length (text_of front) ≤ printed → printed < length (text_of front) + length act.text →
    Broken Holds dids printed (changed_by (steps_of front ++ act.steps) c)
broken_behind Holds [] c last front act rest printed all parts above below = record {
  count = 0;
  within = omega arith;
  holds = subst (λ (ss : List Step). Holds 0 (changed_by ss c)) (front_steps front act)
      (all (front ++ act ∷ []) rest (append_assoc front (act ∷ []) rest ∙ parts));
  begun = λ n within. absurd (omega arith);
}
broken_behind Holds (did ∷ dids) c last front act rest printed all parts above below =
    elim (ends_in front (act ∷ rest) did.acts (acts_of dids ++ last) (parts ∙ append_assoc did.acts (acts_of dids) last)) [
      | inl w ↦
          let rest_is : act ∷ rest ≡ w.act ∷ (w.behind ++ (acts_of dids ++ last)) = w.rest_is in
          let same : act ≡ w.act = cc in
          let whole : front ++ act ∷ w.behind ≡ did.acts = ap (λ (a : Act). front ++ a ∷ w.behind) same ∙ w.whole in
          record {
            count = 1;
            within = omega arith;
            holds = all.0.spoken front act w.behind whole (some_text act.text (omega arith));
            begun = first_begun did dids printed (let most = within_item did front act w.behind whole in omega arith);
          }
      | inr p ↦
          let d : Cartridge = changed_by (steps_of did.acts) c in
          let text : length (text_of front) ≡ length (text_of did.acts) + length (text_of p.next) =
          behind_first did front p.next p.front_is in
          let next : Broken (λ n. Holds (suc n)) dids (printed - length (text_of did.acts)) (changed_by (steps_of p.next ++ act.steps) d) =
          broken_behind (λ n. Holds (suc n)) dids d last p.next act rest (printed - length (text_of did.acts)) all.1 p.parts (omega arith)
          (omega arith) in
          let there : changed_by (steps_of p.next ++ act.steps) d ≡ changed_by (steps_of front ++ act.steps) c =
          sym (ap (λ (xs : List Act). changed_by (steps_of xs ++ act.steps) c) p.front_is
          ∙ ap (λ (ss : List Step). changed_by (ss ++ act.steps) c) (steps_of-append did.acts p.next)
          ∙ ap (λ (ss : List Step). changed_by ss c) (append_assoc (steps_of did.acts) (steps_of p.next) act.steps)
          ∙ changed_by-append (steps_of did.acts) (steps_of p.next ++ act.steps) c) in
          record {
            count = suc next.count;
            within = (let most = next.within in omega arith);
            holds = subst (Holds (suc next.count)) there next.holds;
            begun = one_more_begun did dids printed (printed - length (text_of did.acts)) next.count (omega arith) next.begun;
          }
    ]

-- ---- where nothing was printed

pub none_answered : (Holds : ℕ → Cartridge → Type 0) (dids : List Did) (d : Cartridge) → AllSpeak dids → Holds 0 d → Answered Holds dids 0 d
none_answered Holds dids d speak holds = record { count = 0; within = omega arith; holds = holds; answered = answered }
  where
    answered : (n : ℕ) → n ≤ length dids → (n ≤ 0) ↔ (printed_by dids n ≤ 0)
    answered zero within = ((λ small. omega arith), (λ text. omega arith))
    answered (suc n) within = let some : 0 < printed_by dids (suc n) = first_prints dids speak (omega arith) n in
        ((λ small. absurd (omega arith)), (λ text. absurd (omega arith)))
