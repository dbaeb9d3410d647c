-- How many items are done after a stop among their acts, by how much was printed, whatever is said of the cartridge behind them.
use Rattle.std.proofs.Common.{◌≡◌, ℕ, ◌+◌, ◌-◌, List, [], ◌∷◌, ◌++◌, length, ap, ◌∙◌, append-nil, suc, ◌<◌, ◌≤◌, take, arith, Option, ◌⊎◌}
use Rattle.std.proofs.Common.{Some, inl, inr, zero, sym, subst, append_assoc}
use Rattle.std.proofs.lemmas.List.{length-append}
use Rattle.cartridge_laws.proofs.AppendDone.{either_of}
use Rattle.cartridge_laws.proofs.FormatWriting.{changed_by-append}
use Rattle.cartridge_spec.specs.Settling.{changed_by}
use Rattle.command_laws.proofs.MountedFronts.{ends_in}
use Rattle.command_laws.proofs.MountedKeeping.{changed_by_acts}
use Rattle.command_laws.proofs.ScriptSpeaking.{AllSpeak, prints_some, Speaks, front_prints_less}
use Rattle.command_spec.specs.Script.{Did, acts_of}
use Rattle.qic_base.proofs.Joins.{text_of-append, steps_of-append}
use Rattle.qic_base.specs.Acts.{Act, text_of, steps_of, next_steps}
use Rattle.qic_base.specs.Cartridge.{Cartridge}
use Rattle.qic_base.specs.Step.{Step}

-- ---- texts and steps of fronts

-- the text of a front and of the act behind it, and their steps
front_text : (front : List Act) (act : Act) → length (text_of (front ++ act ∷ [])) ≡ length (text_of front) + length act.text
front_text front act =
    ap (λ (t : List ℕ). length t) (text_of-append front (act ∷ []) ∙ ap (λ (t : List ℕ). text_of front ++ t) (append-nil act.text))
    ∙ length-append (text_of front) act.text

pub front_steps : (front : List Act) (act : Act) → steps_of (front ++ act ∷ []) ≡ steps_of front ++ act.steps
front_steps front act = steps_of-append front (act ∷ []) ∙ ap (λ (ss : List Step). steps_of front ++ ss) (append-nil act.steps)

-- ---- what some items print

pub first_text : (did : Did) (dids : List Did) → length (text_of (acts_of (did ∷ dids))) ≡ length (text_of did.acts) + length
    (text_of (acts_of dids))
first_text did dids =
    ap (λ (text : List ℕ). length text) (text_of-append did.acts (acts_of dids)) ∙ length-append (text_of did.acts) (text_of (acts_of dids))

-- so the first of any prints something
pub first_prints : (dids : List Did) → AllSpeak dids → 1 ≤ length dids → (n : ℕ) → 0 < length (text_of (acts_of (take (suc n) dids)))
first_prints [] speak some n = absurd (omega arith)
first_prints (did ∷ dids) speak some n =
    let all = first_text did (take n dids) in
    let one : 0 < length (text_of did.acts) = prints_some did.acts speak.0 in
    omega arith

-- ---- what they leave

-- What is left holds what holds behind so many items, where so many bytes were printed: all items whose reply was written whole
-- are among them, and at most one more.
pub record Reached (Holds : ℕ → Option Cartridge → Type 0) (dids : List Did) (printed : ℕ) (left : Option Cartridge) : Type 0 where
  pub count : ℕ
  pub within : count ≤ length dids
  pub holds : Holds count left
  pub answered : (n : ℕ) → n ≤ length dids → length (text_of (acts_of (take n dids))) ≤ printed → n ≤ count
  pub most : (n : ℕ) → suc n ≤ count → length (text_of (acts_of (take n dids))) ≤ printed

-- one item leaves what holds before it or behind it, by what may be left of a cartridge where a stop comes in some steps
pub record Leaves (May : List Step → Cartridge → Option Cartridge → Type 0) (Holds : ℕ → Option Cartridge → Type 0) (c : Cartridge)
    (did : Did) : Type 0 where
  pub done : Holds 1 (Some (changed_by (steps_of did.acts) c))
  pub stopped : (front : List Act) (act : Act) (rest : List Act) (left : Option Cartridge) → front ++ act ∷ rest ≡ did.acts →
      May act.steps (changed_by (steps_of front) c) left → Holds 0 left ⊎ Holds 1 left

-- so each one does, and the last acts behind them leave what holds there
abbrev pub AllLeave : (May : List Step → Cartridge → Option Cartridge → Type 0) (Holds : ℕ → Option Cartridge → Type 0) → Cartridge →
    List Did → (last : List Act) → Type 0
AllLeave May Holds c [] last =
    (front rest : List Act) (left : Option Cartridge) → front ++ rest ≡ last → May (next_steps rest) (changed_by (steps_of front) c) left →
    Holds 0 left
AllLeave May Holds c (did ∷ dids) last = Leaves May Holds c did × AllLeave May (λ n. Holds (suc n))
    (changed_by (steps_of did.acts) c) dids last

-- and so it is of what holds wherever that does
pub leave_weaker : (May : List Step → Cartridge → Option Cartridge → Type 0) (Holds Then : ℕ → Option Cartridge → Type 0) →
    ((n : ℕ) (left : Option Cartridge) → Holds n left → Then n left) →
    (c : Cartridge) (dids : List Did) (last : List Act) → AllLeave May Holds c dids last → AllLeave May Then c dids last
leave_weaker May Holds Then weaker c [] last leave = λ front rest left parts may. weaker 0 left (leave front rest left parts may)
leave_weaker May Holds Then weaker c (did ∷ dids) last leave = (
  record {
    done = weaker 1 (Some (changed_by (steps_of did.acts) c)) leave.0.done;
    stopped = λ front act rest left parts may. either_of (weaker 0 left) (weaker 1 left) (leave.0.stopped front act rest left parts may);
  },
  leave_weaker May (λ n. Holds (suc n)) (λ n. Then (suc n)) (λ n. weaker (suc n)) (changed_by (steps_of did.acts) c) dids last leave.1,
)

module _ (Holds : ℕ → Option Cartridge → Type 0) where
  -- where nothing was printed no item was answered
  pub reached_none : (dids : List Did) (left : Option Cartridge) → AllSpeak dids → Holds 0 left → Reached Holds dids 0 left
  reached_none dids left speak holds = record {
    count = 0;
    within = omega arith;
    holds = holds;
    answered = answered;
    most = λ n small. absurd (omega arith);
  }
    where
      answered : (n : ℕ) → n ≤ length dids → length (text_of (acts_of (take n dids))) ≤ 0 → n ≤ 0
      answered zero within text = omega arith
      answered (suc n) within text =
          absurd (let some : 0 < length (text_of (acts_of (take (suc n) dids))) = first_prints dids speak (omega arith) n in omega arith)

  -- there are no items
  reached_end : (printed : ℕ) (left : Option Cartridge) → Holds 0 left → Reached Holds [] printed left
  reached_end printed left holds = record {
    count = 0;
    within = omega arith;
    holds = holds;
    answered = λ n within text. within;
    most = λ n small. absurd (omega arith);
  }

  -- the first item was not answered
  reached_here : (did : Did) (dids : List Did) (left : Option Cartridge) (printed : ℕ) → printed < length (text_of did.acts) → Holds 0 left
      ⊎ Holds 1 left → Reached Holds (did ∷ dids) printed left
  reached_here did dids left printed less (inl old) = record {
    count = 0;
    within = omega arith;
    holds = old;
    answered = answered;
    most = λ n small. absurd (omega arith);
  }
    where
      answered : (n : ℕ) → n ≤ length (did ∷ dids) → length (text_of (acts_of (take n (did ∷ dids)))) ≤ printed → n ≤ 0
      answered zero within text = omega arith
      answered (suc n) within text = absurd (let all = first_text did (take n dids) in omega arith)
  reached_here did dids left printed less (inr new) = record {
    count = 1;
    within = omega arith;
    holds = new;
    answered = answered;
    most = most;
  }
    where
      answered : (n : ℕ) → n ≤ length (did ∷ dids) → length (text_of (acts_of (take n (did ∷ dids)))) ≤ printed → n ≤ 1
      answered zero within text = omega arith
      answered (suc n) within text = absurd (let all = first_text did (take n dids) in omega arith)

      most : (n : ℕ) → suc n ≤ 1 → length (text_of (acts_of (take n (did ∷ dids)))) ≤ printed
      most zero small = omega arith
      most (suc n) small = absurd (omega arith)

  -- the first item was answered, and the others were so far
  reached_further : (did : Did) (dids : List Did) (left : Option Cartridge) (printed behind : ℕ) →
      printed ≡ length (text_of did.acts) + behind →
      Reached (λ n. Holds (suc n)) dids behind left → Reached Holds (did ∷ dids) printed left
  reached_further did dids left printed behind is r = record {
    count = suc r.count;
    within = (let most = r.within in omega arith);
    holds = r.holds;
    answered = answered;
    most = most;
  }
    where
      answered : (n : ℕ) → n ≤ length (did ∷ dids) → length (text_of (acts_of (take n (did ∷ dids)))) ≤ printed → n ≤ suc r.count
      answered zero within text = omega arith
      answered (suc n) within text =
          let all = first_text did (take n dids) in
          let below : n ≤ r.count = r.answered n (omega arith) (omega arith) in
          omega arith

      most : (n : ℕ) → suc n ≤ suc r.count → length (text_of (acts_of (take n (did ∷ dids)))) ≤ printed
      most zero small = omega arith
      most (suc n) small =
          let all = first_text did (take n dids) in
          let below : length (text_of (acts_of (take n dids))) ≤ behind = r.most n (omega arith) in
          omega arith

  -- the first item's text was written up to somewhere in that of its last act, and its steps done
  reached_last : (did : Did) (dids : List Did) (left : Option Cartridge) (printed : ℕ) → AllSpeak dids → Holds 1 left →
      printed ≤ length (text_of did.acts) → Reached Holds (did ∷ dids) printed left
  reached_last did dids left printed speak holds less = record {
    count = 1;
    within = omega arith;
    holds = holds;
    answered = answered;
    most = most;
  }
    where
      answered : (n : ℕ) → n ≤ length (did ∷ dids) → length (text_of (acts_of (take n (did ∷ dids)))) ≤ printed → n ≤ 1
      answered zero within text = omega arith
      answered (suc zero) within text = omega arith
      answered (suc (suc n)) within text =
          absurd (let all = first_text did (take (suc n) dids) in
          let some : 0 < length (text_of (acts_of (take (suc n) dids))) = first_prints dids speak (omega arith) n in
          omega arith)

      most : (n : ℕ) → suc n ≤ 1 → length (text_of (acts_of (take n (did ∷ dids)))) ≤ printed
      most zero small = omega arith
      most (suc n) small = absurd (omega arith)

-- ---- a stop among the acts

module _ (May : List Step → Cartridge → Option Cartridge → Type 0) where
  -- in the steps of an act, with those before it done and their texts written
  pub reached_between : (Holds : ℕ → Option Cartridge → Type 0) (dids : List Did) (c : Cartridge) (last front rest : List Act)
      (left : Option Cartridge) → AllSpeak dids →
      AllLeave May Holds c dids last → front ++ rest ≡ acts_of dids ++ last → May (next_steps rest) (changed_by (steps_of front) c) left →
      Reached Holds dids (length (text_of front)) left
  reached_between Holds [] c last front rest left speak all parts may = reached_end Holds (length (text_of front)) left
      (all front rest left parts may)
  reached_between Holds (did ∷ dids) c last front rest left speak all parts may =
      let d : Cartridge = changed_by (steps_of did.acts) c in
      elim (ends_in front rest did.acts (acts_of dids ++ last) (parts ∙ append_assoc did.acts (acts_of dids) last)) [
        | inl w ↦
            reached_here Holds did dids left (length (text_of front)) (front_prints_less did.acts front w.act w.behind speak.0 w.whole)
            (all.0.stopped front w.act w.behind left w.whole
            (subst (λ (xs : List Act). May (next_steps xs) (changed_by (steps_of front) c) left) w.rest_is may))
        | inr p ↦
            let text : length (text_of front) ≡ length (text_of did.acts) + length (text_of p.next) =
            ap (λ (xs : List Act). length (text_of xs)) p.front_is ∙ ap (λ (t : List ℕ). length t) (text_of-append did.acts p.next)
            ∙ length-append (text_of did.acts) (text_of p.next) in
            let there : changed_by (steps_of front) c ≡ changed_by (steps_of p.next) d =
            ap (λ (xs : List Act). changed_by (steps_of xs) c) p.front_is ∙ changed_by_acts did.acts p.next c in
            reached_further Holds did dids left (length (text_of front)) (length (text_of p.next)) text
            (reached_between (λ n. Holds (suc n)) dids d last p.next rest left speak.1 all.1 p.parts
            (subst (λ (e : Cartridge). May (next_steps rest) e left) there may))
      ]

  -- behind an act's steps, with some of its text written
  module _ (here : (ss : List Step) (d : Cartridge) → May ss d (Some d)) where
    -- a cartridge behind an act may be left in the next
    may_next : (front : List Act) (act : Act) (c : Cartridge) (ss : List Step) (left : Option Cartridge) →
        left ≡ Some (changed_by (steps_of front ++ act.steps) c) →
        May ss (changed_by (steps_of (front ++ act ∷ [])) c) left
    may_next front act c ss left is =
        let d : Cartridge = changed_by (steps_of (front ++ act ∷ [])) c in
        let there : Some d ≡ left = ap (λ (steps : List Step). Some (changed_by steps c)) (front_steps front act) ∙ sym is in
        subst (λ (o : Option Cartridge). May ss d o) there (here ss d)

    -- in the text of an act of the first item
    within_first : (Holds : ℕ → Option Cartridge → Type 0) (c : Cartridge) (did : Did) (dids : List Did) (front : List Act) (act : Act)
        (left : Option Cartridge) (printed : ℕ) →
        Leaves May Holds c did → Speaks did.acts → AllSpeak dids → left ≡ Some (changed_by (steps_of front ++ act.steps) c) →
        printed ≤ length (text_of front) + length act.text →
        (rest : List Act) → front ++ act ∷ rest ≡ did.acts → Reached Holds (did ∷ dids) printed left
    within_first Holds c did dids front act left printed leaves speaks others is below [] whole =
        let all : left ≡ Some (changed_by (steps_of did.acts) c) = is ∙ ap (λ (ss : List Step). Some (changed_by ss c))
        (sym (front_steps front act) ∙ ap steps_of whole) in
        reached_last Holds did dids left printed others (subst (Holds 1) (sym all) leaves.done)
        (let text : length (text_of did.acts) ≡ length (text_of front) + length act.text = ap (λ (xs : List Act). length (text_of xs))
        (sym whole) ∙ front_text front act in omega arith)
    within_first Holds c did dids front act left printed leaves speaks others is below (next ∷ rest) whole =
        let parts : (front ++ act ∷ []) ++ next ∷ rest ≡ did.acts = append_assoc front (act ∷ []) (next ∷ rest) ∙ whole in
        let less : length (text_of (front ++ act ∷ [])) < length (text_of did.acts) = front_prints_less did.acts
        (front ++ act ∷ []) next rest speaks parts in
        let text = front_text front act in
        reached_here Holds did dids left printed (omega arith)
        (leaves.stopped (front ++ act ∷ []) next rest left parts (may_next front act c next.steps left is))

    pub reached_behind : (Holds : ℕ → Option Cartridge → Type 0) (dids : List Did) (c : Cartridge) (last front : List Act) (act : Act)
        (rest : List Act) (left : Option Cartridge) (printed : ℕ) →
        AllSpeak dids → AllLeave May Holds c dids last → front ++ act ∷ rest ≡ acts_of dids ++ last →
        left ≡ Some (changed_by (steps_of front ++ act.steps) c) →
        length (text_of front) ≤ printed → printed ≤ length (text_of front) + length act.text → Reached Holds dids printed left
    reached_behind Holds [] c last front act rest left printed speak all parts is above below =
        reached_end Holds printed left (all (front ++ act ∷ []) rest left (append_assoc front (act ∷ []) rest ∙ parts)
        (may_next front act c (next_steps rest) left is))
    reached_behind Holds (did ∷ dids) c last front act rest left printed speak all parts is above below =
        let d : Cartridge = changed_by (steps_of did.acts) c in
        elim (ends_in front (act ∷ rest) did.acts (acts_of dids ++ last) (parts ∙ append_assoc did.acts (acts_of dids) last)) [
          | inl w ↦
              let rest_is : act ∷ rest ≡ w.act ∷ (w.behind ++ (acts_of dids ++ last)) = w.rest_is in
              let same : act ≡ w.act = cc in
              within_first Holds c did dids front act left printed all.0 speak.0 speak.1 is below w.behind
              (ap (λ (a : Act). front ++ a ∷ w.behind) same ∙ w.whole)
          | inr p ↦
              let text : length (text_of front) ≡ length (text_of did.acts) + length (text_of p.next) =
              ap (λ (xs : List Act). length (text_of xs)) p.front_is ∙ ap (λ (t : List ℕ). length t) (text_of-append did.acts p.next)
              ∙ length-append (text_of did.acts) (text_of p.next) in
              let steps : steps_of front ++ act.steps ≡ steps_of did.acts ++ (steps_of p.next ++ act.steps) =
              ap (λ (xs : List Act). steps_of xs ++ act.steps) p.front_is ∙ ap (λ (ss : List Step). ss ++ act.steps)
              (steps_of-append did.acts p.next)
              ∙ append_assoc (steps_of did.acts) (steps_of p.next) act.steps in
              let there : left ≡ Some (changed_by (steps_of p.next ++ act.steps) d) =
              is ∙ ap (λ (ss : List Step). Some (changed_by ss c)) steps
              ∙ ap (λ (e : Cartridge). Some e) (changed_by-append (steps_of did.acts) (steps_of p.next ++ act.steps) c) in
              reached_further Holds did dids left printed (printed - length (text_of did.acts)) (omega arith)
              (reached_behind (λ n. Holds (suc n)) dids d last p.next act rest left
              (printed - length (text_of did.acts)) speak.1 all.1 p.parts there (omega arith) (omega arith))
        ]
