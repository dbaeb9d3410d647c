-- Which items of a script stand after a stop in it, and which of them were answered.
use Rattle.std.proofs.Common.{List, [], ◌∷◌, Option, ◌≡◌, ◌++◌, Some, sym, ap, ◌∙◌, subst, inl, inr, refl, ◌⊎◌, IsSomeAnd, ℕ, ◌<◌, drop}
use Rattle.std.proofs.Common.{All, take, length, arith, suc, zero, append_assoc, append-nil, ◌≤◌, ◌+◌}
use Rattle.std.proofs.lemmas.Bool.{cases_lt}
use Rattle.std.proofs.lemmas.List.{length-append, length-take-le, take-take, take_all}
use Rattle.cartridge_laws.proofs.FormatWriting.{effects-some, changed_by-append, some_and}
use Rattle.cartridge_spec.specs.TableSegment.{IsTableLive}
use Rattle.cartridge_spec.specs.Settling.{changed_by}
use Rattle.cartridge_spec.specs.Table.{Entry}
use Rattle.cartridge_spec.specs.Volumes.{Plain, Stands, entries_of}
use Rattle.command_laws.proofs.ScriptActs.{line_spares}
use Rattle.command_laws.proofs.MountedFronts.{ends_in}
use Rattle.command_laws.proofs.MountedKeeping.{changed_by_acts}
use Rattle.command_laws.proofs.ScriptReached.{AllLeave, Reached, reached_between, reached_behind, reached_none, leave_weaker}
use Rattle.command_laws.proofs.ScriptReading.{cartridge_is}
use Rattle.command_laws.proofs.ScriptSpeaking.{AllSpeak, as_many, script_speaks}
use Rattle.command_laws.proofs.ScriptStanding.{fault_stands, items_have_bytes, items_stand, ItemLeaves, item_leaves, next_do, next_is}
use Rattle.command_laws.specs.MountedHeld.{IsHeld}
use Rattle.command_laws.specs.ScriptStanding.{HaveBytes, AnsweredBetween, AnsweredBehind, StoppedScriptStands, DoneScriptStands}
use Rattle.command_laws.specs.ScriptStanding.{plain_after}
use Rattle.command_spec.specs.Input.{Ending, AtEnd, AtStop, AtFault, Item}
use Rattle.command_spec.specs.Script.{EndDoes, ScriptDoes, cartridge_behind, entries_behind, place_behind, Did, ItemsDo, acts_of}
use Rattle.command_spec.specs.Outcome.{CommandOutcome}
use Rattle.command_spec.specs.ScriptLists.{FirstSpare, ItemsSpare, StandsAnswered, printed_by, plain_behind}
use Rattle.qic_base.proofs.Joins.{steps_of-append, text_of-append}
use Rattle.qic_base.proofs.Steps.{Torn-append, Torn-nothing, Torn-all}
use Rattle.qic_base.specs.Acts.{Act, steps_of, next_steps, text_of}
use Rattle.qic_base.specs.Cartridge.{Cartridge}
use Rattle.qic_base.specs.Step.{Step, Torn}
use Rattle.command_laws.proofs.MadeStops.{some_split}
use Rattle.command_laws.proofs.MadeAnswered.{torn_behind}

-- ---- stops among acts

-- a stop among acts is one in the act behind a front
pub record StopsBehind (acts : List Act) (c : Cartridge) (left : Option Cartridge) : Type 0 where
  pub front : List Act
  pub rest : List Act
  pub parts : front ++ rest ≡ acts
  pub torn : Torn (next_steps rest) (Some (changed_by (steps_of front) c)) left

pub stops_behind : (acts : List Act) (c : Cartridge) (left : Option Cartridge) → Torn (steps_of acts) (Some c) left →
    StopsBehind acts c left
stops_behind [] c left torn = record { front = []; rest = []; parts = refl; torn = torn }
stops_behind (act ∷ acts) c left torn =
    elim (Torn-append act.steps (steps_of acts) (Some c) left torn) [
      | inl here ↦ record { front = []; rest = act ∷ acts; parts = refl; torn = here }
      | inr behind ↦
          let s : StopsBehind acts (changed_by act.steps c) left = stops_behind acts (changed_by act.steps c) left
          (subst (λ (held : Option Cartridge). Torn (steps_of acts) held left) (effects-some act.steps c) behind) in
          record {
            front = act ∷ s.front;
            rest = s.rest;
            parts = ap (λ (xs : List Act). act ∷ xs) s.parts;
            torn = subst (λ (d : Cartridge). Torn (next_steps s.rest) (Some d) left)
                (sym (changed_by-append act.steps (steps_of s.front) c)) s.torn;
          }
    ]

-- ---- behind the items

-- a stop among the last acts leaves what stands
abbrev EndStands : Cartridge → Plain → List Act → Type 0
EndStands d p last = (left : Option Cartridge) → Torn (steps_of last) (Some d) left → IsSomeAnd left (λ e. Stands e p)

end_stands : (d : Cartridge) (p : Plain) (rest : List ℕ) (ending : Ending) (last : List Act) → IsHeld d p →
    EndDoes d p.words (entries_of p) rest ending last → EndStands d p last
end_stands d p rest AtEnd last held is left torn =
    some_and (λ e. Stands e p) d left held.stands (subst (λ (xs : List Act). Torn (steps_of xs) (Some d) left) is torn)
end_stands d p rest AtStop last held is left torn =
    some_and (λ e. Stands e p) d left held.stands (subst (λ (xs : List Act). Torn (steps_of xs) (Some d) left) is torn)
end_stands d p rest (AtFault number place) last held does left torn = fault_stands d p number rest last left held does torn

ends_of : (c : Cartridge) (plain : Plain) (input : List ℕ) (outcome : CommandOutcome) → IsHeld c plain →
    (does : ScriptDoes c plain.words (entries_of plain) input outcome) →
    All (λ b. b < 256) input → ItemsSpare c plain does.items does.dids → EndStands (cartridge_behind c does.dids)
    (plain_behind plain does.items does.dids) does.last
ends_of c plain input outcome held does content spares =
    let has : HaveBytes does.items = items_have_bytes input does.items does.ending does.read content in
    let all = items_stand c plain does.items does.dids held has does.did spares in
    let d : Cartridge = cartridge_behind c does.dids in
    let p : Plain = plain_behind plain does.items does.dids in
    let rest : List ℕ = drop (place_behind 1 0 input does.items does.ending does.read) input in
    end_stands d p rest does.ending does.last all.0
    (subst (λ (es : List Entry). EndDoes d p.words es rest does.ending does.last) (sym all.1)
    (subst (λ (ws : List ℕ). EndDoes d ws (entries_behind (entries_of plain) does.dids) rest does.ending does.last) (sym all.2) does.ends))

-- ---- what is left of a script

-- a stop may leave whatever these steps leave
abbrev pub Tears : List Step → Cartridge → Option Cartridge → Type 0
Tears ss d left = Torn ss (Some d) left

-- the plain cartridge behind so many items
abbrev StandsBehind : Plain → List Item → List Did → ℕ → Option Cartridge → Type 0
StandsBehind plain items dids n left = IsSomeAnd left (λ d. Stands d (plain_behind plain (take n items) (take n dids)))

all_stand : (items : List Item) (dids : List Did) (c : Cartridge) (plain : Plain) (last : List Act) → IsHeld c plain → IsTableLive c →
    HaveBytes items →
    ItemsDo c plain.words (entries_of plain) items dids → ItemsSpare c plain items dids → EndStands (cartridge_behind c dids)
    (plain_behind plain items dids) last →
    AllLeave Tears (StandsBehind plain items dids) c dids last
all_stand [] [] c plain last held live has ran spares ends = λ front rest left parts torn. ends left
    (torn_behind front rest last c left parts torn)
all_stand [] (did ∷ dids) c plain last held live has ran spares ends = absurd ran
all_stand (item ∷ items) [] c plain last held live has ran spares ends = absurd ran
all_stand (item ∷ items) (did ∷ dids) c plain last held live has ran spares ends =
    let leaves : ItemLeaves c plain item did = item_leaves c plain item did held has.0 (line_spares c plain item.line spares.0) ran.0 in
    let next : Plain = plain_after plain item did in
    let d : Cartridge = changed_by (steps_of did.acts) c in
    let first : Plain = plain_behind plain (item ∷ []) (did ∷ []) in
    let one : next ≡ first = next_is plain item did [] [] leaves.entries in (
      record {
        done = subst (λ (p : Plain). Stands d p) one leaves.done.stands;
        stopped = λ front act rest left whole torn. some_split (λ e. Stands e plain) (λ e. Stands e first) left
            (subst (λ (p : Plain). IsSomeAnd left (λ e. Stands e plain ⊎ Stands e p)) one
            (leaves.stopped live left (torn_behind front (act ∷ rest) did.acts c left whole torn)));
      },
      leave_weaker Tears (StandsBehind next items dids) (λ n. StandsBehind plain (item ∷ items) (did ∷ dids) (suc n))
          (λ n left. subst (λ (p : Plain). IsSomeAnd left (λ e. Stands e p))
          (next_is plain item did (take n items) (take n dids) leaves.entries)) d dids last
          (all_stand items dids d next last leaves.done (leaves.live live) has.1
          (next_do d plain next items did.entries dids leaves.entries leaves.words ran.1) spares.1
          (subst (λ (p : Plain). EndStands (cartridge_behind d dids) p last)
          (sym (next_is plain item did items dids leaves.entries)) ends)),
    )

script_stands : (c : Cartridge) (plain : Plain) (input : List ℕ) (outcome : CommandOutcome) → IsHeld c plain → IsTableLive c →
    (does : ScriptDoes c plain.words (entries_of plain) input outcome) →
    All (λ b. b < 256) input → ItemsSpare c plain does.items does.dids →
    AllLeave Tears (StandsBehind plain does.items does.dids) c does.dids does.last
script_stands c plain input outcome held live does content spares =
    all_stand does.items does.dids c plain does.last held live (items_have_bytes input does.items does.ending does.read content) does.did
    spares
    (ends_of c plain input outcome held does content spares)

stands_answered : (c : Cartridge) (plain : Plain) (items : List Item) (dids : List Did) (printed : ℕ) (left : Option Cartridge) →
    ItemsDo c plain.words (entries_of plain) items dids →
    Reached (StandsBehind plain items dids) dids printed left → StandsAnswered plain items dids printed left
stands_answered c plain items dids printed left ran r =
    let long : length dids ≡ length items = as_many items dids c plain.words (entries_of plain) ran in
    record {
      count = r.count;
      within = (let most = r.within in omega arith);
      stands = r.holds;
      answered = λ n within. r.answered n (omega arith);
      most = r.most;
    }

-- ---- the first items alone

-- so many items, and what they did
pub first_do : (n : ℕ) (items : List Item) (dids : List Did) (c : Cartridge) (words : List ℕ) (entries : List Entry) →
    ItemsDo c words entries items dids →
    ItemsDo c words entries (take n items) (take n dids)
first_do zero items dids c words entries ran = tt
first_do (suc n) [] [] c words entries ran = tt
first_do (suc n) [] (did ∷ dids) c words entries ran = absurd ran
first_do (suc n) (item ∷ items) [] c words entries ran = absurd ran
first_do (suc n) (item ∷ items) (did ∷ dids) c words entries ran =
    (ran.0, first_do n items dids (changed_by (steps_of did.acts) c) words did.entries ran.1)

pub first_have : (n : ℕ) (items : List Item) → HaveBytes items → HaveBytes (take n items)
first_have zero items have = tt
first_have (suc n) [] have = tt
first_have (suc n) (item ∷ items) have = (have.0, first_have n items have.1)

pub first_speak : (n : ℕ) (dids : List Did) → AllSpeak dids → AllSpeak (take n dids)
first_speak zero dids speak = tt
first_speak (suc n) [] speak = tt
first_speak (suc n) (did ∷ dids) speak = (speak.0, first_speak n dids speak.1)

-- their acts come first
acts_parted : (n : ℕ) (dids : List Did) → acts_of (take n dids) ++ acts_of (drop n dids) ≡ acts_of dids
acts_parted zero dids = refl
acts_parted (suc n) [] = refl
acts_parted (suc n) (did ∷ dids) =
    append_assoc did.acts (acts_of (take n dids)) (acts_of (drop n dids)) ∙ ap (λ (acts : List Act). did.acts ++ acts) (acts_parted n dids)

-- of more items more is printed
pub more_printed : (n m : ℕ) (dids : List Did) → n ≤ m → printed_by dids n ≤ printed_by dids m
more_printed n m dids less =
    let parts = ap (λ (acts : List Act). length (text_of acts)) (sym (acts_parted n (take m dids))) in
    let texts = ap (λ (text : List ℕ). length text) (text_of-append (acts_of (take n (take m dids))) (acts_of (drop n (take m dids)))) in
    let long = length-append (text_of (acts_of (take n (take m dids)))) (text_of (acts_of (drop n (take m dids)))) in
    let same : printed_by (take m dids) n ≡ printed_by dids n = ap (λ (ds : List Did). length (text_of (acts_of ds)))
    (take-take n m dids less) in
    omega arith

first_stand : (n : ℕ) (c : Cartridge) (plain : Plain) (items : List Item) (dids : List Did) → IsHeld c plain → IsTableLive c →
    HaveBytes items →
    ItemsDo c plain.words (entries_of plain) items dids → FirstSpare c plain items dids n →
    AllLeave Tears (StandsBehind plain (take n items) (take n dids)) c (take n dids) []
first_stand n c plain items dids held live has ran spares =
    let have : HaveBytes (take n items) = first_have n items has in
    let did = first_do n items dids c plain.words (entries_of plain) ran in
    let all = items_stand c plain (take n items) (take n dids) held have did spares in
    all_stand (take n items) (take n dids) c plain [] held live have did spares
    (λ left torn. some_and (λ e. Stands e (plain_behind plain (take n items) (take n dids)))
    (cartridge_behind c (take n dids)) left all.0.stands torn)

-- what stands behind some of the first items stands behind so many of all
of_first : (n count : ℕ) (plain : Plain) (items : List Item) (dids : List Did) (left : Option Cartridge) → count ≤ n →
    StandsBehind plain (take n items) (take n dids) count left →
    StandsBehind plain items dids count left
of_first n count plain items dids left less stands =
    subst (λ (ds : List Did). IsSomeAnd left (λ d. Stands d (plain_behind plain (take count items) ds))) (take-take count n dids less)
    (subst (λ (xs : List Item). IsSomeAnd left (λ d. Stands d (plain_behind plain xs (take count (take n dids)))))
    (take-take count n items less) stands)

first_answered : (n : ℕ) (c : Cartridge) (plain : Plain) (items : List Item) (dids : List Did) (printed : ℕ) (left : Option Cartridge) →
    n ≤ length items → printed < printed_by dids n →
    ItemsDo c plain.words (entries_of plain) items dids → Reached (StandsBehind plain (take n items) (take n dids))
    (take n dids) printed left → StandsAnswered plain items dids printed left
first_answered n c plain items dids printed left some less ran r =
    let long : length dids ≡ length items = as_many items dids c plain.words (entries_of plain) ran in
    let first : length (take n dids) ≡ n = length-take-le n dids (omega arith) in
    let below : r.count ≤ n = (let most = r.within in omega arith) in
    record {
      count = r.count;
      within = omega arith;
      stands = of_first n r.count plain items dids left below r.holds;
      answered = λ m within text.
          elim (cases_lt m (suc n)) [
            | inl few ↦ r.answered m (omega arith)
                (subst (λ (ds : List Did). length (text_of (acts_of ds)) ≤ printed) (sym (take-take m n dids (omega arith))) text)
            | inr many ↦ absurd (let more = more_printed n m dids (omega arith) in omega arith)
          ];
      most = λ m within.
          subst (λ (ds : List Did). length (text_of (acts_of ds)) ≤ printed) (take-take m n dids (omega arith)) (r.most m within);
    }

-- all of them spare where all items do
all_spare : (c : Cartridge) (plain : Plain) (items : List Item) (dids : List Did) (count : ℕ) → length dids ≡ length items →
    count ≡ length items → FirstSpare c plain items dids count →
    ItemsSpare c plain items dids
all_spare c plain items dids count long all spares =
    subst (λ (ds : List Did). ItemsSpare c plain items ds) (take_all count dids (omega arith))
    (subst (λ (xs : List Item). ItemsSpare c plain xs (take count dids)) (take_all count items (omega arith)) spares)

module _ (c : Cartridge) (plain : Plain) (input : List ℕ) (outcome : CommandOutcome) (held : IsHeld c plain) (live : IsTableLive c)
    (does : ScriptDoes c plain.words (entries_of plain) input outcome) (content : All (λ b. b < 256) input) where
  abbrev items : List Item
  items = does.items

  abbrev dids : List Did
  dids = does.dids

  pub long : length dids ≡ length items
  long = as_many items dids c plain.words (entries_of plain) does.did

  pub speak : AllSpeak dids
  speak = script_speaks c plain.words (entries_of plain) input outcome does

  has : HaveBytes items
  has = items_have_bytes input items does.ending does.read content

  -- the acts of the first items, and those behind
  pub acts_are : (n : ℕ) → outcome.acts ≡ acts_of (take n dids) ++ (acts_of (drop n dids) ++ does.last)
  acts_are n =
      ap (λ (o : CommandOutcome). o.acts) does.is ∙ ap (λ (acts : List Act). acts ++ does.last) (sym (acts_parted n dids))
      ∙ append_assoc (acts_of (take n dids)) (acts_of (drop n dids)) does.last

  between_all : (front rest : List Act) (left : Option Cartridge) → ItemsSpare c plain items dids → front ++ rest ≡ outcome.acts →
      Torn (next_steps rest) (Some (changed_by (steps_of front) c)) left → StandsAnswered plain items dids (length (text_of front)) left
  between_all front rest left spares parts torn =
      stands_answered c plain items dids (length (text_of front)) left does.did
      (reached_between Tears (StandsBehind plain items dids) dids c does.last front rest left speak
      (script_stands c plain input outcome held live does content spares) (parts ∙ ap (λ (o : CommandOutcome). o.acts) does.is) torn)

  between_first : (n : ℕ) (front rest : List Act) (left : Option Cartridge) → n ≤ length items →
      length (text_of front) < printed_by dids n → FirstSpare c plain items dids n →
      front ++ rest ≡ outcome.acts → Torn (next_steps rest) (Some (changed_by (steps_of front) c)) left →
      StandsAnswered plain items dids (length (text_of front)) left
  between_first n front rest left some less spares parts torn =
      elim (ends_in front rest (acts_of (take n dids)) (acts_of (drop n dids) ++ does.last) (parts ∙ acts_are n)) [
        | inl w ↦
            first_answered n c plain items dids (length (text_of front)) left some less does.did
            (reached_between Tears (StandsBehind plain (take n items) (take n dids)) (take n dids) c [] front (w.act ∷ w.behind) left
            (first_speak n dids speak)
            (first_stand n c plain items dids held live has does.did spares) (w.whole ∙ sym (append-nil (acts_of (take n dids))))
            (subst (λ (xs : List Act). Torn (next_steps xs) (Some (changed_by (steps_of front) c)) left) w.rest_is torn))
        | inr p ↦
            let text : length (text_of front) ≡ printed_by dids n + length (text_of p.next) =
            ap (λ (xs : List Act). length (text_of xs)) p.front_is
            ∙ ap (λ (t : List ℕ). length t) (text_of-append (acts_of (take n dids)) p.next)
            ∙ length-append (text_of (acts_of (take n dids))) (text_of p.next) in
            absurd (omega arith)
      ]

  behind_all : (front : List Act) (act : Act) (rest : List Act) (left : Option Cartridge) (printed : ℕ) → ItemsSpare c plain items dids →
      front ++ act ∷ rest ≡ outcome.acts →
      left ≡ Some (changed_by (steps_of front ++ act.steps) c) → length (text_of front) ≤ printed →
      printed ≤ length (text_of front) + length act.text → StandsAnswered plain items dids printed left
  behind_all front act rest left printed spares parts is above below =
      stands_answered c plain items dids printed left does.did
      (reached_behind Tears (λ ss d. Torn-nothing ss (Some d)) (StandsBehind plain items dids) dids c does.last front act rest left printed
      speak (script_stands c plain input outcome held live does content spares)
      (parts ∙ ap (λ (o : CommandOutcome). o.acts) does.is) is above below)

  behind_first : (n : ℕ) (front : List Act) (act : Act) (rest : List Act) (left : Option Cartridge) (printed : ℕ) → n ≤ length items →
      printed < printed_by dids n → FirstSpare c plain items dids n →
      front ++ act ∷ rest ≡ outcome.acts → left ≡ Some (changed_by (steps_of front ++ act.steps) c) → length (text_of front) ≤ printed →
      printed ≤ length (text_of front) + length act.text →
      StandsAnswered plain items dids printed left
  behind_first n front act rest left printed some less spares parts is above below =
      elim (ends_in front (act ∷ rest) (acts_of (take n dids)) (acts_of (drop n dids) ++ does.last) (parts ∙ acts_are n)) [
        | inl w ↦
            let rest_is : act ∷ rest ≡ w.act ∷ (w.behind ++ (acts_of (drop n dids) ++ does.last)) = w.rest_is in
            let same : act ≡ w.act = cc in
            first_answered n c plain items dids printed left some less does.did
            (reached_behind Tears (λ ss d. Torn-nothing ss (Some d)) (StandsBehind plain (take n items) (take n dids))
            (take n dids) c [] front act w.behind left printed (first_speak n dids speak)
            (first_stand n c plain items dids held live has does.did spares)
            (ap (λ (a : Act). front ++ a ∷ w.behind) same ∙ w.whole ∙ sym (append-nil (acts_of (take n dids)))) is above below)
        | inr p ↦
            let text : length (text_of front) ≡ printed_by dids n + length (text_of p.next) =
            ap (λ (xs : List Act). length (text_of xs)) p.front_is
            ∙ ap (λ (t : List ℕ). length t) (text_of-append (acts_of (take n dids)) p.next)
            ∙ length-append (text_of (acts_of (take n dids))) (text_of p.next) in
            absurd (omega arith)
      ]

  -- a stop among the acts of the first items
  first_stopped : (n : ℕ) (left : Option Cartridge) → n ≤ length items → FirstSpare c plain items dids n →
      Torn (steps_of (acts_of (take n dids))) (Some c) left →
      (m : ℕ) × (m ≤ n) × StandsBehind plain items dids m left
  first_stopped n left some spares torn =
      let s : StopsBehind (acts_of (take n dids)) c left = stops_behind (acts_of (take n dids)) c left torn in
      let r : Reached (StandsBehind plain (take n items) (take n dids)) (take n dids) (length (text_of s.front)) left =
      reached_between Tears (StandsBehind plain (take n items) (take n dids)) (take n dids) c [] s.front s.rest left
      (first_speak n dids speak)
      (first_stand n c plain items dids held live has does.did spares) (s.parts ∙ sym (append-nil (acts_of (take n dids)))) s.torn in
      let first : length (take n dids) ≡ n = length-take-le n dids (let all = long in omega arith) in
      let below : r.count ≤ n = (let most = r.within in omega arith) in
      (r.count, below, of_first n r.count plain items dids left below r.holds)

  all_stopped : (left : Option Cartridge) → ItemsSpare c plain items dids → Torn (steps_of outcome.acts) (Some c) left → (m : ℕ)
      × (m ≤ length items) × StandsBehind plain items dids m left
  all_stopped left spares torn =
      let s : StopsBehind outcome.acts c left = stops_behind outcome.acts c left torn in
      let reached : StandsAnswered plain items dids (length (text_of s.front)) left =
      between_all s.front s.rest left spares s.parts s.torn in
      (reached.count, reached.within, reached.stands)

  pub parted_stop : (n : ℕ) (left : Option Cartridge) → Torn (steps_of outcome.acts) (Some c) left →
      Torn (steps_of (acts_of (take n dids))) (Some c) left ⊎ Torn (steps_of (acts_of (drop n dids) ++ does.last))
      (Some (cartridge_behind c (take n dids))) left
  parted_stop n left torn =
      elim (Torn-append (steps_of (acts_of (take n dids))) (steps_of (acts_of (drop n dids) ++ does.last)) (Some c) left
      (subst (λ (ss : List Step). Torn ss (Some c) left)
      (ap steps_of (acts_are n) ∙ steps_of-append (acts_of (take n dids)) (acts_of (drop n dids) ++ does.last)) torn)) [
        | inl first ↦ inl first
        | inr behind ↦ inr (subst (λ (o : Option Cartridge). Torn (steps_of (acts_of (drop n dids) ++ does.last)) o left)
            (effects-some (steps_of (acts_of (take n dids))) c ∙ ap (λ (d : Cartridge). Some d) (sym (cartridge_is c (take n dids))))
            behind)
      ]

pub answered_between : AnsweredBetween
answered_between c plain input outcome front rest left held live does content (n, some, inl all, spares) parts torn =
    between_all c plain input outcome held live does content front rest left
    (all_spare c plain does.items does.dids n (long c plain input outcome held live does content) all spares) parts torn
answered_between c plain input outcome front rest left held live does content (n, some, inr less, spares) parts torn =
    between_first c plain input outcome held live does content n front rest left some less spares parts torn

pub answered_behind : AnsweredBehind
answered_behind c plain input outcome front act rest left printed held live does content (n, some, inl all, spares) parts is above below =
    behind_all c plain input outcome held live does content front act rest left printed
    (all_spare c plain does.items does.dids n (long c plain input outcome held live does content) all spares) parts is above below
answered_behind c plain input outcome front act rest left printed held live does content (n, some, inr less, spares) parts is above below =
    behind_first c plain input outcome held live does content n front act rest left printed some less spares parts is above below

-- where nothing was printed no item was answered
pub none_answered : (c : Cartridge) (plain : Plain) (input : List ℕ) (outcome : CommandOutcome) (left : Option Cartridge) →
    (does : ScriptDoes c plain.words (entries_of plain) input outcome) →
    All (λ b. b < 256) input → IsSomeAnd left (λ d. Stands d plain) → StandsAnswered plain does.items does.dids 0 left
none_answered c plain input outcome left does content stands =
    stands_answered c plain does.items does.dids 0 left does.did
    (reached_none (StandsBehind plain does.items does.dids) does.dids left
    (script_speaks c plain.words (entries_of plain) input outcome does) stands)

-- ---- a stop in a script

pub stopped_script_stands : StoppedScriptStands
stopped_script_stands c plain input outcome left held live does content n some spares torn =
    elim (parted_stop c plain input outcome held live does content n left torn) [
      | inl first ↦ inr (first_stopped c plain input outcome held live does content n left some spares first)
      | inr behind ↦ elim (cases_lt n (length does.items)) [
        | inl more ↦ inl (record { more = more; torn = behind })
        | inr all ↦
            let same : n ≡ length does.items = omega arith in
            let stood = all_stopped c plain input outcome held live does content left
            (all_spare c plain does.items does.dids n (long c plain input outcome held live does content) same spares) torn in
            inr (stood.0, (let most = stood.1 in omega arith), stood.2)
      ]
    ]

-- ---- a script that was done

pub done_script_stands : DoneScriptStands
done_script_stands c plain input outcome held does content spares =
    let d : Cartridge = cartridge_behind c does.dids in
    let p : Plain = plain_behind plain does.items does.dids in
    let behind : changed_by (steps_of outcome.acts) c ≡ changed_by (steps_of does.last) d =
    ap (λ (o : CommandOutcome). changed_by (steps_of o.acts) c) does.is ∙ changed_by_acts (acts_of does.dids) does.last c
    ∙ ap (λ (e : Cartridge). changed_by (steps_of does.last) e) (sym (cartridge_is c does.dids)) in
    subst (λ (e : Cartridge). Stands e p) (sym behind)
    (ends_of c plain input outcome held does content spares (Some (changed_by (steps_of does.last) d))
    (subst (λ (o : Option Cartridge). Torn (steps_of does.last) (Some d) o) (effects-some (steps_of does.last) d)
    (Torn-all (steps_of does.last) (Some d))))
