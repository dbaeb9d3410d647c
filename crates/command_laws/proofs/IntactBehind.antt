-- A script behind the settling of one of its appends: what the lines in front wore of the table's segment is there again.
use Rattle.std.proofs.Common.{◌≡◌, ◌∙◌, ◌++◌, ◌<◌, ◌≤◌, ◌⊎◌, zero, suc, ℕ, List, [], ◌∷◌, All, Option, Some, IsSomeAnd, inl, inr, ap}
use Rattle.std.proofs.Common.{sym, subst}
use Rattle.std.proofs.Common.{refl, arith, length, take, drop, append_assoc, slice_get}
use Rattle.std.proofs.lemmas.List.{take_all, take-take}
use Rattle.cartridge_laws.proofs.FormatWriting.{effects-some}
use Rattle.cartridge_spec.specs.Settling.{changed_by, settling_steps}
use Rattle.cartridge_spec.specs.Table.{Entry}
use Rattle.cartridge_spec.specs.TableSegment.{IsTableLive}
use Rattle.cartridge_spec.specs.Volumes.{Plain, entries_of}
use Rattle.command_laws.proofs.IntactKeeping.{intact_is_one, less_comes, one_comes}
use Rattle.command_laws.proofs.IntactScript.{EndComes, IsIntactBehind, all_intact, answered_comes, come_shifted, done_comes, is_held}
use Rattle.command_laws.proofs.IntactScript.{items_come, less_or_next, more_come, stopped_comes}
use Rattle.command_laws.proofs.MadeAnswered.{torn_behind}
use Rattle.command_laws.proofs.ScriptActs.{line_spares}
use Rattle.command_laws.proofs.ScriptAnswered.{Tears, first_do, first_have, long}
use Rattle.command_laws.proofs.ScriptReached.{AllLeave, leave_weaker}
use Rattle.command_laws.proofs.ScriptStanding.{ItemLeaves, SettlesLeaves, append_settles, item_leaves, items_have_bytes, next_do, next_is}
use Rattle.command_laws.specs.AppendTerms.{content_with}
use Rattle.command_laws.specs.Intact.{AnsweredBehindAppend, DoneBehindAppend, IsIntact, StoppedBehindAppend}
use Rattle.command_laws.specs.MountedHeld.{IsHeld}
use Rattle.command_laws.specs.ScriptStanding.{HasBytes, HaveBytes, plain_after}
use Rattle.command_laws.specs.ScriptTerms.{ItemDoes}
use Rattle.command_spec.specs.Input.{Item}
use Rattle.command_spec.specs.OneLoss.{ComesBackAsOneOf, SettlingAppend, SomeComeBack}
use Rattle.command_spec.specs.Outcome.{CommandOutcome}
use Rattle.command_laws.proofs.ScriptPlain.{meets_one}
use Rattle.command_spec.specs.Script.{Did, Finds, ItemsDo, LineDoes, Meeting, Meets, ScriptDoes, acts_of, append_did, cartridge_behind}
use Rattle.command_spec.specs.Script.{entries_behind}
use Rattle.command_laws.specs.ActStops.{IsLeftBy}
use Rattle.command_spec.specs.ScriptLists.{CameFurther, GoesNoFurther, ItemsSpare, ItemsSpareTable, printed_by, with_items}
use Rattle.command_spec.specs.declared.line.Line.{Line}
use Rattle.qic_base.proofs.Joins.{steps_of-append}
use Rattle.qic_base.proofs.Steps.{Torn-behind, Torn-front, Torn-nothing}
use Rattle.qic_base.specs.Acts.{Act, steps_of}
use Rattle.qic_base.specs.Cartridge.{Cartridge}
use Rattle.qic_base.specs.Step.{Step, Torn}
use Rattle.command_spec.specs.declared.line.Line.TheVariants as line

-- ---- the append

-- the line behind so many others is an append
abbrev AppendsAt : List Item → (at : ℕ) → Type 0
AppendsAt items at =
    (item : Item) × (slice_get items at ≡ Some item)
    × ((name : List ℕ) × ((promised : ℕ) × ((date : ℕ) × (item.line ≡ line.Append name promised date))))

-- the steps of the lines in front of it, and those that settle these data
abbrev until : Cartridge → List Did → (table : List (List ℕ)) → (at : ℕ) → List Step
until c dids table at = steps_of (acts_of (take at dids)) ++ settling_steps table (cartridge_behind c (take at dids))

until_behind : (c : Cartridge) (did : Did) (dids : List Did) (table : List (List ℕ)) (at : ℕ) →
    until c (did ∷ dids) table (suc at) ≡ steps_of did.acts ++ until (changed_by (steps_of did.acts) c) dids table at
until_behind c did dids table at =
    let settles : List Step = settling_steps table (cartridge_behind (changed_by (steps_of did.acts) c) (take at dids)) in
    ap (λ (ss : List Step). ss ++ settles) (steps_of-append did.acts (acts_of (take at dids)))
    ∙ append_assoc (steps_of did.acts) (steps_of (acts_of (take at dids))) settles

-- what it leaves
settles_of : (c : Cartridge) (plain : Plain) (table : List (List ℕ)) (asked : Line) (bytes : List ℕ) (did : Did) (name : List ℕ)
    (promised date : ℕ) → IsHeld c plain → IsTableLive c → asked ≡ line.Append name promised date → Meets c (Finds table) →
    HasBytes (record { line = asked; bytes = bytes }) → LineDoes c plain.words (entries_of plain) asked bytes did →
    SettlesLeaves c plain (plain_after plain (record { line = asked; bytes = bytes }) did) table did
settles_of c plain table (line.Append name n date) bytes did other promised day held live is meets has (m, met, does) =
    append_settles c plain (content_with name date bytes) held n did table has.0 has.1 live meets
    (does ∙ ap (λ (k : Meeting). append_did c plain.words (entries_of plain) name n date bytes k) (sym (meets_one c m
    (Finds table) met meets)))
settles_of c plain table line.List bytes did name promised date held live is meets has does = absurd (cc)
settles_of c plain table (line.Restore number) bytes did name promised date held live is meets has does = absurd (cc)
settles_of c plain table line.Scrub bytes did name promised date held live is meets has does = absurd (cc)
settles_of c plain table (line.Lose segment sector) bytes did name promised date held live is meets has does = absurd (cc)
settles_of c plain table line.End bytes did name promised date held live is meets has does = absurd (cc)

-- the first line is one
first_settles : (c : Cartridge) (plain : Plain) (table : List (List ℕ)) (item : Item) (items : List Item) (did : Did) → IsHeld c plain →
    IsTableLive c → AppendsAt (item ∷ items) 0 → Meets c (Finds table) → HasBytes item →
    ItemDoes c plain.words (entries_of plain) item did →
    SettlesLeaves c plain (plain_after plain item did) table did
first_settles c plain table item items did held live (one, is, (name, (promised, (date, appends)))) meets has does =
    let same : item ≡ one = cc in
    settles_of c plain table item.line item.bytes did name promised date held live (ap (λ (i : Item). i.line) same ∙ appends) meets has does

-- it is so among the first ones
taken : (at n : ℕ) (items : List Item) → at < n → slice_get (take n items) at ≡ slice_get items at
taken at zero items among = absurd (omega arith)
taken at (suc n) [] among = refl
taken zero (suc n) (item ∷ items) among = refl
taken (suc at) (suc n) (item ∷ items) among = taken at n items (omega arith)

next_appends : (item : Item) (items : List Item) (at : ℕ) → AppendsAt (item ∷ items) (suc at) → AppendsAt items at
next_appends item items at appends = appends

-- ---- items

-- what is whole behind the next items is so behind all
intact_on : (c : Cartridge) (plain : Plain) (item : Item) (items : List Item) (did : Did) (dids : List Did) → ItemLeaves c plain item did →
    IsIntactBehind (changed_by (steps_of did.acts) c) (plain_after plain item did) items dids →
    IsIntactBehind c plain (item ∷ items) (did ∷ dids)
intact_on c plain item items did dids one rest =
    let d : Cartridge = changed_by (steps_of did.acts) c in
    let same = next_is plain item did items dids one.entries in
    record {
      intact = subst (λ (p : Plain). IsIntact (cartridge_behind d dids) p) same rest.intact;
      entries = ap (λ (p : Plain). entries_of p) (sym same) ∙ rest.entries ∙ ap (λ (es : List Entry). entries_behind es dids) one.entries;
      words = ap (λ (p : Plain). p.words) (sym same) ∙ rest.words ∙ one.words;
    }

-- behind all of them the cartridge is whole
behind_intact : (at : ℕ) (items : List Item) (dids : List Did) (c : Cartridge) (plain : Plain) (table : List (List ℕ)) → IsHeld c plain →
    IsTableLive c → HaveBytes items → ItemsDo c plain.words (entries_of plain) items dids → ItemsSpare c plain items dids →
    ItemsSpareTable (drop at items) → AppendsAt items at → Meets (cartridge_behind c (take at dids)) (Finds table) →
    IsIntactBehind c plain items dids
behind_intact at [] dids c plain table held live has ran spares none (one, is, appends) meets = absurd (cc)
behind_intact at (item ∷ items) [] c plain table held live has ran spares none appends meets = absurd ran
behind_intact zero (item ∷ items) (did ∷ dids) c plain table held live has ran spares none appends meets =
    let one : ItemLeaves c plain item did = item_leaves c plain item did held has.0 (line_spares c plain item.line spares.0) ran.0 in
    let now = first_settles c plain table item items did held live appends meets has.0 ran.0 in
    let d : Cartridge = changed_by (steps_of did.acts) c in
    let next : Plain = plain_after plain item did in
    intact_on c plain item items did dids one
    (all_intact items dids d next now.done has.1 (next_do d plain next items did.entries dids one.entries one.words ran.1)
    (spares.1, none.1))
behind_intact (suc at) (item ∷ items) (did ∷ dids) c plain table held live has ran spares none appends meets =
    let one : ItemLeaves c plain item did = item_leaves c plain item did held has.0 (line_spares c plain item.line spares.0) ran.0 in
    let d : Cartridge = changed_by (steps_of did.acts) c in
    let next : Plain = plain_after plain item did in
    intact_on c plain item items did dids one
    (behind_intact at items dids d next table one.done (one.live live) has.1
    (next_do d plain next items did.entries dids one.entries one.words ran.1) spares.1 none (next_appends item items at appends) meets)

-- the stop came before the end of the settling, and no line behind those in front has to be there; or what is left comes back
abbrev EarlyOr : (Early : Option Cartridge → Type 0) (at : ℕ) (standing : ℕ → Plain) (most least : ℕ) → Option Cartridge → Type 0
EarlyOr Early at standing most least left =
    (Early left × (least ≤ at)) ⊎ (SomeComeBack standing at most left × SomeComeBack standing least most left)

-- of the first line and those behind it the first may be missing, too
from_first : (all : ℕ → Plain) (least most : ℕ) (left : Option Cartridge) → SomeComeBack all least most left →
    SomeComeBack all 0 most left × SomeComeBack all least most left
from_first all least most left back = (less_comes all 0 least most left (omega arith) back, back)

behind_come : (at n : ℕ) (items : List Item) (dids : List Did) (c : Cartridge) (plain : Plain) (table : List (List ℕ)) (last : List Act)
    (Early : Option Cartridge → Type 0) → n ≤ length items → at < n → IsHeld c plain → IsTableLive c → HaveBytes items →
    ItemsDo c plain.words (entries_of plain) items dids → ItemsSpare c plain (take n items) (take n dids) →
    ItemsSpareTable (drop at (take n items)) → AppendsAt items at → Meets (cartridge_behind c (take at dids)) (Finds table) →
    EndComes (cartridge_behind c (take n dids)) (with_items plain items dids n) last →
    ((left : Option Cartridge) → Torn (until c dids table at) (Some c) left → Early left) →
    AllLeave Tears (λ m. EarlyOr Early at (with_items plain items dids) n m) c (take n dids) last
behind_come at zero items dids c plain table last Early some among held live has ran spares none appends meets ends early =
    absurd (omega arith)
behind_come at (suc n) [] dids c plain table last Early some among held live has ran spares none appends meets ends early =
    absurd (omega arith)
behind_come at (suc n) (item ∷ items) [] c plain table last Early some among held live has ran spares none appends meets ends early =
    absurd ran
behind_come zero (suc n) (item ∷ items) (did ∷ dids) c plain table last Early some among held live has ran spares none appends meets ends
    early =
    let one : ItemLeaves c plain item did = item_leaves c plain item did held has.0 (line_spares c plain item.line spares.0) ran.0 in
    let now = first_settles c plain table item items did held live appends meets has.0 ran.0 in
    let d : Cartridge = changed_by (steps_of did.acts) c in
    let next : Plain = plain_after plain item did in
    let all : ℕ → Plain = with_items plain (item ∷ items) (did ∷ dids) in
    let same : (m : ℕ) → with_items next items dids m ≡ all (suc m) = λ m. next_is plain item did (take m items)
    (take m dids) one.entries in (
      record {
        done = inr (from_first all 1 (suc n) (Some d) (more_come all 1 1 (suc n) (Some d) (omega arith) (one_comes all 1 (Some d)
            (subst (λ (p : Plain). ComesBackAsOneOf p p d) (same 0) (intact_is_one d next next (Some d) now.done refl)))));
        stopped = λ front act rest left whole torn. inl (elim (now.stopped left (torn_behind front
            (act ∷ rest) did.acts c left whole torn)) [
              | inl settling ↦ inl (early left settling, omega arith)
              | inr comes ↦ inr (from_first all 0 (suc n) left
                  (less_or_next all n left (subst (λ (p : Plain). IsSomeAnd left (ComesBackAsOneOf plain p)) (same 0) comes)))
            ]);
      },
      leave_weaker Tears (λ m. SomeComeBack (with_items next items dids) m n) (λ m. EarlyOr Early 0 all (suc n) (suc m))
          (λ m left back. inr (from_first all (suc m) (suc n) left (come_shifted all (with_items next items dids) same m n left back))) d
          (take n dids) last
          (items_come n items dids d next last (omega arith) now.done has.1
          (next_do d plain next items did.entries dids one.entries one.words ran.1) (spares.1, none.1)
          (subst (λ (p : Plain). EndComes (cartridge_behind d (take n dids)) p last) (sym (same n)) ends)),
    )
behind_come (suc at) (suc n) (item ∷ items) (did ∷ dids) c plain table last Early some among held live has ran spares none appends meets
    ends early =
    let one : ItemLeaves c plain item did = item_leaves c plain item did held has.0 (line_spares c plain item.line spares.0) ran.0 in
    let d : Cartridge = changed_by (steps_of did.acts) c in
    let next : Plain = plain_after plain item did in
    let all : ℕ → Plain = with_items plain (item ∷ items) (did ∷ dids) in
    let same : (m : ℕ) → with_items next items dids m ≡ all (suc m) = λ m. next_is plain item did (take m items)
    (take m dids) one.entries in
    let steps = sym (until_behind c did dids table at) in
    let early_front : (left : Option Cartridge) → Torn (steps_of did.acts) (Some c) left → Early left =
    λ left torn. early left (subst (λ (ss : List Step). Torn ss (Some c) left) steps
    (Torn-front (steps_of did.acts) (until d dids table at) (Some c) left torn)) in
    let early_behind : (left : Option Cartridge) → Torn (until d dids table at) (Some d) left → Early left =
    λ left torn. early left (subst (λ (ss : List Step). Torn ss (Some c) left) steps
    (Torn-behind (steps_of did.acts) (until d dids table at) (Some c) left
    (subst (λ (o : Option Cartridge). Torn (until d dids table at) o left) (sym (effects-some (steps_of did.acts) c)) torn))) in (
      record {
        done = inl (early_behind (Some d) (Torn-nothing (until d dids table at) (Some d)), omega arith);
        stopped = λ front act rest left whole torn.
            inl (inl (early_front left (torn_behind front (act ∷ rest) did.acts c left whole torn), omega arith));
      },
      leave_weaker Tears (λ m. EarlyOr Early at (with_items next items dids) n m) (λ m. EarlyOr Early (suc at) all (suc n) (suc m))
          (λ m left so. elim so [
            | inl (is_early, few) ↦ inl (is_early, omega arith)
            | inr (from_at, back) ↦ inr (
              come_shifted all (with_items next items dids) same at n left from_at,
              come_shifted all (with_items next items dids) same m n left back,
            )
          ]) d (take n dids) last
          (behind_come at n items dids d next table last Early (omega arith) (omega arith) one.done (one.live live) has.1
          (next_do d plain next items did.entries dids one.entries one.words ran.1) spares.1 none (next_appends item items at appends) meets
          (subst (λ (p : Plain). EndComes (cartridge_behind d (take n dids)) p last) (sym (same n)) ends) early_behind),
    )

-- ---- a script

module _ (c : Cartridge) (plain : Plain) (input : List ℕ) (outcome : CommandOutcome) (intact : IsIntact c plain)
    (does : ScriptDoes c plain.words (entries_of plain) input outcome) (content : All (λ b. b < 256) input) (n : ℕ)
    (some : n ≤ length does.items) (spares : ItemsSpare c plain (take n does.items) (take n does.dids))
    (append : SettlingAppend c does.items does.dids n) (none : ItemsSpareTable (drop append.at (take n does.items))) where
  abbrev all_items : ℕ → Plain
  all_items = with_items plain does.items does.dids

  abbrev Early : Option Cartridge → Type 0
  Early left = Torn (until c does.dids append.table append.at) (Some c) left

  abbrev Holds : ℕ → Option Cartridge → Type 0
  Holds m left = EarlyOr Early append.at all_items n m left

  held : IsHeld c plain
  held = is_held c plain intact

  has : HaveBytes does.items
  has = items_have_bytes input does.items does.ending does.read content

  appends : AppendsAt does.items append.at
  appends = (append.item, append.is, (append.name, (append.promised, (append.date, append.appends))))

  known : IsIntactBehind c plain (take n does.items) (take n does.dids)
  known =
      behind_intact append.at (take n does.items) (take n does.dids) c plain append.table held intact.kept.live
      (first_have n does.items has)
      (first_do n does.items does.dids c plain.words (entries_of plain) does.did) spares none
      (append.item, taken append.at n does.items append.among ∙ append.is, (append.name, (append.promised, (append.date, append.appends))))
      (subst (λ (ds : List Did). Meets (cartridge_behind c ds) (Finds append.table)) (sym (take-take append.at n does.dids (omega arith)))
      append.finds)

  less : (fewer least : ℕ) (left : Option Cartridge) → fewer ≤ least → Holds least left → Holds fewer left
  less fewer least left few (inl (is_early, within)) = inl (is_early, omega arith)
  less fewer least left few (inr (from_at, back)) = inr (from_at, less_comes all_items fewer least n left few back)

  come : (last : List Act) → EndComes (cartridge_behind c (take n does.dids)) (all_items n) last →
      AllLeave Tears Holds c (take n does.dids) last
  come last ends =
      behind_come append.at n does.items does.dids c plain append.table last Early some append.among held intact.kept.live has does.did
      spares
      none appends append.finds ends (λ left torn. torn)

  last_holds : (left : Option Cartridge) → IsSomeAnd left (ComesBackAsOneOf (all_items n) (all_items n)) → Holds n left
  last_holds left comes =
      let back = one_comes all_items n left comes in
      let among = append.among in
      inr (less_comes all_items append.at n n left (omega arith) back, back)

  script_stopped : (left : Option Cartridge) → Torn (steps_of outcome.acts) (Some c) left →
      CameFurther c does.items does.dids does.last n left ⊎ Holds 0 left
  script_stopped left torn = stopped_comes c plain input outcome held intact.kept.live does content n some known Holds less last_holds come
      left torn

  script_answered : (answered : ℕ) (text : List ℕ) (left : Option Cartridge) → answered ≤ length does.items →
      printed_by does.dids answered ≤ length text → GoesNoFurther does.items does.dids n (length text) →
      IsLeftBy c outcome.acts text left → Holds answered left
  script_answered answered text left few written further at =
      answered_comes c plain input outcome held intact.kept.live does content n some known Holds less last_holds come answered text left few
      written further at

  all_done : n ≡ length does.items → Holds n (Some (changed_by (steps_of outcome.acts) c))
  all_done all = done_comes c plain input outcome held intact.kept.live does content n some known Holds less last_holds come all

pub stopped_behind_append : StoppedBehindAppend
stopped_behind_append c plain input outcome left intact does content n some spares append none torn =
    elim (script_stopped c plain input outcome intact does content n some spares append none left torn) [
      | inl further ↦ inl further
      | inr (inl is_early) ↦ inr (inl is_early.0)
      | inr (inr back) ↦ inr (inr back.0)
    ]

pub answered_behind_append : AnsweredBehindAppend
answered_behind_append c plain input outcome text left intact does content answered n known written some further spares append behind none
    at =
    elim (script_answered c plain input outcome intact does content n some spares append none answered text left known written further at) [
      | inl (is_early, few) ↦ inl (omega arith, is_early)
      | inr back ↦ inr back.1
    ]

pub done_behind_append : DoneBehindAppend
done_behind_append c plain input outcome intact does content spares append none =
    let n : ℕ = length does.items in
    let first : take n does.items ≡ does.items = take_all n does.items (omega arith) in
    let many : length does.dids ≡ n = long c plain input outcome (is_held c plain intact) intact.kept.live does content in
    let all : take n does.dids ≡ does.dids = take_all n does.dids (omega arith) in
    let front : ItemsSpare c plain (take n does.items) (take n does.dids) =
    subst (λ (ds : List Did). ItemsSpare c plain (take n does.items) ds) (sym all)
    (subst (λ (xs : List Item). ItemsSpare c plain xs does.dids) (sym first) spares) in
    let rest : ItemsSpareTable (drop append.at (take n does.items)) =
    subst (λ (xs : List Item). ItemsSpareTable (drop append.at xs)) (sym first) none in
    elim (all_done c plain input outcome intact does content n (omega arith) front append rest refl) [
      | inl (is_early, few) ↦ let among = append.among in absurd (omega arith)
      | inr back ↦ back.1
    ]
