-- With which list a cartridge is mounted behind some items of a script, and which of these were answered.
use Rattle.std.proofs.Common.{◌<◌, ◌^◌, List, [], ◌∷◌, ℕ, ◌+◌, length, ◌≡◌, ◌++◌, refl, ◌≢◌, ap, ◌∙◌, ◌⊎◌, inl, inr, sym, subst}
use Rattle.std.proofs.Common.{append_assoc, ◌≤◌, false, Some, arith, append-nil, take, suc, drop, Option, IsSomeAnd}
use Rattle.std.proofs.lemmas.List.{length-append, take_all}
use Rattle.cartridge_spec.specs.Formatting.{IsLabel}
use Rattle.cartridge_spec.specs.Header.{Header}
use Rattle.cartridge_spec.specs.TableSegment.{TableIs}
use Rattle.cartridge_spec.specs.Mounting.{Lists}
use Rattle.cartridge_spec.specs.Settling.{changed_by}
use Rattle.cartridge_spec.specs.Table.{Entry}
use Rattle.command_laws.proofs.MountedFronts.{no_nil, front_still, front_within}
use Rattle.command_laws.proofs.MountedListed.{append_listed, scrub_listed, wear_listed}
use Rattle.command_laws.proofs.MountedListing.{append_front_lists, append_lists, scrub_lists, wear_lists}
use Rattle.command_laws.proofs.RestoreCounts.{framed_in_no_step}
use Rattle.command_laws.proofs.ScriptActs.{wears_behind, fits_acts, front_acts, input_texts, took_enough}
use Rattle.command_laws.proofs.ScriptCounted.{AllCount, weaker, Answered, answered_between, Broken, broken_behind, none_answered}
use Rattle.command_laws.proofs.ScriptOutcomes.{replied, taken_listed}
use Rattle.command_laws.proofs.ScriptReached.{front_steps}
use Rattle.command_laws.proofs.ScriptSpeaking.{as_many, script_speaks}
use Rattle.command_laws.proofs.ScriptStanding.{given_entries, given_steps}
use Rattle.command_laws.proofs.ScriptValues.{append_values}
use Rattle.command_laws.specs.MountedListed.{IsListed, listed_behind}
use Rattle.command_laws.specs.ScriptListing.{ListedBetween, ListedBehind, ListedDone, ListedNone}
use Rattle.command_spec.specs.Append.{Kept, Taking, Fits, TooLong, TooShort, room_in, taking, kept_over}
use Rattle.command_spec.specs.Input.{Item, IsLined, IsItem, Ending, HasItems, AtEnd, AtStop, AtFault}
use Rattle.command_laws.specs.ScriptTerms.{WearsBehind}
use Rattle.command_laws.specs.RestoreTerms.{RestoreDoes}
use Rattle.command_laws.specs.Inputs.{IsLine}
use Rattle.command_spec.specs.Lines.{lost_line, reply_behind}
use Rattle.command_spec.specs.Restore.{framed, pieces}
use Rattle.command_spec.specs.Script.{Did, refusal_line, EndDoes, Finds, LineDoes, Meeting, Meets, Refuses, acts_on, append_did}
use Rattle.command_spec.specs.Script.{line_refused, reply, taken_as, entries_behind, ItemsDo, cartridge_behind, ScriptDoes, place_behind}
use Rattle.command_spec.specs.Script.{acts_of}
use Rattle.command_spec.specs.Outcome.{CommandOutcome}
use Rattle.command_spec.specs.ScriptLists.{ItemsWearBehind, ListsBehind, ListsAnswered}
use Rattle.command_spec.specs.Scrub.{ScrubsAs}
use Rattle.command_spec.specs.declared.depth.Depth.TheVariants.{Shallow}
use Rattle.command_spec.specs.declared.line.Line.{Line}
use Rattle.qic_base.proofs.Joins.{text_of-append}
use Rattle.qic_base.specs.Acts.{Act, text_of, steps_of}
use Rattle.qic_base.specs.Cartridge.{Cartridge}
use Rattle.qic_base.specs.Step.{Step, Wear}
use Rattle.command_laws.proofs.MadeAnswered.{no_front}
use Rattle.command_spec.specs.declared.line.Line.TheVariants as line
use Rattle.command_spec.specs.declared.refusal.Refusal.TheVariants as why

-- ---- the items of any input

-- a line's name is a label, and its date a date word
abbrev IsLabelled : Line → Type 0
IsLabelled (line.Append name promised date) = IsLabel name × (date < 2 ^ 32)
IsLabelled other = Unit {0}

abbrev AreLabelled : List Item → Type 0
AreLabelled [] = Unit {0}
AreLabelled (item ∷ items) = IsLabelled item.line × AreLabelled items

line_labelled : (l : Line) (front : List ℕ) → IsLined (λ before. IsLine before l) front → IsLabelled l
line_labelled (line.Append name count date) front lined = append_values front name count date lined
line_labelled line.List front lined = tt
line_labelled (line.Restore number) front lined = tt
line_labelled line.Scrub front lined = tt
line_labelled (line.Lose segment sector) front lined = tt
line_labelled line.End front lined = tt

are_labelled : (number place : ℕ) (input : List ℕ) (items : List Item) (ending : Ending) → HasItems IsItem number place input items ending →
    AreLabelled items
are_labelled number place input [] ending read = tt
are_labelled number place input (item ∷ items) ending (within, (text, (behind, (parts, is, read)))) =
    (line_labelled item.line is.front is.lined, are_labelled (number + 1) (place + length text) behind items ending read)

-- ---- fronts of acts

-- one of a single act, but for all of it, is empty
front_alone : (front : List Act) (act : Act) (rest : List Act) (x : Act) → front ++ act ∷ rest ≡ x ∷ [] → front ≡ []
front_alone [] act rest x parts = refl
front_alone (y ∷ []) act rest x parts = let none : act ∷ rest ≡ [] = cc in absurd (cc)
front_alone (y ∷ z ∷ front) act rest x parts = let none : z ∷ (front ++ act ∷ rest) ≡ [] = cc in absurd (cc)

pub no_rest : (xs ys : List ℕ) → xs ++ ys ≡ [] → ys ≡ []
no_rest [] ys none = none
no_rest (x ∷ xs) ys none = absurd (cc)

not_empty : (front : List Act) (act : Act) (rest : List Act) → front ++ act ∷ rest ≢ []
not_empty [] act rest none = absurd (cc)
not_empty (x ∷ front) act rest none = absurd (cc)

-- where acts that print nothing stand before the last one, an act that prints is the last
last_prints : (silent : List Act) → text_of silent ≡ [] → (front : List Act) (act : Act) (rest : List Act) (last : Act) →
    front ++ act ∷ rest ≡ silent ++ last ∷ [] → act.text ≢ [] → rest ≡ []
last_prints [] none [] act rest last parts some = cc
last_prints [] none (x ∷ front) act rest last parts some = let end : front ++ act ∷ rest ≡ [] = cc in absurd (not_empty front act rest end)
last_prints (y ∷ silent) none [] act rest last parts some = let same : act ≡ y = cc in
    absurd (some (ap (λ (a : Act). a.text) same ∙ no_front y.text (text_of silent) none))
last_prints (y ∷ silent) none (x ∷ front) act rest last parts some =
    last_prints silent (no_rest y.text (text_of silent) none) front act rest last
    (let tail : front ++ act ∷ rest ≡ silent ++ last ∷ [] = cc in tail) some

-- ---- one item

-- an act of an item that prints is its last one, or the item adds no volume
abbrev PrintsLast : List Entry → Did → Type 0
PrintsLast entries did =
    ((front : List Act) (act : Act) (rest : List Act) → front ++ act ∷ rest ≡ did.acts → act.text ≢ [] → rest ≡ [])
    ⊎ (did.entries ≡ entries)

-- Where the list is mounted before it, a front of an item's acts leaves that, and an act that prints the list behind the item, in
-- which no sector of header or table is worn.
record ItemLists (c : Cartridge) (header : Header) (words : List ℕ) (entries : List Entry) (Before Behind : Type 0)
    (did : Did) : Type 0 where
  done : Before → Behind → Lists (changed_by (steps_of did.acts) c) header words did.entries
  listed : IsListed (changed_by (steps_of did.acts) c) words did.entries
  stopped : (front : List Act) (act : Act) (rest : List Act) → front ++ act ∷ rest ≡ did.acts → Before →
      Lists (changed_by (steps_of front) c) header words entries
  prints : PrintsLast entries did

-- an act that prints
spoken_lists : (c : Cartridge) (header : Header) (words : List ℕ) (entries : List Entry) (Before Behind : Type 0) (did : Did) →
    ItemLists c header words entries Before Behind did →
    (front : List Act) (act : Act) (rest : List Act) → front ++ act ∷ rest ≡ did.acts → act.text ≢ [] → Before → Behind →
    Lists (changed_by (steps_of front ++ act.steps) c) header words did.entries
spoken_lists c header words entries Before Behind did item front act [] parts some before behind =
    subst (λ (ss : List Step). Lists (changed_by ss c) header words did.entries) (sym (ap steps_of parts) ∙ front_steps front act)
    (item.done before behind)
spoken_lists c header words entries Before Behind did item front act (next ∷ rest) parts some before behind =
    elim item.prints [
      | inl last ↦ absurd (no_nil next rest (last front act (next ∷ rest) parts some))
      | inr same ↦
          subst (λ (es : List Entry). Lists (changed_by (steps_of front ++ act.steps) c) header words es) (sym same)
          (subst (λ (ss : List Step). Lists (changed_by ss c) header words entries) (front_steps front act)
          (item.stopped (front ++ act ∷ []) next rest (append_assoc front (act ∷ []) (next ∷ rest) ∙ parts) before))
    ]

module _ (c : Cartridge) (header : Header) (words : List ℕ) (entries : List Entry) (Before : Type 0)
    (lists : Before → Lists c header words entries) (listed : IsListed c words entries) where
  -- steps that are none leave the list
  lists_by : (steps : List Step) → steps ≡ [] → Before → Lists (changed_by steps c) header words entries
  lists_by steps none before = subst (λ (ss : List Step). Lists (changed_by ss c) header words entries) (sym none) (lists before)

  -- one that takes no step
  still_lists : (Behind : Type 0) (did : Did) → steps_of did.acts ≡ [] → did.entries ≡ entries →
      ItemLists c header words entries Before Behind did
  still_lists Behind did none same = record {
    done = λ before behind. subst (λ (es : List Entry). Lists (changed_by (steps_of did.acts) c) header words es) (sym same)
        (lists_by (steps_of did.acts) none before);
    listed = subst (λ (es : List Entry). IsListed (changed_by (steps_of did.acts) c) words es) (sym same)
        (subst (λ (ss : List Step). IsListed (changed_by ss c) words entries) (sym none) listed);
    stopped = λ front act rest parts. lists_by (steps_of front) (front_still front (act ∷ rest) did.acts parts none);
    prints = inr same;
  }

  -- ---- an append

  module _ (name : List ℕ) (n date : ℕ) (bytes : List ℕ) (table : List (List ℕ)) (mark : c.info.protected ≡ false)
      (reads : TableIs c table) where
    abbrev kept : Kept
    kept = kept_over c words entries table

    abbrev acts : List Act
    acts = acts_on c words entries name n date bytes (Finds table)

    -- a front of its acts that writes no entry
    front_lists : (front rest : List Act) → front ++ rest ≡ acts → (rest ≢ [])
        ⊎ ((xs : List ℕ) → taking (room_in kept) (Some n) bytes ≢ Fits xs) → Before →
        Lists (changed_by (steps_of front) c) header words entries
    front_lists front rest parts none before =
        append_front_lists c header words entries table name date (Some n) (reply_behind (length entries)) bytes front rest
        (lists before) listed mark reads parts none

    taking_lists : (label : IsLabel name) → date < 2 ^ 32 → (became : Taking) → taking (room_in kept) (Some n) bytes ≡ became →
        ItemLists c header words entries Before (Unit {0}) (taken_as kept name date acts became)
    taking_lists label word became took = by_taking became took
      where
        behind_lists : (became : Taking) → taking (room_in kept) (Some n) bytes ≡ became → Before →
            Lists (changed_by (steps_of acts) c) header words (listed_behind kept name date became)
        behind_lists became took before =
            subst (λ (k : Taking). Lists (changed_by (steps_of acts) c) header words (listed_behind kept name date k)) took
            (append_lists c header words entries table name date (Some n) (reply_behind (length entries)) bytes
            (lists before) listed mark reads label word)

        behind_listed : (became : Taking) → taking (room_in kept) (Some n) bytes ≡ became →
            IsListed (changed_by (steps_of (taken_as kept name date acts became).acts) c) words
            (taken_as kept name date acts became).entries
        behind_listed became took =
            taken_listed c words kept name date acts became
            (subst (λ (k : Taking). IsListed (changed_by (steps_of acts) c) words (listed_behind kept name date k)) took
            (append_listed c words entries table name date (Some n) (reply_behind (length entries)) bytes listed mark reads label word))

        by_taking : (became : Taking) → taking (room_in kept) (Some n) bytes ≡ became → ItemLists c header words entries Before (Unit {0})
            (taken_as kept name date acts became)
        by_taking (Fits xs) took = record {
          done = λ before behind. behind_lists (Fits xs) took before;
          listed = behind_listed (Fits xs) took;
          stopped = λ front act rest parts. front_lists front (act ∷ rest) parts (inl (no_nil act rest));
          prints = inl (λ front act rest parts some.
              last_prints (front_acts kept n bytes) (input_texts kept (Some n) bytes) front act rest _
              (parts ∙ fits_acts kept name date n bytes xs took (reply_behind (length entries))) some);
        }
        by_taking (TooLong need have) took = record {
          done = λ before behind. subst (λ (ss : List Step). Lists (changed_by ss c) header words entries)
              (sym (replied acts (refusal_line (why.Full need have))))
              (behind_lists (TooLong need have) took before);
          listed = behind_listed (TooLong need have) took;
          stopped = λ front act rest parts.
              let within = front_within front (act ∷ rest) acts (reply (refusal_line (why.Full need have)) ∷ []) parts (omega arith)
              (inl (no_nil act rest)) in
              front_lists front within.0 within.1 (inr (λ xs is. absurd (let other : TooLong need have ≡ Fits xs = sym took ∙ is in cc)));
          prints = inr refl;
        }
        by_taking (TooShort asked read) took = record {
          done = λ before behind. behind_lists (TooShort asked read) took before;
          listed = behind_listed (TooShort asked read) took;
          stopped = λ front act rest parts. front_lists front (act ∷ rest) parts (inl (no_nil act rest));
          prints = inr refl;
        }

  append_leaves : (name : List ℕ) (n date : ℕ) (bytes : List ℕ) (m : Meeting) → IsLabel name → date < 2 ^ 32 → Meets c m →
      ItemLists c header words entries Before (Unit {0}) (append_did c words entries name n date bytes m)
  append_leaves name n date bytes (Refuses w) label word meets = still_lists (Unit {0}) (line_refused [] entries w) refl refl
  append_leaves name n date bytes (Finds table) label word meets =
      taking_lists name n date bytes table meets.0 meets.1 label word (taking (room_in (kept_over c words entries table)) (Some n) bytes)
      refl

  -- ---- the other lines

  gives_lists : (number : ℕ) (did : Did) → RestoreDoes c words entries number did → ItemLists c header words entries Before (Unit {0}) did
  gives_lists number did gives =
      let parts : List Act = framed (pieces words gives.entry) gives.acts in
      still_lists (Unit {0}) did
      (ap (λ (d : Did). steps_of d.acts) gives.is
      ∙ given_steps words entries number gives.entry parts gives.ending
      (framed_in_no_step c words (pieces words gives.entry) gives.acts gives.ending gives.restores).0)
      (ap (λ (d : Did). d.entries) gives.is ∙ given_entries words entries number gives.entry parts gives.ending)

  scrubs_lists : (acts : List Act) → c.info.protected ≡ false → ScrubsAs Shallow c words entries acts →
      ItemLists c header words entries Before (Unit {0}) (record { acts = acts; entries = entries })
  scrubs_lists acts mark scrubs = record {
    done = λ before behind. scrub_lists c header words entries acts acts [] (lists before) scrubs (append-nil acts);
    listed = scrub_listed c words entries acts listed mark scrubs;
    stopped = λ front act rest parts before. scrub_lists c header words entries acts front (act ∷ rest) (lists before) scrubs parts;
    prints = inr refl;
  }

  lose_lists : (segment sector : ℕ) → sector < 32 →
      ItemLists c header words entries Before (sector < 32 → 3 ≤ segment)
      (record { acts = record { steps = Wear segment sector ∷ []; text = lost_line segment sector } ∷ []; entries = entries })
  lose_lists segment sector small = record {
    done = λ before behind. wear_lists c header words entries segment sector (lists before) (behind small) small;
    listed = wear_listed c words entries segment sector listed;
    stopped = λ front act rest parts.
        lists_by (steps_of front) (ap steps_of
        (front_alone front act rest (record { steps = Wear segment sector ∷ []; text = lost_line segment sector }) parts));
    prints = inr refl;
  }

  line_lists : (asked : Line) (bytes : List ℕ) (did : Did) → IsLabelled asked → LineDoes c words entries asked bytes did →
      ItemLists c header words entries Before (WearsBehind asked) did
  line_lists (line.Append name n date) bytes did labelled (m, meets, is) =
      subst (ItemLists c header words entries Before (Unit {0})) (sym is) (append_leaves name n date bytes m labelled.0 labelled.1 meets)
  line_lists line.List bytes did labelled is = still_lists (Unit {0}) did (ap (λ (d : Did). steps_of d.acts) is)
      (ap (λ (d : Did). d.entries) is)
  line_lists (line.Restore number) bytes did labelled (inl (none, is)) = still_lists (Unit {0}) did (ap (λ (d : Did). steps_of d.acts) is)
      (ap (λ (d : Did). d.entries) is)
  line_lists (line.Restore number) bytes did labelled (inr gives) = gives_lists number did gives
  line_lists line.Scrub bytes did labelled (inl (mark, is)) = still_lists (Unit {0}) did (ap (λ (d : Did). steps_of d.acts) is)
      (ap (λ (d : Did). d.entries) is)
  line_lists line.Scrub bytes did labelled (inr (free, (acts, scrubs, is))) =
      subst (ItemLists c header words entries Before (Unit {0})) (sym is) (scrubs_lists acts free scrubs)
  line_lists (line.Lose segment sector) bytes did labelled (inl (none, is)) =
      still_lists (sector < 32 → 3 ≤ segment) did (ap (λ (d : Did). steps_of d.acts) is) (ap (λ (d : Did). d.entries) is)
  line_lists (line.Lose segment sector) bytes did labelled (inr (place, is)) =
      subst (ItemLists c header words entries Before (sector < 32 → 3 ≤ segment)) (sym is) (lose_lists segment sector place.in_segment)
  line_lists line.End bytes did labelled never = absurd never

  -- ---- the last acts

  -- bytes that end early are not enough
  early_lists : (early_name : List ℕ) (promised date : ℕ) (bytes : List ℕ) (m : Meeting) (front rest last : List Act) →
      length bytes < promised → Meets c m →
      last ≡ acts_on c words entries early_name promised date bytes m → front ++ rest ≡ last → Before →
      Lists (changed_by (steps_of front) c) header words entries
  early_lists early_name promised date bytes (Refuses w) front rest last short meets is parts = lists_by (steps_of front)
      (front_still front rest last parts (ap steps_of is))
  early_lists early_name promised date bytes (Finds table) front rest last short meets is parts =
      front_lists early_name promised date bytes table meets.0 meets.1 front rest (parts ∙ is)
      (inr (λ xs took. absurd (let enough : promised ≤ length bytes =
      (took_enough (room_in (kept_over c words entries table)) promised bytes xs took).0 in omega arith)))

  end_lists : (bytes : List ℕ) (ending : Ending) (last front rest : List Act) → EndDoes c words entries bytes ending last →
      front ++ rest ≡ last → Before →
      Lists (changed_by (steps_of front) c) header words entries
  end_lists bytes AtEnd last front rest is parts = lists_by (steps_of front) (front_still front rest last parts (ap steps_of is))
  end_lists bytes AtStop last front rest is parts = lists_by (steps_of front) (front_still front rest last parts (ap steps_of is))
  end_lists bytes (AtFault number place) last front rest (inl (below, (early, (m, meets, is)))) parts =
      early_lists early.name early.promised early.date early.bytes m front rest last early.short meets is parts
  end_lists bytes (AtFault number place) last front rest (inr (none, is)) parts = lists_by (steps_of front)
      (front_still front rest last parts (ap steps_of is))

-- ---- what is left of a script

-- the list behind so many items, none of which wore a sector of header or table, where it was mounted before them
abbrev ListsThere : (Before : Type 0) → Header → (words : List ℕ) → List Entry → List Item → List Did → ℕ → Cartridge → Type 0
ListsThere Before header words entries items dids n d =
    Before → ItemsWearBehind (take n items) → Lists d header words (entries_behind entries (take n dids))

all_list : (header : Header) (words : List ℕ) (bytes : List ℕ) (ending : Ending) (last : List Act) (items : List Item) (dids : List Did)
    (c : Cartridge) (entries : List Entry) (Before : Type 0) →
    (Before → Lists c header words entries) → IsListed c words entries → AreLabelled items → ItemsDo c words entries items dids →
    EndDoes (cartridge_behind c dids) words (entries_behind entries dids) bytes ending last →
    AllCount (ListsThere Before header words entries items dids) c dids last
all_list header words bytes ending last [] [] c entries Before lists listed labelled ran ends =
    λ front rest parts before behind. end_lists c header words entries Before lists listed bytes ending last front rest ends parts before
all_list header words bytes ending last [] (did ∷ dids) c entries Before lists listed labelled ran ends = absurd ran
all_list header words bytes ending last (item ∷ items) [] c entries Before lists listed labelled ran ends = absurd ran
all_list header words bytes ending last (item ∷ items) (did ∷ dids) c entries Before lists listed labelled ran ends =
    let Behind : Type 0 = WearsBehind item.line in
    let first : ItemLists c header words entries Before Behind did =
    line_lists c header words entries Before lists listed item.line item.bytes did labelled.0 ran.0 in (
      record {
        stopped = λ front act rest parts before behind. first.stopped front act rest parts before;
        spoken = λ front act rest parts some before behind. spoken_lists c header words entries Before Behind did first front act rest parts
            some before (wears_behind item.line behind.0);
      },
      weaker (ListsThere (Before × Behind) header words did.entries items dids)
          (λ n. ListsThere Before header words entries (item ∷ items) (did ∷ dids) (suc n))
          (λ n d there before behind. there (before, wears_behind item.line behind.0) behind.1) dids (changed_by (steps_of did.acts) c) last
          (all_list header words bytes ending last items dids (changed_by (steps_of did.acts) c) did.entries (Before × Behind)
          (λ both. first.done both.0 both.1) first.listed labelled.1 ran.1 ends),
    )

abbrev ListsAt : Header → (words : List ℕ) → List Entry → List Item → List Did → ℕ → Cartridge → Type 0
ListsAt header words entries items dids n d = ListsThere (Unit {0}) header words entries items dids n d

script_lists : (c : Cartridge) (header : Header) (words : List ℕ) (entries : List Entry) (input : List ℕ) (outcome : CommandOutcome) →
    Lists c header words entries → IsListed c words entries →
    (does : ScriptDoes c words entries input outcome) → AllCount (ListsAt header words entries does.items does.dids) c does.dids does.last
script_lists c header words entries input outcome lists listed does =
    all_list header words (drop (place_behind 1 0 input does.items does.ending does.read) input) does.ending does.last does.items does.dids
    c entries (Unit {0}) (λ before. lists) listed
    (are_labelled 1 0 input does.items does.ending does.read) does.did does.ends

-- of what is left
lists_left : (header : Header) (words : List ℕ) (entries : List Entry) (items : List Item) (dids : List Did) (count : ℕ) (d : Cartridge)
    (left : Option Cartridge) → left ≡ Some d →
    ListsAt header words entries items dids count d → ListsBehind header words entries items dids count left
lists_left header words entries items dids count d left is lists behind =
    subst (λ (o : Option Cartridge). IsSomeAnd o (λ e. Lists e header words (entries_behind entries (take count dids)))) (sym is)
    (lists tt behind)

lists_answered : (c : Cartridge) (header : Header) (words : List ℕ) (entries : List Entry) (items : List Item) (dids : List Did)
    (printed : ℕ) (d : Cartridge) (left : Option Cartridge) →
    ItemsDo c words entries items dids → left ≡ Some d → Answered (ListsAt header words entries items dids) dids printed d →
    ListsAnswered header words entries items dids printed left
lists_answered c header words entries items dids printed d left ran is a =
    let long : length dids ≡ length items = as_many items dids c words entries ran in
    record {
      count = a.count;
      within = (let most = a.within in omega arith);
      lists = lists_left header words entries items dids a.count d left is a.holds;
      answered = λ n within. a.answered n (omega arith);
    }

pub listed_between : ListedBetween
listed_between c header words entries input outcome front rest left lists listed does parts is =
    lists_answered c header words entries does.items does.dids (length (text_of front)) (changed_by (steps_of front) c) left does.did is
    (answered_between (ListsAt header words entries does.items does.dids) does.dids c does.last front rest
    (script_speaks c words entries input outcome does)
    (script_lists c header words entries input outcome lists listed does) (parts ∙ ap (λ (o : CommandOutcome). o.acts) does.is))

pub listed_behind_act : ListedBehind
listed_behind_act c header words entries input outcome front act rest left printed lists listed does parts is above below =
    let long : length does.dids ≡ length does.items = as_many does.items does.dids c words entries does.did in
    let b : Broken (ListsAt header words entries does.items does.dids) does.dids printed (changed_by (steps_of front ++ act.steps) c) =
    broken_behind (ListsAt header words entries does.items does.dids) does.dids c does.last front act rest printed
    (script_lists c header words entries input outcome lists listed does) (parts ∙ ap (λ (o : CommandOutcome). o.acts) does.is) above below
    in
    record {
      count = b.count;
      within = (let most = b.within in omega arith);
      lists = lists_left header words entries does.items does.dids b.count (changed_by (steps_of front ++ act.steps) c) left is b.holds;
      begun = λ n within. b.begun n (omega arith);
    }

-- what items print is within what they and other acts print
texts_within : (dids : List Did) (last : List Act) → length (text_of (acts_of dids)) ≤ length (text_of (acts_of dids ++ last))
texts_within dids last =
    let split = ap length (text_of-append (acts_of dids) last) ∙ length-append (text_of (acts_of dids)) (text_of last) in omega arith

pub listed_done : ListedDone
listed_done c header words entries input outcome left lists listed does behind is =
    let between : ListsAnswered header words entries does.items does.dids (length (text_of outcome.acts)) left =
    listed_between c header words entries input outcome outcome.acts [] left lists listed does (append-nil outcome.acts) is in
    let long : length does.dids ≡ length does.items = as_many does.items does.dids c words entries does.did in
    let first : take (length does.items) does.dids ≡ does.dids = take_all (length does.items) does.dids (omega arith) in
    let acts : acts_of does.dids ++ does.last ≡ outcome.acts = sym (ap (λ (o : CommandOutcome). o.acts) does.is) in
    let texts : length (text_of (acts_of does.dids)) ≤ length (text_of outcome.acts) =
    subst (λ (xs : List Act). length (text_of (acts_of does.dids)) ≤ length (text_of xs)) acts (texts_within does.dids does.last) in
    let all : length does.items ≤ between.count =
    (between.answered (length does.items) (omega arith)).1
    (subst (λ (ds : List Did). length (text_of (acts_of ds)) ≤ length (text_of outcome.acts)) (sym first) texts) in
    subst (λ (ds : List Did). IsSomeAnd left (λ d. Lists d header words (entries_behind entries ds)))
    (take_all between.count does.dids (omega arith))
    (between.lists (subst ItemsWearBehind (sym (take_all between.count does.items all)) behind))

pub listed_none : ListedNone
listed_none c d header words entries input outcome does lists =
    lists_answered c header words entries does.items does.dids 0 d (Some d) does.did refl
    (none_answered (ListsAt header words entries does.items does.dids) does.dids d (script_speaks c words entries input outcome does)
    (λ before behind. lists))
