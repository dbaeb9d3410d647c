-- A script, done or stopped, on a cartridge whose whole table holds what it should.
use Rattle.std.proofs.Common.{◌≡◌, ◌∙◌, ◌++◌, ◌+◌, ◌<◌, zero, suc, ℕ, List, [], ◌∷◌, All, Option, Some, IsSomeAnd, inl, inr, ap, sym, subst}
use Rattle.std.proofs.Common.{refl, arith, length, take, drop, append-nil, ◌≤◌, ◌⊎◌}
use Rattle.std.proofs.lemmas.Bool.{cases_lt}
use Rattle.std.proofs.lemmas.List.{drop_all, take_all, length-append, length-take-le, take-take}
use Rattle.cartridge_laws.proofs.AppendVolume.{free_writes_stand, last_end_least}
use Rattle.cartridge_laws.proofs.FormatWriting.{some_weaker, effects-some}
use Rattle.cartridge_laws.proofs.MountStanding.{standing_data}
use Rattle.cartridge_laws.proofs.OneLossComesBack.{whole_comes_back}
use Rattle.cartridge_laws.specs.Table.{last_end}
use Rattle.cartridge_spec.specs.Settling.{changed_by, settling_steps}
use Rattle.cartridge_spec.specs.Table.{Entry}
use Rattle.cartridge_spec.specs.TableSegment.{IsTableLive}
use Rattle.cartridge_spec.specs.Volumes.{Plain, entries_of}
use Rattle.command_laws.proofs.ScriptActs.{line_spares, spares_table}
use Rattle.command_laws.proofs.CommandOneLoss.{kept_whole}
use Rattle.command_laws.proofs.IntactKeeping.{intact_is_one, whole_needs_no_steps, less_comes, next_comes, one_comes}
use Rattle.command_laws.proofs.MountedFronts.{ends_in}
use Rattle.command_laws.proofs.MountedKeeping.{changed_by_acts}
use Rattle.command_laws.proofs.ScriptAnswered.{parted_stop, StopsBehind, Tears, acts_are, first_do, first_have, first_speak, long}
use Rattle.command_laws.proofs.ScriptAnswered.{more_printed, speak, stops_behind}
use Rattle.command_laws.proofs.ScriptReached.{AllLeave, Reached, leave_weaker, reached_behind, reached_between}
use Rattle.command_laws.proofs.ScriptReading.{cartridge_is}
use Rattle.command_laws.proofs.ScriptSpeaking.{AllSpeak}
use Rattle.command_laws.proofs.ScriptStanding.{ItemLeaves, early_entry, item_leaves, items_have_bytes, next_do, next_is}
use Rattle.command_laws.specs.ActStops.{Behind, Between, IsLeftBy}
use Rattle.command_laws.specs.Intact.{IsIntact, StoppedScriptComesBack, AnsweredScriptComesBack, DoneScriptComesBack}
use Rattle.command_laws.specs.MountedHeld.{IsHeld}
use Rattle.command_laws.specs.ScriptStanding.{HaveBytes, plain_after}
use Rattle.command_spec.specs.Append.{Kept, entry_acts, input_writes, kept_over, room_in, taking}
use Rattle.command_spec.specs.Input.{AtEnd, AtFault, AtStop, Ending, Item}
use Rattle.command_spec.specs.Lines.{reply_behind}
use Rattle.command_spec.specs.OneLoss.{ComesBackAsOneOf, SomeComeBack}
use Rattle.command_spec.specs.Script.{Did, EndDoes, Finds, ItemsDo, Meeting, Meets, Refuses, ScriptDoes, acts_of, acts_on, cartridge_behind}
use Rattle.command_spec.specs.Script.{entries_behind, place_behind}
use Rattle.command_laws.specs.ScriptTerms.{FaultDoes}
use Rattle.command_spec.specs.Outcome.{CommandOutcome}
use Rattle.command_spec.specs.ScriptLists.{ItemsSpare, ItemsSpareTable, CameFurther, GoesNoFurther, printed_by, with_items, plain_behind}
use Rattle.qic_base.proofs.Joins.{steps_of-append, text_of-append}
use Rattle.qic_base.proofs.Steps.{Torn-all, Torn-nothing}
use Rattle.qic_base.specs.Acts.{Act, steps_of, next_steps, text_of}
use Rattle.qic_base.specs.Cartridge.{Cartridge}
use Rattle.qic_base.specs.Step.{Step, Torn}
use Rattle.command_laws.proofs.CopyStanding.{behind_last}
use Rattle.command_laws.proofs.MadeAnswered.{torn_behind}

-- ---- the first items

pub is_held : (c : Cartridge) (plain : Plain) → IsIntact c plain → IsHeld c plain
is_held c plain intact = record { cartridge = intact.kept.cartridge; stands = intact.kept.stands }

-- they spare the header, and wear no sector of the table's segment
abbrev pub Apart : Cartridge → Plain → List Item → List Did → Type 0
Apart c plain items dids = ItemsSpare c plain items dids × ItemsSpareTable items

leaves : (c : Cartridge) (plain : Plain) (item : Item) (items : List Item) (did : Did) (dids : List Did) → IsIntact c plain →
    HaveBytes (item ∷ items) →
    ItemsDo c plain.words (entries_of plain) (item ∷ items) (did ∷ dids) → Apart c plain (item ∷ items) (did ∷ dids) →
    ItemLeaves c plain item did
leaves c plain item items did dids intact has ran behind = item_leaves c plain item did (is_held c plain intact) has.0
    (line_spares c plain item.line behind.0.0) ran.0

-- behind so many items it is whole, with the list and the map that the items go by
pub record IsIntactBehind (c : Cartridge) (plain : Plain) (items : List Item) (dids : List Did) : Type 0 where
  pub intact : IsIntact (cartridge_behind c dids) (plain_behind plain items dids)
  pub entries : entries_of (plain_behind plain items dids) ≡ entries_behind (entries_of plain) dids
  pub words : (plain_behind plain items dids).words ≡ plain.words

pub all_intact : (items : List Item) (dids : List Did) (c : Cartridge) (plain : Plain) → IsIntact c plain → HaveBytes items →
    ItemsDo c plain.words (entries_of plain) items dids →
    Apart c plain items dids → IsIntactBehind c plain items dids
all_intact [] [] c plain intact has ran behind = record { intact = intact; entries = refl; words = refl }
all_intact [] (did ∷ dids) c plain intact has ran behind = absurd ran
all_intact (item ∷ items) [] c plain intact has ran behind = absurd ran
all_intact (item ∷ items) (did ∷ dids) c plain intact has ran behind =
    let one : ItemLeaves c plain item did = leaves c plain item items did dids intact has ran behind in
    let now = one.intact (spares_table item.line behind.1.0) intact in
    let d : Cartridge = changed_by (steps_of did.acts) c in
    let next : Plain = plain_after plain item did in
    let rest = all_intact items dids d next now.done has.1 (next_do d plain next items did.entries dids one.entries one.words ran.1)
    (behind.0.1, behind.1.1) in
    let same = next_is plain item did items dids one.entries in
    record {
      intact = subst (λ (p : Plain). IsIntact (cartridge_behind d dids) p) same rest.intact;
      entries = ap (λ (p : Plain). entries_of p) (sym same) ∙ rest.entries ∙ ap (λ (es : List Entry). entries_behind es dids) one.entries;
      words = ap (λ (p : Plain). p.words) (sym same) ∙ rest.words ∙ one.words;
    }

-- acts behind them leave what comes back as the plain cartridge
abbrev pub EndComes : Cartridge → Plain → List Act → Type 0
EndComes d p last = (left : Option Cartridge) → Torn (steps_of last) (Some d) left → IsSomeAnd left (ComesBackAsOneOf p p)

-- what comes back behind some of the items behind the first does so behind one item more
pub come_shifted : (all behind : ℕ → Plain) → ((m : ℕ) → behind m ≡ all (suc m)) → (m n : ℕ) (left : Option Cartridge) →
    SomeComeBack behind m n left → SomeComeBack all (suc m) (suc n) left
come_shifted all behind same m n left back = next_comes all m n left (record {
  one = back.one;
  other = back.other;
  from = back.from;
  next = back.next;
  within = back.within;
  comes = subst (λ (p : Plain). IsSomeAnd left (ComesBackAsOneOf p (all (suc back.other)))) (same back.one)
      (subst (λ (p : Plain). IsSomeAnd left (ComesBackAsOneOf (behind back.one) p)) (same back.other) back.comes);
})

-- up to more of them
pub more_come : (all : ℕ → Plain) (least most more : ℕ) (left : Option Cartridge) → most ≤ more → SomeComeBack all least most left →
    SomeComeBack all least more left
more_come all least most more left few back = record {
  one = back.one;
  other = back.other;
  from = back.from;
  next = back.next;
  within = (let within = back.within in omega arith);
  comes = back.comes;
}

-- as the first one, or as the next
pub less_or_next : (all : ℕ → Plain) (n : ℕ) (left : Option Cartridge) → IsSomeAnd left (ComesBackAsOneOf (all 0) (all 1)) →
    SomeComeBack all 0 (suc n) left
less_or_next all n left comes = record {
  one = 0;
  other = 1;
  from = omega arith;
  next = (omega arith, omega arith);
  within = omega arith;
  comes = comes;
}

-- so many items, and acts behind them, leave what comes back behind some of the items, by how much was printed
pub items_come : (n : ℕ) (items : List Item) (dids : List Did) (c : Cartridge) (plain : Plain) (last : List Act) → n ≤ length items →
    IsIntact c plain → HaveBytes items →
    ItemsDo c plain.words (entries_of plain) items dids → Apart c plain (take n items) (take n dids) →
    EndComes (cartridge_behind c (take n dids)) (with_items plain items dids n) last →
    AllLeave Tears (λ m. SomeComeBack (with_items plain items dids) m n) c (take n dids) last
items_come zero items dids c plain last some intact has ran behind ends =
    λ front rest left parts torn. one_comes (with_items plain items dids) 0 left (ends left (torn_behind front rest last c left parts torn))
items_come (suc n) [] dids c plain last some intact has ran behind ends = absurd (omega arith)
items_come (suc n) (item ∷ items) [] c plain last some intact has ran behind ends = absurd ran
items_come (suc n) (item ∷ items) (did ∷ dids) c plain last some intact has ran behind ends =
    let one : ItemLeaves c plain item did = item_leaves c plain item did (is_held c plain intact) has.0
    (line_spares c plain item.line behind.0.0) ran.0 in
    let now = one.intact (spares_table item.line behind.1.0) intact in
    let d : Cartridge = changed_by (steps_of did.acts) c in
    let next : Plain = plain_after plain item did in
    let all : ℕ → Plain = with_items plain (item ∷ items) (did ∷ dids) in
    let same : (m : ℕ) → with_items next items dids m ≡ all (suc m) = λ m. next_is plain item did (take m items)
    (take m dids) one.entries in (
      record {
        done = more_come all 1 1 (suc n) (Some d) (omega arith) (one_comes all 1 (Some d) (subst (λ
            (p : Plain). ComesBackAsOneOf p p d) (same 0)
            (intact_is_one d next next (Some d) now.done refl)));
        stopped = λ front act rest left whole torn. inl (less_or_next all n left
            (subst (λ (p : Plain). IsSomeAnd left (ComesBackAsOneOf plain p)) (same 0)
            (now.stopped left (torn_behind front (act ∷ rest) did.acts c left whole torn))));
      },
      leave_weaker Tears (λ m. SomeComeBack (with_items next items dids) m n) (λ m. SomeComeBack all (suc m) (suc n))
          (λ m left back. come_shifted all (with_items next items dids) same m n left back) d (take n dids) last
          (items_come n items dids d next last (omega arith) now.done has.1
          (next_do d plain next items did.entries dids one.entries one.words ran.1) (behind.0.1, behind.1.1)
          (subst (λ (p : Plain). EndComes (cartridge_behind d (take n dids)) p last) (sym (same n)) ends)),
    )

-- ---- the last acts

early_comes : (c : Cartridge) (plain : Plain) (name : List ℕ) (n date : ℕ) (bytes : List ℕ) (m : Meeting) (left : Option Cartridge) →
    IsIntact c plain → Meets c m → length bytes < n →
    Torn (steps_of (acts_on c plain.words (entries_of plain) name n date bytes m)) (Some c) left →
    IsSomeAnd left (ComesBackAsOneOf plain plain)
early_comes c plain name n date bytes (Refuses w) left intact meets short torn = intact_is_one c plain plain left intact torn
early_comes c plain name n date bytes (Finds table) left intact meets short torn =
    let area : table ≡ plain.table_area = standing_data c plain table intact.kept.stands meets.1 in
    let none : settling_steps table c ≡ [] =
    ap (λ (t : List (List ℕ)). settling_steps t c) area ∙ whole_needs_no_steps c plain.table_area intact.table intact.kept.unprotected in
    let kept : Kept = kept_over c plain.words (entries_of plain) table in
    let replies : Entry → List ℕ = reply_behind (length (entries_of plain)) in
    let writes : List Act = input_writes kept.words kept.entries (Some n) bytes in
    let entry : List Act = entry_acts kept name date replies (taking (room_in kept) (Some n) bytes) in
    let rear : steps_of (writes ++ entry) ≡ steps_of writes =
    steps_of-append writes entry ∙ ap (λ (ss : List Step). steps_of writes ++ ss) (early_entry kept name date n replies bytes short)
    ∙ append-nil (steps_of writes) in
    let now : Torn (steps_of writes) (Some c) left =
    subst (λ (ss : List Step). Torn ss (Some c) left) (ap (λ (ss : List Step). ss ++ steps_of (writes ++ entry)) none ∙ rear) torn in
    some_weaker left
    (λ d known f lost loses. inl (whole_comes_back d plain known.0
    (kept_whole c d plain.table_area (last_end (entries_of plain)) (last_end_least c plain intact.kept.stands) known.1 intact.table)
    intact.kept.stands.whole.table_area f lost loses))
    (free_writes_stand c plain (steps_of writes) left intact.kept.stands (behind_last kept n bytes) now)

fault_comes : (c : Cartridge) (plain : Plain) (number : ℕ) (rest : List ℕ) (acts : List Act) (left : Option Cartridge) → IsIntact c plain →
    FaultDoes c plain.words (entries_of plain) number rest acts → Torn (steps_of acts) (Some c) left →
    IsSomeAnd left (ComesBackAsOneOf plain plain)
fault_comes c plain number rest acts left intact (inl (below, (early, (m, meets, is)))) torn =
    early_comes c plain early.name early.promised early.date early.bytes m left intact meets early.short
    (subst (λ (xs : List Act). Torn (steps_of xs) (Some c) left) is torn)
fault_comes c plain number rest acts left intact (inr (none, is)) torn =
    intact_is_one c plain plain left intact (subst (λ (xs : List Act). Torn (steps_of xs) (Some c) left) is torn)

last_comes : (c : Cartridge) (plain : Plain) (rest : List ℕ) (ending : Ending) (acts : List Act) (left : Option Cartridge) →
    IsIntact c plain →
    EndDoes c plain.words (entries_of plain) rest ending acts → Torn (steps_of acts) (Some c) left →
    IsSomeAnd left (ComesBackAsOneOf plain plain)
last_comes c plain rest AtEnd acts left intact is torn = intact_is_one c plain plain left intact
    (subst (λ (xs : List Act). Torn (steps_of xs) (Some c) left) is torn)
last_comes c plain rest AtStop acts left intact is torn = intact_is_one c plain plain left intact
    (subst (λ (xs : List Act). Torn (steps_of xs) (Some c) left) is torn)
last_comes c plain rest (AtFault number place) acts left intact does torn = fault_comes c plain number rest acts left intact does torn

-- ---- a script

module _ (c : Cartridge) (plain : Plain) (input : List ℕ) (outcome : CommandOutcome) (held : IsHeld c plain)
    (live : IsTableLive c) (does : ScriptDoes c plain.words (entries_of plain) input outcome) (content : All (λ b. b < 256) input) where
  abbrev items : List Item
  items = does.items

  abbrev dids : List Did
  dids = does.dids

  abbrev standing : ℕ → Plain
  standing = with_items plain items dids

  has : HaveBytes items
  has = items_have_bytes input items does.ending does.read content

  as_long : length dids ≡ length items
  as_long = long c plain input outcome held live does content

  -- what comes behind the first items, and the last acts
  abbrev rear : ℕ → List Act
  rear n = acts_of (drop n dids) ++ does.last

  parted : (n : ℕ) → outcome.acts ≡ acts_of (take n dids) ++ rear n
  parted n = acts_are c plain input outcome held live does content n

  none_behind : (n : ℕ) → IsIntactBehind c plain (take n items) (take n dids) → EndComes (cartridge_behind c (take n dids)) (standing n) []
  none_behind n known left is = intact_is_one (cartridge_behind c (take n dids)) (standing n) (standing n) left known.intact is

  -- behind all items
  all_behind : (n : ℕ) → n ≡ length items → IsIntactBehind c plain (take n items) (take n dids) →
      EndComes (cartridge_behind c (take n dids)) (standing n) (rear n)
  all_behind n all first left torn =
      let every : take n items ≡ items = take_all n items (omega arith) in
      let did : take n dids ≡ dids = take_all n dids (let many = as_long in omega arith) in
      let none : drop n dids ≡ [] = drop_all n dids (let many = as_long in omega arith) in
      let p : Plain = plain_behind plain items dids in
      let known : IsIntactBehind c plain items dids =
      subst (λ (ds : List Did). IsIntactBehind c plain items ds) did
      (subst (λ (xs : List Item). IsIntactBehind c plain xs (take n dids)) every first) in
      let rest : List ℕ = drop (place_behind 1 0 input items does.ending does.read) input in
      let ends : EndDoes (cartridge_behind c dids) p.words (entries_of p) rest does.ending does.last =
      subst (λ (ws : List ℕ). EndDoes (cartridge_behind c dids) ws (entries_of p) rest does.ending does.last) (sym known.words)
      (subst (λ (es : List Entry). EndDoes (cartridge_behind c dids) plain.words es rest does.ending does.last)
      (sym known.entries) does.ends) in
      let now : Torn (steps_of does.last) (Some (cartridge_behind c dids)) left =
      subst (λ (ds : List Did). Torn (steps_of (acts_of ds ++ does.last)) (Some (cartridge_behind c dids)) left) none
      (subst (λ (ds : List Did). Torn (steps_of (rear n)) (Some (cartridge_behind c ds)) left) did torn) in
      let comes : IsSomeAnd left (ComesBackAsOneOf p p) =
      last_comes (cartridge_behind c dids) p rest does.ending does.last left known.intact ends now in
      let same : p ≡ standing n =
      ap (λ (xs : List Item). plain_behind plain xs dids) (sym every) ∙ ap (λ (ds : List Did). plain_behind plain (take n items) ds)
      (sym did) in
      subst (λ (q : Plain). IsSomeAnd left (ComesBackAsOneOf q q)) same comes

  -- what holds behind so many of the first items, which are whole behind them: by what these leave, and what comes back behind them
  module _ (n : ℕ) (some : n ≤ length items) (known : IsIntactBehind c plain (take n items) (take n dids))
      (Holds : ℕ → Option Cartridge → Type 0)
      (less : (fewer least : ℕ) (left : Option Cartridge) → fewer ≤ least → Holds least left → Holds fewer left)
      (last_holds : (left : Option Cartridge) → IsSomeAnd left (ComesBackAsOneOf (standing n) (standing n)) → Holds n left)
      (come : (last : List Act) → EndComes (cartridge_behind c (take n dids)) (standing n) last → AllLeave Tears Holds c (take n dids) last)
    where
      all_come : n ≡ length items → AllLeave Tears Holds c (take n dids) (rear n)
      all_come all = come (rear n) (all_behind n all known)

      first_come : AllLeave Tears Holds c (take n dids) []
      first_come = come [] (none_behind n known)

      spoken : AllSpeak (take n dids)
      spoken = first_speak n dids (speak c plain input outcome held live does content)

      -- a stop among the acts of the first items
      first_come_back : (left : Option Cartridge) → Torn (steps_of (acts_of (take n dids))) (Some c) left → Holds 0 left
      first_come_back left torn =
          let s : StopsBehind (acts_of (take n dids)) c left = stops_behind (acts_of (take n dids)) c left torn in
          let r = reached_between Tears Holds (take n dids) c [] s.front s.rest left spoken first_come
          (s.parts ∙ sym (append-nil (acts_of (take n dids)))) s.torn in
          less 0 r.count left (omega arith) r.holds

      pub stopped_comes : (left : Option Cartridge) → Torn (steps_of outcome.acts) (Some c) left →
          CameFurther c items dids does.last n left ⊎ Holds 0 left
      stopped_comes left torn =
          elim (parted_stop c plain input outcome held live does content n left torn) [
            | inl first ↦ inr (first_come_back left first)
            | inr rest ↦ elim (cases_lt n (length items)) [
              | inl more ↦ inl (record { more = more; torn = rest })
              | inr all ↦ inr (less 0 n left (omega arith) (last_holds left (all_behind n (omega arith) known left rest)))
            ]
          ]

      -- all of it done
      pub done_comes : n ≡ length items → Holds n (Some (changed_by (steps_of outcome.acts) c))
      done_comes all =
          let there : cartridge_behind c (take n dids) ≡ changed_by (steps_of (acts_of (take n dids))) c = cartridge_is c (take n dids) in
          let whole : changed_by (steps_of outcome.acts) c ≡ changed_by (steps_of (rear n)) (cartridge_behind c (take n dids)) =
          ap (λ (acts : List Act). changed_by (steps_of acts) c) (parted n) ∙ changed_by_acts (acts_of (take n dids)) (rear n) c
          ∙ ap (λ (d : Cartridge). changed_by (steps_of (rear n)) d) (sym there) in
          let left : Option Cartridge = Some (changed_by (steps_of outcome.acts) c) in
          last_holds left
          (all_behind n all known left
          (subst (λ (o : Option Cartridge). Torn (steps_of (rear n)) (Some (cartridge_behind c (take n dids))) o)
          (effects-some (steps_of (rear n)) (cartridge_behind c (take n dids)) ∙ ap (λ (d : Cartridge). Some d) (sym whole))
          (Torn-all (steps_of (rear n)) (Some (cartridge_behind c (take n dids))))))

      -- ---- by what was printed

      -- those whose reply was written whole are among those that it went no further than
      by_reached : (answered printed : ℕ) (left : Option Cartridge) → answered ≤ length items → printed_by dids answered ≤ printed →
          GoesNoFurther items dids n printed →
          Reached Holds (take n dids) printed left → Holds answered left
      by_reached answered printed left known_lines written further r =
          let few : answered ≤ n = elim further [
            | inl all ↦ omega arith
            | inr less ↦ elim (cases_lt n answered) [
              | inl more ↦ absurd (let grows = more_printed n answered dids (omega arith) in omega arith)
              | inr fewer ↦ fewer
            ]
          ] in
          let count : length (take n dids) ≡ n = length-take-le n dids (let many = as_long in omega arith) in
          let reached : answered ≤ r.count = r.answered answered (omega arith)
          (subst (λ (ds : List Did). length (text_of (acts_of ds)) ≤ printed) (sym (take-take answered n dids few)) written) in
          less answered r.count left reached r.holds

      -- no act behind the first items had a part of its text written
      too_far : (front : List Act) (next : List Act) (printed : ℕ) → front ≡ acts_of (take n dids) ++ next →
          length (text_of front) ≤ printed → printed < printed_by dids n → ⊥
      too_far front next printed is above less =
          let text : length (text_of front) ≡ printed_by dids n + length (text_of next) =
          ap (λ (xs : List Act). length (text_of xs)) is ∙ ap (λ (t : List ℕ). length t) (text_of-append (acts_of (take n dids)) next)
          ∙ length-append (text_of (acts_of (take n dids))) (text_of next) in
          absurd (omega arith)

      between_comes : (answered : ℕ) (text : List ℕ) (left : Option Cartridge) → answered ≤ length items →
          printed_by dids answered ≤ length text →
          GoesNoFurther items dids n (length text) → Between c outcome.acts text left →
          Holds answered left
      between_comes answered text left known_lines written further at =
          let there : Torn (next_steps at.rest) (Some (changed_by (steps_of at.front) c)) left =
          subst (λ (o : Option Cartridge). Torn (next_steps at.rest) o left) (effects-some (steps_of at.front) c) at.torn in
          let long_text : length text ≡ length (text_of at.front) = ap (λ (t : List ℕ). length t) at.is_text in
          by_reached answered (length text) left known_lines written further
          (subst (λ (m : ℕ). Reached Holds (take n dids) m left) (sym long_text)
          (elim further [
            | inl all ↦
                reached_between Tears Holds (take n dids) c (rear n) at.front at.rest left spoken (all_come all)
                (at.parts ∙ parted n) there
            | inr less ↦ elim (ends_in at.front at.rest (acts_of (take n dids)) (rear n) (at.parts ∙ parted n)) [
              | inl w ↦
                  reached_between Tears Holds (take n dids) c [] at.front (w.act ∷ w.behind) left spoken first_come
                  (w.whole ∙ sym (append-nil (acts_of (take n dids))))
                  (subst (λ (xs : List Act). Torn (next_steps xs) (Some (changed_by (steps_of at.front) c)) left) w.rest_is there)
              | inr p ↦ absurd (too_far at.front p.next (length text) p.front_is (omega arith) less)
            ]
          ]))

      behind_comes : (answered : ℕ) (text : List ℕ) (left : Option Cartridge) → answered ≤ length items →
          printed_by dids answered ≤ length text →
          GoesNoFurther items dids n (length text) → Behind c outcome.acts text left →
          Holds answered left
      behind_comes answered text left known_lines written further at =
          let there : left ≡ Some (changed_by (steps_of at.front ++ at.act.steps) c) = at.is
          ∙ effects-some (steps_of at.front ++ at.act.steps) c in
          let long_text : length text ≡ length (text_of at.front) + length at.some = ap (λ (t : List ℕ). length t) at.is_text
          ∙ length-append (text_of at.front) at.some in
          let act_text : length at.act.text ≡ length at.some + length at.more = ap (λ (t : List ℕ). length t) (sym at.written)
          ∙ length-append at.some at.more in
          by_reached answered (length text) left known_lines written further
          (elim further [
            | inl all ↦
                reached_behind Tears (λ ss d. Torn-nothing ss (Some d)) Holds (take n dids) c
                (rear n) at.front at.act at.rest left (length text) spoken (all_come all)
                (at.parts ∙ parted n) there (omega arith) (omega arith)
            | inr less ↦ elim (ends_in at.front (at.act ∷ at.rest) (acts_of (take n dids)) (rear n) (at.parts ∙ parted n)) [
              | inl w ↦
                  let rest_is : at.act ∷ at.rest ≡ w.act ∷ (w.behind ++ rear n) = w.rest_is in
                  let same : at.act ≡ w.act = cc in
                  reached_behind Tears (λ ss d. Torn-nothing ss (Some d)) Holds
                  (take n dids) c [] at.front at.act w.behind left (length text) spoken first_come
                  (ap (λ (a : Act). at.front ++ a ∷ w.behind) same ∙ w.whole ∙ sym (append-nil (acts_of (take n dids)))) there (omega arith)
                  (omega arith)
              | inr p ↦ absurd (too_far at.front p.next (length text) p.front_is (omega arith) less)
            ]
          ])

      pub answered_comes : (answered : ℕ) (text : List ℕ) (left : Option Cartridge) → answered ≤ length items →
          printed_by dids answered ≤ length text → GoesNoFurther items dids n (length text) → IsLeftBy c outcome.acts text left →
          Holds answered left
      answered_comes answered text left known_lines written further
          (inl at) = between_comes answered text left known_lines written further at
      answered_comes answered text left known_lines written further
          (inr at) = behind_comes answered text left known_lines written further at

-- what is whole at first
module _ (c : Cartridge) (plain : Plain) (input : List ℕ) (outcome : CommandOutcome) (intact : IsIntact c plain)
    (does : ScriptDoes c plain.words (entries_of plain) input outcome) (content : All (λ b. b < 256) input) (n : ℕ)
    (some : n ≤ length does.items) (behind : Apart c plain (take n does.items) (take n does.dids)) where
  abbrev all_items : ℕ → Plain
  all_items = with_items plain does.items does.dids

  whole_has : HaveBytes does.items
  whole_has = items_have_bytes input does.items does.ending does.read content

  whole_known : IsIntactBehind c plain (take n does.items) (take n does.dids)
  whole_known = all_intact (take n does.items) (take n does.dids) c plain intact (first_have n does.items whole_has)
      (first_do n does.items does.dids c plain.words (entries_of plain) does.did) behind

  whole_less : (fewer least : ℕ) (left : Option Cartridge) → fewer ≤ least → SomeComeBack all_items least n left →
      SomeComeBack all_items fewer n left
  whole_less fewer least left few back = less_comes all_items fewer least n left few back

  whole_come : (last : List Act) → EndComes (cartridge_behind c (take n does.dids)) (all_items n) last →
      AllLeave Tears (λ m. SomeComeBack all_items m n) c (take n does.dids) last
  whole_come last ends = items_come n does.items does.dids c plain last some intact whole_has does.did behind ends

pub stopped_script_comes_back : StoppedScriptComesBack
stopped_script_comes_back c plain input outcome left intact does content n some spares table torn =
    let behind : Apart c plain (take n does.items) (take n does.dids) = (spares, table) in
    let all : ℕ → Plain = with_items plain does.items does.dids in
    stopped_comes c plain input outcome (is_held c plain intact) intact.kept.live does content n some
    (whole_known c plain input outcome intact does content n some behind) (λ m. SomeComeBack all m n)
    (whole_less c plain input outcome intact does content n some behind) (one_comes all n)
    (whole_come c plain input outcome intact does content n some behind) left torn

pub answered_script_comes_back : AnsweredScriptComesBack
answered_script_comes_back c plain input outcome text left intact does content answered n known written some further spares table at =
    let behind : Apart c plain (take n does.items) (take n does.dids) = (spares, table) in
    let all : ℕ → Plain = with_items plain does.items does.dids in
    answered_comes c plain input outcome (is_held c plain intact) intact.kept.live does content n some
    (whole_known c plain input outcome intact does content n some behind) (λ m. SomeComeBack all m n)
    (whole_less c plain input outcome intact does content n some behind) (one_comes all n)
    (whole_come c plain input outcome intact does content n some behind) answered text left known written further at

pub done_script_comes_back : DoneScriptComesBack
done_script_comes_back c plain input outcome intact does content spares table =
    let n : ℕ = length does.items in
    let first : take n does.items ≡ does.items = take_all n does.items (omega arith) in
    let many : length does.dids ≡ n = long c plain input outcome (is_held c plain intact) intact.kept.live does content in
    let all : take n does.dids ≡ does.dids = take_all n does.dids (omega arith) in
    let behind : Apart c plain (take n does.items) (take n does.dids) =
    subst (λ (ds : List Did). Apart c plain (take n does.items) ds) (sym all)
    (subst (λ (xs : List Item). Apart c plain xs does.dids) (sym first) (spares, table)) in
    let standing_all : ℕ → Plain = with_items plain does.items does.dids in
    done_comes c plain input outcome (is_held c plain intact) intact.kept.live does content n (omega arith)
    (whole_known c plain input outcome intact does content n (omega arith) behind) (λ m. SomeComeBack standing_all m n)
    (whole_less c plain input outcome intact does content n (omega arith) behind) (one_comes standing_all n)
    (whole_come c plain input outcome intact does content n (omega arith) behind) refl
