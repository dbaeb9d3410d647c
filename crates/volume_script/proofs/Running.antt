-- A run of a script, item after item: the acts so far went, and then those of what is left went or were cut off.
use Rattle.std.proofs.Common.{◌≡◌, ◌≢◌, ℕ, ◌+◌, ◌*◌, ◌<◌, ◌≤◌, List, [], ◌∷◌, ◌++◌, length, drop, IfSome, IfNone, Result, Ok, Err}
use Rattle.std.proofs.Common.{None, codes, refl, sym, ap, ◌∙◌, subst, arith, inl, inr, append_assoc, append-nil, ◌⊎◌}
use Rattle.std.proofs.lemmas.List.{length-append, length_push}
use Rattle.std.proofs.Math.Seq.{drop-append_seam}
use Rattle.qic_base.specs.Cartridge.{Cartridge}
use Rattle.qic_base.proofs.Steps.{Done-nothing, Tells-map, tells_two}
use Rattle.qic_base.proofs.Writing.{TakesBoth}
use Rattle.qic_base.specs.Acts.{Act, Outside, Failing, TapeFails, SourceFails, SinkFails, Went, Cut, steps_of, text_of}
use Rattle.qic_base.proofs.Joins.{text_of-append, went_both, went_then_cut, cut_is_longer}
use Rattle.cartridge_spec.specs.Table.{Entry}
use Rattle.cartridge_spec.specs.Settling.{changed_by}
use Rattle.segment_io.proofs.Going.{tells_always}
use Rattle.command_spec.specs.declared.line.Line.{Line}
use Rattle.command_spec.specs.Input.{Item, IsItem, IsFault, Ending, AtEnd, AtStop, AtFault, ItemsEnd, HasItems, IsScript, most_items}
use Rattle.command_spec.specs.Input.{EndsEarly, promised, IsLineText, input_status}
use Rattle.qic_base.specs.SourceCalls.{Gave, HasEnded}
use Rattle.qic_base.proofs.Giving.{Gave-Gave, Gave-end, Gave-nothing}
use Rattle.command_laws.proofs.TextInputs.{one_reading, no_ending}
use Rattle.tape_script.proofs.Rests.{ended_rest, stop_rest, whole_told, left_behind}
use Rattle.tape_script.specs.Reading.{GaveEnd}
use Rattle.volume_store.specs.Mounting.{StoreView}
use Rattle.volume_store.proofs.Ending.{back}
use Rattle.command_spec.specs.declared.status.Status.{Status}
use Rattle.volume_script.specs.Ending.{HearsEnd, RepliesEnd}
use Rattle.volume_script.specs.Heard.{longest, HeardItem, HeardNone, HeardShort, HeardCut, Hears, InItem, NextDoes}
use Rattle.command_laws.specs.ScriptItems.{EarlyDoes}
use Rattle.command_spec.specs.Script.{end_line, Did, EndDoes, ItemsDo, ScriptDoes, acts_of, cartridge_behind, entries_behind}
use Rattle.command_spec.specs.Script.{place_behind, reply, items_taken}
use Rattle.volume_script.specs.Runs.{Leaves, Ended, CutItems, CutOff, ItemsFirst}
use Rattle.command_laws.proofs.CommandTold.{told_input}
use Rattle.command_laws.proofs.CutFronts.{CutBehind, cut_then}
use Rattle.command_laws.proofs.TextLined.{end_no_newline}
use Rattle.command_spec.specs.Machine.{acts_before}
use Rattle.command_spec.specs.Script.{ReachesItem}
use Rattle.tape_script.proofs.Reaching.{Took, none_of_line, took}
use Rattle.volume_script.specs.Answers.{Answer, AllDone, FaultIn, script_answer, script_status}
use Rattle.command_laws.specs.ScriptTerms.{FaultDoes, ItemDoes}
use Rattle.command_spec.specs.Outcome.{CommandOutcome}
use Rattle.volume_script.proofs.Appended.{flip}
use Rattle.volume_script.proofs.Content.{any_bytes, content_both, ended_content, no_content}
use Rattle.volume_script.proofs.Hearing.{early_of, front_into}
use Rattle.volume_script.proofs.Input.{no_line_fault, no_line_early, early_fault, none_content, none_rest, on_content, on_rest}
use Rattle.volume_script.proofs.Input.{stop_content}
use Rattle.command_laws.proofs.ScriptLifting.{TakesNone, replied_went, replied_cut}
use Rattle.command_laws.proofs.ScriptReading.{Reads, reads_more, read_end, place_is, split_reading, acts_of-append, entries_behind-append}
use Rattle.command_laws.proofs.ScriptReading.{cartridge_is, do_more, split_doing}
use Rattle.qic_base.specs.Source.{IsInput}
use Rattle.qic_base.specs.Disk.{AreBytes}
use Rattle.qic_base.specs.Alone.{outside}
use Rattle.qic_base.specs.Sink as sinks
use Rattle.qic_base.specs.SinkCalls as sink_calls
use Rattle.qic_base.specs.Source as sources
use Rattle.qic_base.specs.Tape as tapes
use Rattle.qic_base.specs.TapeCalls as tape_calls
use Rattle.command_spec.specs.declared.line.Line.TheVariants as line
use Rattle.command_laws.proofs.TextInputs as inputs
use Rattle.command_spec.specs.declared.status.Status.TheVariants as status
use Rattle.volume_script.specs.Runs as runs

-- the answer by what ended the input
status_is : (ending : Ending) → input_status ending ≡ script_status (script_answer ending)
status_is AtEnd = refl
status_is AtStop = refl
status_is (AtFault number place) = refl

plain_place : (texts : List ℕ) → 0 + length texts ≡ length texts
plain_place texts = omega arith

-- nothing reaches into any item, and the line `end` into a line
none_into : InItem []
none_into rest = inl (none_of_line rest)

stop_into : InItem (codes "end\n")
stop_into rest = inl (omega arith, end_no_newline)

-- what the items so far did, by the plain machine
pub record Ran (first now : StoreView) (items : List Item) (acts : List Act) (c : Cartridge) : Type 0 where
  pub dids : List Did
  pub ran_so : ItemsDo c first.words first.entries items dids
  pub are : acts ≡ acts_of dids
  pub entries : entries_behind first.entries dids ≡ now.entries

-- so many items were read, with so many bytes; the acts of all of them went
pub record SoFar {T S K : Type 0} (t : tapes.Meaning T) (s : sources.Meaning S) (k : sinks.Meaning K) (first store : StoreView)
    (start now : Outside T S K) (lines place : ℕ) : Type 0 where
  pub items : List Item
  pub texts : List ℕ
  pub reads : Reads texts items
  pub number : length items ≡ lines
  pub bytes : place ≡ length texts
  pub short : place ≤ longest * lines
  pub gave : Gave s start.source now.source texts
  pub content : IfNone (s.left start.source) (AreBytes texts)
  pub acts : List Act
  pub went : Went t s k start now acts
  pub told : tape_calls.Tells t start.tape (Ran first store items acts)
  pub words : store.words ≡ first.words

module _ {T S K : Type 0} {t : tapes.Meaning T} {s : sources.Meaning S} {k : sinks.Meaning K} where
  pub begin : (first : StoreView) (start : Outside T S K) → TakesNone k → SoFar t s k first first start start 0 0
  begin first start none = record {
    items = [];
    texts = [];
    reads = refl;
    number = refl;
    bytes = refl;
    short = omega arith;
    gave = Gave-nothing s start.source start.source refl;
    content = no_content (s.left start.source);
    acts = [];
    went = record {
      did = Done-nothing t start.tape;
      wrote = record { took = none start.sink; later = omega arith };
      source_later =
          omega arith;
    };
    told = tells_always t start.tape (Ran first first [] []) (λ c. record { dids = []; ran_so = tt; are = refl; entries = refl });
    words = refl;
  }

  module _ (both : TakesBoth k) (first store after : StoreView) (start now new : Outside T S K) (lines place : ℕ)
      (far : SoFar t s k first store start now lines place) where
    -- what is told of the cartridge behind the items so far
    at_start : (P : Cartridge → Type 0) → tape_calls.Tells t now.tape P →
        tape_calls.Tells t start.tape (λ c. Ran first store far.items far.acts c × P (changed_by (steps_of far.acts) c))
    at_start P told =
        tells_two t start.tape (Ran first store far.items far.acts) (λ c. P (changed_by (steps_of far.acts) c))
        (λ c. Ran first store far.items far.acts c × P (changed_by (steps_of far.acts) c))
        (λ c ran is. (ran, is)) far.told (back t start.tape now.tape (steps_of far.acts) P far.went.did.told told)

    -- the cartridge and the volumes behind them
    behind_is : (c : Cartridge) (ran : Ran first store far.items far.acts c) →
        changed_by (steps_of far.acts) c ≡ cartridge_behind c ran.dids
    behind_is c ran = ap (λ (acts : List Act). changed_by (steps_of acts) c) ran.are ∙ sym (cartridge_is c ran.dids)

    -- ---- one item more

    pub next : (n : ℕ) → after.words ≡ store.words → n ≤ longest → HeardItem t s k store after now new n →
        SoFar t s k first after start new (lines + 1) (place + n)
    next n words few heard = record {
      items = far.items ++ heard.item ∷ [];
      texts = far.texts ++ heard.text;
      reads = reads_more far.texts heard.text far.items heard.item far.reads heard.is;
      number = length_push far.items heard.item ∙ ap (λ (m : ℕ). m + 1) far.number;
      bytes = (let e = far.bytes in let l = length-append far.texts heard.text in let h = heard.long in omega arith);
      short = (let e = far.short in omega arith);
      gave = Gave-Gave s start.source now.source new.source far.texts heard.text far.gave heard.gave;
      content = content_both (s.left start.source) (s.left now.source) far.texts heard.text far.gave far.content heard.content;
      acts = far.acts ++ heard.acts;
      went = went_both t s k both start now new far.acts heard.acts far.went heard.went;
      told = Tells-map t start.tape _ (Ran first after (far.items ++ heard.item ∷ []) (far.acts ++ heard.acts))
          (λ c both_told. more c both_told.0 both_told.1)
          (at_start (λ c. ItemDoes c store.words store.entries heard.item (record { acts = heard.acts; entries = after.entries }))
          heard.told);
      words = words ∙ far.words;
    } where
      more : (c : Cartridge) → Ran first store far.items far.acts c →
          ItemDoes (changed_by (steps_of far.acts) c) store.words store.entries heard.item
          (record { acts = heard.acts; entries = after.entries }) →
          Ran first after (far.items ++ heard.item ∷ []) (far.acts ++ heard.acts) c
      more c ran does =
          let did : Did = record { acts = heard.acts; entries = after.entries } in
          let P : Cartridge → Type 0 = λ d. ItemDoes d store.words store.entries heard.item did in
          let Q : List ℕ → Type 0 = λ ws. ItemDoes (cartridge_behind c ran.dids) ws store.entries heard.item did in
          let R : List Entry → Type 0 = λ es. ItemDoes (cartridge_behind c ran.dids) first.words es heard.item did in
          record {
            dids = ran.dids ++ did ∷ [];
            ran_so = do_more c first.words first.entries far.items heard.item ran.dids did ran.ran_so
                (subst R (sym ran.entries) (subst Q far.words (subst P (behind_is c ran) does)));
            are = ap (λ (acts : List Act). acts ++ heard.acts) ran.are ∙ ap (λ (acts : List Act). acts_of ran.dids ++ acts)
                (sym (append-nil heard.acts)) ∙ sym (acts_of-append ran.dids (did ∷ []));
            entries = entries_behind-append first.entries ran.dids (did ∷ []);
          }

    -- ---- an end

    -- how the input ends behind the items is how it ends
    ended_so : (rest : List ℕ) (ending : Ending) (answer : Answer) (last : List Act) → lines ≤ most_items → Went t s k now new last →
        IfSome (s.left now.source) (λ bytes. bytes ≡ rest) →
        IfNone (s.left now.source) (AreBytes rest) → ItemsEnd IsItem (lines + 1) place rest ending → script_answer ending ≡ answer →
        tape_calls.Tells t now.tape (λ c. EndDoes c store.words store.entries rest ending last) →
        (answer ≡ AllDone → last ≡ reply end_line ∷ []) →
        ((read : IsScript (far.texts ++ rest) far.items ending) →
        Leaves s start.source new.source (items_taken (far.texts ++ rest) far.items ending read) answer) →
        Ended t s k first start new answer
    ended_so rest ending answer last few went told content ends answered does only left =
        let input : List ℕ = far.texts ++ rest in
        let read : IsScript input far.items ending =
        read_end far.items far.texts rest 1 0 (lines + 1) place ending far.reads (let n = far.number in omega arith)
        (let n = far.number in omega arith) (let b = far.bytes in omega arith) ends in
        let behind : drop (place_behind 1 0 input far.items ending read) input ≡ rest =
        ap (λ (n : ℕ). drop n input) (place_is far.items far.texts rest 1 0 input ending read refl far.reads ∙ plain_place far.texts)
        ∙ drop-append_seam far.texts rest in
        record {
          input = input;
          is_told = whole_told (s.left start.source) (s.left now.source) far.texts rest far.gave told;
          content = content_both (s.left start.source) (s.left now.source) far.texts rest far.gave far.content content;
          outcome = record { acts = far.acts ++ last; taken = items_taken input far.items ending read; status = input_status ending };
          told = Tells-map t start.tape _
              (λ c. ScriptDoes c first.words first.entries input
              (record { acts = far.acts ++ last; taken = items_taken input far.items ending read; status = input_status ending }))
              (λ c both_told.
              let ran = both_told.0 in
              let P : Cartridge → Type 0 = λ d. EndDoes d store.words store.entries rest ending last in
              let Q : List ℕ → Type 0 = λ ws. EndDoes (cartridge_behind c ran.dids) ws store.entries rest ending last in
              let R : List Entry → Type 0 = λ es. EndDoes (cartridge_behind c ran.dids) first.words es rest ending last in
              let V : List ℕ → Type 0 = λ bs. EndDoes (cartridge_behind c ran.dids) first.words
              (entries_behind first.entries ran.dids) bs ending last in
              record {
                items = far.items;
                ending = ending;
                read = read;
                dids = ran.dids;
                did = ran.ran_so;
                last = last;
                ends = subst V (sym behind) (subst R (sym ran.entries) (subst Q far.words (subst P (behind_is c ran) both_told.1)));
                is = ap (λ (acts : List Act). record {
                  acts = acts ++ last;
                  taken = items_taken input far.items ending read;
                  status = input_status ending;
                }) ran.are;
              }) (at_start (λ c. EndDoes c store.words store.entries rest ending last) does);
          answered = status_is ending ∙ ap script_status answered;
          went = went_both t s k both start now new far.acts last far.went went;
          left = left read;
          items = far.items;
          ending = ending;
          read = read;
          by_ending = sym answered;
          replied = λ done. (
            text_of far.acts,
            text_of-append far.acts last ∙ ap (λ (acts : List Act). text_of far.acts ++ text_of acts) (only done)
                ∙ ap (λ (text : List ℕ). text_of far.acts ++ text) (append-nil end_line),
          );
        }

    -- a fault of the outside cut off what comes next
    pub cut_so : (failing : Failing) → lines ≤ most_items → HeardCut t s k store now new (lines + 1) place failing →
        CutOff t s k first start new failing
    cut_so failing few heard =
        let input : List ℕ = far.texts ++ heard.rest in
        let is_told : IsInput (s.left start.source) input =
        whole_told (s.left start.source) (s.left now.source) far.texts heard.rest far.gave heard.is_told in
        let Cuts : List Item → Cartridge → Type 0 = λ items. CutItems t s k first start new failing input items in
        let Told : List Item → Type 0 = λ items. tape_calls.Tells t start.tape (Cuts items) in
        let told : Told far.items =
        Tells-map t start.tape _ (Cuts far.items) (λ c both_told outcome does. by_outcome c both_told.0 both_told.1 outcome does)
        (at_start (λ c. (acts : List Act) → NextDoes c store.words store.entries (lines + 1) place heard.rest acts →
        Cut t s k now new acts failing) heard.told) in
        let none : Told [] =
        Tells-map t start.tape (Cuts far.items) (Cuts [])
        (λ c each outcome does.
        let off = each outcome does in
        (off.0, ([], (acts_before t s k start new outcome.acts failing off.0, (tt, refl))))) told in
        let far_off : Took IsItem Told ReachesItem input (s.left start.source) (s.left new.source) =
        took IsItem Told ReachesItem (s.left start.source) (s.left now.source) (s.left new.source) far.texts heard.given far.items input
        is_told far.gave heard.gave read_all told none heard.into (λ back. inl (none_of_line back)) in
        record {
          input = input;
          is_told = is_told;
          content = content_both (s.left start.source) (s.left now.source) far.texts heard.rest far.gave far.content heard.content;
          taken = far_off.taken;
          left = far_off.left;
          reaches = far_off.reaches;
          acts = far.acts ++ heard.acts;
          cut = went_then_cut t s k both start now new far.acts heard.acts failing far.went heard.cut;
        }
      where
        -- all items so far
        read_all : HasItems IsItem 1 0 far.texts far.items AtEnd
        read_all =
            subst (λ (bs : List ℕ). HasItems IsItem 1 0 bs far.items AtEnd) (append-nil far.texts)
            (read_end far.items far.texts [] 1 0 (lines + 1) place AtEnd far.reads (let n = far.number in omega arith)
            (let n = far.number in omega arith) (let b = far.bytes in omega arith) refl)

        -- these acts were cut off behind those of the items so far
        OffSo : Cartridge → List Act → Type 0
        OffSo c acts = CutBehind t s k start new acts failing (ItemsFirst first c far.items)

        -- the acts of the machine's outcome begin with those so far and the next ones
        later : (c : Cartridge) (ran : Ran first store far.items far.acts c) (rears : List Did) (last next_acts others : List Act) →
            acts_of rears ++ last ≡ next_acts ++ others →
            Cut t s k now new next_acts failing → OffSo c (acts_of (ran.dids ++ rears) ++ last)
        later c ran rears last next_acts others is cut =
            let parts : far.acts ++ (next_acts ++ others) ≡ acts_of (ran.dids ++ rears) ++ last =
            ap (λ (acts : List Act). far.acts ++ acts) (sym is) ∙ sym (append_assoc far.acts (acts_of rears) last)
            ∙ ap (λ (acts : List Act). (acts ++ acts_of rears) ++ last) ran.are ∙ ap (λ (acts : List Act). acts ++ last)
            (sym (acts_of-append ran.dids rears)) in
            subst (OffSo c) parts
            (cut_then t s k both start now new far.acts (next_acts ++ others) failing (λ done. Unit {0}) (ItemsFirst first c far.items)
            far.went (cut_is_longer t s k now new next_acts others failing cut, tt)
            (λ done any. (ran.dids, (done, (ran.ran_so, ap (λ (acts : List Act). acts ++ done) ran.are)))))

        -- the next acts, by the items that are left
        by_more : (c : Cartridge) (ran : Ran first store far.items far.acts c) →
            ((acts : List Act) → NextDoes (changed_by (steps_of far.acts) c) store.words store.entries (lines + 1) place heard.rest acts →
            Cut t s k now new acts failing) →
            (more : List Item) (rears : List Did) (ending : Ending) (last : List Act) →
            HasItems IsItem (lines + 1) place heard.rest more ending →
            ItemsDo (cartridge_behind c ran.dids) first.words (entries_behind first.entries ran.dids) more rears →
            (more ≡ [] → EndDoes (cartridge_behind c (ran.dids ++ rears)) first.words
            (entries_behind first.entries (ran.dids ++ rears)) heard.rest ending last) →
            OffSo c (acts_of (ran.dids ++ rears) ++ last)
        by_more c ran each [] [] ending last read ran_so ends =
            let here = ends refl in
            let P : Cartridge → Type 0 = λ d. EndDoes d first.words (entries_behind first.entries ran.dids) heard.rest ending last in
            let Q : List Entry → Type 0 = λ es. EndDoes (changed_by (steps_of far.acts) c) first.words es heard.rest ending last in
            let R : List ℕ → Type 0 = λ ws. EndDoes (changed_by (steps_of far.acts) c) ws store.entries heard.rest ending last in
            let V : List Did → Type 0 = λ ds. EndDoes (cartridge_behind c ds) first.words
            (entries_behind first.entries ds) heard.rest ending last in
            let does = subst R (sym far.words) (subst Q ran.entries (subst P (sym (behind_is c ran)) (subst V (append-nil ran.dids) here)))
            in
            later c ran [] last last [] (sym (append-nil last)) (each last (inr (ending, read, does)))
        by_more c ran each [] (r ∷ rears) ending last read ran_so ends = absurd ran_so
        by_more c ran each (m ∷ more) [] ending last read ran_so ends = absurd ran_so
        by_more c ran each (m ∷ more) (r ∷ rears) ending last (within, (text, (behind, (parts, is, read)))) (does, ran_so) ends =
            let P : Cartridge → Type 0 = λ d. ItemDoes d first.words (entries_behind first.entries ran.dids) m r in
            let Q : List Entry → Type 0 = λ es. ItemDoes (changed_by (steps_of far.acts) c) first.words es m r in
            let R : List ℕ → Type 0 = λ ws. ItemDoes (changed_by (steps_of far.acts) c) ws store.entries m r in
            let now_does = subst R (sym far.words) (subst Q ran.entries (subst P (sym (behind_is c ran)) does)) in
            later c ran (r ∷ rears) last r.acts (acts_of rears ++ last) (append_assoc r.acts (acts_of rears) last)
            (each r.acts (inl (within, (m, (text, (behind, (parts, is, (r, refl, now_does))))))))

        by_outcome : (c : Cartridge) → Ran first store far.items far.acts c →
            ((acts : List Act) → NextDoes (changed_by (steps_of far.acts) c) store.words store.entries (lines + 1) place heard.rest acts →
            Cut t s k now new acts failing) →
            (outcome : CommandOutcome) → ScriptDoes c first.words first.entries (far.texts ++ heard.rest) outcome →
            OffSo c outcome.acts
        by_outcome c ran each outcome does =
            let input : List ℕ = far.texts ++ heard.rest in
            let reading = split_reading far.items far.texts heard.rest 1 0 (lines + 1) place input does.items does.ending far.reads refl
            (let n = far.number in omega arith) (let n = far.number in omega arith) (let b = far.bytes in omega arith) does.read in
            let P : List Item → Type 0 = λ is. ItemsDo c first.words first.entries is does.dids in
            let doing = split_doing far.items reading.more c first.words first.entries ran.dids does.dids ran.ran_so
            (subst P reading.whole does.did) in
            let Q : List Did → Type 0 = λ ds. EndDoes (cartridge_behind c ds) first.words (entries_behind first.entries ds)
            (drop (place_behind 1 0 input does.items does.ending does.read) input) does.ending does.last in
            let R : List ℕ → Type 0 = λ bs. EndDoes (cartridge_behind c (ran.dids ++ doing.rears)) first.words
            (entries_behind first.entries (ran.dids ++ doing.rears)) bs does.ending does.last in
            let V : List Item → Type 0 = λ is. Reads far.texts is in
            subst (λ (o : CommandOutcome). OffSo c o.acts) (sym does.is)
            (subst (λ (ds : List Did). OffSo c (acts_of ds ++ does.last)) (sym doing.whole)
            (by_more c ran each reading.more doing.rears does.ending does.last reading.read doing.ran_so
            (λ none.
            let all : does.items ≡ far.items = reading.whole ∙ ap (λ (xs : List Item). far.items ++ xs) none ∙ append-nil far.items in
            let at : drop (place_behind 1 0 input does.items does.ending does.read) input ≡ heard.rest =
            ap (λ (n : ℕ). drop n input)
            (place_is does.items far.texts heard.rest 1 0 input does.ending does.read refl (subst V (sym all) far.reads)
            ∙ plain_place far.texts) ∙ drop-append_seam far.texts heard.rest in
            subst R at (subst Q doing.whole does.ends))))

  -- ---- the input is over

  module _ (both : TakesBoth k) (none : TakesNone k) (first store : StoreView) (start now : Outside T S K) (lines place : ℕ)
      (far : SoFar t s k first store start now lines place) (few : lines ≤ most_items) where
    -- the last acts are these alone
    end_alone : (c : Cartridge) (rest : List ℕ) (ending : Ending) (acts last : List Act) → ItemsEnd IsItem (lines + 1) place rest ending →
        (EndDoes c store.words store.entries rest ending acts → last ≡ acts) → NextDoes c store.words store.entries
        (lines + 1) place rest acts → last ≡ acts
    end_alone c rest ending acts last ends only (inl (below, (item, (text, (behind, (parts, is, did)))))) =
        absurd (no_ending IsItem inputs.items (lines + 1) place rest text behind item ending ends below parts is)
    end_alone c rest ending acts last ends only (inr (other, again, does)) =
        let same : other ≡ ending = (one_reading IsItem inputs.items (lines + 1) place rest [] [] other ending again ends).1 in
        only (subst (λ (e : Ending). EndDoes c store.words store.entries rest e acts) same does)

    module _ (tape : T) (source : S) (sink y : K) (rest : List ℕ) (ending : Ending)
        (told : IfSome (s.left now.source) (λ bytes. bytes ≡ rest)) (content : IfNone (s.left now.source) (AreBytes rest))
        (ends : ItemsEnd IsItem (lines + 1) place rest ending)
        (went : Went t s k now (outside tape source sink) [])
        (does : (c : Cartridge) → EndDoes c store.words store.entries rest ending (reply end_line ∷ []))
        (only : (c : Cartridge) (acts : List Act) → EndDoes c store.words store.entries rest ending acts →
        (reply end_line ∷ []) ≡ acts) (given : List ℕ) (gave : Gave s now.source source given) (into : InItem given) where
      replied_end : sinks.Wrote k sink y end_line → script_answer ending ≡ AllDone →
          ((read : IsScript (far.texts ++ rest) far.items ending) →
          Leaves s start.source source (items_taken (far.texts ++ rest) far.items ending read) AllDone) →
          Ended t s k first start (outside tape source y) AllDone
      replied_end wrote answered left =
          ended_so both first store store start now (outside tape source y) lines place far rest ending AllDone (reply end_line ∷ []) few
          (replied_went t s k both now tape source sink y [] end_line went wrote) told content ends answered
          (tells_always t now.tape (λ c. EndDoes c store.words store.entries rest ending (reply end_line ∷ [])) does) (λ done. refl) left

      unreplied_end : sink_calls.BrokeOff k sink y end_line → CutOff t s k first start (outside tape source y) SinkFails
      unreplied_end broke =
          let cut = replied_cut t s k both none now tape source sink y [] end_line went broke in
          cut_so both first store store start now (outside tape source y) lines place far SinkFails few (record {
            rest = rest;
            is_told = told;
            content = content;
            told = tells_always t now.tape (λ c. (acts : List Act) → NextDoes c store.words store.entries (lines + 1) place rest acts →
                Cut t s k now (outside tape source y) acts SinkFails)
                (λ c acts next. subst (λ (zs : List Act). Cut t s k now (outside tape source y) zs SinkFails)
                (end_alone c rest ending acts (reply end_line ∷ []) ends (only c acts) next) cut);
            given = given;
            gave = gave;
            into = into;
            acts = reply end_line ∷ [];
            cut = cut;
          })

    abbrev Rests : T → S → K → Type 0
    Rests tape source sink = Went t s k now (outside tape source sink) []

    at_end : (tape : T) (source : S) (sink y : K) → Rests tape source sink → GaveEnd s now.source source →
        (r : Result (Unit {0}) Status) → RepliesEnd k sink y r →
        runs.ScriptEnds t s k first start (outside tape source y) r
    at_end tape source sink y went (inl end) (Ok done) wrote =
        let behind = ended_rest (s.left now.source) end.0 in
        replied_end tape source sink y behind.rest AtEnd behind.told (ended_content (s.left now.source) behind.rest behind.has) behind.has
        went (λ c. refl) (λ c acts is. sym is) [] end.1 none_into wrote refl
        (λ read. left_behind (s.left start.source) (s.left source) far.texts (length (far.texts ++ behind.rest))
        (Gave-end s start.source now.source source far.texts far.gave end.1)
        (ap (λ rest. length (far.texts ++ rest)) behind.has ∙ ap length (append-nil far.texts)))
    at_end tape source sink y went (inl end) (Err status.SinkFault) broke =
        let behind = ended_rest (s.left now.source) end.0 in
        unreplied_end tape source sink y behind.rest AtEnd behind.told (ended_content (s.left now.source) behind.rest behind.has) behind.has
        went (λ c. refl) (λ c acts is. sym is) [] end.1 none_into broke
    at_end tape source sink y went (inr stop) (Ok done) wrote =
        let behind = stop_rest (s.left now.source) (s.left source) stop in
        replied_end tape source sink y behind.rest AtStop behind.told (stop_content (s.left now.source) (s.left source) stop) behind.has
        went (λ c. refl) (λ c acts is. sym is) (codes "end\n") stop stop_into wrote refl
        (λ read. left_behind (s.left start.source) (s.left source) (far.texts ++ codes "end\n")
        (items_taken (far.texts ++ behind.rest) far.items AtStop read)
        (Gave-Gave s start.source now.source source far.texts (codes "end\n") far.gave stop)
        (ap (λ (n : ℕ). n + length (codes "end\n"))
        (place_is far.items far.texts behind.rest 1 0 (far.texts ++ behind.rest) AtStop read refl far.reads ∙ plain_place far.texts)
        ∙ sym (length-append far.texts (codes "end\n"))))
    at_end tape source sink y went (inr stop) (Err status.SinkFault) broke =
        let behind = stop_rest (s.left now.source) (s.left source) stop in
        unreplied_end tape source sink y behind.rest AtStop behind.told (stop_content (s.left now.source) (s.left source) stop) behind.has
        went (λ c. refl) (λ c acts is. sym is) (codes "end\n") stop stop_into broke
    at_end tape source sink y went (inl end) (Err other) never = absurd never
    at_end tape source sink y went (inr stop) (Err other) never = absurd never

    -- ---- the input is at fault

    -- no more than a line, or all, where an append's bytes end early
    abbrev FarEnough : (source : S) (bytes : List ℕ) (at : ℕ) → Type 0
    FarEnough source bytes at =
        (length bytes ≤ 128) ⊎ (HasEnded s source × IfSome (s.left start.source) (λ all. EndsEarly (drop at all)))

    -- what is left behind a fault
    behind_fault : (source : S) (bytes : List ℕ) (number at : ℕ) → at ≡ place → Gave s now.source source bytes →
        FarEnough source bytes at →
        Leaves s start.source source 0 (FaultIn number at)
    behind_fault source bytes number at equal gave far_enough = (
      length bytes,
      left_behind (s.left start.source) (s.left source) (far.texts ++ bytes) (at + length bytes)
          (Gave-Gave s start.source now.source source far.texts bytes far.gave gave)
          (let b = far.bytes in let l = length-append far.texts bytes in omega arith),
      far_enough,
    )

    faulty : (new : Outside T S K) (rest bytes : List ℕ) (number at : ℕ) (last : List Act) → number ≡ lines + 1 → at ≡ place →
        IfSome (s.left now.source) (λ bytes. bytes ≡ rest) →
        IfNone (s.left now.source) (AreBytes rest) → IsFault IsItem (lines + 1) rest → Went t s k now new last →
        Gave s now.source new.source bytes →
        FarEnough new.source bytes at →
        tape_calls.Tells t now.tape (λ c. FaultDoes c store.words store.entries number rest last) →
        Ended t s k first start new (FaultIn number at)
    faulty new rest bytes number at last same equal told content is went gave far_enough does =
        ended_so both first store store start now new lines place far rest (AtFault number at)
        (FaultIn number at) last few went told content (is, same, equal) refl does (λ done. cc)
        (λ read. behind_fault new.source bytes number at equal gave far_enough)

    at_none : (new : Outside T S K) (number at : ℕ) → number ≡ lines + 1 → at ≡ place → HeardNone t s k now new →
        Ended t s k first start new (FaultIn number at)
    at_none new number at same equal heard =
        let behind = none_rest (s.left now.source) (s.left new.source) heard.n heard.gave.0 heard.some heard.gave.1 heard.gave.2
        heard.no_line in
        faulty new behind.rest heard.gave.0 number at [] same equal behind.told
        (none_content (s.left now.source) (s.left new.source) heard.n heard.gave.0 heard.some heard.gave.1 heard.gave.2 heard.no_line)
        (no_line_fault (lines + 1) behind.rest behind.has) heard.went heard.gave.2
        (inl (let l = heard.gave.1 in let f = heard.few in omega arith))
        (tells_always t now.tape (λ c. FaultDoes c store.words store.entries number behind.rest [])
        (λ c. inr ((λ within. no_line_early behind.rest behind.has), refl)))

    at_short : (new : Outside T S K) (number at : ℕ) → lines + 1 ≤ most_items → number ≡ lines + 1 → at ≡ place →
        HeardShort t s k store now new → Ended t s k first start new (FaultIn number at)
    at_short new number at within same equal heard =
        let behind = ended_rest (s.left new.source) heard.ended in
        let rest : List ℕ = heard.text ++ heard.bytes in
        let early : EndsEarly rest = early_of heard.text heard.bytes heard.asked heard.is heard.short in
        let whole = whole_told (s.left now.source) (s.left new.source) rest behind.rest heard.gave behind.told in
        let told : IfSome (s.left now.source) (λ bytes. bytes ≡ rest) =
        flip (s.left now.source) rest (subst (λ (l : List ℕ). IsInput (s.left now.source) l)
        (ap (λ (l : List ℕ). rest ++ l) behind.has ∙ append-nil rest) whole) in
        faulty new rest rest number at heard.acts same equal told heard.content (early_fault (lines + 1) rest early) heard.went heard.gave
        (inr (
          heard.ended,
          told_input (s.left start.source) (far.texts ++ rest) (λ all. EndsEarly (drop at all))
              (whole_told (s.left start.source) (s.left now.source) far.texts rest far.gave told)
              (subst EndsEarly
              (sym (ap (λ (n : ℕ). drop n (far.texts ++ rest)) (equal ∙ far.bytes) ∙ drop-append_seam far.texts rest)) early),
        ))
        (Tells-map t now.tape (λ c. EarlyDoes c store.words store.entries heard.asked heard.bytes heard.acts)
        (λ c. FaultDoes c store.words store.entries number rest heard.acts)
        (λ c does. early_does c heard.text heard.bytes heard.asked heard.acts heard.is heard.short number (omega arith) does) heard.told)
      where
        early_does : (c : Cartridge) (text bytes : List ℕ) (asked : Line) (acts : List Act) (is : IsLineText text asked) →
            (short : length bytes < promised asked) → (number : ℕ) → number ≤ most_items →
            EarlyDoes c store.words store.entries asked bytes acts → FaultDoes c store.words store.entries number (text ++ bytes) acts
        early_does c text bytes (line.Append name n date) acts is short number below (meeting, meets, are) =
            inl (below, (early_of text bytes (line.Append name n date) is short, (meeting, meets, are)))
        early_does c text bytes line.List acts is short number below does = absurd does
        early_does c text bytes (line.Restore n) acts is short number below does = absurd does
        early_does c text bytes line.Scrub acts is short number below does = absurd does
        early_does c text bytes (line.Lose segment sector) acts is short number below does = absurd does
        early_does c text bytes line.End acts is short number below does = absurd does

    -- ---- how a line ended it

    pub line_failed : (new : Outside T S K) (after : StoreView) → lines < most_items → (why : Status) →
        Hears t s k store after now new (lines + 1) place (Err why) → runs.ScriptEnds t s k first start new (Err why)
    line_failed new after below (status.ScriptFault number at) (same, equal, inl heard) = at_none new number at same equal heard
    line_failed new after below (status.ScriptFault number at) (same, equal, inr heard) =
        at_short new number at (omega arith) same equal heard
    line_failed new after below status.TableMismatch heard = record {
      acts = far.acts ++ heard.acts;
      went = went_both t s k both start now new far.acts heard.acts far.went heard.went;
      told = Tells-map t start.tape _ (λ c. ⊥) (λ c both_told. both_told.1)
          (at_start both first store after start now new lines place far (λ c. ⊥) heard.told);
      taken = length (far.texts ++ heard.bytes);
      left = left_behind (s.left start.source) (s.left new.source) (far.texts ++ heard.bytes) (length (far.texts ++ heard.bytes))
          (Gave-Gave s start.source now.source new.source far.texts heard.bytes far.gave heard.gave) refl;
    }
    line_failed new after below status.SourceFault heard = cut_so both first store after start now new lines place far SourceFails few heard
    line_failed new after below status.SinkFault heard = cut_so both first store after start now new lines place far SinkFails few heard
    line_failed new after below status.TapeFault heard = cut_so both first store after start now new lines place far TapeFails few heard
    line_failed new after below other never = absurd never

    -- the input was over at a line
    pub over : (mid : Outside T S K) (after : StoreView) (y : K) (r : Result (Unit {0}) Status) →
        Hears t s k store after now mid (lines + 1) place (Ok None) → RepliesEnd k mid.sink y r →
        runs.ScriptEnds t s k first start (outside mid.tape mid.source y) r
    over mid after y r (went, same, end) replies = at_end mid.tape mid.source mid.sink y went end r replies

    -- ---- the line behind the last that may be an item

    pub end_over : (source : S) (y : K) (r : Result (Unit {0}) Status) → s.faults source ≡ s.faults now.source →
        GaveEnd s now.source source → RepliesEnd k now.sink y r →
        runs.ScriptEnds t s k first start (outside now.tape source y) r
    end_over source y r later end replies =
        at_end now.tape source now.sink y
        (record { did = Done-nothing t now.tape; wrote = record { took = none now.sink; later = omega arith }; source_later = later })
        end r replies

    pub end_failed : (source : S) (why : Status) → lines ≡ most_items → s.faults now.source ≤ s.faults source →
        (why ≢ status.SourceFault → s.faults source ≡ s.faults now.source) → HearsEnd s now.source source (most_items + 1) place (Err why) →
        runs.ScriptEnds t s k first start (outside now.tape source now.sink) (Err why)
    end_failed source (status.ScriptFault number at) all later stood (same, equal, on) =
        let behind = on_rest (lines + 1) (s.left now.source) (s.left source) on.n on.gave.0
        (omega arith) on.some on.gave.1 on.gave.2 on.no_stop in
        faulty (outside now.tape source now.sink) behind.rest on.gave.0 number at [] (let e = same in omega arith) equal behind.told
        (on_content (lines + 1) (s.left now.source) (s.left source) on.n on.gave.0 (omega arith) on.some on.gave.1 on.gave.2 on.no_stop)
        behind.has
        (record {
          did = Done-nothing t now.tape;
          wrote = record { took = none now.sink; later = omega arith };
          source_later =
              stood (λ e. cc);
        }) on.gave.2
        (inl (let l = on.gave.1 in let f = on.few in omega arith))
        (tells_always t now.tape (λ c. FaultDoes c store.words store.entries number behind.rest [])
        (λ c. inr ((λ within. absurd (omega arith)), refl)))
    end_failed source status.SourceFault all later stood (rose, front) =
        let rest = any_bytes (s.left now.source) in
        let cut : Cut t s k now (outside now.tape source now.sink) [] SourceFails = record {
          front = [];
          rest = [];
          parts = refl;
          did = Done-nothing t now.tape;
          wrote = record { took = none now.sink; later = omega arith };
          cause = rose;
          source_later = later;
        } in
        cut_so both first store store start now (outside now.tape source now.sink) lines place far SourceFails few (record {
          rest = rest.rest;
          is_told = rest.told;
          content = rest.content;
          told = tells_always t now.tape (λ c. (acts : List Act) → NextDoes c store.words store.entries (lines + 1) place rest.rest acts →
              Cut t s k now (outside now.tape source now.sink) acts SourceFails)
              (λ c acts next. cut_is_longer t s k now (outside now.tape source now.sink) [] acts SourceFails cut);
          given = front.0;
          gave = front.3;
          into = front_into front.0 front.1 front.2;
          acts = [];
          cut = cut;
        })
    end_failed source other all later stood never = absurd never
