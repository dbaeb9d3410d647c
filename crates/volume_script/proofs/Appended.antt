-- An append of a script, by what the store's append answered.
use Rattle.std.proofs.Common.{◌≡◌, ◌≢◌, ℕ, ◌+◌, ◌≤◌, true, false, List, [], ◌∷◌, ◌++◌, length, take, drop, Option, Some, None, Result, Ok}
use Rattle.std.proofs.Common.{Bool, cond, nat_lt, Err, IfSome, IfNone, refl, sym, ap, ◌∙◌, subst, arith, inl, inr, append-nil}
use Rattle.std.specs.Option.{option_map}
use Rattle.std.specs.Prelude.{◌↔◌}
use Rattle.std.proofs.lemmas.List.{length-append, length-take-le}
use Rattle.qic_base.specs.Cartridge.{Cartridge}
use Rattle.qic_base.specs.declared.sink.SinkFailed.{SinkFailed}
use Rattle.qic_base.specs.Step.{Step}
use Rattle.qic_base.proofs.Steps.{Tells-map, tells_two}
use Rattle.qic_base.proofs.Writing.{TakesBoth}
use Rattle.qic_base.specs.Acts.{Act, text_of, Failing, TapeFails, SourceFails, SinkFails, Went, Cut}
use Rattle.qic_base.specs.Alone.{no_sink, reading, outside}
use Rattle.cartridge_spec.specs.Appending.{table_writes}
use Rattle.cartridge_laws.specs.Slots.{slot_sector}
use Rattle.cartridge_spec.specs.Table.{table_with, Entry}
use Rattle.qic_base.proofs.Joins.{cut_is_longer, broke_behind}
use Rattle.cartridge_spec.specs.TableSegment.{table_cells, TableIs}
use Rattle.cartridge_spec.specs.Says.{ByCode, LostSectors, TableSays}
use Rattle.cartridge_spec.specs.Settling.{settling_steps}
use Rattle.command_spec.specs.declared.line.Line.{Line}
use Rattle.command_spec.specs.Input.{promised as promised_by}
use Rattle.qic_base.specs.SourceCalls.{Gave}
use Rattle.qic_base.proofs.Giving.{Gave-Gave}
use Rattle.tape_script.proofs.Rests.{whole_told}
use Rattle.command_spec.specs.Lines.{appended_line, reply_behind}
use Rattle.volume_store.specs.declared.appended.Appended.{Appended}
use Rattle.command_spec.specs.Append.{Kept, Taking, Fits, TooLong, TooShort, taking, room_in, append_acts, kept_over, has_promised_room}
use Rattle.command_laws.specs.AppendTerms.{entry_for, silently}
use Rattle.volume_store.specs.Appending.{kept_by, AppendRan, HasAppended, TableRefused, AppendCut, CutUnread, KeepsList}
use Rattle.volume_store.specs.Mounting.{StoreView, StoreFits}
use Rattle.drive_spec.specs.Terms.{is_protected}
use Rattle.drive_states.specs.Unit.{UnitView}
use Rattle.volume_script.specs.declared.limited.Limited.{Limited}
use Rattle.command_spec.specs.declared.refusal.Refusal.{Refusal}
use Rattle.command_laws.specs.ScriptItems.{EarlyDoes}
use Rattle.volume_script.specs.Items.{ItemDone, ItemShort, ItemCut, ItemEnds, ItemMismatched, WouldDo}
use Rattle.volume_script.specs.Limited.{limited_means}
use Rattle.command_spec.specs.Script.{refusal_line, Did, LineDoes, Meeting, Finds, Meets, acts_on, line_refused, reply, taken_as}
use Rattle.volume_script.specs.Promised.{RanPromised}
use Rattle.volume_script.specs.Refusing.{Refuses, TakesFirst, replied_so}
use Rattle.command_laws.proofs.ScriptActs.{same_acts, same_taking, took_enough, took_too_long, took_short, full_acts, full_taking}
use Rattle.command_laws.proofs.ScriptActs.{short_acts, fits_acts, front_acts, front_and_last, replied_steps, replied_text, input_texts}
use Rattle.command_laws.proofs.ScriptGiven.{gave_all, gave_few, Behind}
use Rattle.command_laws.proofs.ScriptLifting.{TakesNone, read_went, read_cut, replied_went, replied_cut, rested}
use Rattle.volume_script.proofs.Content.{BehindBytes, GivenAs, any_bytes, behind_bytes, content_both, given_as, limit_untold, taken_content}
use Rattle.volume_script.proofs.Quiet.{unmarked}
use Rattle.command_laws.proofs.ScriptPlain.{line_one, meets_one}
use Rattle.qic_base.specs.declared.store_fault.StoreFault.{StoreFault}
use Rattle.cartridge_laws.proofs.MountOnce.{not_lost}
use Rattle.volume_store.proofs.Taking.{front_of}
use Rattle.qic_base.specs.Disk.{AreBytes}
use Rattle.qic_base.specs.Source.{IsInput}
use Rattle.command_laws.proofs.CommandOpened.{quiet}
use Rattle.volume_store.proofs.Fitting.{told_mark}
use Rattle.qic_base.specs.Sink as sinks
use Rattle.qic_base.specs.SinkCalls as sink_calls
use Rattle.qic_base.specs.Source as sources
use Rattle.qic_base.specs.Tape as tapes
use Rattle.qic_base.specs.TapeCalls as tape_calls
use Rattle.command_spec.specs.declared.line.Line.TheVariants as line
use Rattle.qic_base.specs.declared.store_fault.StoreFault.TheVariants as fault
use Rattle.command_spec.specs.declared.refusal.Refusal.TheVariants as why
use Rattle.command_spec.specs.Script as script

pub flip : (o : Option (List ℕ)) (all : List ℕ) → IsInput o all → IfSome o (λ bytes. bytes ≡ all)
flip None all told = tt
flip (Some bytes) all told = sym told

same_first : (bytes rest other more : List ℕ) (n : ℕ) → bytes ++ rest ≡ other ++ more → length bytes ≡ n → length other ≡ n → other ≡ bytes
same_first bytes rest other more n is long too = sym (front_of other more n too) ∙ ap (take n) (sym is) ∙ front_of bytes rest n long

-- what would be done with the first of some bytes is what was done with them
would_be : (c : Cartridge) (words : List ℕ) (entries : List Entry) (asked : Line) (bytes rest : List ℕ) → length bytes ≡ promised_by asked →
    (did : Did) → LineDoes c words entries asked bytes did →
    (acts : List Act) → WouldDo c words entries asked (bytes ++ rest) acts → did.acts ≡ acts
would_be c words entries asked bytes rest long did does acts (inl (other, (more, (parts, too, (did', same, does'))))) =
    let first : other ≡ bytes = same_first bytes rest other more (promised_by asked) parts long too in
    let again : LineDoes c words entries asked bytes did' = subst (λ (bs : List ℕ). LineDoes c words entries asked bs did') first does' in
    ap (λ (d : Did). d.acts) (sym (line_one c words entries asked bytes did did' does again)) ∙ same
would_be c words entries asked bytes rest long did does acts (inr (short, early)) = absurd (let l = length-append bytes rest in omega arith)

-- a short input is one of as many bytes as are asked for
asked_of : (b d : Bool) (n have read : ℕ) (first : List ℕ) (asked got : ℕ) → cond b (cond d (TooShort n read) (Fits first))
    (TooLong n have) ≡ TooShort asked got → asked ≡ n
asked_of true true n have read first asked got is = cc
asked_of true false n have read first asked got is = absurd (cc)
asked_of false d n have read first asked got is = absurd (cc)

-- what a cartridge without a mark meets where it says these data
abbrev Known : (store : StoreView) (table : List (List ℕ)) (settling : List Step) → Cartridge → Type 0
Known store table settling c = (TableIs c table × (settling ≡ settling_steps table c)) × (c.info.protected ≡ false)

module _ {T S K : Type 0} (t : tapes.Meaning T) (s : sources.Meaning S) (k : sinks.Meaning K) (store after : StoreView) (name : List ℕ)
    (promised date : ℕ) (both : TakesBoth k) (none : TakesNone k) (a b : T) (i j : S) (x : K) where
  abbrev asked : Line
  asked = line.Append name promised date

  abbrev reply_of : Entry → List ℕ
  reply_of = reply_behind (length store.entries)

  -- ---- an append that ran

  module _ (left : ℕ) (answer : Result Appended StoreFault) (ran : RanPromised t s a b i j store after name date promised left answer) where
    begins : s.faults ran.before.source.now ≡ s.faults i
    begins = ap s.faults ran.starts

    stands : s.faults ran.behind.source.now ≡ s.faults j
    stands = ap s.faults ran.stops

    counted : promised ≡ left + ran.lends.count
    counted = sym ran.promises ∙ ran.lends.counted ∙ ap (λ (n : ℕ). n + ran.lends.count) ran.leaves

    given : List ℕ
    given = ran.lends.gave.0

    pub given_long : length ran.lends.gave.0 ≡ ran.lends.count
    given_long = ran.lends.gave.1

    pub was_given : Gave s i j ran.lends.gave.0
    was_given = subst (λ (p : S). Gave s p j ran.lends.gave.0) ran.starts
        (subst (λ (q : S). Gave s ran.before.source.now q ran.lends.gave.0) ran.stops ran.lends.gave.2)

    -- what the limited source tells
    limit_told : (input : List ℕ) → IsInput (option_map (take ran.before.left) (s.left ran.before.source.now)) input →
        IsInput (option_map (take promised) (s.left i)) input
    limit_told input told =
        subst (λ (p : S). IsInput (option_map (take promised) (s.left p)) input) ran.starts
        (subst (λ (n : ℕ). IsInput (option_map (take n) (s.left ran.before.source.now)) input) ran.promises told)

    -- and of which bytes it is where it tells none
    limit_content : (bytes : List ℕ) → IfNone (option_map (take ran.before.left) (s.left ran.before.source.now)) (AreBytes bytes) →
        IfNone (s.left i) (AreBytes bytes)
    limit_content bytes known =
        subst (λ (p : S). IfNone (s.left p) (AreBytes bytes)) ran.starts
        (limit_untold (take ran.before.left) (s.left ran.before.source.now) (AreBytes bytes) known)

    limit_left : (n : ℕ) → option_map (take ran.behind.left) (s.left ran.behind.source.now) ≡ option_map (drop n)
        (option_map (take ran.before.left) (s.left ran.before.source.now)) →
        option_map (take left) (s.left j) ≡ option_map (drop n) (option_map (take promised) (s.left i))
    limit_left n told =
        sym (ap (λ (q : S). option_map (take left) (s.left q)) ran.stops)
        ∙ sym (ap (λ (m : ℕ). option_map (take m) (s.left ran.behind.source.now)) ran.leaves) ∙ told
        ∙ ap (λ (m : ℕ). option_map (drop n) (option_map (take m) (s.left ran.before.source.now))) ran.promises
        ∙ ap (λ (q : S). option_map (drop n) (option_map (take promised) (s.left q))) ran.starts

    lift : (acts : List Act) → Went t (limited_means s) no_sink (reading a ran.before) (reading b ran.behind) acts →
        Went t s k (outside a i x) (outside b j x) acts
    lift acts went = read_went t s k (limited_means s) ran.before ran.behind i j begins stands none a b x acts went

    lift_cut : (acts : List Act) (failing : Failing) → failing ≢ SinkFails → Cut t (limited_means s) no_sink (reading a ran.before)
        (reading b ran.behind) acts failing →
        Cut t s k (outside a i x) (outside b j x) acts failing
    lift_cut acts failing other cut = read_cut t s k (limited_means s) ran.before ran.behind i j begins stands none a b x acts failing other
        cut

    -- what is known of the cartridge, by the data that the append found
    known_so : tape_calls.Tells t a (λ c. c.info.protected ≡ false) → (table : List (List ℕ)) (settling : List Step) →
        tape_calls.Tells t a (λ c. TableIs c table × (settling ≡ settling_steps table c)) →
        tape_calls.Tells t a (Known store table settling)
    known_so free table settling told =
        tells_two t a (λ c. TableIs c table × (settling ≡ settling_steps table c)) (λ c. c.info.protected ≡ false)
        (Known store table settling) (λ c is off. (is, off)) told free

    -- ---- all bytes came

    module _ (y : K) (answered : Appended)
        (has : HasAppended t (limited_means s) (reading a ran.before) (reading b ran.behind) store after name date (Some promised) answered)
        (free : tape_calls.Tells t a (λ c. c.info.protected ≡ false)) where
      abbrev r : AppendRan t (limited_means s) (reading a ran.before) (reading b ran.behind) store name date (Some promised)
          (Fits has.bytes)
      r = has.ran

      abbrev kept : Kept
      kept = kept_by store has.ran.table has.ran.settling

      took_all : (promised ≤ length has.ran.input) × (has.bytes ≡ take promised has.ran.input)
      took_all = took_enough (room_in (kept_by store has.ran.table has.ran.settling)) promised has.ran.input has.bytes has.ran.took

      bytes_long : length has.bytes ≡ promised
      bytes_long = ap length took_all.1 ∙ length-take-le promised has.ran.input took_all.0

      gave_bytes : Gave s i j has.bytes
      gave_bytes =
          subst (Gave s i j) (sym took_all.1)
          (gave_all (s.left i) (s.left j) ran.lends.gave.0 has.ran.input promised ran.lends.count left was_given given_long counted
          (limit_told has.ran.input has.ran.is_told) took_all.0
          (limit_left promised (has.ran.left
          ∙ ap (λ (n : ℕ). option_map (drop n) (option_map (take ran.before.left) (s.left ran.before.source.now))) bytes_long)))

      bytes_content : IfNone (s.left i) (AreBytes has.bytes)
      bytes_content = subst (λ (bytes : List ℕ). IfNone (s.left i) (AreBytes bytes)) (sym took_all.1)
          (taken_content (s.left i) promised has.ran.input (limit_content has.ran.input has.ran.content))

      -- the acts, with the reply
      abbrev whole : List Act
      whole = append_acts kept name date (Some promised) reply_of has.ran.input

      same_bytes : append_acts kept name date (Some promised) reply_of has.ran.input ≡ append_acts kept name date
          (Some promised) reply_of has.bytes
      same_bytes =
          same_acts kept name date promised has.ran.input took_all.0 reply_of
          ∙ ap (λ (bs : List ℕ). append_acts kept name date (Some promised) reply_of bs) (sym took_all.1)

      fits_bytes : taking (room_in kept) (Some promised) has.bytes ≡ Fits has.bytes
      fits_bytes =
          ap (λ (bs : List ℕ). taking (room_in kept) (Some promised) bs) took_all.1
          ∙ sym (same_taking kept name date promised has.ran.input took_all.0) ∙ has.ran.took

      does : (entries : List Entry) → entries ≡ store.entries ++ has.entry ∷ [] →
          tape_calls.Tells t a (λ c. LineDoes c store.words store.entries asked has.bytes (record { acts = whole; entries = entries }))
      does entries added =
          Tells-map t a (Known store has.ran.table has.ran.settling)
          (λ c. LineDoes c store.words store.entries asked has.bytes (record { acts = whole; entries = entries }))
          (λ c known.
          let settles : kept ≡ kept_over c store.words store.entries has.ran.table =
          ap (λ (ss : List Step). kept_by store has.ran.table ss) known.0.1 in
          let entry : entries ≡ store.entries ++ entry_for kept name date has.bytes ∷ [] = added
          ∙ ap (λ (e : Entry). store.entries ++ e ∷ []) has.is_entry in (
            Finds has.ran.table,
            (known.1, known.0.0),
            ap (λ (es : List Entry). record { acts = whole; entries = es }) entry
                ∙ ap (λ (acts : List Act). record { acts = acts; entries = store.entries ++ entry_for kept name date has.bytes ∷ [] })
                same_bytes
                ∙ sym (ap (λ (became : Taking). taken_as kept name date (append_acts kept name date (Some promised) reply_of has.bytes)
                became) fits_bytes)
                ∙ ap (λ (by : Kept). taken_as by name date (append_acts by name date (Some promised) reply_of has.bytes)
                (taking (room_in by) (Some promised) has.bytes)) settles,
          )) (known_so free has.ran.table has.ran.settling has.ran.known)

      silent : Went t s k (outside a i x) (outside b j x) (append_acts kept name date (Some promised) silently has.ran.input)
      silent = lift (append_acts kept name date (Some promised) silently has.ran.input) has.ran.went

      abbrev text : List ℕ
      text = reply_of (entry_for kept name date has.bytes)

      pub appended_done : sinks.Wrote k x y text → ItemDone t s k store after (outside a i x) (outside b j y) asked
      appended_done wrote = record {
        bytes = has.bytes;
        kept = bytes_long;
        gave = gave_bytes;
        content = bytes_content;
        acts = whole;
        went = record {
          did = subst (tapes.Done t a b) (replied_steps kept name date promised has.ran.input has.bytes has.ran.took reply_of) silent.did;
          wrote = subst (sinks.Wrote k x y) (sym (replied_text kept name date promised has.ran.input has.bytes has.ran.took reply_of))
              wrote;
          source_later = silent.source_later;
        };
        told = does after.entries has.added;
      }

      abbrev last : Act
      last = record {
        steps = table_writes (slot_sector (length store.entries))
            (table_with kept.table (length kept.entries) (entry_for kept name date has.bytes));
        text = text;
      }

      unreplied : sink_calls.BrokeOff k x y text → Cut t s k (outside a i x) (outside b j y) whole SinkFails
      unreplied broke = record {
        at = record {
          front = front_acts kept promised has.ran.input;
          act = last;
          rest = [];
          parts = sym (fits_acts kept name date promised has.ran.input has.bytes has.ran.took reply_of);
        };
        did = subst (tapes.Done t a b) (sym
            (front_and_last kept name date promised has.ran.input has.bytes has.ran.took reply_of last refl)) silent.did;
        broke = broke_behind (text_of (front_acts kept promised has.ran.input)) (input_texts kept (Some promised) has.ran.input) broke;
        source_later = silent.source_later;
      }

      pub appended_cut : sink_calls.BrokeOff k x y text → ItemCut t s k store (outside a i x) (outside b j y) asked SinkFails
      appended_cut broke =
          let rest = any_bytes (s.left j) in record {
            rest = has.bytes ++ rest.rest;
            is_told = flip (s.left i) (has.bytes ++ rest.rest) (whole_told (s.left i) (s.left j) has.bytes rest.rest gave_bytes rest.told);
            content = content_both (s.left i) (s.left j) has.bytes rest.rest gave_bytes bytes_content rest.content;
            told = Tells-map t a (λ c. LineDoes c store.words store.entries asked has.bytes
                (record { acts = whole; entries = store.entries ++ has.entry ∷ [] }))
                (λ c. (acts : List Act) → WouldDo c store.words store.entries asked (has.bytes ++ rest.rest) acts →
                Cut t s k (outside a i x) (outside b j y) acts SinkFails)
                (λ c does acts would. subst (λ (zs : List Act). Cut t s k (outside a i x) (outside b j y) zs SinkFails)
                (would_be c store.words store.entries asked has.bytes rest.rest bytes_long
                (record { acts = whole; entries = store.entries ++ has.entry ∷ [] }) does acts would) (unreplied broke))
                (does (store.entries ++ has.entry ∷ []) refl);
            given = has.bytes;
            few = let long = bytes_long in omega arith;
            gave = gave_bytes;
            acts = whole;
            cut = unreplied broke;
          }

      text_is : appended_line answered.number answered.bytes answered.start answered.end ≡ text
      text_is =
          ap (λ (n : ℕ). appended_line n answered.bytes answered.start answered.end) has.number
          ∙ ap (λ (n : ℕ). appended_line (length store.entries + 1) n answered.start answered.end) has.count
          ∙ ap (λ (n : ℕ). appended_line (length store.entries + 1) (length has.bytes) n answered.end) has.start
          ∙ ap (λ (n : ℕ). appended_line (length store.entries + 1) (length has.bytes) has.entry.start n) has.end
          ∙ ap (λ (e : Entry). appended_line (length store.entries + 1) (length has.bytes) e.start e.end) has.is_entry

      pub appended_ends : (r : Result (Unit {0}) SinkFailed) →
          sink_calls.Writes k x y (appended_line answered.number answered.bytes answered.start answered.end) r →
          ItemEnds t s k store after (outside a i x) (outside b j y) asked (replied_so r)
      appended_ends (Ok done) wrote = appended_done (subst (sinks.Wrote k x y) text_is wrote)
      appended_ends (Err failed) broke = appended_cut (subst (sink_calls.BrokeOff k x y) text_is broke)

    -- ---- fewer bytes came

    pub came_short : (asked_for got : ℕ)
        (short : AppendRan t (limited_means s) (reading a ran.before) (reading b ran.behind) store name date (Some promised)
        (TooShort asked_for got)) →
        tape_calls.Tells t a (λ c. c.info.protected ≡ false) → (asked_for ≡ promised)
        × ItemShort t s k store (outside a i x) (outside b j x) asked got
    came_short asked_for got short free =
        let kept : Kept = kept_by store short.table short.settling in
        let few = took_short (room_in kept) promised short.input asked_for got short.took in
        let gave = gave_few (s.left i) (s.left j) ran.lends.gave.0 short.input promised ran.lends.count left was_given given_long counted
        (limit_told short.input short.is_told) few.0
        (limit_left (length short.input)
        (short.left ∙ ap (λ (n : ℕ). option_map (drop n) (option_map (take ran.before.left) (s.left ran.before.source.now))) few.1)) in
        let acts : List Act = append_acts kept name date (Some promised) silently short.input in
        let all : asked_for ≡ promised =
        asked_of (has_promised_room (room_in kept) (Some promised)) (nat_lt (length short.input) promised) promised (room_in kept)
        (length short.input) (take promised short.input) asked_for got short.took in (
          all,
          record {
            bytes = short.input;
            all = sym few.1;
            short = few.0;
            gave = gave.gave;
            content = limit_content short.input short.content;
            ended = gave.ended;
            acts = acts;
            went = lift acts short.went;
            told = Tells-map t a (Known store short.table short.settling)
                (λ c. EarlyDoes c store.words store.entries asked short.input acts)
                (λ c known. (
                  Finds short.table,
                  (known.1, known.0.0),
                  short_acts kept name date promised silently reply_of short.input asked_for got short.took
                      ∙ ap (λ (ss : List Step). append_acts (kept_by store short.table ss) name date (Some promised) reply_of short.input)
                      known.0.1,
                )) (known_so free short.table short.settling short.known);
          },
        )

    -- ---- the table did not show the list

    pub came_mismatch : TableRefused t (limited_means s) (reading a ran.before) (reading b ran.behind) (λ c. ⊥) → ItemMismatched t s k
        (outside a i x) (outside b j x)
    came_mismatch refusal = record {
      acts = refusal.acts;
      went = lift refusal.acts refusal.went;
      told = Tells-map t a (λ c. (refusal.acts ≡ []) × (ran.behind ≡ ran.before) × ⊥) (λ c. ⊥) (λ c says. says.2) refusal.told;
      bytes = ran.lends.gave.0;
      gave = was_given;
    }

    -- ---- a fault of the outside

    -- acts that an append would do are cut off as its own are
    longer_taken : (kept : Kept) (acts : List Act) (became : Taking) (failing : Failing) →
        Cut t s k (outside a i x) (outside b j x) acts failing →
        Cut t s k (outside a i x) (outside b j x) (taken_as kept name date acts became).acts failing
    longer_taken kept acts (Fits bytes) failing cut = cut
    longer_taken kept acts (TooLong need have) failing cut =
        cut_is_longer t s k (outside a i x) (outside b j x) acts (reply (refusal_line (why.Full need have)) ∷ []) failing cut
    longer_taken kept acts (TooShort n read) failing cut = cut

    pub failed : (failing : Failing) → failing ≢ SinkFails → AppendCut t (limited_means s) (reading a ran.before)
        (reading b ran.behind) store name date (Some promised) failing →
        CutUnread t (limited_means s) (reading a ran.before) (reading b ran.behind) failing →
        tape_calls.Tells t a (λ c. c.info.protected ≡ false) → ItemCut t s k store (outside a i x) (outside b j x) asked failing
    failed failing other cut unread free =
        let both : BehindBytes (s.left i) promised cut.input =
        behind_bytes (s.left i) promised cut.input (limit_told cut.input cut.is_told) (limit_content cut.input cut.content) in
        let at : Behind (s.left i) promised cut.input = both.at in record {
          rest = at.rest;
          is_told = at.told;
          content = both.content;
          told = tells_two t a
              (λ c. ((table : List (List ℕ)) → TableIs c table → (reply : Entry → List ℕ) →
              Cut t (limited_means s) no_sink (reading a ran.before) (reading b ran.behind)
              (append_acts (kept_by store table (settling_steps table c)) name date (Some promised) reply cut.input) failing)
              × (((table : List (List ℕ)) → TableIs c table → ⊥) → Cut t (limited_means s) no_sink (reading a ran.before)
              (reading b ran.behind) [] failing))
              (λ c. c.info.protected ≡ false)
              (λ c. (acts : List Act) → WouldDo c store.words store.entries asked at.rest acts →
              Cut t s k (outside a i x) (outside b j x) acts failing)
              (λ c each off acts would. by_cases at c each.0 each.1 off acts would)
              (tells_two t a
              (λ c. (table : List (List ℕ)) → TableIs c table → (reply : Entry → List ℕ) →
              Cut t (limited_means s) no_sink (reading a ran.before) (reading b ran.behind)
              (append_acts (kept_by store table (settling_steps table c)) name date (Some promised) reply cut.input) failing)
              (λ c. ((table : List (List ℕ)) → TableIs c table → ⊥) → Cut t (limited_means s) no_sink (reading a ran.before)
              (reading b ran.behind) [] failing)
              (λ c. ((table : List (List ℕ)) → TableIs c table → (reply : Entry → List ℕ) →
              Cut t (limited_means s) no_sink (reading a ran.before) (reading b ran.behind)
              (append_acts (kept_by store table (settling_steps table c)) name date (Some promised) reply cut.input) failing)
              × (((table : List (List ℕ)) → TableIs c table → ⊥) → Cut t (limited_means s) no_sink (reading a ran.before)
              (reading b ran.behind) [] failing))
              (λ c each lost. (each, lost)) cut.told unread)
              free;
          given = ran.lends.gave.0;
          few = let long = given_long in let all = counted in omega arith;
          gave = was_given;
          acts = cut.acts;
          cut = lift_cut cut.acts failing other cut.cut;
        }
      where
        -- refused before anything
        unbegun : (c : Cartridge) → c.info.protected ≡ false → (meeting : Refusal) → Meets c (script.Refuses meeting) →
            (table : List (List ℕ)) → TableIs c table → ⊥
        unbegun c off why.Protected meets table is = absurd (cc)
        unbegun c off (why.Lost segment lost) meets table is = not_lost c table lost is meets.2
        unbegun c off (why.Full need have) meets table is = meets
        unbegun c off (why.NoVolume number count) meets table is = meets
        unbegun c off (why.Mismatch segment) meets table is = meets
        unbegun c off (why.Place segment sector) meets table is = meets

        by_cases : (at : Behind (s.left i) promised cut.input) (c : Cartridge) →
            ((table : List (List ℕ)) → TableIs c table → (reply : Entry → List ℕ) →
            Cut t (limited_means s) no_sink (reading a ran.before) (reading b ran.behind)
            (append_acts (kept_by store table (settling_steps table c)) name date (Some promised) reply cut.input) failing) →
            (((table : List (List ℕ)) → TableIs c table → ⊥) → Cut t (limited_means s) no_sink (reading a ran.before)
            (reading b ran.behind) [] failing) → c.info.protected ≡ false →
            (acts : List Act) → WouldDo c store.words store.entries asked at.rest acts →
            Cut t s k (outside a i x) (outside b j x) acts failing
        by_cases at c each lost off acts (inl (bytes, (more, (parts, long, (did, same, (script.Refuses meeting, meets, is)))))) =
            cut_is_longer t s k (outside a i x) (outside b j x) [] acts failing
            (lift_cut [] failing other (lost (unbegun c off meeting meets)))
        by_cases at c each lost off acts (inl (bytes, (more, (parts, long, (did, same, (Finds table, meets, is)))))) =
            let kept : Kept = kept_over c store.words store.entries table in
            let enough : promised ≤ length cut.input = at.enough (let l = ap length parts in let m = length-append bytes more in
            omega arith) in
            let first : take promised cut.input ≡ bytes = sym at.front ∙ ap (take promised) parts ∙ front_of bytes more promised long in
            let whole : append_acts kept name date (Some promised) reply_of cut.input ≡ append_acts kept name date
            (Some promised) reply_of bytes =
            same_acts kept name date promised cut.input enough reply_of
            ∙ ap (λ (bs : List ℕ). append_acts kept name date (Some promised) reply_of bs) first in
            let own : Cut t s k (outside a i x) (outside b j x) (append_acts kept name date (Some promised) reply_of bytes) failing =
            subst (λ (zs : List Act). Cut t s k (outside a i x) (outside b j x) zs failing) whole
            (lift_cut (append_acts kept name date (Some promised) reply_of cut.input) failing other (each table meets.1 reply_of)) in
            subst (λ (zs : List Act). Cut t s k (outside a i x) (outside b j x) zs failing) (ap (λ (d : Did). d.acts) (sym is) ∙ same)
            (longer_taken kept (append_acts kept name date (Some promised) reply_of bytes)
            (taking (room_in kept) (Some promised) bytes) failing own)
        by_cases at c each lost off acts (inr (short, (script.Refuses meeting, meets, is))) =
            cut_is_longer t s k (outside a i x) (outside b j x) [] acts failing
            (lift_cut [] failing other (lost (unbegun c off meeting meets)))
        by_cases at c each lost off acts (inr (short, (Finds table, meets, is))) =
            let kept : Kept = kept_over c store.words store.entries table in
            let input : cut.input ≡ at.rest = at.few short in
            subst (λ (zs : List Act). Cut t s k (outside a i x) (outside b j x) zs failing)
            (ap (λ (bs : List ℕ). append_acts kept name date (Some promised) reply_of bs) input ∙ sym is)
            (lift_cut (append_acts kept name date (Some promised) reply_of cut.input) failing other (each table meets.1 reply_of))

    -- ---- refused

    -- it was refused behind these acts, whatever the bytes are
    pub record Refusing (acts : List Act) (refusal : Refusal) : Type 0 where
      pub went : Went t s k (outside a i x) (outside b j x) acts
      pub told : tape_calls.Tells t a (λ c. (meeting : Meeting) × Meets c meeting
          × (((bytes : List ℕ) → acts_on c store.words store.entries name promised date bytes meeting ≡ acts)
          × ((bytes : List ℕ) → script.append_did c store.words store.entries name promised date bytes meeting ≡ line_refused acts
          store.entries refusal)))

    pub refusing_full : (need have : ℕ) → tape_calls.Tells t a (λ c. c.info.protected ≡ false) →
        (full : AppendRan t (limited_means s) (reading a ran.before) (reading b ran.behind) store name date (Some promised)
        (TooLong need have)) → Refusing (quiet full.settling ∷ []) (why.Full need have)
    refusing_full need have free full =
        let kept : Kept = kept_by store full.table full.settling in
        let small = took_too_long (room_in kept) promised full.input need have full.took in
        record {
          went = lift (quiet full.settling ∷ [])
              (subst (λ (zs : List Act). Went t (limited_means s) no_sink (reading a ran.before) (reading b ran.behind) zs)
              (full_acts kept name date promised small.0 silently full.input) full.went);
          told = Tells-map t a (Known store full.table full.settling) _
              (λ c known.
              let by : Kept = kept_over c store.words store.entries full.table in
              let settles : kept ≡ by = ap (λ (ss : List Step). kept_by store full.table ss) known.0.1 in
              let alone : (bytes : List ℕ) → append_acts by name date (Some promised) reply_of bytes ≡ quiet full.settling ∷ [] =
              λ bytes. full_acts by name date promised small.0 reply_of bytes ∙ ap (λ (ss : List Step). quiet ss ∷ []) (sym known.0.1) in (
                Finds full.table,
                (known.1, known.0.0),
                (
                  alone,
                  λ bytes.
                      ap (λ (became : Taking). taken_as by name date (append_acts by name date (Some promised) reply_of bytes) became)
                      (full_taking by name date promised small.0 bytes)
                      ∙ ap (λ (acts : List Act). line_refused acts store.entries (why.Full promised (room_in by))) (alone bytes)
                      ∙ ap (λ (n : ℕ). line_refused (quiet full.settling ∷ []) store.entries (why.Full n (room_in by))) (sym small.1)
                      ∙ ap (λ (n : ℕ). line_refused (quiet full.settling ∷ []) store.entries (why.Full need n)) (sym small.2),
                ),
              )) (known_so free full.table full.settling full.known);
        }

    pub refusing_lost : (segment lost : ℕ) → segment ≡ 2 → tape_calls.Tells t a (λ c. c.info.protected ≡ false) →
        (refusal : TableRefused t (limited_means s) (reading a ran.before) (reading b ran.behind)
        (λ c. TableSays (table_cells c) (ByCode (LostSectors lost)))) → Refusing refusal.acts (why.Lost segment lost)
    refusing_lost segment lost is free refusal = record {
      went = lift refusal.acts refusal.went;
      told = tells_two t a (λ c. c.info.protected ≡ false)
          (λ c. (refusal.acts ≡ []) × (ran.behind ≡ ran.before) × TableSays (table_cells c) (ByCode (LostSectors lost))) _
          (λ c off says. (
            script.Refuses (why.Lost segment lost),
            (off, is, says.2),
            (
              (λ bytes. sym says.0),
              λ bytes. ap (λ (acts : List Act). line_refused acts store.entries (why.Lost segment lost)) (sym says.0),
            ),
          )) free refusal.told;
    }

    pub refusing_protected : tape_calls.Tells t a (λ c. c.info.protected ≡ true) → (ran.behind ≡ ran.before) → b ≡ a →
        Refusing [] why.Protected
    refusing_protected mark source tape =
        let faults : s.faults i ≡ s.faults j = sym begins ∙ ap (λ (l : Limited S). s.faults l.source.now) (sym source) ∙ stands in
        record {
          went = subst (λ (w : T). Went t s k (outside a i x) (outside w j x) []) (sym tape) (rested t s k none a i j x (omega arith));
          told = Tells-map t a (λ c. c.info.protected ≡ true) _
              (λ c is. (script.Refuses why.Protected, is, ((λ bytes. refl), (λ bytes. refl)))) mark;
        }

    module _ (same : after.entries ≡ store.entries) (acts : List Act) (refusal : Refusal) (refusing : Refusing acts refusal) (j2 : S)
        (y : K) where
      does_so : (bytes : List ℕ) (entries : List Entry) → entries ≡ store.entries →
          tape_calls.Tells t a (λ c. LineDoes c store.words store.entries asked bytes
          (record { acts = acts ++ reply (refusal_line refusal) ∷ []; entries = entries }))
      does_so bytes entries is =
          Tells-map t a _ (λ c. LineDoes c store.words store.entries asked bytes
          (record { acts = acts ++ reply (refusal_line refusal) ∷ []; entries = entries }))
          (λ c known. (
            known.0,
            known.1,
            ap (λ (es : List Entry). record { acts = acts ++ reply (refusal_line refusal) ∷ []; entries = es })
                is ∙ sym (known.2.1 bytes),
          )) refusing.told

      later_went : s.faults j2 ≡ s.faults j → Went t s k (outside a i x) (outside b j2 x) acts
      later_went later = record {
        did = refusing.went.did;
        wrote = refusing.went.wrote;
        source_later = let e = refusing.went.source_later in omega arith;
      }

      all_given : (bytes : List ℕ) → Gave s j j2 bytes → Gave s i j2 (ran.lends.gave.0 ++ bytes)
      all_given bytes gave = Gave-Gave s i j j2 ran.lends.gave.0 bytes was_given gave

      -- any bytes where none are told
      given_so : (bytes : List ℕ) → Gave s j j2 bytes → GivenAs (s.left i) (s.left j2) (length (ran.lends.gave.0 ++ bytes))
      given_so bytes gave = given_as (s.left i) (s.left j2) (ran.lends.gave.0 ++ bytes) (all_given bytes gave)

      all_long : (bytes : List ℕ) → length bytes ≡ left → length (ran.lends.gave.0 ++ bytes) ≡ promised
      all_long bytes long = (let l = length-append ran.lends.gave.0 bytes in let g = given_long in let c = counted in omega arith)

      pub refused_ends : (r : Result (Unit {0}) StoreFault) → TakesFirst s k j j2 x y promised left refusal r →
          ItemEnds t s k store after (outside a i x) (outside b j2 y) asked r
      refused_ends (Ok done) (all, wrote) = let given = given_so all.bytes all.gave in record {
        bytes = given.bytes;
        kept = given.long ∙ all_long all.bytes all.all;
        gave = given.gave;
        content = given.content;
        acts = acts ++ reply (refusal_line refusal) ∷ [];
        went = replied_went t s k both (outside a i x) b j2 x y acts (refusal_line refusal) (later_went all.later) wrote;
        told = does_so given.bytes after.entries same;
      }
      refused_ends (Err (fault.Short all read)) (same, short, sink) = (
        same,
        subst (λ (z : K). ItemShort t s k store (outside a i x) (outside b j2 z) asked read)
            (sym sink) (let given = given_so short.bytes short.gave in record {
              bytes = given.bytes;
              all = (let same = given.long in let l = length-append ran.lends.gave.0 short.bytes in let g = given_long in let c = counted in
                  let f = short.there in omega arith);
              short = (let same = given.long in let l = length-append ran.lends.gave.0 short.bytes in
                  let g = given_long in let c = counted in
                  let f = short.short in omega arith);
              gave = given.gave;
              content = given.content;
              ended = short.ended;
              acts = acts;
              went = later_went short.later;
              told = Tells-map t a _ (λ c. EarlyDoes c store.words store.entries asked given.bytes acts)
                  (λ c known. (known.0, known.1, sym (known.2.0 given.bytes))) refusing.told;
            }),
      )
      refused_ends (Err fault.Sink) (all, broke) =
          let given = given_so all.bytes all.gave in
          let bytes : List ℕ = given.bytes in
          let rest = any_bytes (s.left j2) in
          let cut = replied_cut t s k both none (outside a i x) b j2 x y acts (refusal_line refusal) (later_went all.later) broke in
          record {
            rest = bytes ++ rest.rest;
            is_told = flip (s.left i) (bytes ++ rest.rest) (whole_told (s.left i) (s.left j2) bytes rest.rest given.gave rest.told);
            content = content_both (s.left i) (s.left j2) bytes rest.rest given.gave given.content rest.content;
            told = Tells-map t a (λ c. LineDoes c store.words store.entries asked bytes
                (record { acts = acts ++ reply (refusal_line refusal) ∷ []; entries = store.entries }))
                (λ c. (zs : List Act) → WouldDo c store.words store.entries asked (bytes ++ rest.rest) zs →
                Cut t s k (outside a i x) (outside b j2 y) zs SinkFails)
                (λ c does zs would. subst (λ (ws : List Act). Cut t s k (outside a i x) (outside b j2 y) ws SinkFails)
                (would_be c store.words store.entries asked bytes rest.rest (given.long ∙ all_long all.bytes all.all)
                (record { acts = acts ++ reply (refusal_line refusal) ∷ []; entries = store.entries }) does zs would) cut)
                (does_so bytes store.entries refl);
            given = bytes;
            few = let long = given.long in let all = all_long all.bytes all.all in omega arith;
            gave = given.gave;
            acts = acts ++ reply (refusal_line refusal) ∷ [];
            cut = cut;
          }
      refused_ends (Err fault.Source) (failed, sink) =
          let rest = any_bytes (s.left i) in
          let skipped = failed.skipped in
          let cut : Cut t s k (outside a i x) (outside b j2 x) acts SourceFails = record {
            front = acts;
            rest = [];
            parts = append-nil acts;
            did = refusing.went.did;
            wrote = refusing.went.wrote;
            cause = (let e = refusing.went.source_later in let f = failed.cause in omega arith);
            source_later = (let e = refusing.went.source_later in let f = failed.later in omega arith);
          } in
          subst (λ (z : K). ItemCut t s k store (outside a i x) (outside b j2 z) asked SourceFails) (sym sink) (record {
            rest = rest.rest;
            is_told = rest.told;
            content = rest.content;
            told = Tells-map t a _ (λ c. (zs : List Act) → WouldDo c store.words store.entries asked rest.rest zs →
                Cut t s k (outside a i x) (outside b j2 x) zs SourceFails)
                (λ c known zs would. by_would c known.0 known.1 known.2.0 known.2.1 rest.rest zs would cut) refusing.told;
            given = ran.lends.gave.0 ++ skipped.2.0;
            few = let l = length-append ran.lends.gave.0 skipped.2.0 in let g = given_long in let c = counted in
                let n = skipped.2.1 in let m = skipped.1 in omega arith;
            gave = all_given skipped.2.0 skipped.2.2;
            acts = acts;
            cut = cut;
          })
        where
          by_would : (c : Cartridge) (meeting : Meeting) → Meets c meeting →
              ((bytes : List ℕ) → acts_on c store.words store.entries name promised date bytes meeting ≡ acts) →
              ((bytes : List ℕ) → script.append_did c store.words store.entries name promised date bytes meeting ≡ line_refused acts
              store.entries refusal) → (rest : List ℕ) (zs : List Act) →
              WouldDo c store.words store.entries asked rest zs → Cut t s k (outside a i x) (outside b j2 x) acts SourceFails →
              Cut t s k (outside a i x) (outside b j2 x) zs SourceFails
          by_would c meeting meets alone whole rest zs (inl (bytes, (more, (parts, long, (did, is, (other, again, too)))))) cut =
              let one : other ≡ meeting = meets_one c meeting other meets again in
              let acts_are : acts ++ reply (refusal_line refusal) ∷ [] ≡ zs =
              ap (λ (d : Did). d.acts) (sym (whole bytes)
              ∙ ap (λ (m : Meeting). script.append_did c store.words store.entries name promised date bytes m) (sym one) ∙ sym too)
              ∙ is in
              subst (λ (ws : List Act). Cut t s k (outside a i x) (outside b j2 x) ws SourceFails) acts_are
              (cut_is_longer t s k (outside a i x) (outside b j2 x) acts (reply (refusal_line refusal) ∷ []) SourceFails cut)
          by_would c meeting meets alone whole rest zs (inr (short, (other, again, too))) cut =
              let one : other ≡ meeting = meets_one c meeting other meets again in
              let acts_are : acts ≡ zs = sym (alone rest)
              ∙ ap (λ (m : Meeting). acts_on c store.words store.entries name promised date rest m) (sym one) ∙ sym too in
              subst (λ (ws : List Act). Cut t s k (outside a i x) (outside b j2 x) ws SourceFails) acts_are cut
      refused_ends (Err other) never = absurd never

-- ---- by the answer

module _ {T S K : Type 0} (t : tapes.Meaning T) (s : sources.Meaning S) (k : sinks.Meaning K) (store after : StoreView) (name : List ℕ)
    (promised date : ℕ) (both : TakesBoth k) (none : TakesNone k) (u : UnitView T) (b : T) (i j : S) (x : K)
    (left : ℕ) (answer : Result Appended StoreFault) (ran : RanPromised t s u.tape b i j store after name date promised left answer)
    (fits : StoreFits t store u)
    (mark : (answer ≡ Err fault.Protected) ↔ (is_protected u.drive.deck ≡ true)) (list : KeepsList answer store after) where
  ran_as : (r : Result Appended StoreFault) → answer ≡ r → RanPromised t s u.tape b i j store after name date promised left r
  ran_as r is = subst (λ (r : Result Appended StoreFault). RanPromised t s u.tape b i j store after name date promised left r) is ran

  list_as : (r : Result Appended StoreFault) → answer ≡ r → KeepsList r store after
  list_as r is = subst (λ (r : Result Appended StoreFault). KeepsList r store after) is list

  free : ¬ (answer ≡ Err fault.Protected) → tape_calls.Tells t u.tape (λ c. c.info.protected ≡ false)
  free other = told_mark t store u fits false (unmarked (is_protected u.drive.deck) (answer ≡ Err fault.Protected) mark other)

  pub by_ok : (y : K) (answered : Appended) → answer ≡ Ok answered → (r : Result (Unit {0}) SinkFailed) →
      sink_calls.Writes k x y (appended_line answered.number answered.bytes answered.start answered.end) r →
      ItemEnds t s k store after (outside u.tape i x) (outside b j y) (line.Append name promised date) (replied_so r)
  by_ok y answered is r wrote =
      let as_ok = ran_as (Ok answered) is in
      appended_ends t s k store after name promised date both none u.tape b i j x left (Ok answered) as_ok y answered as_ok.ends
      (free (λ e. let no = sym is ∙ e in cc)) r wrote

  by_full : (need have : ℕ) → answer ≡ Err (fault.Full need have) → (j2 : S) (y : K) (r : Result (Unit {0}) StoreFault) →
      TakesFirst s k j j2 x y promised left (why.Full need have) r →
      ItemEnds t s k store after (outside u.tape i x) (outside b j2 y) (line.Append name promised date) r
  by_full need have is j2 y r refuses =
      let as_full = ran_as (Err (fault.Full need have)) is in
      refused_ends t s k store after name promised date both none u.tape b i j x left (Err (fault.Full need have)) as_full
      (list_as (Err (fault.Full need have)) is) (quiet as_full.ends.settling ∷ []) (why.Full need have)
      (refusing_full t s k store after name promised date both none u.tape b i j x left (Err (fault.Full need have)) as_full need have
      (free (λ e. let no = sym is ∙ e in cc)) as_full.ends) j2 y r refuses

  by_lost : (segment lost : ℕ) → answer ≡ Err (fault.Lost segment lost) → (j2 : S) (y : K) (r : Result (Unit {0}) StoreFault) →
      TakesFirst s k j j2 x y promised left (why.Lost segment lost) r →
      ItemEnds t s k store after (outside u.tape i x) (outside b j2 y) (line.Append name promised date) r
  by_lost segment lost is j2 y r refuses =
      let as_lost = ran_as (Err (fault.Lost segment lost)) is in
      refused_ends t s k store after name promised date both none u.tape b i j x left (Err (fault.Lost segment lost)) as_lost
      (list_as (Err (fault.Lost segment lost)) is) as_lost.ends.2.acts (why.Lost segment lost)
      (refusing_lost t s k store after name promised date both none u.tape b i j x left
      (Err (fault.Lost segment lost)) as_lost segment lost as_lost.ends.0 (free (λ e. let no = sym is ∙ e in cc)) as_lost.ends.2)
      j2 y r refuses

  by_protected : answer ≡ Err fault.Protected → (j2 : S) (y : K) (r : Result (Unit {0}) StoreFault) →
      TakesFirst s k j j2 x y promised left why.Protected r →
      ItemEnds t s k store after (outside u.tape i x) (outside b j2 y) (line.Append name promised date) r
  by_protected is j2 y r refuses =
      let as_refused = ran_as (Err fault.Protected) is in
      refused_ends t s k store after name promised date both none u.tape b i j x left (Err fault.Protected) as_refused
      (list_as (Err fault.Protected) is) [] why.Protected
      (refusing_protected t s k store after name promised date both none u.tape b i j x left (Err fault.Protected) as_refused
      (told_mark t store u fits true (mark.0 is)) as_refused.ends.1 as_refused.ends.0) j2 y r refuses

  by_short : (asked_for got : ℕ) → answer ≡ Err (fault.Short asked_for got) → (asked_for ≡ promised)
      × ItemShort t s k store (outside u.tape i x) (outside b j x) (line.Append name promised date) got
  by_short asked_for got is =
      let as_short = ran_as (Err (fault.Short asked_for got)) is in
      came_short t s k store after name promised date both none u.tape b i j x left
      (Err (fault.Short asked_for got)) as_short asked_for got as_short.ends (free (λ e. let no = sym is ∙ e in cc))

  by_source : answer ≡ Err fault.Source → ItemCut t s k store (outside u.tape i x) (outside b j x)
      (line.Append name promised date) SourceFails
  by_source is =
      let as_cut = ran_as (Err fault.Source) is in
      failed t s k store after name promised date both none u.tape b i j x left (Err fault.Source) as_cut SourceFails
      (λ e. cc) as_cut.ends as_cut.unread (free (λ e. let no = sym is ∙ e in cc))

  by_tape : answer ≡ Err fault.Tape → ItemCut t s k store (outside u.tape i x) (outside b j x)
      (line.Append name promised date) TapeFails
  by_tape is =
      let as_cut = ran_as (Err fault.Tape) is in
      failed t s k store after name promised date both none u.tape b i j x left (Err fault.Tape) as_cut TapeFails
      (λ e. cc) as_cut.ends as_cut.unread (free (λ e. let no = sym is ∙ e in cc))

  by_mismatch : answer ≡ Err fault.TableMismatch → ItemMismatched t s k (outside u.tape i x) (outside b j x)
  by_mismatch is =
      let as_refused = ran_as (Err fault.TableMismatch) is in
      came_mismatch t s k store after name promised date both none u.tape b i j x left (Err fault.TableMismatch) as_refused as_refused.ends

  -- a fault that ends the script was answered at once
  at_once : (f : StoreFault) → ItemEnds t s k store after (outside u.tape i x) (outside b j x) (line.Append name promised date) (Err f) →
      (j2 : S) (y : K) (r : Result (Unit {0}) StoreFault) → (j2 ≡ j) × (y ≡ x) × (r ≡ Err f) →
      ItemEnds t s k store after (outside u.tape i x) (outside b j2 y) (line.Append name promised date) r
  at_once f ends j2 y r (source, sink, is) =
      subst (λ (q : S). ItemEnds t s k store after (outside u.tape i x) (outside b q y) (line.Append name promised date) r) (sym source)
      (subst (λ (z : K). ItemEnds t s k store after (outside u.tape i x) (outside b j z) (line.Append name promised date) r) (sym sink)
      (subst (λ (e : Result (Unit {0}) StoreFault). ItemEnds t s k store after (outside u.tape i x) (outside b j x)
      (line.Append name promised date) e) (sym is) ends))

  pub by_fault : (f : StoreFault) → answer ≡ Err f → (j2 : S) (y : K) (r : Result (Unit {0}) StoreFault) →
      Refuses s k j j2 x y promised left f r →
      ItemEnds t s k store after (outside u.tape i x) (outside b j2 y) (line.Append name promised date) r
  by_fault (fault.Full need have) is j2 y r refuses = by_full need have is j2 y r refuses
  by_fault (fault.Lost segment lost) is j2 y r refuses = by_lost segment lost is j2 y r refuses
  by_fault fault.Protected is j2 y r refuses = by_protected is j2 y r refuses
  by_fault (fault.Short all read) is j2 y r refuses = at_once (fault.Short all read) (by_short all read is) j2 y r refuses
  by_fault fault.TableMismatch is j2 y r refuses = at_once fault.TableMismatch (by_mismatch is) j2 y r refuses
  by_fault fault.Source is j2 y r refuses = at_once fault.Source (by_source is) j2 y r refuses
  by_fault fault.Tape is j2 y r refuses = at_once fault.Tape (by_tape is) j2 y r refuses
  by_fault other is j2 y r refuses = let ran_so = ran_as (Err other) is in absurd ran_so.ends

-- a fault of the tape is answered
pub tape_refused : {S K : Type 0} (s : sources.Meaning S) (k : sinks.Meaning K) (i j : S) (x y : K) (promised left : ℕ) (f : StoreFault)
    (r : Result (Unit {0}) StoreFault) → Refuses s k i j x y promised left f r → f ≡ fault.Tape → r ≡ Err fault.Tape
tape_refused s k i j x y promised left f r refuses is =
    let answered = subst (λ (g : StoreFault). Refuses s k i j x y promised left g r) is refuses in answered.2
