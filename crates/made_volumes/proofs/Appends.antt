-- How the append of a made volume ended, as a step of a run.
use Rattle.cartridge_spec.specs.Appending.{room}
use Rattle.std.proofs.Common.{◌≡◌, ◌↔◌, inl, inr, ℕ, Bool, true, false, cond, List, [], ◌∷◌, ◌++◌, length, take, Option, Some, Result, Ok}
use Rattle.std.proofs.Common.{Err, refl, sym, ap, ◌∙◌, subst, arith, nat_lt}
use Rattle.std.proofs.lemmas.Bool.{le-ltb}
use Rattle.std.proofs.lemmas.List.{take_all}
use Rattle.qic_base.specs.Cartridge.{Cartridge}
use Rattle.qic_base.specs.Step.{Step}
use Rattle.qic_base.proofs.Steps.{Tells-map, Done-nothing, tells_two}
use Rattle.qic_base.specs.Acts.{Act, text_of, TapeFails, Went, Cut}
use Rattle.qic_base.specs.Alone.{no_source, no_sink, around, reading}
use Rattle.cartridge_spec.specs.TableSegment.{table_cells, TableIs}
use Rattle.cartridge_spec.specs.Says.{LostSectors, ByCode, TableSays}
use Rattle.cartridge_spec.specs.Table.{Entry}
use Rattle.drive_spec.specs.Terms.{is_protected}
use Rattle.drive_states.specs.Unit.{UnitView}
use Rattle.cartridge_spec.specs.Settling.{settling_steps}
use Rattle.command_spec.specs.Make.{made_length, made_bytes, AppendMade, made_name, StepDoes, Runs, IsTableLost, made_answer}
use Rattle.tape_script.specs.Generator.{made_means}
use Rattle.volume_store.specs.declared.appended.Appended.{Appended}
use Rattle.command_spec.specs.Append.{Taking, Fits, TooLong, TooShort, taking, has_promised_room, append_acts}
use Rattle.command_laws.specs.MadeTerms.{made_entry, made_acts, IsAppendAnswer}
use Rattle.command_laws.specs.AppendTerms.{entry_for, silently}
use Rattle.volume_store.specs.Appending.{kept_by, AppendRan, AppendCut, TableRefused, AppendEnds, CutUnread, FaultsUnread}
use Rattle.volume_store.specs.Mounting.{StoreView, StoreFits}
use Rattle.qic_base.specs.declared.store_fault.StoreFault.{StoreFault}
use Rattle.made_volumes.specs.Runs.{HasRun, RunCut, RunEnds}
use Rattle.command_laws.proofs.MadeMachineLaws.{run_of, done_of}
use Rattle.command_laws.proofs.MadeMadeBytes.{length-made_bytes}
use Rattle.command_laws.proofs.MadeMayLaws.{may_of, may_append}
use Rattle.command_spec.specs.declared.status.Status.{Status}
use Rattle.cartridge_laws.proofs.MountOnce.{not_lost}
use Rattle.volume_store.proofs.Fitting.{told_mark}
use Rattle.qic_base.specs.Tape as tapes
use Rattle.qic_base.specs.TapeCalls as tape_calls
use Rattle.qic_base.specs.declared.store_fault.StoreFault.TheVariants as fault
use Rattle.command_spec.specs.declared.status.Status.TheVariants as status

-- ---- the mark

-- a mark that would mean something which is not so is not set
pub not_marked : (P : Type 0) (mark : Bool) → (mark ≡ true → P) → (P → ⊥) → mark ≡ false
not_marked P true means never = absurd (never (means refl))
not_marked P false means never = refl

-- ---- what becomes of the bytes

abbrev by_room : (have n : ℕ) (bytes : List ℕ) → Bool → Taking
by_room have n bytes room = cond room (cond (nat_lt (length bytes) n) (TooShort n (length bytes)) (Fits (take n bytes))) (TooLong n have)

abbrev by_promise : ℕ → ℕ → Bool → Status
by_promise have n room = cond room status.Done (status.Full n have)

-- where there are as many as promised
answer_fits : (have n : ℕ) (bytes some : List ℕ) (room : Bool) → by_room have n bytes room ≡ Fits some →
    by_promise have n room ≡ status.Done
answer_fits have n bytes some true is = refl
answer_fits have n bytes some false is = absurd (cc)

answer_long : (have n : ℕ) (bytes : List ℕ) (need there : ℕ) (room : Bool) → length bytes ≡ n →
    by_room have n bytes room ≡ TooLong need there →
    by_promise have n room ≡ status.Full need there
answer_long have n bytes need there true long is = absurd (by_length (nat_lt (length bytes) n) is)
  where
    by_length : (less : Bool) → cond less (TooShort n (length bytes)) (Fits (take n bytes)) ≡ TooLong need there → ⊥
    by_length true is = cc
    by_length false is = cc
answer_long have n bytes need there false long is = let same : TooLong n have ≡ TooLong need there = is in cc

never_short : (have n : ℕ) (bytes : List ℕ) (asked read : ℕ) (room : Bool) → length bytes ≡ n →
    by_room have n bytes room ≡ TooShort asked read → ⊥
never_short have n bytes asked read true long is =
    let all : nat_lt (length bytes) n ≡ false = ltb_same (length bytes) n long in
    let same : Fits (take n bytes) ≡ TooShort asked read =
    sym (ap (λ (b : Bool). cond b (TooShort n (length bytes)) (Fits (take n bytes))) all) ∙ is in
    cc
  where
    ltb_same : (x y : ℕ) → x ≡ y → nat_lt x y ≡ false
    ltb_same x y same = le-ltb x y (omega arith)
never_short have n bytes asked read false long is = cc

-- where all are there that were promised, all of them are the volume's
fits_all : (have n : ℕ) (bytes some : List ℕ) (room : Bool) → length bytes ≡ n → by_room have n bytes room ≡ Fits some → some ≡ bytes
fits_all have n bytes some true long is = by_length (nat_lt (length bytes) n) is
  where
    by_length : (less : Bool) → cond less (TooShort n (length bytes)) (Fits (take n bytes)) ≡ Fits some → some ≡ bytes
    by_length true is = absurd (cc)
    by_length false is =
        let same : take n bytes ≡ some = cc in
        sym same ∙ take_all n bytes (omega arith)
fits_all have n bytes some false long is = absurd (cc)

module _ {T : Type 0} (t : tapes.Meaning T) (seed volume : ℕ) (before : StoreView) (u : UnitView T) (fits : StoreFits t before u) (b : T)
    (rest : List ℕ) (after : StoreView) where
  abbrev words : List ℕ
  words = before.words

  abbrev entries : List Entry
  entries = before.entries

  abbrev bytes : List ℕ
  bytes = made_bytes seed volume

  abbrev promise : Option ℕ
  promise = Some (made_length seed volume)

  abbrev have : ℕ
  have = room words entries

  abbrev a : T
  a = u.tape

  abbrev Ends : Result Appended StoreFault → Type 0
  Ends result =
      AppendEnds t made_means (reading a bytes) (reading b rest) before after (made_name volume) 0 promise result

  abbrev Result' : Result (Unit {0}) StoreFault → Type 0
  Result' r = RunEnds t no_sink seed words entries (AppendMade volume ∷ []) (around a tt) (around b tt) r

  abbrev Acts : List Act → Type 0
  Acts acts = Went t made_means no_sink (reading a bytes) (reading b rest) acts

  around_went : (acts : List Act) → Acts acts → Went t no_source no_sink (around a tt) (around b tt) acts
  around_went acts went = record { did = went.did; wrote = went.wrote; source_later = omega arith }

  -- the acts went up to this answer
  went_so : (acts : List Act) (answer : Status) → Acts acts → IsAppendAnswer seed words entries volume answer →
      tape_calls.Tells t a (λ c. StepDoes seed c words entries (AppendMade volume) acts answer) →
      HasRun t no_sink seed words entries (AppendMade volume ∷ []) (around a tt) (around b tt) answer
  went_so acts answer went may told = record {
    acts = acts;
    went = around_went acts went;
    told = Tells-map t a (λ c. StepDoes seed c words entries (AppendMade volume) acts answer)
        (λ c. Runs seed c words entries (AppendMade volume ∷ []) acts answer)
        (λ c does. run_of seed c words entries (AppendMade volume) acts answer does) told;
    may = may_of seed words entries (AppendMade volume) (text_of acts) answer
        (may_append seed words entries volume (text_of acts) answer went.wrote.took may);
  }

  -- the acts of an append that ran are the plain machine's
  same_acts : (c : Cartridge) (table : List (List ℕ)) (settling : List Step) (input : List ℕ) → settling ≡ settling_steps table c →
      input ≡ bytes →
      append_acts (kept_by before table settling) (made_name volume) 0 promise silently input ≡ made_acts seed c words entries table volume
  same_acts c table settling input settles is =
      ap (λ (steps : List Step). append_acts (kept_by before table steps) (made_name volume) 0 promise silently input) settles
      ∙ ap (λ (xs : List ℕ). append_acts (kept_by before table (settling_steps table c)) (made_name volume) 0 promise silently xs) is

  ran_so : (became : Taking) (answer : Status) → is_protected u.drive.deck ≡ false →
      AppendRan t made_means (reading a bytes) (reading b rest) before (made_name volume) 0 promise became →
      made_answer seed words entries volume ≡ answer → IsAppendAnswer seed words entries volume answer →
      HasRun t no_sink seed words entries (AppendMade volume ∷ []) (around a tt) (around b tt) answer
  ran_so became answer free ran answered may =
      let acts : List Act = append_acts (kept_by before ran.table ran.settling) (made_name volume) 0 promise silently ran.input in
      went_so acts answer ran.went may
      (tells_two t a (λ c. c.info.protected ≡ false) (λ c. TableIs c ran.table × (ran.settling ≡ settling_steps ran.table c))
      (λ c. StepDoes seed c words entries (AppendMade volume) acts answer)
      (λ c mark known. inr (
        mark,
        inl (record {
          table = ran.table;
          reads = known.0;
          does = same_acts c ran.table ran.settling ran.input known.1 ran.is_told;
          answered = sym answered;
        }),
      )) (told_mark t before u fits false free) ran.known)

  -- what became of the input that the source told
  became_is : (became : Taking) → AppendRan t made_means (reading a bytes) (reading b rest) before (made_name volume) 0 promise became →
      by_room have (made_length seed volume) bytes (has_promised_room have promise) ≡ became
  became_is became ran = ap (λ (xs : List ℕ). taking have promise xs) (sym ran.is_told) ∙ ran.took

  refused_so : (Says : Cartridge → Type 0) (answer : Status) → is_protected u.drive.deck ≡ false →
      TableRefused t made_means (reading a bytes) (reading b rest) Says → IsAppendAnswer seed words entries volume answer →
      ((c : Cartridge) (acts : List Act) → acts ≡ [] → Says c → IsTableLost c acts answer) →
      HasRun t no_sink seed words entries (AppendMade volume ∷ []) (around a tt) (around b tt) answer
  refused_so Says answer free refused may means =
      went_so refused.acts answer refused.went may
      (tells_two t a (λ c. c.info.protected ≡ false) (λ c. (refused.acts ≡ []) × (rest ≡ bytes) × Says c)
      (λ c. StepDoes seed c words entries (AppendMade volume) refused.acts answer)
      (λ c mark known. inr (mark, inr (means c refused.acts known.0 known.2))) (told_mark t before u fits false free) refused.told)

  around_cut : (acts : List Act) → Cut t made_means no_sink (reading a bytes) (reading b rest) acts TapeFails →
      Cut t no_source no_sink (around a tt) (around b tt) acts TapeFails
  around_cut acts cut = record {
    front = cut.front;
    rest = cut.rest;
    parts = cut.parts;
    broke = cut.broke;
    here = cut.here;
    wrote = cut.wrote;
    source_later = omega arith;
  }

  -- what a fault of the tape tells where the table reads, and where it doesn't
  abbrev CutReading : (input : List ℕ) → Cartridge → Type 0
  CutReading input c =
      (table : List (List ℕ)) → TableIs c table → (reply : Entry → List ℕ) →
      Cut t made_means no_sink (reading a bytes) (reading b rest)
      (append_acts (kept_by before table (settling_steps table c)) (made_name volume) 0 promise reply input) TapeFails

  abbrev CutBefore : Cartridge → Type 0
  CutBefore c = ((table : List (List ℕ)) → TableIs c table → ⊥) → Cut t made_means no_sink (reading a bytes) (reading b rest) [] TapeFails

  cut_so : is_protected u.drive.deck ≡ false → AppendCut t made_means (reading a bytes) (reading b rest) before
      (made_name volume) 0 promise TapeFails →
      CutUnread t made_means (reading a bytes) (reading b rest) TapeFails →
      RunCut t no_sink seed words entries (AppendMade volume ∷ []) (around a tt) (around b tt) TapeFails
  cut_so free cut unread = record {
    told = tells_two t a (λ c. (c.info.protected ≡ false) × CutReading cut.input c) CutBefore
        (λ c. (acts : List Act) (answer : Status) → Runs seed c words entries (AppendMade volume ∷ []) acts answer →
        Cut t no_source no_sink (around a tt) (around b tt) acts TapeFails)
        (λ c known none acts answer runs. by_does c known none acts answer
        (done_of seed c words entries (AppendMade volume) acts answer runs))
        (tells_two t a (λ c. c.info.protected ≡ false) (CutReading cut.input) (λ c. (c.info.protected ≡ false) × CutReading cut.input c)
        (λ c mark known. (mark, known))
        (told_mark t before u fits false free) cut.told) unread;
    acts = cut.acts;
    cut = around_cut cut.acts cut.cut;
  }
    where
      by_does : (c : Cartridge) → (c.info.protected ≡ false) × CutReading cut.input c → CutBefore c → (acts : List Act) (answer : Status) →
          StepDoes seed c words entries (AppendMade volume) acts answer →
          Cut t no_source no_sink (around a tt) (around b tt) acts TapeFails
      by_does c (mark, known) none acts answer (inl refused) = absurd (let same : true ≡ false = sym refused.0 ∙ mark in cc)
      by_does c (mark, known) none acts answer (inr (free', inl appended)) =
          subst (λ (zs : List Act). Cut t no_source no_sink (around a tt) (around b tt) zs TapeFails)
          (same_acts c appended.table (settling_steps appended.table c) cut.input refl cut.is_told ∙ sym appended.does)
          (around_cut (append_acts (kept_by before appended.table (settling_steps appended.table c))
          (made_name volume) 0 promise silently cut.input) (known appended.table appended.reads silently))
      by_does c (mark, known) none acts answer (inr (free', inr lost)) =
          subst (λ (zs : List Act). Cut t no_source no_sink (around a tt) (around b tt) zs TapeFails) (sym lost.2)
          (around_cut [] (none (λ table reads. not_lost c table lost.0 reads lost.1)))

  -- ---- by the answer

  appended_so : (appended : Appended) → is_protected u.drive.deck ≡ false → Ends (Ok appended) → Result' (Ok tt)
  appended_so appended free ends =
      let is : made_answer seed words entries volume ≡ status.Done =
      answer_fits have (made_length seed volume) bytes ends.bytes (has_promised_room have promise) (became_is (Fits ends.bytes) ends.ran) in
      ran_so (Fits ends.bytes) status.Done free ends.ran is is

  locked_so : is_protected u.drive.deck ≡ true → Ends (Err fault.Protected) → Result' (Err fault.Protected)
  locked_so locked ends = subst (λ (end : T). RunEnds t no_sink seed words entries (AppendMade volume ∷ []) (around a tt) (around end tt)
      (Err fault.Protected)) (sym ends.0) (record {
        acts = [];
        went = record { did = Done-nothing t a; wrote = record { took = refl; later = omega arith }; source_later = omega arith };
        told = Tells-map t a (λ c. c.info.protected ≡ true) (λ c. Runs seed c words entries (AppendMade volume ∷ []) [] status.Protected)
            (λ c mark. run_of seed c words entries (AppendMade volume) [] status.Protected (inl (mark, refl, refl)))
            (told_mark t before u fits true locked);
        may = may_of seed words entries (AppendMade volume) [] status.Protected refl;
      })

  -- the answers of a call that a run makes
  pub append_so : (f : StoreFault) → (f ≡ fault.Protected) ↔ (is_protected u.drive.deck ≡ true) → Ends (Err f) →
      FaultsUnread t made_means (reading a bytes) (reading b rest) (Err f) → Result' (Err f)
  append_so fault.Protected mark ends unread = locked_so (mark.0 refl) ends
  append_so (fault.Lost segment lost) mark ends unread =
      let free : is_protected u.drive.deck ≡ false = not_marked (fault.Lost segment lost ≡ fault.Protected)
      (is_protected u.drive.deck) mark.1 (λ is. cc) in
      refused_so (λ c. TableSays (table_cells c) (ByCode (LostSectors lost))) (status.Lost segment lost) free ends.2 (ends.0, ends.1)
      (λ c acts none says. (lost, says, none, ap (λ (s : ℕ). status.Lost s lost) ends.0))
  append_so fault.TableMismatch mark ends unread =
      let free : is_protected u.drive.deck ≡ false = not_marked (fault.TableMismatch ≡ fault.Protected) (is_protected u.drive.deck) mark.1
      (λ is. cc) in
      refused_so (λ c. ⊥) status.TableMismatch free ends tt (λ c acts none never. absurd never)
  append_so (fault.Full need there) mark ends unread =
      let free : is_protected u.drive.deck ≡ false = not_marked (fault.Full need there ≡ fault.Protected) (is_protected u.drive.deck) mark.1
      (λ is. cc) in
      let is : made_answer seed words entries volume ≡ status.Full need there =
      answer_long have (made_length seed volume) bytes need there (has_promised_room have promise) (length-made_bytes seed volume)
      (became_is (TooLong need there) ends) in
      ran_so (TooLong need there) (status.Full need there) free ends is is
  append_so (fault.Short asked read) mark ends unread =
      absurd (never_short have (made_length seed volume) bytes asked read (has_promised_room have promise) (length-made_bytes seed volume)
      (became_is (TooShort asked read) ends))
  append_so fault.Source mark ends unread = absurd (let rose = ends.cut.cause in omega arith)
  append_so fault.Tape mark ends unread =
      let free : is_protected u.drive.deck ≡ false = not_marked (fault.Tape ≡ fault.Protected) (is_protected u.drive.deck) mark.1
      (λ is. cc) in
      cut_so free ends unread
  append_so f mark ends unread = absurd ends

  pub append_done : (appended : Appended) → is_protected u.drive.deck ≡ false → Ends (Ok appended) → Result' (Ok tt)
  append_done appended free ends = appended_so appended free ends

  -- .. and the entry that was added is the made volume's
  pub appended_entry : (appended : Appended) → Ends (Ok appended) → after.entries ≡ entries ++ made_entry seed words entries volume ∷ []
  appended_entry appended ends =
      let is : by_room have (made_length seed volume) bytes (has_promised_room have promise) ≡ Fits ends.bytes =
      became_is (Fits ends.bytes) ends.ran in
      let all : ends.bytes ≡ bytes = fits_all have (made_length seed volume) bytes ends.bytes (has_promised_room have promise)
      (length-made_bytes seed volume) is in
      ends.added ∙ ap (λ (e : Entry). entries ++ e ∷ []) (ends.is_entry
      ∙ ap (λ (xs : List ℕ). entry_for (kept_by before ends.ran.table ends.ran.settling) (made_name volume) 0 xs) all)

  -- the same of a call with this name, this promise and this source
  pub append_so_at : (name source : List ℕ) (promised : ℕ) → name ≡ made_name volume → source ≡ bytes → promised ≡ made_length seed volume →
      (f : StoreFault) → (f ≡ fault.Protected) ↔ (is_protected u.drive.deck ≡ true) →
      AppendEnds t made_means (reading a source) (reading b rest) before after name 0 (Some promised) (Err f) →
      FaultsUnread t made_means (reading a source) (reading b rest) (Err f) → Result' (Err f)
  append_so_at name source promised named from long f mark ends unread =
      append_so f mark
      (subst (λ (n : ℕ). AppendEnds t made_means (reading a bytes) (reading b rest) before after (made_name volume) 0 (Some n) (Err f)) long
      (subst (λ (xs : List ℕ). AppendEnds t made_means (reading a xs) (reading b rest) before after (made_name volume) 0 (Some promised)
      (Err f)) from
      (subst (λ (xs : List ℕ). AppendEnds t made_means (reading a source) (reading b rest) before after xs 0 (Some promised) (Err f)) named
      ends)))
      (subst (λ (xs : List ℕ). FaultsUnread t made_means (reading a xs) (reading b rest) (Err f)) from unread)
