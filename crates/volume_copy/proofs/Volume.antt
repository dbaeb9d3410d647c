-- A copy of one volume, where both tapes tell their cartridges: what the plain machine does with it.
use Rattle.std.proofs.Common.{◌≡◌, ◌≢◌, ◌⊎◌, ℕ, ◌+◌, ◌≤◌, ◌<◌, Bool, true, false, List, [], ◌∷◌, ◌++◌, length, drop, Option, Some, None}
use Rattle.std.proofs.Common.{Result, Ok, Err, refl, ap, sym, subst, ◌∙◌, arith, inl, inr, append-nil, append_assoc}
use Rattle.std.specs.Option.{option_map}
use Rattle.std.proofs.lemmas.Bool.{cases_Bool, ltb-false, ltb-true}
use Rattle.std.proofs.lemmas.List.{length-take-le}
use Rattle.cartridge_spec.specs.Appending.{free_segments, new_entry, table_writes, taken_by, room}
use Rattle.cartridge_spec.specs.TableSegment.{TableIs, table_cells}
use Rattle.cartridge_spec.specs.Says.{ByCode, LostSectors, TableSays}
use Rattle.cartridge_spec.specs.Settling.{changed_by, settling_steps}
use Rattle.cartridge_spec.specs.Table.{Entry, table_with}
use Rattle.cartridge_laws.specs.Slots.{slot_sector}
use Rattle.cartridge_spec.specs.Volumes.{volume_length}
use Rattle.command_laws.proofs.CommandEnds.{over_at}
use Rattle.command_laws.proofs.CopyOnce.{begun_text}
use Rattle.command_laws.proofs.CopyOutcomes.{IsTarget}
use Rattle.command_laws.proofs.MountedListed.{listed_reads}
use Rattle.command_laws.proofs.MountedSaying.{restores_anyway}
use Rattle.command_laws.proofs.ScriptActs.{full_acts, input_texts}
use Rattle.command_spec.specs.Append.{Fits, Kept, TooLong, TooShort, append_acts, entry_acts, input_writes, room_in, taking}
use Rattle.command_laws.specs.AppendTerms.{entry_for}
use Rattle.command_spec.specs.Copying.{CopiesVolume, Side, behind_copy, copied_behind, copied_line, copy_acts, has_room_for, GivenBytes}
use Rattle.command_spec.specs.Restore.{GivingEnd, LostIn, MismatchIn, Restored, Restores, pieces}
use Rattle.command_spec.specs.declared.copy_status.CopyStatus.{CopyStatus}
use Rattle.qic_base.specs.Acts.{Act, Outside, SourceCut, SourceFails, TapeCut, TapeFails, steps_of, text_of}
use Rattle.qic_base.specs.Alone.{no_sink, reading}
use Rattle.qic_base.specs.Cartridge.{Cartridge}
use Rattle.qic_base.specs.Tape.{Rose}
use Rattle.volume_copy.proofs.Appended.{AddsOne, AppendIs, adds_one, adds_to_target, append_is, kept, never_protected, side_over, tells_at}
use Rattle.volume_copy.proofs.Appended.{told_behind}
use Rattle.volume_copy.proofs.Given.{bytes, given, left_before, long, refused_so, taken_restored, unread_restored}
use Rattle.volume_copy.proofs.Goes.{fitting, too_long, too_short}
use Rattle.volume_copy.specs.Runs.{CopiesOne, SideFits, SideView, append_answer, append_status}
use Rattle.volume_copy.specs.Source.{IsOfPart, IsRefusal, SourceView, new_source, source_means}
use Rattle.volume_store.specs.Appending.{AppendCut, AppendEnds, CutBeforeEntry, CutUnread, FaultsUnread, HasGivenAll, ListsLast, MayAsk}
use Rattle.volume_store.specs.Appending.{acts_before_entry, kept_by}
use Rattle.volume_store.specs.declared.appended.Appended.{Appended}
use Rattle.qic_base.specs.declared.store_fault.StoreFault.{StoreFault}
use Rattle.qic_base.specs.Source.{IsInput}
use Rattle.cartridge_laws.proofs.MountOnce.{not_lost}
use Rattle.qic_base.specs.declared.store_fault.StoreFault.TheVariants as fault
use Rattle.command_spec.specs.declared.copy_status.CopyStatus.TheVariants as status
use Rattle.qic_base.specs.Tape as tapes

-- a fault of the outside is the answer
abbrev pub is_outside : CopyStatus → Bool
is_outside (status.From fault.Tape) = true
is_outside (status.To fault.Tape) = true
is_outside status.SinkFault = true
is_outside answer = false

-- ---- what came of it

-- It was copied: the acts before the one that enters it print nothing, and that one its line.
pub record IsCopied {B : Type 0} (b : tapes.Meaning B) (from : Side) (e : Entry) (to : Side) (x : B) (new : SideView B) (bytes : ℕ) : Type 0
  where
    pub acts : List Act
    pub copies : CopiesVolume from e to acts status.Done
    pub did : tapes.Done b x new.unit.tape (steps_of acts)
    pub front : List Act
    pub last : Act
    pub parts : front ++ last ∷ [] ≡ acts
    pub quiet : text_of front ≡ []
    pub line : last.text ≡ copied_line (length to.entries + 1) bytes
    pub cartridge : Cartridge
    pub told : b.told new.unit.tape ≡ Some (Some cartridge)
    pub target : IsTarget (side_over new.store cartridge)
    pub next : behind_copy from e to acts ≡ side_over new.store cartridge

-- It was refused, as the plain machine refuses it.
pub record IsTurned {B : Type 0} (b : tapes.Meaning B) (from : Side) (e : Entry) (to : Side) (x y : B) (answer : CopyStatus) : Type 0 where
  pub acts : List Act
  pub copies : CopiesVolume from e to acts answer
  pub did : tapes.Done b x y (steps_of acts)
  pub quiet : text_of acts ≡ []
  pub other : answer ≢ status.Done
  pub plain : is_outside answer ≡ false

-- A fault of the source's tape broke it off, whatever would have come of it.
pub record IsUngiven {B : Type 0} (b : tapes.Meaning B) (from : Side) (e : Entry) (to : Side) (x y : B) (answer : CopyStatus) : Type 0 where
  pub answered : answer ≡ status.From fault.Tape
  pub acts : List Act
  pub ending : CopyStatus
  pub copies : CopiesVolume from e to acts ending
  pub front : List Act
  pub rest : List Act
  pub parts : front ++ rest ≡ acts
  pub did : tapes.Done b x y (steps_of front)
  pub quiet : text_of front ≡ []

-- .. or one of the target's.
pub record IsUnwritten {A B : Type 0} (a : tapes.Meaning A) (b : tapes.Meaning B) (from : Side) (e : Entry) (to : Side)
    (old new : Outside B (SourceView A) (Unit {0})) (answer : CopyStatus) : Type 0 where
  pub answered : answer ≡ status.To fault.Tape
  pub acts : List Act
  pub ending : CopyStatus
  pub copies : CopiesVolume from e to acts ending
  pub cut : TapeCut b (source_means a) no_sink old new acts

module _ {A B : Type 0} (a : tapes.Meaning A) (b : tapes.Meaning B) (number : ℕ) (from after : SideView A) (to new : SideView B)
    (result : Result ℕ CopyStatus) (one : CopiesOne a b number from after to new result)
    (c : Cartridge) (from_told : a.told from.unit.tape ≡ Some (Some c)) (d : Cartridge) (to_told : b.told to.unit.tape ≡ Some (Some d))
    (target : IsTarget (side_over to.store d)) where
  abbrev e : Entry
  e = one.entry

  abbrev source : Side
  source = side_over from.store c

  abbrev side : Side
  side = side_over to.store d

  abbrev n : ℕ
  n = volume_length from.store.words one.entry

  abbrev given_so : List ℕ
  given_so = bytes a b number from after to new result one c from_told

  abbrev made : SourceView A
  made = new_source from.store from.unit number

  abbrev old_outside : Outside B (SourceView A) (Unit {0})
  old_outside = reading to.unit.tape (new_source from.store from.unit number)

  abbrev new_outside : Outside B (SourceView A) (Unit {0})
  new_outside = reading new.unit.tape one.source

  abbrev kept_so : (table : List (List ℕ)) → Kept
  kept_so table = kept a b number from after to new result one d to_told table

  abbrev reply : Entry → List ℕ
  reply = copied_behind (length to.store.entries)

  -- an input that is told is the volume's bytes
  input_is : (input : List ℕ) → IsInput ((source_means a).left made) input → input ≡ given_so
  input_is input told =
      over_at ((source_means a).left made) (λ bs. input ≡ bs) given_so told (left_before a b number from after to new result one c
      from_told)

  abbrev given_is_so : GivenBytes c from.store.words (pieces from.store.words one.entry) given_so
  given_is_so = given a b number from after to new result one c from_told

  long_so : length given_so ≡ n
  long_so = long a b number from after to new result one c from_told

  -- ---- it is given

  by_restored : (table : List (List ℕ)) → TableIs d table → has_room_for source e side ≡ true → (read : List Act) →
      Restores c from.store.words (pieces from.store.words one.entry) read Restored →
      (input : List ℕ) → input ≡ given_so → CopiesVolume source e side (copy_acts source e side table input) status.Done
  by_restored table reads room read restores input is =
      inr (
        table,
        reads,
        inr (record {
          room = room;
          bytes = given_so;
          given = given_is_so;
          read = read;
          ending = Restored;
          restores = restores;
          does = ap (copy_acts source e side table) is;
          answered = refl;
        }),
      )

  abbrev before : (table : List (List ℕ)) → (input : List ℕ) → List Act
  before table input = acts_before_entry (kept_so table) (Some n) input

  by_lost : (table : List (List ℕ)) → TableIs d table → has_room_for source e side ≡ true → (read : List Act) (segment lost : ℕ) →
      Restores c from.store.words (pieces from.store.words one.entry) read (LostIn segment lost) →
      (front rest : List Act) → front ++ rest ≡ before table given_so → CopiesVolume source e side front
      (status.From (fault.Lost segment lost))
  by_lost table reads room read segment lost restores front rest parts =
      inr (
        table,
        reads,
        inr (record {
          room = room;
          bytes = given_so;
          given = given_is_so;
          read = read;
          ending = LostIn segment lost;
          restores = restores;
          does = record { rest = rest; parts = parts };
          answered = refl;
        }),
      )

  by_mismatch : (table : List (List ℕ)) → TableIs d table → has_room_for source e side ≡ true → (read : List Act) (segment : ℕ) →
      Restores c from.store.words (pieces from.store.words one.entry) read (MismatchIn segment) →
      (front rest : List Act) → front ++ rest ≡ before table given_so → CopiesVolume source e side front
      (status.From (fault.Mismatch segment))
  by_mismatch table reads room read segment restores front rest parts =
      inr (
        table,
        reads,
        inr (record {
          room = room;
          bytes = given_so;
          given = given_is_so;
          read = read;
          ending = MismatchIn segment;
          restores = restores;
          does = record { rest = rest; parts = parts };
          answered = refl;
        }),
      )

  by_full : (table : List (List ℕ)) → TableIs d table → has_room_for source e side ≡ false →
      CopiesVolume source e side (copy_acts source e side table []) (status.To (fault.Full n (room_in (kept_so table))))
  by_full table reads none = inr (table, reads, inl (record { none = none; does = refl; answered = refl }))

  by_table : (lost : ℕ) → TableSays (table_cells d) (ByCode (LostSectors lost)) → CopiesVolume source e side []
      (status.To (fault.Lost 2 lost))
  by_table lost says = inl (record { lost = lost; says = says; does = refl; answered = refl })

  -- all bytes of the volume were taken
  all_taken : (have : ℕ) (input content : List ℕ) → taking have (Some n) input ≡ Fits content → (source_means a).left one.source ≡
      option_map (drop (length content)) ((source_means a).left made) →
      (read : List Act) × Restores c from.store.words (pieces from.store.words one.entry) read Restored
  all_taken have input content took left =
      let enough = fitting have n input content took in
      let least : n ≤ length input = ltb-false (length input) n enough.long in
      let count : length content ≡ n = sym (ap length enough.taken) ∙ length-take-le n input least in
      taken_restored a b number from after to new result one c from_told
      (subst (λ (k : ℕ). (source_means a).left one.source ≡ option_map (drop k) ((source_means a).left made)) count left)

  content_long : (have : ℕ) (input content : List ℕ) → taking have (Some n) input ≡ Fits content → length content ≡ n
  content_long have input content took =
      let enough = fitting have n input content took in
      let least : n ≤ length input = ltb-false (length input) n enough.long in
      sym (ap length enough.taken) ∙ length-take-le n input least

  -- ---- copied

  pub is_copied : (count : ℕ) → result ≡ Ok count → IsCopied b source e side to.unit.tape new count
  is_copied count ok =
      let adds : AddsOne a b number from after to new result one d to_told count = adds_one a b number from after to new result one d
      to_told count ok in
      let table : List (List ℕ) = adds.is.table in
      let kept_t : Kept = kept_so table in
      let input : List ℕ = adds.is.input in
      let have : ℕ = room_in kept_t in
      let enough = fitting have n input adds.content adds.is.took in
      let size_is : length adds.content ≡ n = content_long have input adds.content adds.is.took in
      let restored = all_taken have input adds.content adds.is.took adds.is.left in
      let acts : List Act = copy_acts source e side table input in
      let entry : Entry = entry_for kept_t e.name e.date adds.content in
      let last : Act = record {
        steps = table_writes (slot_sector (length kept_t.entries)) (table_with kept_t.table (length kept_t.entries) entry);
        text = reply entry;
      } in
      let first : Act = record { steps = kept_t.settling; text = [] } in
      let left : Cartridge = changed_by (steps_of acts) d in
      record {
        acts = acts;
        copies = by_restored table adds.is.reads enough.room restored.0 restored.1 input (input_is input adds.is.is_told);
        did = adds.is.did reply;
        front = first ∷ input_writes kept_t.words kept_t.entries (Some n) input;
        last = last;
        parts = ap (λ (es : List Act). first ∷ (input_writes kept_t.words kept_t.entries (Some n) input ++ es))
            (sym (ap (entry_acts kept_t e.name e.date reply) adds.is.took));
        quiet = input_texts kept_t (Some n) input;
        line = ap (copied_line (length to.store.entries + 1)) (sym adds.count);
        cartridge = left;
        told = told_behind b to.unit.tape new.unit.tape (steps_of acts) d (adds.is.did reply) to_told;
        target = adds_to_target a b number from after to new result one d to_told count target adds reply;
        next =
            let behind : List Entry → List ℕ → Side = λ es ws. record { cartridge = left; words = ws; entries = es } in
            ap (λ (k : ℕ). behind (to.store.entries ++ new_entry (taken_by to.store.words k (free_segments to.store.words to.store.entries))
            e.name e.date k ∷ []) to.store.words) (sym size_is)
            ∙ ap (λ (es : List Entry). behind es to.store.words) (sym adds.more)
            ∙ ap (behind new.store.entries) (sym one.format.words);
      }

  -- ---- refused

  abbrev pub Refused : CopyStatus → Type 0
  Refused answer =
      IsTurned b source e side to.unit.tape new.unit.tape answer
      ⊎ IsUngiven b source e side to.unit.tape new.unit.tape answer
      ⊎ IsUnwritten a b source e side old_outside new_outside answer

  abbrev Ends : Result Appended StoreFault → Type 0
  Ends r = AppendEnds b (source_means a) old_outside new_outside to.store new.store one.entry.name one.entry.date (Some n) r

  -- there is no room: the table is settled alone
  full_same : (table : List (List ℕ)) → has_room_for source e side ≡ false → (input : List ℕ) → copy_acts source e side table input ≡
      copy_acts source e side table []
  full_same table none input =
      full_acts (kept_so table) one.entry.name one.entry.date n none reply input ∙
      sym (full_acts (kept_so table) one.entry.name one.entry.date n none reply [])

  full_quiet : (table : List (List ℕ)) → has_room_for source e side ≡ false → text_of (copy_acts source e side table []) ≡ []
  full_quiet table none = ap text_of (full_acts (kept_so table) one.entry.name one.entry.date n none reply [])

  front_quiet : (table : List (List ℕ)) (front rest : List Act) → front ++ rest ≡ before table given_so → text_of front ≡ []
  front_quiet table front rest parts = begun_text source e side table given_so front (record { rest = rest; parts = parts })

  -- ---- by the source

  module _ (table : List (List ℕ)) (reads : TableIs d table) (room : has_room_for source e side ≡ true) (front rest : List Act)
      (parts : front ++ rest ≡ before table given_so)
      (did : tapes.Done b to.unit.tape new.unit.tape (steps_of front)) where
    ungiven : (read : List Act) (ending : GivingEnd) → Restores c from.store.words (pieces from.store.words one.entry) read ending →
        IsUngiven b source e side to.unit.tape new.unit.tape (status.From fault.Tape)
    ungiven read Restored restores =
        let last : List Act = entry_acts (kept_so table) one.entry.name one.entry.date reply (taking (room_in (kept_so table)) (Some n)
        given_so) in
        record {
          answered = refl;
          acts = copy_acts source e side table given_so;
          ending = status.Done;
          copies = by_restored table reads room read restores given_so refl;
          front = front;
          rest = rest ++ last;
          parts = sym (append_assoc front rest last) ∙ ap (λ (zs : List Act). zs ++ last) parts;
          did = did;
          quiet = front_quiet table front rest parts;
        }
    ungiven read (LostIn segment lost) restores = record {
      answered = refl;
      acts = before table given_so;
      ending = status.From (fault.Lost segment lost);
      copies = by_lost table reads room read segment lost restores (before table given_so) [] (append-nil (before table given_so));
      front = front;
      rest = rest;
      parts = parts;
      did = did;
      quiet = front_quiet table front rest parts;
    }
    ungiven read (MismatchIn segment) restores = record {
      answered = refl;
      acts = before table given_so;
      ending = status.From (fault.Mismatch segment);
      copies = by_mismatch table reads room read segment restores (before table given_so) [] (append-nil (before table given_so));
      front = front;
      rest = rest;
      parts = parts;
      did = did;
      quiet = front_quiet table front rest parts;
    }

    by_source : (o : Option StoreFault) → o ≢ None → IsOfPart o → IsRefusal c from.store.words (pieces from.store.words one.entry) o →
        Refused (append_status fault.Source o)
    by_source None some kind refusal = absurd (some refl)
    by_source (Some fault.Tape) some kind refusal =
        let any = restores_anyway c from.store.words (pieces from.store.words one.entry) in inr (inl (ungiven any.0 any.1 any.2))
    by_source (Some (fault.Lost segment lost)) some kind refusal =
        let found = unread_restored c from.store.words (pieces from.store.words one.entry) (LostIn segment lost) refusal in
        inl (record {
          acts = front;
          copies = by_lost table reads room found.0 segment lost found.1 front rest parts;
          did = did;
          quiet = front_quiet table front rest parts;
          other = λ is. cc;
          plain = refl;
        })
    by_source (Some (fault.Mismatch segment)) some kind refusal =
        let found = unread_restored c from.store.words (pieces from.store.words one.entry) (MismatchIn segment) refusal in
        inl (record {
          acts = front;
          copies = by_mismatch table reads room found.0 segment found.1 front rest parts;
          did = did;
          quiet = front_quiet table front rest parts;
          other = λ is. cc;
          plain = refl;
        })
    by_source (Some f) some kind refusal = absurd kind

  has_fault : Rose 0 one.source.faults → one.source.fault ≢ None
  has_fault risen none = let zero : one.source.faults ≡ 0 = one.sound.counted none in omega (arith, risen, zero)

  from_source : MayAsk b to.unit.tape to.store (Some n) → CutBeforeEntry b (source_means a) old_outside new_outside to.store (Some n)
      SourceFails → Refused (append_status fault.Source one.source.fault)
  from_source may early =
      let reads : TableIs d may.table = tells_at b to.unit.tape (λ f. TableIs f may.table) d to_told may.read in
      let cut : SourceCut b (source_means a) no_sink old_outside new_outside (before may.table early.input) =
      tells_at b to.unit.tape (λ f. (table : List (List ℕ)) → TableIs f table →
      SourceCut b (source_means a) no_sink old_outside new_outside (acts_before_entry (kept_by to.store table (settling_steps table f))
      (Some n) early.input)) d to_told early.told may.table reads in
      by_source may.table reads may.room cut.front cut.rest (cut.parts ∙ ap (before may.table) (input_is early.input early.is_told)) cut.did
      one.source.fault
      (has_fault cut.cause) one.sound.kind (refused_so a b number from after to new result one c from_told)

  -- ---- by the target's tape

  module _ (table : List (List ℕ)) (reads : TableIs d table) (ends : AppendCut b (source_means a) old_outside new_outside to.store
      one.entry.name one.entry.date (Some n) TapeFails) where
    cut_all : TapeCut b (source_means a) no_sink old_outside new_outside (copy_acts source e side table ends.input)
    cut_all =
        tells_at b to.unit.tape (λ f. (t : List (List ℕ)) → TableIs f t → (said : Entry → List ℕ) →
        TapeCut b (source_means a) no_sink old_outside new_outside (append_acts (kept_by to.store t (settling_steps t f)) one.entry.name
        one.entry.date (Some n) said ends.input)) d to_told ends.told table reads reply

    unwritten_full : has_room_for source e side ≡ false → IsUnwritten a b source e side old_outside new_outside (status.To fault.Tape)
    unwritten_full none = record {
      answered = refl;
      acts = copy_acts source e side table [];
      ending = status.To (fault.Full n (room_in (kept_so table)));
      copies = by_full table reads none;
      cut = subst (TapeCut b (source_means a) no_sink old_outside new_outside) (full_same table none ends.input) cut_all;
    }

    unwritten_all : has_room_for source e side ≡ true → (read : List Act) → Restores c from.store.words (pieces from.store.words one.entry)
        read Restored →
        IsUnwritten a b source e side old_outside new_outside (status.To fault.Tape)
    unwritten_all room read restores = record {
      answered = refl;
      acts = copy_acts source e side table ends.input;
      ending = status.Done;
      copies = by_restored table reads room read restores ends.input (input_is ends.input ends.is_told);
      cut = cut_all;
    }

    module _ (room : has_room_for source e side ≡ true) (early : CutBeforeEntry b (source_means a) old_outside new_outside to.store (Some n)
        TapeFails) where
      cut_early : TapeCut b (source_means a) no_sink old_outside new_outside (before table given_so)
      cut_early =
          subst (λ (input : List ℕ). TapeCut b (source_means a) no_sink old_outside new_outside (before table input))
          (input_is early.input early.is_told)
          (tells_at b to.unit.tape (λ f. (t : List (List ℕ)) → TableIs f t →
          TapeCut b (source_means a) no_sink old_outside new_outside (acts_before_entry (kept_by to.store t (settling_steps t f)) (Some n)
          early.input)) d to_told early.told table reads)

      unwritten_early : (read : List Act) (ending : GivingEnd) → Restores c from.store.words (pieces from.store.words one.entry) read
          ending →
          IsUnwritten a b source e side old_outside new_outside (status.To fault.Tape)
      unwritten_early read Restored restores = unwritten_all room read restores
      unwritten_early read (LostIn segment lost) restores = record {
        answered = refl;
        acts = before table given_so;
        ending = status.From (fault.Lost segment lost);
        copies = by_lost table reads room read segment lost restores (before table given_so) [] (append-nil (before table given_so));
        cut = cut_early;
      }
      unwritten_early read (MismatchIn segment) restores = record {
        answered = refl;
        acts = before table given_so;
        ending = status.From (fault.Mismatch segment);
        copies = by_mismatch table reads room read segment restores (before table given_so) [] (append-nil (before table given_so));
        cut = cut_early;
      }

    unwritten : CutBeforeEntry b (source_means a) old_outside new_outside to.store (Some n) TapeFails
        ⊎ (MayAsk b to.unit.tape to.store (Some n) × HasGivenAll (source_means a) made one.source to.store (Some n)) →
        IsUnwritten a b source e side old_outside new_outside (status.To fault.Tape)
    unwritten order = elim (cases_Bool (has_room_for source e side)) [
      | inl enough ↦ elim order [
        | inl early ↦
            let any = restores_anyway c from.store.words (pieces from.store.words one.entry) in unwritten_early enough early any.0 any.1
            any.2
        | inr (may, all) ↦
            let restored = all_taken (room to.store.words to.store.entries) all.input all.bytes all.took all.left in unwritten_all enough
            restored.0 restored.1
      ]
      | inr none ↦ unwritten_full none
    ]

  from_target : (ends : AppendCut b (source_means a) old_outside new_outside to.store one.entry.name one.entry.date (Some n) TapeFails) →
      CutBeforeEntry b (source_means a) old_outside new_outside to.store (Some n) TapeFails
      ⊎ (MayAsk b to.unit.tape to.store (Some n) × HasGivenAll (source_means a) made one.source to.store (Some n)) →
      CutUnread b (source_means a) old_outside new_outside TapeFails → IsUnwritten a b source e side old_outside new_outside
      (status.To fault.Tape)
  from_target ends order unread = elim (listed_reads d to.store.words to.store.entries target.listed target.unprotected) [
    | inl (table, reads, shown) ↦ unwritten table reads ends order
    | inr (lost, says) ↦ record {
      answered = refl;
      acts = [];
      ending = status.To (fault.Lost 2 lost);
      copies = by_table lost says;
      cut = tells_at b to.unit.tape (λ f. ((table : List (List ℕ)) → TableIs f table → ⊥) → TapeCut b (source_means a) no_sink old_outside
          new_outside []) d to_told unread
          (λ table is. not_lost d table lost is says);
    }
  ]

  -- ---- by its fault

  by_fault : SideFits b to → (f : StoreFault) → one.appended ≡ Err f → Ends (Err f) → ListsLast b (source_means a) old_outside new_outside
      to.store (Some n) (Err f) →
      FaultsUnread b (source_means a) old_outside new_outside (Err f) → Refused (append_status f one.source.fault)
  by_fault fits fault.Protected is ends order unread = absurd (never_protected a b number from after to new result one d to_told fits target
      is)
  by_fault fits (fault.Lost segment lost) is ends order unread =
      let at : (ends.2.acts ≡ []) × (one.source ≡ made) × TableSays (table_cells d) (ByCode (LostSectors lost)) =
      tells_at b to.unit.tape (λ f. (ends.2.acts ≡ []) × (one.source ≡ made) × TableSays (table_cells f) (ByCode (LostSectors lost))) d
      to_told ends.2.told in
      inl (record {
        acts = [];
        copies = subst (λ (s : ℕ). CopiesVolume source e side [] (status.To (fault.Lost s lost))) (sym ends.0) (by_table lost at.2);
        did = subst (λ (zs : List Act). tapes.Done b to.unit.tape new.unit.tape (steps_of zs)) at.0 ends.2.went.did;
        quiet = refl;
        other = λ no. cc;
        plain = refl;
      })
  by_fault fits fault.TableMismatch is ends order unread =
      let at : (ends.acts ≡ []) × (one.source ≡ made) × ⊥ = tells_at b to.unit.tape (λ f. (ends.acts ≡ []) × (one.source ≡ made) × ⊥) d
      to_told ends.told in absurd (at.2)
  by_fault fits (fault.Full need have) is ends order unread =
      let ran : AppendIs a b number from after to new result one d to_told (TooLong need have) = append_is a b number from after to new
      result one d to_told (TooLong need have) ends in
      let none = too_long (room_in (kept_so ran.table)) n ran.input need have ran.took in
      inl (record {
        acts = copy_acts source e side ran.table [];
        copies = subst (λ (m : ℕ). CopiesVolume source e side (copy_acts source e side ran.table []) (status.To (fault.Full m have)))
            none.needs
            (subst (λ (m : ℕ). CopiesVolume source e side (copy_acts source e side ran.table []) (status.To (fault.Full n m))) none.has
            (by_full ran.table ran.reads none.none));
        did = subst (λ (zs : List Act). tapes.Done b to.unit.tape new.unit.tape (steps_of zs)) (full_same ran.table none.none ran.input)
            (ran.did reply);
        quiet = full_quiet ran.table none.none;
        other = λ no. cc;
        plain = refl;
      })
  by_fault fits (fault.Short promised read) is ends order unread =
      let ran : AppendIs a b number from after to new result one d to_told (TooShort promised read) = append_is a b number from after to new
      result one d to_told (TooShort promised read) ends in
      let early = too_short (room_in (kept_so ran.table)) n ran.input promised read ran.took in
      let short : length ran.input < n = ltb-true (length ran.input) n early.short in
      let all : length ran.input ≡ n = ap length (input_is ran.input ran.is_told) ∙ long_so in
      absurd (omega (arith, short, all))
  by_fault fits fault.Source is ends order unread = from_source order.0 order.1
  by_fault fits fault.Tape is ends order unread = inr (inr (from_target ends order unread))
  by_fault fits f is ends order unread = absurd ends

  pub is_refused : SideFits b to → (answer : CopyStatus) → result ≡ Err answer → Refused answer
  is_refused fits answer err = by_answer one.appended refl
    where
      by_answer : (r : Result Appended StoreFault) → one.appended ≡ r → Refused answer
      by_answer (Ok appended) is =
          let no : Err answer ≡ append_answer (Ok appended) one.source.fault = sym err ∙ one.is ∙ ap (λ (r : Result Appended StoreFault).
          append_answer r one.source.fault) is in absurd (cc)
      by_answer (Err f) is =
          let same : Err answer ≡ append_answer (Err f) one.source.fault = sym err ∙ one.is ∙ ap (λ (r : Result Appended StoreFault).
          append_answer r one.source.fault) is in
          let named : answer ≡ append_status f one.source.fault = cc in
          subst Refused (sym named)
          (by_fault fits f is (subst Ends is one.ends) (subst (λ r. ListsLast b (source_means a) old_outside new_outside to.store (Some n)
          r) is one.order.entry)
          (subst (λ r. FaultsUnread b (source_means a) old_outside new_outside r) is one.unread))
