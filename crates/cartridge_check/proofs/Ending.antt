-- How a check ends, by how its stages did.
use Rattle.std.proofs.Common.{◌≡◌, ◌≢◌, ◌≤◌, ℕ, ◌+◌, ◌-◌, ◌*◌, Bool, true, false, List, [], ◌∷◌, ◌++◌, length, take, refl, sym, ap}
use Rattle.std.proofs.Common.{◌∙◌, subst, inl, inr, arith, append_assoc, append-nil, Option, Some, None, IfSome, IsSomeAnd, Result, Ok, Err}
use Rattle.std.specs.List.{AllZip, count_by}
use Rattle.std.specs.Option.{option_map_or}
use Rattle.std.specs.Prelude.{◌==◌, ◌&&◌, if◌then◌else◌, codes, decimal}
use Rattle.segment_io.proofs.Going.{tells_always}
use Rattle.cartridge_front.proofs.Copies.{IsLearnt, told_learnt}
use Rattle.cartridge_front.specs.Finding.{HasFormat, FindsHeader, FindsVolumes, ShowsVolumes, Leaves, NamesCause, is_of_mounting}
use Rattle.qic_base.specs.declared.store_fault.StoreFault.{StoreFault}
use Rattle.table_solve.specs.declared.unread.Unread.{Unread}
use Rattle.cartridge_spec.specs.Mounting.{Mounted, Mounts}
use Rattle.cartridge_spec.specs.Table.{Entry}
use Rattle.cartridge_spec.specs.TableSegment.{TableIs}
use Rattle.command_laws.proofs.CommandNumbers.{too_many}
use Rattle.command_spec.specs.Check.{IsTold, MayBeTold, AreLines, IsCheck, Checks, check_line, check_refused, check_status, header_copies}
use Rattle.command_spec.specs.Check.{in_front, is_bad, is_mendable, verdict_acts, verdict_lines}
use Rattle.command_spec.specs.Outcome.{CommandOutcome, HeldOutcome, refused}
use Rattle.command_spec.specs.Scrub.{Looked, looked_at, looked_volumes, whole_segment}
use Rattle.command_spec.specs.declared.status.Status.{Status}
use Rattle.command_spec.specs.declared.verdict.Verdict.{Verdict}
use Rattle.drive_spec.specs.Terms.{is_referenced}
use Rattle.drive_states.specs.Unit.{UnitView}
use Rattle.header_segments.specs.Header.{header_of}
use Rattle.header_segments.specs.declared.header.Header.{Header}
use Rattle.host_driver.specs.Calls.{Keeps}
use Rattle.host_driver.specs.Fits.{Fits, AgreesWithTape, segments_of}
use Rattle.host_driver.specs.declared.host.Host.{Host}
use Rattle.qic_base.proofs.Joins.{text_of-append, went_both, went_then_cut, cut_is_longer, sink_cut_one, nothing_went}
use Rattle.qic_base.proofs.Steps.{Done-before_reads, Done-nothing, Tells-map, Tells-read, tells_two}
use Rattle.qic_base.proofs.Writing.{TakesBoth}
use Rattle.qic_base.specs.Acts.{Act, text_of, Outside, Failing, TapeFails, SinkFails, Went, Cut}
use Rattle.qic_base.specs.Alone.{no_source, around}
use Rattle.qic_base.specs.Cartridge.{Cartridge}
use Rattle.qic_base.specs.declared.TheConstants.{LONGEST}
use Rattle.qic_base.specs.declared.tape.TapeInfo.{TapeInfo}
use Rattle.volume_store.proofs.Refusals.{foreign_is_refused}
use Rattle.volume_store.proofs.Started.{told_before}
use Rattle.cartridge_check.specs.Checking.{CheckCut, CheckEnds, CheckFails, HasChecked, HasHeader, HasTable, TableEnds, TableRefused}
use Rattle.cartridge_check.specs.Checking.{WasRefused, as_check, ended, fault_status, is_refusal, tally_line, tally_status}
use Rattle.cartridge_check.specs.Telling.{HasFew, HasTold, TellingCut, TellsAll}
use Rattle.cartridge_check.specs.declared.fault.CheckFault.{CheckFault}
use Rattle.cartridge_check.specs.declared.tally.Tally.{Tally}
use Rattle.cartridge_check.proofs.Joining.{only_read, read_cut, told_both, told_then_broke, told_then_cut}
use Rattle.cartridge_check.proofs.Parts.{counted_once, lines_join, sound_all, sound_may, text_of_acts, zip_join, zip_length}
use Rattle.cartridge_check.proofs.Stages.{Begins, begins_with_all, begins_with_copies, begins_with_front, checks_all, checks_so, mounts_so}
use Rattle.cartridge_check.proofs.Stages.{refused_header, refused_table}
use Rattle.qic_base.specs.Sink as sinks
use Rattle.qic_base.specs.SinkCalls as sink_calls
use Rattle.qic_base.specs.Tape as tapes
use Rattle.qic_base.specs.TapeCalls as tape_calls
use Rattle.cartridge_check.specs.declared.fault.CheckFault.TheVariants as fault
use Rattle.qic_base.specs.declared.store_fault.StoreFault.TheVariants as store
use Rattle.command_spec.specs.declared.status.Status.TheVariants as status

-- ---- the cartridge that is there

-- there is one where the tape tells, with reference bursts or without
abbrev pub IsHeld : {T : Type 0} (t : tapes.Meaning T) → T → (bursts : Bool) → Type 0
IsHeld t tape bursts = IfSome (t.told tape) (λ held. IsSomeAnd held (λ c. c.info.referenced ≡ bursts))

held_of : {T : Type 0} (t : tapes.Meaning T) (host : Host) (u : UnitView T) → Fits t host u → AgreesWithTape t u →
    IsHeld t u.tape (is_referenced u.drive.deck)
held_of t host u fits agrees = by_cases u.drive.deck.cartridge (t.told u.tape) fits.cartridge agrees
  where
    by_cases : (cartridge : Option TapeInfo) (held : Option (Option Cartridge)) →
        IsSomeAnd cartridge (λ info. info.segments_per_track ≡ segments_of host) →
        IfSome cartridge (λ info. IfSome held (λ there. IsSomeAnd there (λ c. c.info ≡ info))) →
        IfSome held (λ h. IsSomeAnd h
        (λ c. c.info.referenced ≡ option_map_or (λ (info : TapeInfo). info.referenced) cartridge false))
    by_cases None held long known = absurd long
    by_cases (Some info) None long known = tt
    by_cases (Some info) (Some None) long known = absurd known
    by_cases (Some info) (Some (Some c)) long known = ap (λ (i : TapeInfo). i.referenced) known

pub is_held : {T : Type 0} (t : tapes.Meaning T) (host : Host) (u : UnitView T) (bursts : Bool) → Fits t host u → AgreesWithTape t u →
    is_referenced u.drive.deck ≡ bursts → IsHeld t u.tape bursts
is_held t host u bursts fits agrees is = subst (IsHeld t u.tape) is (held_of t host u fits agrees)

-- what is told of a cartridge holds of what is held
held_map : {T : Type 0} (t : tapes.Meaning T) (tape : T) (bursts : Bool) (P : Cartridge → Type 0) (Q : Option Cartridge → Type 0) →
    IsHeld t tape bursts → ((c : Cartridge) → c.info.referenced ≡ bursts → P c → Q (Some c)) → tape_calls.Tells t tape P →
    IfSome (t.told tape) Q
held_map t tape bursts P Q there follows told = by_told (t.told tape) there told
  where
    by_told : (o : Option (Option Cartridge)) → IfSome o (λ held. IsSomeAnd held (λ c. c.info.referenced ≡ bursts)) →
        IfSome o (λ held. IfSome held P) → IfSome o Q
    by_told None there told = tt
    by_told (Some None) there told = absurd there
    by_told (Some (Some c)) there told = follows c there told

-- ---- lines

lines_of : (looked : List Looked) (vs : List Verdict) → AllZip MayBeTold looked vs →
    AreLines looked (text_of (verdict_acts looked vs ++ []))
lines_of looked vs may = record {
  verdicts = vs;
  may = may;
  lines = ap text_of (append-nil (verdict_acts looked vs)) ∙ text_of_acts looked vs;
}

-- the lines of the header copies are those of all in front, if the table's segment is sound
lines_before : (vs : List Verdict) → AllZip MayBeTold header_copies vs → AreLines in_front (text_of (verdict_acts header_copies vs ++ []))
lines_before vs may =
    let table : List Looked = whole_segment 2 ∷ [] in
    record {
      verdicts = vs ++ sound_all table;
      may = zip_join MayBeTold header_copies table vs (sound_all table) may (sound_may table);
      lines = ap text_of (append-nil (verdict_acts header_copies vs)) ∙ text_of_acts header_copies vs
          ∙ sym (append-nil (verdict_lines header_copies vs))
          ∙ sym (lines_join header_copies table vs (sound_all table) (zip_length MayBeTold header_copies vs may));
    }

-- the lines of some segments are a front of those of all
front_of : (looked more : List Looked) (words : List ℕ) (entries : List Entry) (vs : List Verdict) →
    looked ++ more ≡ looked_at words entries → AllZip MayBeTold looked vs →
    (rest : List ℕ) × ((answer : Status) × IsCheck answer (text_of (verdict_acts looked vs) ++ rest))
front_of looked more words entries vs is may =
    let all : List Verdict = vs ++ sound_all more in
    let line : List ℕ = check_line (length (looked_at words entries)) all in
    let behind : List ℕ = verdict_lines more (sound_all more) in (
      behind ++ line,
      (
        check_status all,
        record {
          words = words;
          entries = entries;
          verdicts = all;
          may = subst (λ (ls : List Looked). AllZip MayBeTold ls all) is
              (zip_join MayBeTold looked more vs (sound_all more) may (sound_may more));
          lines = ap (λ (text : List ℕ). text ++ (behind ++ line)) (text_of_acts looked vs)
              ∙ sym (append_assoc (verdict_lines looked vs) behind line)
              ∙ ap (λ (text : List ℕ). text ++ line)
              (sym (lines_join looked more vs (sound_all more) (zip_length MayBeTold looked vs may))
              ∙ ap (λ (ls : List Looked). verdict_lines ls all) is);
          answered = refl;
        },
      ),
    )

-- ---- what was done in front

-- the lines of the header copies went, and the header was read on a cartridge that the host has learnt
pub record Begun {T K : Type 0} (t : tapes.Meaning T) (k : sinks.Meaning K) (host : Host) (words : List ℕ) (a b : Outside T (Unit {0}) K)
    (before after : Tally) : Type 0 where
  pub there : IsHeld t a.tape true
  pub learnt : tape_calls.Tells t a.tape (IsLearnt host)
  pub header : HasHeader t k words a b before after

-- the cartridge mounts with these words and this list
abbrev pub MountsWith : (words : List ℕ) (table : List (List ℕ)) (entries : List Entry) → Cartridge → Type 0
MountsWith words table entries c = (header : Header) × Mounts c (Mounted (header_of header) words table entries)

-- the lines in front went, and the cartridge mounts
pub record InFront {T K : Type 0} (t : tapes.Meaning T) (k : sinks.Meaning K) (words : List ℕ) (table : List (List ℕ))
    (entries : List Entry) (a b : Outside T (Unit {0}) K) (before after : Tally) : Type 0 where
  pub there : IsHeld t a.tape true
  pub lines : HasTold t k in_front a b before after
  pub mounts : tape_calls.Tells t a.tape (MountsWith words table entries)

-- the line of three counts, and the answer by two of them
abbrev numbers_line : (segments mendable bad : ℕ) → List ℕ
numbers_line segments mendable bad =
    codes "check " ++ decimal segments ++ codes " " ++ decimal mendable ++ codes " " ++ decimal bad ++ codes "\n"

abbrev numbers_status : (mendable bad : ℕ) → Status
numbers_status mendable bad = if mendable == 0 && bad == 0 then status.Done else status.Unsound mendable bad

module _ {T K : Type 0} (t : tapes.Meaning T) (k : sinks.Meaning K) where
  -- ---- a call that only reads

  went_read : (acts : List Act) (a : Outside T (Unit {0}) K) (b c : T) (s : K) → tapes.Done t b c [] →
      Went t no_source k a (around b s) acts → Went t no_source k a (around c s) acts
  went_read acts a b c s read went = record {
    did = Done-before_reads went.did read;
    wrote = went.wrote;
    source_later = went.source_later;
  }

  told_read : (looked : List Looked) (a : Outside T (Unit {0}) K) (b c : T) (s : K) (before after : Tally) → tapes.Done t b c [] →
      HasTold t k looked a (around b s) before after → HasTold t k looked a (around c s) before after
  told_read looked a b c s before after read lines = record {
    verdicts = lines.verdicts;
    told = lines.told;
    may = lines.may;
    went = went_read (verdict_acts looked lines.verdicts) a b c s read lines.went;
    counted = lines.counted;
  }

  -- no act behind the lines
  ended_went : (looked : List Looked) (vs : List Verdict) (a b : Outside T (Unit {0}) K) → Went t no_source k a b (verdict_acts looked vs) →
      Went t no_source k a b (verdict_acts looked vs ++ [])
  ended_went looked vs a b went = subst (Went t no_source k a b) (sym (append-nil (verdict_acts looked vs))) went

  -- ---- cut off

  -- its outcomes begin with the lines that were cut off
  cut_off : (looked more : List Looked) (words : List ℕ) (entries : List Entry) (P : Cartridge → Type 0) (a b : Outside T (Unit {0}) K)
      (failing : Failing) → looked ++ more ≡ looked_at words entries → IsHeld t a.tape true → tape_calls.Tells t a.tape P →
      ((c : Cartridge) → c.info.referenced ≡ true → P c → (o : CommandOutcome) → Checks c o → Begins c looked o) →
      TellingCut t k looked a b failing → CheckCut t k a b failing
  cut_off looked more words entries P a b failing is there known begins cut = record {
    told = held_map t a.tape true
        (λ c. P c × ((us : List Verdict) → AllZip (IsTold c) looked us → Cut t no_source k a b (verdict_acts looked us) failing))
        (λ held. (o : CommandOutcome) → HeldOutcome Checks held o → Cut t no_source k a b o.acts failing) there
        (λ c bursts both o does.
        let front : Begins c looked o = begins c bursts both.0 o does in
        subst (λ (acts : List Act). Cut t no_source k a b acts failing) front.parts
        (cut_is_longer t no_source k a b (verdict_acts looked front.verdicts) front.rest failing (both.1 front.verdicts front.told)))
        (tells_two t a.tape P
        (λ c. (us : List Verdict) → AllZip (IsTold c) looked us → Cut t no_source k a b (verdict_acts looked us) failing)
        (λ c. P c × ((us : List Verdict) → AllZip (IsTold c) looked us → Cut t no_source k a b (verdict_acts looked us) failing))
        (λ c one two. (one, two)) known cut.told);
    acts = verdict_acts looked cut.verdicts;
    cut = cut.cut;
    front = front_of looked more words entries cut.verdicts is cut.may;
  }

  copies_cut : (a b : Outside T (Unit {0}) K) (failing : Failing) → IsHeld t a.tape true → TellingCut t k header_copies a b failing →
      CheckCut t k a b failing
  copies_cut a b failing there cut =
      cut_off header_copies (whole_segment 2 ∷ []) [] [] (λ c. Unit {0}) a b failing refl there
      (tells_always t a.tape (λ c. Unit {0}) (λ c. tt))
      (λ c bursts known o does. begins_with_copies c o bursts does) cut

  front_cut : (words : List ℕ) (a b : Outside T (Unit {0}) K) (failing : Failing) → IsHeld t a.tape true →
      tape_calls.Tells t a.tape (λ c. (header : Header) × HasFormat c words header) → TellingCut t k in_front a b failing →
      CheckCut t k a b failing
  front_cut words a b failing there format cut =
      cut_off in_front [] [] [] (λ c. (header : Header) × HasFormat c words header) a b failing refl there format
      (λ c bursts has o does. begins_with_front c words has.0 o has.1 does) cut

  all_cut : (words : List ℕ) (table : List (List ℕ)) (entries : List Entry) (a b : Outside T (Unit {0}) K) (failing : Failing) →
      IsHeld t a.tape true → tape_calls.Tells t a.tape (MountsWith words table entries) →
      TellingCut t k (looked_at words entries) a b failing → CheckCut t k a b failing
  all_cut words table entries a b failing there mounts cut =
      cut_off (looked_at words entries) [] words entries (MountsWith words table entries) a b failing
      (append-nil (looked_at words entries)) there mounts
      (λ c bursts has o does. begins_with_all c words has.0 table entries has.1 o does) cut

  -- ---- the header

  -- the lines of its copies were cut off
  pub copies_failed : (a b : Outside T (Unit {0}) K) (before after : Tally) (why : CheckFault) → IsHeld t a.tape true →
      TellsAll t k header_copies a b before after (Err why) → CheckFails t k a b why
  copies_failed a b before after fault.Sink there cut = copies_cut a b SinkFails there cut
  copies_failed a b before after fault.Tape there cut = copies_cut a b TapeFails there cut
  copies_failed a b before after why there cut = absurd cut

  module _ (n : ℕ) (words : List ℕ) (a : Outside T (Unit {0}) K) (b c : T) (s : K) (before after : Tally) (there : IsHeld t a.tape true)
      (lines : HasTold t k header_copies a (around b s) before after) where
    header_turned : (f : StoreFault) → tapes.Done t b c [] → tape_calls.Tells t b (λ d. FindsHeader d words (Err f)) →
        check_refused (fault_status (as_check f)) (text_of (verdict_acts header_copies lines.verdicts ++ [])) →
        is_refusal (as_check f) ≡ true → WasRefused t k a (around c s) (as_check f)
    header_turned f read found prints sound =
        let Lines : Cartridge → Type 0 = λ d. AllZip (IsTold d) header_copies lines.verdicts in
        let Finds : Cartridge → Type 0 = λ d. FindsHeader d words (Err f) in
        record {
          acts = verdict_acts header_copies lines.verdicts ++ [];
          went = ended_went header_copies lines.verdicts a (around c s)
              (went_read (verdict_acts header_copies lines.verdicts) a b c s read lines.went);
          told = held_map t a.tape true (λ d. Lines d × Finds d)
              (λ held. HeldOutcome Checks held
              (ended (verdict_acts header_copies lines.verdicts ++ []) (fault_status (as_check f)))) there
              (λ d bursts both. refused_header d words f lines.verdicts bursts both.1 both.0)
              (tells_two t a.tape Lines Finds (λ d. Lines d × Finds d) (λ d one two. (one, two)) lines.told
              (Tells-read Finds (only_read t k header_copies lines.verdicts a (around b s) lines.went) found));
          prints = prints;
          sound = sound;
        }

    pub header_read : (header : Header) → tapes.Done t b c [] → tape_calls.Tells t b (λ d. FindsHeader d words (Ok header)) →
        HasHeader t k words a (around c s) before after
    header_read header read found =
        let Has : Cartridge → Type 0 = λ d. HasFormat d words header in
        record {
          lines = told_read header_copies a b c s before after read lines;
          format = Tells-map t a.tape Has (λ d. (h : Header) × HasFormat d words h) (λ d has. (header, has))
              (Tells-read Has (only_read t k header_copies lines.verdicts a (around b s) lines.went) found);
        }

    pub header_failed : (f : StoreFault) → TakesBoth k → ((x : K) → k.took x [] x) → Leaves {A = Header} t b c [] (Err f) →
        (f ≢ store.Tape → tape_calls.Tells t b (λ d. FindsHeader d words (Err f))) → is_of_mounting f ≡ true →
        NamesCause {A = Header} n (Err f) → CheckFails t k a (around c s) (as_check f)
    header_failed store.Tape both nothing broke found kind cause =
        copies_cut a (around c s) TapeFails there (told_then_broke t k both nothing header_copies a b c s before after lines broke)
    header_failed store.NotFormatted both nothing read found kind cause =
        header_turned store.NotFormatted read (found (λ is. cc)) (inr (lines_of header_copies lines.verdicts lines.may)) refl
    header_failed (store.Foreign field value) both nothing read found kind cause =
        header_turned (store.Foreign field value) read (found (λ is. cc)) (inl (lines_of header_copies lines.verdicts lines.may))
        (foreign_is_refused n field value cause)
    header_failed (store.Lost segment lost) both nothing read found kind cause =
        header_turned (store.Lost segment lost) read (found (λ is. cc)) (lines_before lines.verdicts lines.may) (too_many lost cause.1)
    header_failed store.TableMismatch both nothing read found kind cause =
        header_turned store.TableMismatch read (found (λ is. cc)) (lines_before lines.verdicts lines.may) refl
    header_failed f both nothing read found kind cause = absurd (cc)

  -- ---- the table

  -- the line of its segment was cut off
  pub line_failed : (last : ℕ) (sectors : List (List ℕ)) (entries : List Entry) (a b : Outside T (Unit {0}) K) (before after : Tally)
      (why : CheckFault) → TellsAll t k (whole_segment 2 ∷ []) a b before after (Err why) →
      TableEnds t k last sectors entries a b before after (Err why)
  line_failed last sectors entries a b before after fault.Sink cut = cut
  line_failed last sectors entries a b before after fault.Tape cut = cut
  line_failed last sectors entries a b before after why cut = absurd cut

  module _ (n last : ℕ) (sectors : List (List ℕ)) (entries : List Entry) (a : Outside T (Unit {0}) K) (b c : T) (s : K)
      (before after : Tally) (lines : HasTold t k (whole_segment 2 ∷ []) a (around b s) before after) where
    table_turned : (f : StoreFault) → f ≢ store.NotFormatted → tapes.Done t b c [] →
        tape_calls.Tells t b (λ d. FindsVolumes d last sectors entries (Err f)) →
        is_refusal (as_check f) ≡ true → TableRefused t k last sectors entries a (around c s) before after (as_check f)
    table_turned f formatted read found sound = record {
      lines = told_read (whole_segment 2 ∷ []) a b c s before after read lines;
      cause = f;
      is = refl;
      formatted = formatted;
      refuses = Tells-read (λ d. FindsVolumes d last sectors entries (Err f))
          (only_read t k (whole_segment 2 ∷ []) lines.verdicts a (around b s) lines.went) found;
      sound = sound;
    }

    pub table_read : (unread : Unread) → tapes.Done t b c [] →
        tape_calls.Tells t b (λ d. FindsVolumes d last sectors entries (Ok unread)) →
        HasTable t k last sectors entries a (around c s) before after
    table_read unread read found =
        let Finds : Cartridge → Type 0 = λ d. FindsVolumes d last sectors entries (Ok unread) in
        record {
          lines = told_read (whole_segment 2 ∷ []) a b c s before after read lines;
          volumes = Tells-map t a.tape Finds
              (λ d. TableIs d (take 29 sectors) × ShowsVolumes (take 29 sectors) last entries) (λ d has. (has.table, has.volumes))
              (Tells-read Finds (only_read t k (whole_segment 2 ∷ []) lines.verdicts a (around b s) lines.went) found);
        }

    pub table_failed : (f : StoreFault) → TakesBoth k → ((x : K) → k.took x [] x) → Leaves {A = Unread} t b c [] (Err f) →
        (f ≢ store.Tape → tape_calls.Tells t b (λ d. FindsVolumes d last sectors entries (Err f))) → is_of_mounting f ≡ true →
        f ≢ store.NotFormatted → NamesCause {A = Unread} n (Err f) →
        TableEnds t k last sectors entries a (around c s) before after (Err (as_check f))
    table_failed store.Tape both nothing broke found kind formatted cause =
        told_then_broke t k both nothing (whole_segment 2 ∷ []) a b c s before after lines broke
    table_failed store.NotFormatted both nothing read found kind formatted cause = absurd (formatted refl)
    table_failed (store.Foreign field value) both nothing read found kind formatted cause =
        table_turned (store.Foreign field value) formatted read (found (λ is. cc)) (foreign_is_refused n field value cause)
    table_failed (store.Lost segment lost) both nothing read found kind formatted cause =
        table_turned (store.Lost segment lost) formatted read (found (λ is. cc)) (too_many lost cause.1)
    table_failed store.TableMismatch both nothing read found kind formatted cause =
        table_turned store.TableMismatch formatted read (found (λ is. cc)) refl
    table_failed f both nothing read found kind formatted cause = absurd (cc)

  -- ---- both, one behind the other

  abbrev pub HasSomeFormat : (words : List ℕ) → Cartridge → Type 0
  HasSomeFormat words c = (header : Header) × HasFormat c words header

  front_told : TakesBoth k → (words : List ℕ) (a b c : Outside T (Unit {0}) K) (before between after : Tally) →
      HasHeader t k words a b before between → HasTold t k (whole_segment 2 ∷ []) b c between after → HasTold t k in_front a c before after
  front_told both words a b c before between after header lines =
      told_both t k both header_copies (whole_segment 2 ∷ []) a b c before between after header.lines lines

  -- .. by what the host has learnt
  pub begun : {known host : Host} {u v : UnitView T} {x y : K} {words : List ℕ} {before between : Tally} → Fits t known u →
      AgreesWithTape t u → is_referenced u.drive.deck ≡ true → Keeps t host u v →
      HasHeader t k words (around u.tape x) (around v.tape y) before between →
      Begun t k host words (around u.tape x) (around v.tape y) before between
  begun {known} {host} {u} {v} {x} {y} fits agrees referenced keeps header = record {
    there = is_held t known u true fits agrees referenced;
    learnt = Tells-read (IsLearnt host)
        (only_read t k header_copies header.lines.verdicts (around u.tape x) (around v.tape y) header.lines.went)
        (told_learnt t host v keeps.ready.fits (keeps.agrees agrees));
    header = header;
  }

  module _ (host : Host) (words : List ℕ) (sectors : List (List ℕ)) (entries : List Entry) (a b c : Outside T (Unit {0}) K)
      (before between after : Tally) (first : Begun t k host words a b before between) where
    front_refused : (f : StoreFault) → TakesBoth k → HasTold t k (whole_segment 2 ∷ []) b c between after →
        tape_calls.Tells t b.tape (λ d. FindsVolumes d (28 * segments_of host - 1) sectors entries (Err f)) →
        ((vs : List Verdict) → AllZip MayBeTold in_front vs →
        check_refused (fault_status (as_check f)) (text_of (verdict_acts in_front vs ++ []))) →
        is_refusal (as_check f) ≡ true → WasRefused t k a c (as_check f)
    front_refused f both lines refuses prints sound =
        let front : HasTold t k in_front a c before after = front_told both words a b c before between after first.header lines in
        let vs : List Verdict = front.verdicts in
        let Known : Cartridge → Type 0 = λ d. IsLearnt host d × HasSomeFormat words d in
        let Finds : Cartridge → Type 0 = λ d. FindsVolumes d (28 * segments_of host - 1) sectors entries (Err f) in
        let Lines : Cartridge → Type 0 = λ d. AllZip (IsTold d) in_front vs in
        let known : tape_calls.Tells t a.tape Known =
        tells_two t a.tape (IsLearnt host) (HasSomeFormat words) Known (λ d one two. (one, two)) first.learnt first.header.format in
        let found : tape_calls.Tells t a.tape (λ d. Lines d × Finds d) =
        tells_two t a.tape Lines Finds (λ d. Lines d × Finds d) (λ d one two. (one, two)) front.told
        (Tells-read Finds (only_read t k header_copies first.header.lines.verdicts a b first.header.lines.went) refuses) in
        record {
          acts = verdict_acts in_front vs ++ [];
          went = ended_went in_front vs a c front.went;
          told = held_map t a.tape true (λ d. Known d × (Lines d × Finds d))
              (λ held. HeldOutcome Checks held (ended (verdict_acts in_front vs ++ []) (fault_status (as_check f)))) first.there
              (λ d bursts all. refused_table host d words all.0.1.0 sectors entries f vs all.0.0 all.0.1.1 all.1.1 all.1.0)
              (tells_two t a.tape Known (λ d. Lines d × Finds d) (λ d. Known d × (Lines d × Finds d)) (λ d one two. (one, two))
              known found);
          prints = prints vs front.may;
          sound = sound;
        }

    by_cause : (f : StoreFault) → TakesBoth k → HasTold t k (whole_segment 2 ∷ []) b c between after → f ≢ store.NotFormatted →
        tape_calls.Tells t b.tape (λ d. FindsVolumes d (28 * segments_of host - 1) sectors entries (Err f)) →
        is_refusal (as_check f) ≡ true → CheckFails t k a c (as_check f)
    by_cause store.NotFormatted both lines formatted refuses sound = absurd (formatted refl)
    by_cause (store.Foreign field value) both lines formatted refuses sound =
        front_refused (store.Foreign field value) both lines refuses (λ vs may. inr (lines_of in_front vs may)) sound
    by_cause (store.Lost segment lost) both lines formatted refuses sound =
        front_refused (store.Lost segment lost) both lines refuses (λ vs may. lines_of in_front vs may) sound
    by_cause store.TableMismatch both lines formatted refuses sound =
        front_refused store.TableMismatch both lines refuses (λ vs may. lines_of in_front vs may) sound
    by_cause f both lines formatted refuses sound = absurd (cc)

    turned : (why : CheckFault) → TakesBoth k → TableRefused t k (28 * segments_of host - 1) sectors entries b c between after why →
        CheckFails t k a c why
    turned why both refused =
        subst (CheckFails t k a c) (sym refused.is)
        (by_cause refused.cause both refused.lines refused.formatted refused.refuses (ap is_refusal (sym refused.is) ∙ refused.sound))

    pub front_failed : (why : CheckFault) → TakesBoth k →
        TableEnds t k (28 * segments_of host - 1) sectors entries b c between after (Err why) → CheckFails t k a c why
    front_failed fault.Sink both cut =
        front_cut words a c SinkFails first.there first.header.format
        (told_then_cut t k both header_copies (whole_segment 2 ∷ []) a b c before between SinkFails first.header.lines cut)
    front_failed fault.Tape both cut =
        front_cut words a c TapeFails first.there first.header.format
        (told_then_cut t k both header_copies (whole_segment 2 ∷ []) a b c before between TapeFails first.header.lines cut)
    front_failed fault.NoCartridge both refused = turned fault.NoCartridge both refused
    front_failed fault.NotFormatted both refused = turned fault.NotFormatted both refused
    front_failed (fault.Foreign field value) both refused = turned (fault.Foreign field value) both refused
    front_failed (fault.Lost lost) both refused = turned (fault.Lost lost) both refused
    front_failed fault.TableMismatch both refused = turned fault.TableMismatch both refused

    -- the table was read, so that the cartridge mounts
    front_mounts : HasTable t k (28 * segments_of host - 1) sectors entries b c between after →
        tape_calls.Tells t a.tape (MountsWith words (take 29 sectors) entries)
    front_mounts table =
        let Known : Cartridge → Type 0 = λ d. IsLearnt host d × HasSomeFormat words d in
        let Reads : Cartridge → Type 0 = λ d. TableIs d (take 29 sectors)
        × ShowsVolumes (take 29 sectors) (28 * segments_of host - 1) entries in
        tells_two t a.tape Known Reads (MountsWith words (take 29 sectors) entries)
        (λ d known reads. (
          known.1.0,
          mounts_so host d words known.1.0 (take 29 sectors) entries known.0 known.1.1 reads.0 reads.1,
        ))
        (tells_two t a.tape (IsLearnt host) (HasSomeFormat words) Known (λ d one two. (one, two)) first.learnt first.header.format)
        (Tells-read Reads (only_read t k header_copies first.header.lines.verdicts a b first.header.lines.went) table.volumes)

    front_done : TakesBoth k → HasTable t k (28 * segments_of host - 1) sectors entries b c between after →
        InFront t k words (take 29 sectors) entries a c before after
    front_done both table = record {
      there = first.there;
      lines = front_told both words a b c before between after first.header table.lines;
      mounts = front_mounts table;
    }

  -- the header and the table were read, by what the host has learnt
  pub front_read : (c : Outside T (Unit {0}) K) {known host : Host} {u v : UnitView T} {x y : K} {words : List ℕ}
      {sectors : List (List ℕ)} {entries : List Entry} {before between after : Tally} → Fits t known u → AgreesWithTape t u →
      is_referenced u.drive.deck ≡ true → Keeps t host u v → HasHeader t k words (around u.tape x) (around v.tape y) before between →
      TakesBoth k → HasTable t k (28 * segments_of host - 1) sectors entries (around v.tape y) c between after →
      InFront t k words (take 29 sectors) entries (around u.tape x) c before after
  front_read c {known} {host} {u} {v} {x} {y} {words} {sectors} {entries} fits agrees referenced keeps header both table =
      front_done host words sectors entries (around u.tape x) (around v.tape y) c _ _ _
      (begun fits agrees referenced keeps header) both table

  -- ---- the volumes and the counts

  module _ (b c : Outside T (Unit {0}) K) {words : List ℕ} {table : List (List ℕ)} {entries : List Entry}
      {a : Outside T (Unit {0}) K} {none between : Tally} (front : InFront t k words table entries a b none between) where
    pub volumes_failed : (after : Tally) (why : CheckFault) → TakesBoth k →
        TellsAll t k (looked_volumes words entries) b c between after (Err why) → CheckFails t k a c why
    volumes_failed after fault.Sink both cut =
        all_cut words table entries a c SinkFails front.there front.mounts
        (told_then_cut t k both in_front (looked_volumes words entries) a b c none between SinkFails front.lines cut)
    volumes_failed after fault.Tape both cut =
        all_cut words table entries a c TapeFails front.there front.mounts
        (told_then_cut t k both in_front (looked_volumes words entries) a b c none between TapeFails front.lines cut)
    volumes_failed after why both cut = absurd cut

    module _ (tally : Tally) (few : HasFew 0 none) (both : TakesBoth k)
        (told : HasTold t k (looked_volumes words entries) b c between tally) where
      -- the lines of all segments went
      abbrev lines : HasTold t k (looked_at words entries) a c none tally
      lines = told_both t k both in_front (looked_volumes words entries) a b c none between tally front.lines told

      abbrev all : List Looked
      all = looked_at words entries

      abbrev vs : List Verdict
      vs = lines.verdicts

      abbrev last : Act
      last = record { steps = []; text = check_line (length all) vs }

      counts_are : tally_line tally ≡ check_line (length all) vs
      counts_are =
          let each : length vs ≡ length all = zip_length MayBeTold all vs lines.may in
          let low = few.segments in
          let mend = few.mendable in
          let bads = few.bad in
          let segments : tally.segments ≡ length all = (let e = lines.counted.segments in omega arith) in
          let mendable : tally.mendable ≡ count_by is_mendable vs = (let e = lines.counted.mendable in omega arith) in
          let bad : tally.bad ≡ count_by is_bad vs = (let e = lines.counted.bad in omega arith) in
          ap (λ (n : ℕ). numbers_line n tally.mendable tally.bad) segments
          ∙ ap (λ (n : ℕ). numbers_line (length all) n tally.bad) mendable
          ∙ ap (numbers_line (length all) (count_by is_mendable vs)) bad

      status_is : tally_status tally ≡ check_status vs
      status_is =
          let low = few.segments in
          let mend = few.mendable in
          let bads = few.bad in
          let mendable : tally.mendable ≡ count_by is_mendable vs = (let e = lines.counted.mendable in omega arith) in
          let bad : tally.bad ≡ count_by is_bad vs = (let e = lines.counted.bad in omega arith) in
          ap (λ (n : ℕ). numbers_status n tally.bad) mendable ∙ ap (numbers_status (count_by is_mendable vs)) bad

      text_is : text_of (verdict_acts all vs ++ last ∷ []) ≡ verdict_lines all vs ++ check_line (length all) vs
      text_is =
          text_of-append (verdict_acts all vs) (last ∷ [])
          ∙ ap (λ (text : List ℕ). text_of (verdict_acts all vs) ++ text) (append-nil (check_line (length all) vs))
          ∙ ap (λ (text : List ℕ). text ++ check_line (length all) vs) (text_of_acts all vs)

      is_check : IsCheck (check_status vs) (text_of (verdict_acts all vs ++ last ∷ []))
      is_check = record {
        words = words;
        entries = entries;
        verdicts = vs;
        may = lines.may;
        lines = text_is;
        answered = refl;
      }

      few_counted : length all ≤ 28 * LONGEST → tally.mendable + tally.bad ≤ 28 * LONGEST
      few_counted seen =
          let each : length vs ≡ length all = zip_length MayBeTold all vs lines.may in
          let low = few.segments in
          let mend = few.mendable in
          let bads = few.bad in
          let both : count_by is_mendable vs + count_by is_bad vs ≤ length vs = counted_once vs in
          let mendable : tally.mendable ≡ count_by is_mendable vs = (let e = lines.counted.mendable in omega arith) in
          let bad : tally.bad ≡ count_by is_bad vs = (let e = lines.counted.bad in omega arith) in
          omega arith

      pub counts_written : length (looked_at words entries) ≤ 28 * LONGEST → (y : K) → sinks.Wrote k c.sink y (tally_line tally) →
          HasChecked t k a (around c.tape y) tally
      counts_written seen y wrote =
          let went : Went t no_source k c (around c.tape y) (last ∷ []) = record {
            did = Done-nothing t c.tape;
            wrote = subst (sinks.Wrote k c.sink y) (counts_are ∙ sym (append-nil (check_line (length all) vs))) wrote;
            source_later = omega arith;
          } in
          let Lines : Cartridge → Type 0 = λ d. AllZip (IsTold d) all vs in
          let Mounts_so : Cartridge → Type 0 = MountsWith words table entries in
          record {
            acts = verdict_acts all vs ++ last ∷ [];
            went = went_both t no_source k both a c (around c.tape y) (verdict_acts all vs) (last ∷ []) lines.went went;
            told = held_map t a.tape true (λ d. Mounts_so d × Lines d)
                (λ held. HeldOutcome Checks held (ended (verdict_acts all vs ++ last ∷ []) (tally_status tally))) front.there
                (λ d bursts both'. subst (λ (answer : Status). Checks d (ended (verdict_acts all vs ++ last ∷ []) answer)) (sym status_is)
                (checks_all d words both'.0.0 table entries both'.0.1 vs both'.1))
                (tells_two t a.tape Mounts_so Lines (λ d. Mounts_so d × Lines d) (λ d one two. (one, two)) front.mounts lines.told);
            prints = subst (λ (answer : Status). IsCheck answer (text_of (verdict_acts all vs ++ last ∷ []))) (sym status_is) is_check;
            few = few_counted seen;
          }

      pub counts_cut : (y : K) → sink_calls.BrokeOff k c.sink y (tally_line tally) → CheckCut t k a (around c.tape y) SinkFails
      counts_cut y broke =
          let cut : Cut t no_source k c (around c.tape y) (last ∷ []) SinkFails =
          sink_cut_one t no_source k c (around c.tape y) last (Done-nothing t c.tape)
          (subst (sink_calls.BrokeOff k c.sink y) counts_are broke) (omega arith) in
          let whole : Cut t no_source k a (around c.tape y) (verdict_acts all vs ++ last ∷ []) SinkFails =
          went_then_cut t no_source k both a c (around c.tape y) (verdict_acts all vs) (last ∷ []) SinkFails lines.went cut in
          let Lines : Cartridge → Type 0 = λ d. AllZip (IsTold d) all vs in
          let Mounts_so : Cartridge → Type 0 = MountsWith words table entries in
          record {
            told = held_map t a.tape true (λ d. Mounts_so d × Lines d)
                (λ held. (o : CommandOutcome) → HeldOutcome Checks held o → Cut t no_source k a (around c.tape y) o.acts SinkFails)
                front.there
                (λ d bursts both' o does.
                subst (λ (other : CommandOutcome). Cut t no_source k a (around c.tape y) other.acts SinkFails)
                (sym (checks_so d words both'.0.0 table entries both'.0.1 vs o both'.1 does)) whole)
                (tells_two t a.tape Mounts_so Lines (λ d. Mounts_so d × Lines d) (λ d one two. (one, two)) front.mounts lines.told);
            acts = verdict_acts all vs ++ last ∷ [];
            cut = whole;
            front = (
              [],
              (
                check_status vs,
                subst (IsCheck (check_status vs)) (sym (append-nil (text_of (verdict_acts all vs ++ last ∷ [])))) is_check,
              ),
            );
          }

  -- ---- before the first segment

  -- a cartridge without reference bursts
  pub bare : (a : Outside T (Unit {0}) K) → ((x : K) → k.took x [] x) → IsHeld t a.tape false → WasRefused t k a a fault.NotFormatted
  bare a nothing there = record {
    acts = [];
    went = nothing_went t no_source k nothing a;
    told = held_map t a.tape false (λ c. Unit {0}) (λ held. HeldOutcome Checks held (ended [] status.NotFormatted)) there
        (λ c none known. inl (none, refl)) (tells_always t a.tape (λ c. Unit {0}) (λ c. tt));
    prints = inl refl;
    sound = refl;
  }

  -- a fault of the tape broke the insertion off
  pub unstarted : (a b : T) (x : K) → ((y : K) → k.took y [] y) → tapes.Broke t a b [] → CheckCut t k (around a x) (around b x) TapeFails
  unstarted a b x nothing broke = record {
    told = by_told (t.told a);
    acts = [];
    cut = read_cut t k nothing a b x broke;
    front = front_of [] in_front [] [] [] refl tt;
  }
    where
      by_told : (o : Option (Option Cartridge)) → IfSome o (λ held. (outcome : CommandOutcome) → HeldOutcome Checks held outcome →
          Cut t no_source k (around a x) (around b x) outcome.acts TapeFails)
      by_told None = tt
      by_told (Some held) = λ outcome does.
          cut_is_longer t no_source k (around a x) (around b x) [] outcome.acts TapeFails (read_cut t k nothing a b x broke)

  -- the cartridge was put in before
  module _ (a b : T) (x : K) (c : Outside T (Unit {0}) K) (put_in : tapes.Done t a b []) where
    insertion : ((y : K) → k.took y [] y) → Went t no_source k (around a x) (around b x) []
    insertion nothing = record { did = put_in; wrote = record { took = nothing x; later = omega arith }; source_later = omega arith }

    cut_since : TakesBoth k → ((y : K) → k.took y [] y) → (failing : Failing) → CheckCut t k (around b x) c failing →
        CheckCut t k (around a x) c failing
    cut_since both nothing failing cut = record {
      told = told_before t a b put_in
          (λ held. (o : CommandOutcome) → HeldOutcome Checks held o → Cut t no_source k (around a x) c o.acts failing)
          (by_told (t.told b) cut.told);
      acts = cut.acts;
      cut = went_then_cut t no_source k both (around a x) (around b x) c [] cut.acts failing (insertion nothing) cut.cut;
      front = cut.front;
    }
      where
        by_told : (o : Option (Option Cartridge)) →
            IfSome o (λ held. (outcome : CommandOutcome) → HeldOutcome Checks held outcome →
            Cut t no_source k (around b x) c outcome.acts failing) →
            IfSome o (λ held. (outcome : CommandOutcome) → HeldOutcome Checks held outcome →
            Cut t no_source k (around a x) c outcome.acts failing)
        by_told None told = tt
        by_told (Some held) told = λ outcome does.
            went_then_cut t no_source k both (around a x) (around b x) c [] outcome.acts failing (insertion nothing) (told outcome does)

    refused_since : TakesBoth k → ((y : K) → k.took y [] y) → (why : CheckFault) → WasRefused t k (around b x) c why →
        WasRefused t k (around a x) c why
    refused_since both nothing why turned = record {
      acts = turned.acts;
      went = went_both t no_source k both (around a x) (around b x) c [] turned.acts (insertion nothing) turned.went;
      told = told_before t a b put_in (λ held. HeldOutcome Checks held (ended turned.acts (fault_status why))) turned.told;
      prints = turned.prints;
      sound = turned.sound;
    }

    pub ends_since : TakesBoth k → ((y : K) → k.took y [] y) → (r : Result Tally CheckFault) → CheckEnds t k (around b x) c r →
        CheckEnds t k (around a x) c r
    ends_since both nothing (Ok tally) checked = record {
      acts = checked.acts;
      went = went_both t no_source k both (around a x) (around b x) c [] checked.acts (insertion nothing) checked.went;
      told = told_before t a b put_in (λ held. HeldOutcome Checks held (ended checked.acts (tally_status tally))) checked.told;
      prints = checked.prints;
      few = checked.few;
    }
    ends_since both nothing (Err fault.Sink) cut = cut_since both nothing SinkFails cut
    ends_since both nothing (Err fault.Tape) cut = cut_since both nothing TapeFails cut
    ends_since both nothing (Err fault.NoCartridge) turned = refused_since both nothing fault.NoCartridge turned
    ends_since both nothing (Err fault.NotFormatted) turned = refused_since both nothing fault.NotFormatted turned
    ends_since both nothing (Err (fault.Foreign field value)) turned = refused_since both nothing (fault.Foreign field value) turned
    ends_since both nothing (Err (fault.Lost lost)) turned = refused_since both nothing (fault.Lost lost) turned
    ends_since both nothing (Err fault.TableMismatch) turned = refused_since both nothing fault.TableMismatch turned
