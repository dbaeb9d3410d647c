-- What a copy's answer says of one cartridge, where that one is told, and what is left of the source.
use Rattle.std.proofs.Common.{◌≡◌, ◌⊎◌, ℕ, zero, suc, ◌<◌, ◌≤◌, Bool, true, false, List, [], length, Contains, Option, Some, None}
use Rattle.std.proofs.Common.{IsSomeAnd, Ok, Err, refl, ap, sym, subst, ◌∙◌, arith, inl, inr}
use Rattle.std.specs.Option.{option_map}
use Rattle.std.specs.Prelude.{is_some}
use Rattle.std.proofs.lemmas.Bool.{ltb-true}
use Rattle.cartridge_laws.proofs.FormatWriting.{some_and}
use Rattle.cartridge_laws.proofs.MountKeeping.{stopped_stands}
use Rattle.cartridge_spec.specs.Appending.{room}
use Rattle.cartridge_spec.specs.Header.{Header}
use Rattle.cartridge_spec.specs.Mounting.{Mounting, Mounts, settled}
use Rattle.cartridge_spec.specs.Settling.{changed_by, settling_steps}
use Rattle.cartridge_spec.specs.Table.{Entry}
use Rattle.cartridge_spec.specs.Volumes.{Stands, volume_length}
use Rattle.command_laws.proofs.CommandEnds.{LeftBy, each_left, over_at, told_whole}
use Rattle.command_laws.proofs.CopyOutcomes.{IsTarget}
use Rattle.command_laws.proofs.MountedListed.{mounted_listed}
use Rattle.cartridge_laws.proofs.MountSettled.{settled_keeps_table}
use Rattle.command_laws.specs.AppendTerms.{silently}
use Rattle.command_spec.specs.CopyPromises.{EndsAppend, EndsVolume, FromAnswers, FromLeaves, MountingRefuses, MountsSome, SourceStays}
use Rattle.command_spec.specs.CopyPromises.{TakesMore, ToAnswers}
use Rattle.command_spec.specs.Copying.{giving_status}
use Rattle.command_spec.specs.Headline.{EachLeft}
use Rattle.command_spec.specs.Restore.{GivingEnd, LostIn, MismatchIn, Restores, pieces}
use Rattle.qic_base.specs.declared.store_fault.StoreFault.{StoreFault}
use Rattle.command_spec.specs.declared.copy_status.CopyStatus.{CopyStatus}
use Rattle.drive_spec.specs.Terms.{is_protected}
use Rattle.drive_states.specs.Unit.{UnitView}
use Rattle.host_driver.specs.Fits.{deck_of}
use Rattle.qic_base.proofs.Steps.{Done-nothing, Done-told, Torn-all}
use Rattle.qic_base.specs.Acts.{Act, steps_of}
use Rattle.qic_base.specs.Alone.{reading}
use Rattle.qic_base.specs.CartridgeTerms.{IsCartridge}
use Rattle.qic_base.specs.Cartridge.{Cartridge}
use Rattle.qic_base.specs.Step.{Step as TapeStep, Torn, effects}
use Rattle.qic_base.specs.declared.tape.TapeInfo.{TapeInfo}
use Rattle.volume_store.specs.Opening.{HasOpened, OpenFails}
use Rattle.volume_copy.proofs.Answering.{FailsSo, differs_at_most, fails_so}
use Rattle.volume_copy.proofs.Appended.{adds_one, adds_to_target, all_acts, never_protected, side_over, tells_at, told_behind}
use Rattle.volume_copy.proofs.Ends.{AtStart, decks_of}
use Rattle.volume_copy.proofs.Following.{each_left_map}
use Rattle.volume_copy.proofs.Given.{left_before, long, numbered_there, refused_so, unread_restored}
use Rattle.volume_copy.proofs.Filling.{OnlyRead, by_done}
use Rattle.volume_copy.proofs.Goes.{Chained, chained, missing_goes, reads_only, stops_behind, told_behind_reads, too_long, too_short}
use Rattle.volume_copy.proofs.Openings.{OpenedAt, RefusedAs, opened_at, opened_mark, refused_as}
use Rattle.volume_copy.specs.Runs.{CopyView, HasCopied, HasRun, HaveCopied, IsCounted, IsRefused, IsUnlike, IsUnprinted, PrintsCount}
use Rattle.volume_copy.specs.Runs.{RunEnds, Units, append_status, from_status, next_number, to_status}
use Rattle.volume_copy.specs.Source.{IsOfPart, IsRefusal, new_source, source_means}
use Rattle.volume_store.specs.Appending.{AppendEnds}
use Rattle.cartridge_front.specs.Learning.{MountRefuses}
use Rattle.volume_store.specs.Mounting.{IsSettling, StoreView}
use Rattle.cartridge_spec.specs.Mounting as mounting
use Rattle.qic_base.specs.declared.store_fault.StoreFault.TheVariants as fault
use Rattle.command_spec.specs.declared.copy_status.CopyStatus.TheVariants as status
use Rattle.qic_base.specs.Sink as sinks
use Rattle.qic_base.specs.Tape as tapes

-- ---- the openings

abbrev WhereMounted : Type 1
WhereMounted = Cartridge → Header → (words : List ℕ) → (table : List (List ℕ)) → List Entry → Type 0

-- a refusal of the mounting
mount_answers : (f : StoreFault) (held : Option Cartridge) (P : WhereMounted) → IsSomeAnd held (λ c. MountRefuses c f) →
    IsSomeAnd held (λ c. (m : Mounting) × Mounts c m × MountingRefuses m f (P c))
mount_answers f None P none = absurd none
mount_answers f (Some c) P refuses = let how : RefusedAs c f = refused_as c f refuses in (
  how.mounting,
  how.mounts,
  how.is (P c),
)

-- one of what is mounted
mounted_answers : {T : Type 0} (m : tapes.Meaning T) (held : Option Cartridge) (unit : UnitView T) (store : StoreView)
    (steps : List TapeStep) (found : StoreFault) (P : WhereMounted) → (o : OpenedAt m held unit store steps) →
    P o.cartridge store.header store.words o.at.table store.entries → IsSomeAnd held (λ c. (n : Mounting) × Mounts c n × MountingRefuses n
    found (P c))
mounted_answers m held unit store steps found P o is =
    subst (λ (h : Option Cartridge). IsSomeAnd h (λ c. (n : Mounting) × Mounts c n × MountingRefuses n found (P c))) (sym o.is)
    (mounting.Mounted store.header store.words o.at.table store.entries, o.at.mounts, is)

mounts_some : {T : Type 0} (m : tapes.Meaning T) (held : Option Cartridge) (unit : UnitView T) (store : StoreView) (steps : List TapeStep) →
    OpenedAt m held unit store steps → MountsSome held
mounts_some m held unit store steps o =
    subst MountsSome (sym o.is) (store.header, (store.words, (o.at.table, (store.entries, o.at.mounts))))

takes_more : {T : Type 0} (m : tapes.Meaning T) (held : Option Cartridge) (unit : UnitView T) (store : StoreView) (steps : List TapeStep)
    (P : List Entry → Type 0) → (o : OpenedAt m held unit store steps) →
    o.cartridge.info.protected ≡ false → P store.entries → TakesMore held P
takes_more m held unit store steps P o free is =
    subst (λ (h : Option Cartridge). TakesMore h P) (sym o.is)
    (free, (store.header, (store.words, (o.at.table, (store.entries, o.at.mounts, is)))))

broke_torn : {T : Type 0} (t : tapes.Meaning T) (x y : T) (steps : List TapeStep) (held : Option Cartridge) → tapes.Broke t x y steps →
    t.told x ≡ Some held → IsSomeAnd (t.told y) (λ left. Torn steps held left)
broke_torn t x y steps held broke told = by_told (t.told y) (broke.tells ∙ ap is_some told) (λ left is. broke.torn held left told is)
  where
    by_told : (o : Option (Option Cartridge)) → is_some o ≡ true → ((left : Option Cartridge) → o ≡ Some left → Torn steps held left) →
        IsSomeAnd o (λ left. Torn steps held left)
    by_told None some torn = absurd (cc)
    by_told (Some left) some torn = torn left refl

-- it isn't told, where that can't be
never_told : (o : Option (Option Cartridge)) → ((held : Option Cartridge) → o ≡ Some held → ⊥) → o ≡ None
never_told None never = refl
never_told (Some held) never = absurd (never held refl)

from_never_short : (why : Option StoreFault) (promised read : ℕ) → from_status why ≡ status.To (fault.Short promised read) → ⊥
from_never_short None promised read is = cc
from_never_short (Some f) promised read is = cc

to_never_short : {T : Type 0} (t : tapes.Meaning T) (x y : T) (why : Option StoreFault) (promised read : ℕ) → OpenFails t x y why →
    to_status why ≡ status.To (fault.Short promised read) → ⊥
to_never_short t x y None promised read fails is = cc
to_never_short t x y (Some (fault.Short p r)) promised read fails is = let kind = fails.kind in cc
to_never_short t x y (Some f) promised read fails is = cc

module _ {A B K : Type 0} (a : tapes.Meaning A) (b : tapes.Meaning B) (k : sinks.Meaning K) (old new : Units A B K)
    (laws : AtStart a b k (decks_of old)) (answer : CopyStatus) where
  run_chain : (run : HasRun a b k old new answer) → Chained a b k run.begun run.missing.mid
  run_chain run =
      chained a b k laws.both laws.nothing run.missing.count run.begun run.missing.mid run.opened.opened_source.fits
      run.opened.opened_target.fits run.missing.copied

  -- ---- the source

  module _ (held : Option Cartridge) (told : a.told old.from.tape ≡ Some held) where
    from_failed : (why : Option StoreFault) → OpenFails a old.from.tape new.from.tape why → FromAnswers held (from_status why)
    from_failed None fails = over_at (a.told old.from.tape) (λ h. h ≡ None) held fails.1 told
    from_failed (Some fault.Tape) fails = tt
    from_failed (Some fault.NotFormatted) fails =
        mount_answers fault.NotFormatted held (λ c. EndsVolume c fault.NotFormatted)
        (over_at (a.told old.from.tape) (λ h. IsSomeAnd h (λ c. MountRefuses c fault.NotFormatted)) held fails.told told)
    from_failed (Some (fault.Foreign field value)) fails =
        mount_answers (fault.Foreign field value) held (λ c. EndsVolume c (fault.Foreign field value))
        (over_at (a.told old.from.tape) (λ h. IsSomeAnd h (λ c. MountRefuses c (fault.Foreign field value))) held fails.told told)
    from_failed (Some (fault.Lost segment lost)) fails =
        mount_answers (fault.Lost segment lost) held (λ c. EndsVolume c (fault.Lost segment lost))
        (over_at (a.told old.from.tape) (λ h. IsSomeAnd h (λ c. MountRefuses c (fault.Lost segment lost))) held fails.told told)
    from_failed (Some fault.TableMismatch) fails =
        mount_answers fault.TableMismatch held (λ c. EndsVolume c fault.TableMismatch)
        (over_at (a.told old.from.tape) (λ h. IsSomeAnd h (λ c. MountRefuses c fault.TableMismatch)) held fails.told told)
    from_failed (Some f) fails = let kind = fails.kind in absurd (cc)

    from_beside : MountsSome held → (why : Option StoreFault) → FromAnswers held (to_status why)
    from_beside mounts None = mounts
    from_beside mounts (Some f) = mounts

    module _ (run : HasRun a b k old new answer) where
      chain : Chained a b k run.begun run.missing.mid
      chain = run_chain run

      from_at : OpenedAt a held run.begun.from.unit run.begun.from.store run.opened.opened_source.steps
      from_at = opened_at a old.from.tape run.begun.from.unit run.begun.from.store held run.opened.opened_source told

      mounts_from : MountsSome held
      mounts_from = mounts_some a held run.begun.from.unit run.begun.from.store run.opened.opened_source.steps from_at

      abbrev now : Cartridge
      now = settled from_at.at.table from_at.cartridge

      from_now : a.told run.missing.mid.from.unit.tape ≡ Some (Some now)
      from_now = Done-told chain.from ∙ from_at.told

      -- the volume that ended it
      volume_ends : (e : Entry) (found : StoreFault) (read : List Act) (ending : GivingEnd) →
          Contains run.missing.mid.from.store.entries e →
          Restores now run.missing.mid.from.store.words (pieces run.missing.mid.from.store.words e) read ending →
          giving_status ending ≡ status.From found →
          IsSomeAnd held (λ c. (n : Mounting) × Mounts c n × MountingRefuses n found (EndsVolume c found))
      volume_ends e found read ending among restores is =
          mounted_answers a held run.begun.from.unit run.begun.from.store run.opened.opened_source.steps found (λ c. EndsVolume c found)
          from_at (
            e,
            subst (λ (es : List Entry). Contains es e) chain.entries among,
            (read, (ending, subst (λ (ws : List ℕ). Restores now ws (pieces ws e) read ending) chain.words restores, is)),
          )

      from_refused : IsRefused a b run.missing.mid run.ended answer → FromAnswers held answer
      from_refused refused =
          subst (FromAnswers held) (sym so.answered)
          (by_fault so.fault refused.one.source.fault refused.one.sound.kind
          (refused_so a b (next_number run.missing.mid) run.missing.mid.from run.ended.from run.missing.mid.to run.ended.to (Err answer)
          refused.one now from_now))
        where
          so : FailsSo a b (next_number run.missing.mid) run.missing.mid.from run.ended.from run.missing.mid.to run.ended.to answer
              refused.one
          so = fails_so a b (next_number run.missing.mid) run.missing.mid.from run.ended.from run.missing.mid.to run.ended.to answer
              refused.one

          words : List ℕ
          words = run.missing.mid.from.store.words

          among : Contains run.missing.mid.from.store.entries refused.one.entry
          among = numbered_there run.missing.mid.from.store.entries (next_number run.missing.mid) refused.one.entry refused.one.numbered

          by_fault : (f : StoreFault) (o : Option StoreFault) → IsOfPart o →
              IsRefusal now run.missing.mid.from.store.words (pieces run.missing.mid.from.store.words refused.one.entry) o →
              FromAnswers held (append_status f o)
          by_fault fault.Source (Some fault.Tape) kind refusal = tt
          by_fault fault.Source (Some (fault.Lost segment lost)) kind refusal =
              let found = unread_restored now run.missing.mid.from.store.words (pieces run.missing.mid.from.store.words refused.one.entry)
              (LostIn segment lost) refusal in
              volume_ends refused.one.entry (fault.Lost segment lost) found.0 (LostIn segment lost) among found.1 refl
          by_fault fault.Source (Some (fault.Mismatch segment)) kind refusal =
              let found = unread_restored now run.missing.mid.from.store.words (pieces run.missing.mid.from.store.words refused.one.entry)
              (MismatchIn segment) refusal in
              volume_ends refused.one.entry (fault.Mismatch segment) found.0 (MismatchIn segment) among found.1 refl
          by_fault fault.Source (Some f) kind refusal = absurd kind
          by_fault fault.Source None kind refusal = tt
          by_fault f o kind refusal = mounts_from

      from_counted : (found : CopyStatus) → PrintsCount k run.missing.mid.sink run.ended.sink (length run.missing.mid.to.store.entries)
          found → FromAnswers held found
      from_counted status.Done wrote = mounts_from
      from_counted status.SinkFault broke = mounts_from
      from_counted found none = absurd none

      from_run : IsRefused a b run.missing.mid run.ended answer ⊎ IsUnprinted a b k run.missing.mid run.ended answer ⊎
          IsCounted k run.missing.mid run.ended answer → FromAnswers held answer
      from_run (inl refused) = from_refused refused
      from_run (inr (inl unprinted)) = subst (FromAnswers held) (sym unprinted.answered) mounts_from
      from_run (inr (inr counted)) = from_counted answer counted.count

      -- a volume that is told doesn't end early
      not_short : (promised read : ℕ) → answer ≡ status.To (fault.Short promised read) →
          IsRefused a b run.missing.mid run.ended answer ⊎ IsUnprinted a b k run.missing.mid run.ended answer ⊎ IsCounted k run.missing.mid
          run.ended answer → ⊥
      not_short promised read is (inl refused) = by_fault so.fault refused.one.source.fault so.ends (sym so.answered ∙ is)
        where
          so : FailsSo a b (next_number run.missing.mid) run.missing.mid.from run.ended.from run.missing.mid.to run.ended.to answer
              refused.one
          so = fails_so a b (next_number run.missing.mid) run.missing.mid.from run.ended.from run.missing.mid.to run.ended.to answer
              refused.one

          by_fault : (f : StoreFault) (o : Option StoreFault) →
              AppendEnds b (source_means a) (reading run.missing.mid.to.unit.tape (new_source run.missing.mid.from.store
              run.missing.mid.from.unit (next_number run.missing.mid)))
              (reading run.ended.to.unit.tape refused.one.source) run.missing.mid.to.store run.ended.to.store refused.one.entry.name
              refused.one.entry.date (Some (volume_length run.missing.mid.from.store.words refused.one.entry)) (Err f) →
              append_status f o ≡ status.To (fault.Short promised read) → ⊥
          by_fault fault.Source (Some why) ends same = cc
          by_fault fault.Source None ends same = cc
          by_fault (fault.Short p r) o ends same =
              let n : ℕ = volume_length run.missing.mid.from.store.words refused.one.entry in
              let early = too_short _ n ends.input p r ends.took in
              let short : length ends.input < n = ltb-true (length ends.input) n early.short in
              let all : ends.input ≡ _ =
              over_at _ (λ bs. ends.input ≡ bs) _ ends.is_told
              (left_before a b (next_number run.missing.mid) run.missing.mid.from run.ended.from run.missing.mid.to run.ended.to
              (Err answer) refused.one now from_now) in
              let size = long a b (next_number run.missing.mid) run.missing.mid.from run.ended.from run.missing.mid.to run.ended.to
              (Err answer) refused.one now from_now in
              let whole : length ends.input ≡ n = ap length all ∙ size in
              omega (arith, short, whole)
          by_fault f o ends same = cc
      not_short promised read is (inr (inl unprinted)) = let no : status.SinkFault ≡ status.To (fault.Short promised read) =
          sym unprinted.answered ∙ is in cc
      not_short promised read is (inr (inr counted)) = by_count answer counted.count is
        where
          by_count : (found : CopyStatus) → PrintsCount k run.missing.mid.sink run.ended.sink (length run.missing.mid.to.store.entries)
              found → found ≡ status.To (fault.Short promised read) → ⊥
          by_count status.Done wrote same = cc
          by_count status.SinkFault broke same = cc
          by_count found none same = absurd none

    pub run_source : RunEnds a b k old new answer → FromAnswers held answer
    run_source (inl (inl refused, same)) = subst (FromAnswers held) (sym refused.3) (from_failed refused.0 refused.1)
    run_source (inl (inr (inl refused), same)) =
        subst (FromAnswers held) (sym refused.4)
        (from_beside (mounts_some a held new.from refused.0 refused.2.steps (opened_at a old.from.tape new.from refused.0 held refused.2
        told)) refused.1)
    run_source (inl (inr (inr (source, target, opened, opened', inl protected)), same)) =
        subst (FromAnswers held) (sym protected.1) (mounts_some a held new.from source opened.steps (opened_at a old.from.tape new.from
        source held opened told))
    run_source (inl (inr (inr (source, target, opened, opened', inr differs)), same)) =
        subst (FromAnswers held) (sym differs.1.2) (mounts_some a held new.from source opened.steps (opened_at a old.from.tape new.from
        source held opened told))
    run_source (inr run) = from_run run run.missing.ends

    run_never_short : (promised read : ℕ) → answer ≡ status.To (fault.Short promised read) → RunEnds a b k old new answer → ⊥
    run_never_short promised read is (inl (inl refused, same)) = from_never_short refused.0 promised read (sym refused.3 ∙ is)
    run_never_short promised read is (inl (inr (inl refused), same)) = to_never_short b old.to.tape new.to.tape refused.1 promised read
        refused.3 (sym refused.4 ∙ is)
    run_never_short promised read is (inl (inr (inr (source, target, opened, opened', inl protected)), same)) =
        let no : status.To fault.Protected ≡ status.To (fault.Short promised read) = sym protected.1 ∙ is in cc
    run_never_short promised read is (inl (inr (inr (source, target, opened, opened', inr differs)), same)) =
        let no : status.Differs differs.1.0 ≡ status.To (fault.Short promised read) = sym differs.1.2 ∙ is in cc
    run_never_short promised read is (inr run) = not_short run promised read is run.missing.ends

    -- ---- what is left of it

    from_torn : (cartridge : Cartridge) (header : Header) (words : List ℕ) (table : List (List ℕ)) (entries : List Entry)
        (steps : List TapeStep) (left : Option Cartridge) → held ≡ Some cartridge →
        Mounts cartridge (mounting.Mounted header words table entries) → steps ≡ settling_steps table cartridge → Torn steps held left →
        FromLeaves held left
    from_torn cartridge header words table entries steps left is mounts settles torn =
        inr (record {
          cartridge = cartridge;
          is = is;
          header = header;
          words = words;
          table = table;
          entries = entries;
          mounts = mounts;
          torn = subst (λ (ss : List TapeStep). Torn ss held left) settles torn;
        })

    left_done : (steps : List TapeStep) → a.told new.from.tape ≡ option_map (effects steps) (a.told old.from.tape) →
        IsSomeAnd (a.told new.from.tape) (λ left. Torn steps held left)
    left_done steps done =
        subst (λ (o : Option (Option Cartridge)). IsSomeAnd o (λ left. Torn steps held left))
        (sym (done ∙ ap (option_map (effects steps)) told)) (Torn-all steps held)

    -- once it was opened
    left_opened : (unit : UnitView A) (store : StoreView) → (opened : HasOpened a old.from.tape unit store) →
        OnlyRead a unit.tape new.from.tape → LeftBy a old.from.tape new.from.tape held (FromLeaves held)
    left_opened unit store opened read =
        let o : OpenedAt a held unit store opened.steps = opened_at a old.from.tape unit store held opened told in record {
          steps = opened.steps;
          stops = stops_behind a old.from.tape unit.tape new.from.tape opened.steps opened.did read;
          torn = left_done opened.steps (told_behind_reads a old.from.tape unit.tape new.from.tape opened.steps opened.did read);
          leaves = λ left torn. from_torn o.cartridge store.header store.words o.at.table store.entries opened.steps left o.is o.at.mounts
              o.at.settles torn;
        }

    left_nothing : tapes.Done a old.from.tape new.from.tape [] → LeftBy a old.from.tape new.from.tape held (FromLeaves held)
    left_nothing did = record { steps = []; stops = did.stops; torn = left_done [] did.told; leaves = λ left is. inl is }

    left_failed : (why : Option StoreFault) → OpenFails a old.from.tape new.from.tape why → LeftBy a old.from.tape new.from.tape held
        (FromLeaves held)
    left_failed None fails = left_nothing fails.0
    left_failed (Some fault.Tape) fails =
        let front = over_at (a.told old.from.tape) (λ h. (fails.steps ≡ []) ⊎ IsSomeAnd h (λ c. IsSettling c fails.steps)) held fails.front
        told in record {
          steps = fails.steps;
          stops = fails.broke.stops;
          torn = broke_torn a old.from.tape new.from.tape fails.steps held fails.broke told;
          leaves = λ left torn. by_front held refl front left torn;
        }
      where
        by_front : (h : Option Cartridge) → held ≡ h → (fails.steps ≡ []) ⊎ IsSomeAnd h (λ c. IsSettling c fails.steps) →
            (left : Option Cartridge) → Torn fails.steps held left → FromLeaves held left
        by_front h is (inl none) left torn = inl (subst (λ (ss : List TapeStep). Torn ss held left) none torn)
        by_front None is (inr settling) left torn = absurd settling
        by_front (Some c) is (inr settling) left torn =
            from_torn c settling.header settling.words settling.settles.table settling.entries fails.steps left is settling.settles.mounts
            settling.settles.settles torn
    left_failed (Some fault.NotFormatted) fails = left_nothing fails.did
    left_failed (Some (fault.Foreign field value)) fails = left_nothing fails.did
    left_failed (Some (fault.Lost segment lost)) fails = left_nothing fails.did
    left_failed (Some fault.TableMismatch) fails = left_nothing fails.did
    left_failed (Some f) fails = let kind = fails.kind in absurd (cc)

    read_nothing : OnlyRead a new.from.tape new.from.tape
    read_nothing = by_done a new.from.tape new.from.tape (Done-nothing a new.from.tape)

    left_run : RunEnds a b k old new answer → LeftBy a old.from.tape new.from.tape held (FromLeaves held)
    left_run (inl (inl refused, same)) = left_failed refused.0 refused.1
    left_run (inl (inr (inl refused), same)) = left_opened new.from refused.0 refused.2 read_nothing
    left_run (inl (inr (inr (source, target, opened, opened', unlike)), same)) = left_opened new.from source opened read_nothing
    left_run (inr run) =
        let goes = missing_goes a b k laws.both laws.nothing run.begun run.ended answer run.opened.opened_source.fits
        run.opened.opened_target.fits run.missing in
        left_opened run.begun.from.unit run.begun.from.store run.opened.opened_source
        (subst (λ (units : Units A B K). OnlyRead a run.begun.from.unit.tape units.from.tape) (sym run.left)
        (reads_only a run.begun.from.unit.tape run.ended.from.unit.tape answer goes.from))

    left_same : new ≡ old → LeftBy a old.from.tape new.from.tape held (FromLeaves held)
    left_same same = left_nothing (subst (λ (units : Units A B K). tapes.Done a old.from.tape units.from.tape []) (sym same)
        (Done-nothing a old.from.tape))

  pub run_short : RunEnds a b k old new answer → (promised read : ℕ) → answer ≡ status.To (fault.Short promised read) → a.told old.from.tape
      ≡ None
  run_short ends promised read is = never_told (a.told old.from.tape) (λ held told. run_never_short held told promised read is ends)

  pub from_left : (new ≡ old) ⊎ RunEnds a b k old new answer → EachLeft a old.from.tape new.from.tape FromLeaves
  from_left (inl same) = each_left a old.from.tape new.from.tape FromLeaves laws.from_now (λ held told. left_same held told same)
  from_left (inr ends) = each_left a old.from.tape new.from.tape FromLeaves laws.from_now (λ held told. left_run held told ends)

  pub from_stays : EachLeft a old.from.tape new.from.tape FromLeaves → EachLeft a old.from.tape new.from.tape SourceStays
  from_stays each = each_left_map a old.from.tape new.from.tape FromLeaves SourceStays follows each
    where
      follows : (held left : Option Cartridge) → a.told old.from.tape ≡ Some held → FromLeaves held left → SourceStays held left
      follows held left told (inl same) c plain is stands = some_and (λ d. Stands d plain) c left stands (same ∙ is)
      follows held left told (inr torn) c plain is stands =
          let one : torn.cartridge ≡ c = let same = sym torn.is ∙ is in cc in
          let stood : Stands torn.cartridge plain = subst (λ (d : Cartridge). Stands d plain) (sym one) stands in
          stopped_stands torn.cartridge plain torn.table left stood torn.mounts.reads
          (subst (λ (h : Option Cartridge). Torn (settling_steps torn.table torn.cartridge) h left) torn.is torn.torn)

  -- ---- the target

  -- the target takes more, over what its tape tells
  record TargetAt (mid : CopyView A B K) : Type 0 where
    cartridge : Cartridge
    told : b.told mid.to.unit.tape ≡ Some (Some cartridge)
    target : IsTarget (side_over mid.to.store cartridge)

  target_next : (mid next : CopyView A B K) → TargetAt mid → HasCopied a b k mid next → TargetAt next
  target_next mid next at has =
      let adds = adds_one a b (next_number mid) mid.from next.from mid.to next.to (Ok has.bytes) has.one at.cartridge at.told has.bytes
      refl in record {
        cartridge = changed_by (steps_of (all_acts a b (next_number mid) mid.from next.from mid.to next.to (Ok has.bytes) has.one
            at.cartridge at.told adds.is.table silently adds.is.input)) at.cartridge;
        told = told_behind b mid.to.unit.tape next.to.unit.tape _ at.cartridge (adds.is.did silently) at.told;
        target = adds_to_target a b (next_number mid) mid.from next.from mid.to next.to (Ok has.bytes) has.one at.cartridge at.told
            has.bytes at.target adds silently;
      }

  target_at : (count : ℕ) (begun mid : CopyView A B K) → TargetAt begun → HaveCopied a b k count begun mid → TargetAt mid
  target_at zero begun mid start same = subst TargetAt (sym same) start
  target_at (suc count) begun next start (mid, before, one) = target_next mid next (target_at count begun mid start before) one

  module _ (held : Option Cartridge) (told : b.told old.to.tape ≡ Some held) where
    to_failed : (why : Option StoreFault) → OpenFails b old.to.tape new.to.tape why → ToAnswers held (to_status why)
    to_failed None fails = over_at (b.told old.to.tape) (λ h. h ≡ None) held fails.1 told
    to_failed (Some fault.Tape) fails = tt
    to_failed (Some fault.NotFormatted) fails =
        mount_answers fault.NotFormatted held (λ c. EndsAppend c fault.NotFormatted)
        (over_at (b.told old.to.tape) (λ h. IsSomeAnd h (λ c. MountRefuses c fault.NotFormatted)) held fails.told told)
    to_failed (Some (fault.Foreign field value)) fails =
        mount_answers (fault.Foreign field value) held (λ c. EndsAppend c (fault.Foreign field value))
        (over_at (b.told old.to.tape) (λ h. IsSomeAnd h (λ c. MountRefuses c (fault.Foreign field value))) held fails.told told)
    to_failed (Some (fault.Lost segment lost)) fails =
        mount_answers (fault.Lost segment lost) held (λ c. EndsAppend c (fault.Lost segment lost))
        (over_at (b.told old.to.tape) (λ h. IsSomeAnd h (λ c. MountRefuses c (fault.Lost segment lost))) held fails.told told)
    to_failed (Some fault.TableMismatch) fails =
        mount_answers fault.TableMismatch held (λ c. EndsAppend c fault.TableMismatch)
        (over_at (b.told old.to.tape) (λ h. IsSomeAnd h (λ c. MountRefuses c fault.TableMismatch)) held fails.told told)
    to_failed (Some f) fails = let kind = fails.kind in absurd (cc)

    -- where the source was not opened the target was not looked at
    to_beside : (why : Option StoreFault) → OpenFails a old.from.tape new.from.tape why → ToAnswers held (from_status why)
    to_beside None fails = tt
    to_beside (Some fault.Tape) fails = tt
    to_beside (Some fault.NotFormatted) fails = tt
    to_beside (Some (fault.Foreign field value)) fails = tt
    to_beside (Some (fault.Lost segment lost)) fails = λ other. absurd (other fails.cause.0)
    to_beside (Some fault.TableMismatch) fails = tt
    to_beside (Some f) fails = let kind = fails.kind in absurd (cc)

    to_unlike : (source target : StoreView) → HasOpened b old.to.tape new.to target → IsUnlike source target answer → ToAnswers held answer
    to_unlike source target opened unlike = by_case unlike
      where
        o : OpenedAt b held new.to target opened.steps
        o = opened_at b old.to.tape new.to target held opened told

        mark : (m : Bool) → is_protected (deck_of target.host) ≡ m → o.cartridge.info.protected ≡ m
        mark m host = opened_mark b old.to.tape new.to target held opened o m (ap is_protected opened.fits.host.deck ∙ host)

        by_case : IsUnlike source target answer → ToAnswers held answer
        by_case (inl locked) =
            subst (ToAnswers held) (sym locked.1) (mounted_answers b held new.to target opened.steps fault.Protected
            (λ c. EndsAppend c fault.Protected) o (mark true locked.0))
        by_case (inr (free, (number, differs, answered))) =
            let found = differs_at_most source.words source.entries target.words target.entries 1 number differs in
            subst (ToAnswers held) (sym answered)
            (takes_more b held new.to target opened.steps (λ es. number ≤ length es) o (mark false free)
            (let most = found.most in omega (arith, most)))

    module _ (run : HasRun a b k old new answer) where
      chain_to : Chained a b k run.begun run.missing.mid
      chain_to = run_chain run

      to_at : OpenedAt b held run.begun.to.unit run.begun.to.store run.opened.opened_target.steps
      to_at = opened_at b old.to.tape run.begun.to.unit run.begun.to.store held run.opened.opened_target told

      free : to_at.cartridge.info.protected ≡ false
      free = opened_mark b old.to.tape run.begun.to.unit run.begun.to.store held run.opened.opened_target to_at false
          (ap is_protected run.opened.opened_target.fits.host.deck ∙ run.opened.free)

      takes : TakesMore held (λ es. Unit {0})
      takes = takes_more b held run.begun.to.unit run.begun.to.store run.opened.opened_target.steps (λ es. Unit {0}) to_at free tt

      at_mid : TargetAt run.missing.mid
      at_mid = target_at run.missing.count run.begun run.missing.mid start run.missing.copied
        where
          whole : IsCartridge to_at.cartridge
          whole = told_whole (Some to_at.cartridge) (b.told old.to.tape) (b.size old.to.tape) laws.to_right
              (told ∙ ap (λ (h : Option Cartridge). Some h) to_at.is)

          start : TargetAt run.begun
          start = record {
            cartridge = settled to_at.at.table to_at.cartridge;
            told = to_at.told;
            target = record {
              listed = mounted_listed to_at.cartridge run.begun.to.store.header run.begun.to.store.words to_at.at.table
                  run.begun.to.store.entries whole to_at.at.mounts;
              unprotected = ap (λ (i : TapeInfo). i.protected) (settled_keeps_table to_at.cartridge to_at.at.table
                  to_at.at.mounts.reads).info ∙ free;
            };
          }

      refused_answers : (found : StoreFault) → EndsAppend to_at.cartridge found run.begun.to.store.header run.begun.to.store.words
          to_at.at.table run.begun.to.store.entries →
          IsSomeAnd held (λ c. (n : Mounting) × Mounts c n × MountingRefuses n found (EndsAppend c found))
      refused_answers found is =
          mounted_answers b held run.begun.to.unit run.begun.to.store run.opened.opened_target.steps found (λ c. EndsAppend c found) to_at
          is

      to_refused : IsRefused a b run.missing.mid run.ended answer → ToAnswers held answer
      to_refused refused = subst (ToAnswers held) (sym so.answered) (by_fault so.fault refused.one.source.fault refused.one.sound.kind so.is
          so.ends)
        where
          so : FailsSo a b (next_number run.missing.mid) run.missing.mid.from run.ended.from run.missing.mid.to run.ended.to answer
              refused.one
          so = fails_so a b (next_number run.missing.mid) run.missing.mid.from run.ended.from run.missing.mid.to run.ended.to answer
              refused.one

          by_fault : (f : StoreFault) (o : Option StoreFault) → IsOfPart o → refused.one.appended ≡ Err f →
              AppendEnds b (source_means a) (reading run.missing.mid.to.unit.tape (new_source run.missing.mid.from.store
              run.missing.mid.from.unit (next_number run.missing.mid)))
              (reading run.ended.to.unit.tape refused.one.source) run.missing.mid.to.store run.ended.to.store refused.one.entry.name
              refused.one.entry.date (Some (volume_length run.missing.mid.from.store.words refused.one.entry)) (Err f) →
              ToAnswers held (append_status f o)
          by_fault fault.Source (Some fault.Tape) kind is ends = tt
          by_fault fault.Source (Some (fault.Lost segment lost)) kind is ends = λ other. takes
          by_fault fault.Source (Some (fault.Mismatch segment)) kind is ends = takes
          by_fault fault.Source (Some f) kind is ends = absurd kind
          by_fault fault.Source None kind is ends = tt
          by_fault fault.Protected o kind is ends =
              absurd (never_protected a b (next_number run.missing.mid) run.missing.mid.from run.ended.from run.missing.mid.to run.ended.to
              (Err answer) refused.one at_mid.cartridge at_mid.told chain_to.to_fits at_mid.target is)
          by_fault (fault.Lost segment lost) o kind is ends = refused_answers (fault.Lost segment lost) free
          by_fault fault.TableMismatch o kind is ends =
              let at = tells_at b run.missing.mid.to.unit.tape _ at_mid.cartridge at_mid.told ends.told in absurd (at.2)
          by_fault (fault.Full need have) o kind is ends =
              let n : ℕ = volume_length run.missing.mid.from.store.words refused.one.entry in
              let none = too_long (room run.missing.mid.to.store.words run.missing.mid.to.store.entries) n ends.input need have ends.took in
              refused_answers (fault.Full need have) (
                free,
                (
                  chain_to.more,
                  sym none.has ∙ ap (λ (ws : List ℕ). room ws run.missing.mid.to.store.entries) chain_to.to_words ∙
                      ap (room run.begun.to.store.words) chain_to.to_entries,
                ),
              )
          by_fault (fault.Short promised read) o kind is ends = refused_answers (fault.Short promised read) free
          by_fault fault.Tape o kind is ends = tt
          by_fault f o kind is ends = absurd ends

      to_counted : (found : CopyStatus) → PrintsCount k run.missing.mid.sink run.ended.sink (length run.missing.mid.to.store.entries)
          found → ToAnswers held found
      to_counted status.Done wrote = takes
      to_counted status.SinkFault broke = takes
      to_counted found none = absurd none

      to_run : IsRefused a b run.missing.mid run.ended answer ⊎ IsUnprinted a b k run.missing.mid run.ended answer ⊎
          IsCounted k run.missing.mid run.ended answer → ToAnswers held answer
      to_run (inl refused) = to_refused refused
      to_run (inr (inl unprinted)) = subst (ToAnswers held) (sym unprinted.answered) takes
      to_run (inr (inr counted)) = to_counted answer counted.count

    pub run_target : RunEnds a b k old new answer → ToAnswers held answer
    run_target (inl (inl refused, same)) = subst (ToAnswers held) (sym refused.3) (to_beside refused.0 refused.1)
    run_target (inl (inr (inl refused), same)) = subst (ToAnswers held) (sym refused.4) (to_failed refused.1 refused.3)
    run_target (inl (inr (inr (source, target, opened, opened', unlike)), same)) = to_unlike source target opened' unlike
    run_target (inr run) = to_run run run.missing.ends
