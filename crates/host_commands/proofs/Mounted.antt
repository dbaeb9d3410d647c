-- How the commands that mount a cartridge end.
use Rattle.std.proofs.Common.{◌≡◌, ◌≢◌, ◌⊎◌, ℕ, ◌++◌, ◌∷◌, Bool, true, false, List, [], length, Option, Some, None, IfSome, IsSomeAnd}
use Rattle.std.proofs.Common.{Result, Err, refl, sym, ap, ◌∙◌, subst, inl, inr, append-nil, ◌&&◌}
use Rattle.qic_base.specs.Cartridge.{Cartridge}
use Rattle.qic_base.specs.declared.tape.TapeInfo.{TapeInfo}
use Rattle.qic_base.specs.declared.sink.SinkFailed.{SinkFailed}
use Rattle.qic_base.specs.Step.{Step as TapeStep}
use Rattle.cartridge_spec.specs.Header.{Header}
use Rattle.cartridge_laws.specs.HeaderTerms.{fault_as}
use Rattle.cartridge_spec.specs.Table.{Entry}
use Rattle.cartridge_laws.proofs.MountOnce.{mounts_is_function}
use Rattle.command_laws.proofs.StoreTaking.{both_true}
use Rattle.std.proofs.lemmas.Bool.{and_parts, or_left}
use Rattle.std.specs.Prelude.{◌==◌, ◌||◌}
use Rattle.volume_store.specs.Mounting.{StoreView, IsSettling, SettlingBreaks, IsOpened}
use Rattle.drive_states.specs.Unit.{UnitView}
use Rattle.cartridge_spec.specs.Settling.{settling_steps}
use Rattle.cartridge_spec.specs.Mounting.{Mounting}
use Rattle.command_spec.specs.declared.words.Words.{Words}
use Rattle.command_spec.specs.declared.status.Status.{Status}
use Rattle.command_spec.specs.Lines.{list_text, info_text}
use Rattle.command_spec.specs.Outcome.{CommandOutcome, refused, acted, Going, Opened, OpenOutcome, WritableOutcome, Shows}
use Rattle.command_laws.specs.Outcomes.{Printing, telling, listing}
use Rattle.volume_store.proofs.Refusals.{foreign_is_refused}
use Rattle.volume_store.proofs.Opened.{opening_cut}
use Rattle.volume_store.specs.Opening.{HasOpened, IsAbsent, IsTurnedDown, OpenFails}
use Rattle.command_laws.specs.CommandFields.{CommandPrints, Yields}
use Rattle.command_laws.specs.CommandRecord.{is_unsound}
use Rattle.command_laws.specs.RunTerms.{EndsBlind}
use Rattle.command_laws.proofs.CommandOpened.{quiet}
use Rattle.command_laws.proofs.CommandTold.{input_told, input_bytes}
use Rattle.command_laws.proofs.CommandNumbers.{too_many}
use Rattle.command_spec.specs.Machine.{may_come_from, CommandEnds}
use Rattle.command_spec.specs.Numbers.{are_too_many}
use Rattle.command_laws.proofs.CommandEndings.{Rules, none_reached, nothing_front}
use Rattle.volume_store.proofs.Ending.{none_left}
use Rattle.volume_store.proofs.Mounted.{cut_first}
use Rattle.volume_store.proofs.Started.{Present}
use Rattle.qic_base.specs.declared.store_fault.StoreFault.{StoreFault}
use Rattle.cartridge_front.specs.Learning.{MountRefuses}
use Rattle.hand_commands.specs.Outcome.{first_steps}
use Rattle.host_commands.specs.Opening.{IsRefusal, RefusesOpening, is_opening, NoStart, OpeningRefused, OpeningEnds, IsUnlocked}
use Rattle.host_commands.specs.Opening.{WritableEnds}
use Rattle.host_commands.specs.Statuses.{store_status}
use Rattle.hand_commands.specs.Writing.{printed_status}
use Rattle.hand_commands.proofs.Endings.{IsBlind, printed, turned_down, cut_off, told_map}
use Rattle.qic_base.specs.Acts.{TapeFails}
use Rattle.cartridge_laws.proofs.MountSettled.{locked_steps}
use Rattle.qic_base.specs.CartridgeTerms.{IsInfoOf}
use Rattle.qic_base.specs.SourceCalls.{input_of}
use Rattle.qic_base.specs.Alone.{outside}
use Rattle.qic_base.specs.Sink as sinks
use Rattle.qic_base.specs.Source as sources
use Rattle.qic_base.specs.SinkCalls as sink_calls
use Rattle.qic_base.specs.Tape as tapes
use Rattle.cartridge_spec.specs.Mounting as mounting
use Rattle.qic_base.specs.declared.store_fault.StoreFault.TheVariants as fault
use Rattle.command_spec.specs.declared.words.Words.TheVariants as words
use Rattle.command_spec.specs.declared.status.Status.TheVariants as status

-- ---- outcomes

-- a cartridge was opened, and a command does this on it
pub opened_is : (goes : Going) (outcome : CommandOutcome) (store : StoreView) (steps : List TapeStep) (held : Option Cartridge) →
    IsSomeAnd held (λ c. IsOpened c store steps) →
    ((c : Cartridge) (table : List (List ℕ)) → held ≡ Some c →
    mounting.Mounts c (mounting.Mounted store.header store.words table store.entries) → steps ≡ settling_steps table c →
    goes c store.header store.words table store.entries outcome) → OpenOutcome goes held outcome
opened_is goes outcome store steps None is does = absurd is
opened_is goes outcome store steps (Some c) is does =
    (mounting.Mounted store.header store.words is.table store.entries, is.mounts, does c is.table refl is.mounts is.settles)

opened_refused : (goes : Going) (c : Cartridge) (m : Mounting) (why : Status) → IsRefusal m why → Opened goes c m (refused why)
opened_refused goes c mounting.NotFormatted why is = ap refused is
opened_refused goes c (mounting.Foreign fault) why is = ap refused is
opened_refused goes c (mounting.TableLost lost) why is = ap refused is
opened_refused goes c mounting.TableMismatch why is = ap refused is
opened_refused goes c (mounting.Mounted header ws table entries) why is = absurd is

-- the opening was refused, whatever the command does
pub refused_is : (goes : Going) (why : Status) (held : Option Cartridge) → RefusesOpening held why → OpenOutcome goes held (refused why)
refused_is goes why None is = ap refused is
refused_is goes why (Some c) (m, mounts, is) = (m, mounts, opened_refused goes c m why is)

abbrev pub BeginsSteps : List TapeStep → CommandOutcome → Type 0
BeginsSteps steps outcome = (rest : List TapeStep) × (steps ++ rest ≡ first_steps outcome)

-- what is done on a mounted cartridge begins with its settling
abbrev pub BeginsSettling : Going → Type 0
BeginsSettling goes =
    (c : Cartridge) (header : Header) (ws : List ℕ) (table : List (List ℕ)) (entries : List Entry) (outcome : CommandOutcome) →
    goes c header ws table entries outcome → first_steps outcome ≡ settling_steps table c

pub begins_is : (goes : Going) → BeginsSettling goes → (steps : List TapeStep) (held : Option Cartridge) → (steps ≡ [])
    ⊎ IsSomeAnd held (λ c. IsSettling c steps) →
    (outcome : CommandOutcome) → OpenOutcome goes held outcome → BeginsSteps steps outcome
begins_is goes first steps held (inl none) outcome plain =
    (first_steps outcome, ap (λ (ss : List TapeStep). ss ++ first_steps outcome) none)
begins_is goes first steps None (inr settling) outcome plain = absurd settling
begins_is goes first steps (Some c) (inr settling) outcome (m, mounts, is) =
    let found = settling.settles in
    let same : m ≡ mounting.Mounted settling.header settling.words found.table settling.entries =
    mounts_is_function c m _ mounts found.mounts in
    let does : goes c settling.header settling.words found.table settling.entries outcome =
    subst (λ (n : Mounting). Opened goes c n outcome) same is in
    ([], append-nil steps ∙ found.settles ∙ sym (first c settling.header settling.words found.table settling.entries outcome does))

-- ---- with a cartridge that is written on

pub locked_is : (goes : Going) (held : Option Cartridge) → IsSomeAnd held (λ c. c.info.protected ≡ true) →
    WritableOutcome goes held (refused status.Protected)
locked_is goes None locked = absurd locked
locked_is goes (Some c) locked = inl (locked, refl)

pub unlocked_refused_is : (goes : Going) (why : Status) (held : Option Cartridge) → IfSome held (λ c. c.info.protected ≡ false) →
    RefusesOpening held why → WritableOutcome goes held (refused why)
unlocked_refused_is goes why None free is = ap refused is
unlocked_refused_is goes why (Some c) free is = inr (free, refused_is goes why (Some c) is)

pub writable_begins : (goes : Going) → BeginsSettling goes → (steps : List TapeStep) (held : Option Cartridge) → (steps ≡ [])
    ⊎ IsSomeAnd held (λ c. IsSettling c steps) →
    (outcome : CommandOutcome) → WritableOutcome goes held outcome → BeginsSteps steps outcome
writable_begins goes first steps None front outcome plain = begins_is goes first steps None front outcome plain
writable_begins goes first steps (Some c) front outcome (inr (free, plain)) = begins_is goes first steps (Some c) front outcome plain
writable_begins goes first steps (Some c) front outcome (inl (locked, is)) =
    (first_steps outcome, ap (λ (ss : List TapeStep). ss ++ first_steps outcome) (none front))
  where
    none : (steps ≡ []) ⊎ IsSettling c steps → steps ≡ []
    none (inl empty) = empty
    none (inr settling) = settling.settles.settles ∙ locked_steps settling.settles.table c locked

-- ---- how a mounting ends

refuses_mounting : (f : StoreFault) (held : Option Cartridge) → IsSomeAnd held (λ c. MountRefuses c f) →
    RefusesOpening held (store_status f)
refuses_mounting f None refuses = absurd refuses
refuses_mounting fault.NotFormatted (Some c) refuses = (mounting.NotFormatted, refuses, refl)
refuses_mounting (fault.Foreign field value) (Some c) refuses = (mounting.Foreign (fault_as field value), refuses, refl)
refuses_mounting (fault.Lost segment lost) (Some c) refuses =
    (mounting.TableLost lost, refuses.1, ap (λ (s : ℕ). status.Lost s lost) refuses.0)
refuses_mounting fault.TableMismatch (Some c) refuses = (mounting.TableMismatch, refuses, refl)
refuses_mounting f (Some c) refuses = absurd refuses

absent_told : (o : Option (Option Cartridge)) → IfSome o (λ held. held ≡ None) → IfSome o (λ held. RefusesOpening held status.NoCartridge)
absent_told None none = tt
absent_told (Some None) none = refl
absent_told (Some (Some c)) none = absurd (cc)

-- the refusals of an opening have an answer each
pub never_short : {T : Type 0} (t : tapes.Meaning T) (a b : T) (f : StoreFault) → OpenFails t a b (Some f) → (promised read : ℕ) →
    f ≢ fault.Short promised read
never_short t a b (fault.Short p r) fails promised read is = let kind = fails.kind in absurd (cc)
never_short t a b f fails promised read is = cc

turned : {T : Type 0} (t : tapes.Meaning T) (a b : T) (f : StoreFault) → IsTurnedDown t a b f → is_opening (store_status f) ≡ true →
    OpeningRefused t a b (store_status f)
turned t a b f refused sound = record {
  did = refused.did;
  sound = sound;
  told = told_map (t.told a) _ _ refused.told (λ held refuses. refuses_mounting f held refuses);
}

-- a cartridge can't be opened
pub open_absent : {T : Type 0} (t : tapes.Meaning T) (a : T) (b : UnitView T) → IsAbsent t a b.tape →
    OpeningEnds t a b (Err status.NoCartridge)
open_absent t a b (did, none) = inl (record { did = did; sound = refl; told = absent_told (t.told a) none })

pub open_failed : {T : Type 0} (t : tapes.Meaning T) (a : T) (b : UnitView T) (f : StoreFault) → OpenFails t a b.tape (Some f) →
    OpeningEnds t a b (Err (store_status f))
open_failed t a b fault.NotFormatted fails = inl (turned t a b.tape fault.NotFormatted fails refl)
open_failed t a b (fault.Foreign field value) fails =
    inl (turned t a b.tape (fault.Foreign field value) fails (foreign_is_refused fails.segments field value fails.cause))
open_failed t a b (fault.Lost segment lost) fails =
    inl (turned t a b.tape (fault.Lost segment lost) fails
    (both_true (are_too_many lost) (segment == 2) (too_many lost fails.cause.1) (ap (λ (s : ℕ). s == 2) fails.cause.0)))
open_failed t a b fault.TableMismatch fails = inl (turned t a b.tape fault.TableMismatch fails refl)
open_failed t a b fault.Tape fails = inr (refl, fails)
open_failed t a b f fails = let kind = fails.kind in absurd (cc)

-- ---- .. of a cartridge to write on

pub unlocked_known : {T : Type 0} (t : tapes.Meaning T) (a b : T) (info : TapeInfo) → Present t a b info → info.protected ≡ false →
    IsUnlocked t a
unlocked_known t a b info there free = told_map (t.told a) _ _ there.known (λ held known. by_held held known)
  where
    by_held : (held : Option Cartridge) → IsInfoOf (Some info) held → IfSome held (λ c. c.info.protected ≡ false)
    by_held None known = tt
    by_held (Some c) known = let same : info ≡ c.info = cc in ap (λ (i : TapeInfo). i.protected) (sym same) ∙ free

absent_unlocked : (o : Option (Option Cartridge)) → IfSome o (λ held. held ≡ None) →
    IfSome o (λ held. IfSome held (λ c. c.info.protected ≡ false))
absent_unlocked None none = tt
absent_unlocked (Some None) none = tt
absent_unlocked (Some (Some c)) none = absurd (cc)

pub writable_unstarted : {T : Type 0} (t : tapes.Meaning T) (a : T) (b : UnitView T) (why : Status) → NoStart t a b.tape why →
    WritableEnds t a b (Err why)
writable_unstarted t a b why (inl (is, (did, none))) =
    inr (inl (absent_unlocked (t.told a) none, record { did = did; sound = ap is_opening is; told = rw is (absent_told (t.told a) none) }))
writable_unstarted t a b why (inr (is, broke)) = inr (inr (is, cut_first t a b.tape broke))

pub writable_failed : {T : Type 0} (t : tapes.Meaning T) (a : T) (b : UnitView T) (why : Status) → IsUnlocked t a →
    OpeningEnds t a b (Err why) → WritableEnds t a b (Err why)
writable_failed t a b why free (inl turned) = inr (inl (free, turned))
writable_failed t a b why free (inr cut) = inr (inr cut)

-- ---- how a command ends that mounts and prints

pub no_outcome : (why : Status) → is_opening why ≡ true → why ≢ status.Done
no_outcome why sound same = let no = ap is_opening same in cc

-- an opening counts nothing
pub no_counts : (why : Status) → is_opening why ≡ true → is_unsound why ≡ false
no_counts (status.Unsound mendable bad) sound = absurd (cc)
no_counts why sound = refl

-- a segment that an opening finds lost is that of the volume table
pub table_lost : (segment lost : ℕ) (other : Bool) → (are_too_many lost && segment == 2) ≡ true →
    (are_too_many lost && (segment == 2 || other)) ≡ true
table_lost segment lost other sound =
    let both = and_parts (are_too_many lost) (segment == 2) sound in
    both_true (are_too_many lost) (segment == 2 || other) both.0 (or_left (segment == 2) other both.1)

found_by_list : (why : Status) → is_opening why ≡ true → may_come_from why words.List ≡ true
found_by_list status.NoCartridge sound = refl
found_by_list status.NotFormatted sound = refl
found_by_list (status.Foreign field value) sound = sound
found_by_list (status.Lost segment lost) sound = table_lost segment lost false sound
found_by_list status.TableMismatch sound = refl
found_by_list why sound = cc

found_by_info : (why : Status) → is_opening why ≡ true → may_come_from why words.Info ≡ true
found_by_info status.NoCartridge sound = refl
found_by_info status.NotFormatted sound = refl
found_by_info (status.Foreign field value) sound = sound
found_by_info (status.Lost segment lost) sound = table_lost segment lost false sound
found_by_info status.TableMismatch sound = refl
found_by_info why sound = cc

-- the machine's rule for a command that reads no input is that of the mounting, with what it does then
pub record Follows (command : Words) (goes : Going) : Type 1 where
  pub rules : (held : Option Cartridge) (outcome : CommandOutcome) → OpenOutcome goes held outcome → Rules command held outcome
  pub plain : (held : Option Cartridge) (outcome : CommandOutcome) → Rules command held outcome → OpenOutcome goes held outcome
  pub first : BeginsSettling goes
  pub blind : IsBlind command
  pub found : (why : Status) → is_opening why ≡ true → may_come_from why command ≡ true

shows_first : (prints : Printing) → BeginsSettling (Shows prints)
shows_first prints c header ws table entries outcome is = ap (λ (o : CommandOutcome). first_steps o) is

list_follows : Follows words.List (Shows listing)
list_follows = record {
  blind = record { reads = refl };
  rules = λ held outcome plain input. plain;
  plain = λ held outcome rules. rules [];
  first = shows_first listing;
  found = found_by_list;
}

info_follows : Follows words.Info (Shows telling)
info_follows = record {
  blind = record { reads = refl };
  rules = λ held outcome plain input. plain;
  plain = λ held outcome rules. rules [];
  first = shows_first telling;
  found = found_by_info;
}

pub refuses : {T K : Type 0} (t : tapes.Meaning T) (k : sinks.Meaning K) (command : Words) (goes : Going) (a : T) (b : UnitView T) (x : K)
    (why : Status) → Follows command goes → ((z : K) → k.took z [] z) →
    OpeningEnds t a b (Err why) → EndsBlind t k command a b.tape x x why
refuses t k command goes a b x why follows nothing (inl turned) =
    turned_down t k command follows.blind a b.tape x why nothing (follows.found why turned.sound) (no_counts why turned.sound)
    (no_outcome why turned.sound)
    (told_map (t.told a) _ _ turned.told (λ held is. follows.rules held (refused why) (refused_is goes why held is))) turned.did
refuses t k command goes a b x why follows nothing (inr (is, cut)) =
    rw is (cut_off t k command follows.blind a b.tape x cut.steps nothing
    (told_map (t.told a) _ _ cut.front (λ held front outcome rules. begins_is goes follows.first cut.steps held front outcome
    (follows.plain held outcome rules))) cut.broke)

shows : {T K : Type 0} (t : tapes.Meaning T) (k : sinks.Meaning K) (command : Words) (prints : Printing) (a : T) (b : UnitView T) (x y : K)
    (store : StoreView) (r : Result (Unit {0}) SinkFailed) → Follows command (Shows prints) → may_come_from status.Done command ≡ true →
    CommandPrints command (prints store.header store.words store.entries) → HasOpened t a b store →
    sink_calls.Writes k x y (prints store.header store.words store.entries) r → EndsBlind t k command a b.tape x y (printed_status r)
shows t k command prints a b x y store r follows sound text opening writes =
    printed t k command follows.blind a b.tape x y (acted opening.steps (prints store.header store.words store.entries)) r sound
    refl refl text
    (told_map (t.told a) _ _ opening.told
    (λ held is. follows.rules held (acted opening.steps (prints store.header store.words store.entries))
    (opened_is (Shows prints) (acted opening.steps (prints store.header store.words store.entries)) store opening.steps held is
    (λ c table there mounts settles. ap (λ (ss : List TapeStep). acted ss (prints store.header store.words store.entries)) settles))))
    opening.did writes

pub list_refused : {T K : Type 0} (t : tapes.Meaning T) (k : sinks.Meaning K) (a : T) (b : UnitView T) (x : K) (why : Status) →
    ((z : K) → k.took z [] z) → OpeningEnds t a b (Err why) → EndsBlind t k words.List a b.tape x x why
list_refused t k a b x why nothing ends = refuses t k words.List (Shows listing) a b x why list_follows nothing ends

pub list_printed : {T K : Type 0} (t : tapes.Meaning T) (k : sinks.Meaning K) (a : T) (b : UnitView T) (x y : K) (store : StoreView)
    (r : Result (Unit {0}) SinkFailed) → HasOpened t a b store →
    sink_calls.Writes k x y (list_text store.words store.entries) r → EndsBlind t k words.List a b.tape x y (printed_status r)
list_printed t k a b x y store r mounted printed = shows t k words.List listing a b x y store r list_follows refl
    (store.header, (store.words, (store.entries, refl))) mounted printed

pub info_refused : {T K : Type 0} (t : tapes.Meaning T) (k : sinks.Meaning K) (a : T) (b : UnitView T) (x : K) (why : Status) →
    ((z : K) → k.took z [] z) → OpeningEnds t a b (Err why) → EndsBlind t k words.Info a b.tape x x why
info_refused t k a b x why nothing ends = refuses t k words.Info (Shows telling) a b x why info_follows nothing ends

pub info_printed : {T K : Type 0} (t : tapes.Meaning T) (k : sinks.Meaning K) (a : T) (b : UnitView T) (x y : K) (store : StoreView)
    (r : Result (Unit {0}) SinkFailed) → HasOpened t a b store →
    sink_calls.Writes k x y (info_text store.header store.words (length store.entries)) r → EndsBlind t k words.Info a b.tape x y
    (printed_status r)
info_printed t k a b x y store r mounted printed =
    shows t k words.Info telling a b x y store r info_follows refl (store.header, (store.words, (store.entries, refl))) mounted printed

-- ---- commands that read an input

-- the opening was cut off before anything of the input was taken
pub input_unread : {T S K : Type 0} (t : tapes.Meaning T) (s : sources.Meaning S) (k : sinks.Meaning K) (command : Words) (a b : T) (i : S)
    (x : K) (cut : SettlingBreaks t a b) → ((z : K) → k.took z [] z) →
    IfSome (t.told a) (λ held. (outcome : CommandOutcome) → Yields command held (input_of (s.left i)) outcome →
    BeginsSteps cut.steps outcome) →
    CommandEnds t s k command (outside a i x) (outside b i x) status.TapeFault
input_unread t s k command a b i x cut nothing front = inr (
  TapeFails,
  refl,
  record {
    told = told_map (t.told a) _ _ front (λ held begins. (
      input_of (s.left i),
      input_told (s.left i),
      (
        (λ is. input_bytes (s.left i)),
        λ outcome plain. record {
          cut = opening_cut t s k nothing a b i x cut.steps outcome.acts (begins outcome plain).0 (begins outcome plain).1 cut.broke;
          taken = 0;
          left = none_left (s.left i);
          reaches = none_reached command held (input_of (s.left i)) outcome [];
          done = λ sink still. absurd (cc);
          silent = λ still. refl;
        },
      ),
    ));
    acts = quiet cut.steps ∷ [];
    cut = opening_cut t s k nothing a b i x cut.steps (quiet cut.steps ∷ []) [] (append-nil cut.steps) cut.broke;
    front = nothing_front command;
    silent = λ still unlike. refl;
    reads = λ same. absurd (cc);
    source_tells = refl;
  },
)
