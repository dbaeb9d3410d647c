-- What a restore gave, by its answer, and the fit of a store behind a call that keeps its list.
use Rattle.std.proofs.Common.{◌≡◌, ℕ, zero, suc, ◌-◌, ◌<◌, ◌++◌, Bool, true, false, List, [], ◌∷◌, Option, Some, IfSome}
use Rattle.std.proofs.Common.{Result, Ok, Err, refl, sym, ap, ◌∙◌, subst, arith, slice_get, append_assoc}
use Rattle.cartridge_laws.specs.TableCells.{HasList}
use Rattle.qic_base.specs.Cartridge.{Cartridge}
use Rattle.qic_base.specs.Step.{Step}
use Rattle.qic_base.specs.Tape.{Meaning, Done}
use Rattle.qic_base.specs.TapeCalls.{Tells}
use Rattle.qic_base.proofs.Steps.{Done-told}
use Rattle.qic_base.specs.Acts.{Act, Outside, SinkFails, Parted, steps_of}
use Rattle.qic_base.proofs.Joins.{steps_of-append}
use Rattle.cartridge_laws.specs.Table.{IsSoundList}
use Rattle.cartridge_spec.specs.Table.{Entry}
use Rattle.cartridge_spec.specs.Volumes.{carrying, volume_length}
use Rattle.drive_states.specs.Unit.{UnitView}
use Rattle.host_driver.specs.Calls.{Keeps}
use Rattle.host_driver.specs.declared.host.Host.{Host}
use Rattle.command_spec.specs.Restore.{Piece, GivingEnd, framed, pieces, pieces_of, volume_at}
use Rattle.volume_output.specs.declared.extent.Extent.{Extent}
use Rattle.volume_output.specs.Output.{GaveVolume, VolumeCut, OutputEnds}
use Rattle.command_laws.specs.OutputText.{AreOf, printed}
use Rattle.volume_store.specs.Mounting.{StoreView, StoreFits}
use Rattle.volume_store.specs.Restoring.{FindsVolume, RestoreEnds}
use Rattle.qic_base.specs.declared.store_fault.StoreFault.{StoreFault}
use Rattle.volume_store.proofs.Fitting.{fits_with}
use Rattle.command_laws.proofs.OutputActsOfPieces.{no_step}
use Rattle.command_laws.proofs.MountedFronts.{no_first}
use Rattle.qic_base.specs.Sink as sinks
use Rattle.qic_base.specs.declared.store_fault.StoreFault.TheVariants as fault

-- ---- the volume

pub volume_there : (entries : List Entry) (number : ℕ) (e : Entry) → 0 < number → slice_get entries (number - 1) ≡ Some e →
    volume_at entries number ≡ Some e
volume_there entries zero e some at = absurd (omega arith)
volume_there entries (suc n) e some at = let one : n ≡ suc n - 1 = omega arith in ap (slice_get entries) one ∙ at

length_is : (words : List ℕ) (bytes : ℕ) (at : Option Entry) (e : Entry) → at ≡ Some e →
    IfSome at (λ entry. bytes ≡ volume_length words entry) → bytes ≡ volume_length words e
length_is words bytes at e is long = subst (λ (o : Option Entry). IfSome o (λ entry. bytes ≡ volume_length words entry)) is long

pub length_there : (store : StoreView) (i : ℕ) (e : Entry) (bytes : ℕ) → slice_get store.entries i ≡ Some e →
    IfSome (slice_get store.entries i) (λ entry. bytes ≡ volume_length store.words entry) → bytes ≡ volume_length store.words e
length_there store i e bytes at long = length_is store.words bytes (slice_get store.entries i) e at long

-- ---- what it gave

module _ {T K : Type 0} (t : Meaning T) (k : sinks.Meaning K) (store : StoreView) (number : ℕ) (lined : Bool)
    (old : Outside T (Unit {0}) K) where
  -- where there is none
  pub none_given : (why : StoreFault) → FindsVolume store number (Err why) → RestoreEnds t k store number lined old old (Err why)
  none_given (fault.NoVolume asked count) finds =
      record { none = finds.0; named = finds.1; counted = finds.2; tape = refl; sink = refl }
  none_given f finds = absurd finds

  -- by the answer of the giving
  module _ (new : Outside T (Unit {0}) K) (words : List ℕ) (volume : Extent) (same : words ≡ store.words)
      (found : FindsVolume store number (Ok volume)) where
    of_volume : (answer : Result (Unit {0}) StoreFault) →
        OutputEnds t k words (pieces_of words (carrying words volume.start volume.end) volume.bytes) lined old new answer →
        OutputEnds t k store.words (pieces store.words found.0) lined old new answer
    of_volume answer ends =
        subst (λ (v : Extent). OutputEnds t k store.words (pieces_of store.words (carrying store.words v.start v.end) v.bytes) lined old new
        answer) found.2
        (subst (λ (ws : List ℕ). OutputEnds t k ws (pieces_of ws (carrying ws volume.start volume.end) volume.bytes) lined old new answer)
        same ends)

    pub all_given : OutputEnds t k words (pieces_of words (carrying words volume.start volume.end) volume.bytes) lined old new (Ok tt) →
        RestoreEnds t k store number lined old new (Ok volume.bytes)
    all_given ends = (found.0, found.1, (ap (λ (v : Extent). v.bytes) found.2, of_volume (Ok tt) ends))

    pub giving_failed : (why : StoreFault) →
        OutputEnds t k words (pieces_of words (carrying words volume.start volume.end) volume.bytes) lined old new (Err why) →
        RestoreEnds t k store number lined old new (Err why)
    giving_failed why ends = by_fault why (of_volume (Err why) ends)
      where
        by_fault : (why : StoreFault) → OutputEnds t k store.words (pieces store.words found.0) lined old new (Err why) →
            RestoreEnds t k store number lined old new (Err why)
        by_fault (fault.Lost segment lost) ends = (found.0, found.1, ends)
        by_fault (fault.Mismatch segment) ends = (found.0, found.1, ends)
        by_fault fault.Sink ends = (found.0, found.1, ends)
        by_fault fault.Tape ends = (found.0, found.1, ends)
        by_fault f ends = absurd ends

-- ---- the tape

printed_in_no_step : (needed : List Piece) (lined : Bool) (acts : List Act) → AreOf needed acts → steps_of (printed lined needed acts) ≡ []
printed_in_no_step [] true [] are = refl
printed_in_no_step (piece ∷ needed) true [] are = refl
printed_in_no_step [] true (act ∷ acts) are = absurd are
printed_in_no_step (piece ∷ needed) true (act ∷ acts) are = no_step act.steps (framed needed acts) are.0
    (printed_in_no_step needed true acts are.2)
printed_in_no_step needed false [] are = refl
printed_in_no_step [] false (act ∷ acts) are = absurd are
printed_in_no_step (piece ∷ needed) false (act ∷ acts) are = no_step act.steps acts are.0 (printed_in_no_step needed false acts are.2)

no_step_before : (acts : List Act) (at : Parted acts) → steps_of acts ≡ [] → steps_of at.front ++ at.act.steps ≡ []
no_step_before acts at none =
    no_first (steps_of at.front ++ at.act.steps) (steps_of at.rest)
    (append_assoc (steps_of at.front) at.act.steps (steps_of at.rest)
    ∙ sym (steps_of-append at.front (at.act ∷ at.rest))
    ∙ ap (λ (xs : List Act). steps_of xs) at.parts ∙ none)

told_still : {T : Type 0} (m : Meaning T) (old new : T) (steps : List Step) (P : Cartridge → Type 0) → steps ≡ [] → Done m old new steps →
    Tells m old P → Tells m new P
told_still m old new steps P none done told =
    subst (λ (held : Option (Option Cartridge)). IfSome held (λ h. IfSome h P)) (sym (Done-told (subst (Done m old new) none done))) told

module _ {T K : Type 0} (t : Meaning T) (k : sinks.Meaning K) (words : List ℕ) (needed : List Piece) (lined : Bool)
    (old new : Outside T (Unit {0}) K) (P : Cartridge → Type 0) where
  given_told : (ending : GivingEnd) → GaveVolume t k words needed lined old new ending → Tells t old.tape P → Tells t new.tape P
  given_told ending gave told =
      told_still t old.tape new.tape (steps_of (printed lined needed gave.acts)) P
      (printed_in_no_step needed lined gave.acts gave.are) gave.went.did told

  cut_told : VolumeCut t k words needed lined old new SinkFails → Tells t old.tape P → Tells t new.tape P
  cut_told cut told =
      told_still t old.tape new.tape (steps_of cut.cut.at.front ++ cut.cut.at.act.steps) P
      (no_step_before (printed lined needed cut.acts) cut.cut.at (printed_in_no_step needed lined cut.acts cut.are)) cut.cut.did told

  -- it was only read
  pub output_told : (answer : Result (Unit {0}) StoreFault) → OutputEnds t k words needed lined old new answer →
      (answer ≡ Err fault.Tape → ⊥) →
      Tells t old.tape P → Tells t new.tape P
  output_told (Ok done) ends other told = given_told _ ends told
  output_told (Err (fault.Lost segment lost)) ends other told = given_told _ ends told
  output_told (Err (fault.Mismatch segment)) ends other told = given_told _ ends told
  output_told (Err fault.Sink) ends other told = cut_told ends told
  output_told (Err fault.Tape) ends other told = absurd (other refl)
  output_told (Err f) ends other told = absurd ends

-- ---- the store, behind a call that was handed only its host and its workspace

pub still_fits : {T : Type 0} (m : Meaning T) (view store : StoreView) (host : Host) (part : List (List ℕ)) (u v : UnitView T) →
    view ≡ store → StoreFits m store u → Keeps m host u v →
    Tells m v.tape (λ c. c.info.protected ≡ false → HasList c store.entries) →
    StoreFits m (record { host = host; header = view.header; words = view.words; entries = view.entries; part = part }) v
still_fits m view store host part u v is fits keeps told =
    let was : StoreFits m view u = subst (λ (s : StoreView). StoreFits m s u) (sym is) fits in
    fits_with m view u host v view.entries was keeps (subst (λ (n : ℕ). IsSoundList (n - 1) view.entries) (sym was.words) was.list)
    (subst (λ (s : StoreView). Tells m v.tape (λ c. c.info.protected ≡ false → HasList c s.entries)) (sym is) told)
