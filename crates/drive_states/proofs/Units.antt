-- What the calls of a unit keep true of it, and what they came to.
use Rattle.std.proofs.Common.{◌≡◌, ◌≢◌, ℕ, ap, ◌∙◌, Bool, true, false, [], ◌∷◌, Option, Some, None, IfSome, IfOk, Result, Ok, Err}
use Rattle.std.proofs.Common.{OnOk, OnErr, refl, sym, subst, arith}
use Rattle.qic_base.specs.declared.tape.TapeFailed.{TapeFailed}
use Rattle.qic_base.specs.declared.tape.TapeInfo.{TapeInfo}
use Rattle.qic_base.specs.Cartridge.{Cartridge, IsPlace, view_at}
use Rattle.qic_base.specs.Step.{Wear, Spoil}
use Rattle.qic_base.specs.Tape.{Meaning, spoil_answer}
use Rattle.qic_base.specs.TapeCalls.{Does, Tells}
use Rattle.qic_base.proofs.Steps.{Tells-map}
use Rattle.qic117_commands.specs.declared.view.Mode.{Mode}
use Rattle.qic117_commands.specs.Views.{is_format}
use Rattle.tape_geometry.specs.declared.geometry.FloppyAddr.{FloppyAddr}
use Rattle.drive_spec.specs.declared.deck.Deck.{Deck}
use Rattle.drive_spec.specs.declared.deck.Motion.{Motion}
use Rattle.drive_spec.specs.declared.deck.Motion.TheVariants.{Stopped}
use Rattle.drive_spec.specs.declared.under_way.UnderWay.TheVariants.{Nothing}
use Rattle.drive_spec.specs.Deck.{is_streaming}
use Rattle.drive_spec.specs.Record.{Record}
use Rattle.drive_spec.specs.Row.{after_gap, moved_on, pulsed_row}
use Rattle.drive_spec.specs.Steps.{gap_steps, train_changes}
use Rattle.drive_states.specs.declared.fault.FdcFault.TheVariants.{NoAddress}
use Rattle.drive_states.specs.declared.fault.HandFault.TheVariants.{NotBlank}
use Rattle.drive_states.specs.Hand.{HandAnswer, Wears, Spoils, IsPlaced, IsNotReached}
use Rattle.drive_states.specs.Reach.{StreamsTo, ReachesNone, IsFormatting, Answer}
use Rattle.drive_states.specs.Unreferenced.{without_reference}
use Rattle.drive_states.specs.Sound.{IsSound, IsSoundRecord}
use Rattle.drive_states.specs.Unit.{DeckAndTape, UnitView, Knows, IsSoundUnit}
use Rattle.drive_states.proofs.Rows.{IsSoundRecord-row, IsSoundRecord-moved_on, IsUnderWay-moved}

-- after a gap
pub IsSoundUnit-gap : {T E : Type 0} (P : Type 0) (m : Meaning T) (old new : UnitView T) (result : Result (Unit {0}) E) →
    IsSoundRecord old.drive →
    OnOk result (new.drive ≡ after_gap old.drive) → OnErr result (P × (new.drive ≡ without_reference (after_gap old.drive))) →
    OnErr result (new.drive.under_way ≡ Nothing) → IsSound new.drive.deck → Knows new.drive.deck.cartridge (m.size new.tape) →
    IsSoundUnit m new
IsSoundUnit-gap P m old new (Ok done) s row failed over sound known = record {
  drive = subst IsSoundRecord (sym row) (IsSoundRecord-row old.drive old.drive.train s);
  known = known;
}
IsSoundUnit-gap P m old new (Err e) s row failed over sound known = record {
  drive = record {
    deck = sound;
    train = rw failed.1 (IsSoundRecord-row old.drive old.drive.train s).train;
    under_way = rw over tt;
  };
  known = known;
}

-- after a call that leaves the cable as it was, and a tape that stands too
pub IsSoundUnit-moved : {T : Type 0} (m : Meaning T) (r : Record) (d : Deck) (tape : T) → IsSoundRecord r →
    (r.deck.motion ≡ Stopped → d ≡ r.deck) → IsSound d → Knows d.cartridge (m.size tape) →
    IsSoundUnit m record { drive = record r { deck = d }; tape = tape }
IsSoundUnit-moved m r d tape s same sound known = record {
  drive = record { deck = sound; train = s.train; under_way = IsUnderWay-moved r.deck d r.under_way same s.under_way };
  known = known;
}

-- after a call that leaves the record as it was, and the size of the cartridge
pub IsSoundUnit-kept : {T : Type 0} (m : Meaning T) (r : Record) (tape : T) (new : DeckAndTape T) →
    IsSoundUnit m record { drive = r; tape = tape } →
    new.deck ≡ r.deck → m.size new.tape ≡ m.size tape → IsSoundUnit m record { drive = record r { deck = new.deck }; tape = new.tape }
IsSoundUnit-kept m r tape new s deck size = record {
  drive = record { deck = rw deck s.drive.deck; train = s.drive.train; under_way = rw deck s.drive.under_way };
  known = rw (deck, size) s.known;
}

-- a tape that stands reaches no sector
pub unreached : (has_call : Mode → Bool) (d : Deck) (addr : FloppyAddr) → d.motion ≡ Stopped → ReachesNone has_call d addr
unreached has_call d addr stopped segment index reaches = stands d.motion stopped reaches.sector.under.streams
  where
    stands : (m : Motion) → m ≡ Stopped → StreamsTo m index → ⊥
    stands m e streams = let no : ⊥ = subst (λ (n : Motion). StreamsTo n index) e streams in no

-- after a segment was formatted, or was not
pub IsSoundUnit-formatted : {T : Type 0} (m : Meaning T) (old new : UnitView T) (result : Answer (Unit {0})) → IsSoundRecord old.drive →
    (¬ (IsFormatting old.drive.deck) → new.drive ≡ old.drive) → (result ≡ Ok (Ok tt) → new.drive ≡ moved_on old.drive) →
    (result ≢ Ok (Ok tt) → new.drive ≡ old.drive) →
    Knows new.drive.deck.cartridge (m.size new.tape) → IsSoundUnit m new
IsSoundUnit-formatted m old new result s unreached moved stayed known = by_motion (is_streaming old.drive.deck.motion) refl
  where
    by_answer : (answer : Answer (Unit {0})) → (answer ≡ Ok (Ok tt) → new.drive ≡ moved_on old.drive) →
        (answer ≢ Ok (Ok tt) → new.drive ≡ old.drive) → is_streaming old.drive.deck.motion ≡ true → IsSoundUnit m new
    by_answer (Ok (Ok done)) ok err streams =
        record { drive = subst IsSoundRecord (sym (ok refl)) (IsSoundRecord-moved_on old.drive s streams); known = known }
    by_answer (Ok (Err fault)) ok err streams =
        record { drive = subst IsSoundRecord (sym (err (λ e. let yes = e in cc))) s; known = known }
    by_answer (Err failed) ok err streams =
        record { drive = subst IsSoundRecord (sym (err (λ e. let yes = e in cc))) s; known = known }

    by_motion : (b : Bool) → is_streaming old.drive.deck.motion ≡ b → IsSoundUnit m new
    by_motion true streams = by_answer result moved stayed streams
    by_motion false stands =
        let none : ¬ (IsFormatting old.drive.deck) = λ formats. let yes = formats.streams in cc in
        record { drive = subst IsSoundRecord (sym (unreached none)) s; known = known }

-- what a call answers whose tape answered that
abbrev pub IsAnswerOf : Result (Unit {0}) TapeFailed → HandAnswer (Unit {0}) → Type 0
IsAnswerOf (Ok done) result = result ≡ Ok (Ok done)
IsAnswerOf (Err failed) result = result ≡ Err failed

-- a call that came to its sector
pub reached : (tape : Result (Unit {0}) TapeFailed) (result : HandAnswer (Unit {0})) → IsAnswerOf tape result → ¬ (IsNotReached result)
reached (Ok done) result e = λ none. grind arith
reached (Err failed) result e = λ none. grind arith

-- what a call that wears a sector came to, said of its place
pub Wears-at : {T : Type 0} (m : Meaning T) (old new : UnitView T) (c : Option TapeInfo) (segment sector index : ℕ)
    (tape : Result (Unit {0}) TapeFailed)
    (result : HandAnswer (Unit {0})) → IsPlaced c segment sector (Ok index) →
    Does m old.tape new.tape (Wear segment index ∷ []) tape →
    IsAnswerOf tape result → IfSome c (λ info. IsPlace info.segments_per_track segment sector → Wears m old new segment sector result)
Wears-at m old new None segment sector index tape result placed did e = tt
Wears-at m old new (Some info) segment sector index (Ok done) result placed did e = λ place. rw (e, ← placed.0) did
Wears-at m old new (Some info) segment sector index (Err failed) result placed did e = λ place. rw (e, ← placed.0) did

-- the same of a call that tells whether the sector is a defect now
abbrev pub IsSpoilAnswerOf : Result Bool TapeFailed → HandAnswer (Unit {0}) → Type 0
IsSpoilAnswerOf (Ok true) result = result ≡ Ok (Ok tt)
IsSpoilAnswerOf (Ok false) result = result ≡ Ok (Err NotBlank)
IsSpoilAnswerOf (Err failed) result = result ≡ Err failed

-- such a call, too, came to its sector
pub reached_to_spoil : (tape : Result Bool TapeFailed) (result : HandAnswer (Unit {0})) → IsSpoilAnswerOf tape result →
    ¬ (IsNotReached result)
reached_to_spoil (Ok true) result e = λ none. grind arith
reached_to_spoil (Ok false) result e = λ none. grind arith
reached_to_spoil (Err failed) result e = λ none. grind arith

-- what a call that spoils a sector came to, said of its place
pub Spoils-at : {T : Type 0} (m : Meaning T) (old new : UnitView T) (c : Option TapeInfo) (segment sector index : ℕ)
    (tape : Result Bool TapeFailed)
    (result : HandAnswer (Unit {0})) → IsPlaced c segment sector (Ok index) →
    Does m old.tape new.tape (Spoil segment index ∷ []) tape →
    IfOk tape (λ answer. Tells m old.tape (λ c. answer ≡ spoil_answer (view_at c segment index))) → IsSpoilAnswerOf tape result →
    IfSome c (λ info. IsPlace info.segments_per_track segment sector → Spoils m old new segment sector result)
Spoils-at m old new None segment sector index tape result placed did told e = tt
Spoils-at m old new (Some info) segment sector index (Ok true) result placed did told e = λ place.
    rw (e, ← placed.0) (did, Tells-map m old.tape _ _ (λ (c : Cartridge) (is : true ≡ spoil_answer (view_at c segment index)). sym is) told)
Spoils-at m old new (Some info) segment sector index (Ok false) result placed did told e = λ place.
    rw (e, ← placed.0) (
      did,
      Tells-map m old.tape _ _ (λ (c : Cartridge) (is : false ≡ spoil_answer (view_at c segment index)). sym is)
          told,
    )
Spoils-at m old new (Some info) segment sector index (Err failed) result placed did told e = λ place. rw (e, ← placed.0) did

-- a fact that speaks of no value that is there
pub either_way : {A : Type 0} {P : Type 0} (o : Option A) → P → IfSome o (λ here. P)
either_way None p = tt
either_way (Some a) p = p

-- a format that was answered Ok was one that the drive has
pub formats_if_ok : {P : Type 0} {done : Unit {0}} (d : Deck) (result : Answer (Unit {0})) →
    (¬ (IsFormatting d) → (result ≡ Ok (Err NoAddress)) × P) →
    result ≡ Ok (Ok done) → IsFormatting d
formats_if_ok d result unreached ok = by_tests (is_format d.mode) (is_streaming d.motion) refl refl
  where
    by_tests : (a b : Bool) → is_format d.mode ≡ a → is_streaming d.motion ≡ b → IsFormatting d
    by_tests true true mode streams = record { mode = mode; streams = streams }
    by_tests false b mode streams = let none : ¬ (IsFormatting d) = λ formats. let yes = formats.mode in cc in let e = (unreached none).0 in
        cc
    by_tests true false mode streams = let none : ¬ (IsFormatting d) = λ formats. let yes = formats.streams in cc in
        let e = (unreached none).0 in cc

-- ---- a train

-- so many pulses were sent, and a gap
pub sent : (start counted : Record) (n train : ℕ) → counted ≡ record start { train = n } → n ≡ train →
    after_gap counted ≡ pulsed_row start train
unfolding pulsed_row
sent start counted n train same all = ap after_gap same ∙ ap (λ (k : ℕ). after_gap (record start { train = k })) all

pub sent_steps : (start counted : Record) (n train : ℕ) → counted ≡ record start { train = n } → n ≡ train →
    gap_steps counted ≡ train_changes start train
unfolding train_changes
sent_steps start counted n train same all = ap gap_steps same ∙ ap (λ (k : ℕ). gap_steps (record start { train = k })) all
