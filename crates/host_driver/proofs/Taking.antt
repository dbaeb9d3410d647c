-- What no row refuses of a drive that the host fits.
use Rattle.std.proofs.Common.{◌≡◌, ℕ, ◌+◌, ◌*◌, ◌^◌, ◌<◌, Bool, true, false, if◌then◌else◌, min, refl, sym, ap, ◌∙◌, subst, Some, None}
use Rattle.std.proofs.Common.{Option, is_some, IfSome, IsSomeAnd, arith}
use Rattle.qic_base.specs.declared.tape.TapeInfo.{TapeInfo}
use Rattle.qic117_commands.specs.Views.{is_format, is_verify}
use Rattle.qic117_commands.specs.declared.command.Command.TheVariants.{LogicalForward, SeekTrack, EnterFormat, EnterVerify, SkipReverse}
use Rattle.qic117_commands.specs.declared.command.Command.TheVariants.{SkipForward, EnterPrimary}
use Rattle.qic117_commands.specs.declared.view.Mode.{Mode}
use Rattle.qic117_commands.specs.declared.view.Mode.TheVariants.{Primary, Format, Verify}
use Rattle.drive_spec.specs.declared.deck.Deck.{Deck}
use Rattle.drive_spec.specs.declared.deck.Motion.{Motion}
use Rattle.drive_spec.specs.declared.deck.Motion.TheVariants.{Stopped, Streaming, Seeking}
use Rattle.drive_spec.specs.declared.under_way.UnderWay.{UnderWay}
use Rattle.drive_spec.specs.declared.under_way.UnderWay.TheVariants.{Nothing, Awaited}
use Rattle.drive_spec.specs.Terms.{refusal_of, is_protected, is_referenced, sought, skipped, longer, begun}
use Rattle.drive_spec.specs.Deck.{view_of, is_stopped, limit, segments_per_track}
use Rattle.drive_spec.specs.Effects.{accepted}
use Rattle.drive_spec.specs.Record.{Record}
use Rattle.drive_spec.specs.Row.{given_more}
use Rattle.drive_states.specs.Typed.{is_seeking, skip_command}
use Rattle.drive_states.proofs.Taken.{primary_taken}
use Rattle.drive_states.specs.Unit.{UnitView}
use Rattle.qic_base.specs.Tape.{Meaning}
use Rattle.host_driver.specs.declared.host.Host.{Host}
use Rattle.host_driver.specs.Commands.{is_plain, TakesValue, entry_of}
use Rattle.host_driver.specs.Fits.{Fits, GeneratesAll, parameter_of, segments_of}
use Rattle.host_driver.specs.Place.{StandsAt}
use Rattle.host_driver.proofs.Refusals.{seek_taken, skip_forward_taken, skip_reverse_taken, forward_taken, format_taken, verify_taken}
use Rattle.drive_states.proofs.Bounds.{seen_stop}

pub there : (c : Option TapeInfo) (P : TapeInfo → Type 0) → IsSomeAnd c P → is_some c ≡ true
there None P h = absurd h
there (Some info) P h = refl

-- a tape that stands and is known
pub record StandsKnown (d : Deck) : Type 0 where
  pub present : is_some d.cartridge ≡ true
  pub known : d.fresh ≡ false
  pub stopped : is_stopped d.motion ≡ true

module _ (d : Deck) (ready : StandsKnown d) where
  pub primary_of : refusal_of d EnterPrimary ≡ None
  primary_of = primary_taken (view_of d) ready.present (seen_stop d.motion ready.stopped)

  pub seek_of : is_referenced d ≡ true → refusal_of d SeekTrack ≡ None
  seek_of referenced = seek_taken (view_of d) ready.present (seen_stop d.motion ready.stopped) ready.known referenced

  pub skip_of : (forward : Bool) → is_referenced d ≡ true → is_format d.mode ≡ false →
      refusal_of d (skip_command forward) ≡ None
  skip_of true referenced other = skip_forward_taken (view_of d) ready.present
      (seen_stop d.motion ready.stopped) other ready.known referenced
  skip_of false referenced other = skip_reverse_taken (view_of d) ready.present
      (seen_stop d.motion ready.stopped) other ready.known referenced

  pub forward_of : is_referenced d ≡ true → (is_format d.mode ≡ true → d.offset ≡ 0) → refusal_of d LogicalForward ≡ None
  forward_of referenced first = forward_taken (view_of d) ready.present (seen_stop d.motion ready.stopped) ready.known referenced first

  pub format_of : d.mode ≡ Primary → is_protected d ≡ false → refusal_of d EnterFormat ≡ None
  format_of primary writable = format_taken (view_of d) ready.present (seen_stop d.motion ready.stopped) primary writable ready.known

  pub verify_of : is_verify d.mode ≡ false → is_referenced d ≡ true → refusal_of d EnterVerify ≡ None
  verify_of other referenced = verify_taken (view_of d) ready.present (seen_stop d.motion ready.stopped) other ready.known referenced

-- streaming ends at the end of the track, in each mode
pub limit_of : (d : Deck) → GeneratesAll d → limit d ≡ segments_per_track d
limit_of d g = by_mode (is_format d.mode) refl
  where
    by_mode : (b : Bool) → is_format d.mode ≡ b →
        (if b then min d.format_segments (segments_per_track d) else segments_per_track d) ≡ segments_per_track d
    by_mode true e = let all = g.segments e in omega arith
    by_mode false e = refl

-- a command's parameter came whole
pub record IsGiven (r : Record) (d : Deck) : Type 0 where
  pub deck : r.deck ≡ d
  pub under_way : r.under_way ≡ Nothing

pub given_track : (r s : Record) (d : Deck) (track : ℕ) → r.deck ≡ d → r.under_way ≡ begun SeekTrack d →
    IfSome (parameter_of r.under_way) (λ a. s ≡ given_more (record r { line = false; train = 0 }) (longer a track)) →
    IsGiven s (sought track d)
given_track r s d track deck awaits given =
    let is = subst (λ (u : UnderWay). IfSome (parameter_of u) (λ a. s ≡ given_more (record r { line = false; train = 0 }) (longer a track)))
    awaits given in
    let value : 0 + track * 16 ^ 0 ≡ track = omega arith in
    record {
      deck = ap (λ (x : Record). x.deck) is ∙ ap (λ (n : ℕ). sought n r.deck) value ∙ ap (sought track) deck;
      under_way = ap (λ (x : Record). x.under_way) is;
    }

-- a skip awaits its count
pub skip_awaits : (forward : Bool) (d : Deck) → accepted (skip_command forward) d ≡ d
skip_awaits true d = refl
skip_awaits false d = refl

-- the first of two nibbles came
pub record IsHalf (r : Record) (d : Deck) (forward : Bool) (low : ℕ) : Type 0 where
  pub deck : r.deck ≡ d
  pub under_way : r.under_way ≡ Awaited record { command = skip_command forward; taken = 1; value = low }

pub given_low : (forward : Bool) (r s : Record) (d : Deck) (low : ℕ) → r.deck ≡ d → r.under_way ≡ begun (skip_command forward) d →
    IfSome (parameter_of r.under_way) (λ a. s ≡ given_more (record r { line = false; train = 0 }) (longer a low)) → IsHalf s d forward low
given_low true r s d low deck awaits given =
    let is = subst (λ (u : UnderWay). IfSome (parameter_of u) (λ a. s ≡ given_more (record r { line = false; train = 0 }) (longer a low)))
    awaits given in
    let value : 0 + low * 16 ^ 0 ≡ low = omega arith in
    record {
      deck = ap (λ (x : Record). x.deck) is ∙ deck;
      under_way = ap (λ (x : Record). x.under_way) is
          ∙ ap (λ (n : ℕ). Awaited record { command = SkipForward; taken = 1; value = n }) value;
    }
given_low false r s d low deck awaits given =
    let is = subst (λ (u : UnderWay). IfSome (parameter_of u) (λ a. s ≡ given_more (record r { line = false; train = 0 }) (longer a low)))
    awaits given in
    let value : 0 + low * 16 ^ 0 ≡ low = omega arith in
    record {
      deck = ap (λ (x : Record). x.deck) is ∙ deck;
      under_way = ap (λ (x : Record). x.under_way) is
          ∙ ap (λ (n : ℕ). Awaited record { command = SkipReverse; taken = 1; value = n }) value;
    }

pub given_high : (forward : Bool) (r s : Record) (d : Deck) (low high count : ℕ) → low + 16 * high ≡ count → IsHalf r d forward low →
    IfSome (parameter_of r.under_way) (λ a. s ≡ given_more (record r { line = false; train = 0 }) (longer a high)) →
    IsGiven s (skipped forward count d)
given_high true r s d low high count all half given =
    let is = subst (λ (u : UnderWay). IfSome (parameter_of u) (λ a. s ≡ given_more (record r { line = false; train = 0 }) (longer a high)))
    half.under_way given in
    let value : low + high * 16 ^ 1 ≡ count = omega arith in
    record {
      deck = ap (λ (x : Record). x.deck) is ∙ ap (λ (n : ℕ). skipped true n r.deck) value ∙ ap (skipped true count) half.deck;
      under_way = ap (λ (x : Record). x.under_way) is;
    }
given_high false r s d low high count all half given =
    let is = subst (λ (u : UnderWay). IfSome (parameter_of u) (λ a. s ≡ given_more (record r { line = false; train = 0 }) (longer a high)))
    half.under_way given in
    let value : low + high * 16 ^ 1 ≡ count = omega arith in
    record {
      deck = ap (λ (x : Record). x.deck) is ∙ ap (λ (n : ℕ). skipped false n r.deck) value ∙ ap (skipped false count) half.deck;
      under_way = ap (λ (x : Record). x.under_way) is;
    }

-- a value that may be given
pub takes_track : (u : UnderWay) (d : Deck) (track : ℕ) → u ≡ begun SeekTrack d → track < 28 →
    IsSomeAnd (parameter_of u) (λ a. TakesValue a track)
takes_track u d track awaits small =
    subst (λ (w : UnderWay). IsSomeAnd (parameter_of w) (λ a. TakesValue a track)) (sym awaits) record { small = small; moves = λ e. cc }

pub takes_low : (forward : Bool) (u : UnderWay) (d : Deck) (low : ℕ) → u ≡ begun (skip_command forward) d → low < 16 →
    IsSomeAnd (parameter_of u) (λ a. TakesValue a low)
takes_low true u d low awaits small =
    subst (λ (w : UnderWay). IsSomeAnd (parameter_of w) (λ a. TakesValue a low)) (sym awaits) record { small = small; moves = λ e. cc }
takes_low false u d low awaits small =
    subst (λ (w : UnderWay). IsSomeAnd (parameter_of w) (λ a. TakesValue a low)) (sym awaits) record { small = small; moves = λ e. cc }

pub takes_high : (forward : Bool) (r : Record) (d : Deck) (low high : ℕ) → IsHalf r d forward low → high < 16 →
    IsSomeAnd (parameter_of r.under_way) (λ a. TakesValue a high)
takes_high true r d low high half small =
    subst (λ (w : UnderWay). IsSomeAnd (parameter_of w) (λ a. TakesValue a high))
    (sym half.under_way) record { small = small; moves = λ e. cc }
takes_high false r d low high half small =
    subst (λ (w : UnderWay). IsSomeAnd (parameter_of w) (λ a. TakesValue a high))
    (sym half.under_way) record { small = small; moves = λ e. cc }

pub stands_known : {T : Type 0} {m : Meaning T} {h : Host} {u : UnitView T} → Fits m h u → is_stopped u.drive.deck.motion ≡ true →
    StandsKnown u.drive.deck
stands_known {h = h} {u = u} f stopped = record {
  present = there u.drive.deck.cartridge (λ info. info.segments_per_track ≡ segments_of h) f.cartridge;
  known = f.known;
  stopped = stopped;
}

pub entry_taken : (mode : Mode) (d : Deck) → StandsKnown d → d.mode ≡ Primary → (mode ≡ Format → is_protected d ≡ false) →
    (mode ≡ Verify → is_referenced d ≡ true) →
    refusal_of d (entry_of mode) ≡ None
entry_taken Primary d ready primary writable referenced = primary_of d ready
entry_taken Format d ready primary writable referenced = format_of d ready primary (writable refl)
entry_taken Verify d ready primary writable referenced = verify_of d ready (rw primary refl) (referenced refl)

stopped_is : (m : Motion) → is_stopped m ≡ true → m ≡ Stopped
stopped_is Stopped e = refl
stopped_is (Streaming next) e = cc
stopped_is (Seeking left) e = cc

-- the mode is entered where the tape stands
pub record IsEntered (mode : Mode) (old new : Deck) : Type 0 where
  pub mode_is : new.mode ≡ mode
  pub place : StandsAt old.track old.offset new
  pub cartridge : new.cartridge ≡ old.cartridge
  pub still : is_seeking new.motion ≡ false

entered : (mode : Mode) (d : Deck) → d.motion ≡ Stopped → IsEntered mode d (accepted (entry_of mode) d)
entered Primary d stopped = record {
  mode_is = refl;
  place = record { motion = stopped; on_track = refl; at_offset = refl };
  cartridge =
      refl;
  still = ap is_seeking stopped;
}
entered Format d stopped = record {
  mode_is = refl;
  place = record { motion = stopped; on_track = refl; at_offset = refl };
  cartridge =
      refl;
  still = ap is_seeking stopped;
}
entered Verify d stopped = record {
  mode_is = refl;
  place = record { motion = stopped; on_track = refl; at_offset = refl };
  cartridge =
      refl;
  still = ap is_seeking stopped;
}

pub entered_as : (mode : Mode) (old new : Deck) → new ≡ accepted (entry_of mode) old → is_stopped old.motion ≡ true → IsEntered mode old new
entered_as mode old new deck stopped =
    subst (λ (d : Deck). IsEntered mode old d) (sym deck) (entered mode old (stopped_is old.motion stopped))

-- its command is whole, and leaves nothing under way
pub entry_plain : (mode : Mode) → is_plain (entry_of mode) ≡ true
entry_plain Primary = refl
entry_plain Format = refl
entry_plain Verify = refl

pub entry_idle : (mode : Mode) (d : Deck) → begun (entry_of mode) d ≡ Nothing
entry_idle Primary d = refl
entry_idle Format d = refl
entry_idle Verify d = refl
