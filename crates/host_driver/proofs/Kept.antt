-- What no train changes of a drive.
use Rattle.std.proofs.Common.{◌≡◌, ℕ, ◌-◌, ◌<◌, ◌⊎◌, inl, inr, Bool, true, false, List, [], ◌∷◌, if◌then◌else◌, ◌==◌, ◌&&◌, nat_lt, refl}
use Rattle.std.proofs.Common.{sym, ap, ◌∙◌, subst, Some, None, Option, arith}
use Rattle.std.proofs.lemmas.Bool.Decides.{nat_tests}
use Rattle.std.specs.Option.{option_map, option_map_or}
use Rattle.qic_base.specs.declared.tape.TapeInfo.{TapeInfo}
use Rattle.qic117_commands.specs.Commands.{number_of, command_at}
use Rattle.qic117_commands.specs.Views.{is_format}
use Rattle.qic117_commands.specs.declared.command.Command.{Command}
use Rattle.qic117_commands.specs.declared.command.Command.TheVariants.{ReportNextBit, ReportError, LogicalForward, SeekTrack, SeekLoadPoint}
use Rattle.qic117_commands.specs.declared.command.Command.TheVariants.{EnterFormat, WriteReference, EnterVerify, StopTape, SkipReverse}
use Rattle.qic117_commands.specs.declared.command.Command.TheVariants.{SkipForward, EnterPrimary, SetFormatSegments}
use Rattle.qic117_commands.specs.declared.error_code.ErrorCode.{ErrorCode}
use Rattle.qic117_commands.specs.declared.error_code.ErrorCode.TheVariants.{IllegalInReport}
use Rattle.drive_spec.specs.declared.deck.Deck.{Deck}
use Rattle.drive_spec.specs.declared.deck.Motion.TheVariants.{Streaming}
use Rattle.drive_spec.specs.declared.under_way.Parameter.{Parameter}
use Rattle.drive_spec.specs.declared.under_way.UnderWay.{UnderWay}
use Rattle.drive_spec.specs.declared.under_way.UnderWay.TheVariants.{Nothing, Report, Awaited}
use Rattle.drive_spec.specs.Deck.{view_of, is_streaming, is_stopped, limit}
use Rattle.drive_spec.specs.Terms.{refusal_of, is_protected, referenced_as, idled, longer}
use Rattle.drive_spec.specs.Effects.{accepted, given, ticked}
use Rattle.drive_spec.specs.Record.{Record}
use Rattle.drive_spec.specs.Parameters.{parameter_trains, parameter_values, parameter_code}
use Rattle.drive_spec.specs.Row.{heard, by_command, by_refusal, given_more, latched, showing, pulsed_row}
use Rattle.drive_states.specs.Unreferenced.{unreferenced}
use Rattle.host_driver.proofs.Follows.{counted, pulsed_row-heard, pulsed_row-idled}
use Rattle.host_driver.proofs.Refusals.{format_writable}

-- the cartridge's length
abbrev pub length_of : Deck → Option ℕ
length_of d = option_map (λ info. info.segments_per_track) d.cartridge

-- the cartridge's length and its protect mark stay, it stays known, and Format mode is entered with one that may be written
pub record KeepsCartridge (old new : Deck) : Type 0 where
  pub length : length_of new ≡ length_of old
  pub protected : is_protected new ≡ is_protected old
  pub known : old.fresh ≡ false → new.fresh ≡ false
  pub formats : is_format new.mode ≡ true → (is_format old.mode ≡ true) ⊎ (is_protected old ≡ false)

KeepsCartridge-same : (d : Deck) → KeepsCartridge d d
KeepsCartridge-same d = record { length = refl; protected = refl; known = λ e. e; formats = λ e. inl e }

KeepsCartridge-error : (d : Deck) (error : ℕ) → KeepsCartridge d (record d { error = error })
KeepsCartridge-error d error = record { length = refl; protected = refl; known = λ e. e; formats = λ e. inl e }

length-referenced : (on : Bool) (c : Option TapeInfo) → option_map (λ (i : TapeInfo). i.segments_per_track)
    (referenced_as on c) ≡ option_map (λ i. i.segments_per_track) c
length-referenced on None = refl
length-referenced on (Some info) = refl

protected-referenced : (on : Bool) (c : Option TapeInfo) → option_map_or (λ (i : TapeInfo). i.protected)
    (referenced_as on c) false ≡ option_map_or (λ i. i.protected) c false
protected-referenced on None = refl
protected-referenced on (Some info) = refl

pub KeepsCartridge-unreferenced : (old d : Deck) → KeepsCartridge old d → KeepsCartridge old (unreferenced d)
KeepsCartridge-unreferenced old d k = record {
  length = length-referenced false d.cartridge ∙ k.length;
  protected = protected-referenced false d.cartridge ∙ k.protected;
  known = k.known;
  formats = k.formats;
}

KeepsCartridge-streaming : (d : Deck) (b : Bool) →
    KeepsCartridge d (if b then record d { motion = Streaming 0; at_load_point = false } else d)
KeepsCartridge-streaming d true = record { length = refl; protected = refl; known = λ e. e; formats = λ e. inl e }
KeepsCartridge-streaming d false = KeepsCartridge-same d

KeepsCartridge-accepted : (c : Command) (d : Deck) → refusal_of d c ≡ None → KeepsCartridge d (accepted c d)
KeepsCartridge-accepted ReportError d taken = record { length = refl; protected = refl; known = λ e. refl; formats = λ e. inl e }
KeepsCartridge-accepted LogicalForward d taken = KeepsCartridge-streaming d (is_stopped d.motion && nat_lt d.offset (limit d))
KeepsCartridge-accepted SeekLoadPoint d taken = record { length = refl; protected = refl; known = λ e. e; formats = λ e. inl e }
KeepsCartridge-accepted EnterFormat d taken =
    record { length = refl; protected = refl; known = λ e. e; formats = λ e. inr (format_writable (view_of d) taken) }
KeepsCartridge-accepted WriteReference d taken = record {
  length = length-referenced true d.cartridge;
  protected = protected-referenced true d.cartridge;
  known = λ e. e;
  formats = λ e. inl e;
}
KeepsCartridge-accepted EnterVerify d taken = record { length = refl; protected = refl; known = λ e. e; formats = λ e. cc }
KeepsCartridge-accepted StopTape d taken = record { length = refl; protected = refl; known = λ e. e; formats = λ e. inl e }
KeepsCartridge-accepted EnterPrimary d taken = record { length = refl; protected = refl; known = λ e. e; formats = λ e. cc }
KeepsCartridge-accepted c d taken = KeepsCartridge-same d

KeepsCartridge-given : (c : Command) (parameter : ℕ) (d : Deck) → KeepsCartridge d (given c parameter d)
KeepsCartridge-given SeekTrack parameter d = record { length = refl; protected = refl; known = λ e. e; formats = λ e. inl e }
KeepsCartridge-given SkipReverse parameter d = record { length = refl; protected = refl; known = λ e. e; formats = λ e. inl e }
KeepsCartridge-given SkipForward parameter d = record { length = refl; protected = refl; known = λ e. e; formats = λ e. inl e }
KeepsCartridge-given SetFormatSegments parameter d = record { length = refl; protected = refl; known = λ e. e; formats = λ e. inl e }
KeepsCartridge-given c parameter d = KeepsCartridge-same d

-- and no pulse is counted then
pub record KeptRecord (old new : Record) : Type 0 where
  pub deck : KeepsCartridge old.deck new.deck
  pub train : new.train ≡ old.train

module _ (b : Record) (pulses : ℕ) where
  by_refusal-kept : (c : Command) (o : Option ErrorCode) → refusal_of b.deck c ≡ o → KeptRecord b (by_refusal b c o)
  by_refusal-kept c None e = record { deck = KeepsCartridge-accepted c b.deck e; train = refl }
  by_refusal-kept c (Some code) e = record { deck = KeepsCartridge-error b.deck _; train = refl }

  by_command-kept : (o : Option Command) → KeptRecord b (by_command b pulses o)
  by_command-kept None = record { deck = KeepsCartridge-error b.deck _; train = refl }
  by_command-kept (Some c) = by_refusal-kept c (refusal_of b.deck c) refl

  showing-kept : (levels : List Bool) → KeptRecord b (showing b levels)
  showing-kept [] = record { deck = KeepsCartridge-same b.deck; train = refl }
  showing-kept (level ∷ []) = record { deck = KeepsCartridge-same b.deck; train = refl }
  showing-kept (level ∷ next ∷ rest) = record { deck = KeepsCartridge-same b.deck; train = refl }

  reported-kept : (levels : List Bool) (next : Bool) → KeptRecord b (if next then showing b levels else latched b IllegalInReport pulses)
  reported-kept levels true = showing-kept levels
  reported-kept levels false = record { deck = KeepsCartridge-error b.deck _; train = refl }

  given_more-kept : (a : Parameter) (whole : Bool) →
      KeptRecord b (if whole then record b { deck = given a.command a.value b.deck; under_way = Nothing } else record b
      { under_way = Awaited a })
  given_more-kept a true = record { deck = KeepsCartridge-given a.command a.value b.deck; train = refl }
  given_more-kept a false = record { deck = KeepsCartridge-same b.deck; train = refl }

  taking-kept : (a : Parameter) (value : Bool) →
      KeptRecord b (if value then given_more b (longer a (pulses - 2)) else latched b (parameter_code a.command) (number_of a.command))
  taking-kept a true = given_more-kept (longer a (pulses - 2)) ((longer a (pulses - 2)).taken == parameter_trains a.command)
  taking-kept a false = record { deck = KeepsCartridge-error b.deck _; train = refl }

  heard-kept : (u : UnderWay) → KeptRecord b (heard b pulses u)
  heard-kept Nothing = by_command-kept (command_at pulses)
  heard-kept (Report levels) = reported-kept levels (pulses == number_of ReportNextBit)
  heard-kept (Awaited a) = taking-kept a (nat_lt (pulses - 2) (parameter_values a.command))

idled-kept : (b : Record) (streams : Bool) → is_streaming b.deck.motion ≡ streams → KeptRecord b (idled b)
idled-kept b true e = rw e record { deck = record { length = refl; protected = refl; known = λ f. f; formats = λ f. inl f }; train = refl }
idled-kept b false e = rw e record { deck = KeepsCartridge-same b.deck; train = refl }

-- no train but a reset does
pub pulsed_row-kept : (r : Record) (pulses : ℕ) → (pulses ≡ 1 → ⊥) → KeptRecord (record r { train = 0 }) (pulsed_row r pulses)
pulsed_row-kept r pulses other = by_count (pulses == 0) refl
  where
    by_count : (t : Bool) → (pulses == 0) ≡ t → KeptRecord (record r { train = 0 }) (pulsed_row r pulses)
    by_count true e =
        let zero : pulses ≡ 0 = grind (arith, nat_tests) in
        let k = idled-kept (record r { deck = ticked r.deck; train = 0 }) (is_streaming (ticked r.deck).motion) refl in
        subst (λ (x : Record). KeptRecord (record r { train = 0 }) x) (sym (ap (pulsed_row r) zero ∙ pulsed_row-idled r))
        record {
          deck = record { length = k.deck.length; protected = k.deck.protected; known = k.deck.known; formats = k.deck.formats };
          train = k.train;
        }
    by_count false e =
        let more : 1 < pulses = grind (arith, nat_tests) in
        let k = heard-kept (counted r) pulses r.under_way in
        subst (λ (x : Record). KeptRecord (record r { train = 0 }) x) (sym (pulsed_row-heard r pulses more))
        record {
          deck = record { length = k.deck.length; protected = k.deck.protected; known = k.deck.known; formats = k.deck.formats };
          train = k.train;
        }
