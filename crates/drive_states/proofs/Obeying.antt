-- Which commands leave the deck as it is, in each state.
use Rattle.std.proofs.Common.{◌≡◌, ◌<◌, Bool, true, false, ◌&&◌, [], None, IsSome, refl, sym, ap, arith}
use Rattle.qic117_commands.specs.declared.command.Command.{Command}
use Rattle.qic117_commands.specs.declared.command.Command.TheVariants.{ReportError, LogicalForward, SeekTrack, SeekLoadPoint, EnterFormat}
use Rattle.qic117_commands.specs.declared.command.Command.TheVariants.{WriteReference, EnterVerify, StopTape, SkipReverse, SkipForward}
use Rattle.qic117_commands.specs.declared.command.Command.TheVariants.{EnterPrimary, SetFormatSegments}
use Rattle.qic117_commands.specs.declared.view.Mode.TheVariants.{Primary, Format, Verify}
use Rattle.qic117_commands.specs.Refusals.{needs_cartridge, waits_for_seek, waits_for_stop, illegal_in_primary, illegal_in_format}
use Rattle.qic117_commands.specs.Refusals.{illegal_in_verify}
use Rattle.qic117_commands.specs.Views.{is_primary, is_format, is_verify, is_seeking as sees_seek}
use Rattle.drive_spec.specs.declared.deck.Deck.{Deck}
use Rattle.drive_spec.specs.declared.deck.Motion.{Motion}
use Rattle.drive_spec.specs.declared.deck.Motion.TheVariants.{Stopped, Streaming, Seeking}
use Rattle.drive_spec.specs.Deck.{seen_motion, is_stopped, view_of}
use Rattle.drive_spec.specs.Terms.{refusal_of}
use Rattle.drive_spec.specs.Effects.{accepted}
use Rattle.drive_spec.specs.Parameters.{parameter_trains, parameter_values}
use Rattle.drive_spec.specs.Steps.{reference_steps}
use Rattle.drive_states.specs.Typed.{is_seeking}
use Rattle.drive_states.proofs.Bounds.{while_stopped, with_cartridge}
use Rattle.drive_states.proofs.Taken.{is_taken}

-- it is not that command
abbrev Not : Command → Command → Type 0
Not c other = ¬ (c ≡ other)

-- the other commands change nothing, but by their parameters
pub stays_else : (c : Command) (d : Deck) → Not c ReportError → Not c WriteReference → Not c LogicalForward → Not c SeekLoadPoint →
    Not c EnterPrimary → Not c EnterFormat → Not c EnterVerify → Not c StopTape → accepted c d ≡ d
stays_else ReportError d n0 n1 n2 n3 n4 n5 n6 n7 = absurd (n0 refl)
stays_else WriteReference d n0 n1 n2 n3 n4 n5 n6 n7 = absurd (n1 refl)
stays_else LogicalForward d n0 n1 n2 n3 n4 n5 n6 n7 = absurd (n2 refl)
stays_else SeekLoadPoint d n0 n1 n2 n3 n4 n5 n6 n7 = absurd (n3 refl)
stays_else EnterPrimary d n0 n1 n2 n3 n4 n5 n6 n7 = absurd (n4 refl)
stays_else EnterFormat d n0 n1 n2 n3 n4 n5 n6 n7 = absurd (n5 refl)
stays_else EnterVerify d n0 n1 n2 n3 n4 n5 n6 n7 = absurd (n6 refl)
stays_else StopTape d n0 n1 n2 n3 n4 n5 n6 n7 = absurd (n7 refl)
stays_else c d n0 n1 n2 n3 n4 n5 n6 n7 = refl

sees : (m : Motion) → is_seeking m ≡ true → sees_seek (seen_motion m) ≡ true
sees Stopped e = cc
sees (Streaming next) e = cc
sees (Seeking left) e = refl

pub refused_in_seek : (d : Deck) (c : Command) → is_seeking d.motion ≡ true → waits_for_seek c ≡ true → refusal_of d c ≡ None → ⊥
refused_in_seek d c seeks waits taken =
    let t = is_taken (view_of d) c taken in
    let no : false ≡ true = rw (sees d.motion seeks, waits) at (sym t.seeks) in
    cc

legal : (b m : Bool) → b && m ≡ false → m ≡ true → b ≡ false
legal true true e is = e
legal false m e is = refl
legal true false e is = cc

-- a command that no row refuses is legal in the mode
pub legal_in_primary : (c : Command) (d : Deck) → d.mode ≡ Primary → refusal_of d c ≡ None → illegal_in_primary c ≡ false
legal_in_primary c d in_mode taken = legal (illegal_in_primary c) (is_primary d.mode) (is_taken (view_of d) c taken).primary
    (ap is_primary in_mode)

pub legal_in_format : (c : Command) (d : Deck) → d.mode ≡ Format → refusal_of d c ≡ None → illegal_in_format c ≡ false
legal_in_format c d in_mode taken = legal (illegal_in_format c) (is_format d.mode) (is_taken (view_of d) c taken).format
    (ap is_format in_mode)

pub legal_in_verify : (c : Command) (d : Deck) → d.mode ≡ Verify → refusal_of d c ≡ None → illegal_in_verify c ≡ false
legal_in_verify c d in_mode taken = legal (illegal_in_verify c) (is_verify d.mode) (is_taken (view_of d) c taken).verify
    (ap is_verify in_mode)

-- a command that does nothing to the cartridge
pub steps-none : (c : Command) → Not c WriteReference → reference_steps c ≡ []
steps-none WriteReference n = absurd (n refl)
steps-none c n = refl

-- a command that takes a parameter waits for the tape to stand, ..
pub parameter_stopped : (c : Command) (d : Deck) → 0 < parameter_trains c → refusal_of d c ≡ None → d.motion ≡ Stopped
unfolding waits_for_seek waits_for_stop
parameter_stopped SeekTrack d trains taken = while_stopped d SeekTrack refl refl taken
parameter_stopped SkipReverse d trains taken = while_stopped d SkipReverse refl refl taken
parameter_stopped SkipForward d trains taken = while_stopped d SkipForward refl refl taken
parameter_stopped SetFormatSegments d trains taken = while_stopped d SetFormatSegments refl refl taken
parameter_stopped c d trains taken = absurd (omega arith)

-- .. and there are four
pub no_parameter : (c : Command) → 0 < parameter_trains c → Not c SeekTrack → Not c SkipReverse → Not c SkipForward →
    Not c SetFormatSegments → ⊥
no_parameter SeekTrack trains n0 n1 n2 n3 = n0 refl
no_parameter SkipReverse trains n0 n1 n2 n3 = n1 refl
no_parameter SkipForward trains n0 n1 n2 n3 = n2 refl
no_parameter SetFormatSegments trains n0 n1 n2 n3 = n3 refl
no_parameter c trains n0 n1 n2 n3 = absurd (omega arith)

-- each value of another parameter than a track is a nibble
pub values_else : (c : Command) → Not c SeekTrack → parameter_values c ≡ 16
values_else SeekTrack n = absurd (n refl)
values_else c n = refl

-- what the typed calls ask besides
pub primary_stopped : (d : Deck) → refusal_of d EnterPrimary ≡ None → is_stopped d.motion ≡ true
unfolding waits_for_seek waits_for_stop
primary_stopped d taken = ap is_stopped (while_stopped d EnterPrimary refl refl taken)

pub reference_stopped : (d : Deck) → refusal_of d WriteReference ≡ None → is_stopped d.motion ≡ true
unfolding waits_for_seek waits_for_stop
reference_stopped d taken = ap is_stopped (while_stopped d WriteReference refl refl taken)

pub stop_present : (d : Deck) → refusal_of d StopTape ≡ None → IsSome d.cartridge
unfolding needs_cartridge
stop_present d taken = with_cartridge d StopTape refl taken
