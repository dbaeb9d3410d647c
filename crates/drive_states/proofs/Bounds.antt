-- What commands and gaps keep true of a deck.
use Rattle.std.proofs.Common.{◌≡◌, ℕ, ◌+◌, ◌-◌, ◌%◌, ◌<◌, ◌≤◌, ◌==◌, Bool, true, false, not, ◌&&◌, Option, Some, None, is_some, IsSome}
use Rattle.std.proofs.Common.{if◌then◌else◌, nat_lt, nat_le, min, refl, arith}
use Rattle.std.proofs.lemmas.Bool.Decides.{nat_tests}
use Rattle.std.specs.Option.{option_map_or}
use Rattle.qic_base.specs.declared.tape.TapeInfo.{TapeInfo}
use Rattle.qic117_commands.specs.declared.command.Command.{Command}
use Rattle.qic117_commands.specs.declared.command.Command.TheVariants.{ReportError, LogicalForward, SeekTrack, SeekLoadPoint, EnterFormat}
use Rattle.qic117_commands.specs.declared.command.Command.TheVariants.{WriteReference, EnterVerify, StopTape, SkipReverse, SkipForward}
use Rattle.qic117_commands.specs.declared.command.Command.TheVariants.{EnterPrimary, SetFormatSegments}
use Rattle.qic117_commands.specs.declared.view.Mode.{Mode}
use Rattle.qic117_commands.specs.declared.view.Mode.TheVariants.{Primary, Format, Verify}
use Rattle.qic117_commands.specs.Refusals.{needs_cartridge, waits_for_seek, waits_for_stop}
use Rattle.qic117_commands.specs.Views.{is_primary, is_format, is_seeking as sees_seek, is_streaming as sees_stream}
use Rattle.drive_spec.specs.declared.deck.Deck.{Deck}
use Rattle.drive_spec.specs.declared.deck.Motion.{Motion}
use Rattle.drive_spec.specs.declared.deck.Motion.TheVariants.{Stopped, Streaming, Seeking}
use Rattle.drive_spec.specs.Deck.{segments_per_track, limit, is_stopped, is_streaming, seen_motion, view_of}
use Rattle.drive_spec.specs.Terms.{refusal_of, referenced_as, run_on}
use Rattle.drive_spec.specs.Effects.{accepted, given, reset, ticked, ticked_motion}
use Rattle.drive_states.specs.Typed.{is_seeking}
use Rattle.drive_states.specs.Sound.{IsParameter, HasLength, IsInMotion, IsSound}
use Rattle.drive_states.specs.Reach.{passed}
use Rattle.drive_states.specs.Unit.{Knows}
use Rattle.qic117_commands.specs.declared.view.Motion.TheVariants as seen_as
use Rattle.drive_states.proofs.Taken.{is_taken, stop_taken, primary_taken, reference_taken, segments_taken}

and-right : (a b : Bool) → a && b ≡ true → b ≡ true
and-right true b e = e
and-right false b e = cc

not-false : (a : Bool) → not a ≡ false → a ≡ true
not-false true e = refl
not-false false e = cc

-- a tape that is seen neither to seek nor to stream is stopped
seen_stopped : (m : Motion) → sees_seek (seen_motion m) ≡ false → sees_stream (seen_motion m) ≡ false → m ≡ Stopped
seen_stopped Stopped seeks streams = refl
seen_stopped (Streaming next) seeks streams = cc
seen_stopped (Seeking left) seeks streams = cc

small_length : (c : Option TapeInfo) → HasLength c → option_map_or (λ i. i.segments_per_track) c 0 < 4096
small_length None long = omega arith
small_length (Some info) long = let l = long.longest in omega arith

pub limit_within : (d : Deck) → limit d ≤ segments_per_track d
limit_within d = by_mode d.mode
  where
    by_mode : (m : Mode) → (if is_format m then min d.format_segments (segments_per_track d) else segments_per_track d) ≤ segments_per_track
        d
    by_mode Primary = omega arith
    by_mode Format = omega arith
    by_mode Verify = omega arith

-- where the tape is stopped, whatever the limit is
still : (m : Motion) (limit offset : ℕ) → m ≡ Stopped → IsInMotion limit offset m
still Stopped limit offset e = tt
still (Streaming next) limit offset e = cc
still (Seeking left) limit offset e = cc

IsSound-streaming : (d : Deck) (b : Bool) → (is_stopped d.motion && nat_lt d.offset (limit d)) ≡ b → IsSound d →
    IsSound (if b then record d { motion = Streaming 0; at_load_point = false } else d)
IsSound-streaming d false e s = s
IsSound-streaming d true e s =
    let before : nat_lt d.offset (limit d) ≡ true = and-right (is_stopped d.motion) (nat_lt d.offset (limit d)) e in
    let room : d.offset < limit d = grind (arith, nat_tests) in
    record {
      long = s.long;
      present = s.present;
      load_point = λ at. cc;
      track = s.track;
      offset = s.offset;
      motion = (room, omega arith);
      format_segments = s.format_segments;
    }

-- the command was taken with a cartridge, and the tape was stopped
pub with_cartridge : (d : Deck) (c : Command) → needs_cartridge c ≡ true → refusal_of d c ≡ None → is_some d.cartridge ≡ true
with_cartridge d c needs taken =
    let t = is_taken (view_of d) c taken in
    not-false (is_some d.cartridge) (rw needs at t.present)

pub while_stopped : (d : Deck) (c : Command) → waits_for_seek c ≡ true → waits_for_stop c ≡ true → refusal_of d c ≡ None →
    d.motion ≡ Stopped
while_stopped d c seek stop taken =
    let t = is_taken (view_of d) c taken in
    seen_stopped d.motion (rw seek at t.seeks) (rw stop at t.streams)

HasLength-referenced : (on : Bool) (c : Option TapeInfo) → HasLength c → HasLength (referenced_as on c)
HasLength-referenced on None long = tt
HasLength-referenced on (Some info) long = long

is_some-referenced : (on : Bool) (c : Option TapeInfo) → is_some (referenced_as on c) ≡ is_some c
is_some-referenced on None = refl
is_some-referenced on (Some info) = refl

Knows-referenced : (on : Bool) (c : Option TapeInfo) (size : Option ℕ) → Knows c size → Knows (referenced_as on c) size
Knows-referenced on None size known = tt
Knows-referenced on (Some info) size known = known

pub IsSound-accepted : (c : Command) (d : Deck) → IsSound d → refusal_of d c ≡ None → IsSound (accepted c d)
unfolding needs_cartridge waits_for_seek waits_for_stop
IsSound-accepted ReportError d s taken = record {
  long = s.long;
  present = s.present;
  load_point = λ at. let p = s.load_point at in record { primary = p.primary; track = p.track; offset = p.offset; still = p.still };
  track = s.track;
  offset = s.offset;
  motion = s.motion;
  format_segments = s.format_segments;
}
IsSound-accepted LogicalForward d s taken = IsSound-streaming d (is_stopped d.motion && nat_lt d.offset (limit d)) refl s
IsSound-accepted SeekLoadPoint d s taken = record {
  long = s.long;
  present = s.present;
  load_point = λ at. record { primary = primary_mode d.mode at; track = refl; offset = refl; still = refl };
  track = omega arith;
  offset = omega arith;
  motion = (omega arith, omega arith);
  format_segments = s.format_segments;
}
  where
    primary_mode : (m : Mode) → is_primary m ≡ true → m ≡ Primary
    primary_mode Primary e = refl
    primary_mode Format e = cc
    primary_mode Verify e = cc
IsSound-accepted EnterFormat d s taken = record {
  long = s.long;
  present = λ other. with_cartridge d EnterFormat refl taken;
  load_point = λ at. cc;
  track = s.track;
  offset = s.offset;
  motion = still d.motion _ _ (while_stopped d EnterFormat refl refl taken);
  format_segments = small_length d.cartridge s.long;
}
IsSound-accepted WriteReference d s taken = record {
  long = HasLength-referenced true d.cartridge s.long;
  present = λ other. rw (is_some-referenced true d.cartridge) (s.present other);
  load_point = λ at. let p = s.load_point at in record { primary = p.primary; track = refl; offset = refl; still = refl };
  track = omega arith;
  offset = omega arith;
  motion = (omega arith, omega arith);
  format_segments = s.format_segments;
}
IsSound-accepted EnterVerify d s taken = record {
  long = s.long;
  present = λ other. with_cartridge d EnterVerify refl taken;
  load_point = λ at. cc;
  track = s.track;
  offset = s.offset;
  motion = still d.motion _ _ (while_stopped d EnterVerify refl refl taken);
  format_segments = s.format_segments;
}
IsSound-accepted StopTape d s taken = record {
  long = s.long;
  present = s.present;
  load_point = λ at. let p = s.load_point at in record { primary = p.primary; track = p.track; offset = p.offset; still = refl };
  track = s.track;
  offset = s.offset;
  motion = tt;
  format_segments = s.format_segments;
}
IsSound-accepted EnterPrimary d s taken = record {
  long = s.long;
  present = λ other. cc;
  load_point = λ at. let p = s.load_point (and-right (is_primary d.mode) d.at_load_point at) in
      record { primary = refl; track = p.track; offset = p.offset; still = p.still };
  track = s.track;
  offset = s.offset;
  motion = still d.motion _ _ (while_stopped d EnterPrimary refl refl taken);
  format_segments = s.format_segments;
}
IsSound-accepted c d s taken = s

pub Knows-accepted : (c : Command) (d : Deck) (size : Option ℕ) → Knows d.cartridge size → Knows (accepted c d).cartridge size
Knows-accepted WriteReference d size known = Knows-referenced true d.cartridge size known
Knows-accepted LogicalForward d size known = by_test (is_stopped d.motion && nat_lt d.offset (limit d))
  where
    by_test : (b : Bool) → Knows (if b then record d { motion = Streaming 0; at_load_point = false } else d).cartridge size
    by_test true = known
    by_test false = known
Knows-accepted c d size known = known

pub Knows-given : (c : Command) (parameter : ℕ) (d : Deck) (size : Option ℕ) → Knows d.cartridge size →
    Knows (given c parameter d).cartridge size
Knows-given SeekTrack parameter d size known = known
Knows-given SkipReverse parameter d size known = known
Knows-given SkipForward parameter d size known = known
Knows-given SetFormatSegments parameter d size known = known
Knows-given c parameter d size known = known

from_either_end : (same : Bool) (offset n : ℕ) → offset ≤ n → (if same then offset else n - offset) ≤ n
from_either_end true offset n h = h
from_either_end false offset n h = omega arith

pub IsSound-given : (c : Command) (parameter : ℕ) (d : Deck) → IsSound d → refusal_of d c ≡ None → IsParameter c parameter →
    IsSound (given c parameter d)
unfolding waits_for_seek waits_for_stop
IsSound-given SeekTrack track d s taken fits = record {
  long = s.long;
  present = s.present;
  load_point = λ at. cc;
  track = fits;
  offset = from_either_end (track % 2 == d.track % 2) d.offset (segments_per_track d) s.offset;
  motion = (omega arith, omega arith);
  format_segments = s.format_segments;
}
IsSound-given SkipReverse count d s taken fits = record {
  long = s.long;
  present = s.present;
  load_point = λ at. cc;
  track = s.track;
  offset = let o = s.offset in omega arith;
  motion = (omega arith, omega arith);
  format_segments = s.format_segments;
}
IsSound-given SkipForward count d s taken fits = record {
  long = s.long;
  present = s.present;
  load_point = λ at. cc;
  track = s.track;
  offset = omega arith;
  motion = (omega arith, omega arith);
  format_segments = s.format_segments;
}
IsSound-given SetFormatSegments count d s taken fits = record {
  long = s.long;
  present = s.present;
  load_point = λ at. let p = s.load_point at in record { primary = p.primary; track = p.track; offset = p.offset; still = p.still };
  track = s.track;
  offset = s.offset;
  motion = still d.motion _ _ (while_stopped d SetFormatSegments refl refl taken);
  format_segments = fits;
}
IsSound-given c parameter d s taken fits = s

ticks : (m : Motion) (limit offset : ℕ) → IsInMotion limit offset m → IsInMotion limit offset (ticked_motion m)
ticks Stopped limit offset h = tt
ticks (Streaming next) limit offset h = h
ticks (Seeking left) limit offset h = by_test (nat_le left 1) refl
  where
    by_test : (b : Bool) → nat_le left 1 ≡ b → IsInMotion limit offset (if b then Stopped else Seeking (left - 1))
    by_test true e = tt
    by_test false e = let more : 1 < left = grind (arith, nat_tests) in let l = h.1 in (omega arith, omega arith)

not_streaming-ticked : (m : Motion) → is_streaming m ≡ false → is_streaming (ticked_motion m) ≡ false
not_streaming-ticked Stopped e = refl
not_streaming-ticked (Streaming next) e = cc
not_streaming-ticked (Seeking left) e = by_test (nat_le left 1)
  where
    by_test : (b : Bool) → is_streaming (if b then Stopped else Seeking (left - 1)) ≡ false
    by_test true = refl
    by_test false = refl

pub IsSound-ticked : (d : Deck) → IsSound d → IsSound (ticked d)
IsSound-ticked d s = record {
  long = s.long;
  present = s.present;
  load_point = λ at. let p = s.load_point at in
      record { primary = p.primary; track = p.track; offset = p.offset; still = not_streaming-ticked d.motion p.still };
  track = s.track;
  offset = s.offset;
  motion = ticks d.motion (limit d) d.offset s.motion;
  format_segments = s.format_segments;
}

pub IsSound-reset : (d : Deck) → IsSound d → IsSound (reset d)
IsSound-reset d s = record {
  long = s.long;
  present = λ other. cc;
  load_point = λ at. let p = s.load_point (and-right (is_primary d.mode) d.at_load_point at) in
      record { primary = refl; track = p.track; offset = p.offset; still = refl };
  track = s.track;
  offset = s.offset;
  motion = tt;
  format_segments = s.format_segments;
}

-- the tape that streams is before its limit
pub before_limit : (m : Motion) (limit offset : ℕ) → is_streaming m ≡ true → IsInMotion limit offset m → offset < limit
before_limit Stopped limit offset e h = cc
before_limit (Streaming next) limit offset e h = h.0
before_limit (Seeking left) limit offset e h = cc

runs : (limit offset : ℕ) (b : Bool) → nat_lt offset limit ≡ b → IsInMotion limit offset (if b then Streaming 0 else Stopped)
runs limit offset true e = let before : offset < limit = grind (arith, nat_tests) in (before, omega arith)
runs limit offset false e = tt

pub IsSound-run_on : (d : Deck) → IsSound d → is_streaming d.motion ≡ true → IsSound (run_on d)
IsSound-run_on d s streams =
    let before = before_limit d.motion (limit d) d.offset streams s.motion in
    let within = limit_within d in
    record {
      long = s.long;
      present = s.present;
      load_point = λ at. let p = s.load_point at in let e = p.still in cc;
      track = s.track;
      offset = omega arith;
      motion = runs (limit d) (d.offset + 1) (nat_lt (d.offset + 1) (limit d)) refl;
      format_segments = s.format_segments;
    }

pub IsSound-passed : (d : Deck) (index : ℕ) → IsSound d → is_streaming d.motion ≡ true → index < 32 → IsSound (passed d index)
IsSound-passed d index s streams fits = record {
  long = s.long;
  present = s.present;
  load_point = λ at. let p = s.load_point at in let e = p.still in cc;
  track = s.track;
  offset = s.offset;
  motion = (before_limit d.motion (limit d) d.offset streams s.motion, omega arith);
  format_segments = s.format_segments;
}

-- another error word or new cartridge flag
pub IsSound-error : (d : Deck) (error : ℕ) (fresh : Bool) → IsSound d → IsSound (record d { error = error; fresh = fresh })
IsSound-error d error fresh s = record {
  long = s.long;
  present = s.present;
  load_point = λ at. let p = s.load_point at in record { primary = p.primary; track = p.track; offset = p.offset; still = p.still };
  track = s.track;
  offset = s.offset;
  motion = s.motion;
  format_segments = s.format_segments;
}

seen_still : (m : Motion) → is_seeking m ≡ false → sees_seek (seen_motion m) ≡ false
seen_still Stopped e = refl
seen_still (Streaming next) e = refl
seen_still (Seeking left) e = cc

pub seen_stop : (m : Motion) → is_stopped m ≡ true → seen_motion m ≡ seen_as.Stopped
seen_stop Stopped e = refl
seen_stop (Streaming next) e = cc
seen_stop (Seeking left) e = cc

-- the commands that a typed drive's state and conditions rule no refusal of
pub stop_of : (d : Deck) → IsSome d.cartridge → is_seeking d.motion ≡ false → refusal_of d StopTape ≡ None
stop_of d there stands = stop_taken (view_of d) there (seen_still d.motion stands)

pub primary_of : (d : Deck) → IsSound d → is_primary d.mode ≡ false → is_stopped d.motion ≡ true → refusal_of d EnterPrimary ≡ None
primary_of d s other stopped = primary_taken (view_of d) (s.present other) (seen_stop d.motion stopped)

pub reference_of : (d : Deck) → IsSound d → d.mode ≡ Format → is_stopped d.motion ≡ true → refusal_of d WriteReference ≡ None
reference_of d s formats stopped =
    let other : is_primary d.mode ≡ false = rw formats refl in
    reference_taken (view_of d) (s.present other) (seen_stop d.motion stopped) formats

pub segments_of : (d : Deck) → IsSound d → d.mode ≡ Format → is_stopped d.motion ≡ true → refusal_of d SetFormatSegments ≡ None
segments_of d s formats stopped =
    let other : is_primary d.mode ≡ false = rw formats refl in
    segments_taken (view_of d) (s.present other) (seen_stop d.motion stopped) formats
