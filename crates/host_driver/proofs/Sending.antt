-- What a command or a value of its parameter does to a drive at rest.
use Rattle.std.proofs.Common.{◌≡◌, ◌≢◌, ℕ, ◌+◌, ◌-◌, ◌<◌, Bool, true, false, unwrap_or, [], ◌∷◌, if◌then◌else◌, ◌==◌, ◌&&◌, nat_lt, refl}
use Rattle.std.proofs.Common.{sym, ap, ◌∙◌, subst, Some, None, Option, IsSomeAnd, IfSome, arith}
use Rattle.std.proofs.lemmas.Bool.{false≢true}
use Rattle.std.proofs.lemmas.Bool.Decides.{nat_tests}
use Rattle.std.specs.Option.{option_map_or}
use Rattle.qic_base.specs.Step.{SetReferenced}
use Rattle.qic_base.specs.declared.tape.TapeInfo.{TapeInfo}
use Rattle.qic117_commands.specs.Commands.{number_of, command_at}
use Rattle.qic117_commands.specs.Views.{is_format}
use Rattle.qic117_commands.specs.declared.command.Command.{Command}
use Rattle.qic117_commands.specs.declared.command.Command.TheVariants.{Reset, ReportError, LogicalForward, SeekTrack, EnterFormat}
use Rattle.qic117_commands.specs.declared.command.Command.TheVariants.{WriteReference, EnterVerify, SkipReverse, SkipForward, EnterPrimary}
use Rattle.qic117_commands.specs.declared.command.Command.TheVariants.{SetFormatSegments}
use Rattle.qic117_commands.specs.declared.view.Mode.{Mode}
use Rattle.qic117_commands.specs.declared.view.Mode.TheVariants.{Primary, Format, Verify}
use Rattle.qic117_commands.proofs.Numbers.{command_at-number_of}
use Rattle.drive_spec.specs.declared.deck.Deck.{Deck}
use Rattle.drive_spec.specs.declared.deck.Motion.TheVariants.{Streaming}
use Rattle.drive_spec.specs.declared.under_way.Parameter.{Parameter}
use Rattle.drive_spec.specs.declared.under_way.UnderWay.{UnderWay}
use Rattle.drive_spec.specs.declared.under_way.UnderWay.TheVariants.{Nothing, Report, Awaited}
use Rattle.drive_spec.specs.Terms.{refusal_of, referenced_as, obeying, longer}
use Rattle.drive_spec.specs.Deck.{is_stopped, limit, segments_per_track}
use Rattle.drive_spec.specs.Effects.{accepted, given, ticked}
use Rattle.drive_spec.specs.Record.{Record}
use Rattle.drive_spec.specs.Parameters.{parameter_code, parameter_values, parameter_trains}
use Rattle.drive_spec.specs.Row.{heard, by_command, by_refusal, given_more, latched, pulsed_row}
use Rattle.drive_states.specs.Typed.{is_seeking}
use Rattle.drive_states.proofs.Marks.{gap_steps-none}
use Rattle.host_driver.specs.Commands.{is_plain, TakesValue}
use Rattle.host_driver.specs.Fits.{GeneratesAll, parameter_of}
use Rattle.host_driver.specs.Train.{TakesTrain}
use Rattle.host_driver.proofs.Follows.{pulsed_row-heard, counted}
use Rattle.host_driver.proofs.Motions.{ticked-still}
use Rattle.drive_spec.specs.Steps.{train_changes}

not_reference : (c : Command) → is_plain c ≡ true → number_of c ≢ number_of WriteReference
not_reference c plain e =
    let found : Some c ≡ Some WriteReference = sym (command_at-number_of c) ∙ ap command_at e ∙ command_at-number_of WriteReference in
    let other : is_plain c ≡ false = ap (λ (o : Option Command). is_plain (unwrap_or o c)) found in
    false≢true (sym other ∙ plain)

-- a plain command does nothing to the cartridge
pub steps-plain : (c : Command) (r : Record) → is_plain c ≡ true → train_changes r (number_of c) ≡ []
unfolding train_changes
steps-plain c r plain = gap_steps-none (record r { train = number_of c }) (not_reference c plain)

plain_number : (c : Command) → is_plain c ≡ true → 1 < number_of c
plain_number Reset plain = cc
plain_number c plain = omega arith

counted-still : (r : Record) → is_seeking r.deck.motion ≡ false → counted r ≡ record r { line = false; train = 0 }
counted-still r still = ap (λ (d : Deck). record r { deck = d; line = false; train = 0 }) (ticked-still r.deck still)

-- a command that no row refuses
commanded_by : (c : Command) (r : Record) → 1 < number_of c → is_seeking r.deck.motion ≡ false → r.under_way ≡ Nothing →
    refusal_of r.deck c ≡ None →
    pulsed_row r (number_of c) ≡ obeying (record r { line = false; train = 0 }) c
commanded_by c r more still idle taken =
    pulsed_row-heard r (number_of c) more
    ∙ ap (λ (u : UnderWay). heard (counted r) (number_of c) u) idle
    ∙ ap (by_command (counted r) (number_of c)) (command_at-number_of c)
    ∙ ap (λ (b : Record). by_refusal b c (refusal_of b.deck c)) (counted-still r still)
    ∙ ap (by_refusal (record r { line = false; train = 0 }) c) taken

pub commanded : (c : Command) (r : Record) → is_plain c ≡ true → is_seeking r.deck.motion ≡ false → r.under_way ≡ Nothing →
    refusal_of r.deck c ≡ None →
    pulsed_row r (number_of c) ≡ obeying (record r { line = false; train = 0 }) c
commanded c r plain = commanded_by c r (plain_number c plain)

streaming-error : (d : Deck) (b : Bool) → (if b then record d { motion = Streaming 0; at_load_point = false } else d).error ≡ d.error
streaming-error d true = refl
streaming-error d false = refl

accepted-error : (c : Command) (d : Deck) → d.error ≡ 0 → (accepted c d).error ≡ 0
accepted-error ReportError d e = refl
accepted-error LogicalForward d e = streaming-error d (is_stopped d.motion && nat_lt d.offset (limit d)) ∙ e
accepted-error c d e = e

streaming-segments : (d : Deck) (b : Bool) → GeneratesAll d →
    is_format (if b then record d { motion = Streaming 0; at_load_point = false } else d).mode ≡ true →
    (if b then record d { motion = Streaming 0; at_load_point = false } else d).format_segments
    ≡ segments_per_track (if b then record d { motion = Streaming 0; at_load_point = false } else d)
streaming-segments d true g = g.segments
streaming-segments d false g = g.segments

accepted-segments : (c : Command) (d : Deck) → is_plain c ≡ true → GeneratesAll d →
    is_format (accepted c d).mode ≡ true → (accepted c d).format_segments ≡ segments_per_track (accepted c d)
accepted-segments LogicalForward d plain g formats = streaming-segments d (is_stopped d.motion && nat_lt d.offset (limit d)) g formats
accepted-segments EnterFormat d plain g formats = refl
accepted-segments EnterVerify d plain g formats = cc
accepted-segments EnterPrimary d plain g formats = cc
accepted-segments WriteReference d plain g formats = cc
accepted-segments c d plain g formats = g.segments formats

takes_as : (before after : Record) (pulses : ℕ) → pulses ≢ 1 → pulsed_row before pulses ≡ after → after.deck.error ≡ 0 →
    (is_format after.deck.mode ≡ true → after.deck.format_segments ≡ segments_per_track after.deck) → TakesTrain before pulses
takes_as before after pulses other is no_error segments = record {
  no_reset = other;
  no_error = ap (λ (r : Record). r.deck.error) is ∙ no_error;
  generates = subst (λ (r : Record). is_format r.deck.mode ≡ true → r.deck.format_segments ≡ segments_per_track r.deck) (sym is) segments;
}

pub takes-plain : (c : Command) (r : Record) → is_plain c ≡ true → is_seeking r.deck.motion ≡ false → r.under_way ≡ Nothing →
    refusal_of r.deck c ≡ None →
    r.deck.error ≡ 0 → GeneratesAll r.deck → TakesTrain r (number_of c)
takes-plain c r plain still idle taken none g =
    let number = plain_number c plain in
    takes_as r (obeying (record r { line = false; train = 0 }) c) (number_of c) (λ e. omega arith)
    (commanded c r plain still idle taken) (accepted-error c r.deck none) (accepted-segments c r.deck plain g)

-- a value of the parameter that is awaited
given_value : (r : Record) (a : Parameter) (value : ℕ) → is_seeking r.deck.motion ≡ false → r.under_way ≡ Awaited a →
    value < parameter_values a.command →
    pulsed_row r (2 + value) ≡ given_more (record r { line = false; train = 0 }) (longer a value)
given_value r a value still awaits small =
    let same : 2 + value - 2 ≡ value = omega arith in
    let takes : nat_lt value (parameter_values a.command) ≡ true = grind (arith, nat_tests) in
    pulsed_row-heard r (2 + value) (omega arith)
    ∙ ap (λ (u : UnderWay). heard (counted r) (2 + value) u) awaits
    ∙ ap (λ (n : ℕ). if nat_lt n (parameter_values a.command) then given_more (counted r) (longer a n) else latched (counted r)
    (parameter_code a.command) (number_of a.command)) same
    ∙ ap (λ (b : Bool). if b then given_more (counted r) (longer a value) else latched (counted r) (parameter_code a.command)
    (number_of a.command)) takes
    ∙ ap (λ (b : Record). given_more b (longer a value)) (counted-still r still)

given-error : (c : Command) (n : ℕ) (d : Deck) → (given c n d).error ≡ d.error
given-error SeekTrack n d = refl
given-error SkipReverse n d = refl
given-error SkipForward n d = refl
given-error SetFormatSegments n d = refl
given-error c n d = refl

given-segments : (c : Command) (n : ℕ) (d : Deck) → c ≢ SetFormatSegments → GeneratesAll d →
    is_format (given c n d).mode ≡ true → (given c n d).format_segments ≡ segments_per_track (given c n d)
given-segments SetFormatSegments n d moves g formats = absurd (moves refl)
given-segments SeekTrack n d moves g formats = g.segments formats
given-segments SkipReverse n d moves g formats = g.segments formats
given-segments SkipForward n d moves g formats = g.segments formats
given-segments c n d moves g formats = g.segments formats

given_more-error : (r : Record) (a : Parameter) (whole : Bool) →
    (if whole then record r { deck = given a.command a.value r.deck; under_way = Nothing } else record r
    { under_way = Awaited a }).deck.error ≡ r.deck.error
given_more-error r a true = given-error a.command a.value r.deck
given_more-error r a false = refl

given_more-segments : (r : Record) (a : Parameter) (whole : Bool) → a.command ≢ SetFormatSegments → GeneratesAll r.deck →
    is_format (if whole then record r { deck = given a.command a.value r.deck; under_way = Nothing } else record r
    { under_way = Awaited a }).deck.mode ≡ true →
    (if whole then record r { deck = given a.command a.value r.deck; under_way = Nothing } else record r
    { under_way = Awaited a }).deck.format_segments
    ≡ segments_per_track (if whole then record r { deck = given a.command a.value r.deck; under_way = Nothing } else record r
    { under_way = Awaited a }).deck
given_more-segments r a true moves g = given-segments a.command a.value r.deck moves g
given_more-segments r a false moves g = g.segments

steps-awaited : (r : Record) (a : Parameter) (pulses : ℕ) → r.under_way ≡ Awaited a → train_changes r pulses ≡ []
unfolding train_changes
steps-awaited r a pulses awaits = rw awaits refl

-- what the drive awaits, and takes
pub record Gives (r : Record) (value : ℕ) : Type 0 where
  pub takes : TakesTrain r (2 + value)
  pub steps : train_changes r (2 + value) ≡ []
  pub given : IfSome (parameter_of r.under_way)
      (λ a. pulsed_row r (2 + value) ≡ given_more (record r { line = false; train = 0 }) (longer a value))

pub gives : (r : Record) (value : ℕ) → is_seeking r.deck.motion ≡ false → r.deck.error ≡ 0 → GeneratesAll r.deck →
    IsSomeAnd (parameter_of r.under_way) (λ a. TakesValue a value) → Gives r value
gives r value still none g awaited = by_under_way r.under_way refl awaited
  where
    by_under_way : (u : UnderWay) → r.under_way ≡ u → IsSomeAnd (parameter_of u) (λ a. TakesValue a value) → Gives r value
    by_under_way Nothing e h = absurd h
    by_under_way (Report levels) e h = absurd h
    by_under_way (Awaited a) e h =
        let is = given_value r a value still e h.small in
        record {
          takes = takes_as r (given_more (record r { line = false; train = 0 }) (longer a value)) (2 + value) (λ p. omega arith) is
              (given_more-error (record r { line = false; train = 0 }) (longer a value)
              ((longer a value).taken == parameter_trains a.command) ∙ none)
              (given_more-segments (record r { line = false; train = 0 }) (longer a value)
              ((longer a value).taken == parameter_trains a.command) h.moves g);
          steps = steps-awaited r a (2 + value) e;
          given = subst (λ (u : UnderWay). IfSome (parameter_of u)
              (λ b. pulsed_row r (2 + value) ≡ given_more (record r { line = false; train = 0 }) (longer b value))) (sym e) is;
        }

pub given_as : (r s : Record) (value : ℕ) → s ≡ pulsed_row r (2 + value) → (o : Option Parameter) →
    IfSome o (λ a. pulsed_row r (2 + value) ≡ given_more (record r { line = false; train = 0 }) (longer a value)) →
    IfSome o (λ a. s ≡ given_more (record r { line = false; train = 0 }) (longer a value))
given_as r s value is None h = tt
given_as r s value is (Some a) h = is ∙ h

length-referenced : (on : Bool) (c : Option TapeInfo) → option_map_or (λ (i : TapeInfo). i.segments_per_track)
    (referenced_as on c) 0 ≡ option_map_or (λ i. i.segments_per_track) c 0
length-referenced on None = refl
length-referenced on (Some info) = refl

-- the reference bursts are written
pub record References (r : Record) : Type 0 where
  pub takes : TakesTrain r (number_of WriteReference)
  pub steps : train_changes r (number_of WriteReference) ≡ SetReferenced ∷ []
  pub after : pulsed_row r (number_of WriteReference) ≡ obeying (record r { line = false; train = 0 }) WriteReference

steps-reference : (r : Record) → is_seeking r.deck.motion ≡ false → r.under_way ≡ Nothing → refusal_of r.deck WriteReference ≡ None →
    train_changes r (number_of WriteReference) ≡ SetReferenced ∷ []
unfolding train_changes
steps-reference r still idle taken =
    let ticks : refusal_of (ticked r.deck) WriteReference ≡ None = ap (λ (d : Deck). refusal_of d WriteReference)
    (ticked-still r.deck still) ∙ taken in
    let named = command_at-number_of WriteReference in
    rw (idle, named, ticks) refl

pub references : (r : Record) → is_seeking r.deck.motion ≡ false → r.under_way ≡ Nothing → refusal_of r.deck WriteReference ≡ None →
    r.deck.error ≡ 0 → GeneratesAll r.deck → References r
references r still idle taken none g =
    let is = commanded_by WriteReference r (omega arith) still idle taken in
    record {
      takes = takes_as r (obeying (record r { line = false; train = 0 }) WriteReference) (number_of WriteReference) (λ e. cc) is none
          (λ formats. g.segments formats ∙ sym (length-referenced true r.deck.cartridge));
      steps = steps-reference r still idle taken;
      after = is;
    }

pub format_mode : (m : Mode) → is_format m ≡ true → m ≡ Format
format_mode Primary e = cc
format_mode Format e = refl
format_mode Verify e = cc
