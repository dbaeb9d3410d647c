-- What a host remembers after a train is what the drive is in after it.
use Rattle.std.proofs.Common.{◌≡◌, ◌≢◌, ℕ, ◌+◌, ◌-◌, ◌*◌, ◌<◌, ◌≤◌, Bool, true, false, List, [], ◌∷◌, if◌then◌else◌, ◌==◌, nat_lt, refl}
use Rattle.std.proofs.Common.{sym, ap, ◌∙◌, arith, Some, None, Option}
use Rattle.std.proofs.lemmas.Bool.Decides.{nat_tests}
use Rattle.qic117_commands.specs.Codes.{code_of}
use Rattle.qic117_commands.specs.Commands.{number_of, command_at, commands}
use Rattle.qic117_commands.specs.declared.command.Command.{Command}
use Rattle.qic117_commands.specs.declared.command.Command.TheVariants.{ReportNextBit, ReportStatus, ReportError, ReportConfiguration}
use Rattle.qic117_commands.specs.declared.command.Command.TheVariants.{ReportRom, ReportVendor, ReportTapeStatus, ReportFormatSegments}
use Rattle.qic117_commands.specs.declared.error_code.ErrorCode.{ErrorCode}
use Rattle.qic117_commands.specs.declared.error_code.ErrorCode.TheVariants.{UndefinedCommand, IllegalInReport}
use Rattle.qic117_commands.proofs.Numbers.{command_at-number_of}
use Rattle.drive_spec.specs.declared.deck.Deck.{Deck}
use Rattle.drive_spec.specs.declared.under_way.Parameter.{Parameter}
use Rattle.drive_spec.specs.declared.under_way.UnderWay.{UnderWay}
use Rattle.drive_spec.specs.declared.under_way.UnderWay.TheVariants.{Nothing, Report, Awaited}
use Rattle.drive_spec.specs.Terms.{refusal_of, idled, longer, run_on, begun}
use Rattle.drive_spec.specs.Deck.{is_streaming}
use Rattle.drive_spec.specs.Effects.{accepted, ticked, ends_early}
use Rattle.drive_spec.specs.Record.{Record}
use Rattle.drive_spec.specs.Parameters.{parameter_trains, parameter_values, parameter_code}
use Rattle.drive_spec.specs.Row.{heard, by_command, by_refusal, given_more, latched, showing, pulsed_row}
use Rattle.host_driver.specs.declared.host.Host.{Host}
use Rattle.host_driver.specs.Fits.{parameter_of}
use Rattle.host_driver.specs.Followed.{followed, after_command, after_value, after_pulses}
use Rattle.host_driver.specs.Place.{idled_deck}

-- what a host remembers of a drive
abbrev pub remembered : (segments : ℕ) → Record → Host
remembered segments r = record { geometry = segments; deck = r.deck; awaited = parameter_of r.under_way }

-- the record once the gap and a train of pulses were counted
abbrev pub counted : Record → Record
counted r = record r { deck = ticked r.deck; line = false; train = 0 }

-- a latched error is one
pub latches : (r : Record) (code : ErrorCode) (n : ℕ) → 1 ≤ n → (latched r code n).deck.error ≡ 0 → ⊥
latches r code n some none = let e : code_of code + 256 * n ≡ 0 = none in omega arith

-- no command has the number 0
unnumbered : command_at 0 ≡ None
unfolding command_at commands
unnumbered = refl

pub some_number : (c : Command) → 1 ≤ number_of c
some_number c =
    let other : number_of c ≢ 0 = λ e. let found : command_at 0 ≡ Some c = ap command_at (sym e) ∙ command_at-number_of c in
    let none = unnumbered in cc in
    omega arith

-- a train of more than one pulse is heard
pub pulsed_row-heard : (r : Record) (pulses : ℕ) → 1 < pulses → pulsed_row r pulses ≡ heard (counted r) pulses r.under_way
unfolding pulsed_row
pulsed_row-heard r pulses more =
    let some : (pulses == 0) ≡ false = grind (arith, nat_tests) in
    let other : (pulses == 1) ≡ false = grind (arith, nat_tests) in
    rw (some, other) refl

-- an empty one is idled away
pub pulsed_row-idled : (r : Record) → pulsed_row r 0 ≡ idled (record r { deck = ticked r.deck; train = 0 })
unfolding pulsed_row
pulsed_row-idled r = refl

-- the host awaits the parameters that the drive does
parameter_of-begun : (c : Command) (d : Deck) →
    parameter_of (begun c d) ≡ (if nat_lt 0 (parameter_trains c) then Some record { command = c; taken = 0; value = 0 } else None)
parameter_of-begun ReportStatus d = refl
parameter_of-begun ReportError d = refl
parameter_of-begun ReportConfiguration d = refl
parameter_of-begun ReportRom d = refl
parameter_of-begun ReportVendor d = refl
parameter_of-begun ReportTapeStatus d = refl
parameter_of-begun ReportFormatSegments d = refl
parameter_of-begun c d = refl

module _ (segments : ℕ) (b : Record) (pulses : ℕ) where
  -- the host, before this train was heard
  abbrev before : Option Parameter → Host
  before awaited = record { geometry = segments; deck = b.deck; awaited = awaited }

  by_refusal-remembered : (c : Command) (o : Option ErrorCode) → (by_refusal b c o).deck.error ≡ 0 →
      after_command (before None) (Some c) ≡ remembered segments (by_refusal b c o)
  by_refusal-remembered c None none =
      ap (λ (a : Option Parameter). record { geometry = segments; deck = accepted c b.deck; awaited = a })
      (sym (parameter_of-begun c b.deck))
  by_refusal-remembered c (Some code) none = absurd (latches b code (number_of c) (some_number c) none)

  by_command-remembered : (o : Option Command) → 1 < pulses → (by_command b pulses o).deck.error ≡ 0 →
      after_command (before None) o ≡ remembered segments (by_command b pulses o)
  by_command-remembered None more none = absurd (latches b UndefinedCommand pulses (omega arith) none)
  by_command-remembered (Some c) more none = by_refusal-remembered c (refusal_of b.deck c) none

  showing-remembered : (levels : List Bool) → before None ≡ remembered segments (showing b levels)
  showing-remembered [] = refl
  showing-remembered (level ∷ []) = refl
  showing-remembered (level ∷ next ∷ rest) = refl

  given_more-remembered : (was a : Parameter) (whole : Bool) → (a.taken == parameter_trains a.command) ≡ whole →
      after_value (before (Some was)) a ≡ remembered segments (given_more b a)
  given_more-remembered was a true e = rw e refl
  given_more-remembered was a false e = rw e refl

  reported-remembered : (levels : List Bool) (next : Bool) → (pulses == number_of ReportNextBit) ≡ next → 1 < pulses →
      (if next then showing b levels else latched b IllegalInReport pulses).deck.error ≡ 0 →
      after_command (before None) (command_at pulses) ≡ remembered segments
      (if next then showing b levels else latched b IllegalInReport pulses)
  reported-remembered levels true e more none =
      let two : pulses ≡ number_of ReportNextBit = grind (arith, nat_tests) in
      ap (after_command (before None)) (ap command_at two ∙ command_at-number_of ReportNextBit) ∙ showing-remembered levels
  reported-remembered levels false e more none = absurd (latches b IllegalInReport pulses (omega arith) none)

  taking-remembered : (a : Parameter) (value : Bool) → nat_lt (pulses - 2) (parameter_values a.command) ≡ value →
      (if value then given_more b (longer a (pulses - 2)) else latched b (parameter_code a.command) (number_of a.command)).deck.error ≡ 0 →
      after_value (before (Some a)) (longer a (pulses - 2)) ≡ remembered segments
      (if value then given_more b (longer a (pulses - 2)) else latched b (parameter_code a.command) (number_of a.command))
  taking-remembered a true e none = given_more-remembered a (longer a (pulses - 2))
      ((longer a (pulses - 2)).taken == parameter_trains a.command) refl
  taking-remembered a false e none = absurd (latches b (parameter_code a.command) (number_of a.command) (some_number a.command) none)

  heard-remembered : (u : UnderWay) → 1 < pulses → (heard b pulses u).deck.error ≡ 0 →
      after_pulses (before (parameter_of u)) pulses (parameter_of u) ≡ remembered segments (heard b pulses u)
  heard-remembered Nothing more none = by_command-remembered (command_at pulses) more none
  heard-remembered (Report levels) more none = reported-remembered levels (pulses == number_of ReportNextBit) refl more none
  heard-remembered (Awaited a) more none = taking-remembered a (nat_lt (pulses - 2) (parameter_values a.command)) refl none

-- an empty gap, in which no error is latched
idled-remembered : (segments : ℕ) (b : Record) (streams : Bool) → is_streaming b.deck.motion ≡ streams → (idled b).deck.error ≡ 0 →
    record { geometry = segments; deck = idled_deck b.deck; awaited = parameter_of b.under_way } ≡ remembered segments (idled b)
idled-remembered segments b true e none = rw e (by_end (ends_early b.deck) refl (rw e at none))
  where
    by_end : (early : Bool) → ends_early b.deck ≡ early → (run_on b.deck).error ≡ 0 →
        record { geometry = segments; deck = run_on b.deck; awaited = parameter_of b.under_way }
        ≡ remembered segments (record b { deck = run_on b.deck; under_way = if ends_early b.deck then Nothing else b.under_way })
    by_end true early none = let wrong : 18 + 256 * 10 ≡ 0 = rw early at none in absurd (omega arith)
    by_end false early none = rw early refl
idled-remembered segments b false e none = rw e refl

-- the host follows each train that the drive takes
pub followed-remembered : (segments : ℕ) (r : Record) (pulses : ℕ) → pulses ≢ 1 → (pulsed_row r pulses).deck.error ≡ 0 →
    followed (remembered segments r) pulses ≡ remembered segments (pulsed_row r pulses)
followed-remembered segments r pulses other none = by_count (pulses == 0) refl
  where
    by_count : (t : Bool) → (pulses == 0) ≡ t → followed (remembered segments r) pulses ≡ remembered segments (pulsed_row r pulses)
    by_count true e =
        let zero : pulses ≡ 0 = grind (arith, nat_tests) in
        rw e (idled-remembered segments (record r { deck = ticked r.deck; train = 0 }) (is_streaming (ticked r.deck).motion) refl
        (ap (λ (x : Record). x.deck.error) (sym (ap (pulsed_row r) zero ∙ pulsed_row-idled r)) ∙ none)
        ∙ ap (remembered segments) (sym (ap (pulsed_row r) zero ∙ pulsed_row-idled r)))
    by_count false e =
        let more : 1 < pulses = grind (arith, nat_tests) in
        let heard_as = pulsed_row-heard r pulses more in
        rw e (heard-remembered segments (counted r) pulses r.under_way more (ap (λ (x : Record). x.deck.error) (sym heard_as) ∙ none)
        ∙ ap (remembered segments) (sym heard_as))
