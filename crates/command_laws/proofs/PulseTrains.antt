-- Trains one after the other, and the lines that they are read from.
use Rattle.std.proofs.Common.{◌≡◌, ℕ, List, [], ◌∷◌, ◌++◌, ◌-◌, refl, ap, ◌∙◌, sym, append_assoc, ◌≤◌, length, arith, Bool, true, false}
use Rattle.std.proofs.Common.{if◌then◌else◌, ◌==◌, nat_lt, Option, Some, None}
use Rattle.std.proofs.lemmas.List.{length_push}
use Rattle.std.proofs.lemmas.Bool.Decides.{nat_tests}
use Rattle.command_spec.specs.Input.{IsPulse}
use Rattle.command_spec.specs.Pulses.{train_acts, train_line, train_lines}
use Rattle.command_laws.specs.PulseRuns.{train_act, after_trains}
use Rattle.drive_spec.specs.Terms.{refusal_of, obeyed, idled, longer}
use Rattle.drive_spec.specs.Deck.{is_streaming}
use Rattle.drive_spec.specs.Effects.{given, reset, ticked}
use Rattle.drive_spec.specs.Parameters.{parameter_trains, parameter_values, parameter_code}
use Rattle.drive_spec.specs.Record.{Record}
use Rattle.drive_spec.specs.Row.{heard, by_command, by_refusal, given_more, moved_on, latched, showing, pulsed_row}
use Rattle.drive_spec.specs.declared.under_way.Parameter.{Parameter}
use Rattle.drive_spec.specs.declared.under_way.UnderWay.{UnderWay}
use Rattle.drive_spec.specs.declared.under_way.UnderWay.TheVariants.{Nothing, Report, Awaited}
use Rattle.qic117_commands.specs.Commands.{number_of, command_at}
use Rattle.qic117_commands.specs.declared.command.Command.{Command}
use Rattle.qic117_commands.specs.declared.command.Command.TheVariants.{ReportNextBit, Reset}
use Rattle.qic117_commands.specs.declared.error_code.ErrorCode.{ErrorCode}
use Rattle.qic117_commands.specs.declared.error_code.ErrorCode.TheVariants.{IllegalInReport}
use Rattle.qic_base.specs.Acts.{Act}

-- ---- trains in two parts

pub after_trains-append : (r : Record) (ps qs : List ℕ) → after_trains r (ps ++ qs) ≡ after_trains (after_trains r ps) qs
after_trains-append r [] qs = refl
after_trains-append r (p ∷ ps) qs = after_trains-append (pulsed_row r p) ps qs

pub train_acts-append : (r : Record) (ps qs : List ℕ) → train_acts r (ps ++ qs) ≡ train_acts r ps ++ train_acts (after_trains r ps) qs
train_acts-append r [] qs = refl
train_acts-append r (p ∷ ps) qs = ap (λ (acts : List Act). train_act r p ∷ acts) (train_acts-append (pulsed_row r p) ps qs)

pub train_lines-append : (ps qs : List ℕ) → train_lines (ps ++ qs) ≡ train_lines ps ++ train_lines qs
train_lines-append [] qs = refl
train_lines-append (p ∷ ps) qs =
    ap (λ text. train_line p ++ text) (train_lines-append ps qs) ∙ sym (append_assoc (train_line p) (train_lines ps) (train_lines qs))

-- ---- lines

-- the text of a train is its line
pub pulse_line : (text : List ℕ) (train : ℕ) → IsPulse text train → text ≡ train_line train
unfolding train_line
pulse_line text train pulse = pulse.whole ∙ ap (λ before. before ++ 0x0A ∷ []) pulse.has.0.digits

pub pulse_short : (text : List ℕ) (train : ℕ) → IsPulse text train → length text ≤ 128
pulse_short text train pulse =
    let all = ap length pulse.whole in
    let short = pulse.short in omega (arith, length_push pulse.before 0x0A)

-- ---- no pulse is counted behind a gap

module _ (b : Record) (train : ℕ) where
  by_refusal-counted : (c : Command) (o : Option ErrorCode) → (by_refusal b c o).train ≡ b.train
  by_refusal-counted c None = refl
  by_refusal-counted c (Some code) = refl

  by_command-counted : (o : Option Command) → (by_command b train o).train ≡ b.train
  by_command-counted None = refl
  by_command-counted (Some c) = by_refusal-counted c (refusal_of b.deck c)

  showing-counted : (bits : List Bool) → (showing b bits).train ≡ b.train
  showing-counted [] = refl
  showing-counted (level ∷ []) = refl
  showing-counted (level ∷ more ∷ rest) = refl

  reported-counted : (bits : List Bool) (more : Bool) → (if more then showing b bits else latched b IllegalInReport train).train ≡ b.train
  reported-counted bits true = showing-counted bits
  reported-counted bits false = refl

  given_more-counted : (a : Parameter) (whole : Bool) →
      (if whole then record b { deck = given a.command a.value b.deck; under_way = Nothing } else record b { under_way = Awaited a }).train
      ≡ b.train
  given_more-counted a true = refl
  given_more-counted a false = refl

  taking-counted : (a : Parameter) (value : Bool) →
      (if value then given_more b (longer a (train - 2)) else latched b (parameter_code a.command) (number_of a.command)).train ≡ b.train
  taking-counted a true = given_more-counted (longer a (train - 2)) ((longer a (train - 2)).taken == parameter_trains a.command)
  taking-counted a false = refl

  heard-counted : (u : UnderWay) → (heard b train u).train ≡ b.train
  heard-counted Nothing = by_command-counted (command_at train)
  heard-counted (Report bits) = reported-counted bits (train == number_of ReportNextBit)
  heard-counted (Awaited a) = taking-counted a (nat_lt (train - 2) (parameter_values a.command))

  obeyed-counted : (other : Bool) → (if other then record b { deck = reset b.deck; under_way = Nothing } else heard b train
      b.under_way).train ≡ b.train
  obeyed-counted true = refl
  obeyed-counted false = heard-counted b.under_way

  idled-counted : (streams : Bool) → (if streams then moved_on b else b).train ≡ b.train
  idled-counted true = refl
  idled-counted false = refl

pub pulsed_row-counted : (r : Record) (train : ℕ) → (pulsed_row r train).train ≡ 0
unfolding pulsed_row
pulsed_row-counted r train = by_count (train == 0) refl
  where
    by_count : (none : Bool) → (train == 0) ≡ none →
        (if none then idled (record r { deck = ticked r.deck; train = train }) else obeyed
        (record r { deck = ticked r.deck; line = false; train = 0 }) train).train ≡ 0
    by_count true e =
        let zero : train ≡ 0 = grind (arith, nat_tests) in
        idled-counted (record r { deck = ticked r.deck; train = train }) train (is_streaming (ticked r.deck).motion) ∙ zero
    by_count false e = obeyed-counted (record r { deck = ticked r.deck; line = false; train = 0 }) train (train == number_of Reset)
