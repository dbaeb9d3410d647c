-- What a gap does to the marks that the drive knows of.
use Rattle.std.proofs.Common.{◌≡◌, ℕ, ◌+◌, ◌-◌, ◌==◌, Bool, true, false, ◌&&◌, List, [], ◌∷◌, Option, Some, None, is_none, if◌then◌else◌}
use Rattle.std.proofs.Common.{nat_lt, refl, sym, ap, ◌∙◌, arith, subst}
use Rattle.std.proofs.lemmas.Bool.Decides.{nat_tests}
use Rattle.qic_base.specs.declared.tape.TapeInfo.{TapeInfo}
use Rattle.qic_base.specs.Step.{Step}
use Rattle.qic117_commands.specs.Commands.{number_of, command_at}
use Rattle.qic117_commands.proofs.Numbers.{number_of-command_at}
use Rattle.qic117_commands.specs.declared.command.Command.{Command}
use Rattle.qic117_commands.specs.declared.command.Command.TheVariants.{Reset, ReportNextBit, LogicalForward, SeekTrack, SkipReverse}
use Rattle.qic117_commands.specs.declared.command.Command.TheVariants.{SkipForward, SetFormatSegments, WriteReference}
use Rattle.qic117_commands.specs.declared.error_code.ErrorCode.{ErrorCode}
use Rattle.qic117_commands.specs.declared.error_code.ErrorCode.TheVariants.{IllegalInReport}
use Rattle.drive_spec.specs.declared.deck.Deck.{Deck}
use Rattle.drive_spec.specs.declared.deck.Motion.TheVariants.{Streaming}
use Rattle.drive_spec.specs.declared.under_way.Parameter.{Parameter}
use Rattle.drive_spec.specs.declared.under_way.UnderWay.{UnderWay}
use Rattle.drive_spec.specs.declared.under_way.UnderWay.TheVariants.{Nothing, Report, Awaited}
use Rattle.drive_spec.specs.Deck.{is_stopped, is_streaming, limit}
use Rattle.drive_spec.specs.Terms.{refusal_of, obeyed, idled, longer}
use Rattle.drive_spec.specs.Effects.{accepted, given, reset, ticked}
use Rattle.drive_spec.specs.Record.{Record}
use Rattle.drive_spec.specs.Parameters.{parameter_trains, parameter_values, parameter_code}
use Rattle.drive_spec.specs.Row.{latched, given_more, taking, showing, by_refusal, by_command, heard, moved_on, after_gap}
use Rattle.drive_spec.specs.Steps.{is_idle, reference_steps, command_steps, gap_steps}
use Rattle.drive_states.specs.Laws.{marked_by}

-- no other train writes the reference bursts
pub gap_steps-none : (r : Record) → ¬ (r.train ≡ number_of WriteReference) → gap_steps r ≡ []
gap_steps-none r other = chosen (is_idle r.under_way) (command_steps (ticked r.deck) (command_at r.train))
    (by_command_at (command_at r.train) refl)
  where
    chosen : (b : Bool) (xs : List Step) → xs ≡ [] → (if b then xs else []) ≡ []
    chosen true xs e = e
    chosen false xs e = refl

    steps : (c : Command) → ¬ (c ≡ WriteReference) → reference_steps c ≡ []
    steps WriteReference n = absurd (n refl)
    steps c n = refl

    by_command_at : (o : Option Command) → command_at r.train ≡ o → command_steps (ticked r.deck) o ≡ []
    by_command_at None e = refl
    by_command_at (Some c) e =
        chosen (is_none (refusal_of (ticked r.deck) c)) (reference_steps c)
        (steps c (λ is. other (sym (number_of-command_at r.train c e) ∙ ap number_of is)))

cartridge-given : (c : Command) (parameter : ℕ) (d : Deck) → (given c parameter d).cartridge ≡ d.cartridge
cartridge-given SeekTrack parameter d = refl
cartridge-given SkipReverse parameter d = refl
cartridge-given SkipForward parameter d = refl
cartridge-given SetFormatSegments parameter d = refl
cartridge-given c parameter d = refl

cartridge-accepted : (c : Command) (d : Deck) → (accepted c d).cartridge ≡ marked_by (reference_steps c) d.cartridge
cartridge-accepted LogicalForward d = by_test (is_stopped d.motion && nat_lt d.offset (limit d))
  where
    by_test : (b : Bool) → (if b then record d { motion = Streaming 0; at_load_point = false } else d).cartridge ≡ d.cartridge
    by_test true = refl
    by_test false = refl
cartridge-accepted c d = refl

cartridge-command : (r : Record) (train : ℕ) (o : Option Command) →
    (by_command r train o).deck.cartridge ≡ marked_by (command_steps r.deck o) r.deck.cartridge
cartridge-command r train None = refl
cartridge-command r train (Some c) = by_row (refusal_of r.deck c)
  where
    by_row : (refused : Option ErrorCode) →
        (by_refusal r c refused).deck.cartridge ≡ marked_by (if is_none refused then reference_steps c else []) r.deck.cartridge
    by_row None = cartridge-accepted c r.deck
    by_row (Some code) = refl

cartridge-taking : (r : Record) (a : Parameter) (value : ℕ) → (taking r a value).deck.cartridge ≡ r.deck.cartridge
cartridge-taking r a value = by_value (nat_lt value (parameter_values a.command))
  where
    by_end : (b : Bool) → (if b then record r { deck = given a.command (longer a value).value r.deck; under_way = Nothing } else record r
        { under_way = Awaited (longer a value) }).deck.cartridge ≡ r.deck.cartridge
    by_end true = cartridge-given a.command (longer a value).value r.deck
    by_end false = refl

    by_value : (b : Bool) → (if b then given_more r (longer a value) else latched r (parameter_code a.command)
        (number_of a.command)).deck.cartridge ≡ r.deck.cartridge
    by_value true = by_end (a.taken + 1 == parameter_trains a.command)
    by_value false = refl

cartridge-showing : (r : Record) (levels : List Bool) → (showing r levels).deck.cartridge ≡ r.deck.cartridge
cartridge-showing r [] = refl
cartridge-showing r (level ∷ []) = refl
cartridge-showing r (level ∷ next ∷ rest) = refl

cartridge-heard : (r : Record) (train : ℕ) (u : UnderWay) →
    (heard r train u).deck.cartridge ≡ marked_by (if is_idle u then command_steps r.deck (command_at train) else []) r.deck.cartridge
cartridge-heard r train Nothing = cartridge-command r train (command_at train)
cartridge-heard r train (Awaited a) = cartridge-taking r a (train - 2)
cartridge-heard r train (Report levels) = by_train (train == number_of ReportNextBit)
  where
    by_train : (b : Bool) → (if b then showing r levels else latched r IllegalInReport train).deck.cartridge ≡ r.deck.cartridge
    by_train true = cartridge-showing r levels
    by_train false = refl

-- the drive knows of a mark that a gap sets, and forgets none
pub cartridge-gap : (r : Record) → (after_gap r).deck.cartridge ≡ marked_by (gap_steps r) r.deck.cartridge
cartridge-gap r = by_empty (r.train == 0) refl
  where
    unchanged : (x : Option TapeInfo) → ¬ (r.train ≡ number_of WriteReference) → x ≡ r.deck.cartridge →
        x ≡ marked_by (gap_steps r) r.deck.cartridge
    unchanged x other same = subst (λ (ss : List Step). x ≡ marked_by ss r.deck.cartridge) (sym (gap_steps-none r other)) same

    by_stream : (b : Bool) → (if b then moved_on (record r { deck = ticked r.deck }) else record r { deck = ticked r.deck }).deck.cartridge
        ≡ r.deck.cartridge
    by_stream true = refl
    by_stream false = refl

    by_reset : (b : Bool) → (r.train == number_of Reset) ≡ b →
        (if b then record r { deck = reset (ticked r.deck); line = false; train = 0; under_way = Nothing } else heard
        (record r { deck = ticked r.deck; line = false; train = 0 }) r.train r.under_way).deck.cartridge ≡ marked_by (gap_steps r)
        r.deck.cartridge
    by_reset true e =
        let one : r.train ≡ 1 = grind (arith, nat_tests) in
        unchanged r.deck.cartridge (λ is. omega arith) refl
    by_reset false e = cartridge-heard (record r { deck = ticked r.deck; line = false; train = 0 }) r.train r.under_way

    by_empty : (b : Bool) → (r.train == 0) ≡ b →
        (if b then idled (record r { deck = ticked r.deck }) else obeyed (record r { deck = ticked r.deck; line = false; train = 0 })
        r.train).deck.cartridge ≡ marked_by (gap_steps r) r.deck.cartridge
    by_empty true e =
        let zero : r.train ≡ 0 = grind (arith, nat_tests) in
        unchanged _ (λ is. omega arith) (by_stream (is_streaming (ticked r.deck).motion))
    by_empty false e = by_reset (r.train == number_of Reset) refl
