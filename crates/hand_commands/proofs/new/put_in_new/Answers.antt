use Rattle.std.proofs.Common.{◌≡◌, List, [], ◌∷◌, ◌++◌, Option, Some, None, IfSome, refl, sym, ap}
use Rattle.qic_base.specs.Cartridge.{Cartridge}
use Rattle.qic_base.specs.Step.{Renew}
use Rattle.command_spec.specs.declared.words.Words.TheVariants.{New}
use Rattle.command_spec.specs.Lines.{blank_line}
use Rattle.command_spec.specs.Outcome.{CommandOutcome, carried_out}
use Rattle.hand_commands.specs.Outcome.{first_steps}
use Rattle.hand_commands.proofs.Endings.{IsBlind, printed, cut_off}
use Rattle.command_laws.proofs.CommandEndings.{Rules}
use Rattle.hand_commands.proofs.new.put_in_new.Goals as goal

is_blind : {segments : _} → IsBlind (New segments)
is_blind = record { reads = refl }

-- a new cartridge is put in whatever is told
always : (segments : _) (held : Option (Option Cartridge)) →
    IfSome held (λ h. Rules (New segments) h (carried_out (Renew segments) (blank_line segments)))
always segments None = tt
always segments (Some h) = λ input. refl

front : (segments : _) (held : Option (Option Cartridge)) →
    IfSome held (λ h. (outcome : CommandOutcome) → Rules (New segments) h outcome → (rest : List _)
    × ((Renew segments ∷ []) ++ rest ≡ first_steps outcome))
front segments None = tt
front segments (Some h) = λ outcome rules. ([], sym (ap (λ (o : CommandOutcome). first_steps o) (rules [])))

pub returns-in-Ok : goal.returns-in-Ok
returns-in-Ok g c =
    rw c.printed.ensures (printed g.T.Tape.means g.K.Sink.means
    (New c.args.segments) is_blind c.args.unit.now.tape c.load_blank.new.self.tape c.args.sink.now c.write_text.new.sink
    (carried_out (Renew c.args.segments) (blank_line c.args.segments)) c.write_text.result refl refl refl refl
    (always c.args.segments _) c.in-Ok.ensures.1
    (rw (c.bytes.ensures, c.number_text.ensures, c.from.ensures) at c.write_text.ensures))

pub returns-in-Err : goal.returns-in-Err
returns-in-Err g c =
    cut_off g.T.Tape.means g.K.Sink.means (New c.args.segments) is_blind c.args.unit.now.tape c.load_blank.new.self.tape c.args.sink.now
    (Renew c.args.segments ∷ []) g.met.K.Sink.took_nothing
    (front c.args.segments _) c.in-Err.ensures.1
