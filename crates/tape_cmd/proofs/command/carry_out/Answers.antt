use Rattle.std.proofs.Common.{◌≡◌, false, Result, Ok, Err}
use Rattle.std.specs.Prelude.{IfOk}
use Rattle.qic_base.specs.Sink as sinks
use Rattle.qic_base.specs.Source as sources
use Rattle.qic_base.specs.Tape as tapes
use Rattle.command_spec.specs.Commands.{traits_of}
use Rattle.command_spec.specs.Machine.{CommandEnds}
use Rattle.command_spec.specs.declared.status.Status.{Status}
use Rattle.command_spec.specs.declared.words.Words.{Words}
use Rattle.command_laws.specs.RunTerms.{EndsBlind}
use Rattle.command_laws.proofs.CommandPromises.{ends_over}
use Rattle.tape_cmd.proofs.command.carry_out.Goals as goal

-- a command that reads no input ends over any source as it does over none
ends_blind : {T S K E : Type 0} (t : tapes.Meaning T) (s : sources.Meaning S) (k : sinks.Meaning K) (command : Words) (a b : T) (i : S)
    (x y : K) (r : Result Status E) → (traits_of command).reads ≡ false →
    IfOk r (λ status. EndsBlind t k command a b x y status) →
    IfOk r (λ status. CommandEnds t s k command record { tape = a; source = i; sink = x } record { tape = b; source = i; sink = y } status)
ends_blind t s k command a b i x y (Ok status) blind ends = ends_over t s k command a b i x y status blind ends
ends_blind t s k command a b i x y (Err want) blind ends = tt

pub returns-in_default-clause-ends : goal.returns-in_default-clause-ends
returns-in_default-clause-ends g c =
    ends_blind g.T.Tape.means g.S.Source.means g.K.Sink.means c.args.command.now c.args.unit.now.tape c.carry_out_blind.new.unit.tape
    c.args.source.now c.args.sink.now c.carry_out_blind.new.sink
    c.carry_out_blind.result c.carry_out_blind.ensures.blind c.carry_out_blind.ensures.ends
