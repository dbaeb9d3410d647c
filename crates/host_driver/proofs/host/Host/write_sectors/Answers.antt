use Rattle.std.proofs.Common.{ap, [], ◌∷◌, rules}
use Rattle.qic_base.specs.Step.{WriteSectors}
use Rattle.qic_base.specs.TapeCalls.{chosen}
use Rattle.drive_spec.specs.declared.deck.Deck.{Deck}
use Rattle.host_driver.proofs.Marks.{write_keeps, done_agrees, broke_agrees}
use Rattle.host_driver.proofs.host.Host.write_sectors.Goals as goal

pub returns-clause-keeps : goal.returns-clause-keeps
returns-clause-keeps g c =
    let wrote = rw c.in-Ok.is at c.in_ok-blank.ensures.wrote in
    record {
      ready = search rules;
      same = search rules;
      agrees = done_agrees g.T.Tape.means c.args.unit.now c.write_all_under.new.unit
          (WriteSectors c.args.segment (chosen c.args.written c.args.from.now) ∷ [])
          (write_keeps c.args.segment (chosen c.args.written c.args.from.now)) (ap (λ (d : Deck). d.cartridge) wrote.deck) wrote.tape;
      size = search rules;
    }

pub returns-in_err-blank-clause-keeps : goal.returns-in_err-blank-clause-keeps
returns-in_err-blank-clause-keeps g c =
    let wrote = c.in_err-blank.ensures.wrote in
    record {
      ready = search rules;
      same = search rules;
      agrees = broke_agrees g.T.Tape.means c.args.unit.now c.write_all_under.new.unit
          (WriteSectors c.args.segment (chosen c.args.written c.args.from.now) ∷ [])
          (write_keeps c.args.segment (chosen c.args.written c.args.from.now)) (ap (λ (d : Deck). d.cartridge) wrote.0) wrote.1;
      size = search rules;
    }
