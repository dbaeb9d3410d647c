use Rattle.std.proofs.Common.{[], ap, rules}
use Rattle.drive_spec.specs.declared.deck.Deck.{Deck}
use Rattle.host_driver.proofs.Marks.{nothing_keeps, broke_agrees}
use Rattle.host_driver.proofs.host.Host.read_sectors.Goals as goal

pub returns-in_err-read-clause-keeps : goal.returns-in_err-read-clause-keeps
returns-in_err-read-clause-keeps g c =
    let found = c.in_err-read.ensures.found in
    record {
      ready = search rules;
      same = search rules;
      agrees = broke_agrees g.T.Tape.means c.args.unit.now c.read_all_under.new.unit [] nothing_keeps
          (ap (λ (d : Deck). d.cartridge) found.0) found.1;
      size = search rules;
    }
