use Rattle.std.proofs.Common.{[], ap, rules}
use Rattle.std.proofs.lemmas.Result.{err_from_is_err_and}
use Rattle.drive_spec.specs.declared.deck.Deck.{Deck}
use Rattle.host_driver.proofs.Marks.{nothing_keeps, broke_agrees}
use Rattle.host_driver.proofs.host.Host.read_sector.Goals as goal

pub returns-in-Err-NoAddress-clause-did : goal.returns-in-Err-NoAddress-clause-did
returns-in-Err-NoAddress-clause-did g c =
    (rw (c.in-Err-NoAddress.is, c.in-Err-NoAddress.field-0-is) at c.in_ok-read_under.ensures.found).0.tape

pub returns-in_err-read_under-clause-did : goal.returns-in_err-read_under-clause-did
returns-in_err-read_under-clause-did g c =
    rw (err_from_is_err_and c.from_residual.result c.from_residual.ensures.1).1
    (c.in_err-read_under.ensures.found).1

pub returns-in_err-read_under-clause-keeps : goal.returns-in_err-read_under-clause-keeps
returns-in_err-read_under-clause-keeps g c =
    let found = c.in_err-read_under.ensures.found in
    record {
      ready = search rules;
      same = search rules;
      agrees = broke_agrees g.T.Tape.means c.args.unit.now c.read_under.new.unit [] nothing_keeps
          (ap (λ (d : Deck). d.cartridge) found.0) found.1;
      size = search rules;
    }
