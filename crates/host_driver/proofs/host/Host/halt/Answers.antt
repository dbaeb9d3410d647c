use Rattle.std.proofs.Common.{◌≡◌, ap}
use Rattle.drive_spec.specs.declared.deck.Deck.{Deck}
use Rattle.drive_states.proofs.Bounds.{stop_of}
use Rattle.drive_states.specs.Typed.{is_seeking}
use Rattle.host_driver.specs.Fits.{segments_of}
use Rattle.host_driver.proofs.Keeping.{keeps_tape}
use Rattle.host_driver.proofs.Taking.{there}
use Rattle.host_driver.proofs.host.Host.halt.Goals as goal

pub command-requires-clause-taken : goal.command-requires-clause-taken
command-requires-clause-taken g c =
    stop_of c.args.unit.now.drive.deck
    (there c.args.unit.now.drive.deck.cartridge (λ info. info.segments_per_track ≡ segments_of c.args.self.now)
    c.requires.ready.fits.cartridge) c.requires.ready.rest.still

pub returns-clause-keeps : goal.returns-clause-keeps
returns-clause-keeps g c =
    let sent = c.command.ensures in
    keeps_tape (record {
      fits = sent.fits;
      rest = record { still = ap (λ (d : Deck). is_seeking d.motion) sent.deck; idle = sent.under_way };
    })
    (record { cartridge = ap (λ (d : Deck). d.cartridge) sent.deck; mode = ap (λ (d : Deck). d.mode) sent.deck }) sent.tape
