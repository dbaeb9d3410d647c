use Rattle.std.proofs.Common.{◌≡◌, false, ap, sym, ◌∙◌}
use Rattle.drive_spec.specs.declared.deck.Deck.{Deck}
use Rattle.drive_spec.specs.Deck.{is_streaming}
use Rattle.drive_states.proofs.Bounds.{stop_of}
use Rattle.drive_states.specs.Typed.{is_seeking}
use Rattle.host_driver.specs.Fits.{segments_of}
use Rattle.host_driver.proofs.Motions.{stands_ready}
use Rattle.host_driver.proofs.Taking.{there}
use Rattle.host_driver.proofs.host.Host.stand.Goals as goal

pub returns-then-not-is_streaming-clause-deck : goal.returns-then-not-is_streaming-clause-deck
returns-then-not-is_streaming-clause-deck g c =
    let d : Deck = c.args.unit.now.drive.deck in
    let stands : is_streaming d.motion ≡ false =
    ap (λ (e : Deck). is_streaming e.motion) c.requires.ready.fits.deck ∙ sym c.is_streaming.ensures ∙ c.if-not-is_streaming.true in
    stands_ready d stands c.requires.ready.rest.still

pub command-requires-clause-taken : goal.command-requires-clause-taken
command-requires-clause-taken g c =
    stop_of c.args.unit.now.drive.deck
    (there c.args.unit.now.drive.deck.cartridge (λ info. info.segments_per_track ≡ segments_of c.args.self.now)
    c.requires.ready.fits.cartridge) c.requires.ready.rest.still

pub returns-clause-deck : goal.returns-clause-deck
returns-clause-deck g c = c.command.ensures.deck

pub returns-clause-ready : goal.returns-clause-ready
returns-clause-ready g c =
    let sent = c.command.ensures in
    record {
      fits = sent.fits;
      rest = record { still = ap (λ (d : Deck). is_seeking d.motion) sent.deck; idle = sent.under_way };
    }
