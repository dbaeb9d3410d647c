use Rattle.std.proofs.Common.{ap, ◌∙◌}
use Rattle.drive_spec.specs.declared.deck.Deck.{Deck}
use Rattle.drive_spec.specs.Deck.{is_streaming}
use Rattle.drive_states.specs.Typed.{is_seeking}
use Rattle.host_driver.specs.Train.{ready_deck}
use Rattle.host_driver.proofs.Taking.{stands_known, seek_of, given_track, takes_track}
use Rattle.host_driver.proofs.host.Host.seek_track.Goals as goal

pub command-requires-clause-taken : goal.command-requires-clause-taken
command-requires-clause-taken g c = seek_of c.args.unit.now.drive.deck
    (stands_known c.requires.ready.fits c.requires.stopped) c.requires.referenced

pub give-requires-clause-still : goal.give-requires-clause-still
give-requires-clause-still g c = ap (λ (d : Deck). is_seeking d.motion) c.command.ensures.deck ∙ c.requires.ready.rest.still

pub give-requires-clause-awaited : goal.give-requires-clause-awaited
give-requires-clause-awaited g c =
    takes_track c.command.new.unit.drive.under_way c.args.unit.now.drive.deck c.args.track c.command.ensures.under_way c.requires.track

pub wait-requires-clause-idle : goal.wait-requires-clause-idle
wait-requires-clause-idle g c =
    (given_track c.command.new.unit.drive c.give.new.unit.drive c.args.unit.now.drive.deck c.args.track c.command.ensures.deck
    c.command.ensures.under_way c.give.ensures.given).under_way

pub wait-requires-clause-still : goal.wait-requires-clause-still
wait-requires-clause-still g c =
    ap (λ (d : Deck). is_streaming d.motion)
    (given_track c.command.new.unit.drive c.give.new.unit.drive c.args.unit.now.drive.deck c.args.track c.command.ensures.deck
    c.command.ensures.under_way c.give.ensures.given).deck

pub returns-clause-deck : goal.returns-clause-deck
returns-clause-deck g c =
    c.wait.ensures.deck ∙ ap ready_deck
    (given_track c.command.new.unit.drive c.give.new.unit.drive c.args.unit.now.drive.deck c.args.track c.command.ensures.deck
    c.command.ensures.under_way c.give.ensures.given).deck
