use Rattle.std.proofs.Common.{◌≡◌, ◌/◌, ◌%◌, ap, ◌∙◌, arith}
use Rattle.qic117_commands.specs.declared.command.Command.{Command}
use Rattle.drive_spec.specs.declared.deck.Deck.{Deck}
use Rattle.drive_spec.specs.Terms.{refusal_of, begun}
use Rattle.drive_spec.specs.Deck.{is_streaming}
use Rattle.drive_spec.specs.Effects.{accepted}
use Rattle.drive_states.specs.Typed.{is_seeking}
use Rattle.host_driver.specs.Train.{ready_deck}
use Rattle.host_driver.proofs.Taking.{stands_known, skip_of, skip_awaits, given_low, given_high, takes_low, takes_high}
use Rattle.host_driver.proofs.host.Host.skip.Goals as goal

pub command-requires-clause-taken : goal.command-requires-clause-taken
command-requires-clause-taken g c =
    ap (refusal_of c.args.unit.now.drive.deck) c.skip_command.ensures
    ∙ skip_of c.args.unit.now.drive.deck (stands_known c.requires.ready.fits c.requires.stopped) c.args.forward c.requires.referenced
    c.requires.skips

pub give-requires-clause-still : goal.give-requires-clause-still
give-requires-clause-still g c =
    let d : Deck = c.args.unit.now.drive.deck in
    let deck : c.command.new.unit.drive.deck ≡ d =
    c.command.ensures.deck ∙ ap (λ (k : Command). accepted k d) c.skip_command.ensures ∙ skip_awaits c.args.forward d in
    ap (λ (e : Deck). is_seeking e.motion) deck ∙ c.requires.ready.rest.still

pub give-requires-clause-awaited : goal.give-requires-clause-awaited
give-requires-clause-awaited g c =
    let d : Deck = c.args.unit.now.drive.deck in
    takes_low c.args.forward c.command.new.unit.drive.under_way d (c.args.count % 16)
    (c.command.ensures.under_way ∙ ap (λ (k : Command). begun k d) c.skip_command.ensures) (omega arith)

pub give-requires-2-clause-still : goal.give-requires-2-clause-still
give-requires-2-clause-still g c =
    let d : Deck = c.args.unit.now.drive.deck in
    let deck : c.command.new.unit.drive.deck ≡ d =
    c.command.ensures.deck ∙ ap (λ (k : Command). accepted k d) c.skip_command.ensures ∙ skip_awaits c.args.forward d in
    let half = given_low c.args.forward c.command.new.unit.drive c.give.new.unit.drive d (c.args.count % 16) deck
    (c.command.ensures.under_way ∙ ap (λ (k : Command). begun k d) c.skip_command.ensures) c.give.ensures.given in
    ap (λ (e : Deck). is_seeking e.motion) half.deck ∙ c.requires.ready.rest.still

pub give-requires-2-clause-awaited : goal.give-requires-2-clause-awaited
give-requires-2-clause-awaited g c =
    let d : Deck = c.args.unit.now.drive.deck in
    let deck : c.command.new.unit.drive.deck ≡ d =
    c.command.ensures.deck ∙ ap (λ (k : Command). accepted k d) c.skip_command.ensures ∙ skip_awaits c.args.forward d in
    let half = given_low c.args.forward c.command.new.unit.drive c.give.new.unit.drive d (c.args.count % 16) deck
    (c.command.ensures.under_way ∙ ap (λ (k : Command). begun k d) c.skip_command.ensures) c.give.ensures.given in
    takes_high c.args.forward c.give.new.unit.drive d (c.args.count % 16) (c.args.count / 16) half (omega arith)

pub wait-requires-clause-idle : goal.wait-requires-clause-idle
wait-requires-clause-idle g c =
    let d : Deck = c.args.unit.now.drive.deck in
    let deck : c.command.new.unit.drive.deck ≡ d =
    c.command.ensures.deck ∙ ap (λ (k : Command). accepted k d) c.skip_command.ensures ∙ skip_awaits c.args.forward d in
    let half = given_low c.args.forward c.command.new.unit.drive c.give.new.unit.drive d (c.args.count % 16) deck
    (c.command.ensures.under_way ∙ ap (λ (k : Command). begun k d) c.skip_command.ensures) c.give.ensures.given in
    let given = given_high c.args.forward c.give.new.unit.drive c.give-2.new.unit.drive d (c.args.count % 16)
    (c.args.count / 16) c.args.count (omega arith) half c.give-2.ensures.given in
    given.under_way

pub wait-requires-clause-still : goal.wait-requires-clause-still
wait-requires-clause-still g c =
    let d : Deck = c.args.unit.now.drive.deck in
    let deck : c.command.new.unit.drive.deck ≡ d =
    c.command.ensures.deck ∙ ap (λ (k : Command). accepted k d) c.skip_command.ensures ∙ skip_awaits c.args.forward d in
    let half = given_low c.args.forward c.command.new.unit.drive c.give.new.unit.drive d (c.args.count % 16) deck
    (c.command.ensures.under_way ∙ ap (λ (k : Command). begun k d) c.skip_command.ensures) c.give.ensures.given in
    let given = given_high c.args.forward c.give.new.unit.drive c.give-2.new.unit.drive d (c.args.count % 16)
    (c.args.count / 16) c.args.count (omega arith) half c.give-2.ensures.given in
    ap (λ (e : Deck). is_streaming e.motion) given.deck

pub returns-clause-deck : goal.returns-clause-deck
returns-clause-deck g c =
    let d : Deck = c.args.unit.now.drive.deck in
    let deck : c.command.new.unit.drive.deck ≡ d =
    c.command.ensures.deck ∙ ap (λ (k : Command). accepted k d) c.skip_command.ensures ∙ skip_awaits c.args.forward d in
    let half = given_low c.args.forward c.command.new.unit.drive c.give.new.unit.drive d (c.args.count % 16) deck
    (c.command.ensures.under_way ∙ ap (λ (k : Command). begun k d) c.skip_command.ensures) c.give.ensures.given in
    let given = given_high c.args.forward c.give.new.unit.drive c.give-2.new.unit.drive d (c.args.count % 16)
    (c.args.count / 16) c.args.count (omega arith) half c.give-2.ensures.given in
    c.wait.ensures.deck ∙ ap ready_deck given.deck
