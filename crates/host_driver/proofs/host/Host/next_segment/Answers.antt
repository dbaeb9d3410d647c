use Rattle.std.proofs.Common.{◌≡◌, refl, ap, sym, subst, ◌∙◌}
use Rattle.drive_spec.specs.declared.deck.Deck.{Deck}
use Rattle.drive_spec.specs.Deck.{is_streaming}
use Rattle.drive_spec.specs.Record.{Record}
use Rattle.drive_states.specs.Typed.{is_seeking}
use Rattle.host_driver.specs.Fits.{IsAtRest}
use Rattle.host_driver.specs.Place.{KeepsMode, RunsOn, idled_deck}
use Rattle.host_driver.proofs.Keeping.{keeps_tape}
use Rattle.host_driver.proofs.Running.{idles, idle_still, idle_keeps, runs_on_idle}
use Rattle.host_driver.proofs.host.Host.next_segment.Goals as goal

pub tell-requires-clause-taken : goal.tell-requires-clause-taken
tell-requires-clause-taken g c = (idles c.args.unit.now.drive c.requires.ready.rest.still c.requires.ready.fits.no_error
    c.requires.ready.fits.generates).takes

pub tell-requires-clause-reads : goal.tell-requires-clause-reads
tell-requires-clause-reads g c = (idles c.args.unit.now.drive c.requires.ready.rest.still c.requires.ready.fits.no_error
    c.requires.ready.fits.generates).steps

pub returns-clause-deck : goal.returns-clause-deck
returns-clause-deck g c =
    let i = idles c.args.unit.now.drive c.requires.ready.rest.still c.requires.ready.fits.no_error c.requires.ready.fits.generates in
    ap (λ (r : Record). r.deck) c.tell.ensures.row ∙ i.deck

pub returns-clause-next : goal.returns-clause-next
returns-clause-next g c running =
    let i = idles c.args.unit.now.drive c.requires.ready.rest.still c.requires.ready.fits.no_error c.requires.ready.fits.generates in
    let deck : c.tell.new.unit.drive.deck ≡ idled_deck c.args.unit.now.drive.deck =
    ap (λ (r : Record). r.deck) c.tell.ensures.row ∙ i.deck in
    subst (λ (d : Deck). RunsOn c.args.unit.now.drive.deck d) (sym deck)
    (runs_on_idle c.args.unit.now.drive.deck c.requires.ready.fits.generates running)

pub returns-clause-keeps : goal.returns-clause-keeps
returns-clause-keeps g c =
    let i = idles c.args.unit.now.drive c.requires.ready.rest.still c.requires.ready.fits.no_error c.requires.ready.fits.generates in
    let row = c.tell.ensures.row in
    let deck : c.tell.new.unit.drive.deck ≡ idled_deck c.args.unit.now.drive.deck = ap (λ (r : Record). r.deck) row ∙ i.deck in
    let rest : IsAtRest c.tell.new.unit.drive = record {
      still = ap (λ (d : Deck). is_seeking d.motion) deck
          ∙ idle_still c.args.unit.now.drive.deck (is_streaming c.args.unit.now.drive.deck.motion) refl c.requires.ready.rest.still;
      idle = ap (λ (r : Record). r.under_way) row ∙ i.under_way ∙ c.requires.ready.rest.idle;
    } in
    keeps_tape (record { fits = c.tell.ensures.fits; rest = rest })
    (subst (λ (d : Deck). KeepsMode c.args.unit.now.drive.deck d) (sym deck) (idle_keeps c.args.unit.now.drive.deck)) c.tell.ensures.tape
