use Rattle.std.proofs.Common.{◌≡◌, ℕ, List, [], ◌∷◌, false, refl, ap, sym, subst, ◌∙◌}
use Rattle.qic_base.specs.Step.{Step, SetReferenced}
use Rattle.qic_base.specs.Tape.{Done, Broke}
use Rattle.qic117_commands.specs.declared.command.Command.TheVariants.{WriteReference}
use Rattle.drive_spec.specs.declared.deck.Deck.{Deck}
use Rattle.drive_spec.specs.Deck.{is_streaming}
use Rattle.drive_spec.specs.Record.{Record}
use Rattle.drive_spec.specs.Terms.{obeying}
use Rattle.drive_states.specs.Unreferenced.{without_reference}
use Rattle.drive_states.proofs.Bounds.{reference_of}
use Rattle.host_driver.specs.Train.{TakesTrain, ready_deck}
use Rattle.std.proofs.lemmas.Result.{err_from_is_err_and}
use Rattle.host_driver.specs.Place.{StandsAt}
use Rattle.host_driver.proofs.Marks.{reference_agrees, unmarked}
use Rattle.host_driver.proofs.Sending.{references, format_mode}
use Rattle.drive_spec.specs.Row.{pulsed_row}
use Rattle.drive_spec.specs.Steps.{train_changes}
use Rattle.host_driver.proofs.host.Host.reference.Goals as goal

pub send-requires-clause-taken : goal.send-requires-clause-taken
send-requires-clause-taken g c =
    let d : Deck = c.args.unit.now.drive.deck in
    let refs = references c.args.unit.now.drive c.requires.ready.rest.still c.requires.ready.rest.idle
    (reference_of d c.requires.ready.fits.sound.drive.deck (format_mode d.mode c.requires.format) c.requires.stopped)
    c.requires.ready.fits.no_error c.requires.ready.fits.generates in
    subst (λ (n : ℕ). TakesTrain c.args.unit.now.drive n) (sym c.number.ensures) refs.takes

pub returns-in_err-send-clause-did : goal.returns-in_err-send-clause-did
returns-in_err-send-clause-did g c =
    let d : Deck = c.args.unit.now.drive.deck in
    let refs = references c.args.unit.now.drive c.requires.ready.rest.still c.requires.ready.rest.idle
    (reference_of d c.requires.ready.fits.sound.drive.deck (format_mode d.mode c.requires.format) c.requires.stopped)
    c.requires.ready.fits.no_error c.requires.ready.fits.generates in
    let steps : train_changes c.args.unit.now.drive c.number.result ≡ SetReferenced ∷ [] =
    ap (train_changes c.args.unit.now.drive) c.number.ensures ∙ refs.steps in
    let broke : Broke g.T.Tape.means c.args.unit.now.tape c.send.new.unit.tape (SetReferenced ∷ []) =
    subst (λ (ss : List Step). Broke g.T.Tape.means c.args.unit.now.tape c.send.new.unit.tape ss) steps c.in_err-send.ensures.did in
    let p = err_from_is_err_and c.from_residual.result c.from_residual.ensures.1 in rw p.1 broke

pub returns-in_err-send-clause-unmarked : goal.returns-in_err-send-clause-unmarked
returns-in_err-send-clause-unmarked g c =
    let d : Deck = c.args.unit.now.drive.deck in
    let refs = references c.args.unit.now.drive c.requires.ready.rest.still c.requires.ready.rest.idle
    (reference_of d c.requires.ready.fits.sound.drive.deck (format_mode d.mode c.requires.format) c.requires.stopped)
    c.requires.ready.fits.no_error c.requires.ready.fits.generates in
    let failed : c.send.new.unit.drive ≡ without_reference
    (obeying (record c.args.unit.now.drive { line = false; train = 0 }) WriteReference) =
    c.in_err-send.ensures.failed ∙ ap without_reference (ap (pulsed_row c.args.unit.now.drive) c.number.ensures ∙ refs.after) in
    let p = err_from_is_err_and c.from_residual.result c.from_residual.ensures.1 in
    rw p.1 (ap (λ (r : Record). r.deck.cartridge) failed ∙ unmarked d.cartridge)

pub returns-in_err-send-clause-mode : goal.returns-in_err-send-clause-mode
returns-in_err-send-clause-mode g c =
    let d : Deck = c.args.unit.now.drive.deck in
    let refs = references c.args.unit.now.drive c.requires.ready.rest.still c.requires.ready.rest.idle
    (reference_of d c.requires.ready.fits.sound.drive.deck (format_mode d.mode c.requires.format) c.requires.stopped)
    c.requires.ready.fits.no_error c.requires.ready.fits.generates in
    let failed : c.send.new.unit.drive ≡ without_reference
    (obeying (record c.args.unit.now.drive { line = false; train = 0 }) WriteReference) =
    c.in_err-send.ensures.failed ∙ ap without_reference (ap (pulsed_row c.args.unit.now.drive) c.number.ensures ∙ refs.after) in
    ap (λ (r : Record). r.deck.mode) failed

pub wait-requires-clause-idle : goal.wait-requires-clause-idle
wait-requires-clause-idle g c =
    let d : Deck = c.args.unit.now.drive.deck in
    let refs = references c.args.unit.now.drive c.requires.ready.rest.still c.requires.ready.rest.idle
    (reference_of d c.requires.ready.fits.sound.drive.deck (format_mode d.mode c.requires.format) c.requires.stopped)
    c.requires.ready.fits.no_error c.requires.ready.fits.generates in
    let row : c.send.new.unit.drive ≡ obeying (record c.args.unit.now.drive { line = false; train = 0 }) WriteReference =
    c.in_ok-send.ensures.row ∙ ap (pulsed_row c.args.unit.now.drive) c.number.ensures ∙ refs.after in
    ap (λ (r : Record). r.under_way) row

pub wait-requires-clause-still : goal.wait-requires-clause-still
wait-requires-clause-still g c =
    let d : Deck = c.args.unit.now.drive.deck in
    let refs = references c.args.unit.now.drive c.requires.ready.rest.still c.requires.ready.rest.idle
    (reference_of d c.requires.ready.fits.sound.drive.deck (format_mode d.mode c.requires.format) c.requires.stopped)
    c.requires.ready.fits.no_error c.requires.ready.fits.generates in
    let row : c.send.new.unit.drive ≡ obeying (record c.args.unit.now.drive { line = false; train = 0 }) WriteReference =
    c.in_ok-send.ensures.row ∙ ap (pulsed_row c.args.unit.now.drive) c.number.ensures ∙ refs.after in
    ap (λ (r : Record). is_streaming r.deck.motion) row

pub returns-clause-did : goal.returns-clause-did
returns-clause-did g c =
    let d : Deck = c.args.unit.now.drive.deck in
    let refs = references c.args.unit.now.drive c.requires.ready.rest.still c.requires.ready.rest.idle
    (reference_of d c.requires.ready.fits.sound.drive.deck (format_mode d.mode c.requires.format) c.requires.stopped)
    c.requires.ready.fits.no_error c.requires.ready.fits.generates in
    let steps : train_changes c.args.unit.now.drive c.number.result ≡ SetReferenced ∷ [] =
    ap (train_changes c.args.unit.now.drive) c.number.ensures ∙ refs.steps in
    let wrote : Done g.T.Tape.means c.args.unit.now.tape c.send.new.unit.tape (SetReferenced ∷ []) =
    subst (λ (ss : List Step). Done g.T.Tape.means c.args.unit.now.tape c.send.new.unit.tape ss) steps c.in_ok-send.ensures.did in
    let all : Done g.T.Tape.means c.args.unit.now.tape c.wait.new.unit.tape (SetReferenced ∷ []) =
    subst (λ (t : _). Done g.T.Tape.means c.args.unit.now.tape t (SetReferenced ∷ [])) (sym c.wait.ensures.tape) wrote in
    all

pub returns-clause-marks : goal.returns-clause-marks
returns-clause-marks g c =
    let d : Deck = c.args.unit.now.drive.deck in
    let refs = references c.args.unit.now.drive c.requires.ready.rest.still c.requires.ready.rest.idle
    (reference_of d c.requires.ready.fits.sound.drive.deck (format_mode d.mode c.requires.format) c.requires.stopped)
    c.requires.ready.fits.no_error c.requires.ready.fits.generates in
    let row : c.send.new.unit.drive ≡ obeying (record c.args.unit.now.drive { line = false; train = 0 }) WriteReference =
    c.in_ok-send.ensures.row ∙ ap (pulsed_row c.args.unit.now.drive) c.number.ensures ∙ refs.after in
    ap (λ (e : Deck). e.cartridge) c.wait.ensures.deck ∙ ap (λ (r : Record). r.deck.cartridge) row

pub returns-clause-place : goal.returns-clause-place
returns-clause-place g c =
    let d : Deck = c.args.unit.now.drive.deck in
    let refs = references c.args.unit.now.drive c.requires.ready.rest.still c.requires.ready.rest.idle
    (reference_of d c.requires.ready.fits.sound.drive.deck (format_mode d.mode c.requires.format) c.requires.stopped)
    c.requires.ready.fits.no_error c.requires.ready.fits.generates in
    let row : c.send.new.unit.drive ≡ obeying (record c.args.unit.now.drive { line = false; train = 0 }) WriteReference =
    c.in_ok-send.ensures.row ∙ ap (pulsed_row c.args.unit.now.drive) c.number.ensures ∙ refs.after in
    subst (λ (e : Deck). StandsAt 0 0 e) (sym (c.wait.ensures.deck ∙ ap (λ (r : Record). ready_deck r.deck) row)) record {
      motion = refl;
      on_track = refl;
      at_offset = refl;
    }

pub returns-clause-mode : goal.returns-clause-mode
returns-clause-mode g c =
    let d : Deck = c.args.unit.now.drive.deck in
    let refs = references c.args.unit.now.drive c.requires.ready.rest.still c.requires.ready.rest.idle
    (reference_of d c.requires.ready.fits.sound.drive.deck (format_mode d.mode c.requires.format) c.requires.stopped)
    c.requires.ready.fits.no_error c.requires.ready.fits.generates in
    let row : c.send.new.unit.drive ≡ obeying (record c.args.unit.now.drive { line = false; train = 0 }) WriteReference =
    c.in_ok-send.ensures.row ∙ ap (pulsed_row c.args.unit.now.drive) c.number.ensures ∙ refs.after in
    ap (λ (e : Deck). e.mode) c.wait.ensures.deck ∙ ap (λ (r : Record). r.deck.mode) row

pub returns-clause-agrees : goal.returns-clause-agrees
returns-clause-agrees g c =
    let d : Deck = c.args.unit.now.drive.deck in
    let refs = references c.args.unit.now.drive c.requires.ready.rest.still c.requires.ready.rest.idle
    (reference_of d c.requires.ready.fits.sound.drive.deck (format_mode d.mode c.requires.format) c.requires.stopped)
    c.requires.ready.fits.no_error c.requires.ready.fits.generates in
    let steps : train_changes c.args.unit.now.drive c.number.result ≡ SetReferenced ∷ [] =
    ap (train_changes c.args.unit.now.drive) c.number.ensures ∙ refs.steps in
    let row : c.send.new.unit.drive ≡ obeying (record c.args.unit.now.drive { line = false; train = 0 }) WriteReference =
    c.in_ok-send.ensures.row ∙ ap (pulsed_row c.args.unit.now.drive) c.number.ensures ∙ refs.after in
    let wrote : Done g.T.Tape.means c.args.unit.now.tape c.send.new.unit.tape (SetReferenced ∷ []) =
    subst (λ (ss : List Step). Done g.T.Tape.means c.args.unit.now.tape c.send.new.unit.tape ss) steps c.in_ok-send.ensures.did in
    let all : Done g.T.Tape.means c.args.unit.now.tape c.wait.new.unit.tape (SetReferenced ∷ []) =
    subst (λ (t : _). Done g.T.Tape.means c.args.unit.now.tape t (SetReferenced ∷ [])) (sym c.wait.ensures.tape) wrote in
    reference_agrees g.T.Tape.means c.args.unit.now c.wait.new.unit
    (ap (λ (e : Deck). e.cartridge) c.wait.ensures.deck ∙ ap (λ (r : Record). r.deck.cartridge) row) all
