use Rattle.std.proofs.Common.{◌≡◌, List, [], ◌∷◌, ◌++◌, Ok, Err, refl, sym, ap, ◌∙◌, subst}
use Rattle.qic_base.specs.Step.{Step as TapeStep, SetProtected}
use Rattle.qic_base.specs.Tape as tapes
use Rattle.qic_base.proofs.Steps.{Done-after_reads, Broke-after_reads}
use Rattle.drive_states.specs.Hand.{IsCarriedOut, Replaces}
use Rattle.drive_states.specs.Unit.{UnitView}
use Rattle.drive_states.specs.declared.fault.HandFault.TheVariants as hand
use Rattle.command_spec.specs.declared.words.Words.TheVariants.{Protect}
use Rattle.command_spec.specs.declared.status.Status.TheVariants as status
use Rattle.command_spec.specs.Lines.{protected_line}
use Rattle.command_spec.specs.Outcome.{CommandOutcome, carried_out, refused}
use Rattle.hand_commands.specs.Outcome.{first_steps}
use Rattle.hand_commands.proofs.Endings.{IsBlind, told_map, told_back, printed, turned_down, cut_off, cut_off_first, protect_absent}
use Rattle.hand_commands.proofs.Endings.{protect_present, protect_front}
use Rattle.command_laws.proofs.CommandEndings.{Rules}
use Rattle.hand_commands.proofs.Hands.{switched, no_switch}
use Rattle.qic_base.specs.CartridgeTerms.{IsInfoOf}
use Rattle.hand_commands.proofs.protect.protect.Goals as goal

is_blind : {on : _} → IsBlind (Protect on)
is_blind = record { reads = refl }

pub returns-in-Ok-Ok : goal.returns-in-Ok-Ok
returns-in-Ok-Ok g c =
    let is : c.protect.result ≡ Ok (Ok _) = c.in-Ok-Ok.is ∙ ap Ok c.in-Ok-Ok.field-0-is in
    let came = switched _ c.protect.result
    (IsCarriedOut (Replaces g.T.Tape.means c.insert.new.self c.protect.new.self (SetProtected c.args.on))) _
    c.protect.ensures.absent c.protect.ensures.present (λ other. cc) in
    let before = told_back g.T.Tape.means c.args.unit.now.tape c.insert.new.self.tape
    (IsInfoOf _) c.in_default.ensures.did c.in_default.ensures.inserted.known.told in
    rw c.printed.ensures (printed g.T.Tape.means g.K.Sink.means (Protect c.args.on) is_blind c.args.unit.now.tape c.protect.new.self.tape
    c.args.sink.now c.write_text.new.sink
    (carried_out (SetProtected c.args.on) (protected_line c.args.on)) c.write_text.result refl refl refl refl
    (told_map _ (IsInfoOf _) (λ h. Rules (Protect c.args.on) h (carried_out (SetProtected c.args.on) (protected_line c.args.on))) before
    (λ held known. λ input. protect_present c.args.on came.info held (sym came.known ∙ known)))
    (Done-after_reads c.in_default.ensures.did (rw is at came.fact).1)
    (rw c.protected_text.ensures at c.write_text.ensures))

pub returns-in-Ok-Err-NoCartridge : goal.returns-in-Ok-Err-NoCartridge
returns-in-Ok-Err-NoCartridge g c =
    let is : c.protect.result ≡ Ok (Err hand.NoCartridge) =
    c.in-Ok-Err-NoCartridge.is ∙ ap Ok (c.in-Ok-Err-NoCartridge.field-0-is ∙ ap Err c.in-Ok-Err-NoCartridge.field-0-0-is) in
    let none = no_switch _ c.protect.result
    (IsCarriedOut (Replaces g.T.Tape.means c.insert.new.self c.protect.new.self (SetProtected c.args.on))) _
    c.protect.ensures.absent c.protect.ensures.present is (λ never. never) in
    let before = told_back g.T.Tape.means c.args.unit.now.tape c.insert.new.self.tape
    (IsInfoOf _) c.in_default.ensures.did c.in_default.ensures.inserted.known.told in
    turned_down g.T.Tape.means g.K.Sink.means (Protect c.args.on) is_blind c.args.unit.now.tape c.protect.new.self.tape c.args.sink.now
    status.NoCartridge g.met.K.Sink.took_nothing refl refl (λ other. cc)
    (told_map _ (IsInfoOf _) (λ h. Rules (Protect c.args.on) h (refused status.NoCartridge)) before
    (λ held known. λ input. protect_absent c.args.on held (sym none.known ∙ known)))
    (subst (λ (u : UnitView _). tapes.Done g.T.Tape.means c.args.unit.now.tape u.tape []) (sym none.same) c.in_default.ensures.did)

pub returns-in-Err-protect : goal.returns-in-Err-protect
returns-in-Err-protect g c =
    let is : c.protect.result ≡ Err _ = c.in-Err-protect.is in
    let came = switched _ c.protect.result
    (IsCarriedOut (Replaces g.T.Tape.means c.insert.new.self c.protect.new.self (SetProtected c.args.on))) _
    c.protect.ensures.absent c.protect.ensures.present (λ no. cc) in
    let before = told_back g.T.Tape.means c.args.unit.now.tape c.insert.new.self.tape
    (IsInfoOf _) c.in_default.ensures.did c.in_default.ensures.inserted.known.told in
    cut_off g.T.Tape.means g.K.Sink.means (Protect c.args.on) is_blind c.args.unit.now.tape c.protect.new.self.tape c.args.sink.now
    (SetProtected c.args.on ∷ []) g.met.K.Sink.took_nothing
    (told_map _ (IsInfoOf _) (λ h. (outcome : CommandOutcome) → Rules (Protect c.args.on) h outcome → (rest : List TapeStep)
    × ((SetProtected c.args.on ∷ []) ++ rest ≡ first_steps outcome)) before
    (λ held known. λ outcome rules. ([], protect_front c.args.on came.info held outcome (sym came.known ∙ known) (rules []))))
    (Broke-after_reads c.in_default.ensures.did (rw is at came.fact).1)

pub returns-in-Err : goal.returns-in-Err
returns-in-Err g c =
    cut_off_first g.T.Tape.means g.K.Sink.means (Protect c.args.on) is_blind c.args.unit.now.tape c.insert.new.self.tape c.args.sink.now
    g.met.K.Sink.took_nothing c.in-Err.ensures.did
