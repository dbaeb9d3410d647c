use Rattle.std.proofs.Common.{◌≡◌, List, [], ◌∷◌, ◌++◌, Ok, Err, IfSome, refl, sym, ap, ◌∙◌, subst}
use Rattle.qic_base.specs.Step.{Step as TapeStep, Upgrade as Upgrading}
use Rattle.qic_base.specs.Tape as tapes
use Rattle.qic_base.proofs.Steps.{Done-after_reads, Broke-after_reads, Tells-read}
use Rattle.drive_states.specs.Hand.{IsCarriedOut, Upgrades}
use Rattle.drive_states.specs.Unit.{UnitView}
use Rattle.drive_states.specs.declared.fault.HandFault.TheVariants as hand
use Rattle.command_spec.specs.declared.words.Words.TheVariants.{Upgrade}
use Rattle.command_spec.specs.declared.status.Status.TheVariants as status
use Rattle.command_spec.specs.Lines.{upgraded_line}
use Rattle.command_spec.specs.Outcome.{CommandOutcome, carried_out, refused}
use Rattle.hand_commands.specs.Outcome.{first_steps}
use Rattle.hand_commands.proofs.Endings.{IsBlind, told_map, told_both, told_back, printed, turned_down, cut_off, cut_off_first}
use Rattle.hand_commands.proofs.Endings.{upgrade_absent, upgrade_present, upgrade_front}
use Rattle.command_laws.proofs.CommandEndings.{Rules}
use Rattle.hand_commands.proofs.Hands.{switched, no_switch}
use Rattle.qic_base.specs.CartridgeTerms.{IsInfoOf}
use Rattle.hand_commands.proofs.upgrade.upgrade.Goals as goal

is_blind : IsBlind Upgrade
is_blind = record { reads = refl }

pub returns-in-Ok-Ok : goal.returns-in-Ok-Ok
returns-in-Ok-Ok g c =
    let is : c.upgrade.result ≡ Ok (Ok _) = c.in-Ok-Ok.is ∙ ap Ok c.in-Ok-Ok.field-0-is in
    let came = switched _ c.upgrade.result
    (IsCarriedOut (Upgrades g.T.Tape.means c.insert.new.self c.upgrade.new.self)) _ c.upgrade.ensures.absent
    c.upgrade.ensures.present (λ other. cc) in
    let before = told_back g.T.Tape.means c.args.unit.now.tape c.insert.new.self.tape
    (IsInfoOf _) c.in_default.ensures.did c.in_default.ensures.inserted.known.told in
    let done = (rw is at came.fact).1 in
    rw c.printed.ensures (printed g.T.Tape.means g.K.Sink.means Upgrade is_blind c.args.unit.now.tape c.upgrade.new.self.tape
    c.args.sink.now c.write_text.new.sink
    (carried_out Upgrading (upgraded_line c.in-Ok-Ok.version)) c.write_text.result refl refl refl
    (c.in-Ok-Ok.version, done.layout.oldest, done.layout.newest, refl)
    (told_map _ _ (λ h. Rules Upgrade h (carried_out Upgrading (upgraded_line c.in-Ok-Ok.version)))
    (told_both _ (IsInfoOf _) (λ h. IfSome h (λ d. c.in-Ok-Ok.version ≡ d.version)) before
    (Tells-read (λ d. c.in-Ok-Ok.version ≡ d.version) c.in_default.ensures.did done.told))
    (λ held is input. upgrade_present came.info c.in-Ok-Ok.version held (sym came.known ∙ is.0) is.1))
    (Done-after_reads c.in_default.ensures.did done.done)
    (rw (c.bytes.ensures, c.number_text.ensures, c.from.ensures) at c.write_text.ensures))

pub returns-in-Ok-Err-NoCartridge : goal.returns-in-Ok-Err-NoCartridge
returns-in-Ok-Err-NoCartridge g c =
    let is : c.upgrade.result ≡ Ok (Err hand.NoCartridge) =
    c.in-Ok-Err-NoCartridge.is ∙ ap Ok (c.in-Ok-Err-NoCartridge.field-0-is ∙ ap Err c.in-Ok-Err-NoCartridge.field-0-0-is) in
    let none = no_switch _ c.upgrade.result
    (IsCarriedOut (Upgrades g.T.Tape.means c.insert.new.self c.upgrade.new.self)) _ c.upgrade.ensures.absent
    c.upgrade.ensures.present is (λ never. never) in
    let before = told_back g.T.Tape.means c.args.unit.now.tape c.insert.new.self.tape
    (IsInfoOf _) c.in_default.ensures.did c.in_default.ensures.inserted.known.told in
    turned_down g.T.Tape.means g.K.Sink.means Upgrade is_blind c.args.unit.now.tape c.upgrade.new.self.tape c.args.sink.now
    status.NoCartridge g.met.K.Sink.took_nothing refl refl (λ other. cc)
    (told_map _ (IsInfoOf _) (λ h. Rules Upgrade h (refused status.NoCartridge)) before
    (λ held known. λ input. upgrade_absent held (sym none.known ∙ known)))
    (subst (λ (u : UnitView _). tapes.Done g.T.Tape.means c.args.unit.now.tape u.tape []) (sym none.same) c.in_default.ensures.did)

pub returns-in-Err-upgrade : goal.returns-in-Err-upgrade
returns-in-Err-upgrade g c =
    let is : c.upgrade.result ≡ Err _ = c.in-Err-upgrade.is in
    let came = switched _ c.upgrade.result
    (IsCarriedOut (Upgrades g.T.Tape.means c.insert.new.self c.upgrade.new.self)) _ c.upgrade.ensures.absent
    c.upgrade.ensures.present (λ no. cc) in
    let before = told_back g.T.Tape.means c.args.unit.now.tape c.insert.new.self.tape
    (IsInfoOf _) c.in_default.ensures.did c.in_default.ensures.inserted.known.told in
    cut_off g.T.Tape.means g.K.Sink.means Upgrade is_blind c.args.unit.now.tape c.upgrade.new.self.tape c.args.sink.now
    (Upgrading ∷ []) g.met.K.Sink.took_nothing
    (told_map _ (IsInfoOf _) (λ h. (outcome : CommandOutcome) → Rules Upgrade h outcome → (rest : List TapeStep)
    × ((Upgrading ∷ []) ++ rest ≡ first_steps outcome)) before
    (λ held known. λ outcome rules. ([], upgrade_front came.info held outcome (sym came.known ∙ known) (rules []))))
    (Broke-after_reads c.in_default.ensures.did (rw is at came.fact).1.broke)

pub returns-in-Err : goal.returns-in-Err
returns-in-Err g c =
    cut_off_first g.T.Tape.means g.K.Sink.means Upgrade is_blind c.args.unit.now.tape c.insert.new.self.tape c.args.sink.now
    g.met.K.Sink.took_nothing c.in-Err.ensures.did
