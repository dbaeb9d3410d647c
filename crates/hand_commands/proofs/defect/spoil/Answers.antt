use Rattle.std.proofs.Common.{◌≡◌, true, false, List, [], ◌∷◌, ◌++◌, Ok, Err, IfSome, refl, sym, ap, ◌∙◌, subst, inl, inr}
use Rattle.qic_base.specs.Step.{Step as TapeStep, Spoil}
use Rattle.qic_base.specs.Cartridge.{view_at}
use Rattle.qic_base.specs.Tape as tapes
use Rattle.qic_base.specs.Tape.{spoil_answer}
use Rattle.qic_base.proofs.Steps.{Done-after_reads, Broke-after_reads, Tells-read}
use Rattle.drive_states.specs.Unit.{UnitView}
use Rattle.drive_states.specs.Hand.{Spoils}
use Rattle.drive_states.specs.declared.fault.HandFault.TheVariants as hand
use Rattle.command_spec.specs.declared.words.Words.TheVariants.{Defect}
use Rattle.command_spec.specs.declared.status.Status.TheVariants as status
use Rattle.command_spec.specs.Lines.{defect_line}
use Rattle.command_spec.specs.Outcome.{CommandOutcome, carried_out, refused, refused_behind}
use Rattle.hand_commands.specs.Outcome.{first_steps}
use Rattle.hand_commands.proofs.Endings.{IsBlind, told_map, told_both, told_back, printed, turned_down, turned_behind, cut_off}
use Rattle.hand_commands.proofs.Endings.{cut_off_first, defect_absent, defect_misplaced, defect_placed, defect_front, defect_formatted}
use Rattle.command_laws.proofs.CommandEndings.{Rules}
use Rattle.hand_commands.proofs.Hands.{reached, reached_there, unknown, no_place, misplaced_there}
use Rattle.qic_base.specs.CartridgeTerms.{IsInfoOf}
use Rattle.hand_commands.proofs.defect.spoil.Goals as goal

is_blind : {segment sector : _} → IsBlind (Defect segment sector)
is_blind = record { reads = refl }

pub returns-in-Ok-Ok : goal.returns-in-Ok-Ok
returns-in-Ok-Ok g c =
    let is : c.spoil.result ≡ Ok (Ok _) = c.in-Ok-Ok.is ∙ ap Ok c.in-Ok-Ok.field-0-is in
    let came = reached _ c.args.segment c.args.sector c.spoil.result
    (Spoils g.T.Tape.means c.insert.new.self c.spoil.new.self c.args.segment c.args.sector)
    c.spoil.ensures.absent c.spoil.ensures.misplaced c.spoil.ensures.placed (λ other. cc)
    (λ other. cc) in
    let before = told_back g.T.Tape.means c.args.unit.now.tape c.insert.new.self.tape
    (IsInfoOf _) c.in_default.ensures.did c.in_default.ensures.inserted.known.told in
    rw c.printed.ensures (printed g.T.Tape.means g.K.Sink.means (Defect c.args.segment c.args.sector) is_blind c.args.unit.now.tape
    c.spoil.new.self.tape c.args.sink.now c.write_text.new.sink
    (carried_out (Spoil c.args.segment c.args.sector) (defect_line c.args.segment c.args.sector)) c.write_text.result
    (reached_there _ c.args.segment c.args.sector c.in_default.ensures.inserted.known.long came) refl refl refl
    (told_map _ _ (λ h. Rules (Defect c.args.segment c.args.sector) h
    (carried_out (Spoil c.args.segment c.args.sector) (defect_line c.args.segment c.args.sector)))
    (told_both _ (IsInfoOf _) (λ h. IfSome h (λ k. spoil_answer (view_at k c.args.segment c.args.sector) ≡ true)) before
    (Tells-read (λ k. spoil_answer (view_at k c.args.segment c.args.sector) ≡ true) c.in_default.ensures.did
    (rw is at came.fact).1))
    (λ held is input. defect_placed c.args.segment c.args.sector came.info held (sym came.known ∙ is.0) came.place is.1))
    (Done-after_reads c.in_default.ensures.did (rw is at came.fact).0)
    (rw (c.bytes.ensures, c.place_text.ensures, c.from.ensures, c.from-in-Ok-Ok.ensures) at c.write_text.ensures))

pub returns-in-Ok-Err-NoCartridge : goal.returns-in-Ok-Err-NoCartridge
returns-in-Ok-Err-NoCartridge g c =
    let is : c.spoil.result ≡ Ok (Err hand.NoCartridge) =
    c.in-Ok-Err-NoCartridge.is ∙ ap Ok (c.in-Ok-Err-NoCartridge.field-0-is ∙ ap Err c.in-Ok-Err-NoCartridge.field-0-0-is) in
    let none = unknown _ c.args.segment c.args.sector c.spoil.result
    (Spoils g.T.Tape.means c.insert.new.self c.spoil.new.self c.args.segment c.args.sector)
    c.spoil.ensures.misplaced c.spoil.ensures.placed is (λ never. never) in
    let before = told_back g.T.Tape.means c.args.unit.now.tape c.insert.new.self.tape
    (IsInfoOf _) c.in_default.ensures.did c.in_default.ensures.inserted.known.told in
    let same = c.spoil.ensures.untouched (inl is) in
    turned_down g.T.Tape.means g.K.Sink.means (Defect c.args.segment c.args.sector) is_blind c.args.unit.now.tape c.spoil.new.self.tape
    c.args.sink.now status.NoCartridge g.met.K.Sink.took_nothing refl refl (λ other. cc)
    (told_map _ (IsInfoOf _) (λ h. Rules (Defect c.args.segment c.args.sector) h (refused status.NoCartridge)) before
    (λ held known. λ input. defect_absent c.args.segment c.args.sector held (sym none ∙ known)))
    (subst (λ (u : UnitView _). tapes.Done g.T.Tape.means c.args.unit.now.tape u.tape []) (sym same) c.in_default.ensures.did)

pub returns-in-Ok-Err-BadPlace : goal.returns-in-Ok-Err-BadPlace
returns-in-Ok-Err-BadPlace g c =
    let is : c.spoil.result ≡ Ok (Err hand.BadPlace) =
    c.in-Ok-Err-BadPlace.is ∙ ap Ok (c.in-Ok-Err-BadPlace.field-0-is ∙ ap Err c.in-Ok-Err-BadPlace.field-0-0-is) in
    let out = no_place _ c.args.segment c.args.sector c.spoil.result
    (Spoils g.T.Tape.means c.insert.new.self c.spoil.new.self c.args.segment c.args.sector)
    c.spoil.ensures.absent c.spoil.ensures.placed is (λ never. never) in
    let before = told_back g.T.Tape.means c.args.unit.now.tape c.insert.new.self.tape
    (IsInfoOf _) c.in_default.ensures.did c.in_default.ensures.inserted.known.told in
    let same = c.spoil.ensures.untouched (inr is) in
    turned_down g.T.Tape.means g.K.Sink.means (Defect c.args.segment c.args.sector) is_blind c.args.unit.now.tape c.spoil.new.self.tape
    c.args.sink.now status.BadPlace g.met.K.Sink.took_nothing
    (misplaced_there _ c.args.segment c.args.sector c.in_default.ensures.inserted.known.long out) refl (λ other. cc)
    (told_map _ (IsInfoOf _) (λ h. Rules (Defect c.args.segment c.args.sector) h (refused status.BadPlace)) before
    (λ held known. λ input. defect_misplaced c.args.segment c.args.sector out.info held (sym out.known ∙ known) out.none))
    (subst (λ (u : UnitView _). tapes.Done g.T.Tape.means c.args.unit.now.tape u.tape []) (sym same) c.in_default.ensures.did)

pub returns-in-Ok-Err-NotBlank : goal.returns-in-Ok-Err-NotBlank
returns-in-Ok-Err-NotBlank g c =
    let is : c.spoil.result ≡ Ok (Err hand.NotBlank) =
    c.in-Ok-Err-NotBlank.is ∙ ap Ok (c.in-Ok-Err-NotBlank.field-0-is ∙ ap Err c.in-Ok-Err-NotBlank.field-0-0-is) in
    let came = reached _ c.args.segment c.args.sector c.spoil.result
    (Spoils g.T.Tape.means c.insert.new.self c.spoil.new.self c.args.segment c.args.sector)
    c.spoil.ensures.absent c.spoil.ensures.misplaced c.spoil.ensures.placed (λ is. let other = is in cc) (λ is. let other = is in cc) in
    let before = told_back g.T.Tape.means c.args.unit.now.tape c.insert.new.self.tape
    (IsInfoOf _) c.in_default.ensures.did c.in_default.ensures.inserted.known.told in
    let kept = rw is at came.fact in
    turned_behind g.T.Tape.means g.K.Sink.means (Defect c.args.segment c.args.sector) is_blind c.args.unit.now.tape c.spoil.new.self.tape
    c.args.sink.now status.NotBlank (Spoil c.args.segment c.args.sector ∷ []) g.met.K.Sink.took_nothing
    (reached_there _ c.args.segment c.args.sector c.in_default.ensures.inserted.known.long came) refl (λ other. cc)
    (told_map _ _ (λ h. Rules (Defect c.args.segment c.args.sector) h
    (refused_behind (Spoil c.args.segment c.args.sector ∷ []) status.NotBlank))
    (told_both _ (IsInfoOf _) (λ h. IfSome h (λ k. spoil_answer (view_at k c.args.segment c.args.sector) ≡ false)) before
    (Tells-read (λ k. spoil_answer (view_at k c.args.segment c.args.sector) ≡ false) c.in_default.ensures.did kept.1))
    (λ held is input. defect_formatted c.args.segment c.args.sector came.info held (sym came.known ∙ is.0) came.place is.1))
    (Done-after_reads c.in_default.ensures.did kept.0)

pub returns-in-Err-spoil : goal.returns-in-Err-spoil
returns-in-Err-spoil g c =
    let is : c.spoil.result ≡ Err _ = c.in-Err-spoil.is in
    let came = reached _ c.args.segment c.args.sector c.spoil.result
    (Spoils g.T.Tape.means c.insert.new.self c.spoil.new.self c.args.segment c.args.sector)
    c.spoil.ensures.absent c.spoil.ensures.misplaced c.spoil.ensures.placed (λ is. let other = is in cc) (λ is. let other = is in cc) in
    let before = told_back g.T.Tape.means c.args.unit.now.tape c.insert.new.self.tape
    (IsInfoOf _) c.in_default.ensures.did c.in_default.ensures.inserted.known.told in
    cut_off g.T.Tape.means g.K.Sink.means (Defect c.args.segment c.args.sector) is_blind c.args.unit.now.tape c.spoil.new.self.tape
    c.args.sink.now (Spoil c.args.segment c.args.sector ∷ []) g.met.K.Sink.took_nothing
    (told_map _ (IsInfoOf _) (λ h. (outcome : CommandOutcome) → Rules (Defect c.args.segment c.args.sector) h outcome →
    (rest : List TapeStep) × ((Spoil c.args.segment c.args.sector ∷ []) ++ rest ≡ first_steps outcome)) before
    (λ held known. λ outcome rules. (
      [],
      defect_front c.args.segment c.args.sector came.info held outcome
          (sym came.known ∙ known) came.place (rules []),
    )))
    (Broke-after_reads c.in_default.ensures.did (rw is at came.fact))

pub returns-in-Err : goal.returns-in-Err
returns-in-Err g c =
    cut_off_first g.T.Tape.means g.K.Sink.means (Defect c.args.segment c.args.sector) is_blind c.args.unit.now.tape c.insert.new.self.tape
    c.args.sink.now g.met.K.Sink.took_nothing c.in-Err.ensures.did
