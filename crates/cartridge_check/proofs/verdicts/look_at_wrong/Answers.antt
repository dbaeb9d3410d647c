use Rattle.std.proofs.Common.{◌≡◌, [], Bool, false, subst, true}
use Rattle.command_spec.specs.Check.{is_named}
use Rattle.command_spec.specs.Scrub.{whole_segment}
use Rattle.command_spec.specs.declared.verdict.Verdict.TheVariants.{Wrong}
use Rattle.qic_base.proofs.Steps.{Done-Does, tells_two}
use Rattle.qic_base.specs.CartridgeTerms.{IsCartridge}
use Rattle.qic_base.specs.TapeCalls.{Tells}
use Rattle.cartridge_check.proofs.Table.{judged_undecided, judged_wrong, told_later, whole_told}
use Rattle.cartridge_check.specs.Verdicts.{IsJudged, IsUndecided}
use Rattle.cartridge_check.proofs.verdicts.look_at_wrong.Goals as goal

pub returns-then-named-clause-judged : goal.returns-then-named-clause-judged
returns-then-named-clause-judged g c =
    tells_two g.T.Tape.means c.args.unit.now.tape IsCartridge (λ c'. is_named c' (whole_segment 2) c.args.sector ≡ true)
    (λ c'. IsJudged c' c.args.sector (Wrong c.args.sector)) (λ c' whole named. judged_wrong c' c.args.sector whole named)
    (whole_told g.T.Tape.means c.args.unit.now.tape (g.met.T.Tape.told_right c.args.unit.now.tape))
    (subst (λ (b : Bool). Tells g.T.Tape.means c.args.unit.now.tape (λ c'. is_named c' (whole_segment 2) c.args.sector ≡ b))
    c.if-named.true c.in_ok-named.ensures.named)

pub returns-else-named-clause-did : goal.returns-else-named-clause-did
returns-else-named-clause-did g c =
    Done-Does g.T.Tape.means c.args.unit.now.tape c.names_sector.new.unit.tape c.look_at_undecided.new.unit.tape [] []
    c.look_at_undecided.result c.in_ok-named.ensures.did c.look_at_undecided.ensures.did

pub returns-else-named-clause-judged : goal.returns-else-named-clause-judged
returns-else-named-clause-judged g c =
    told_later g.T.Tape.means c.args.unit.now.tape c.names_sector.new.unit.tape
    (λ c'. is_named c' (whole_segment 2) c.args.sector ≡ false) (λ verdict c'. IsUndecided c' verdict)
    (λ verdict c'. IsJudged c' c.args.sector verdict) c.look_at_undecided.result
    (λ verdict c' named und. judged_undecided c' c.args.sector verdict named und) c.in_ok-named.ensures.did
    (subst (λ (b : Bool). Tells g.T.Tape.means c.args.unit.now.tape (λ c'. is_named c' (whole_segment 2) c.args.sector ≡ b))
    c.if-named.false c.in_ok-named.ensures.named)
    c.look_at_undecided.ensures.undecided
