use Rattle.std.proofs.Common.{◌≡◌, ℕ, ◌^◌, ◌<◌, List, subst, sym, arith}
use Rattle.std.proofs.lemmas.Result.{err_from_is_err_and}
use Rattle.qic_base.specs.Step.{Step}
use Rattle.qic_base.specs.Tape.{Done, Broke}
use Rattle.qic_base.specs.TapeCalls.{Does}
use Rattle.qic_base.proofs.Steps.{Broke-front, Done-Does}
use Rattle.cartridge_spec.specs.Formatting.{copy_writes}
use Rattle.cartridge_laws.specs.Writes.{named_writes}
use Rattle.formatter.proofs.Copies.{all_count, copy_is}
use Rattle.formatter.proofs.Keeping.{can_write_again}
use Rattle.formatter.proofs.header.write_copy.Goals as goal

pub write_sectors-requires-2-clause-can : goal.write_sectors-requires-2-clause-can
write_sectors-requires-2-clause-can g c = can_write_again c.args.copy 4294967295 c.requires.can c.write_sectors.ensures.keeps

pub write_sectors-requires-clause-within : goal.write_sectors-requires-clause-within
write_sectors-requires-clause-within g c =
    subst (λ (n : ℕ). c.from_mask-others.result < 2 ^ n) (sym all_count)
    (let mask : c.from_mask-others.result ≡ 4294967294 = c.from_mask-others.ensures in omega arith)

pub write_sectors-requires-2-clause-within : goal.write_sectors-requires-2-clause-within
write_sectors-requires-2-clause-within g c =
    subst (λ (n : ℕ). c.from_mask-last.result < 2 ^ n) (sym all_count)
    (let mask : c.from_mask-last.result ≡ 1 = c.from_mask-last.ensures in omega arith)

-- sector 0 wasn't tried
pub returns-in_err-write_sectors-clause-did : goal.returns-in_err-write_sectors-clause-did
returns-in_err-write_sectors-clause-did g c =
    let B : List Step → Type 0 = λ steps. Broke g.T.Tape.means c.args.unit.now.tape c.write_sectors.new.unit.tape steps in
    let first : B (named_writes c.args.copy 4294967295 4294967294 c.args.work.now) =
    subst (λ (mask : ℕ). B (named_writes c.args.copy 4294967295 mask c.args.work.now)) c.from_mask-others.ensures
    c.in_err-write_sectors.ensures.did in
    let whole : B (copy_writes c.args.copy c.args.work.now) =
    subst B (copy_is c.args.copy c.args.work.now c.requires.room)
    (Broke-front {xs = named_writes c.args.copy 4294967295 4294967294 c.args.work.now}
    (named_writes c.args.copy 4294967295 1 c.args.work.now) first) in
    let p = err_from_is_err_and c.from_residual.result c.from_residual.ensures.1 in
    rw p.1 whole

pub returns-clause-did : goal.returns-clause-did
returns-clause-did g c =
    let first : Done g.T.Tape.means c.args.unit.now.tape c.write_sectors.new.unit.tape
    (named_writes c.args.copy 4294967295 4294967294 c.args.work.now) =
    subst (λ (mask : ℕ). Done g.T.Tape.means c.args.unit.now.tape c.write_sectors.new.unit.tape
    (named_writes c.args.copy 4294967295 mask c.args.work.now)) c.from_mask-others.ensures
    c.in_ok-write_sectors.ensures.did in
    let next : Does g.T.Tape.means c.write_sectors.new.unit.tape c.write_sectors-2.new.unit.tape
    (named_writes c.args.copy 4294967295 1 c.args.work.now) c.write_sectors-2.result =
    subst (λ (mask : ℕ). Does g.T.Tape.means c.write_sectors.new.unit.tape c.write_sectors-2.new.unit.tape
    (named_writes c.args.copy 4294967295 mask c.args.work.now) c.write_sectors-2.result) c.from_mask-last.ensures
    c.write_sectors-2.ensures.did in
    subst (λ (steps : List Step). Does g.T.Tape.means c.args.unit.now.tape c.write_sectors-2.new.unit.tape steps c.write_sectors-2.result)
    (copy_is c.args.copy c.args.work.now c.requires.room)
    (Done-Does g.T.Tape.means c.args.unit.now.tape c.write_sectors.new.unit.tape c.write_sectors-2.new.unit.tape
    (named_writes c.args.copy 4294967295 4294967294 c.args.work.now)
    (named_writes c.args.copy 4294967295 1 c.args.work.now) c.write_sectors-2.result first next)
