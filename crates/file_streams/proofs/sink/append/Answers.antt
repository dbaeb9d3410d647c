use Rattle.std.proofs.Common.{rules, ap, length, ◌≡◌, ◌+◌, ◌∙◌, ℕ, refl, subst, inl, inr, arith}
use Rattle.std.proofs.lemmas.Result.{err_from_is_err_and}
use Rattle.std.specs.Option.{option_map}
use Rattle.qic_base.specs.Disk.{WriteAt, stored}
use Rattle.qic_base.specs.Tape.{Rose}
use Rattle.file_streams.specs.FileSink.{PieceBroke}
use Rattle.file_streams.specs.SinkLaws.{begins-still}
use Rattle.file_streams.proofs.Growing.{told-grown, failed-length, failed-write, took-piece}
use Rattle.file_streams.proofs.sink.append.Goals as goal

pub returns-clause-longer : goal.returns-clause-longer
returns-clause-longer g c = λ is.
    let long : c.in-Some.end ≡ c.args.at + length c.args.from.now = search rules in
    c.in_ok-write_at.ensures.did.told
    ∙ ap (option_map (stored (WriteAt c.args.at c.args.from.now))) c.in_ok-set_len.ensures.did.told
    ∙ told-grown c.args.at c.in-Some.end c.args.from.now (g.D.Disk.means.told c.args.disk.now) long is

pub returns-clause-took : goal.returns-clause-took
returns-clause-took g c =
    let long : c.in-Some.end ≡ c.args.at + length c.args.from.now = search rules in
    let one = c.in_ok-set_len.ensures.did in
    let two = c.in_ok-write_at.ensures.did in
    record {
      telling = two.crashes.telling ∙ one.crashes.telling;
      kept = took-piece g.D.Disk.means c.args.disk.now c.set_len.new.self c.write_at.new.self c.args.at c.in-Some.end c.args.from.now long
          one two;
      stood = two.later ∙ one.later;
    }

pub returns-in_default-clause-broke : goal.returns-in_default-clause-broke
returns-in_default-clause-broke g c = record {
  telling = refl;
  kept = λ bytes loses is within. begins-still (g.D.Disk.means.told c.args.disk.now) c.args.at bytes is;
  failed = inr (omega arith);
}

pub returns-in_err-set_len-clause-broke : goal.returns-in_err-set_len-clause-broke
returns-in_err-set_len-clause-broke g c =
    let long : c.in-Some.end ≡ c.args.at + length c.args.from.now = search rules in
    let one = c.in_err-set_len.ensures.did in
    let broke : PieceBroke g.D.Disk.means c.args.disk.now c.set_len.new.self c.args.at = record {
      telling = one.crashes.telling;
      kept = failed-length g.D.Disk.means c.args.disk.now c.set_len.new.self c.args.at c.in-Some.end
          (g.met.D.Disk.told_right c.args.disk.now)
          (omega (arith, long)) one;
      failed = inl one.cause;
    } in
    let p = err_from_is_err_and c.from_residual.result c.from_residual.ensures.1 in
    rw p.1 broke

pub returns-in_err-write_at-clause-broke : goal.returns-in_err-write_at-clause-broke
returns-in_err-write_at-clause-broke g c =
    let long : c.in-Some.end ≡ c.args.at + length c.args.from.now = search rules in
    let one = c.in_ok-set_len.ensures.did in
    let two = c.in_err-write_at.ensures.did in
    let broke : PieceBroke g.D.Disk.means c.args.disk.now c.write_at.new.self c.args.at = record {
      telling = two.crashes.telling ∙ one.crashes.telling;
      kept = failed-write g.D.Disk.means c.args.disk.now c.set_len.new.self c.write_at.new.self c.args.at c.in-Some.end c.args.from.now
          (g.met.D.Disk.told_right c.set_len.new.self) long one two;
      failed = inl (subst (λ (n : ℕ). Rose n (g.D.Disk.means.faults c.write_at.new.self)) one.later two.cause);
    } in
    let p = err_from_is_err_and c.from_residual-in_err-write_at.result c.from_residual-in_err-write_at.ensures.1 in
    rw p.1 broke
