use Rattle.std.proofs.Common.{◌+◌, ◌∷◌, [], get_or, refl, arith}
use Rattle.rescue_map.specs.Reads.{left_of}
use Rattle.qic_base.proofs.Giving.{WereGiven-both}
use Rattle.rescue_map.proofs.Giving.{left_byte}
use Rattle.rescue_map.proofs.ahead.next_byte.Goals as goal

pub returns-clause-took : goal.returns-clause-took
returns-clause-took g c =
    let m = g.S.Source.means in
    let old = c.refill.new.ahead in
    let is = c.in-Ok.ensures.within in
    WereGiven-both [] (get_or c.refill.new.buffer old.at 0 ∷ []) (left_of m c.args.source.now c.args.buffer.now c.args.ahead.now)
    (left_of m c.refill.new.source c.refill.new.buffer old)
    (left_of m c.refill.new.source c.refill.new.buffer record { at = old.at + 1; end = old.end })
    c.in-Ok.ensures.gave
    (left_byte m c.refill.new.source c.refill.new.buffer old record { at = old.at + 1; end = old.end } is (omega arith) refl refl)
