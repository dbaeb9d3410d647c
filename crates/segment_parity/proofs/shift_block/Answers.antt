use Rattle.std.proofs.Common.{ℕ, ◌∙◌, bit_xor, List, get_or, ◌+◌}
use Rattle.std.proofs.Math.ListN.{length-set}
use Rattle.segment_parity.proofs.Blocks.{block_more, untouched_more}
use Rattle.qic_base.proofs.Arrays.{sector_from}
use Rattle.segment_parity.proofs.shift_block.Goals as goal

pub loop-j-preserved : goal.loop-j-preserved
loop-j-preserved c =
    let a : List ℕ = c.args.high.now in
    let b : List ℕ = c.args.middle.now in
    let d : List ℕ = c.args.low.now in
    let high : List ℕ = c.loop-j.high in
    let middle : List ℕ = c.loop-j.middle in
    let low : List ℕ = c.loop-j.low in
    let s : List ℕ = c.args.sector.now in
    let j : ℕ = c.loop-j.j in
    let m : ℕ = c.times_0xc0-multiple.result in
    let f : ℕ = bit_xor (get_or high j 0) (get_or s (c.args.start + j) 0) in
    let u : ℕ = bit_xor (get_or middle j 0) m in
    let v : ℕ = bit_xor (get_or low j 0) m in
    let before = c.loop-j.invariant in
    record {
      high = length-set high j u ∙ before.high;
      middle = length-set middle j v ∙ before.middle;
      low = length-set low j f ∙ before.low;
      rest = untouched_more a b d high middle low j u v f before.rest;
      done = λ ss all was.
          block_more a b d high middle low ss s c.args.start j m before.high before.middle before.low c.requires
          c.loop-j-test.true all (sector_from s c.told-sector c.fits-sector) c.times_0xc0-multiple.ensures before.rest was
          (before.done ss all was);
    }

pub returns-clause-sector : goal.returns-clause-sector
returns-clause-sector c = sector_from c.args.sector.now c.told-sector c.fits-sector
