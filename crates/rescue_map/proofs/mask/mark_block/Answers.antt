use Rattle.std.proofs.Common.{◌+◌, ◌/◌, refl, arith}
use Rattle.rescue_map.proofs.Marking.{marks_other, marks_plus}
use Rattle.rescue_map.proofs.mask.mark_block.Goals as goal

pub returns-then-block-ne43 : goal.returns-then-block-ne43
returns-then-block-ne43 c = λ blocks marks. marks_other c.args.mask.now blocks c.args.from c.args.block c.if-block-ne43.true c.requires.some
    marks

pub returns : goal.returns
returns c = λ blocks marks.
    marks_plus c.args.mask.now c.mark.new.mask blocks c.args.from c.max-first.result
    ((c.args.block.start + c.args.block.size) / 1024) c.args.block c.if-block-ne43.false c.requires.some
    (let l = c.mark.auto.mask in omega arith) marks
    (record {
      after = (let up = c.div_ceil.ensures in let most = c.max-first.ensures in omega arith);
      not_before = λ q low reaches. (let up = c.div_ceil.ensures in let most = c.max-first.ensures in omega arith);
      end_is = refl;
    })
    c.mark.ensures
