use Rattle.std.proofs.Common.{◌≡◌, sym, ◌∙◌, arith}
use Rattle.tape_script.proofs.Texts.{trimmed-take-filler, trimmed-none}
use Rattle.command_laws.proofs.TextTrimmed.{trimmed-take-kept}
use Rattle.tape_script.proofs.text_line.trimmed_len.Goals as goal

pub loop-len-preserved : goal.loop-len-preserved
loop-len-preserved c = record {
  within = let w = c.loop-len.invariant.within in omega arith;
  trimmed_so_far = trimmed-take-filler c.args.bytes.now c.loop-len.len
      (let t = c.loop-len-test.true in omega arith) c.loop-len.invariant.within
      (sym c.is_filler.ensures ∙ c.if-is_filler.true) ∙ c.loop-len.invariant.trimmed_so_far;
}

pub returns-else-is_filler-clause-trimmed : goal.returns-else-is_filler-clause-trimmed
returns-else-is_filler-clause-trimmed c =
    trimmed-take-kept c.args.bytes.now c.loop-len.len (let t = c.loop-len-test.true in omega arith) c.loop-len.invariant.within
    (sym c.is_filler.ensures ∙ c.if-is_filler.false) ∙ c.loop-len.invariant.trimmed_so_far

pub returns-after-loop-len-clause-trimmed : goal.returns-after-loop-len-clause-trimmed
returns-after-loop-len-clause-trimmed c =
    let none : c.loop-len.len ≡ 0 = let t = c.loop-len-test.false in omega arith in
    rw none (sym trimmed-none ∙ (rw none at c.loop-len.invariant.trimmed_so_far))
