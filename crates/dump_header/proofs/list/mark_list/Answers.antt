use Rattle.std.proofs.Common.{sym, ◌∙◌, arith}
use Rattle.dump_header.proofs.Entries.{list_next, list_end, entry_some, entry_none, entry_cut}
use Rattle.dump_header.proofs.list.mark_list.Goals as goal

pub loop-at-preserved : goal.loop-at-preserved
loop-at-preserved c = record {
  far = list_next c.args.area.now c.args.offset c.loop-at.at _ c.args.words.now c.loop-at.words c.mark_entry.new.words c.loop-at.auto.words
      (entry_some c.args.area.now c.loop-at.at c.told-area c.requires.sectors (omega arith)
      (λ e. c.if-entry-eq0.false (c.entry_at-entry.ensures.entry ∙ e)))
      (rw c.entry_at-entry.ensures.entry at c.mark_entry.ensures) c.loop-at.invariant.far;
  within = omega arith;
}

pub returns-then-entry-eq0 : goal.returns-then-entry-eq0
returns-then-entry-eq0 c =
    list_end c.args.area.now c.args.offset c.loop-at.at c.args.words.now c.loop-at.words
    (entry_none c.args.area.now c.loop-at.at c.told-area c.requires.sectors (omega arith)
    (sym c.entry_at-entry.ensures.entry ∙ c.if-entry-eq0.true)) c.loop-at.invariant.far

pub returns : goal.returns
returns c =
    list_end c.args.area.now c.args.offset c.loop-at.at c.args.words.now c.loop-at.words
    (entry_cut c.args.area.now c.loop-at.at c.told-area c.requires.sectors (omega arith)) c.loop-at.invariant.far
