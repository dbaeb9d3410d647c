use Rattle.std.proofs.Common.{ℕ, ◌+◌, Bool, sym, subst, ◌∙◌, arith}
use Rattle.std.proofs.Math.Pow.{pow-lt}
use Rattle.dump_reader.proofs.SetsBelow.{IsSetBelow, set_none, set_more, set_same}
use Rattle.dump_reader.specs.Piece.{is_unread}
use Rattle.dump_reader.proofs.piece.unread_sectors.Goals as goal
use Rattle.dump_reader.proofs.piece.unread_sectors.Goals.{then-is_unread, else-is_unread}

pub loop-index-init : goal.loop-index-init
loop-index-init c =
    let test : ℕ → Bool = is_unread c.args.rescued.now c.args.start c.args.held in
    subst (λ (set : ℕ). IsSetBelow set 0 test) (sym c.from_mask-unread.ensures) (set_none test)

pub loop-index-preserved : goal.loop-index-preserved
loop-index-preserved c =
    let index : ℕ = c.loop-index.index in
    let test : ℕ → Bool = is_unread c.args.rescued.now c.args.start c.args.held in
    elim c.if-is_unread.branch [
      | then-is_unread w ↦
          subst (λ (set : ℕ). IsSetBelow set (index + 1) test) (sym w.unread-is)
          (set_more c.loop-index.unread w.with_place-unread.result index test c.loop-index.invariant
          (sym c.is_unread.ensures ∙ w.if-is_unread.true)
          w.with_place-unread.ensures.more w.with_place-unread.ensures.others
          (w.with_place-unread.ensures.below (index + 1) (omega arith)
          (omega (arith, c.loop-index.invariant.within, pow-lt {i = index} {j = index + 1} (omega arith)))))
      | else-is_unread w ↦
          subst (λ (set : ℕ). IsSetBelow set (index + 1) test) (sym w.unread-is)
          (set_same c.loop-index.unread index test c.loop-index.invariant (sym c.is_unread.ensures ∙ w.if-is_unread.false))
    ]

pub returns : goal.returns
returns c = λ index low. c.loop-index.invariant.each index (omega arith)
