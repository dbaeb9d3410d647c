use Rattle.std.proofs.Common.{◌≡◌, ◌∙◌, ◌&&◌, refl}
use Rattle.qic117_commands.specs.StatusWord.{status_of}
use Rattle.qic117_commands.specs.Views.{is_stopped}
use Rattle.qic117_commands.proofs.Statuses.{put_all-sum_all, sameb-stopped}
use Rattle.qic117_commands.proofs.status.status_word.Goals as goal
use Rattle.qic117_commands.proofs.status.status_word.Goals.{then-view, else-view, then-view-2, else-view-2}

pub returns : goal.returns
unfolding status_of
returns c =
    let view = c.args.view.now in
    let stopped = c.eq.ensures ∙ sameb-stopped view.motion in
    let protected : c.if-view.set ≡ (view.present && view.protected) =
    elim c.if-view.branch [ then-view w ↦ rw (w.set-is, w.if-view.true) refl | else-view w ↦ rw (w.set-is, w.if-view.false) refl ] in
    let referenced : c.if-view-2.set ≡ (view.present && view.referenced) =
    elim c.if-view-2.branch [ then-view-2 w ↦ rw (w.set-is, w.if-view-2.true) refl | else-view-2 w ↦ rw (w.set-is, w.if-view-2.false) refl ]
    in
    rw (
      c.bits.ensures tt,
      c.set-8.ensures tt,
      c.set-7.ensures tt,
      c.set-6.ensures tt,
      c.set-5.ensures tt,
      c.set-4.ensures tt,
      c.set-3.ensures tt,
      c.set-2.ensures tt,
      c.set.ensures tt,
      c.empty-status.ensures tt,
      stopped,
      protected,
      referenced,
    )
    (put_all-sum_all (is_stopped view.motion) c.args.error view.present (view.present && view.protected) view.fresh
    (view.present && view.referenced) c.args.at_bot c.args.at_eot)
