use Rattle.std.proofs.Common.{[], ◌∷◌, refl, arith}
use Rattle.qic_base.specs.Step.{Renew}
use Rattle.cart_image.proofs.Tapes.{Tape-done, Tape-broke, renew-outcome, new-laid, same-layout}
use Rattle.cart_image.proofs.Exits.{changes-stood}
use Rattle.cart_image.proofs.tape.ImageTapeTape.renew.Goals as goal

pub invariant_of-self : goal.invariant_of-self
invariant_of-self g c =
    let settled = c.in-Ok.ensures.settled in
    record {
      settled = settled.only;
      shortest = λ l same. (same-layout c.args.segments_per_track l _ c.requires c.in-Ok.ensures.seen same).0;
      longest = λ l same. (same-layout c.args.segments_per_track l _ c.requires c.in-Ok.ensures.seen same).1;
      covers = λ l same. (same-layout c.args.segments_per_track l _ c.requires c.in-Ok.ensures.seen same).2;
      laid = new-laid g.D.Disk.means c.args.self.now.disk _ c.args.segments_per_track c.requires _ _ refl c.in-Ok.ensures.carried;
      right = λ states bytes none told. cc;
    }

pub invariant_of-self-in-Err : goal.invariant_of-self-in-Err
invariant_of-self-in-Err g c =
    let settled = c.in-Err.ensures.settled in
    record {
      settled = settled.only;
      shortest = λ l none. cc;
      longest = λ l none. cc;
      covers = λ l none. cc;
      laid = λ l bytes none told. cc;
      right = λ states bytes none told. cc;
    }

pub returns-in-Ok-clause-did : goal.returns-in-Ok-clause-did
returns-in-Ok-clause-did g c = Tape-done _ _ (Renew c.args.segments_per_track ∷ [])
    (renew-outcome c.args.self.now _ _ c.args.segments_per_track c.requires c.in-Ok.ensures.carried) refl

pub returns-in-Err-clause-did : goal.returns-in-Err-clause-did
returns-in-Err-clause-did g c = Tape-broke _ _ (Renew c.args.segments_per_track ∷ [])
    (renew-outcome c.args.self.now _ _ c.args.segments_per_track c.requires c.in-Err.ensures.carried) c.saturating_add-self.ensures
    (omega arith)

pub returns-in-Ok-clause-changes : goal.returns-in-Ok-clause-changes
returns-in-Ok-clause-changes g c = changes-stood g.D.Disk.means _ _ _ _ c.in-Ok.ensures.carried
