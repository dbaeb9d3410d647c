use Rattle.std.proofs.Common.{[], refl, arith}
use Rattle.cart_image.proofs.Exits.{Carried-looked}
use Rattle.cart_image.proofs.Runs.{Looks-settled}
use Rattle.cart_image.proofs.Tapes.{Tape-done, Tape-broke, looks-done, looks-broke, tape-settled, looked-laid, head-laid-in, info-fact}
use Rattle.cart_image.proofs.Tapes.{info-size, no-plans, unknown-tape}
use Rattle.cart_image.proofs.tape.ImageTapeTape.info.Goals as goal

pub invariant_of-self : goal.invariant_of-self
invariant_of-self g c =
    let settled = Looks-settled c.in-Ok.ensures.looked (tape-settled c.args.self.now) in
    let fits = head-laid-in _ _ _ c.layout_by-self.ensures c.in-Ok.ensures.fits in
    record {
      settled = settled.only;
      shortest = λ l same. (fits l same).0;
      longest = λ l same. (fits l same).1;
      covers = λ l same. (fits l same).2;
      laid = looked-laid g.D.Disk.means _ _ _ _ c.in-Ok.ensures.looked c.in-Ok.ensures.head c.layout_by-self.ensures;
      right = λ states bytes none told. cc;
    }

pub invariant_of-self-in-Err : goal.invariant_of-self-in-Err
invariant_of-self-in-Err g c =
    let s = c.args.self.now in
    unknown-tape s _ c.read_head.result s refl c.in-Err.ensures.failed c.in-Err.ensures.looked.2.settled (λ bytes. []) (no-plans s)
    (Carried-looked g.D.Disk.means _ _ c.read_head.result c.read_head.ensures.looked)

pub returns-in-Ok-clause-did : goal.returns-in-Ok-clause-did
returns-in-Ok-clause-did g c = Tape-done _ _ [] (looks-done g.D.Disk.means _ _ (tape-settled c.args.self.now) c.in-Ok.ensures.looked) refl

pub returns-in-Ok-clause-info : goal.returns-in-Ok-clause-info
returns-in-Ok-clause-info g c = info-fact (g.D.Disk.means.told c.args.self.now.disk) _ _ c.info_by.ensures c.in-Ok.ensures.head

pub returns-in-Ok-clause-size : goal.returns-in-Ok-clause-size
returns-in-Ok-clause-size g c = info-size _ _ _ c.layout_by-self.ensures c.info_by.ensures

pub returns-in-Err-clause-did : goal.returns-in-Err-clause-did
returns-in-Err-clause-did g c = Tape-broke _ _ [] (looks-broke g.D.Disk.means _ _ (tape-settled c.args.self.now) c.in-Err.ensures.looked)
    c.saturating_add-self.ensures (omega arith)
