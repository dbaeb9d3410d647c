use Rattle.cart_image.proofs.Tapes.{open-settled}
use Rattle.cart_image.proofs.tape.ImageTape.open.Goals as goal

pub invariant_of-result : goal.invariant_of-result
invariant_of-result g c =
    let settled = open-settled g.D.Disk.means c.args.disk (g.met.D.Disk.told_right c.args.disk) c.requires.settled in
    record {
      settled = settled.only;
      shortest = λ l none. cc;
      longest = λ l none. cc;
      covers = λ l none. cc;
      laid = λ l bytes none told. cc;
      right = λ states bytes none told. cc;
    }
