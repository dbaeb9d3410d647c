use Rattle.std.proofs.Common.{Option, subst}
use Rattle.command_spec.specs.declared.refusal.Refusal.{Refusal}
use Rattle.volume_script.specs.Refusing.{RepliesIf}
use Rattle.volume_script.proofs.replies.reply_refused.Goals as goal

pub returns-in-Some : goal.returns-in-Some
returns-in-Some g c =
    subst (λ (o : Option Refusal). RepliesIf g.K.Sink.means c.args.sink.now c.write_refusal.new.sink c.args.fault o c.replied.result)
    c.in-Some.ensures
    (record { written = c.write_refusal.result; wrote = c.write_refusal.ensures; answered = c.replied.ensures })
