use Rattle.std.proofs.Common.{arith}
use Rattle.rescue_map.proofs.Cutting.{push_second, push_third, push_more}
use Rattle.rescue_map.proofs.words.LineWords.push.Goals as goal

pub returns-in-1 : goal.returns-in-1
returns-in-1 c = λ list bytes are is. push_second c.args.self.now c.args.word list bytes are c.in-1.is is

pub returns-in-2 : goal.returns-in-2
returns-in-2 c = λ list bytes are is. push_third c.args.self.now c.args.word list bytes are c.in-2.is is

pub returns-in_default : goal.returns-in_default
returns-in_default c = λ list bytes are is. push_more c.args.self.now list bytes are (omega arith)
