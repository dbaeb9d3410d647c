use Rattle.std.proofs.Common.{◌+◌, ◌∷◌, drop, arith}
use Rattle.command_laws.specs.Inputs.{words_of}
use Rattle.tape_script.proofs.Splits.{some_word, longer}
use Rattle.tape_script.proofs.Forms.{line_length}
use Rattle.tape_script.proofs.line.read_fourth.Goals as goal

pub returns-else-end-text : goal.returns-else-end-text
returns-else-end-text c line h =
    let more = longer c.args.text.now c.word_end-end.result c.word_end-end.ensures.within c.if-end-text.false c.word_end-end.ensures.words
    in
    let last = some_word (drop (c.word_end-end.result + 1) c.args.text.now) in
    let few = line_length (c.args.first.now ∷ c.args.second.now ∷ c.args.third.now ∷ words_of c.args.text.now) line h in omega arith
