use Rattle.std.proofs.Common.{map, string_bytes, arith}
use Rattle.std.proofs.lemmas.List.{length-map}
use Rattle.command_laws.proofs.CommandTable.{few_words}
use Rattle.tape_script.proofs.words.read_command.Goals as goal

pub returns-in-len4-up : goal.returns-in-len4-up
returns-in-len4-up c command h =
    let few = few_words (map string_bytes c.args.words.now) command h in
    let long = length-map c.args.words.now string_bytes in
    let many = c.in-len4-up.len_at_least in omega arith
