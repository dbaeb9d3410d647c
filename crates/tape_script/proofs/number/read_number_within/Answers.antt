use Rattle.std.proofs.Common.{◌≡◌, arith}
use Rattle.command_laws.proofs.TextDecimals.{one_number}
use Rattle.tape_script.proofs.number.read_number_within.Goals as goal

pub returns-in_default : goal.returns-in_default
returns-in_default c n spelled =
    let same : c.in-Some.number ≡ n = one_number c.args.word.now c.in-Some.number n c.in-Some.ensures spelled.0 in
    let bound = spelled.2 in omega arith

pub returns-in_default-2 : goal.returns-in_default-2
returns-in_default-2 c n spelled =
    let same : c.in-Some.number ≡ n = one_number c.args.word.now c.in-Some.number n c.in-Some.ensures spelled.0 in
    let bound = spelled.1 in omega arith
