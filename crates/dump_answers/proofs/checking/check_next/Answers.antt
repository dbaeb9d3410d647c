use Rattle.segment_salvage.specs.Finding.{told}
use Rattle.dump_answers.proofs.Finding.{few_more}
use Rattle.dump_answers.proofs.checking.check_next.Goals as goal

pub returns-in-Ok-clause-few : goal.returns-in-Ok-clause-few
returns-in-Ok-clause-few g c =
    few_more c.args.counts.now c.count.new.self c.args.segment (told c.in-Ok-Some.finding) c.count.ensures c.requires.few

pub returns-in-Err-write_finding-clause-few : goal.returns-in-Err-write_finding-clause-few
returns-in-Err-write_finding-clause-few g c =
    few_more c.args.counts.now c.count.new.self c.args.segment (told c.in-Ok-Some.finding) c.count.ensures c.requires.few
