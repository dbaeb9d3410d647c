use Rattle.std.proofs.Common.{refl, ap, Err}
use Rattle.silent_locate.proofs.Outcomes.{answers_agrees, answers_many, wrong_after, none_after}
use Rattle.silent_locate.proofs.locate.Goals as goal

pub returns-in-Ok-clause-agrees : goal.returns-in-Ok-clause-agrees
returns-in-Ok-clause-agrees c =
    (answers_agrees c.lost_among-lost.result c.args.lost c.args.sectors.now c.solve.new.sectors c.lost_among-lost.ensures
    c.requires.most (c.in-Ok.ensures.solved.0 refl).0 c.in-Ok.ensures.block c.in-Ok.ensures.others).agrees

pub returns-in-Ok-clause-wrong : goal.returns-in-Ok-clause-wrong
returns-in-Ok-clause-wrong c =
    (answers_agrees c.lost_among-lost.result c.args.lost c.args.sectors.now c.solve.new.sectors c.lost_among-lost.ensures
    c.requires.most (c.in-Ok.ensures.solved.0 refl).0 c.in-Ok.ensures.block c.in-Ok.ensures.others).wrong

pub returns-in-Ok-clause-too_many : goal.returns-in-Ok-clause-too_many
returns-in-Ok-clause-too_many c =
    (answers_agrees c.lost_among-lost.result c.args.lost c.args.sectors.now c.solve.new.sectors c.lost_among-lost.ensures
    c.requires.most (c.in-Ok.ensures.solved.0 refl).0 c.in-Ok.ensures.block c.in-Ok.ensures.others).too_many

pub returns-in-Ok-clause-mismatch : goal.returns-in-Ok-clause-mismatch
returns-in-Ok-clause-mismatch c =
    (answers_agrees c.lost_among-lost.result c.args.lost c.args.sectors.now c.solve.new.sectors c.lost_among-lost.ensures
    c.requires.most (c.in-Ok.ensures.solved.0 refl).0 c.in-Ok.ensures.block c.in-Ok.ensures.others).mismatch

pub returns-in-Err-TooMany-clause-agrees : goal.returns-in-Err-TooMany-clause-agrees
returns-in-Err-TooMany-clause-agrees c =
    (answers_many c.lost_among-lost.result c.args.lost c.in-Err-TooMany.lost c.args.sectors.now c.solve.new.sectors
    c.lost_among-lost.ensures c.requires.most
    ((c.in-Err-TooMany.ensures.too_many c.in-Err-TooMany.lost).0 (ap Err c.in-Err-TooMany.field-0-is)).0
    ((c.in-Err-TooMany.ensures.too_many c.in-Err-TooMany.lost).0 (ap Err c.in-Err-TooMany.field-0-is)).1).agrees

pub returns-in-Err-TooMany-clause-wrong : goal.returns-in-Err-TooMany-clause-wrong
returns-in-Err-TooMany-clause-wrong c =
    (answers_many c.lost_among-lost.result c.args.lost c.in-Err-TooMany.lost c.args.sectors.now c.solve.new.sectors
    c.lost_among-lost.ensures c.requires.most
    ((c.in-Err-TooMany.ensures.too_many c.in-Err-TooMany.lost).0 (ap Err c.in-Err-TooMany.field-0-is)).0
    ((c.in-Err-TooMany.ensures.too_many c.in-Err-TooMany.lost).0 (ap Err c.in-Err-TooMany.field-0-is)).1).wrong

pub returns-in-Err-TooMany-clause-too_many : goal.returns-in-Err-TooMany-clause-too_many
returns-in-Err-TooMany-clause-too_many c =
    (answers_many c.lost_among-lost.result c.args.lost c.in-Err-TooMany.lost c.args.sectors.now c.solve.new.sectors
    c.lost_among-lost.ensures c.requires.most
    ((c.in-Err-TooMany.ensures.too_many c.in-Err-TooMany.lost).0 (ap Err c.in-Err-TooMany.field-0-is)).0
    ((c.in-Err-TooMany.ensures.too_many c.in-Err-TooMany.lost).0 (ap Err c.in-Err-TooMany.field-0-is)).1).too_many

pub returns-in-Err-TooMany-clause-mismatch : goal.returns-in-Err-TooMany-clause-mismatch
returns-in-Err-TooMany-clause-mismatch c =
    (answers_many c.lost_among-lost.result c.args.lost c.in-Err-TooMany.lost c.args.sectors.now c.solve.new.sectors
    c.lost_among-lost.ensures c.requires.most
    ((c.in-Err-TooMany.ensures.too_many c.in-Err-TooMany.lost).0 (ap Err c.in-Err-TooMany.field-0-is)).0
    ((c.in-Err-TooMany.ensures.too_many c.in-Err-TooMany.lost).0 (ap Err c.in-Err-TooMany.field-0-is)).1).mismatch

pub returns-in-Some-clause-agrees : goal.returns-in-Some-clause-agrees
returns-in-Some-clause-agrees c =
    (wrong_after c.lost_among-lost.result c.args.lost c.in-Some.place c.args.sectors.now c.solve.new.sectors c.mend_one.new.sectors
    c.lost_among-lost.ensures c.requires.most c.in-Err-Mismatch.ensures.unchanged c.in-Some.ensures.few
    (c.in-Err-Mismatch.ensures.mismatch.0 (ap Err c.in-Err-Mismatch.field-0-is)).1
    c.in-Some.ensures.block c.in-Some.ensures.others).agrees

pub returns-in-Some-clause-wrong : goal.returns-in-Some-clause-wrong
returns-in-Some-clause-wrong c =
    (wrong_after c.lost_among-lost.result c.args.lost c.in-Some.place c.args.sectors.now c.solve.new.sectors c.mend_one.new.sectors
    c.lost_among-lost.ensures c.requires.most c.in-Err-Mismatch.ensures.unchanged c.in-Some.ensures.few
    (c.in-Err-Mismatch.ensures.mismatch.0 (ap Err c.in-Err-Mismatch.field-0-is)).1
    c.in-Some.ensures.block c.in-Some.ensures.others).wrong

pub returns-in-Some-clause-too_many : goal.returns-in-Some-clause-too_many
returns-in-Some-clause-too_many c =
    (wrong_after c.lost_among-lost.result c.args.lost c.in-Some.place c.args.sectors.now c.solve.new.sectors c.mend_one.new.sectors
    c.lost_among-lost.ensures c.requires.most c.in-Err-Mismatch.ensures.unchanged c.in-Some.ensures.few
    (c.in-Err-Mismatch.ensures.mismatch.0 (ap Err c.in-Err-Mismatch.field-0-is)).1
    c.in-Some.ensures.block c.in-Some.ensures.others).too_many

pub returns-in-Some-clause-mismatch : goal.returns-in-Some-clause-mismatch
returns-in-Some-clause-mismatch c =
    (wrong_after c.lost_among-lost.result c.args.lost c.in-Some.place c.args.sectors.now c.solve.new.sectors c.mend_one.new.sectors
    c.lost_among-lost.ensures c.requires.most c.in-Err-Mismatch.ensures.unchanged c.in-Some.ensures.few
    (c.in-Err-Mismatch.ensures.mismatch.0 (ap Err c.in-Err-Mismatch.field-0-is)).1
    c.in-Some.ensures.block c.in-Some.ensures.others).mismatch

pub returns-in-None-clause-agrees : goal.returns-in-None-clause-agrees
returns-in-None-clause-agrees c =
    (none_after c.lost_among-lost.result c.args.lost c.args.sectors.now c.solve.new.sectors c.mend_one.new.sectors
    c.lost_among-lost.ensures c.requires.most c.in-Err-Mismatch.ensures.unchanged
    (c.in-Err-Mismatch.ensures.mismatch.0 (ap Err c.in-Err-Mismatch.field-0-is)).0
    (c.in-Err-Mismatch.ensures.mismatch.0 (ap Err c.in-Err-Mismatch.field-0-is)).1 c.in-None.ensures.none).agrees

pub returns-in-None-clause-wrong : goal.returns-in-None-clause-wrong
returns-in-None-clause-wrong c =
    (none_after c.lost_among-lost.result c.args.lost c.args.sectors.now c.solve.new.sectors c.mend_one.new.sectors
    c.lost_among-lost.ensures c.requires.most c.in-Err-Mismatch.ensures.unchanged
    (c.in-Err-Mismatch.ensures.mismatch.0 (ap Err c.in-Err-Mismatch.field-0-is)).0
    (c.in-Err-Mismatch.ensures.mismatch.0 (ap Err c.in-Err-Mismatch.field-0-is)).1 c.in-None.ensures.none).wrong

pub returns-in-None-clause-too_many : goal.returns-in-None-clause-too_many
returns-in-None-clause-too_many c =
    (none_after c.lost_among-lost.result c.args.lost c.args.sectors.now c.solve.new.sectors c.mend_one.new.sectors
    c.lost_among-lost.ensures c.requires.most c.in-Err-Mismatch.ensures.unchanged
    (c.in-Err-Mismatch.ensures.mismatch.0 (ap Err c.in-Err-Mismatch.field-0-is)).0
    (c.in-Err-Mismatch.ensures.mismatch.0 (ap Err c.in-Err-Mismatch.field-0-is)).1 c.in-None.ensures.none).too_many

pub returns-in-None-clause-mismatch : goal.returns-in-None-clause-mismatch
returns-in-None-clause-mismatch c =
    (none_after c.lost_among-lost.result c.args.lost c.args.sectors.now c.solve.new.sectors c.mend_one.new.sectors
    c.lost_among-lost.ensures c.requires.most c.in-Err-Mismatch.ensures.unchanged
    (c.in-Err-Mismatch.ensures.mismatch.0 (ap Err c.in-Err-Mismatch.field-0-is)).0
    (c.in-Err-Mismatch.ensures.mismatch.0 (ap Err c.in-Err-Mismatch.field-0-is)).1 c.in-None.ensures.none).mismatch
