use Rattle.dump_reader.proofs.cursor.Cursor.not_behind.Goals as goal

pub returns-then-segment-self-clause-placed : goal.returns-then-segment-self-clause-placed
returns-then-segment-self-clause-placed c = λ laid was. c.new.ensures.placed laid
