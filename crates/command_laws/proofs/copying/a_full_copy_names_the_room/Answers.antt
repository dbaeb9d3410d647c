use Rattle.command_laws.proofs.CopyRoom.{full_answer_names_room, full_copy_names_room}
use Rattle.command_laws.proofs.copying.a_full_copy_names_the_room.Goals as goal

pub returns-clause-outcome : goal.returns-clause-outcome
returns-clause-outcome g c = full_copy_names_room

pub returns-clause-answer : goal.returns-clause-answer
returns-clause-answer g c = full_answer_names_room g.A.Tape.means g.B.Tape.means g.K.Sink.means
