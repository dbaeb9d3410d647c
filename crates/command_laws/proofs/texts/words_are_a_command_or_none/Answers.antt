use Rattle.command_laws.proofs.TextWords.{each_words}
use Rattle.command_laws.proofs.texts.words_are_a_command_or_none.Goals as goal

pub returns : goal.returns
returns c = each_words
