use Rattle.std.proofs.Common.{◌++◌, chars, codes, rules}
use Rattle.message_text.specs.Printable.{printed_in}
use Rattle.qic_base.specs.SinkCalls.{Writes}
use Rattle.program_words.proofs.refusal.write_shown.Goals as goal

pub returns-clause-shown : goal.returns-clause-shown
returns-clause-shown g c = record { lines = c.args.stays; text = chars c.args.text.now; written = search rules }
