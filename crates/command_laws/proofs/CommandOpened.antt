-- How a command goes on that has mounted a cartridge: the settling, and then its acts.
use Rattle.std.proofs.Common.{List, []}
use Rattle.qic_base.specs.Acts.{Act}
use Rattle.qic_base.specs.Step.{Step as TapeStep}

-- the act of some steps, without a text
abbrev pub quiet : List TapeStep → Act
quiet steps = record { steps = steps; text = [] }
