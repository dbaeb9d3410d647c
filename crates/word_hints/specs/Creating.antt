-- Which commands make the file of an image that isn't there (this project's own).
use Rattle.command_spec.specs.declared.words.Words.{Words}
use Rattle.command_spec.specs.declared.words.Words.TheVariants as words

-- the two that need no cartridge
abbrev pub Creates : Words → Type 0
Creates (words.New segments) = Unit {0}
Creates words.Pulses = Unit {0}
Creates other = ⊥
