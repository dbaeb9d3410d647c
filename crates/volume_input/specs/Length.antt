-- What a number of bytes that are asked for says of the source, as its definitions take it (this project's own).
use Rattle.std.specs.Prelude.{Bool, true, false}
use Rattle.volume_input.specs.declared.length.Length.{Length}
use Rattle.volume_input.specs.declared.length.Length.TheVariants.{AtMost, Exact}

-- the source has to have so many
abbrev pub is_exact : Length → Bool
is_exact AtMost = false
is_exact Exact = true
