-- Room for a cartridge of the greatest length (this project's profile).
use Rattle.std.specs.Prelude.{◌≡◌}
use Rattle.qic_base.specs.declared.TheConstants.{LONGEST}
use Rattle.qic_mem.specs.declared.tape.holder.Holder.{Holder}
use Rattle.qic_mem.specs.Holder.{holder_state}

abbrev pub HasLongest : Holder → Type 0
HasLongest holder = (holder_state holder).room ≡ LONGEST
