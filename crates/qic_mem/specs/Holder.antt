-- What a tape in memory holds: its cartridge, which stands in a list of views that may be longer, its size as told, and
-- its room in segments per track (this project's profile).
use Rattle.std.specs.Prelude.{ℕ, false, Option, Some, IfSome}
use Rattle.std.specs.Option.{option_map}
use Rattle.qic_base.specs.Cartridge.{Cartridge, IsLength}
use Rattle.qic_base.specs.Step.{Step, effect}
use Rattle.qic_base.specs.TapeCalls.{IsToldRight}
use Rattle.qic_mem.specs.declared.tape.holder.Holder.{Holder}
use Rattle.qic_mem.specs.Held.{held, size_told, size_told-fits, held-right}
use Rattle.qic_mem.specs.Outcome.{size_ended}

pub record HolderState : Type 0 where
  pub cartridge : Option Cartridge
  pub size : Option ℕ
  pub room : ℕ

unfoldable pub holder_state : Holder → HolderState
holder_state d = record { cartridge = held d.info d.sectors.views.items; size = size_told d.told d.info; room = d.room }

-- after a step that was done
abbrev pub made : HolderState → Step → HolderState
made d s = record d { cartridge = effect s d.cartridge; size = size_ended s false d.size }

-- after a look at the cartridge
abbrev pub looked_at : HolderState → HolderState
looked_at d = record d { size = option_map (λ c. c.info.segments_per_track) d.cartridge }

-- the laws of a tape, of what it holds
pub holder-size_fits : (d : Holder) → IfSome (holder_state d).size IsLength
unfolding holder_state
holder-size_fits d = size_told-fits d.told d.info d.room d.fits

pub holder-told_right : (d : Holder) → IsToldRight (Some (holder_state d).cartridge) (holder_state d).size
unfolding holder_state
holder-told_right d = held-right d.told d.info d.room d.sectors.views.items d.fits d.long d.sectors.whole
