-- A mounted cartridge that stands for a plain one, whether its table reads or not (this project's own).
use Rattle.cartridge_spec.specs.Volumes.{Plain, Stands}
use Rattle.qic_base.specs.Cartridge.{Cartridge}
use Rattle.qic_base.specs.CartridgeTerms.{IsCartridge}

pub record IsHeld (c : Cartridge) (plain : Plain) : Type 0 where
  pub cartridge : IsCartridge c
  pub stands : Stands c plain
