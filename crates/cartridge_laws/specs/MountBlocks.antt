-- A sector that holds its part of the table, and a cartridge of which nothing but the table's segment changed (this
-- project's profile).
use Rattle.std.specs.Prelude.{◌≡◌, ℕ, List, ◌≢◌, ◌<◌}
use Rattle.cartridge_spec.specs.TableSegment.{TableIs}
use Rattle.cartridge_spec.specs.Says.{with_parity}
use Rattle.cartridge_spec.specs.Shape.{sector_at}
use Rattle.qic_base.specs.Cartridge.{Cartridge, view_at}
use Rattle.qic_base.specs.declared.tape.SectorView.TheVariants.{Holds}

-- sector i of segment 2 holds its part of these data and their parity
abbrev pub HoldsPart : Cartridge → (area : List (List ℕ)) → (i : ℕ) → Type 0
HoldsPart c area i = view_at c 2 i ≡ Holds (sector_at (with_parity area) i)

-- all but the table's segment is as it was, and that says these data
pub record KeepsTable (area : List (List ℕ)) (c d : Cartridge) : Type 0 where
  pub info : d.info ≡ c.info
  pub others : (segment sector : ℕ) → sector < 32 → segment ≢ 2 → view_at d segment sector ≡ view_at c segment sector
  pub table : TableIs d area
