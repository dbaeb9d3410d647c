-- A segment that loses data (QIC-80-MC: 29 sectors of data, and three of parity behind them).
use Rattle.std.specs.Prelude.{ℕ, ◌<◌}
use Rattle.qic_base.specs.CartridgeTerms.{IsLost}

-- one of its data sectors is among these places
pub record LosesData (lost : ℕ) : Type 0 where
  pub place : ℕ
  pub data_sector : place < 29
  pub is_lost : IsLost lost place
