-- The record of the state table: all that a drive is in (this project's profile of QIC-117).
use Rattle.std.specs.Prelude.{ℕ, Bool, true, false, Option, is_some}
use Rattle.qic_base.specs.declared.tape.TapeInfo.{TapeInfo}
use Rattle.qic117_commands.specs.declared.view.Mode.TheVariants.{Primary}
use Rattle.drive_spec.specs.declared.deck.Deck.{Deck}
use Rattle.drive_spec.specs.declared.deck.Motion.TheVariants.{Stopped}
use Rattle.drive_spec.specs.declared.under_way.UnderWay.{UnderWay}
use Rattle.drive_spec.specs.declared.under_way.UnderWay.TheVariants.{Nothing}

-- what a typed drive holds (cartridge, mode, place, motion, error word and format segments), the pulses counted since the
-- last gap, the level that the last train left, and what is under way: a report's levels left to show, a parameter awaited
-- with what came of it, or nothing
pub record Record : Type 0 where
  pub deck : Deck
  pub train : ℕ
  pub line : Bool
  pub under_way : UnderWay

-- after the cartridge was put in
abbrev pub power_on : Option TapeInfo → Record
power_on cartridge =
    let deck : Deck = record {
      cartridge = cartridge;
      mode = Primary;
      at_load_point = true;
      track = 0;
      offset = 0;
      motion = Stopped;
      fresh = is_some cartridge;
      error = 0;
      format_segments = 0;
    } in
    record { deck = deck; train = 0; line = false; under_way = Nothing }
