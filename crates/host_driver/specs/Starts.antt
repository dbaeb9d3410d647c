-- What the start of a host leaves (this project's own).
use Rattle.std.specs.Prelude.{◌≡◌, ℕ, Bool, false, true, [], Option, Some, None, IfSome, Result, Ok, Err}
use Rattle.std.specs.Option.{option_map}
use Rattle.qic_base.specs.Tape.{Meaning, Done, Broke}
use Rattle.qic_base.specs.declared.tape.TapeFailed.{TapeFailed}
use Rattle.qic_base.specs.declared.tape.TapeInfo.{TapeInfo}
use Rattle.drive_spec.specs.Terms.{power_on_deck}
use Rattle.drive_spec.specs.Record.{Record, power_on}
use Rattle.drive_states.specs.Unit.{UnitView}
use Rattle.host_driver.specs.declared.host.Host.{Host}
use Rattle.qic_base.specs.Cartridge.{info_of}

-- the drive of a host that has read its status, its error word and its format segments
abbrev pub started_drive : Option TapeInfo → Record
started_drive cartridge = record (power_on cartridge) { deck = record (power_on_deck cartridge) { fresh = false }; line = true }

-- a host that has learnt a cartridge's length and its marks
abbrev pub started_host : (segments : ℕ) (protected referenced : Bool) → Host
started_host segments protected referenced = record {
  geometry = segments;
  deck = record (power_on_deck (Some record { segments_per_track = segments; protected = protected; referenced = referenced }))
      { fresh = false };
  awaited = None;
}

-- what a start did, by its answer
abbrev pub Starts : {T : Type 0} (m : Meaning T) (old new : UnitView T) → Result (Option Host) TapeFailed → Type 0
Starts m old new (Ok (Some host)) = (new.drive ≡ started_drive new.drive.deck.cartridge) × Done m old.tape new.tape []
Starts m old new (Ok None) = (new.drive ≡ record (power_on None) { line = true }) × Done m old.tape new.tape []
Starts m old new (Err failed) = (new.drive ≡ power_on None) × Broke m old.tape new.tape []

-- where the tape tells what it holds, the drive knows just that
abbrev pub KnowsTold : {T : Type 0} (m : Meaning T) → UnitView T → Type 0
KnowsTold m u = IfSome (m.told u.tape) (λ there. u.drive.deck.cartridge ≡ info_of there)

-- the tape's size is that of what the drive knows
abbrev pub KnowsSize : {T : Type 0} (m : Meaning T) → UnitView T → Type 0
KnowsSize m u = m.size u.tape ≡ option_map (λ info. info.segments_per_track) u.drive.deck.cartridge
