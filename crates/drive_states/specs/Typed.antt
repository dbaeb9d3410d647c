-- What the typed states say of a drive, and what its transitions answer.
use Rattle.std.specs.Prelude.{◌≡◌, ◌&&◌, Bool, true, false, [], ◌∷◌, Some, None, if◌then◌else◌}
use Rattle.qic_base.specs.Step.{SetReferenced}
use Rattle.qic_base.specs.Tape.{Meaning, Done, Broke}
use Rattle.qic117_commands.specs.declared.command.Command.{Command}
use Rattle.qic117_commands.specs.declared.command.Command.TheVariants.{WriteReference, SkipReverse, SkipForward}
use Rattle.qic117_commands.specs.declared.error_code.ErrorCode.{ErrorCode}
use Rattle.qic117_commands.specs.declared.view.Mode.{Mode}
use Rattle.qic117_commands.specs.declared.view.Mode.TheVariants.{Primary}
use Rattle.qic117_commands.specs.Views.{is_primary}
use Rattle.drive_spec.specs.declared.deck.Deck.{Deck}
use Rattle.drive_spec.specs.declared.deck.Motion.{Motion}
use Rattle.drive_spec.specs.declared.deck.Motion.TheVariants.{Stopped, Streaming, Seeking}
use Rattle.drive_spec.specs.Terms.{refusal_of}
use Rattle.drive_states.specs.Unit.{DeckAndTape}

abbrev pub is_seeking : Motion → Bool
is_seeking Stopped = false
is_seeking (Streaming next) = false
is_seeking (Seeking left) = true

-- what a typed state is: a mode, whether the drive stands at the load point or seeks it, and whether it seeks
pub record TypedState : Type 0 where
  pub mode : Mode
  pub at_load_point : Bool
  pub seeks : Bool

-- the deck is in that state
pub record IsIn (state : TypedState) (d : Deck) : Type 0 where
  pub mode : d.mode ≡ state.mode
  pub at_load_point : d.at_load_point ≡ state.at_load_point
  pub seeks : is_seeking d.motion ≡ state.seeks

-- where a drive is that has left the load point, ..
abbrev pub moved : TypedState → TypedState
moved state = record state { at_load_point = false }

-- .. that has sought the start of track 0, ..
abbrev pub at_start : TypedState → TypedState
at_start state = record state { at_load_point = is_primary state.mode }

-- .. that was reset, and that seeks
abbrev pub after_reset : TypedState → TypedState
after_reset state = record {
  mode = Primary;
  at_load_point = is_primary state.mode && state.at_load_point;
  seeks = false;
}

abbrev pub seeking : TypedState → TypedState
seeking state = record state { seeks = true }

-- no row refused the command, and this is the deck after it; the tape is the same
pub record Obeyed {T : Type 0} (old new : DeckAndTape T) (command : Command) (after : Deck) : Type 0 where
  pub taken : refusal_of old.deck command ≡ None
  pub drive : new ≡ record old { deck = after }

-- a row refused the command with this code, and the drive is handed back unchanged
pub record Refuses {T : Type 0} (old back : DeckAndTape T) (command : Command) (code : ErrorCode) : Type 0 where
  pub refused : refusal_of old.deck command ≡ Some code
  pub unchanged : back ≡ old

-- the reference bursts were written, in a drive that no row refused that, or were not, for a fault of the tape
pub record References {T : Type 0} (m : Meaning T) (old new : DeckAndTape T) (after : Deck) : Type 0 where
  pub size : m.size new.tape ≡ m.size old.tape
  pub taken : refusal_of old.deck WriteReference ≡ None
  pub deck : new.deck ≡ after
  pub tape : Done m old.tape new.tape (SetReferenced ∷ [])

pub record FailsToReference {T : Type 0} (m : Meaning T) (old new : DeckAndTape T) (after : Deck) : Type 0 where
  pub size : m.size new.tape ≡ m.size old.tape
  pub taken : refusal_of old.deck WriteReference ≡ None
  pub deck : new.deck ≡ after
  pub tape : Broke m old.tape new.tape (SetReferenced ∷ [])

-- the command of a skip
abbrev pub skip_command : (forward : Bool) → Command
skip_command forward = if forward then SkipForward else SkipReverse
