-- What it tells of a drive that no row refuses a command, and where none does.
use Rattle.std.proofs.Common.{◌≡◌, Bool, true, false, not, ◌&&◌, List, [], ◌∷◌, Option, Some, None, find, option_map, refl}
use Rattle.qic117_commands.specs.declared.command.Command.{Command}
use Rattle.qic117_commands.specs.declared.command.Command.TheVariants.{WriteReference, StopTape, EnterPrimary, SetFormatSegments}
use Rattle.qic117_commands.specs.declared.view.DriveView.{DriveView}
use Rattle.qic117_commands.specs.declared.view.Mode.TheVariants.{Format}
use Rattle.qic117_commands.specs.declared.view.Motion.TheVariants.{Stopped}
use Rattle.qic117_commands.specs.Refusals.{Row, refusal_rows, first_refusal, is_unsupported, is_diagnostic, needs_cartridge, waits_for_seek}
use Rattle.qic117_commands.specs.Refusals.{waits_for_stop, illegal_in_primary, illegal_in_format, illegal_in_verify, needs_writable}
use Rattle.qic117_commands.specs.Refusals.{needs_known_cartridge, needs_reference, needs_logical_bot}
use Rattle.qic117_commands.specs.RefusalTerms.{refuses}
use Rattle.qic117_commands.specs.Views.{is_streaming, is_seeking, is_primary, is_format, is_verify}

-- no row refuses
pub record IsTaken (v : DriveView) (c : Command) : Type 0 where
  pub present : needs_cartridge c && not v.present ≡ false
  pub seeks : waits_for_seek c && is_seeking v.motion ≡ false
  pub streams : waits_for_stop c && is_streaming v.motion ≡ false
  pub primary : illegal_in_primary c && is_primary v.mode ≡ false
  pub format : illegal_in_format c && is_format v.mode ≡ false
  pub verify : illegal_in_verify c && is_verify v.mode ≡ false

unmapped : {A B : Type 0} (f : A → B) (o : Option A) → option_map f o ≡ None → o ≡ None
unmapped f None e = refl
unmapped f (Some x) e = cc

-- of none of the list the test is true
abbrev AllNot : {A : Type 0} → (A → Bool) → List A → Type 0
AllNot p [] = Unit {0}
AllNot p (x ∷ xs) = (p x ≡ false) × AllNot p xs

all_not : {A : Type 0} (p : A → Bool) (xs : List A) → find p xs ≡ None → AllNot p xs
all_not p [] e = tt
all_not p (x ∷ xs) e = by_test (p x) refl (all_not p xs)
  where
    by_test : (b : Bool) → p x ≡ b → (find p xs ≡ None → AllNot p xs) → (p x ≡ false) × AllNot p xs
    by_test true h rest = let found : Some x ≡ None = rw h at e in cc
    by_test false h rest = let others : find p xs ≡ None = rw h at e in (h, rest others)

pub is_taken : (v : DriveView) (c : Command) → first_refusal v c ≡ None → IsTaken v c
unfolding first_refusal
is_taken v c none =
    let unfound : find (refuses v c) refusal_rows ≡ None = unmapped (λ (row : Row). row.code) (find (refuses v c) refusal_rows) none in
    let rows = all_not (refuses v c) refusal_rows unfound in
    record {
      present = rows.1.1.0;
      seeks = rows.1.1.1.0;
      streams = rows.1.1.1.1.0;
      primary = rows.1.1.1.1.1.0;
      format = rows.1.1.1.1.1.1.0;
      verify = rows.1.1.1.1.1.1.1.0;
    }

-- a cartridge that is there may be stopped, where the drive does not seek
pub stop_taken : (v : DriveView) → v.present ≡ true → is_seeking v.motion ≡ false → first_refusal v StopTape ≡ None
unfolding first_refusal is_unsupported is_diagnostic needs_cartridge waits_for_seek waits_for_stop illegal_in_primary illegal_in_format
    illegal_in_verify needs_writable needs_known_cartridge needs_reference needs_logical_bot
stop_taken v there stands = rw (there, stands) refl

-- where the tape is stopped, a cartridge that is there allows Primary mode, ..
pub primary_taken : (v : DriveView) → v.present ≡ true → v.motion ≡ Stopped → first_refusal v EnterPrimary ≡ None
unfolding first_refusal is_unsupported is_diagnostic needs_cartridge waits_for_seek waits_for_stop illegal_in_primary illegal_in_format
    illegal_in_verify needs_writable needs_known_cartridge needs_reference needs_logical_bot
primary_taken v there stopped = rw (there, stopped) refl

-- .. and in Format mode the reference bursts and another number of segments
pub reference_taken : (v : DriveView) → v.present ≡ true → v.motion ≡ Stopped → v.mode ≡ Format → first_refusal v WriteReference ≡ None
unfolding first_refusal is_unsupported is_diagnostic needs_cartridge waits_for_seek waits_for_stop illegal_in_primary illegal_in_format
    illegal_in_verify needs_writable needs_known_cartridge needs_reference needs_logical_bot
reference_taken v there stopped formats = rw (there, stopped, formats) refl

pub segments_taken : (v : DriveView) → v.present ≡ true → v.motion ≡ Stopped → v.mode ≡ Format → first_refusal v SetFormatSegments ≡ None
unfolding first_refusal is_unsupported is_diagnostic needs_cartridge waits_for_seek waits_for_stop illegal_in_primary illegal_in_format
    illegal_in_verify needs_writable needs_known_cartridge needs_reference needs_logical_bot
segments_taken v there stopped formats = rw (there, stopped, formats) refl
