-- What a drive in whatever state does.
use Rattle.std.proofs.Common.{◌≡◌, ℕ, Bool, true, false, List, [], ◌∷◌, Option, Some, None, is_none, Result, Ok, Err, if◌then◌else◌}
use Rattle.std.proofs.Common.{refl, sym, subst}
use Rattle.qic_base.specs.Step.{Step}
use Rattle.qic_base.specs.Tape.{Meaning, Done}
use Rattle.qic_base.specs.TapeCalls.{Does}
use Rattle.qic_base.proofs.Steps.{Done-nothing, Done-Done, Done-Broke}
use Rattle.qic117_commands.specs.Commands.{command_at, commands}
use Rattle.qic117_commands.specs.declared.command.Command.{Command}
use Rattle.qic117_commands.specs.declared.command.Command.TheVariants.{Reset, SkipReverse, SkipForward}
use Rattle.qic117_commands.specs.declared.error_code.ErrorCode.{ErrorCode}
use Rattle.qic117_commands.specs.Refusals.{waits_for_seek, illegal_in_primary, illegal_in_format, illegal_in_verify}
use Rattle.drive_spec.specs.Terms.{refusal_of, steps_once_ticked}
use Rattle.drive_spec.specs.Record.{Record}
use Rattle.drive_spec.specs.Steps.{command_steps, is_idle}
use Rattle.drive_states.specs.declared.any_drive.AnyDrive.{AnyDrive}
use Rattle.drive_states.specs.declared.any_drive.AnyDrive.TheVariants.{LoadPoint, Primary, Format, Verify, SeekingLoadPoint, SeekingPrimary}
use Rattle.drive_states.specs.declared.any_drive.AnyDrive.TheVariants.{SeekingFormat, SeekingVerify}
use Rattle.drive_states.specs.AnyDrive.{drive_of, state_of}
use Rattle.drive_states.specs.Typed.{IsIn, skip_command}
use Rattle.drive_states.specs.Unit.{DeckAndTape}
use Rattle.drive_states.proofs.Obeying.{refused_in_seek, legal_in_primary, legal_in_format, legal_in_verify}

-- a tape that no call touched
pub Done-same : {T : Type 0} (m : Meaning T) (a b : T) (steps : List Step) → steps ≡ [] → b ≡ a → Done m a b steps
Done-same {T} m a b steps none same =
    subst (λ (ss : List Step). Done m a b ss) (sym none) (subst (λ (x : T). Done m a x []) (sym same) (Done-nothing m a))

-- no row refuses a command, or one does
pub taken_and_refused : (refusal : Option ErrorCode) (code : ErrorCode) → refusal ≡ None → refusal ≡ Some code → ⊥
taken_and_refused refusal code taken refused = cc

-- a command that no row refuses is one of the drive's state
pub refused_elsewhere : {T : Type 0} (x : AnyDrive T) (c : Command) → IsIn (state_of x) (drive_of x).deck → waits_for_seek c ≡ true →
    refusal_of (drive_of x).deck c ≡ None → (illegal_in_primary c ≡ false → (d : DeckAndTape T) → x ≡ LoadPoint d → ⊥) →
    (illegal_in_primary c ≡ false → (d : DeckAndTape T) → x ≡ Primary d → ⊥) →
    (illegal_in_format c ≡ false → (d : DeckAndTape T) → x ≡ Format d → ⊥) →
    (illegal_in_verify c ≡ false → (d : DeckAndTape T) → x ≡ Verify d → ⊥) → ⊥
refused_elsewhere (LoadPoint d) c is waits taken n0 n1 n2 n3 = n0 (legal_in_primary c d.deck is.mode taken) d refl
refused_elsewhere (Primary d) c is waits taken n0 n1 n2 n3 = n1 (legal_in_primary c d.deck is.mode taken) d refl
refused_elsewhere (Format d) c is waits taken n0 n1 n2 n3 = n2 (legal_in_format c d.deck is.mode taken) d refl
refused_elsewhere (Verify d) c is waits taken n0 n1 n2 n3 = n3 (legal_in_verify c d.deck is.mode taken) d refl
refused_elsewhere (SeekingLoadPoint d) c is waits taken n0 n1 n2 n3 = refused_in_seek d.deck c is.seeks waits taken
refused_elsewhere (SeekingPrimary d) c is waits taken n0 n1 n2 n3 = refused_in_seek d.deck c is.seeks waits taken
refused_elsewhere (SeekingFormat d) c is waits taken n0 n1 n2 n3 = refused_in_seek d.deck c is.seeks waits taken
refused_elsewhere (SeekingVerify d) c is waits taken n0 n1 n2 n3 = refused_in_seek d.deck c is.seeks waits taken

pub skips_elsewhere : {T : Type 0} (x : AnyDrive T) (forward : Bool) → IsIn (state_of x) (drive_of x).deck →
    refusal_of (drive_of x).deck (skip_command forward) ≡ None → ((d : DeckAndTape T) → x ≡ LoadPoint d → ⊥) →
    ((d : DeckAndTape T) → x ≡ Primary d → ⊥) →
    ((d : DeckAndTape T) → x ≡ Verify d → ⊥) → ⊥
unfolding waits_for_seek illegal_in_format
skips_elsewhere x true is taken n0 n1 n3 = refused_elsewhere x SkipForward is refl taken (λ legal. n0) (λ legal. n1) (λ legal d same. cc)
    (λ legal. n3)
skips_elsewhere x false is taken n0 n1 n3 = refused_elsewhere x SkipReverse is refl taken (λ legal. n0) (λ legal. n1) (λ legal d same. cc)
    (λ legal. n3)

-- a step that was done, and then a call that only read
pub Done-Does : {S E : Type 0} {m : Meaning S} {a b : S} (c : S) (step : Step) (result : Result (Unit {0}) E) →
    Done m a b (step ∷ []) → Does m b c [] result → Does m a c (step ∷ []) result
Done-Does c step (Ok done) first next = Done-Done first next
Done-Does c step (Err e) first next = Done-Broke first next

chosen : (b : Bool) (xs : List Step) → xs ≡ [] → (if b then xs else []) ≡ []
chosen true xs e = e
chosen false xs e = refl

-- a reset and an empty gap do nothing to the cartridge
pub reset_steps : (r : Record) (train : ℕ) → train ≡ 1 → steps_once_ticked r train ≡ []
unfolding command_at commands
reset_steps r train e =
    rw e (chosen (is_idle r.under_way) (command_steps r.deck (Some Reset)) (chosen (is_none (refusal_of r.deck Reset)) [] refl))

pub idle_steps : (r : Record) (train : ℕ) → train ≡ 0 → steps_once_ticked r train ≡ []
unfolding command_at commands
idle_steps r train e = rw e (chosen (is_idle r.under_way) [] refl)
