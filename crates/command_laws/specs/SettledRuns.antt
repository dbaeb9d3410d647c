-- A run over a cartridge that mounts is a run over the settled one, but where it is stopped while the table is settled, as facts
-- (this project's own).
use Rattle.std.specs.Prelude.{◌≡◌, ◌⊎◌, ℕ, List, [], Option, Some, None}
use Rattle.cartridge_spec.specs.Header.{Header}
use Rattle.cartridge_spec.specs.Mounting.{Mounted, Mounts, settled}
use Rattle.cartridge_spec.specs.Settling.{settling_steps}
use Rattle.cartridge_spec.specs.Table.{Entry}
use Rattle.cartridge_spec.specs.TableSegment.{IsTableLive}
use Rattle.command_laws.specs.ActStops.{IsLeftBy}
use Rattle.command_laws.specs.CommandFields.{Yields}
use Rattle.command_laws.specs.Life.{Answered, Ended, HasRun, Run, Stopped}
use Rattle.command_spec.specs.Outcome.{CommandOutcome, output_of}
use Rattle.command_spec.specs.declared.words.Words.{Words}
use Rattle.qic_base.specs.Acts.{steps_of}
use Rattle.qic_base.specs.Cartridge.{Cartridge}
use Rattle.qic_base.specs.Step.{Torn, effects}
use Rattle.command_spec.specs.declared.words.Words.TheVariants as commands

-- ---- commands

-- The commands that settle the table of a cartridge that mounts, and go by the settled one from then on: each that mounts it, but for
-- `room` and `check`, which take no step.
abbrev pub SettlesFirst : Words → Type 0
SettlesFirst commands.Info = Unit {0}
SettlesFirst commands.List = Unit {0}
SettlesFirst (commands.Append name date) = Unit {0}
SettlesFirst (commands.Restore number) = Unit {0}
SettlesFirst commands.Scrub = Unit {0}
SettlesFirst commands.ScrubDeep = Unit {0}
SettlesFirst commands.Script = Unit {0}
SettlesFirst (commands.Make seed count) = Unit {0}
SettlesFirst command = ⊥

-- ---- the plain machine

-- An outcome over a cartridge whose table has these data, and the outcome of the same command and input over the settled one: the
-- same status, output, bytes taken and cartridge. What a stop leaves it leaves in the settling, where nothing was printed yet, or in
-- the outcome over the settled one, with the same printed.
pub record IsOverSettled (command : Words) (c : Cartridge) (table : List (List ℕ)) (input : List ℕ)
    (outcome : CommandOutcome) : Type 0 where
  pub over : CommandOutcome
  pub plain : Yields command (Some (settled table c)) input over
  pub status : over.status ≡ outcome.status
  pub taken : over.taken ≡ outcome.taken
  pub output : output_of over ≡ output_of outcome
  pub all : effects (steps_of over.acts) (Some (settled table c)) ≡ effects (steps_of outcome.acts) (Some c)
  pub stopped : (left : Option Cartridge) → Torn (steps_of outcome.acts) (Some c) left →
      Torn (settling_steps table c) (Some c) left ⊎ Torn (steps_of over.acts) (Some (settled table c)) left
  pub cut : (printed : List ℕ) (left : Option Cartridge) → IsLeftBy c outcome.acts printed left →
      ((printed ≡ []) × Torn (settling_steps table c) (Some c) left) ⊎ IsLeftBy (settled table c) over.acts printed left

-- So it is with each such command over a cartridge that is mounted, whether it stands for a plain one or not, each sector of whose
-- table's segment takes a write.
abbrev pub OutcomesOverSettled : Type 0
OutcomesOverSettled =
    (command : Words) (c : Cartridge) (header : Header) (words : List ℕ) (table : List (List ℕ)) (entries : List Entry)
    (input : List ℕ) (outcome : CommandOutcome) → SettlesFirst command → IsTableLive c → Mounts c (Mounted header words table entries) →
    Yields command (Some c) input outcome → IsOverSettled command c table input outcome

-- ---- runs

-- the run was stopped while the table was settled, and had printed nothing
abbrev pub StopsInSettling : Ended → Cartridge → (table : List (List ℕ)) → (left : Option Cartridge) → Type 0
StopsInSettling (Answered answer printed) c table left = ⊥
StopsInSettling (Stopped (Some printed)) c table left = (printed ≡ []) × Torn (settling_steps table c) (Some c) left
StopsInSettling (Stopped None) c table left = Torn (settling_steps table c) (Some c) left

-- Or it is a run over the settled cartridge: the same command and input, ended the same way, which leaves the same.
abbrev pub RunsOverSettled : Type 0
RunsOverSettled =
    (run : Run) (c : Cartridge) (header : Header) (words : List ℕ) (table : List (List ℕ)) (entries : List Entry)
    (left : Option Cartridge) → SettlesFirst run.command → IsTableLive c → Mounts c (Mounted header words table entries) →
    HasRun run (Some c) left → StopsInSettling run.ended c table left ⊎ HasRun run (Some (settled table c)) left
