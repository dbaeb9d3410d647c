-- What a call of a file did, by its counts of failures.
use Rattle.std.proofs.Common.{◌≡◌, ◌≤◌, refl, arith, inl}
use Rattle.qic_base.specs.Tape.{Rose}
use Rattle.qic_base.specs.Disk.{DiskStep, Look, WriteAt, SetLen, Sync, Stored, Failed, ChangesCounted, IsSettled, Crashes, Leaves}
use Rattle.tape_files.specs.Edge.{FileState, file_means}

settled : {F : Type 0} (f : FileState F) → IsSettled file_means f
settled f = record { only = λ bytes left told may. absurd may }

crashes : {F : Type 0} (old new : FileState F) (step : DiskStep) → Crashes file_means old new step
crashes old new step = record {
  telling = refl;
  clock = omega arith;
  kept = λ t left early was. was;
  parted = λ t u left order early is. inl is;
  since = λ t left early is. inl is;
}

leaves : {F : Type 0} (old new : FileState F) (step : DiskStep) → Leaves file_means old new step
leaves old new Look = λ left may. absurd may
leaves old new (WriteAt place part) = λ left may. absurd may
leaves old new (SetLen n) = λ left may. absurd may
leaves old new Sync = settled new

pub file_stored : {F : Type 0} (old new : FileState F) (step : DiskStep) → new.faults ≡ old.faults → new.failed_changes ≡
    old.failed_changes → Stored file_means old new step
file_stored old new step later changes = record {
  told = refl;
  later = later;
  changes = changes;
  leaves = leaves old new step;
  crashes = crashes old new step;
}

pub file_failed : {F : Type 0} (old new : FileState F) (step : DiskStep) → Rose old.faults new.faults → old.faults ≤ new.faults →
    ChangesCounted step old.failed_changes new.failed_changes → Failed file_means old new step
file_failed old new step rose later changes = record {
  cause = rose;
  later = later;
  changes = changes;
  tells = refl;
  torn = λ left told. cc;
  leaves = λ left may. absurd may;
  settled = settled new;
  crashes = crashes old new step;
}

pub ruleset file_calls = (file_stored, file_failed)
