-- A file meets the laws of a disk: it tells nothing.
use Rattle.qic_base.specs.Disk.{IsToldRight, IsLeftNow}
use Rattle.tape_files.specs.Edge.{FileState, file_means}

pub file_told_right : {F : Type 0} (f : FileState F) → IsToldRight file_means f
file_told_right f = record {
  bytes = λ bytes told. cc;
  seen = λ bytes told. cc;
  may_leave = λ bytes told. cc;
  untold = λ quiet. record { only = λ bytes left told may. absurd may };
}

pub file_left_now : {F : Type 0} (f : FileState F) → IsLeftNow file_means f
file_left_now f = record {
  telling = λ tells. cc;
  counts = λ t left tells early may. absurd may;
  only = λ left tells is. absurd is;
  earlier = λ t u left order early is. is;
}
