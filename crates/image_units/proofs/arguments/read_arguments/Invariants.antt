-- There are no more images than were asked for.
use Rattle.std.proofs.Common.{◌≤◌, vec_len}
use Rattle.image_units.proofs.arguments.read_arguments.Given as goal

abbrev pub invariant-loop-word : goal.invariant-loop-word
invariant-loop-word g l = vec_len l.read.images ≤ l.images
