use Rattle.std.proofs.Common.{◌≡◌, ◌+◌, ◌∙◌, ap, false, length, arith}
use Rattle.dump_spec.specs.Volumes.{volumes_of}
use Rattle.dump_volumes.proofs.Walking.{count_same}
use Rattle.dump_volumes.specs.Left.{left_of, given_by}
use Rattle.dump_volumes.proofs.walk.count_volumes.Goals as goal

pub returns : goal.returns
returns c = λ counts segment.
    let none = ap length c.in_default.ensures.0 in
    let all : given_by c.loop-volume.walk + length (left_of c.loop-volume.walk c.args.area.now)
    ≡ length (volumes_of false 0 c.args.area.now) =
    c.loop-volume.invariant in
    let given : given_by c.loop-volume.walk ≡ length (volumes_of false 0 c.args.area.now) = omega arith in
    c.number.ensures ∙ ap given_by c.in_default.ensures.1 ∙ given ∙ count_same counts segment c.args.area.now
