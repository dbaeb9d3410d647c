use Rattle.std.proofs.Common.{refl, sym, ap, ◌∙◌, Err, ◌≡◌, ◌⊎◌, inl, inr, ◌-◌, ◌≤◌, min, true, All, subst, arith}
use Rattle.std.proofs.lemmas.Result.{err_from_is_err_and}
use Rattle.qic_base.specs.Cartridge.{IsSector}
use Rattle.volume_input.specs.Length.{is_exact}
use Rattle.volume_input.proofs.Next.{sectors_most, source_fault, came_short, next_written, next_broken}
use Rattle.volume_input.proofs.segment.write_next.Goals as goal
use Rattle.volume_input.proofs.segment.write_next.Goals.{After-write_segment}
use Rattle.volume_input.proofs.segment.write_next.Goals.{else-is_exact-via-then-is_exact+else-read-min, else-is_exact-via-else-is_exact}

pub overflow_cast-capacity : goal.overflow_cast-capacity
overflow_cast-capacity g c =
    let few = sectors_most c.args.map.now c.args.segment c.capacity-capacity.result
    c.requires.can.segment.carries c.capacity-capacity.ensures in omega arith

pub fill_work-requires : goal.fill_work-requires
fill_work-requires g c =
    let few = sectors_most c.args.map.now c.args.segment c.capacity-capacity.result
    c.requires.can.segment.carries c.capacity-capacity.ensures in omega arith

pub returns-in_err-read-clause-ends : goal.returns-in_err-read-clause-ends
returns-in_err-read-clause-ends g c =
    let p = err_from_is_err_and c.from_residual.result c.from_residual.ensures.1 in
    rw (p.1 ∙ ap Err p.2) (source_fault g.T.Tape.means g.S.Source.means c.args.unit.now.tape c.args.unit.now.tape c.args.source.now
    c.fill_work.new.source
    c.in_err-read.ensures.cause.later
    c.args.map.now c.args.segment c.args.before c.args.wanted.most c.capacity-capacity.result
    (is_exact c.args.wanted.length) c.requires.can.segment.carries c.capacity-capacity.ensures
    c.in_err-read.ensures.cause.failed c.in_err-read.ensures.filled)

-- where all bytes are needed, no fewer came than the segment takes
enough : (g : _) (c : After-write_segment g) → is_exact c.args.wanted.length ≡ true →
    min c.capacity-capacity.result (c.args.wanted.most - c.args.before) ≤ c.in_ok-read.read
enough g c asked = elim c.else-is_exact.branch [
  | else-is_exact-via-then-is_exact+else-read-min w ↦ omega arith
  | else-is_exact-via-else-is_exact w ↦ absurd (cc)
]

-- behind other segments at least one byte came
some : (g : _) (c : After-write_segment g) → (c.args.before ≡ 0) ⊎ (1 ≤ c.in_ok-read.read)
some g c = elim c.else-read-eq0.either [ inl none ↦ inl (omega arith) | inr more ↦ inr (omega arith) ]

pub returns-in_err-write_segment-clause-ends : goal.returns-in_err-write_segment-clause-ends
returns-in_err-write_segment-clause-ends g c =
    let p = err_from_is_err_and c.from_residual-in_err-write_segment.result c.from_residual-in_err-write_segment.ensures.1 in
    let behind = (goal.at.returns-in_err-write_segment-clause-ends g c).After-write_segment in
    rw (p.1 ∙ ap Err p.2) (next_broken g.T.Tape.means g.S.Source.means c.args.unit.now.tape c.write_segment.new.unit.tape
    c.args.source.now c.fill_work.new.source c.fill_work.ensures.cause.later
    c.args.map.now c.args.segment c.args.before c.args.wanted.most c.capacity-capacity.result
    (is_exact c.args.wanted.length) c.requires.can.segment.carries c.capacity-capacity.ensures
    c.in_ok-read.ensures.cause.stood c.in_ok-read.read c.fill_work.new.work
    (subst (All IsSector) c.sectors.ensures.value c.are_sectors.ensures)
    c.in_ok-read.ensures.filled (enough g behind) c.usable.result c.usable.ensures (some g behind)
    c.in_err-write_segment.ensures.did)

pub returns-clause-ends : goal.returns-clause-ends
returns-clause-ends g c =
    let behind = (goal.at.returns-clause-ends g c).After-write_segment in
    next_written g.T.Tape.means g.S.Source.means c.args.unit.now.tape c.write_segment.new.unit.tape
    c.args.source.now c.fill_work.new.source c.fill_work.ensures.cause.later
    c.args.map.now c.args.segment c.args.before c.args.wanted.most c.capacity-capacity.result
    (is_exact c.args.wanted.length) c.requires.can.segment.carries c.capacity-capacity.ensures
    c.in_ok-read.ensures.cause.stood c.in_ok-read.read c.fill_work.new.work
    (subst (All IsSector) c.sectors.ensures.value c.are_sectors.ensures)
    c.in_ok-read.ensures.filled (enough g behind) c.usable.result c.usable.ensures (some g behind)
    c.in_ok-write_segment.ensures.did

pub returns-then-read-min-clause-ends : goal.returns-then-read-min-clause-ends
returns-then-read-min-clause-ends g c = (
  refl,
  came_short g.T.Tape.means g.S.Source.means c.args.unit.now.tape c.args.unit.now.tape c.args.source.now c.fill_work.new.source
      c.fill_work.ensures.cause.later
      c.args.map.now c.args.segment c.args.before c.args.wanted.most c.capacity-capacity.result
      (is_exact c.args.wanted.length) c.requires.can.segment.carries c.capacity-capacity.ensures
      c.in_ok-read.ensures.cause.stood c.in_ok-read.read c.fill_work.new.work
      (subst (All IsSector) c.sectors.ensures.value c.are_sectors.ensures)
      c.in_ok-read.ensures.filled (sym c.is_exact.ensures ∙ c.if-is_exact.true) (omega arith),
)
