use Rattle.std.proofs.Common.{inl, inr, ◌-◌, length, Err, sym, ap, ◌∙◌, arith}
use Rattle.std.proofs.lemmas.Result.{err_from_is_err_and}
use Rattle.qic_base.specs.Alone.{reading}
use Rattle.cartridge_spec.specs.Volumes.{carrying}
use Rattle.host_driver.proofs.Keeping.{keeps_none, keeps_both}
use Rattle.volume_input.specs.Length.{is_exact}
use Rattle.volume_input.proofs.Places.{capacity_carries}
use Rattle.volume_input.proofs.Running.{begin}
use Rattle.volume_input.proofs.Volume.{skipped, not_over, filled_here, last_here, none_here, failed_here}
use Rattle.volume_input.proofs.input.take_volume.Goals as goal
use Rattle.volume_input.proofs.input.take_volume.Goals.{then-read-capacity-via-then-read-capacity}
use Rattle.volume_input.proofs.input.take_volume.Goals.{then-read-capacity-via-else-read-capacity+then-written-wanted}

pub loop-segment-init : goal.loop-segment-init
loop-segment-init g c = record {
  far = begin c.args.map.now (carrying c.args.map.now c.args.first (length c.args.map.now - 1)) c.args.wanted.most
      (reading c.args.unit.now.tape c.args.source.now);
  kept = g.met.S.Source.keeps_itself c.args.source.now;
  keeps = keeps_none c.requires.ready;
}

-- the segment carries nothing
pub loop-segment-preserved-then-capacity-eq0 : goal.loop-segment-preserved-then-capacity-eq0
loop-segment-preserved-then-capacity-eq0 g c = record {
  far = skipped c.args.map.now c.args.first c.loop-segment.segment c.args.wanted.most (reading c.args.unit.now.tape c.args.source.now)
      (reading c.loop-segment.unit.tape c.loop-segment.source) c.loop-segment.written c.loop-segment.invariant.far (omega arith)
      (sym c.capacity-capacity.ensures ∙ c.if-capacity-eq0.true);
  kept = c.loop-segment.invariant.kept;
  keeps = c.loop-segment.invariant.keeps;
}

-- it was the last one
pub returns-then-read-capacity-clause-ends : goal.returns-then-read-capacity-clause-ends
returns-then-read-capacity-clause-ends g c =
    last_here c.args.map.now c.args.first c.loop-segment.segment c.args.wanted.most (reading c.args.unit.now.tape c.args.source.now)
    (reading c.loop-segment.unit.tape c.loop-segment.source) c.loop-segment.written c.loop-segment.invariant.far
    (is_exact c.args.wanted.length) (reading c.write_next.new.unit.tape c.write_next.new.source) (omega arith)
    (capacity_carries c.args.map.now c.loop-segment.segment (omega arith)) c.in-Some.read c.with-written.result c.with-written.ensures
    (rw c.in-Some.is at c.in_ok-next.ensures.ends)
    (elim c.then-read-capacity.branch [
      | then-read-capacity-via-then-read-capacity w ↦ inl (omega arith)
      | then-read-capacity-via-else-read-capacity+then-written-wanted w ↦ inr (omega arith)
    ])

pub returns-then-read-capacity-clause-kept : goal.returns-then-read-capacity-clause-kept
returns-then-read-capacity-clause-kept g c =
    g.met.S.Source.keeps_on c.args.source.now c.loop-segment.source c.write_next.new.source c.loop-segment.invariant.kept
    c.in_ok-next.ensures.kept

-- none came behind the others
pub returns-in_default-clause-ends : goal.returns-in_default-clause-ends
returns-in_default-clause-ends g c =
    none_here c.args.map.now c.args.first c.loop-segment.segment c.args.wanted.most (reading c.args.unit.now.tape c.args.source.now)
    (reading c.loop-segment.unit.tape c.loop-segment.source) c.loop-segment.written c.loop-segment.invariant.far
    (is_exact c.args.wanted.length) (reading c.write_next.new.unit.tape c.write_next.new.source) (omega arith)
    (capacity_carries c.args.map.now c.loop-segment.segment (omega arith))
    (rw c.in_default.is at c.in_ok-next.ensures.ends)

pub returns-in_default-clause-kept : goal.returns-in_default-clause-kept
returns-in_default-clause-kept g c =
    g.met.S.Source.keeps_on c.args.source.now c.loop-segment.source c.write_next.new.source c.loop-segment.invariant.kept
    c.in_ok-next.ensures.kept

-- a fault
pub returns-in_err-next-clause-ends : goal.returns-in_err-next-clause-ends
returns-in_err-next-clause-ends g c =
    let p = err_from_is_err_and c.from_residual.result c.from_residual.ensures.1 in
    rw (p.1 ∙ ap Err p.2)
    (failed_here c.args.map.now c.args.first c.loop-segment.segment c.args.wanted.most (reading c.args.unit.now.tape c.args.source.now)
    (reading c.loop-segment.unit.tape c.loop-segment.source) c.loop-segment.written c.loop-segment.invariant.far
    (is_exact c.args.wanted.length) (reading c.write_next.new.unit.tape c.write_next.new.source) (omega arith)
    (capacity_carries c.args.map.now c.loop-segment.segment (omega arith)) c.in_err-next.field-0.0 c.in_err-next.ensures.ends)

pub returns-in_err-next-clause-kept : goal.returns-in_err-next-clause-kept
returns-in_err-next-clause-kept g c =
    g.met.S.Source.keeps_on c.args.source.now c.loop-segment.source c.write_next.new.source c.loop-segment.invariant.kept
    c.in_err-next.ensures.kept

-- it was filled, and bytes are still to come
pub loop-segment-preserved : goal.loop-segment-preserved
loop-segment-preserved g c = record {
  far = filled_here c.args.map.now c.args.first c.loop-segment.segment c.args.wanted.most (reading c.args.unit.now.tape c.args.source.now)
      (reading c.loop-segment.unit.tape c.loop-segment.source) c.loop-segment.written c.loop-segment.invariant.far
      (is_exact c.args.wanted.length) (reading c.write_next.new.unit.tape c.write_next.new.source) (omega arith)
      (capacity_carries c.args.map.now c.loop-segment.segment (omega arith)) c.in-Some.read c.with-written.result c.with-written.ensures
      (rw c.in-Some.is at c.in_ok-next.ensures.ends) (omega arith) (omega arith);
  kept = g.met.S.Source.keeps_on c.args.source.now c.loop-segment.source c.write_next.new.source c.loop-segment.invariant.kept
      c.in_ok-next.ensures.kept;
  keeps = keeps_both c.loop-segment.invariant.keeps c.in_ok-next.ensures.keeps;
}

-- the segments don't end before the volume
pub unreachable-requires : goal.unreachable-requires
unreachable-requires g c =
    let least = c.requires.ready.fits.sound.drive.deck.long in
    not_over c.args.map.now c.args.first c.loop-segment.segment c.args.wanted.most (reading c.args.unit.now.tape c.args.source.now)
    (reading c.loop-segment.unit.tape c.loop-segment.source) c.loop-segment.written c.loop-segment.invariant.far (omega arith)
    (omega arith) c.requires.room c.requires.within
