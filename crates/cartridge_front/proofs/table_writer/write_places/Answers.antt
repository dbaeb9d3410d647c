use Rattle.std.proofs.Common.{◌≡◌, [], List, ℕ, ◌<◌, ◌^◌, sym, ap, ◌∙◌, subst, arith}
use Rattle.qic_base.specs.Step.{Step}
use Rattle.qic_base.specs.Tape.{Done}
use Rattle.qic_base.specs.TapeCalls.{Does}
use Rattle.qic_base.proofs.Steps.{Done-nothing}
use Rattle.cartridge_laws.specs.Segment.{sectors_of}
use Rattle.cartridge_laws.proofs.Segments.{count_of_whole}
use Rattle.cartridge_spec.specs.Settling.{block_writes}
use Rattle.segment_io.proofs.Going.{front_segment}
use Rattle.cartridge_front.proofs.Adding.{named_places}
use Rattle.cartridge_front.proofs.Mending.{no_sectors}
use Rattle.cartridge_front.proofs.table_writer.write_places.Goals as goal

pub write_sectors-requires-clause-can : goal.write_sectors-requires-clause-can
write_sectors-requires-clause-can g c = record {
  ready = c.requires.ready;
  segment = front_segment 2 c.requires.ready.fits c.requires.referenced (omega arith);
  writable = c.requires.writable;
}

pub write_sectors-requires-clause-within : goal.write_sectors-requires-clause-within
write_sectors-requires-clause-within g c = subst (λ (n : ℕ). c.args.places < 2 ^ n) (sym count_of_whole) c.requires.within

pub returns-clause-did : goal.returns-clause-did
returns-clause-did g c =
    let m = g.T.Tape.means in
    subst (λ (steps : List Step). Does m c.args.unit.now.tape c.write_sectors.new.unit.tape steps c.write_sectors.result)
    (named_places c.args.places c.args.work.now) c.write_sectors.ensures.did

pub returns-then-mask-eq0-clause-did : goal.returns-then-mask-eq0-clause-did
returns-then-mask-eq0-clause-did g c =
    let none : c.args.places ≡ 0 = sym c.mask.ensures ∙ c.if-mask-eq0.true in
    let steps : [] ≡ block_writes c.args.work.now (sectors_of c.args.places) =
    sym (no_sectors c.args.work.now) ∙ ap (λ (places : ℕ). block_writes c.args.work.now (sectors_of places)) (sym none) in
    subst (Done g.T.Tape.means c.args.unit.now.tape c.args.unit.now.tape) steps (Done-nothing g.T.Tape.means c.args.unit.now.tape)
