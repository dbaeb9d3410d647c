use Rattle.std.proofs.Common.{List, ℕ, Bool, Option, take, sym, subst, arith}
use Rattle.dump_spec.specs.Pieces.{all_usable}
use Rattle.dump_reader.proofs.HeaderFound.{none_next}
use Rattle.dump_reader.proofs.Looking.{looked_none, looked_both}
use Rattle.dump_reader.specs.Found.{TellsHeader}
use Rattle.dump_reader.specs.Laid.{Describes}
use Rattle.qic_base.proofs.Disks.{told-look}
use Rattle.dump_reader.proofs.header.search.Goals as goal

pub loop-segment-init : goal.loop-segment-init
loop-segment-init g c = record {
  did = looked_none g.D.Disk.means c.args.disk.now;
  none = λ dump layout by s area low found. absurd (omega arith);
  placed = c.new-cursor.ensures.placed c.args.known.now;
  room = c.requires.room;
}

pub returns-then-branch-clause-found : goal.returns-then-branch-clause-found
returns-then-branch-clause-found g c = λ dump layout by.
    let still = subst (λ (t : Option (List ℕ)). Describes c.args.known.now t dump (all_usable layout))
    (sym (told-look c.loop-segment.invariant.did)) by in (
      c.loop-segment-test.true,
      subst (λ (is : Bool). TellsHeader dump layout c.args.zero_lost c.loop-segment.segment (take 29 c.read_header_at.new.sectors) is)
          c.if-branch.true (c.in_ok-read_header_at.ensures.header dump layout still),
      c.loop-segment.invariant.none dump layout by,
    )

pub loop-segment-preserved : goal.loop-segment-preserved
loop-segment-preserved g c = record {
  did = looked_both c.loop-segment.invariant.did c.in_ok-read_header_at.ensures.did;
  none = λ dump layout by.
      let still = subst (λ (t : Option (List ℕ)). Describes c.args.known.now t dump (all_usable layout))
      (sym (told-look c.loop-segment.invariant.did)) by in
      none_next dump layout c.args.zero_lost c.loop-segment.segment (c.loop-segment.invariant.none dump layout by)
      (subst (λ (is : Bool). TellsHeader dump layout c.args.zero_lost c.loop-segment.segment (take 29 c.read_header_at.new.sectors) is)
      c.if-branch.false (c.in_ok-read_header_at.ensures.header dump layout still));
  placed = c.in_ok-read_header_at.ensures.placed;
  room = c.in_ok-read_header_at.ensures.room;
}
