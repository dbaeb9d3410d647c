use Rattle.std.proofs.Common.{ℕ, List, Ok, subst, sym, take}
use Rattle.cartridge_laws.proofs.Segments.{count_of_cells}
use Rattle.cartridge_spec.specs.Says.{Agrees, cells_of}
use Rattle.command_spec.specs.Scrub.{Looked}
use Rattle.command_spec.specs.declared.depth.Depth.{Depth}
use Rattle.command_spec.specs.declared.depth.Depth.TheVariants as depths
use Rattle.qic_base.proofs.Steps.{Tells-map}
use Rattle.qic_base.specs.TapeCalls.{Tells}
use Rattle.segment_io.proofs.Going.{tells_then}
use Rattle.segment_solve.specs.Gathered.{Gathered, NamesUnreadable}
use Rattle.segment_solve.specs.Reading.{HasSolved, IsRead}
use Rattle.segment_mending.specs.Locating.{DeepFinds, Finds, IsDeep, IsFoundBy}
use Rattle.segment_mending.proofs.locating.find_in_segment.Goals as goal

pub returns-in_ok-lost-in-Deep-clause-found : goal.returns-in_ok-lost-in-Deep-clause-found
returns-in_ok-lost-in-Deep-clause-found g c =
    let l : Looked = record { segment = c.args.segment; mask = c.args.usable } in
    let finds : Finds g.T.Tape.means c.args.unit.now.tape (IsDeep depths.Deep) l c.locate_collected.result c.locate_collected.new.work =
    record {
      told = Tells-map g.T.Tape.means c.args.unit.now.tape
          (λ c'. Gathered (cells_of c' c.args.segment c.args.usable) c.in_ok-lost-in-Deep.lost c.collect.new.work)
          (λ c'. DeepFinds c' l c.locate_collected.result c.locate_collected.new.work)
          (λ c' gathered. c.locate_collected.ensures.found c' gathered) c.in_ok-lost-in-Deep.ensures.gathered;
      may = c.locate_collected.ensures.may;
    } in
    subst (λ (depth : Depth). Finds g.T.Tape.means c.args.unit.now.tape (IsDeep depth) l c.locate_collected.result
    c.locate_collected.new.work) (sym c.in-Deep.is) finds

pub returns-in-Ok-clause-found : goal.returns-in-Ok-clause-found
returns-in-Ok-clause-found g c =
    let l : Looked = record { segment = c.args.segment; mask = c.args.usable } in
    let work : List (List ℕ) = c.read_segment.new.work in
    let read : IsRead c.args.segment c.args.usable work (Ok c.in-Ok.lost) = rw c.in-Ok.is at c.in_ok-lost-in-Shallow.ensures.read in
    let told : Tells g.T.Tape.means c.args.unit.now.tape (λ c'. IsFoundBy (IsDeep c.args.depth) c' l c.found_block.result work) =
    tells_then g.T.Tape.means c.args.unit.now.tape
    (λ c'. NamesUnreadable (cells_of c' c.args.segment c.args.usable) c.in-Ok.lost)
    (λ c'. IsFoundBy (IsDeep c.args.depth) c' l c.found_block.result work)
    (Tells-map g.T.Tape.means c.args.unit.now.tape (λ c'. HasSolved (cells_of c' c.args.segment c.args.usable) work)
    (λ c'. NamesUnreadable (cells_of c' c.args.segment c.args.usable) c.in-Ok.lost →
    IsFoundBy (IsDeep c.args.depth) c' l c.found_block.result work)
    (λ c' solved names. c.found_block.ensures.found c.args.depth c' names (record {
      few = solved.says.0;
      code = read.block;
      agrees = subst (λ (k : ℕ). Agrees (cells_of c' c.args.segment c.args.usable) (take k work))
          (count_of_cells c' c.args.segment c.args.usable) solved.agrees;
    }))
    (rw c.in-Ok.is at c.in_ok-lost-in-Shallow.ensures.solves))
    (rw c.in-Ok.is at c.in_ok-lost-in-Shallow.ensures.unreadable) in
    let none : IsDeep c.args.depth → ⊥ = λ is. subst IsDeep c.in-Shallow.is is in
    record { told = told; may = c.found_block.ensures.may c.args.depth (λ is. absurd (none is)) }
