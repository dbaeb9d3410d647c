use Rattle.std.proofs.Common.{◌<◌, ◌≤◌, Ok, Err, None, Some, refl, take}
use Rattle.cartridge_laws.proofs.Segments.{count_of_cells}
use Rattle.cartridge_spec.specs.Says.{cells_of}
use Rattle.cartridge_spec.specs.Shape.{usable_count}
use Rattle.command_spec.specs.Scrub.{Looked}
use Rattle.segment_mending.proofs.Counted.{few_without, many_without}
use Rattle.segment_mending.proofs.Finding.{found_many, found_none}
use Rattle.segment_mending.proofs.Gathered.{place_within, gathered_locates}
use Rattle.silent_locate.specs.Deep.{Deep, cells_without}
use Rattle.silent_locate.specs.declared.Located.TheVariants.{Agrees, Wrong}
use Rattle.silent_locate.specs.declared.LocateFault.TheVariants.{TooMany, Mismatch}
use Rattle.command_spec.specs.declared.depth.Depth.TheVariants as depths
use Rattle.segment_mending.proofs.locating.locate_collected.Goals as goal

pub found_block-requires : goal.found_block-requires
found_block-requires c =
    let deep : Deep (cells_without c.args.lost (take (usable_count c.args.usable) c.args.work.now))
    (take (usable_count c.args.usable) c.locate_in.new.work) None =
    rw c.in-Ok-Agrees.field-0-is at c.in-Ok-Agrees.ensures.locates in
    record { block = record { room = c.in-Ok-Agrees.ensures.room; whole = c.requires.whole; within = c.requires.within; code = deep.code } }

pub found_wrong-requires-clause-block : goal.found_wrong-requires-clause-block
found_wrong-requires-clause-block c =
    let deep : Deep (cells_without c.args.lost (take (usable_count c.args.usable) c.args.work.now))
    (take (usable_count c.args.usable) c.locate_in.new.work) (Some c.in-Ok-Wrong.place) =
    rw c.in-Ok-Wrong.field-0-is at c.in-Ok-Wrong.ensures.locates in
    record { room = c.in-Ok-Wrong.ensures.room; whole = c.requires.whole; within = c.requires.within; code = deep.code }

pub found_wrong-requires-clause-place : goal.found_wrong-requires-clause-place
found_wrong-requires-clause-place c =
    place_within c.args.usable c.args.lost c.in-Ok-Wrong.place c.args.work.now (take (usable_count c.args.usable) c.locate_in.new.work)
    c.in-Ok-Wrong.ensures.old (rw c.in-Ok-Wrong.field-0-is at c.in-Ok-Wrong.ensures.locates)

pub returns-in-Ok-Agrees-clause-found : goal.returns-in-Ok-Agrees-clause-found
returns-in-Ok-Agrees-clause-found c =
    λ c' gathered.
    c.found_block.ensures.found depths.Deep c' gathered.unreadable
    (gathered_locates (cells_of c' c.args.segment c.args.usable) c.args.lost c.args.usable c.args.work.now
    (take (usable_count c.args.usable) c.locate_in.new.work) (Ok Agrees) (count_of_cells c' c.args.segment c.args.usable)
    c.in-Ok-Agrees.ensures.old gathered (rw c.in-Ok-Agrees.field-0-is at c.in-Ok-Agrees.ensures.locates))

pub returns-in-Ok-Wrong-clause-found : goal.returns-in-Ok-Wrong-clause-found
returns-in-Ok-Wrong-clause-found c =
    λ c' gathered.
    c.found_wrong.ensures.found c' gathered.unreadable
    (gathered_locates (cells_of c' c.args.segment c.args.usable) c.args.lost c.args.usable c.args.work.now
    (take (usable_count c.args.usable) c.locate_in.new.work) (Ok (Wrong c.in-Ok-Wrong.place))
    (count_of_cells c' c.args.segment c.args.usable)
    c.in-Ok-Wrong.ensures.old gathered (rw c.in-Ok-Wrong.field-0-is at c.in-Ok-Wrong.ensures.locates))

pub returns-in-Err-TooMany-clause-found : goal.returns-in-Err-TooMany-clause-found
returns-in-Err-TooMany-clause-found c =
    λ c' gathered.
    let l : Looked = record { segment = c.args.segment; mask = c.args.usable } in
    let many = gathered_locates (cells_of c' c.args.segment c.args.usable) c.args.lost c.args.usable c.args.work.now
    (take (usable_count c.args.usable) c.locate_in.new.work) (Err (TooMany c.in-Err-TooMany.lost))
    (count_of_cells c' c.args.segment c.args.usable) c.in-Err-TooMany.ensures.old gathered
    (rw c.in-Err-TooMany.field-0-is at c.in-Err-TooMany.ensures.locates) in
    rw c.in-Err-TooMany.field-0-is (record { finds = found_many (Unit {0}) c' l c.in-Err-TooMany.lost many; places = tt })

pub returns-in-Err-Mismatch-clause-found : goal.returns-in-Err-Mismatch-clause-found
returns-in-Err-Mismatch-clause-found c =
    λ c' gathered.
    let l : Looked = record { segment = c.args.segment; mask = c.args.usable } in
    let none = gathered_locates (cells_of c' c.args.segment c.args.usable) c.args.lost c.args.usable c.args.work.now
    (take (usable_count c.args.usable) c.locate_in.new.work) (Err Mismatch) (count_of_cells c' c.args.segment c.args.usable)
    c.in-Err-Mismatch.ensures.old gathered (rw c.in-Err-Mismatch.field-0-is at c.in-Err-Mismatch.ensures.locates) in
    record { finds = found_none (Unit {0}) c' l none.0 none.1; places = tt }

pub returns-in-Ok-Agrees-clause-may : goal.returns-in-Ok-Agrees-clause-may
returns-in-Ok-Agrees-clause-may c =
    let deep : Deep (cells_without c.args.lost (take (usable_count c.args.usable) c.args.work.now))
    (take (usable_count c.args.usable) c.locate_in.new.work) None =
    rw c.in-Ok-Agrees.field-0-is at c.in-Ok-Agrees.ensures.locates in
    c.found_block.ensures.may depths.Deep
    (λ is. few_without c.args.usable c.args.lost c.args.work.now c.in-Ok-Agrees.ensures.old c.requires.within deep.few)

pub returns-in-Err-TooMany-clause-may : goal.returns-in-Err-TooMany-clause-may
returns-in-Err-TooMany-clause-may c =
    let many : (3 < c.in-Err-TooMany.lost) × (c.in-Err-TooMany.lost ≤ 32) =
    many_without c.args.usable c.args.lost c.in-Err-TooMany.lost c.args.work.now c.in-Err-TooMany.ensures.old
    (rw c.in-Err-TooMany.field-0-is at c.in-Err-TooMany.ensures.locates) in
    rw c.in-Err-TooMany.field-0-is (record { fits = refl; count = λ is. many })

pub returns-in-Err-Mismatch-clause-may : goal.returns-in-Err-Mismatch-clause-may
returns-in-Err-Mismatch-clause-may c = record { fits = refl; count = λ is. tt }
