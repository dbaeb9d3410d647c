use Rattle.std.proofs.Common.{take}
use Rattle.cartridge_spec.specs.Shape.{usable_count}
use Rattle.command_spec.specs.Scrub.{Looked}
use Rattle.segment_mending.specs.Locating.{IsDeep}
use Rattle.segment_mending.proofs.Finding.{found_right}
use Rattle.segment_mending.proofs.locating.found_block.Goals as goal

pub returns-then-can_be_read-clause-found : goal.returns-then-can_be_read-clause-found
returns-then-can_be_read-clause-found c =
    λ depth c' names deep.
    let l : Looked = record { segment = c.args.segment; mask = c.args.usable } in
    record { finds = found_right (IsDeep depth) c' l (take (usable_count c.args.usable) c.args.work.now) deep; places = names }

pub returns-else-can_be_read-clause-found : goal.returns-else-can_be_read-clause-found
returns-else-can_be_read-clause-found c =
    λ depth c' names deep.
    let l : Looked = record { segment = c.args.segment; mask = c.args.usable } in
    record { finds = found_right (IsDeep depth) c' l (take (usable_count c.args.usable) c.args.work.now) deep; places = tt }

pub returns-then-can_be_read-clause-may : goal.returns-then-can_be_read-clause-may
returns-then-can_be_read-clause-may c =
    λ depth few. record {
      fits = record {
        within = c.requires.block.within;
        code = c.requires.block.code;
        can_be_read = c.if-can_be_read.ensures c.args.usable c.requires.block.whole;
        may = tt;
      };
      count = few;
    }

pub returns-else-can_be_read-clause-may : goal.returns-else-can_be_read-clause-may
returns-else-can_be_read-clause-may c =
    λ depth few. record { fits = c.if-can_be_read.ensures c.args.usable c.requires.block.whole; count = λ is. tt }
