use Rattle.std.proofs.Common.{◌≡◌, ℕ, ◌<◌, List, arith, refl, subst, sym, take, Some, true, false}
use Rattle.cartridge_laws.proofs.Places.{count_below, usable_small}
use Rattle.cartridge_spec.specs.Shape.{usable_count}
use Rattle.cartridge_spec.specs.Volumes.{worn}
use Rattle.command_spec.specs.Scrub.{Looked, cells_at, reads, HasFoundBy}
use Rattle.segment_solve.specs.Gathered.{NamesUnreadable}
use Rattle.segment_mending.specs.Locating.{data_in}
use Rattle.segment_mending.proofs.Finding as finding
use Rattle.segment_mending.proofs.locating.found_wrong.Goals as goal

pub returns-then-not-can_be_read-clause-found : goal.returns-then-not-can_be_read-clause-found
returns-then-not-can_be_read-clause-found c =
    λ c' names deep.
    let l : Looked = record { segment = c.args.segment; mask = c.args.usable } in
    let block : List (List ℕ) = take (usable_count c.args.usable) c.args.work.now in
    let unfit : reads l (data_in l c.args.work.now) ≡ false = c.if-not-can_be_read.ensures c.args.usable c.requires.block.whole in
    record { finds = finding.found_unfit (Unit {0}) c' l c.args.place block deep unfit; places = tt }

pub with_place-requires : goal.with_place-requires
with_place-requires c = omega (arith, count_below c.args.usable 32, c.requires.place)

pub returns-clause-found : goal.returns-clause-found
returns-clause-found c =
    λ c' names deep.
    let l : Looked = record { segment = c.args.segment; mask = c.args.usable } in
    let block : List (List ℕ) = take (usable_count c.args.usable) c.args.work.now in
    let can : reads l (data_in l c.args.work.now) ≡ true = c.if-not-can_be_read.ensures c.args.usable c.requires.block.whole in
    record {
      finds = subst (λ (sector : ℕ). HasFoundBy (Unit {0}) c' l (data_in l c.args.work.now) (Some sector)) (sym c.index_at.ensures)
          (finding.found_wrong (Unit {0}) c' l c.args.place block tt c.requires.place deep can);
      places = subst (λ (sector : ℕ). NamesUnreadable (cells_at (worn c.args.segment sector c') l) c.with_place.result)
          (sym c.index_at.ensures)
          (finding.names_with_wrong c' l c.args.place c.args.lost c.with_place.result c.requires.place names c.with_place.ensures.more
          c.with_place.ensures.others);
    }

pub returns-clause-may : goal.returns-clause-may
returns-clause-may c =
    let l : Looked = record { segment = c.args.segment; mask = c.args.usable } in
    let can : reads l (data_in l c.args.work.now) ≡ true = c.if-not-can_be_read.ensures c.args.usable c.requires.block.whole in
    let small : c.index_at.result < 32 =
    subst (λ (sector : ℕ). sector < 32) (sym c.index_at.ensures) (usable_small c.args.usable c.args.place c.requires.place) in
    record {
      fits = record {
        within = c.with_place.ensures.below (usable_count c.args.usable) c.requires.place c.requires.block.within;
        code = c.requires.block.code;
        can_be_read = can;
        may = (tt, small);
      };
      count = λ is. tt;
    }

pub returns-then-not-can_be_read-clause-may : goal.returns-then-not-can_be_read-clause-may
returns-then-not-can_be_read-clause-may c = record { fits = refl; count = λ is. tt }
