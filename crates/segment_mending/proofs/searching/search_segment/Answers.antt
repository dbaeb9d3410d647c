use Rattle.std.proofs.Common.{ℕ, List, subst, sym}
use Rattle.command_spec.specs.Scrub.{Looked}
use Rattle.qic_base.proofs.Steps.{Tells-map}
use Rattle.segment_mending.specs.Locating.{DeepFinds}
use Rattle.segment_mending.specs.Searching.{SearchFinds, SearchMayFind}
use Rattle.segment_mending.specs.declared.searching.Searched.{Searched}
use Rattle.segment_mending.proofs.WithoutPlaces.{searched_finds, searched_may}
use Rattle.segment_mending.proofs.searching.search_segment.Goals as goal

pub returns-clause-found : goal.returns-clause-found
returns-clause-found g c =
    let l : Looked = record { segment = c.args.segment; mask = c.args.usable } in
    let work : List (List ℕ) = c.find_in_segment.new.work in
    Tells-map g.T.Tape.means c.args.unit.now.tape (λ c'. DeepFinds c' l c.in_ok-found.found work)
    (λ c'. SearchFinds c' l c.without_places.result work)
    (λ c' is. subst (λ (s : Searched). SearchFinds c' l s work) (sym c.without_places.ensures)
    (searched_finds c' l c.in_ok-found.found work is))
    c.in_ok-found.ensures.found.told

pub returns-clause-may : goal.returns-clause-may
returns-clause-may g c =
    let l : Looked = record { segment = c.args.segment; mask = c.args.usable } in
    let work : List (List ℕ) = c.find_in_segment.new.work in
    subst (λ (s : Searched). SearchMayFind l s work) (sym c.without_places.ensures)
    (searched_may l c.in_ok-found.found work c.in_ok-found.ensures.found.may)
