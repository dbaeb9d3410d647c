use Rattle.std.proofs.Common.{◌≡◌, ℕ, ◌^◌, ◌<◌, ◌≤◌, List, length, map, take, subst, sym, ◌∙◌, arith}
use Rattle.std.proofs.lemmas.List.{length-take-le}
use Rattle.cartridge_laws.proofs.Places.{count_below}
use Rattle.cartridge_spec.specs.Shape.{usable_count, usable_places}
use Rattle.qic_base.specs.declared.tape.SectorView.{SectorView}
use Rattle.segment_salvage.proofs.Salvaged.{data_gathered}
use Rattle.segment_salvage.specs.Buffer.{buffer_view}
use Rattle.silent_locate.specs.Deep.{cells_without}
use Rattle.segment_salvage.proofs.gathering.salvage_data.Goals as goal

pub first_places-requires : goal.first_places-requires
first_places-requires c = omega (arith, c.data_sectors-count.ensures, count_below c.args.usable 32)

pub slice_bounds-fill_lost-end : goal.slice_bounds-fill_lost-end
slice_bounds-fill_lost-end c = omega (arith, c.data_sectors-count.ensures, count_below c.args.usable 32)

pub slice_bounds-fill_lost-end-2 : goal.slice_bounds-fill_lost-end-2
slice_bounds-fill_lost-end-2 c =
    let within : c.data_sectors-count.result ≤ length c.gather-lost.new.sectors =
    omega (arith, c.data_sectors-count.ensures, count_below c.args.usable 32) in
    sym (length-take-le c.data_sectors-count.result c.gather-lost.new.sectors within)

pub fill_lost-requires : goal.fill_lost-requires
fill_lost-requires c =
    let within : c.data_sectors-count.result ≤ length c.gather-lost.new.sectors =
    omega (arith, c.data_sectors-count.ensures, count_below c.args.usable 32) in
    omega (arith, length-take-le c.data_sectors-count.result c.gather-lost.new.sectors within)

pub returns : goal.returns
returns c =
    λ zero_lost.
    let d : ℕ = c.data_sectors-count.result in
    let lost : ℕ = c.gather-lost.result in
    let mid : List (List ℕ) = c.gather-lost.new.sectors in
    let view : ℕ → SectorView = buffer_view c.args.unread c.args.sectors.now in
    data_gathered zero_lost c.args.usable c.args.unread lost d c.args.sectors.now mid c.fill_lost.new.sectors c.data_sectors-count.ensures
    (subst (λ (m : ℕ). cells_without lost (take (usable_count m) mid) ≡ map view (usable_places m)) c.first_places.ensures
    c.gather-lost.ensures.cells)
    (subst (λ (m : ℕ). lost < 2 ^ usable_count m) c.first_places.ensures c.gather-lost.ensures.within)
    (c.gather-lost.auto.sectors ∙ c.requires) c.fill_lost.ensures
