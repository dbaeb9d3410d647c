use Rattle.std.proofs.Common.{◌≡◌, ℕ, ◌≤◌, length, map, ap, sym, ◌∙◌, arith}
use Rattle.std.proofs.lemmas.List.{length-take-le, length-map}
use Rattle.cartridge_laws.proofs.Places.{count_below}
use Rattle.cartridge_spec.specs.Shape.{usable_count, usable_places}
use Rattle.segment_salvage.proofs.Salvaged.{few_salvaged, sectors_gathered}
use Rattle.segment_salvage.specs.Buffer.{buffer_view}
use Rattle.segment_salvage.proofs.gathering.salvage_sectors.Goals as goal

pub returns-then-count-le-PARITY_SECTORS : goal.returns-then-count-le-PARITY_SECTORS
returns-then-count-le-PARITY_SECTORS c =
    let count : c.count-count.result ≡ usable_count c.args.usable = c.count-count.ensures ∙ ap usable_count c.from_mask.ensures in
    few_salvaged c.args.zero_lost c.args.usable c.gather-lost.result
    (map (buffer_view c.args.unread c.args.sectors.now) (usable_places c.args.usable)) c.gather-lost.new.sectors (omega arith)
    (length-map (usable_places c.args.usable) (buffer_view c.args.unread c.args.sectors.now))

pub slice_bounds-find_counted-end : goal.slice_bounds-find_counted-end
slice_bounds-find_counted-end c = omega (arith, c.count-count.ensures, count_below c.from_mask.result 32)

pub slice_bounds-find_counted-end-2 : goal.slice_bounds-find_counted-end-2
slice_bounds-find_counted-end-2 c =
    let within : c.count-count.result ≤ length c.gather-lost.new.sectors =
    omega (arith, c.count-count.ensures, count_below c.from_mask.result 32) in
    sym (length-take-le c.count-count.result c.gather-lost.new.sectors within)

pub returns : goal.returns
returns c =
    let n : ℕ = c.count-count.result in
    let count : n ≡ usable_count c.args.usable = c.count-count.ensures ∙ ap (λ (m : ℕ). usable_count m) c.from_mask.ensures in
    let within : n ≤ length c.gather-lost.new.sectors = omega (arith, c.count-count.ensures, count_below c.from_mask.result 32) in
    sectors_gathered c.args.zero_lost c.args.usable c.args.unread c.gather-lost.result n c.args.sectors.now c.gather-lost.new.sectors
    c.find_counted.new.sectors c.find_counted.result count c.gather-lost.ensures.cells
    (c.find_counted.auto.sectors ∙ length-take-le n c.gather-lost.new.sectors within) c.find_counted.ensures
