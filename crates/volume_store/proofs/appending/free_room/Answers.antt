use Rattle.std.proofs.Common.{◌≡◌, ◌≤◌, ◌+◌, ◌-◌, ◌*◌, ℕ, length, ap, ◌∙◌, sym, arith}
use Rattle.cartridge_laws.specs.Table.{last_end}
use Rattle.cartridge_laws.proofs.AppendSegments.{room_most}
use Rattle.cartridge_spec.specs.Volumes.{capacity_between}
use Rattle.volume_store.proofs.Taking.{end_within}
use Rattle.volume_store.proofs.appending.free_room.Goals as goal

pub overflow_cast-first_free : goal.overflow_cast-first_free
overflow_cast-first_free c =
    let within : last_end c.args.table.now ≤ length c.args.map.now - 1 =
    end_within 2 (length c.args.map.now - 1) c.args.table.now c.requires.list (let all = c.requires.map in let least = c.requires.least in
    omega arith) in
    omega (arith, c.first_free.ensures, c.requires.map, c.requires.most, c.requires.least)

pub overflow_cast-segments : goal.overflow_cast-segments
overflow_cast-segments c = omega (arith, c.requires.most)

pub overflow_cast-result : goal.overflow_cast-result
overflow_cast-result c =
    let last : ℕ = length c.args.map.now - 1 in
    let same : c.capacity_between.result ≡ capacity_between c.args.map.now (last_end c.args.table.now + 1) last =
    c.capacity_between.ensures ∙ ap (λ (n : ℕ). capacity_between c.args.map.now n (c.args.segments - 1)) c.first_free.ensures
    ∙ ap (λ (n : ℕ). capacity_between c.args.map.now (last_end c.args.table.now + 1) (n - 1)) (sym c.requires.map) in
    let most : capacity_between c.args.map.now (last_end c.args.table.now + 1) last ≤ 29696 * (last + 1) =
    room_most c.args.map.now c.args.table.now last in
    omega (arith, c.requires.map, c.requires.most, c.requires.least)
