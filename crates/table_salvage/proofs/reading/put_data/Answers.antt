use Rattle.std.proofs.Common.{◌≡◌, ℕ, List, length, drop, ap, sym, ◌∙◌, arith}
use Rattle.std.proofs.lemmas.List.{length-take-le, take_at}
use Rattle.table_salvage.proofs.reading.put_data.Goals as goal

pub slice_bounds-copy_from_slice-end-2 : goal.slice_bounds-copy_from_slice-end-2
slice_bounds-copy_from_slice-end-2 c = sym (length-take-le 29 c.args.sectors.now (omega (arith, c.requires.room)))

pub copy_from_slice-requires : goal.copy_from_slice-requires
copy_from_slice-requires c = length-take-le 29 c.args.sectors.now (omega (arith, c.requires.room)) ∙ sym c.requires.size

pub returns : goal.returns
returns c =
    let long : length c.copy_from_slice.new.self ≡ 29 =
    ap (λ (s : List (List ℕ)). length s) c.copy_from_slice.ensures.after ∙ c.requires.size in
    take_at c.copy_from_slice.new.self (drop 29 c.args.sectors.now) 29 long ∙ c.copy_from_slice.ensures.after
