use Rattle.std.proofs.Common.{◌≡◌, ℕ, List, ap, arith, length, subst, sym, take, ◌∙◌}
use Rattle.cartridge_laws.proofs.Places.{count_below}
use Rattle.cartridge_spec.specs.Shape.{usable_count}
use Rattle.segment_mending.specs.Locating.{Locates}
use Rattle.silent_locate.specs.Deep.{cells_without}
use Rattle.qic_base.proofs.Arrays.{lent}
use Rattle.segment_mending.proofs.locating.locate_in.Goals as goal

pub locate_first-requires-clause-most : goal.locate_first-requires-clause-most
locate_first-requires-clause-most c = omega (arith, c.count-count.ensures, count_below c.from_mask.result 32)

pub locate_first-requires-clause-room : goal.locate_first-requires-clause-room
locate_first-requires-clause-room c = omega (arith, c.count-count.ensures, count_below c.from_mask.result 32, c.sectors_mut.ensures.size)

pub returns-clause-locates : goal.returns-clause-locates
returns-clause-locates c =
    let left : List (List ℕ) = c.locate_first.new.sectors in
    let old : List (List ℕ) = c.args.work.now in
    let size : length left ≡ 32 = c.locate_first.ensures.size ∙ c.sectors_mut.ensures.size in
    let all : c.count-count.result ≡ usable_count c.args.usable = c.count-count.ensures ∙ ap usable_count c.from_mask.ensures in
    subst (λ (now : List (List ℕ)). Locates (cells_without c.args.lost (take (usable_count c.args.usable) old))
    (take (usable_count c.args.usable) now) c.locate_first.result)
    (sym (lent left old size))
    (subst (λ (k : ℕ). Locates (cells_without c.args.lost (take k old)) (take k left) c.locate_first.result) all
    (subst (λ (sectors : List (List ℕ)). Locates (cells_without c.args.lost (take c.count-count.result sectors))
    (take c.count-count.result left) c.locate_first.result)
    c.sectors_mut.ensures.value c.locate_first.ensures.locates))

pub returns-clause-old : goal.returns-clause-old
returns-clause-old c = ap (λ (sectors : List (List ℕ)). length sectors) (sym c.sectors_mut.ensures.value) ∙ c.sectors_mut.ensures.size

pub returns-clause-room : goal.returns-clause-room
returns-clause-room c =
    let size : length c.locate_first.new.sectors ≡ 32 = c.locate_first.ensures.size ∙ c.sectors_mut.ensures.size in
    ap (λ (sectors : List (List ℕ)). length sectors) (lent c.locate_first.new.sectors c.args.work.now size) ∙ size
