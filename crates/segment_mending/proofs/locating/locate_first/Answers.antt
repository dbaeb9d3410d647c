use Rattle.std.proofs.Common.{◌≡◌, ℕ, ◌++◌, List, arith, drop, length, subst, sym, take}
use Rattle.std.proofs.lemmas.List.{length-take-le, take_at}
use Rattle.silent_locate.specs.Deep.{cells_without}
use Rattle.segment_mending.specs.Locating.{Locates}
use Rattle.segment_mending.proofs.Gathered.{locates_of}
use Rattle.segment_mending.proofs.locating.locate_first.Goals as goal

pub returns-clause-locates : goal.returns-clause-locates
returns-clause-locates c =
    let old : List (List ℕ) = c.args.sectors.now in
    let new : List (List ℕ) = c.locate.new.sectors in
    let long : length new ≡ c.args.count = omega (arith, length-take-le c.args.count old c.requires.room) in
    let now : take c.args.count (new ++ drop c.args.count old) ≡ new = take_at new (drop c.args.count old) c.args.count long in
    subst (λ (sectors : List (List ℕ)). Locates (cells_without c.args.lost (take c.args.count old)) sectors c.locate.result) (sym now)
    (locates_of (cells_without c.args.lost (take c.args.count old)) new c.locate.result c.locate.ensures.agrees c.locate.ensures.wrong
    c.locate.ensures.too_many c.locate.ensures.mismatch)
