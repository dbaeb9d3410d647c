use Rattle.std.proofs.Common.{◌≡◌, ℕ, ◌++◌, List, length, take, drop, subst, ap, sym, ◌∙◌, arith}
use Rattle.qic_base.proofs.Arrays.{lent}
use Rattle.qic_base.specs.Cartridge.{view_at}
use Rattle.qic_base.specs.TapeCalls.{ReadsSectors, Tells}
use Rattle.qic_base.proofs.Steps.{Tells-map}
use Rattle.cartridge_spec.specs.Says.{cells_of}
use Rattle.segment_solve.specs.Gathered.{Gathered}
use Rattle.segment_io.proofs.reading.collect.Goals as goal

pub returns-clause-gathered : goal.returns-clause-gathered
returns-clause-gathered g c =
    let read = c.in_ok-read.read in
    let before : List (List ℕ) = c.in-Some.sectors.now in
    let there : List (List ℕ) = c.read_sectors.new.into in
    let left : List (List ℕ) = c.gather.new.sectors in
    let now : take 32 (left ++ drop (length left) c.args.work.now) ≡ left = lent left c.args.work.now c.gather.ensures.room in
    Tells-map g.T.Tape.means c.args.unit.now.tape
    (λ d. ReadsSectors c.args.usable read.good read.blank (view_at d c.args.segment) before there)
    (λ d. Gathered (cells_of d c.args.segment c.args.usable) c.gather.result _)
    (λ d reads. subst (Gathered (cells_of d c.args.segment c.args.usable) c.gather.result) (sym now)
    (c.gather.ensures.gathered read.blank (view_at d c.args.segment) before reads))
    (subst (λ t. Tells g.T.Tape.means t
    (λ d. ReadsSectors c.args.usable read.good read.blank (view_at d c.args.segment) before there))
    c.go_to.ensures.tape (rw c.from_mask.ensures at c.in_ok-read.ensures.reads))

pub returns-clause-room : goal.returns-clause-room
returns-clause-room g c =
    ap (λ (ss : List (List ℕ)). length ss) (lent c.gather.new.sectors c.args.work.now c.gather.ensures.room)
    ∙ c.gather.ensures.room

pub returns-in_err-read-clause-room : goal.returns-in_err-read-clause-room
returns-in_err-read-clause-room g c =
    ap (λ (ss : List (List ℕ)). length ss) (lent c.read_sectors.new.into c.args.work.now (omega arith))
    ∙ omega arith
