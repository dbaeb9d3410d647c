use Rattle.std.proofs.Common.{◌≡◌, ◌≤◌, ◌+◌, ◌++◌, ℕ, List, [], ◌∷◌, length, take, drop, ap, subst, sym, ◌∙◌, arith}
use Rattle.qic_base.proofs.Arrays.{lent}
use Rattle.qic_base.specs.Step.{Step, WriteSectors}
use Rattle.qic_base.specs.TapeCalls.{Does}
use Rattle.cartridge_spec.specs.Appending.{new_sectors}
use Rattle.cartridge_spec.specs.Code.{parity_sectors}
use Rattle.cartridge_spec.specs.Shape.{usable_count, usable_places, data_count}
use Rattle.cartridge_laws.specs.Writes.{block_in, segment_writes}
use Rattle.cartridge_laws.proofs.Writing.{length-block_in}
use Rattle.segment_io.specs.Writes.{first_sectors}
use Rattle.segment_solve.proofs.SolvedCells.{take_front}
use Rattle.segment_io.proofs.writing.write_segment.Goals as goal

-- the parity put behind the data makes them the block
block_put : (usable count : ℕ) (old left : List (List ℕ)) → count + 3 ≡ usable_count usable →
    left ≡ take count old ++ parity_sectors (take count old) ++ drop (count + 3) old →
    left ≡ block_in usable old ++ drop (usable_count usable) old
block_put usable count old left all put =
    let first : count ≡ data_count usable = omega arith in
    let front : List (List ℕ) = take (data_count usable) old in
    put
    ∙ ap (λ (n : ℕ). take n old ++ parity_sectors (take n old) ++ drop (count + 3) old) first
    ∙ ap (λ (n : ℕ). front ++ parity_sectors front ++ drop n old) all

pub returns-clause-parity : goal.returns-clause-parity
returns-clause-parity g c =
    let first : List (List ℕ) = c.in-Some.sectors.now in
    let left : List (List ℕ) = c.put_parity.new.sectors in
    let was : first ≡ c.args.work.now = c.in-Some.ensures.cases.same ∙ c.sectors_mut.ensures.value in
    let all : c.from.result + 3 ≡ usable_count c.args.usable = omega arith in
    lent left c.args.work.now (omega arith)
    ∙ block_put c.args.usable c.from.result c.args.work.now left all
    (subst (λ (ss : List (List ℕ)). left ≡ take c.from.result ss ++ parity_sectors (take c.from.result ss) ++ drop (c.from.result + 3) ss)
    was c.put_parity.ensures.parity)

pub returns-clause-did : goal.returns-clause-did
returns-clause-did g c =
    let segment : ℕ = c.args.segment in
    let usable : ℕ = c.args.usable in
    let old : List (List ℕ) = c.args.work.now in
    let left : List (List ℕ) = c.put_parity.new.sectors in
    let rest : List (List ℕ) = drop (usable_count usable) old in
    let room : usable_count usable ≤ length old =
    subst (λ (ss : List (List ℕ)). usable_count usable ≤ length ss) c.sectors_mut.ensures.value
    (omega (arith, c.count_usable-data.ensures, c.sectors_mut.ensures.size)) in
    let long : length (block_in usable old) ≡ usable_count usable = length-block_in usable old c.requires.segment.carries room in
    let parts : left ≡ block_in usable old ++ rest =
    sym (lent left old (omega arith)) ∙ returns-clause-parity g c in
    let front : take (usable_count usable) left ≡ block_in usable old =
    ap (take (usable_count usable)) parts ∙ take_front (usable_count usable) (block_in usable old) rest long in
    let steps : WriteSectors segment (first_sectors usable left) ∷ [] ≡ segment_writes segment usable old =
    ap (λ (block : List (List ℕ)). WriteSectors segment (new_sectors (usable_places usable) block) ∷ []) front in
    subst (λ t. Does g.T.Tape.means t c.write_first.new.unit.tape (segment_writes segment usable old) c.write_first.result)
    c.go_to.ensures.tape
    (subst (λ (ss : List Step). Does g.T.Tape.means c.go_to.new.unit.tape c.write_first.new.unit.tape ss c.write_first.result) steps
    c.write_first.ensures.did)
