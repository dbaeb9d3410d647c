use Rattle.std.proofs.Common.{◌≡◌, ◌∙◌, ℕ, Bool, ap, arith, false, sym, true}
use Rattle.std.specs.Prelude.{◌&&◌, nat_lt, not}
use Rattle.std.proofs.lemmas.Bool.{le-ltb, lt-ltb}
use Rattle.cartridge_spec.specs.TableSegment.{table_cells}
use Rattle.command_spec.specs.Check.{is_last_used, is_named}
use Rattle.command_spec.specs.Scrub.{whole_segment}
use Rattle.qic_base.proofs.Steps.{Tells-map}
use Rattle.segment_solve.specs.Gathered.{Gathered}
use Rattle.cartridge_check.proofs.Front.{reads_front}
use Rattle.cartridge_check.proofs.Table.{named_by, no_parity_named, not_named}
use Rattle.cartridge_check.proofs.verdicts.names_sector.Goals as goal

pub collect-requires : goal.collect-requires
collect-requires g c = reads_front 2 c.requires.ready c.requires.referenced c.requires.mode (omega arith)

pub returns-then-from-lt-DATA_SECTORS-clause-named : goal.returns-then-from-lt-DATA_SECTORS-clause-named
returns-then-from-lt-DATA_SECTORS-clause-named g c =
    let sector : ℕ = c.args.sector in
    let low : nat_lt sector 29 ≡ true = lt-ltb sector 29 (omega (arith, c.if-from-lt-DATA_SECTORS.true, c.from.ensures)) in
    Tells-map g.T.Tape.means c.args.unit.now.tape (λ c'. Gathered (table_cells c') c.in_ok-lost.lost c.collect.new.work)
    (λ c'. is_named c' (whole_segment 2) sector ≡ not c.is_last_used.result)
    (λ c' gathered.
    named_by c' c.in_ok-lost.lost c.last_used-used.result c.data_sectors.result.now c.collect.new.work sector gathered
    c.in_ok-lost.ensures.room (c.reads_data.ensures.all c.if-not-reads_data.false)
    c.data_sectors.ensures.size c.data_sectors.ensures.value c.last_used-used.ensures.cells
    ∙ ap (λ (b : Bool). b && not (is_last_used c.last_used-used.result sector)) low
    ∙ sym (ap not c.is_last_used.ensures))
    c.in_ok-lost.ensures.gathered

pub returns-then-not-reads_data-clause-named : goal.returns-then-not-reads_data-clause-named
returns-then-not-reads_data-clause-named g c =
    let lost : ℕ = c.in_ok-lost.lost in
    Tells-map g.T.Tape.means c.args.unit.now.tape (λ c'. Gathered (table_cells c') lost c.collect.new.work)
    (λ c'. is_named c' (whole_segment 2) c.args.sector ≡ false)
    (λ c' gathered.
    not_named c' lost c.collect.new.work c.args.sector gathered
    (c.reads_data.ensures.lost c.if-not-reads_data.true))
    c.in_ok-lost.ensures.gathered

pub returns-else-from-lt-DATA_SECTORS-clause-named : goal.returns-else-from-lt-DATA_SECTORS-clause-named
returns-else-from-lt-DATA_SECTORS-clause-named g c =
    Tells-map g.T.Tape.means c.args.unit.now.tape (λ c'. Gathered (table_cells c') c.in_ok-lost.lost c.collect.new.work)
    (λ c'. is_named c' (whole_segment 2) c.args.sector ≡ nat_lt c.from.result 29)
    (λ c' gathered.
    no_parity_named c' c.args.sector (omega (arith, c.if-from-lt-DATA_SECTORS.false, c.from.ensures))
    ∙ sym (le-ltb c.from.result 29 (omega (arith, c.if-from-lt-DATA_SECTORS.false))))
    c.in_ok-lost.ensures.gathered
