use Rattle.std.proofs.Common.{◌≡◌, ℕ, List, length, take, Err, subst, arith}
use Rattle.std.proofs.lemmas.List.{length-take-le}
use Rattle.qic_base.specs.TapeCalls.{Tells}
use Rattle.qic_base.proofs.Steps.{Done-after_reads, Tells-map}
use Rattle.cartridge_spec.specs.TableSegment.{TableIs}
use Rattle.cartridge_spec.specs.Table.{Entry, Shows, table_with}
use Rattle.volume_table.specs.Entry.{entry_of}
use Rattle.qic_base.specs.declared.store_fault.StoreFault.{StoreFault}
use Rattle.qic_base.specs.declared.store_fault.StoreFault.TheVariants.{Tape}
use Rattle.cartridge_front.specs.Again.{HasTable}
use Rattle.cartridge_front.proofs.Again.{adding_broke, adds_refused}
use Rattle.command_laws.proofs.Passing.{passed}
use Rattle.cartridge_front.proofs.refreshing.add_entry.Goals as goal

pub returns-clause-did : goal.returns-clause-did
returns-clause-did g c =
    let m = g.T.Tape.means in
    let entries : List Entry = c.args.table.now in
    let entry : Entry = entry_of c.args.entry.now in
    let sectors : List (List ℕ) = c.read_list.new.work in
    record {
      area = take 29 sectors;
      shown = c.in_ok-read_list.ensures.shown;
      done = Done-after_reads c.in_ok-read_list.ensures.did c.in_ok-write_entry.ensures.did;
      told = Tells-map m c.args.unit.now.tape (λ c'. HasTable c' sectors c.in_ok-read_list.field-0) (λ c'. TableIs c' (take 29 sectors))
          (λ c' has. has.table) (c.in_ok-read_list.ensures.found (λ same. cc));
      size = length-take-le 29 sectors (omega (arith, c.in_ok-read_list.ensures.room));
      with_entry = subst (λ (l : List Entry). Shows (table_with (take 29 sectors) (length entries) entry) l)
          c.in_ok-write_entry.ensures.list c.in_ok-write_entry.ensures.shown;
    }

pub returns-in_err-write_entry-clause-did : goal.returns-in_err-write_entry-clause-did
returns-in_err-write_entry-clause-did g c =
    let m = g.T.Tape.means in
    let sectors : List (List ℕ) = c.read_list.new.work in
    let told : Tells m c.args.unit.now.tape (λ c'. TableIs c' (take 29 sectors)) =
    Tells-map m c.args.unit.now.tape (λ c'. HasTable c' sectors c.in_ok-read_list.field-0) (λ c'. TableIs c' (take 29 sectors))
    (λ c' has. has.table) (c.in_ok-read_list.ensures.found (λ same. cc)) in
    let is : c.from_residual-in_err-write_entry.result ≡ Err Tape =
    passed c.from_residual-in_err-write_entry.result Tape c.from_residual-in_err-write_entry.ensures.1 in
    adding_broke m c.args.unit.now.tape c.read_list.new.unit.tape c.write_entry.new.unit.tape c.args.table.now
    (entry_of c.args.entry.now) (take 29 sectors) c.from_residual-in_err-write_entry.result is
    c.in_ok-read_list.ensures.did c.in_err-write_entry.ensures.did told

pub returns-in_err-read_list-clause-did : goal.returns-in_err-read_list-clause-did
returns-in_err-read_list-clause-did g c =
    let fault : StoreFault = c.in_err-read_list.field-0.0 in
    let is : c.from_residual.result ≡ Err fault = passed c.from_residual.result fault c.from_residual.ensures.1 in
    adds_refused g.T.Tape.means c.args.unit.now.tape c.read_list.new.unit.tape c.args.table.now
    (entry_of c.args.entry.now) c.read_list.new.work fault c.from_residual.result is
    c.in_err-read_list.ensures.did (λ apart. c.in_err-read_list.ensures.found (λ same. apart (cc))) c.in_err-read_list.ensures.kind
