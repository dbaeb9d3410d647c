use Rattle.std.proofs.Common.{◌≡◌, ◌≢◌, ℕ, ◌-◌, ◌*◌, List, [], Result, Err, sym, ap, ◌∙◌, subst}
use Rattle.qic_base.specs.Tape.{Done}
use Rattle.qic_base.specs.TapeCalls.{Tells}
use Rattle.qic_base.proofs.Steps.{Done-after_reads, Tells-read, tells_two}
use Rattle.cartridge_spec.specs.Table.{Entry}
use Rattle.header_segments.specs.declared.header.Header.{Header}
use Rattle.host_driver.specs.declared.host.Host.{Host}
use Rattle.host_driver.specs.Fits.{AgreesWithTape, segments_of}
use Rattle.host_driver.proofs.Keeping.{agrees_tape}
use Rattle.qic_base.specs.declared.store_fault.StoreFault.{StoreFault}
use Rattle.qic_base.specs.declared.store_fault.StoreFault.TheVariants.{Tape}
use Rattle.cartridge_front.specs.declared.learning.Learnt.{Learnt}
use Rattle.cartridge_front.specs.Finding.{HasFormat, FindsVolumes}
use Rattle.cartridge_front.specs.Learning.{Learns}
use Rattle.cartridge_front.proofs.Copies.{leaves_after, leaves_on, IsLearnt, told_learnt}
use Rattle.cartridge_front.proofs.Mounts.{refuses_table}
use Rattle.command_laws.proofs.Passing.{passed}
use Rattle.cartridge_front.proofs.learning.learn.Goals as goal

pub returns-clause-did : goal.returns-clause-did
returns-clause-did g c =
    let first : Done g.T.Tape.means c.args.unit.now.tape c.read_header.new.unit.tape [] =
    subst (λ tape. Done g.T.Tape.means tape c.read_header.new.unit.tape []) c.enter_primary.ensures.tape c.in_ok-header.ensures.did in
    Done-after_reads first c.in_ok-unread.ensures.did

pub returns-in_err-unread-clause-did : goal.returns-in_err-unread-clause-did
returns-in_err-unread-clause-did g c =
    let fault : StoreFault = c.in_err-unread.field-0.0 in
    let is : c.from_residual-in_err-unread.result ≡ Err fault =
    passed c.from_residual-in_err-unread.result fault c.from_residual-in_err-unread.ensures.1 in
    let first : Done g.T.Tape.means c.args.unit.now.tape c.read_header.new.unit.tape [] =
    subst (λ tape. Done g.T.Tape.means tape c.read_header.new.unit.tape []) c.enter_primary.ensures.tape c.in_ok-header.ensures.did in
    leaves_after g.T.Tape.means c.args.unit.now.tape c.read_header.new.unit.tape c.read_volumes.new.unit.tape []
    c.from_residual-in_err-unread.result first
    (leaves_on g.T.Tape.means c.read_header.new.unit.tape c.read_volumes.new.unit.tape [] fault c.from_residual-in_err-unread.result is
    c.in_err-unread.ensures.did)

pub returns-in_err-unread-clause-found : goal.returns-in_err-unread-clause-found
returns-in_err-unread-clause-found g c = λ sound.
    let m = g.T.Tape.means in
    let fault : StoreFault = c.in_err-unread.field-0.0 in
    let is : c.from_residual-in_err-unread.result ≡ Err fault =
    passed c.from_residual-in_err-unread.result fault c.from_residual-in_err-unread.ensures.1 in
    let apart : fault ≢ Tape = λ same. sound (is ∙ ap Err same) in
    let host : Host = c.read_header.new.host in
    let header : Header = c.in_ok-header.header in
    let words : List ℕ = c.read_header.new.map in
    let sectors : List (List ℕ) = c.read_volumes.new.work in
    let entries : List Entry = c.read_volumes.new.table in
    let last : ℕ = 28 * segments_of host - 1 in
    let first : Done m c.args.unit.now.tape c.read_header.new.unit.tape [] =
    subst (λ tape. Done m tape c.read_header.new.unit.tape []) c.enter_primary.ensures.tape c.in_ok-header.ensures.did in
    let agreed : AgreesWithTape m c.enter_primary.new.unit =
    agrees_tape m c.args.unit.now c.enter_primary.new.unit c.enter_primary.ensures.cartridge c.enter_primary.ensures.tape
    c.requires.agrees in
    let learnt : Tells m c.args.unit.now.tape (IsLearnt host) =
    Tells-read (IsLearnt host) first (told_learnt m host c.read_header.new.unit c.in_ok-header.ensures.keeps.ready.fits
    (c.in_ok-header.ensures.keeps.agrees agreed)) in
    let format : Tells m c.args.unit.now.tape (λ c'. HasFormat c' words header) =
    subst (λ tape. Tells m tape (λ c'. HasFormat c' words header)) c.enter_primary.ensures.tape
    (c.in_ok-header.ensures.found (λ same. cc)) in
    let both : Tells m c.args.unit.now.tape (λ c'. IsLearnt host c' × HasFormat c' words header) =
    tells_two m c.args.unit.now.tape (IsLearnt host) (λ c'. HasFormat c' words header) (λ c'. IsLearnt host c' × HasFormat c' words header)
    (λ c' one two. (one, two)) learnt format in
    let table : Tells m c.args.unit.now.tape (λ c'. FindsVolumes c' last sectors entries (Err fault)) =
    Tells-read (λ c'. FindsVolumes c' last sectors entries (Err fault)) first (c.in_err-unread.ensures.found (λ same. apart (cc))) in
    tells_two m c.args.unit.now.tape (λ c'. IsLearnt host c' × HasFormat c' words header)
    (λ c'. FindsVolumes c' last sectors entries (Err fault))
    (λ c'. Learns c' words sectors entries c.from_residual-in_err-unread.result)
    (λ c' known found. subst (λ (answer : Result Learnt StoreFault). Learns c' words sectors entries answer) (sym is)
    (refuses_table host c' words header sectors entries fault known.0 known.1 found)) both table

pub returns-in_err-header-clause-agrees : goal.returns-in_err-header-clause-agrees
returns-in_err-header-clause-agrees g c = c.in_err-header.ensures.keeps.agrees
    (agrees_tape g.T.Tape.means c.args.unit.now c.enter_primary.new.unit c.enter_primary.ensures.cartridge
    c.enter_primary.ensures.tape c.requires.agrees)

pub returns-in_err-header-clause-size : goal.returns-in_err-header-clause-size
returns-in_err-header-clause-size g c = c.in_err-header.ensures.keeps.size ∙ ap g.T.Tape.means.size c.enter_primary.ensures.tape

pub returns-in_err-header-clause-ready : goal.returns-in_err-header-clause-ready
returns-in_err-header-clause-ready g c = c.in_err-header.ensures.keeps.ready

pub returns-in_err-unread-clause-agrees : goal.returns-in_err-unread-clause-agrees
returns-in_err-unread-clause-agrees g c = c.in_err-unread.ensures.keeps.agrees
    (c.in_ok-header.ensures.keeps.agrees
    (agrees_tape g.T.Tape.means c.args.unit.now c.enter_primary.new.unit c.enter_primary.ensures.cartridge
    c.enter_primary.ensures.tape c.requires.agrees))

pub returns-in_err-unread-clause-size : goal.returns-in_err-unread-clause-size
returns-in_err-unread-clause-size g c = c.in_err-unread.ensures.keeps.size ∙ c.in_ok-header.ensures.keeps.size
    ∙ ap g.T.Tape.means.size c.enter_primary.ensures.tape

pub returns-in_err-unread-clause-ready : goal.returns-in_err-unread-clause-ready
returns-in_err-unread-clause-ready g c = c.in_err-unread.ensures.keeps.ready

pub returns-clause-agrees : goal.returns-clause-agrees
returns-clause-agrees g c = c.in_ok-unread.ensures.keeps.agrees
    (c.in_ok-header.ensures.keeps.agrees
    (agrees_tape g.T.Tape.means c.args.unit.now c.enter_primary.new.unit c.enter_primary.ensures.cartridge
    c.enter_primary.ensures.tape c.requires.agrees))

pub returns-clause-size : goal.returns-clause-size
returns-clause-size g c = c.in_ok-unread.ensures.keeps.size ∙ c.in_ok-header.ensures.keeps.size
    ∙ ap g.T.Tape.means.size c.enter_primary.ensures.tape

pub returns-clause-ready : goal.returns-clause-ready
returns-clause-ready g c = c.in_ok-unread.ensures.keeps.ready
