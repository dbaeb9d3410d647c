use Rattle.std.proofs.Common.{◌≡◌, ◌≢◌, ℕ, List, [], sym, ap, ◌∙◌, subst, Result, Ok, Err, Option, Some, true, false}
use Rattle.std.specs.Option.{option_map_or}
use Rattle.qic_base.specs.declared.tape.TapeInfo.{TapeInfo}
use Rattle.host_driver.specs.declared.host.Host.{Host}
use Rattle.host_driver.proofs.Keeping.{keeps_both}
use Rattle.qic_base.specs.declared.store_fault.StoreFault.TheVariants.{Tape}
use Rattle.qic_base.specs.TapeCalls.{Tells}
use Rattle.qic_base.proofs.Steps.{Tells-read, Done-after_reads, tells_two}
use Rattle.cartridge_spec.specs.HeaderCopies.{CopyDoesNotRead}
use Rattle.drive_spec.specs.Terms.{is_referenced}
use Rattle.host_driver.specs.Fits.{segments_of, deck_of}
use Rattle.header_segments.specs.declared.header.Header.{Header}
use Rattle.qic_base.specs.declared.store_fault.StoreFault.{StoreFault}
use Rattle.cartridge_front.specs.Finding.{FindsCopy, FindsHeader}
use Rattle.cartridge_front.proofs.Copies.{leaves_after, leaves_on, IsLearnt, told_learnt, first_forces, second_forces, format_found}
use Rattle.cartridge_front.proofs.Copies.{fault_found}
use Rattle.command_laws.proofs.Passing.{passed}
use Rattle.cartridge_front.proofs.header_reader.read_header.Goals as goal

pub returns-in_err-header-in-None-clause-did : goal.returns-in_err-header-in-None-clause-did
returns-in_err-header-in-None-clause-did g c =
    let fault : StoreFault = c.in_err-header-in-None.field-0.0 in
    let is : c.from_residual-in_err-header-in-None.result ≡ Err fault =
    passed c.from_residual-in_err-header-in-None.result fault c.from_residual-in_err-header-in-None.ensures.1 in
    leaves_after g.T.Tape.means c.args.unit.now.tape c.read_copy.new.unit.tape c.read_copy-in-None.new.unit.tape []
    c.from_residual-in_err-header-in-None.result c.in_ok-header.ensures.did
    (leaves_on g.T.Tape.means c.read_copy.new.unit.tape c.read_copy-in-None.new.unit.tape [] fault
    c.from_residual-in_err-header-in-None.result is
    c.in_err-header-in-None.ensures.did)

pub returns-in_err-header-in-None-clause-found : goal.returns-in_err-header-in-None-clause-found
returns-in_err-header-in-None-clause-found g c = λ sound.
    let fault : StoreFault = c.in_err-header-in-None.field-0.0 in
    let is : c.from_residual-in_err-header-in-None.result ≡ Err fault =
    passed c.from_residual-in_err-header-in-None.result fault c.from_residual-in_err-header-in-None.ensures.1 in
    let words : List ℕ = c.read_copy-in-None.new.map in
    let host : Host = c.read_copy.new.host in
    let mark : true ≡ is_referenced (deck_of host) =
    c.if-not-referenced.ensures ∙ ap is_referenced (sym c.requires.ready.fits.deck)
    ∙ ap (λ (cartridge : Option TapeInfo). option_map_or (λ (info : TapeInfo). info.referenced) cartridge false)
    (sym c.in_ok-header.ensures.keeps.same.cartridge)
    ∙ ap is_referenced c.in_ok-header.ensures.keeps.ready.fits.deck in
    let learnt : Tells g.T.Tape.means c.args.unit.now.tape (IsLearnt host) =
    Tells-read (IsLearnt host) c.in_ok-header.ensures.did
    (told_learnt g.T.Tape.means host c.read_copy.new.unit c.in_ok-header.ensures.keeps.ready.fits
    (c.in_ok-header.ensures.keeps.agrees c.requires.agrees)) in
    let none : Tells g.T.Tape.means c.args.unit.now.tape (λ c'. CopyDoesNotRead c' 0) =
    subst (λ (answer : Option Header). Tells g.T.Tape.means c.args.unit.now.tape
    (λ c'. FindsCopy c' 0 (segments_of c.args.host.now) c.read_copy.new.map (Ok answer))) c.in-None.is
    (c.in_ok-header.ensures.found (λ same. cc)) in
    let both : Tells g.T.Tape.means c.args.unit.now.tape (λ c'. IsLearnt host c' × CopyDoesNotRead c' 0) =
    tells_two g.T.Tape.means c.args.unit.now.tape (IsLearnt host) (λ c'. CopyDoesNotRead c' 0)
    (λ c'. IsLearnt host c' × CopyDoesNotRead c' 0) (λ c' one two. (one, two)) learnt none in
    let apart : fault ≢ Tape = λ same. sound (is ∙ ap Err same) in
    let second : Tells g.T.Tape.means c.args.unit.now.tape (λ c'. FindsCopy c' 1 (segments_of host) words (Err fault)) =
    Tells-read (λ c'. FindsCopy c' 1 (segments_of host) words (Err fault)) c.in_ok-header.ensures.did
    (c.in_err-header-in-None.ensures.found (λ same. apart (cc))) in
    tells_two g.T.Tape.means c.args.unit.now.tape (λ c'. IsLearnt host c' × CopyDoesNotRead c' 0)
    (λ c'. FindsCopy c' 1 (segments_of host) words (Err fault))
    (λ c'. FindsHeader c' words c.from_residual-in_err-header-in-None.result)
    (λ c' known found. subst (λ (answer : Result Header StoreFault). FindsHeader c' words answer) (sym is)
    (fault_found host c' 1 words fault known.0 mark (second_forces c' known.1) found)) both second

pub returns-in-Some-2-clause-did : goal.returns-in-Some-2-clause-did
returns-in-Some-2-clause-did g c = Done-after_reads c.in_ok-header.ensures.did c.in_ok-header-in-None.ensures.did

pub returns-in-None-2-clause-did : goal.returns-in-None-2-clause-did
returns-in-None-2-clause-did g c = Done-after_reads c.in_ok-header.ensures.did c.in_ok-header-in-None.ensures.did

pub returns-in_err-header-in-None-clause-keeps : goal.returns-in_err-header-in-None-clause-keeps
returns-in_err-header-in-None-clause-keeps g c = keeps_both c.in_ok-header.ensures.keeps c.in_err-header-in-None.ensures.keeps

pub returns-in-Some-2-clause-keeps : goal.returns-in-Some-2-clause-keeps
returns-in-Some-2-clause-keeps g c = keeps_both c.in_ok-header.ensures.keeps c.in_ok-header-in-None.ensures.keeps

pub returns-in-None-2-clause-keeps : goal.returns-in-None-2-clause-keeps
returns-in-None-2-clause-keeps g c = keeps_both c.in_ok-header.ensures.keeps c.in_ok-header-in-None.ensures.keeps

pub returns-in-Some-clause-found : goal.returns-in-Some-clause-found
returns-in-Some-clause-found g c = λ sound.
    let m = g.T.Tape.means in
    let host : Host = c.args.host.now in
    let words : List ℕ = c.read_copy.new.map in
    let header : Header = c.in-Some.header in
    let learnt : Tells m c.args.unit.now.tape (IsLearnt host) =
    told_learnt m host c.args.unit.now c.requires.ready.fits c.requires.agrees in
    let copy : Tells m c.args.unit.now.tape (λ c'. FindsCopy c' 0 (segments_of host) words (Ok (Some header))) =
    subst (λ (answer : Option Header). Tells m c.args.unit.now.tape (λ c'. FindsCopy c' 0 (segments_of host) words (Ok answer)))
    c.in-Some.is
    (c.in_ok-header.ensures.found (λ same. cc)) in
    tells_two m c.args.unit.now.tape (IsLearnt host) (λ c'. FindsCopy c' 0 (segments_of host) words (Ok (Some header)))
    (λ c'. FindsHeader c' words (Ok header))
    (λ c' known found. format_found host c' 0 words header known c.if-not-referenced.ensures (first_forces c') found) learnt copy

pub returns-in-Some-2-clause-found : goal.returns-in-Some-2-clause-found
returns-in-Some-2-clause-found g c = λ sound.
    let m = g.T.Tape.means in
    let host : Host = c.args.host.now in
    let next : Host = c.read_copy.new.host in
    let words : List ℕ = c.read_copy-in-None.new.map in
    let header : Header = c.in-Some-2.header in
    let mark : true ≡ is_referenced (deck_of next) =
    c.if-not-referenced.ensures ∙ ap is_referenced (sym c.requires.ready.fits.deck)
    ∙ ap (λ (cartridge : Option TapeInfo). option_map_or (λ (info : TapeInfo). info.referenced) cartridge false)
    (sym c.in_ok-header.ensures.keeps.same.cartridge)
    ∙ ap is_referenced c.in_ok-header.ensures.keeps.ready.fits.deck in
    let learnt : Tells m c.args.unit.now.tape (IsLearnt next) =
    Tells-read (IsLearnt next) c.in_ok-header.ensures.did
    (told_learnt m next c.read_copy.new.unit c.in_ok-header.ensures.keeps.ready.fits
    (c.in_ok-header.ensures.keeps.agrees c.requires.agrees)) in
    let none : Tells m c.args.unit.now.tape (λ c'. CopyDoesNotRead c' 0) =
    subst (λ (answer : Option Header). Tells m c.args.unit.now.tape
    (λ c'. FindsCopy c' 0 (segments_of host) c.read_copy.new.map (Ok answer))) c.in-None.is
    (c.in_ok-header.ensures.found (λ same. cc)) in
    let both : Tells m c.args.unit.now.tape (λ c'. IsLearnt next c' × CopyDoesNotRead c' 0) =
    tells_two m c.args.unit.now.tape (IsLearnt next) (λ c'. CopyDoesNotRead c' 0) (λ c'. IsLearnt next c' × CopyDoesNotRead c' 0)
    (λ c' one two. (one, two)) learnt none in
    let copy : Tells m c.args.unit.now.tape (λ c'. FindsCopy c' 1 (segments_of next) words (Ok (Some header))) =
    Tells-read (λ c'. FindsCopy c' 1 (segments_of next) words (Ok (Some header))) c.in_ok-header.ensures.did
    (subst (λ (answer : Option Header). Tells m c.read_copy.new.unit.tape (λ c'. FindsCopy c' 1 (segments_of next) words (Ok answer)))
    c.in-Some-2.is
    (c.in_ok-header-in-None.ensures.found (λ same. cc))) in
    tells_two m c.args.unit.now.tape (λ c'. IsLearnt next c' × CopyDoesNotRead c' 0)
    (λ c'. FindsCopy c' 1 (segments_of next) words (Ok (Some header)))
    (λ c'. FindsHeader c' words (Ok header))
    (λ c' known found. format_found next c' 1 words header known.0 mark (second_forces c' known.1) found) both copy
