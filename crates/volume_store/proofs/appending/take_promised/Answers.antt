use Rattle.std.proofs.Common.{◌≡◌, ◌⊎◌, inl, inr, ℕ, ◌<◌, true, Some, subst, sym, ◌∙◌, arith}
use Rattle.qic_base.specs.Alone.{reading}
use Rattle.cartridge_spec.specs.Appending.{room}
use Rattle.host_driver.proofs.Keeping.{keeps_none}
use Rattle.volume_store.specs.Appending.{InputWent}
use Rattle.command_spec.specs.Append.{TooLong}
use Rattle.volume_store.proofs.Taking.{moved, promise_refused, promised_asked, promised_ends}
use Rattle.volume_store.proofs.appending.take_promised.Goals as goal
use Rattle.volume_store.proofs.appending.take_promised.Goals.{then-have-eq0-via-then-have-eq0}
use Rattle.volume_store.proofs.appending.take_promised.Goals.{then-have-eq0-via-else-have-eq0+then-count-have}

pub returns-then-have-eq0-clause-ends : goal.returns-then-have-eq0-clause-ends
returns-then-have-eq0-clause-ends g c =
    let words = c.args.map.now in
    let entries = c.args.table.now in
    let had : ℕ = room words entries in
    let is : c.free_room-have.result ≡ had = c.free_room-have.ensures in
    let have : c.from-then-have-eq0.result ≡ had = c.from-then-have-eq0.ensures ∙ is in
    let few : (had ≡ 0) ⊎ (had < c.args.count) =
    elim c.then-have-eq0.branch [
      | then-have-eq0-via-then-have-eq0 w ↦ inl (let none = w.if-have-eq0.true in omega arith)
      | then-have-eq0-via-else-have-eq0+then-count-have w ↦ inr (let more = w.if-count-have.true in omega arith)
    ] in
    let refused : InputWent g.T.Tape.means g.S.Source.means words entries (Some c.args.count)
    (reading c.args.unit.now.tape c.args.source.now) (reading c.args.unit.now.tape c.args.source.now) (TooLong c.args.count had) =
    promise_refused g.T.Tape.means g.S.Source.means words entries c.args.unit.now.tape c.args.source.now c.args.count few in
    subst (λ (n : ℕ). InputWent g.T.Tape.means g.S.Source.means words entries (Some c.args.count)
    (reading c.args.unit.now.tape c.args.source.now) (reading c.args.unit.now.tape c.args.source.now)
    (TooLong n c.from-then-have-eq0.result))
    (sym c.from.ensures)
    (subst (λ (n : ℕ). InputWent g.T.Tape.means g.S.Source.means words entries (Some c.args.count)
    (reading c.args.unit.now.tape c.args.source.now) (reading c.args.unit.now.tape c.args.source.now) (TooLong c.args.count n))
    (sym have) refused)

pub returns-clause-ends : goal.returns-clause-ends
returns-clause-ends g c =
    let words = c.args.map.now in
    let entries = c.args.table.now in
    let old = reading c.args.unit.now.tape c.args.source.now in
    let new = reading c.take_volume.new.unit.tape c.take_volume.new.source in
    promised_ends g.T.Tape.means g.S.Source.means words entries old new c.args.count
    (let is = c.free_room-have.ensures in let some = c.if-have-eq0.false in omega arith)
    (let is = c.free_room-have.ensures in let most = c.if-count-have.false in omega arith) c.take_volume.result
    (moved g.T.Tape.means g.S.Source.means words entries old new c.first_free.result c.args.count true c.take_volume.result
    c.first_free.ensures c.take_volume.ensures.ends)

pub returns-clause-asked : goal.returns-clause-asked
returns-clause-asked g c =
    let words = c.args.map.now in
    let entries = c.args.table.now in
    let old = reading c.args.unit.now.tape c.args.source.now in
    let new = reading c.take_volume.new.unit.tape c.take_volume.new.source in
    promised_asked g.T.Tape.means g.S.Source.means words entries old new c.args.count
    (let is = c.free_room-have.ensures in let some = c.if-have-eq0.false in omega arith)
    (let is = c.free_room-have.ensures in let most = c.if-count-have.false in omega arith) c.take_volume.result
    (moved g.T.Tape.means g.S.Source.means words entries old new c.first_free.result c.args.count true c.take_volume.result
    c.first_free.ensures c.take_volume.ensures.ends)

pub returns-then-have-eq0-clause-kept : goal.returns-then-have-eq0-clause-kept
returns-then-have-eq0-clause-kept g c = g.met.S.Source.keeps_itself c.args.source.now

pub returns-then-have-eq0-clause-keeps : goal.returns-then-have-eq0-clause-keeps
returns-then-have-eq0-clause-keeps g c = keeps_none c.requires.ready
