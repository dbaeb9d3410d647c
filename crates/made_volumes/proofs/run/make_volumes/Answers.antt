use Rattle.std.proofs.Common.{◌≡◌, ℕ, ◌+◌, List, [], ◌∷◌, length, Err, Ok, refl, ap, ◌∙◌, arith}
use Rattle.std.proofs.lemmas.Grind.{common_steps}
use Rattle.qic_base.specs.Alone.{around, no_sink}
use Rattle.cartridge_spec.specs.Table.{Entry}
use Rattle.volume_store.specs.Mounting.{StoreView}
use Rattle.qic_base.specs.declared.store_fault.StoreFault.{StoreFault}
use Rattle.command_spec.specs.Make.{ScrubAll, made_list}
use Rattle.made_volumes.proofs.Going.{same_store, wears_of_made, sums_of_made, make_unappended, make_appended, make_unworn, make_worn}
use Rattle.made_volumes.proofs.Going.{make_unscrubbed, make_scrubbed}
use Rattle.made_volumes.proofs.Listing.{listed_behind}
use Rattle.command_laws.proofs.MadeLoops.{length-made}
use Rattle.made_volumes.proofs.run.make_volumes.Goals as goal

pub returns-in_err-append_volumes-clause-ends : goal.returns-in_err-append_volumes-clause-ends
returns-in_err-append_volumes-clause-ends g c =
    let fault : StoreFault = c.in_err-append_volumes.field-0.0 in
    let is : c.from_residual.result ≡ Err fault = grind (arith, common_steps, c.from_residual.ensures) in
    let words : List ℕ = c.args.store.now.words in
    let es : List Entry = c.args.store.now.entries in
    rw is (make_unappended g.T.Tape.means g.K.Sink.means g.met.K.Sink.took_both g.met.K.Sink.took_nothing c.args.seed c.args.count words es
    (made_list c.args.seed c.args.count words es) refl
    c.args.sink.now c.args.unit.now.tape c.append_volumes.new.unit.tape fault c.in_err-append_volumes.ensures.ends)

pub wear_volumes-requires-clause-first : goal.wear_volumes-requires-clause-first
wear_volumes-requires-clause-first g c =
    let long : length c.append_volumes.new.store.entries ≡ length c.args.store.now.entries + c.args.count =
    ap length c.in_ok-append_volumes.ensures.list
    ∙ length-made c.args.seed c.args.store.now.words c.args.store.now.entries 1 c.args.count in
    let first : c.count-first.result ≡ length c.args.store.now.entries = c.count-first.ensures.count in
    omega (arith, long, first)

pub returns-in_err-wear_volumes-clause-ends : goal.returns-in_err-wear_volumes-clause-ends
returns-in_err-wear_volumes-clause-ends g c =
    let fault : StoreFault = c.in_err-wear_volumes.field-0.0 in
    let is : c.from_residual-in_err-wear_volumes.result ≡ Err fault =
    grind (arith, common_steps, c.from_residual-in_err-wear_volumes.ensures) in
    let words : List ℕ = c.args.store.now.words in
    let es : List Entry = c.args.store.now.entries in
    let made : List Entry = c.append_volumes.new.store.entries in
    let held : made ≡ made_list c.args.seed c.args.count words es = c.in_ok-append_volumes.ensures.list in
    let x = c.args.sink.now in
    let a = c.args.unit.now.tape in
    let b = c.append_volumes.new.unit.tape in
    let d = c.wear_volumes.new.unit.tape in
    rw is (make_appended g.T.Tape.means g.K.Sink.means g.met.K.Sink.took_both g.met.K.Sink.took_nothing c.args.seed c.args.count words es
    made held x a b (around d x) (Err fault) c.in_ok-append_volumes.ensures.ends
    (make_unworn g.T.Tape.means g.K.Sink.means g.met.K.Sink.took_both g.met.K.Sink.took_nothing c.args.seed c.args.count words es made held
    x a b d fault
    (wears_of_made g.T.Tape.means no_sink c.args.seed words c.append_volumes.new.store.words es made made c.count-first.result (around b tt)
    (around d tt) (Err fault)
    c.in_ok-append_volumes.ensures.format.words c.count-first.ensures.count (c.in_err-wear_volumes.ensures.ends c.args.seed))))

pub returns-in_err-scrub-clause-ends : goal.returns-in_err-scrub-clause-ends
returns-in_err-scrub-clause-ends g c =
    let fault : StoreFault = c.in_err-scrub.field-0.0 in
    let is : c.from_residual-in_err-scrub.result ≡ Err fault = grind (arith, common_steps, c.from_residual-in_err-scrub.ensures) in
    let words : List ℕ = c.args.store.now.words in
    let es : List Entry = c.args.store.now.entries in
    let made : List Entry = c.append_volumes.new.store.entries in
    let held : made ≡ made_list c.args.seed c.args.count words es = c.in_ok-append_volumes.ensures.list in
    let x = c.args.sink.now in
    let y = c.scrub.new.sink in
    let a = c.args.unit.now.tape in
    let b = c.append_volumes.new.unit.tape in
    let d = c.wear_volumes.new.unit.tape in
    let e = c.scrub.new.unit.tape in
    rw is (make_appended g.T.Tape.means g.K.Sink.means g.met.K.Sink.took_both g.met.K.Sink.took_nothing c.args.seed c.args.count words es
    made held x a b (around e y) (Err fault) c.in_ok-append_volumes.ensures.ends
    (make_worn g.T.Tape.means g.K.Sink.means g.met.K.Sink.took_both g.met.K.Sink.took_nothing c.args.seed c.args.count words es made held x
    a b d (around e y) (Err fault)
    (wears_of_made g.T.Tape.means no_sink c.args.seed words c.append_volumes.new.store.words es made made c.count-first.result (around b tt)
    (around d tt) (Ok tt)
    c.in_ok-append_volumes.ensures.format.words c.count-first.ensures.count (c.in_ok-wear_volumes.ensures.ends c.args.seed))
    (make_unscrubbed g.T.Tape.means g.K.Sink.means g.met.K.Sink.took_both g.met.K.Sink.took_nothing c.args.seed c.args.count words es made
    held x a b (around d x) (around e y) fault
    (same_store g.T.Tape.means g.K.Sink.means c.args.seed words c.wear_volumes.new.store.words made c.wear_volumes.new.store.entries
    (ScrubAll ∷ []) (around d x) (around e y) (Err fault)
    (ap (λ (s : StoreView). s.words) c.in_ok-wear_volumes.ensures.store ∙ c.in_ok-append_volumes.ensures.format.words)
    (ap (λ (s : StoreView). s.entries) c.in_ok-wear_volumes.ensures.store) (c.in_err-scrub.ensures.ends c.args.seed)))))

pub sum_volumes-requires-clause-first : goal.sum_volumes-requires-clause-first
sum_volumes-requires-clause-first g c =
    let long : length c.append_volumes.new.store.entries ≡ length c.args.store.now.entries + c.args.count =
    ap length c.in_ok-append_volumes.ensures.list
    ∙ length-made c.args.seed c.args.store.now.words c.args.store.now.entries 1 c.args.count in
    let same : length c.scrub.new.store.entries ≡ length c.append_volumes.new.store.entries =
    ap length c.in_ok-scrub.ensures.store.entries ∙ ap (λ (s : StoreView). length s.entries) c.in_ok-wear_volumes.ensures.store in
    let first : c.count-first.result ≡ length c.args.store.now.entries = c.count-first.ensures.count in
    omega (arith, long, same, first)

pub returns-clause-ends : goal.returns-clause-ends
returns-clause-ends g c =
    let words : List ℕ = c.args.store.now.words in
    let es : List Entry = c.args.store.now.entries in
    let made : List Entry = c.append_volumes.new.store.entries in
    let held : made ≡ made_list c.args.seed c.args.count words es = c.in_ok-append_volumes.ensures.list in
    let x = c.args.sink.now in
    let y = c.scrub.new.sink in
    let z = c.sum_volumes.new.sink in
    let a = c.args.unit.now.tape in
    let b = c.append_volumes.new.unit.tape in
    let d = c.wear_volumes.new.unit.tape in
    let e = c.scrub.new.unit.tape in
    let f = c.sum_volumes.new.unit.tape in
    let r = c.sum_volumes.result in
    let worn_words : c.wear_volumes.new.store.words ≡ words = ap (λ (s : StoreView). s.words) c.in_ok-wear_volumes.ensures.store
    ∙ c.in_ok-append_volumes.ensures.format.words in
    let worn_list : c.wear_volumes.new.store.entries ≡ made = ap (λ (s : StoreView). s.entries) c.in_ok-wear_volumes.ensures.store in
    make_appended g.T.Tape.means g.K.Sink.means g.met.K.Sink.took_both g.met.K.Sink.took_nothing c.args.seed c.args.count words es made held
    x a b (around f z) r c.in_ok-append_volumes.ensures.ends
    (make_worn g.T.Tape.means g.K.Sink.means g.met.K.Sink.took_both g.met.K.Sink.took_nothing c.args.seed c.args.count words es made held x
    a b d (around f z) r
    (wears_of_made g.T.Tape.means no_sink c.args.seed words c.append_volumes.new.store.words es made made c.count-first.result (around b tt)
    (around d tt) (Ok tt)
    c.in_ok-append_volumes.ensures.format.words c.count-first.ensures.count (c.in_ok-wear_volumes.ensures.ends c.args.seed))
    (make_scrubbed g.T.Tape.means g.K.Sink.means g.met.K.Sink.took_both g.met.K.Sink.took_nothing c.args.seed c.args.count words es made
    held x a b (around d x) (around e y) (around f z) r
    (same_store g.T.Tape.means g.K.Sink.means c.args.seed words c.wear_volumes.new.store.words made c.wear_volumes.new.store.entries
    (ScrubAll ∷ []) (around d x) (around e y) (Ok tt)
    worn_words worn_list (c.in_ok-scrub.ensures.ends c.args.seed))
    (sums_of_made g.T.Tape.means g.K.Sink.means c.args.seed words c.scrub.new.store.words es made c.scrub.new.store.entries
    c.count-first.result (around e y) (around f z) r
    (c.in_ok-scrub.ensures.store.words ∙ worn_words) (c.in_ok-scrub.ensures.store.entries ∙ worn_list) c.count-first.ensures.count
    (c.sum_volumes.ensures.ends c.args.seed))))

pub returns-in_err-wear_volumes-clause-list : goal.returns-in_err-wear_volumes-clause-list
returns-in_err-wear_volumes-clause-list g c =
    let fault : StoreFault = c.in_err-wear_volumes.field-0.0 in
    let is : c.from_residual-in_err-wear_volumes.result ≡ Err fault =
    grind (arith, common_steps, c.from_residual-in_err-wear_volumes.ensures) in
    rw is (listed_behind g.T.Tape.means no_sink c.args.seed c.args.count c.args.store.now c.wear_volumes.new.store _ _ _ _ _ (Err fault)
    (ap (λ (s : StoreView). s.entries) c.in_err-wear_volumes.ensures.store ∙ c.in_ok-append_volumes.ensures.list)
    c.in_err-wear_volumes.ensures.room (c.in_err-wear_volumes.ensures.ends c.args.seed))

pub returns-in_err-scrub-clause-list : goal.returns-in_err-scrub-clause-list
returns-in_err-scrub-clause-list g c =
    let fault : StoreFault = c.in_err-scrub.field-0.0 in
    let is : c.from_residual-in_err-scrub.result ≡ Err fault = grind (arith, common_steps, c.from_residual-in_err-scrub.ensures) in
    rw is (listed_behind g.T.Tape.means g.K.Sink.means c.args.seed c.args.count c.args.store.now c.scrub.new.store _ _ _ _ _ (Err fault)
    (c.in_err-scrub.ensures.store.entries ∙ ap (λ (s : StoreView). s.entries) c.in_ok-wear_volumes.ensures.store
    ∙ c.in_ok-append_volumes.ensures.list)
    c.in_err-scrub.ensures.room (c.in_err-scrub.ensures.ends c.args.seed))

pub returns-clause-list : goal.returns-clause-list
returns-clause-list g c =
    listed_behind g.T.Tape.means g.K.Sink.means c.args.seed c.args.count c.args.store.now c.sum_volumes.new.store _ _ _ _ _
    c.sum_volumes.result
    (c.sum_volumes.ensures.store.entries ∙ c.in_ok-scrub.ensures.store.entries
    ∙ ap (λ (s : StoreView). s.entries) c.in_ok-wear_volumes.ensures.store ∙ c.in_ok-append_volumes.ensures.list)
    c.sum_volumes.ensures.room (c.sum_volumes.ensures.ends c.args.seed)
