use Rattle.std.proofs.Common.{◌≡◌, ◌≤◌, ℕ, List, [], ◌∷◌, Option, Result, Ok, Err, OnOk, arith, ap, ◌∙◌, length, refl, subst}
use Rattle.qic_base.proofs.Steps.{Done-nothing}
use Rattle.qic_base.specs.Acts.{Act, SinkFails}
use Rattle.qic_base.specs.Alone.{around}
use Rattle.qic_base.specs.Sink.{Wrote}
use Rattle.qic_base.specs.SinkCalls.{BrokeOff}
use Rattle.cartridge_laws.proofs.Places.{count_below}
use Rattle.cartridge_laws.specs.Segment.{sectors_of}
use Rattle.cartridge_spec.specs.Shape.{usable_count}
use Rattle.command_laws.proofs.Passing.{passed}
use Rattle.command_spec.specs.Scrub.{Counts, IsSearched, Looked}
use Rattle.command_spec.specs.declared.depth.Depth.{Depth}
use Rattle.segment_io.proofs.Going.{OnOk-then}
use Rattle.qic_base.specs.declared.store_fault.StoreFault.TheVariants.{Sink, Tape}
use Rattle.segment_mending.specs.declared.locating.Found.TheVariants.{Reads, Fails}
use Rattle.segment_mending.specs.declared.locating.Unread.{Unread}
use Rattle.segment_mending.specs.Locating.{Finds, IsDeep, MayMend, finding_of, mending, unread_saying}
use Rattle.segment_mending.specs.Looking.{Counted, with_mended}
use Rattle.segment_mending.specs.Mending.{reported}
use Rattle.segment_mending.proofs.Finding.{finds_by}
use Rattle.segment_mending.proofs.Reading.{act_cut, are_mended, are_unread, counted_mended, counted_unread, goes_behind, goes_unwritten}
use Rattle.segment_mending.proofs.Reading.{goes_written, looks_once, read_cut, telling}
use Rattle.segment_mending.proofs.looking.look_at.Goals as goal

counted_anyhow : {T E : Type 0} {P : Type 0} (result : Result T E) → P → OnOk result P
counted_anyhow (Ok done) counted = counted
counted_anyhow (Err why) counted = tt

pub count_mended-requires-clause-sectors : goal.count_mended-requires-clause-sectors
count_mended-requires-clause-sectors g c = omega (arith, count_below c.in-Reads.places 32, c.count.ensures)

pub returns-in_err-places-clause-looks : goal.returns-in_err-places-clause-looks
returns-in_err-places-clause-looks g c =
    let l : Looked = record { segment = c.args.segment; mask = c.args.usable } in
    let is : c.from_residual.result ≡ Err Tape = passed c.from_residual.result Tape c.from_residual.ensures.1 in
    rw is (read_cut g.T.Tape.means g.K.Sink.means g.met.K.Sink.took_nothing c.args.progress.now.depth l c.args.unit.now.tape
    c.find_in_segment.new.unit.tape c.args.sink.now c.in_err-places.ensures.did)

pub returns-in-Reads-clause-looks : goal.returns-in-Reads-clause-looks
returns-in-Reads-clause-looks g c =
    let l : Looked = record { segment = c.args.segment; mask = c.args.usable } in
    let depth : Depth = c.args.progress.now.depth in
    let places : ℕ = c.in-Reads.places in
    let wrong : Option ℕ = c.in-Reads.wrong in
    let work : List (List ℕ) = c.find_in_segment.new.work in
    let before : Counts = reported c.args.progress.now.report in
    let after : Counts = reported c.count_mended.new.self in
    let finds : Finds g.T.Tape.means c.args.unit.now.tape (IsSearched depth l) l (Reads places wrong) work =
    finds_by g.T.Tape.means c.args.unit.now.tape (IsDeep c.form_of-form.result) (IsSearched depth l) l (Reads places wrong) work
    (c.form_of-form.ensures c.args.usable) (rw c.in-Reads.is at c.in_ok-places.ensures.found) in
    let fits : MayMend (IsSearched depth l) l places wrong work = finds.may.fits in
    let room : usable_count c.args.usable ≤ length work = omega (arith, count_below c.args.usable 32, c.in_ok-places.ensures.room) in
    looks_once g.T.Tape.means g.K.Sink.means l (around c.args.unit.now.tape c.args.sink.now)
    (around c.mend.new.unit.tape c.mend.new.sink) (finding_of l (Reads places wrong) work) (mending l places wrong work)
    c.args.progress.now (record { depth = depth; report = c.count_mended.new.self }) c.mend.result
    (are_mended g.T.Tape.means c.args.unit.now.tape depth l places wrong work finds.told fits room)
    (goes_behind g.T.Tape.means g.K.Sink.means g.met.K.Sink.took_nothing g.met.K.Sink.took_both c.args.unit.now.tape
    c.find_in_segment.new.unit.tape c.args.sink.now
    (around c.mend.new.unit.tape c.mend.new.sink) (mending l places wrong work) c.mend.result c.in_ok-places.ensures.did
    c.mend.ensures.goes)
    (OnOk-then c.mend.result (after ≡ with_mended (length (sectors_of places)) before)
    (Counted (l ∷ []) (finding_of l (Reads places wrong) work ∷ []) (mending l places wrong work ∷ []) before after)
    (counted_mended l places wrong work before after fits.can_be_read)
    (counted_anyhow c.mend.result (c.count_mended.ensures ∙ ap (λ (n : ℕ). with_mended n before) c.count.ensures)))
    refl

pub returns-in_err-pass_over-in-Fails-clause-looks : goal.returns-in_err-pass_over-in-Fails-clause-looks
returns-in_err-pass_over-in-Fails-clause-looks g c =
    let l : Looked = record { segment = c.args.segment; mask = c.args.usable } in
    let depth : Depth = c.args.progress.now.depth in
    let why : Unread = c.in-Fails.why in
    let work : List (List ℕ) = c.find_in_segment.new.work in
    let m = c.find_in_segment.new.unit.tape in
    let act : Act = telling l (unread_saying l why work) in
    let finds : Finds g.T.Tape.means c.args.unit.now.tape (IsSearched depth l) l (Fails why) work =
    finds_by g.T.Tape.means c.args.unit.now.tape (IsDeep c.form_of-form.result) (IsSearched depth l) l (Fails why) work
    (c.form_of-form.ensures c.args.usable) (rw c.in-Fails.is at c.in_ok-places.ensures.found) in
    let broke : BrokeOff g.K.Sink.means c.args.sink.now c.pass_over.new.sink act.text =
    subst (BrokeOff g.K.Sink.means c.args.sink.now c.pass_over.new.sink) (c.unread_text.ensures c.args.usable work finds.may.fits)
    c.in_err-pass_over-in-Fails.ensures.wrote in
    let is : c.from_residual-in_err-pass_over-in-Fails.result ≡ Err Sink =
    passed c.from_residual-in_err-pass_over-in-Fails.result Sink c.from_residual-in_err-pass_over-in-Fails.ensures.1 in
    rw is (act_cut g.T.Tape.means g.K.Sink.means depth l (around c.args.unit.now.tape c.args.sink.now) (around m c.pass_over.new.sink)
    SinkFails (finding_of l (Fails why) work) act
    (are_unread g.T.Tape.means c.args.unit.now.tape depth l why work finds.told finds.may.fits)
    (goes_behind g.T.Tape.means g.K.Sink.means g.met.K.Sink.took_nothing g.met.K.Sink.took_both c.args.unit.now.tape m c.args.sink.now
    (around m c.pass_over.new.sink) act (Err Sink) c.in_ok-places.ensures.did
    (goes_unwritten g.T.Tape.means g.K.Sink.means m m c.args.sink.now c.pass_over.new.sink act (Done-nothing g.T.Tape.means m) broke)))

pub returns-in_ok-pass_over-in-Fails-clause-looks : goal.returns-in_ok-pass_over-in-Fails-clause-looks
returns-in_ok-pass_over-in-Fails-clause-looks g c =
    let l : Looked = record { segment = c.args.segment; mask = c.args.usable } in
    let depth : Depth = c.args.progress.now.depth in
    let why : Unread = c.in-Fails.why in
    let work : List (List ℕ) = c.find_in_segment.new.work in
    let m = c.find_in_segment.new.unit.tape in
    let act : Act = telling l (unread_saying l why work) in
    let finds : Finds g.T.Tape.means c.args.unit.now.tape (IsSearched depth l) l (Fails why) work =
    finds_by g.T.Tape.means c.args.unit.now.tape (IsDeep c.form_of-form.result) (IsSearched depth l) l (Fails why) work
    (c.form_of-form.ensures c.args.usable) (rw c.in-Fails.is at c.in_ok-places.ensures.found) in
    let wrote : Wrote g.K.Sink.means c.args.sink.now c.pass_over.new.sink act.text =
    subst (Wrote g.K.Sink.means c.args.sink.now c.pass_over.new.sink) (c.unread_text.ensures c.args.usable work finds.may.fits)
    c.in_ok-pass_over-in-Fails.ensures.wrote in
    looks_once g.T.Tape.means g.K.Sink.means l (around c.args.unit.now.tape c.args.sink.now) (around m c.pass_over.new.sink)
    (finding_of l (Fails why) work) act c.args.progress.now (record { depth = depth; report = c.pass_over.new.report }) (Ok tt)
    (are_unread g.T.Tape.means c.args.unit.now.tape depth l why work finds.told finds.may.fits)
    (goes_behind g.T.Tape.means g.K.Sink.means g.met.K.Sink.took_nothing g.met.K.Sink.took_both c.args.unit.now.tape m c.args.sink.now
    (around m c.pass_over.new.sink) act (Ok tt) c.in_ok-places.ensures.did
    (goes_written g.T.Tape.means g.K.Sink.means m m c.args.sink.now c.pass_over.new.sink act (Done-nothing g.T.Tape.means m) wrote))
    (counted_unread l why work (reported c.args.progress.now.report) (reported c.pass_over.new.report) finds.may.fits
    c.in_ok-pass_over-in-Fails.ensures.counted)
    refl
