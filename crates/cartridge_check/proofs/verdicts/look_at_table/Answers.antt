use Rattle.std.proofs.Common.{◌∙◌, [], ap, arith, ℕ, List, subst, sym}
use Rattle.command_spec.specs.Check.{IsTold}
use Rattle.command_spec.specs.Scrub.{whole_segment}
use Rattle.command_spec.specs.declared.verdict.Verdict.TheVariants.{Gone}
use Rattle.qic_base.proofs.Steps.{Done-Does, tells_two}
use Rattle.qic_base.specs.CartridgeTerms.{IsCartridge}
use Rattle.qic_base.specs.TapeCalls.{Tells}
use Rattle.segment_mending.specs.Searching.{SearchFinds}
use Rattle.segment_mending.specs.declared.locating.Unread.{Unread}
use Rattle.segment_mending.specs.declared.locating.Unread.TheVariants.{Lost, Mismatch}
use Rattle.segment_mending.specs.declared.searching.Searched.{Searched}
use Rattle.segment_mending.specs.declared.searching.Searched.TheVariants.{Reads, Wrong, Fails}
use Rattle.cartridge_check.proofs.Front.{reads_front}
use Rattle.cartridge_check.proofs.Table.{lost_table_told, read_table_told, told_later, undecided_table_told, whole_told, wrong_table_told}
use Rattle.cartridge_check.specs.Verdicts.{IsJudged, IsUndecided}
use Rattle.cartridge_check.proofs.verdicts.look_at_table.Goals as goal

pub search_segment-requires-clause-can : goal.search_segment-requires-clause-can
search_segment-requires-clause-can g c = reads_front 2 c.requires.ready c.requires.referenced c.requires.mode (omega arith)

pub returns-in-Reads-clause-told : goal.returns-in-Reads-clause-told
returns-in-Reads-clause-told g c =
    let m = g.T.Tape.means in
    let tape = c.args.unit.now.tape in
    let work : List (List ℕ) = c.search_segment.new.work in
    let lost : ℕ = c.in-Reads.lost in
    tells_two m tape IsCartridge (λ c'. SearchFinds c' (whole_segment 2) (Reads lost) work)
    (λ c'. IsTold c' (whole_segment 2) c.read_but.result)
    (λ c' whole is. subst (IsTold c' (whole_segment 2)) (sym c.read_but.ensures) (read_table_told c' lost work whole is))
    (whole_told m tape (g.met.T.Tape.told_right tape))
    (subst (λ (s : Searched). Tells m tape (λ c'. SearchFinds c' (whole_segment 2) s work)) c.in-Reads.is
    c.in_ok-found.ensures.found)

pub returns-in-Fails-Lost-clause-told : goal.returns-in-Fails-Lost-clause-told
returns-in-Fails-Lost-clause-told g c =
    let m = g.T.Tape.means in
    let tape = c.args.unit.now.tape in
    let work : List (List ℕ) = c.search_segment.new.work in
    let lost : ℕ = c.in-Fails-Lost.lost in
    tells_two m tape IsCartridge (λ c'. SearchFinds c' (whole_segment 2) (Fails (Lost lost)) work)
    (λ c'. IsTold c' (whole_segment 2) (Gone lost))
    (λ c' whole is. lost_table_told c' lost work whole is)
    (whole_told m tape (g.met.T.Tape.told_right tape))
    (subst (λ (s : Searched). Tells m tape (λ c'. SearchFinds c' (whole_segment 2) s work))
    (c.in-Fails-Lost.is ∙ ap (λ (why : Unread). Fails why) (rw c.in-Fails-Lost.is at c.in-Fails-Lost.field-0-is))
    c.in_ok-found.ensures.found)

pub returns-in-Wrong-clause-did : goal.returns-in-Wrong-clause-did
returns-in-Wrong-clause-did g c =
    Done-Does g.T.Tape.means c.args.unit.now.tape c.search_segment.new.unit.tape c.look_at_wrong.new.unit.tape [] []
    c.look_at_wrong.result c.in_ok-found.ensures.did
    c.look_at_wrong.ensures.did

pub returns-in-Wrong-clause-told : goal.returns-in-Wrong-clause-told
returns-in-Wrong-clause-told g c =
    let m = g.T.Tape.means in
    let tape = c.args.unit.now.tape in
    let work : List (List ℕ) = c.search_segment.new.work in
    let sector : ℕ = c.in-Wrong.sector in
    told_later m tape c.search_segment.new.unit.tape (λ c'. SearchFinds c' (whole_segment 2) (Wrong sector) work)
    (λ verdict c'. IsJudged c' sector verdict)
    (λ verdict c'. IsTold c' (whole_segment 2) verdict) c.look_at_wrong.result
    (λ verdict c' is judged. wrong_table_told c' sector work verdict is judged) c.in_ok-found.ensures.did
    (subst (λ (s : Searched). Tells m tape (λ c'. SearchFinds c' (whole_segment 2) s work)) c.in-Wrong.is
    c.in_ok-found.ensures.found)
    c.look_at_wrong.ensures.judged

pub returns-in-Fails-Mismatch-clause-did : goal.returns-in-Fails-Mismatch-clause-did
returns-in-Fails-Mismatch-clause-did g c =
    Done-Does g.T.Tape.means c.args.unit.now.tape c.search_segment.new.unit.tape c.look_at_undecided.new.unit.tape [] []
    c.look_at_undecided.result
    c.in_ok-found.ensures.did c.look_at_undecided.ensures.did

pub returns-in-Fails-Mismatch-clause-told : goal.returns-in-Fails-Mismatch-clause-told
returns-in-Fails-Mismatch-clause-told g c =
    let m = g.T.Tape.means in
    let tape = c.args.unit.now.tape in
    let work : List (List ℕ) = c.search_segment.new.work in
    told_later m tape c.search_segment.new.unit.tape (λ c'. SearchFinds c' (whole_segment 2) (Fails Mismatch) work)
    (λ verdict c'. IsUndecided c' verdict)
    (λ verdict c'. IsTold c' (whole_segment 2) verdict) c.look_at_undecided.result
    (λ verdict c' is und. undecided_table_told c' work verdict is und) c.in_ok-found.ensures.did
    (subst (λ (s : Searched). Tells m tape (λ c'. SearchFinds c' (whole_segment 2) s work))
    (c.in-Fails-Mismatch.is ∙ ap (λ (why : Unread). Fails why) (rw c.in-Fails-Mismatch.is at c.in-Fails-Mismatch.field-0-is))
    c.in_ok-found.ensures.found)
    c.look_at_undecided.ensures.undecided
