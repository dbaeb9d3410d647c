use Rattle.std.proofs.Common.{◌≡◌, ℕ, ◌+◌, ◌≤◌, ◌&&◌, Bool, true, false, List, length, ap, sym, ◌∙◌, arith}
use Rattle.dump_spec.specs.Given.{is_sure}
use Rattle.segment_salvage.proofs.SureData.{sure_from, sure_more, sure_end}
use Rattle.segment_salvage.specs.Reading.{mark_of}
use Rattle.segment_salvage.proofs.reading.SegmentReading.all_sure.Goals as goal

pub returns-then-not-is_sure : goal.returns-then-not-is_sure
returns-then-not-is_sure c =
    let place : ℕ = c.loop-place.place in
    let sectors : List (List ℕ) = c.args.sectors.now in
    let test : is_sure (mark_of c.args.self.now place) ≡ false = ap is_sure (sym c.mark.ensures) ∙ sym c.is_sure.ensures ∙
    c.if-not-is_sure.true in
    sym (sym c.loop-place.invariant ∙ sure_more c.args.self.now place sectors c.loop-place-test.true
    ∙ ap (λ (b : Bool). b && sure_from c.args.self.now (place + 1) sectors) test)

pub loop-place-preserved : goal.loop-place-preserved
loop-place-preserved c =
    let place : ℕ = c.loop-place.place in
    let sectors : List (List ℕ) = c.args.sectors.now in
    let test : is_sure (mark_of c.args.self.now place) ≡ true = ap is_sure (sym c.mark.ensures) ∙ sym c.is_sure.ensures ∙
    c.if-not-is_sure.false in
    ap (λ (b : Bool). b && sure_from c.args.self.now (place + 1) sectors) (sym test)
    ∙ sym (sure_more c.args.self.now place sectors c.loop-place-test.true) ∙ c.loop-place.invariant

pub returns : goal.returns
returns c =
    let end : length c.args.sectors.now ≤ c.loop-place.place = omega arith in
    sym (sure_end c.args.self.now c.loop-place.place c.args.sectors.now end) ∙ c.loop-place.invariant
