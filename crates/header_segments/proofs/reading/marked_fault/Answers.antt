use Rattle.std.proofs.Common.{◌≡◌, ◌<◌, length, get_or, sym, ap, ◌∙◌, arith}
use Rattle.std.specs.Option.{option_map}
use Rattle.header_segments.specs.Refusal.{foreign}
use Rattle.header_segments.proofs.Refusals.{map_fault-first}
use Rattle.cartridge_laws.proofs.HeaderRefusals.{map_fault-none, word_in-read, length-words_in}
use Rattle.header_segments.proofs.reading.marked_fault.Goals as goal

pub returns-then-usable-clause-fault : goal.returns-then-usable-clause-fault
returns-then-usable-clause-fault c area segments is =
    let count : length c.args.map.now ≡ segments = length-words_in area c.args.map.now segments is in
    let below : c.loop-segment.segment < 3 = omega arith in
    let here : get_or c.args.map.now c.loop-segment.segment 0 ≡ _ = word_in-read area c.args.map.now segments c.loop-segment.segment is
    (omega arith) in
    sym (ap (option_map foreign)
    (map_fault-first area c.loop-segment.segment below
    (λ j before. sym (word_in-read area c.args.map.now segments j is (omega arith)) ∙ c.loop-segment.invariant j before)
    (λ good. let zero_word = here ∙ good in c.if-usable.true (omega (arith, c.usable.ensures, zero_word)))))

pub returns-clause-fault : goal.returns-clause-fault
returns-clause-fault c area segments is =
    let count : length c.args.map.now ≡ segments = length-words_in area c.args.map.now segments is in
    sym (ap (option_map foreign)
    (map_fault-none area (λ s below.
    sym (word_in-read area c.args.map.now segments s is (omega arith)) ∙ c.loop-segment.invariant s (omega arith))))
