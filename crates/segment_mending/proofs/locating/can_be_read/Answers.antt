use Rattle.std.proofs.Common.{ℕ, ◌<◌, Bool, true, cond, List, ap, arith, sym, take, ◌∙◌}
use Rattle.std.proofs.lemmas.Bool.{lt-ltb}
use Rattle.cartridge_laws.proofs.Segments.{count_of_whole}
use Rattle.cartridge_spec.specs.Header.{has_signature}
use Rattle.cartridge_laws.specs.Segment.{data_of}
use Rattle.cartridge_spec.specs.Shape.{usable_count}
use Rattle.segment_mending.proofs.locating.can_be_read.Goals as goal

pub returns-else-segment-ge-HEADER_COPIES : goal.returns-else-segment-ge-HEADER_COPIES
returns-else-segment-ge-HEADER_COPIES c =
    λ usable whole.
    let front : c.args.segment < 2 = omega arith in
    let work : List (List ℕ) = c.args.work.now in
    ap (λ (b : Bool). cond b (has_signature (data_of (take (usable_count usable) work))) true) (lt-ltb c.args.segment 2 front)
    ∙ ap (λ (mask : ℕ). has_signature (data_of (take (usable_count mask) work))) (whole front)
    ∙ ap (λ (n : ℕ). has_signature (data_of (take n work))) count_of_whole
    ∙ sym c.is_header.ensures
