use Rattle.std.proofs.Common.{◌≡◌, ◌++◌, List, ℕ, length, replicate, ◌-◌, codes, decimal, ap, ◌∙◌}
use Rattle.std.proofs.lemmas.List.{drop-replicate}
use Rattle.qic_base.specs.Field.{filled}
use Rattle.made_volumes.proofs.appending.made_name.Goals as goal

pub returns : goal.returns
unfolding filled
returns c =
    let text : c.bytes-text.result.now ≡ codes "made-" ++ decimal c.args.volume =
    c.bytes-text.ensures ∙ c.push_number.ensures.number
    ∙ ap (λ (front : List ℕ). front ++ decimal c.from.result)
    (c.push_text.ensures ∙ ap (λ (front : List ℕ). front ++ codes "made-") c.new-line.ensures)
    ∙ ap (λ (n : ℕ). codes "made-" ++ decimal n) c.from.ensures in
    rw c.from_bytes.ensures (rw c.copy_from_slice.ensures.after
    (ap (λ (pads : List ℕ). c.bytes-text.result.now ++ pads) (drop-replicate (length c.bytes-text.result.now) 44 0x20)
    ∙ ap (λ (front : List ℕ). front ++ replicate (44 - length front) 0x20) text))
