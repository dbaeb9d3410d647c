use Rattle.std.proofs.Common.{◌≡◌, ◌+◌, false, true, ◌∙◌, sym, arith}
use Rattle.command_spec.specs.Copying.{is_alike}
use Rattle.volume_copy.proofs.Lists.{alike_at, differs_at, differs_beyond}
use Rattle.volume_copy.proofs.comparing.first_difference.Goals as goal
use Rattle.volume_copy.proofs.comparing.first_difference.Goals.{then-index-count-via-then-index-count}
use Rattle.volume_copy.proofs.comparing.first_difference.Goals.{then-index-count-via-else-index-count+then-not-are_alike}
use Rattle.command_laws.proofs.MadeOutcomes.{entry_there}

pub returns-then-index-count : goal.returns-then-index-count
returns-then-index-count c =
    let from = c.args.from.now in
    let to = c.args.to.now in
    let i = c.loop-index.index in
    let copy = entry_there to.entries i (omega arith) in
    elim c.then-index-count.branch [
      | then-index-count-via-then-index-count w ↦
          sym (c.loop-index.invariant ∙ differs_beyond from.words from.entries to.words to.entries i (i + 1) copy.0
          (omega (arith, w.if-index-count.true)) copy.1)
      | then-index-count-via-else-index-count+then-not-are_alike w ↦
          let volume = entry_there from.entries i (omega (arith, w.if-index-count.false)) in
          let unlike : is_alike from.words volume.0 to.words copy.0 ≡ false = sym (w.are_alike.ensures volume.0 copy.0 volume.1 copy.1) ∙
          w.if-not-are_alike.true in
          sym (c.loop-index.invariant ∙ differs_at from.words from.entries to.words to.entries i (i + 1) volume.0 copy.0 volume.1 copy.1
          unlike)
    ]

pub loop-index-preserved : goal.loop-index-preserved
loop-index-preserved c =
    let from = c.args.from.now in
    let to = c.args.to.now in
    let i = c.loop-index.index in
    let volume = entry_there from.entries i (omega arith) in
    let copy = entry_there to.entries i (omega arith) in
    let like : is_alike from.words volume.0 to.words copy.0 ≡ true = sym (c.are_alike.ensures volume.0 copy.0 volume.1 copy.1) ∙
    c.if-not-are_alike.false in
    c.loop-index.invariant ∙ alike_at from.words from.entries to.words to.entries i (i + 1) volume.0 copy.0 volume.1 copy.1 like
