use Rattle.std.proofs.Common.{◌≡◌, ◌∙◌, ◌++◌, [], ◌∷◌, ap, ap₂, codes}
use Rattle.std.proofs.lemmas.Result.{IfOk-weaker}
use Rattle.clap.specs.Simple.{App, Shape, shape_of}
use Rattle.clap.specs.Walk.{Rule}
use Rattle.salvage_words.specs.SalvageWords.{segment_rule, subcommand_shape}
use Rattle.salvage_words.proofs.Commands.{is_local}
use Rattle.salvage_words.proofs.command.segments_subcommand.Goals as goal

abbrev with_last : Shape → Rule → Shape
with_last s r = record s { rules = s.rules ++ r ∷ [] }

pub returns : goal.returns
returns c =
    let first = c.segment_argument-first.ensures in
    let last = c.segment_argument.ensures in
    let one : shape_of c.in_ok-with_first.with_first ≡ subcommand_shape (codes "segments") (segment_rule (codes "first") ∷ []) =
    ap (λ (a : App). a.top) (c.in_ok-with_first.ensures.shape
    (is_local c.segment_argument-first.result (ap (λ (r : Rule). r.is_simple) first)))
    ∙ ap₂ with_last c.plain_subcommand.ensures first in
    IfOk-weaker c.arg-2.result _ _ (λ m adds.
    ap (λ (a : App). a.top) (adds.shape (is_local c.segment_argument.result (ap (λ (r : Rule). r.is_simple) last)))
    ∙ ap₂ with_last one last) c.arg-2.ensures
