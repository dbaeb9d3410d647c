use Rattle.std.proofs.Common.{ℕ, ap, ◌∙◌}
use Rattle.sure_map.specs.Runs.{with_bytes}
use Rattle.sure_map.proofs.Mapping.{pushed}
use Rattle.sure_map.proofs.map.SureMap.push.Goals as goal

pub returns-then-goes_on-clause-map : goal.returns-then-goes_on-clause-map
returns-then-goes_on-clause-map g c = λ marks front is.
    pushed c.args.self.now _ c.args.mark c.args.count marks front c.if-count-eq0.false
    (c.with_bytes.ensures ∙ ap (λ (b : ℕ). with_bytes c.args.self.now.run b c.args.count) c.mark_byte-byte.ensures)
    c.with_bytes-2.ensures.more is

pub returns-else-goes_on-clause-map : goal.returns-else-goes_on-clause-map
returns-else-goes_on-clause-map g c = λ marks front is.
    pushed c.args.self.now _ c.args.mark c.args.count marks front c.if-count-eq0.false
    (c.with_bytes.ensures ∙ ap (λ (b : ℕ). with_bytes c.args.self.now.run b c.args.count) c.mark_byte-byte.ensures)
    c.with_bytes-2.ensures.more is
