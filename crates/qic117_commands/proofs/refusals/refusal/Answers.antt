use Rattle.std.proofs.Common.{◌∙◌, ap, inl, inr, is_some}
use Rattle.qic117_commands.specs.Refusals.{first_refusal, refusal_rows}
use Rattle.qic117_commands.proofs.Rows.{first_code-map, sameb-seeking, sameb-streaming, sameb-primary, sameb-format, sameb-verify}
use Rattle.qic117_commands.proofs.Rows.{first_refusal-reset, first_refusal-report_next_bit, is_some-first_refusal}
use Rattle.qic117_commands.proofs.refusals.refusal.Goals as goal

pub returns-clause-first : goal.returns-clause-first
unfolding first_refusal
returns-clause-first c =
    let view = c.args.view.now in
    let seeking = c.eq-seeking.ensures ∙ sameb-seeking view.motion in
    let streaming = c.eq-streaming.ensures ∙ sameb-streaming view.motion in
    let primary = c.eq-primary.ensures ∙ sameb-primary view.mode in
    let format = c.eq-format.ensures ∙ sameb-format view.mode in
    let verify = c.eq-verify.ensures ∙ sameb-verify view.mode in
    c.first_refusing.ensures ∙ rw (
      c.is_unsupported.ensures,
      c.is_diagnostic.ensures,
      c.needs_cartridge.ensures,
      c.waits_for_seek.ensures,
      c.waits_for_stop.ensures,
      c.illegal_in_primary.ensures,
      c.illegal_in_format.ensures,
      c.illegal_in_verify.ensures,
      c.needs_writable.ensures,
      c.needs_known_cartridge.ensures,
      c.needs_reference.ensures,
      c.needs_logical_bot.ensures,
      c.stands_past_bot-past_bot.ensures,
      seeking,
      streaming,
      primary,
      format,
      verify,
    ) (first_code-map view c.args.command refusal_rows)

pub returns-clause-obeyed : goal.returns-clause-obeyed
returns-clause-obeyed c h =
    elim h [
      | inl reset ↦ ap is_some (returns-clause-first c ∙ ap (first_refusal c.args.view.now) reset
          ∙ first_refusal-reset c.args.view.now)
      | inr next ↦ ap is_some
          (returns-clause-first c ∙ ap (first_refusal c.args.view.now) next ∙ first_refusal-report_next_bit c.args.view.now)
    ]

pub returns-clause-refused : goal.returns-clause-refused
returns-clause-refused c = ap is_some (returns-clause-first c) ∙ is_some-first_refusal c.args.view.now c.args.command
