use Rattle.std.proofs.Common.{◌∙◌, sym}
use Rattle.clap.specs.Matches.{found_of}
use Rattle.clap.specs.Simple.{subcommand_rows_of}
use Rattle.clap.specs.Walk.{rows_of}
use Rattle.salvage_words.proofs.Asked.{entered, fits, fits_not, sure_told}
use Rattle.salvage_words.proofs.asking.read_command.Goals as goal

pub returns-then-options_fit : goal.returns-then-options_fit
returns-then-options_fit c =
    let m = c.args.matches.now in
    fits (rows_of (found_of m)) (subcommand_rows_of m) c.in_ok-name.name.now (rows_of (found_of c.in_ok-name.inner.now))
    c.is_set-whole.result c.is_some.result c.in_ok-command.command
    (entered m c.subcommand.result c.subcommand.ensures.name c.subcommand.ensures.rows
    (c.in_ok-name.name, c.in_ok-name.inner) c.in_ok-name.was)
    c.is_set-whole.ensures (c.is_some.ensures ∙ sure_told m c.get_str.result c.get_str.ensures)
    (sym c.command_named.ensures ∙ c.in_ok-command.was) (sym c.options_fit.ensures ∙ c.if-options_fit.true)

pub returns-else-options_fit : goal.returns-else-options_fit
returns-else-options_fit c =
    let m = c.args.matches.now in
    fits_not (rows_of (found_of m)) (subcommand_rows_of m) c.in_ok-name.name.now (rows_of (found_of c.in_ok-name.inner.now))
    c.is_set-whole.result c.is_some.result c.in_ok-command.command
    (entered m c.subcommand.result c.subcommand.ensures.name c.subcommand.ensures.rows
    (c.in_ok-name.name, c.in_ok-name.inner) c.in_ok-name.was)
    c.is_set-whole.ensures (c.is_some.ensures ∙ sure_told m c.get_str.result c.get_str.ensures)
    (sym c.command_named.ensures ∙ c.in_ok-command.was) (sym c.options_fit.ensures ∙ c.if-options_fit.false)
