-- The command line that is built is the one of the specs.
use Rattle.std.proofs.Common.{◌≡◌, ◌∙◌, ◌&&◌, Bool, true, false, List, [], ◌∷◌, map, not, is_some, refl, sym, ap}
use Rattle.std.specs.Prelude.{fold}
use Rattle.std.specs.List.{list_all}
use Rattle.clap.specs.Built.{AddsArg, AddsInTurn, AddsSubcommand}
use Rattle.clap.specs.Simple.{App, Shape, app_of, shape_of, with_rule, with_subcommand}
use Rattle.clap.specs.Walk.{Rule, is_empty, rule_of}
use Rattle.clap.specs.declared.builder.arg.Arg.{Arg}
use Rattle.clap.specs.declared.builder.command.Command.{Command}
use Rattle.clap.specs.declared.builder.command.Command.TheViews.{out-Command}
use Rattle.clap.proofs.WalkLemmas.{both}

pub not_true : (b : Bool) → not b ≡ true → b ≡ false
not_true false is = refl
not_true true is = sym is

-- ---- arguments that are added

-- the last of ten tests
last_test : (a b c d e f g h i j : Bool) → (a && (b && (c && (d && (e && (f && (g && (h && (i && j))))))))) ≡ true → j ≡ true
last_test true true true true true true true true true j is = is
last_test false b c d e f g h i j is = cc
last_test true false c d e f g h i j is = cc
last_test true true false d e f g h i j is = cc
last_test true true true false e f g h i j is = cc
last_test true true true true false f g h i j is = cc
last_test true true true true true false g h i j is = cc
last_test true true true true true true false h i j is = cc
last_test true true true true true true true false i j is = cc
last_test true true true true true true true true false j is = cc

-- an argument of a simple rule is of its own command alone
pub is_local : (a : Arg) → (rule_of a).is_simple ≡ true → a.global ≡ false
is_local a simple =
    not_true a.global (last_test (is_empty a.overrides.items) (is_empty a.default_vals_ifs.items) (is_empty a.groups.items)
    (not (is_some a.val_delim)) (not (is_some a.terminator)) (not a.allow_hyphen_values) (not a.allow_negative_numbers)
    (not a.require_equals) (not a.last) (not a.global) simple)

pub rules_added : (c d : Command) (xs : List Arg) → AddsInTurn AddsArg c xs d →
    list_all (λ (r : Rule). r.is_simple) (map rule_of xs) ≡ true →
    app_of d ≡ fold with_rule (app_of c) (map rule_of xs)
rules_added c d [] adds simple = ap app_of (sym adds)
rules_added c d (x ∷ xs) adds simple =
    let parts = both _ _ simple in
    rules_added adds.0 d xs adds.2 parts.1
    ∙ ap (λ (a : App). fold with_rule a (map rule_of xs)) (adds.1.shape (is_local x parts.0))

-- ---- subcommands that are added

-- a plain command has no argument that is of another, too
pub no_globals : (c : Command) → (shape_of c).is_plain ≡ true → (out-Command c).has_globals ≡ false
no_globals c plain =
    let globals = both _ _ (both _ _ (both _ _ plain).1).1 in
    not_true (out-Command c).has_globals globals.0

pub shapes_added : (c d : Command) (xs : List Command) → AddsInTurn AddsSubcommand c xs d →
    list_all (λ (s : Shape). s.is_plain) (map shape_of xs) ≡ true → app_of d ≡ fold with_subcommand (app_of c) (map shape_of xs)
shapes_added c d [] adds plain = ap app_of (sym adds)
shapes_added c d (x ∷ xs) adds plain =
    let parts = both _ _ plain in
    shapes_added adds.0 d xs adds.2 parts.1
    ∙ ap (λ (a : App). fold with_subcommand a (map shape_of xs)) (adds.1.shape (no_globals x parts.0))
