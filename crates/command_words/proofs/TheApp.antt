-- What building makes of the command that `clap` parses.
use Rattle.std.proofs.Common.{◌≡◌, refl, codes, true, List, [], ◌∷◌, Some}
use Rattle.clap.specs.Walk.{Rule, Text}
use Rattle.clap.specs.Simple.{Shape, built, filled, is_simple}
use Rattle.command_words.specs.Parsed.{command_arg, files_arg, flag_arg, the_app, value_arg}

-- an option with a value and one without, as they are built
abbrev pub value_rule : Text → Rule
value_rule name = filled (value_arg name)

abbrev pub flag_rule : Text → Rule
flag_rule name = filled (flag_arg name)

abbrev pub command_rule : Rule
command_rule = record (filled command_arg) { index = Some 1 }

abbrev pub files_rule : Rule
files_rule = record (filled files_arg) { index = Some 2 }

-- the positionals and the options that take a value
abbrev pub value_rules : List Rule → List Rule
value_rules rest =
    command_rule ∷ files_rule ∷ value_rule (codes "until") ∷ value_rule (codes "align") ∷ value_rule (codes "threshold") ∷ value_rule (codes "budget")
    ∷ value_rule (codes "schedule") ∷ value_rule (codes "workers") ∷ value_rule (codes "seed") ∷ value_rule (codes "size") ∷ rest

abbrev pub rules : List Rule
rules = value_rules (flag_rule (codes "flat") ∷ flag_rule (codes "report") ∷ [])

abbrev pub shape : Shape
shape = record the_app.top { rules = rules; disable_help_subcommand = true; is_built = true }

pub app_built : built the_app ≡ record { top = shape; subs = [] }
app_built = refl

pub app_simple : is_simple the_app ≡ true
app_simple = refl
