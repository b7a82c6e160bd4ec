-- The command that `clap` parses: first the name of the command, then files, options with a value, and options
-- without one.
use Rattle.std.specs.Prelude.{◌≡◌, Bool, true, false, if◌then◌else◌, List, [], ◌∷◌, codes, drop, unwrap_or, Some}
use Rattle.std.specs.Option.{option_map}
use Rattle.clap.specs.Walk.{Rule}
use Rattle.clap.specs.Simple.{App, new_rule, new_shape}
use Rattle.clap.specs.Matches.{first_value, matched_of, one_text, raw_values}
use Rattle.clap.specs.declared.builder.action.ArgAction.TheVariants.{Append, SetTrue}
use Rattle.clap.specs.declared.parser.matches.Found.{Found}
use Rattle.command_words.specs.declared.name.CommandName.{CommandName}
use Rattle.command_words.specs.Table.{Text, is_one_of, row, same_text, takes_value}
use Rattle.command_words.specs.Words.{files_in, is_in_row, value_of}

-- the positional that is the command's name, the one of the files, an option with a value, and one without
abbrev pub command_arg : Rule
command_arg = new_rule (codes "command")

abbrev pub files_arg : Rule
files_arg = record (new_rule (codes "files")) { action = Some Append }

abbrev pub value_arg : Text → Rule
value_arg name = record (new_rule name) { long = Some name }

abbrev pub flag_arg : Text → Rule
flag_arg name = record (new_rule name) { long = Some name; action = Some SetTrue }

abbrev pub args : List Rule
args =
    command_arg ∷ files_arg ∷ value_arg (codes "until") ∷ value_arg (codes "align") ∷ value_arg (codes "threshold") ∷ value_arg (codes "budget")
    ∷ value_arg (codes "schedule") ∷ value_arg (codes "workers") ∷ value_arg (codes "seed") ∷ value_arg (codes "size") ∷ flag_arg (codes "flat")
    ∷ flag_arg (codes "report") ∷ []

-- an option that stands again would count anew; the rule has refused such words before
abbrev pub bare_app : App
bare_app = record {
  top = record (new_shape (codes "ssfnet")) { no_binary_name = true; disable_help_flag = true; disable_version_flag = true; args_override_self = true };
  subs = [];
}

abbrev pub the_app : App
the_app = record bare_app { top = record bare_app.top { rules = args } }

-- these words are in the row of this command
abbrev pub IsInTable : CommandName → List Text → Type 0
IsInTable name [] = ⊥
IsInTable name (word ∷ words) = (same_text word (row name).name ≡ true) × (is_in_row (row name) words ≡ true)

-- how `clap` tells whether an option without a value was given
abbrev pub flag_text : Bool → Text
flag_text given = if given then codes "true" else codes "false"

-- the matches have what stands behind the command's name
pub record IsMatched (found : Found) (words : List Text) : Type 0 where
  pub value : (option : Text) → takes_value option ≡ true → first_value found (drop 2 option) ≡ value_of option words
  pub flat : one_text found (codes "flat") ≡ Some (flag_text (is_one_of words (codes "--flat")))
  pub report : one_text found (codes "report") ≡ Some (flag_text (is_one_of words (codes "--report")))
  pub files : unwrap_or (option_map raw_values (matched_of found (codes "files"))) [] ≡ files_in false words
