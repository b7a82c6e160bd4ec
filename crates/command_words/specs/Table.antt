-- The table of the commands: the files and the options of each, and what the values of the options may be.
use Rattle.std.specs.Prelude.{ℕ, Bool, false, ◌||◌, if◌then◌else◌, List, [], ◌∷◌, ◌++◌, codes, find, Option, is_some}
use Rattle.std.specs.List.{list_any}
use Rattle.std.specs.Str.{bytes_eq}
use Rattle.command_words.specs.declared.name.CommandName.{CommandName}
use Rattle.command_words.specs.declared.name.CommandName.TheVariants.{Dml, Check, Plan, Seq, Step, Run, Gen}
use Rattle.command_words.specs.Numbers.{number_within}
use Rattle.command_words.specs.Schedule.{is_schedule}

abbrev pub Text : Type 0
Text = List ℕ

-- two texts are the same
abbrev pub same_text : Text → Text → Bool
same_text a b = bytes_eq a b

-- a text is one of these
abbrev pub is_one_of : List Text → Text → Bool
is_one_of texts word = list_any (λ text. same_text word text) texts

abbrev pub MostFiles : ℕ
MostFiles = 64

-- a command, the least and the most number of its files, and the options that stand with it: those that must, and
-- those that may
pub record Row : Type 0 where
  pub name : Text
  pub least_files : ℕ
  pub most_files : ℕ
  pub must_have : List Text
  pub may_have : List Text

-- a command on the 1 to 64 files of a model
abbrev pub on_files : Text → List Text → List Text → Row
on_files name must may = record { name = name; least_files = 1; most_files = MostFiles; must_have = must; may_have = may }

-- a command on no files
abbrev pub on_none : Text → List Text → List Text → Row
on_none name must may = record { name = name; least_files = 0; most_files = 0; must_have = must; may_have = may }

-- the name, the options that a command must have, and those that it may have
abbrev pub row : CommandName → Row
row Dml = on_files (codes "dml") [] (codes "--flat" ∷ [])
row Check = on_files (codes "check") [] []
row Plan = on_files (codes "plan") [] []
row Seq = on_files (codes "seq") (codes "--until" ∷ []) (codes "--budget" ∷ codes "--report" ∷ [])
row Step = on_files (codes "step") (codes "--until" ∷ []) (codes "--align" ∷ codes "--threshold" ∷ codes "--budget" ∷ codes "--schedule" ∷ codes "--report" ∷ [])
row Run = on_files (codes "run") (codes "--until" ∷ []) (codes "--align" ∷ codes "--threshold" ∷ codes "--budget" ∷ codes "--workers" ∷ codes "--report" ∷ [])
row Gen = on_none (codes "gen") (codes "--seed" ∷ []) (codes "--size" ∷ [])

abbrev pub commands : List CommandName
commands = Dml ∷ Check ∷ Plan ∷ Seq ∷ Step ∷ Run ∷ Gen ∷ []

-- the command of this name
abbrev pub named : Text → Option CommandName
named word = find (λ c. same_text word (row c).name) commands

-- the options of a command
abbrev pub options_of : Row → List Text
options_of r = r.must_have ++ r.may_have

-- the options that take a value; `--flat` and `--report` take none
abbrev pub value_options : List Text
value_options = codes "--until" ∷ codes "--align" ∷ codes "--threshold" ∷ codes "--budget" ∷ codes "--schedule" ∷ codes "--workers" ∷ codes "--seed" ∷ codes "--size" ∷ []

abbrev pub takes_value : Text → Bool
takes_value word = is_one_of value_options word

-- The ranges of values, and what stands for an option that is left out.

-- the latest end time, in ticks
abbrev pub LatestUntil : ℕ
LatestUntil = 1000000000000000000

-- the largest budget of events
abbrev pub LargestBudget : ℕ
LargestBudget = 1000000000000

abbrev pub DefaultBudget : ℕ
DefaultBudget = 1000000000

-- the most timelines that entities may be parted into
abbrev pub MostParts : ℕ
MostParts = 4096

-- the largest threshold, in ticks
abbrev pub LargestThreshold : ℕ
LargestThreshold = 1000000000000000

abbrev pub DefaultThreshold : ℕ
DefaultThreshold = 0

abbrev pub MostWorkers : ℕ
MostWorkers = 64

abbrev pub DefaultWorkers : ℕ
DefaultWorkers = 4

abbrev pub LargestSeed : ℕ
LargestSeed = 1000000000000000000

abbrev pub LargestSize : ℕ
LargestSize = 1000

abbrev pub DefaultSize : ℕ
DefaultSize = 10

-- a number in this range
abbrev pub is_within : ℕ → ℕ → Text → Bool
is_within least most word = is_some (number_within least most word)

-- `one`, `host`, `net`, or a number of parts
abbrev pub is_alignment : Text → Bool
is_alignment word = is_one_of (codes "one" ∷ codes "host" ∷ codes "net" ∷ []) word || is_within 1 MostParts word

-- a word may be the value of this option
abbrev pub fits_option : Text → Text → Bool
fits_option option word =
    if same_text option (codes "--until") then is_within 0 LatestUntil word
    else if same_text option (codes "--align") then is_alignment word
    else if same_text option (codes "--threshold") then is_within 0 LargestThreshold word
    else if same_text option (codes "--budget") then is_within 1 LargestBudget word
    else if same_text option (codes "--schedule") then is_schedule word
    else if same_text option (codes "--workers") then is_within 1 MostWorkers word
    else if same_text option (codes "--seed") then is_within 0 LargestSeed word
    else if same_text option (codes "--size") then is_within 1 LargestSize word
    else false
