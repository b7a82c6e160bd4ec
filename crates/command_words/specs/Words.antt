-- The words after the program's name: a command, and then its options and file names in any order.
use Rattle.std.specs.Prelude.{ℕ, ◌≡◌, ◌≤◌, Bool, false, true, nat_eq, nat_le, ◌&&◌, ◌||◌, not, if◌then◌else◌, List, [], ◌∷◌, length, drop, slice_index, slice_get, codes, Option, Some, None}
use Rattle.std.specs.Option.{option_map, option_map_or}
use Rattle.std.specs.List.{list_all}
use Rattle.command_words.specs.declared.command.Command.{Command}
use Rattle.command_words.specs.declared.command.Command.TheVariants as command
use Rattle.command_words.specs.declared.command.Align.{Align}
use Rattle.command_words.specs.declared.command.Align.TheVariants as align
use Rattle.command_words.specs.declared.name.CommandName.{CommandName}
use Rattle.command_words.specs.declared.name.CommandName.TheVariants.{Dml, Check, Plan, Seq, Step, Run, Gen}
use Rattle.command_words.specs.Numbers.{value_of_digits}
use Rattle.command_words.specs.Table.{Text, same_text, is_one_of, Row, row, named, options_of, takes_value, fits_option, LatestUntil, LargestBudget, DefaultBudget, MostParts, LargestThreshold, DefaultThreshold, MostWorkers, DefaultWorkers, LargestSeed, LargestSize, DefaultSize}

-- The rule: which words are in the table.

-- the name of an option begins with `-` (45)
abbrev pub begins_with_dash : Text → Bool
begins_with_dash word = nat_eq (slice_index word 0) 45

-- a word that may be a value or the name of a file: it is not empty and does not begin with `-`
abbrev pub is_plain_word : Text → Bool
is_plain_word word = not (nat_eq (length word) 0) && not (begins_with_dash word)

-- a word is an option of the row, or a plain one
abbrev pub is_word_of : Row → Text → Bool
is_word_of r word = is_plain_word word || is_one_of (options_of r) word

-- no option stands twice
unfoldable pub stand_once : List Text → Bool
stand_once [] = true
stand_once (word ∷ words) = not (begins_with_dash word && is_one_of words word) && stand_once words

-- this word is a value of the option
abbrev pub is_value_of : Text → Option Text → Bool
is_value_of option None = false
is_value_of option (Some word) = is_plain_word word && fits_option option word

-- an option that takes a value has this word for it
abbrev pub has_value : Text → Option Text → Bool
has_value word next = not (takes_value word) || is_value_of word next

-- behind each option that takes a value stands a value of it
unfoldable pub have_values : List Text → Bool
have_values [] = true
have_values (word ∷ words) = has_value word (slice_get words 0) && have_values words

-- the names of files: the words that are neither options nor the values of options. The first word is a value where
-- it stands behind an option that takes one
unfoldable pub files_in : Bool → List Text → List Text
files_in behind [] = []
files_in true (word ∷ words) = files_in false words
files_in false (word ∷ words) = if begins_with_dash word then files_in (takes_value word) words else word ∷ files_in false words

-- so many files are of the row
abbrev pub has_room : Row → ℕ → Bool
has_room r files = nat_le r.least_files files && nat_le files r.most_files

-- these words stand behind the name of the row's command
abbrev pub is_in_row : Row → List Text → Bool
is_in_row r words =
    list_all (is_word_of r) words && (stand_once words && (have_values words
    && (list_all (is_one_of words) r.must_have && has_room r (length (files_in false words)))))

-- the command, where the words behind its name are in its row
abbrev pub in_row_of : Option CommandName → List Text → Option CommandName
in_row_of None words = None
in_row_of (Some name) words = if is_in_row (row name) words then Some name else None

-- the command of these words, where they are in the table
unfoldable pub command_in_table : List Text → Option CommandName
command_in_table [] = None
command_in_table (name ∷ words) = in_row_of (named name) words

-- What words in the table ask.

-- the word behind an option
unfoldable pub value_of : Text → List Text → Option Text
value_of option [] = None
value_of option (word ∷ words) = if same_text word option then slice_get words 0 else value_of option words

-- the number of an option, or its default
abbrev pub number_or : ℕ → Option Text → ℕ
number_or default value = option_map_or value_of_digits value default

abbrev pub align_of : Text → Align
align_of word =
    if same_text word (codes "one") then align.One
    else if same_text word (codes "host") then align.Host
    else if same_text word (codes "net") then align.Net
    else align.Parts (value_of_digits word)

-- the alignment that is asked, `net` by default
abbrev pub align_or_net : Option Text → Align
align_or_net value = option_map_or align_of value align.Net

-- the command with its numbers, by the values of the options and whether `--flat` is given
abbrev pub command_by : CommandName → (Text → Option Text) → Bool → Command
command_by Dml value flat = command.Dml flat
command_by Check value flat = command.Check
command_by Plan value flat = command.Plan
command_by Seq value flat = command.Seq (number_or 0 (value (codes "--until"))) (number_or DefaultBudget (value (codes "--budget")))
command_by Step value flat =
    command.Step (number_or 0 (value (codes "--until"))) (number_or DefaultBudget (value (codes "--budget"))) (align_or_net (value (codes "--align")))
    (number_or DefaultThreshold (value (codes "--threshold")))
command_by Run value flat =
    command.Run (number_or 0 (value (codes "--until"))) (number_or DefaultBudget (value (codes "--budget"))) (align_or_net (value (codes "--align")))
    (number_or DefaultThreshold (value (codes "--threshold"))) (number_or DefaultWorkers (value (codes "--workers")))
command_by Gen value flat = command.Gen (number_or 0 (value (codes "--seed"))) (number_or DefaultSize (value (codes "--size")))

-- what is asked: a command, its schedule where one is given, whether a report is wanted, and the names of the files
pub record Asked : Type 0 where
  pub command : Command
  pub schedule : Option Text
  pub report : Bool
  pub files : List Text

abbrev pub asked_by : CommandName → List Text → Asked
asked_by name words = record {
  command = command_by name (λ option. value_of option words) (is_one_of words (codes "--flat"));
  schedule = value_of (codes "--schedule") words;
  report = is_one_of words (codes "--report");
  files = files_in false words;
}

-- what these words ask of the program
unfoldable pub asked_of_words : List Text → Option Asked
asked_of_words words = option_map (λ name. asked_by name (drop 1 words)) (command_in_table words)

-- What holds of what is asked.

abbrev pub IsAlignInRange : Align → Type 0
IsAlignInRange (align.Parts parts) = (1 ≤ parts) × (parts ≤ MostParts)
IsAlignInRange _ = Unit {0}

-- the numbers that a command is asked lie in their ranges
abbrev pub IsInRange : Command → Type 0
IsInRange (command.Dml flat) = Unit {0}
IsInRange command.Check = Unit {0}
IsInRange command.Plan = Unit {0}
IsInRange (command.Seq until budget) = (until ≤ LatestUntil) × (1 ≤ budget) × (budget ≤ LargestBudget)
IsInRange (command.Step until budget aligned threshold) =
    (until ≤ LatestUntil) × (1 ≤ budget) × (budget ≤ LargestBudget) × IsAlignInRange aligned × (threshold ≤ LargestThreshold)
IsInRange (command.Run until budget aligned threshold workers) =
    (until ≤ LatestUntil) × (1 ≤ budget) × (budget ≤ LargestBudget) × IsAlignInRange aligned × (threshold ≤ LargestThreshold) × (1 ≤ workers) × (workers ≤ MostWorkers)
IsInRange (command.Gen seed size) = (seed ≤ LargestSeed) × (1 ≤ size) × (size ≤ LargestSize)

-- each value fits its option
abbrev pub AllFit : (Text → Option Text) → Type 0
AllFit value = (option : Text) → takes_value option ≡ true → (v : Text) → value option ≡ Some v → fits_option option v ≡ true
