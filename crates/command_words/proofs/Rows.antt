-- What the rows have of one argument, after uses of it and of others.
use Rattle.std.proofs.Common.{◌≡◌, ◌∙◌, ap, refl, sym, codes, true, false, not, List, [], ◌∷◌, ◌++◌, Some, None, Option, Bool, cond, ◌||◌, true≢false, is_some}
use Rattle.std.specs.List.{find, fold, list_all}
use Rattle.std.specs.Option.{option_map_or}
use Rattle.std.specs.Str.{bytes_eq}
use Rattle.std.proofs.lemmas.Slice.Eq.{bytes_eq-Decides}
use Rattle.clap.proofs.WalkLemmas.{both}
use Rattle.clap.specs.declared.builder.value_parser.Reading.{Reading}
use Rattle.clap.specs.declared.parser.matches.ValueSource.{ValueSource}
use Rattle.clap.specs.declared.parser.matches.ValueSource.TheVariants.{CommandLine, DefaultValue}
use Rattle.clap.specs.Walk.{Row, Rule, at_row, default_rows, has_row, more_values, reading_by, used, with_default, with_values, without}
use Rattle.command_words.specs.Table.{Text}
use Rattle.command_words.proofs.TheApp.{files_rule, flag_rule, value_rule}
use Rattle.command_words.proofs.Steps.{has_none, is_undefaulted}
use Rattle.command_words.proofs.WordKinds.{not_true, or_else}

abbrev pub look : Text → List Row → Option Row
look id rows = find (λ r. bytes_eq r.id id) rows

-- the row of an argument that got these values
abbrev pub new_row : Text → Reading → ValueSource → List Text → Row
new_row id how source values = record { id = id; values = values; count = None; source = Some source; reading = how }

abbrev pub value_row : Text → Text → Row
value_row id v = new_row id (reading_by (value_rule id)) CommandLine (v ∷ [])

abbrev pub flag_row : Text → Row
flag_row id = new_row id (reading_by (flag_rule id)) CommandLine (codes "true" ∷ [])

-- ---- the row of another argument

-- a row with the id j is not the one of i
of_other : (r : Row) (i j : Text) → bytes_eq r.id j ≡ true → bytes_eq j i ≡ false → bytes_eq r.id i ≡ false
of_other r i j is other = ap (λ (t : Text). bytes_eq t i) ((bytes_eq-Decides r.id j).0 is) ∙ other

other_at : (i j : Text) → bytes_eq j i ≡ false → (change : Row → List Row) (missing : List Row)
    → ((r : Row) (rest : List Row) → bytes_eq r.id i ≡ false → look i (change r ++ rest) ≡ look i rest) → look i missing ≡ None → (rows : List Row)
    → look i (at_row j change missing rows) ≡ look i rows
other_at i j other change missing changed none [] = none
other_at i j other change missing changed none (r ∷ rows) = go (bytes_eq r.id j) refl (other_at i j other change missing changed none rows)
  where
    go : (b : Bool) → bytes_eq r.id j ≡ b → look i (at_row j change missing rows) ≡ look i rows
        → look i (cond b (change r ++ rows) (r ∷ at_row j change missing rows)) ≡ look i (r ∷ rows)
    go true is later = let else_row = of_other r i j is other in changed r rows else_row ∙ rw else_row refl
    go false is later = ap (λ (o : Option Row). cond (bytes_eq r.id i) (Some r) o) later

without_other : (i j : Text) → bytes_eq j i ≡ false → (rows : List Row) → look i (without j rows) ≡ look i rows
without_other i j other rows = other_at i j other (λ _. []) [] (λ r rest differs. refl) refl rows

values_other : (i j : Text) → bytes_eq j i ≡ false → (how : Reading) (source : ValueSource) (values : List Text) (rows : List Row)
    → look i (with_values j how source values rows) ≡ look i rows
values_other i j other how source values rows = other_at i j other (more_values source values) (new_row j how source values ∷ []) (λ r rest differs. rw differs refl) (rw other refl) rows

pub value_other : (i j : Text) → bytes_eq j i ≡ false → (v : Text) (rows : List Row) → look i (used (value_rule j) (v ∷ []) rows) ≡ look i rows
value_other i j other v rows = values_other i j other (reading_by (value_rule j)) CommandLine (v ∷ []) (without j rows) ∙ without_other i j other rows

pub flag_other : (i j : Text) → bytes_eq j i ≡ false → (rows : List Row) → look i (used (flag_rule j) [] rows) ≡ look i rows
flag_other i j other rows = values_other i j other (reading_by (flag_rule j)) CommandLine (codes "true" ∷ []) (without j rows) ∙ without_other i j other rows

pub file_other : (i : Text) → bytes_eq (codes "files") i ≡ false → (v : Text) (rows : List Row) → look i (used files_rule (v ∷ []) rows) ≡ look i rows
file_other i other v rows = values_other i (codes "files") other (reading_by files_rule) CommandLine (v ∷ []) rows

-- ---- the row of the argument itself

some_not_none : (r : Row) → ◌≡◌ {A = Option Row} (Some r) None → ⊥
some_not_none r e = true≢false (ap is_some e)

missing_at : (j : Text) (change : Row → List Row) (missing rows : List Row) → look j rows ≡ None → look j (at_row j change missing rows) ≡ look j missing
missing_at j change missing [] none = refl
missing_at j change missing (r ∷ rows) none = go (bytes_eq r.id j) refl (λ later. missing_at j change missing rows later)
  where
    go : (b : Bool) → bytes_eq r.id j ≡ b → (look j rows ≡ None → look j (at_row j change missing rows) ≡ look j missing)
        → look j (cond b (change r ++ rows) (r ∷ at_row j change missing rows)) ≡ look j missing
    go true is later = absurd (some_not_none r (rw is at none))
    go false is later = rw is (later (rw is at none))

fresh : (j : Text) → bytes_eq j j ≡ true → (how : Reading) (source : ValueSource) (values : List Text) (rows : List Row) → look j rows ≡ None
    → look j (with_values j how source values rows) ≡ Some (new_row j how source values)
fresh j own how source values rows none = missing_at j (more_values source values) (new_row j how source values ∷ []) rows none ∙ rw own refl

pub value_own : (j : Text) → bytes_eq j j ≡ true → (v : Text) (rows : List Row) → look j rows ≡ None → look j (used (value_rule j) (v ∷ []) rows) ≡ Some (value_row j v)
value_own j own v rows none = fresh j own (reading_by (value_rule j)) CommandLine (v ∷ []) (without j rows) (missing_at j (λ _. []) [] rows none)

pub flag_own : (j : Text) → bytes_eq j j ≡ true → (rows : List Row) → look j rows ≡ None → look j (used (flag_rule j) [] rows) ≡ Some (flag_row j)
flag_own j own rows none = fresh j own (reading_by (flag_rule j)) CommandLine (codes "true" ∷ []) (without j rows) (missing_at j (λ _. []) [] rows none)

-- ---- the files

abbrev pub values_in : Option Row → List Text
values_in found = option_map_or (λ r. r.values) found []

abbrev pub filed : List Row → List Text
filed rows = values_in (look (codes "files") rows)

pub file_own : (v : Text) (rows : List Row) → filed (used files_rule (v ∷ []) rows) ≡ filed rows ++ v ∷ []
file_own v [] = refl
file_own v (r ∷ rows) = go (bytes_eq r.id (codes "files")) refl (file_own v rows)
  where
    go : (b : Bool) → bytes_eq r.id (codes "files") ≡ b → filed (used files_rule (v ∷ []) rows) ≡ filed rows ++ v ∷ []
        → values_in (look (codes "files") (cond b (more_values CommandLine (v ∷ []) r ++ rows) (r ∷ used files_rule (v ∷ []) rows)))
        ≡ values_in (look (codes "files") (r ∷ rows)) ++ v ∷ []
    go true is later = rw is refl
    go false is later = rw is later

-- ---- defaults

defaults_other : (i j : Text) → bytes_eq j i ≡ false → (how : Reading) (values : List Text) (rows : List Row) → look i (default_rows j how values rows) ≡ look i rows
defaults_other i j other how [] rows = refl
defaults_other i j other how (v ∷ vs) rows = values_other i j other how DefaultValue (v ∷ vs) rows

no_defaults : (j : Text) (how : Reading) (values : List Text) (rows : List Row) → has_none values ≡ true → default_rows j how values rows ≡ rows
no_defaults j how [] rows none = refl
no_defaults j how (v ∷ vs) rows none = absurd (true≢false (sym none))

pub default_kept : (i : Text) (a : Rule) (rows : List Row) → is_undefaulted i a ≡ true → look i (with_default rows a) ≡ look i rows
default_kept i a rows e = by_row (has_row a.id rows)
  where
    given : (b : Bool) → has_none a.defaults ≡ b → look i (default_rows a.id (reading_by a) a.defaults rows) ≡ look i rows
    given true none = ap (look i) (no_defaults a.id (reading_by a) a.defaults rows none)
    given false some = defaults_other i a.id (not_true (bytes_eq a.id i) (or_else (has_none a.defaults) (not (bytes_eq a.id i)) e some)) (reading_by a) a.defaults rows

    by_row : (b : Bool) → look i (cond b rows (default_rows a.id (reading_by a) a.defaults rows)) ≡ look i rows
    by_row true = refl
    by_row false = given (has_none a.defaults) refl

pub defaults_kept : (i : Text) (args : List Rule) (rows : List Row) → list_all (is_undefaulted i) args ≡ true → look i (fold with_default rows args) ≡ look i rows
defaults_kept i [] rows e = refl
defaults_kept i (a ∷ args) rows e = defaults_kept i args (with_default rows a) (both _ _ e).1 ∙ default_kept i a rows (both _ _ e).0

-- the row of a flag that was not given
abbrev pub unset_row : Text → Row
unset_row id = new_row id (reading_by (flag_rule id)) DefaultValue (codes "false" ∷ [])

has_look : (j : Text) (rows : List Row) → has_row j rows ≡ is_some (look j rows)
has_look j [] = refl
has_look j (r ∷ rows) = go (bytes_eq r.id j) (has_look j rows)
  where
    go : (b : Bool) → has_row j rows ≡ is_some (look j rows) → (b || has_row j rows) ≡ is_some (cond b (Some r) (look j rows))
    go true later = refl
    go false later = later

-- a flag that was given keeps its row, and another gets its default
abbrev pub or_unset : Text → Option Row → Option Row
or_unset id None = Some (unset_row id)
or_unset id (Some r) = Some r

pub flag_default : (j : Text) → bytes_eq j j ≡ true → (rows : List Row) → look j (with_default rows (flag_rule j)) ≡ or_unset j (look j rows)
flag_default j own rows = go (look j rows) refl
  where
    go : (o : Option Row) → look j rows ≡ o → look j (with_default rows (flag_rule j)) ≡ or_unset j o
    go None is =
        let missing : has_row j rows ≡ false = has_look j rows ∙ ap is_some is in
        rw missing (fresh j own (reading_by (flag_rule j)) DefaultValue (codes "false" ∷ []) rows is)
    go (Some r) is =
        let there : has_row j rows ≡ true = has_look j rows ∙ ap is_some is in
        rw there is
