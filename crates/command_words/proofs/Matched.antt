-- What the matches of `clap` have of words in the table.
use Rattle.std.proofs.Common.{◌≡◌, ◌∙◌, ap, refl, codes, true, false, List, [], ◌∷◌, Some, None, Option, Bool, cond, drop, slice_get, option_map}
use Rattle.std.specs.List.{fold, list_all}
use Rattle.std.specs.Option.{option_and_then, unwrap_or}
use Rattle.std.proofs.lemmas.Slice.Eq.{bytes_eq-Decides}
use Rattle.clap.proofs.WalkLemmas.{both, first_value-rows, one_text-rows, raw_values-rows}
use Rattle.clap.specs.Walk.{Row, all_of, first_of, one_of, row_text, rows_of, with_default}
use Rattle.clap.specs.Simple.{matches_of}
use Rattle.clap.specs.Takes.{takes}
use Rattle.clap.specs.declared.parser.matches.Found.{Found}
use Rattle.command_words.specs.declared.name.CommandName.{CommandName}
use Rattle.command_words.specs.declared.name.CommandName.TheVariants.{Dml, Check, Plan, Seq, Step, Run, Gen}
use Rattle.command_words.specs.Table.{Text, is_one_of, row, same_text}
use Rattle.command_words.specs.Words.{files_in, have_values, is_plain_word, is_in_row, is_word_of, stand_once, value_of}
use Rattle.command_words.specs.Parsed.{IsInTable, IsMatched, flag_text, the_app}
use Rattle.command_words.proofs.TheApp.{flag_rule, rules, value_rules}
use Rattle.command_words.proofs.Steps.{IsFlag, IsValueOption, is_flat, is_report}
use Rattle.command_words.proofs.WordKinds.{IsPlain, plain_word, value_option}
use Rattle.command_words.proofs.Walks.{all_matched, all_taken, named_rows, rows_by}
use Rattle.command_words.proofs.Rows.{default_kept, defaults_kept, filed, flag_default, flag_row, look, or_unset, value_row, values_in}
use Rattle.command_words.proofs.Lookups.{files_filed, flag_given, taken}

-- ---- the command's name

name_plain : (name : CommandName) → is_plain_word (row name).name ≡ true
name_plain Dml = refl
name_plain Check = refl
name_plain Plan = refl
name_plain Seq = refl
name_plain Step = refl
name_plain Run = refl
name_plain Gen = refl

named_plain : (name : CommandName) (word : Text) → same_text word (row name).name ≡ true → IsPlain word
named_plain name word same = plain_word word (ap is_plain_word ((bytes_eq-Decides word (row name).name).0 same) ∙ name_plain name)

-- ---- the parts of the rule

pub record IsInRow (name : CommandName) (words : List Text) : Type 0 where
  pub all : list_all (is_word_of (row name)) words ≡ true
  pub once : stand_once words ≡ true
  pub values : have_values words ≡ true
  pub must : list_all (is_one_of words) (row name).must_have ≡ true

pub in_row : (name : CommandName) (words : List Text) → is_in_row (row name) words ≡ true → IsInRow name words
in_row name words e =
    let a = both (list_all (is_word_of (row name)) words) _ e in
    let b = both (stand_once words) _ a.1 in
    let c = both (have_values words) _ b.1 in
    let d = both (list_all (is_one_of words) (row name).must_have) _ c.1 in
    record { all = a.0; once = b.0; values = c.0; must = d.0 }

-- ---- what is read of the rows

value_read : (id : Text) (o : Option Text) → option_and_then (λ (r : Row). slice_get r.values 0) (option_map (value_row id) o) ≡ o
value_read id None = refl
value_read id (Some v) = refl

flag_read : (id : Text) (b : Bool) → option_and_then row_text (or_unset id (cond b (Some (flag_row id)) None)) ≡ Some (flag_text b)
flag_read id true = refl
flag_read id false = refl

files_read : (o : Option Row) → unwrap_or (option_map (λ (r : Row). r.values) o) [] ≡ values_in o
files_read None = refl
files_read (Some r) = refl

module _ (name : CommandName) (word : Text) (words : List Text) (in_it : IsInRow name words) where
  abbrev made : List Row
  made = rows_by words None (named_rows name word)

  abbrev finished_rows : List Row
  finished_rows = fold with_default made rules

  -- the rows without the flags' defaults
  abbrev half : List Row
  half = fold with_default made (value_rules [])

  value_final : (n : Text) → IsValueOption n → look (drop 2 n) finished_rows ≡ option_map (value_row (drop 2 n)) (value_of n words)
  value_final n is =
      defaults_kept (drop 2 n) rules made is.no_default ∙ taken name n is words None tt tt in_it.all in_it.values in_it.once (named_rows name word) (rw is.no_command refl)

  flag_made : (n : Text) → IsFlag n → look (drop 2 n) made ≡ cond (is_one_of words n) (Some (flag_row (drop 2 n))) None
  flag_made n is = flag_given name n is words None tt in_it.all in_it.values in_it.once (named_rows name word) (rw is.no_command refl)

  flat_final : look (codes "flat") finished_rows ≡ or_unset (codes "flat") (cond (is_one_of words (codes "--flat")) (Some (flag_row (codes "flat"))) None)
  flat_final =
      default_kept (codes "flat") (flag_rule (codes "report")) (with_default half (flag_rule (codes "flat"))) refl
      ∙ (flag_default (codes "flat") refl half
      ∙ ap (or_unset (codes "flat")) (defaults_kept (codes "flat") (value_rules []) made refl ∙ flag_made (codes "--flat") is_flat))

  report_final : look (codes "report") finished_rows ≡ or_unset (codes "report") (cond (is_one_of words (codes "--report")) (Some (flag_row (codes "report"))) None)
  report_final =
      flag_default (codes "report") refl (with_default half (flag_rule (codes "flat")))
      ∙ ap (or_unset (codes "report")) (default_kept (codes "report") (flag_rule (codes "flat")) half refl
      ∙ (defaults_kept (codes "report") (value_rules []) made refl ∙ flag_made (codes "--report") is_report))

  files_final : filed finished_rows ≡ files_in false words
  files_final = ap values_in (defaults_kept (codes "files") rules made refl) ∙ files_filed name words None tt in_it.all in_it.values (named_rows name word)

  rows_read : (f : Found) → rows_of f ≡ finished_rows → IsMatched f words
  rows_read f is = record {
    value = λ n takes_it. first_value-rows f (drop 2 n) ∙ (ap (first_of (drop 2 n)) is
        ∙ (ap (option_and_then (λ (r : Row). slice_get r.values 0)) (value_final n (value_option n takes_it)) ∙ value_read (drop 2 n) (value_of n words)));
    flat = one_text-rows f (codes "flat") ∙ (ap (one_of (codes "flat")) is ∙ (ap (option_and_then row_text) flat_final ∙ flag_read (codes "flat") (is_one_of words (codes "--flat"))));
    report = one_text-rows f (codes "report") ∙ (ap (one_of (codes "report")) is ∙ (ap (option_and_then row_text) report_final ∙ flag_read (codes "report") (is_one_of words (codes "--report"))));
    files = ap (λ (o : Option (List Text)). unwrap_or o []) (raw_values-rows f (codes "files") ∙ ap (all_of (codes "files")) is) ∙ (files_read (look (codes "files") finished_rows) ∙ files_final);
  }

-- ---- the words with the command's name in front

pub table_taken : (name : CommandName) (words : List Text) → IsInTable name words → takes the_app words ≡ true
table_taken name [] in_it = absurd in_it
table_taken name (word ∷ words) in_it =
    let r = in_row name words in_it.1 in
    all_taken name word words (named_plain name word in_it.0) r.all r.values

pub table_matched : (name : CommandName) (words : List Text) → IsInTable name words → (f : Found) → rows_of f ≡ matches_of the_app words → IsMatched f (drop 1 words)
table_matched name [] in_it f is = absurd in_it
table_matched name (word ∷ words) in_it f is =
    let r = in_row name words in_it.1 in
    rows_read name word words r f (is ∙ all_matched name word words (named_plain name word in_it.0) r.all r.values)
