-- What the rows that the words make have of an option, of a flag and of the files.
use Rattle.std.proofs.Common.{◌≡◌, ◌∙◌, ap, refl, sym, subst, codes, true, false, not, List, [], ◌∷◌, ◌++◌, append_assoc, append-nil, Some, None, Option, Bool, cond, ◌&&◌, ◌||◌, drop, slice_get, true≢false, is_some}
use Rattle.std.specs.List.{list_all}
use Rattle.std.specs.Option.{option_map}
use Rattle.std.specs.Str.{bytes_eq}
use Rattle.std.proofs.lemmas.Slice.Eq.{bytes_eq-Decides}
use Rattle.clap.proofs.WalkLemmas.{both}
use Rattle.clap.specs.Walk.{Row, used}
use Rattle.command_words.specs.declared.name.CommandName.{CommandName}
use Rattle.command_words.specs.Table.{Text, row, is_one_of, same_text, takes_value}
use Rattle.command_words.specs.Words.{begins_with_dash, files_in, have_values, is_value_of, is_word_of, stand_once, value_of}
use Rattle.command_words.proofs.TheApp.{files_rule, flag_rule, value_rule}
use Rattle.command_words.proofs.Steps.{IsFlag, IsValueOption}
use Rattle.command_words.proofs.WordKinds.{Kind, Pends, apart, flagged, kind_of, neither, not_true, plain, plain_apart, value_plain, valued}
use Rattle.command_words.proofs.Walks.{rows_by, rows_flagged, rows_plain, rows_valued, values_after, values_here}
use Rattle.command_words.proofs.Rows.{file_other, file_own, filed, flag_other, flag_own, flag_row, look, value_other, value_own, value_row, values_in}

-- two options with the same long name are the same
ids_apart : (m n : Text) → m ≡ 45 ∷ 45 ∷ drop 2 m → n ≡ 45 ∷ 45 ∷ drop 2 n → (m ≡ n → ⊥) → bytes_eq (drop 2 m) (drop 2 n) ≡ false
ids_apart m n first second differ = apart (drop 2 m) (drop 2 n) (λ same. differ (first ∙ (ap (λ (t : Text). 45 ∷ 45 ∷ t) same ∙ sym second)))

unlike : (a b : Text) → same_text a b ≡ false → a ≡ b → ⊥
unlike a b e same = true≢false (sym ((bytes_eq-Decides a b).1 same) ∙ e)

-- an option that has stood stands no more
no_more : (w : Text) (words : List Text) → stand_once (w ∷ words) ≡ true → begins_with_dash w ≡ true → is_one_of words w ≡ false
unfolding stand_once
no_more w words e dashed = rw dashed at (not_true (begins_with_dash w && is_one_of words w) (both _ _ e).0)

once_after : (w : Text) (words : List Text) → stand_once (w ∷ words) ≡ true → stand_once words ≡ true
unfolding stand_once
once_after w words e = (both (not (begins_with_dash w && is_one_of words w)) _ e).1

-- the option that waits is another one
abbrev Other : Text → Option Text → Type 0
Other n None = Unit {0}
Other n (Some m) = bytes_eq (drop 2 m) (drop 2 n) ≡ false

-- ---- an option that does not stand among the words

-- the name of an option
record IsName (n : Text) : Type 0 where
  dashes : n ≡ 45 ∷ 45 ∷ drop 2 n
  dashed : begins_with_dash n ≡ true
  no_file : bytes_eq (codes "files") (drop 2 n) ≡ false

name_of_value : (n : Text) → IsValueOption n → IsName n
name_of_value n is = record { dashes = is.dashes; dashed = is.dashed; no_file = is.no_file }

name_of_flag : (n : Text) → IsFlag n → IsName n
name_of_flag n is = record { dashes = is.dashes; dashed = is.dashed; no_file = is.no_file }

module _ (command : CommandName) (n : Text) (target : IsName n) where
  kept_at : (w : Text) (words : List Text) (rows : List Row) → Kind w → have_values (w ∷ words) ≡ true → (w ≡ n → ⊥)
      → ((pending : Option Text) → Pends pending words → Other n pending → (rows' : List Row) → look (drop 2 n) (rows_by words pending rows') ≡ look (drop 2 n) rows')
      → look (drop 2 n) (rows_by (w ∷ words) None rows) ≡ look (drop 2 n) rows
  kept_at w words rows (valued takes_it is) values differ later =
      ap (look (drop 2 n)) (rows_valued w words rows takes_it) ∙ later (Some w) (is, values_here w words values takes_it) (ids_apart w n is.dashes target.dashes differ) rows
  kept_at w words rows (flagged is) values differ later =
      ap (look (drop 2 n)) (rows_flagged w words rows is)
      ∙ (later None tt tt (used (flag_rule (drop 2 w)) [] rows) ∙ flag_other (drop 2 n) (drop 2 w) (ids_apart w n is.dashes target.dashes differ) rows)
  kept_at w words rows (plain no_value no_dash is) values differ later =
      ap (look (drop 2 n)) (rows_plain w words rows no_value no_dash) ∙ (later None tt tt (used files_rule (w ∷ []) rows) ∙ file_other (drop 2 n) target.no_file w rows)

  kept : (words : List Text) (pending : Option Text) → Pends pending words → Other n pending → list_all (is_word_of (row command)) words ≡ true → have_values words ≡ true
      → is_one_of words n ≡ false → (rows : List Row) → look (drop 2 n) (rows_by words pending rows) ≡ look (drop 2 n) rows
  unfolding rows_by
  kept [] pending pends other all values absent rows = refl
  kept (v ∷ words) (Some m) pends other all values absent rows =
      kept words None tt tt (both _ _ all).1 (values_after v words values) (neither _ _ absent).1 (used (value_rule (drop 2 m)) (v ∷ []) rows)
      ∙ value_other (drop 2 n) (drop 2 m) other v rows
  kept (w ∷ words) None pends other all values absent rows =
      kept_at w words rows (kind_of command w (both _ _ all).0) values (λ same. unlike n w (neither _ _ absent).0 (sym same))
      (λ pending pends other rows'. kept words pending pends other (both _ _ all).1 (values_after w words values) (neither _ _ absent).1 rows')

-- ---- an option with a value

pub value_skips : (n w : Text) (words : List Text) → same_text w n ≡ false → value_of n (w ∷ words) ≡ value_of n words
unfolding value_of
value_skips n w words differs = rw differs refl

pub value_here : (n w : Text) (words : List Text) → same_text w n ≡ true → value_of n (w ∷ words) ≡ slice_get words 0
unfolding value_of
value_here n w words same = rw same refl

module _ (command : CommandName) (n : Text) (target : IsValueOption n) where
  -- the value of the option stands here
  taken_here : (words : List Text) → is_value_of n (slice_get words 0) ≡ true → list_all (is_word_of (row command)) words ≡ true → have_values words ≡ true
      → is_one_of words n ≡ false → (rows : List Row) → look (drop 2 n) rows ≡ None
      → look (drop 2 n) (rows_by words (Some n) rows) ≡ option_map (value_row (drop 2 n)) (slice_get words 0)
  unfolding rows_by
  taken_here [] value all values absent rows none = absurd (true≢false (sym value))
  taken_here (v ∷ words) value all values absent rows none =
      kept command n (name_of_value n target) words None tt tt (both _ _ all).1 (values_after v words values) (neither _ _ absent).1 (used (value_rule (drop 2 n)) (v ∷ []) rows)
      ∙ value_own (drop 2 n) target.own v rows none

  abbrev Taken : List Text → Option Text → List Row → Type 0
  Taken words pending rows = look (drop 2 n) (rows_by words pending rows) ≡ option_map (value_row (drop 2 n)) (value_of n words)

  taken_at : (w : Text) (words : List Text) (rows : List Row) → Kind w → list_all (is_word_of (row command)) words ≡ true → have_values (w ∷ words) ≡ true
      → stand_once (w ∷ words) ≡ true → look (drop 2 n) rows ≡ None
      → ((pending : Option Text) → Pends pending words → Other n pending → (rows' : List Row) → look (drop 2 n) rows' ≡ None → Taken words pending rows')
      → Taken (w ∷ words) None rows
  taken_at w words rows (valued takes_it is) all values once none later = go (same_text w n) refl
    where
      go : (b : Bool) → same_text w n ≡ b → Taken (w ∷ words) None rows
      go true same =
          let here : w ≡ n = (bytes_eq-Decides w n).0 same in
          ap (look (drop 2 n)) (rows_valued w words rows takes_it ∙ ap (λ (t : Text). rows_by words (Some t) rows) here)
          ∙ (taken_here words (subst (λ (t : Text). is_value_of t (slice_get words 0) ≡ true) here (values_here w words values takes_it)) all (values_after w words values)
          (subst (λ (t : Text). is_one_of words t ≡ false) here (no_more w words once is.dashed)) rows none
          ∙ ap (option_map (value_row (drop 2 n))) (sym (value_here n w words same)))
      go false differs =
          ap (look (drop 2 n)) (rows_valued w words rows takes_it)
          ∙ (later (Some w) (is, values_here w words values takes_it) (ids_apart w n is.dashes target.dashes (unlike w n differs)) rows none
          ∙ ap (option_map (value_row (drop 2 n))) (sym (value_skips n w words differs)))
  taken_at w words rows (flagged is) all values once none later =
      let differ : w ≡ n → ⊥ = λ same. true≢false (sym target.valued ∙ (ap takes_value (sym same) ∙ is.no_value)) in
      ap (look (drop 2 n)) (rows_flagged w words rows is)
      ∙ (later None tt tt (used (flag_rule (drop 2 w)) [] rows) (flag_other (drop 2 n) (drop 2 w) (ids_apart w n is.dashes target.dashes differ) rows ∙ none)
      ∙ ap (option_map (value_row (drop 2 n))) (sym (value_skips n w words (apart w n differ))))
  taken_at w words rows (plain no_value no_dash is) all values once none later =
      ap (look (drop 2 n)) (rows_plain w words rows no_value no_dash)
      ∙ (later None tt tt (used files_rule (w ∷ []) rows) (file_other (drop 2 n) target.no_file w rows ∙ none)
      ∙ ap (option_map (value_row (drop 2 n))) (sym (value_skips n w words (plain_apart w is n target.dashed))))

  pub taken : (words : List Text) (pending : Option Text) → Pends pending words → Other n pending → list_all (is_word_of (row command)) words ≡ true → have_values words ≡ true
      → stand_once words ≡ true → (rows : List Row) → look (drop 2 n) rows ≡ None → Taken words pending rows
  unfolding rows_by value_of
  taken [] pending pends other all values once rows none = none
  taken (v ∷ words) (Some m) pends other all values once rows none =
      taken words None tt tt (both _ _ all).1 (values_after v words values) (once_after v words once) (used (value_rule (drop 2 m)) (v ∷ []) rows)
      (value_other (drop 2 n) (drop 2 m) other v rows ∙ none)
      ∙ ap (option_map (value_row (drop 2 n))) (sym (value_skips n v words (plain_apart v (value_plain m v pends.1) n target.dashed)))
  taken (w ∷ words) None pends other all values once rows none =
      taken_at w words rows (kind_of command w (both _ _ all).0) (both _ _ all).1 values once none
      (λ pending pends other rows' none. taken words pending pends other (both _ _ all).1 (values_after w words values) (once_after w words once) rows' none)

-- ---- a flag

module _ (command : CommandName) (n : Text) (target : IsFlag n) where
  abbrev given : Bool → Option Row
  given b = cond b (Some (flag_row (drop 2 n))) None

  abbrev Given : List Text → Option Text → List Row → Type 0
  Given words pending rows = look (drop 2 n) (rows_by words pending rows) ≡ given (is_one_of words n)

  -- an option with a value is no flag
  not_flag : (m : Text) → IsValueOption m → m ≡ n → ⊥
  not_flag m is same = true≢false (sym is.valued ∙ (ap takes_value same ∙ target.no_value))

  absent_first : (w : Text) (words : List Text) → (w ≡ n → ⊥) → given (is_one_of words n) ≡ given (is_one_of (w ∷ words) n)
  absent_first w words differ = ap (λ (b : Bool). given (b || is_one_of words n)) (sym (apart n w (λ same. differ (sym same))))

  given_at : (w : Text) (words : List Text) (rows : List Row) → Kind w → list_all (is_word_of (row command)) words ≡ true → have_values (w ∷ words) ≡ true
      → stand_once (w ∷ words) ≡ true → look (drop 2 n) rows ≡ None
      → ((pending : Option Text) → Pends pending words → (rows' : List Row) → look (drop 2 n) rows' ≡ None → Given words pending rows')
      → Given (w ∷ words) None rows
  given_at w words rows (valued takes_it is) all values once none later =
      ap (look (drop 2 n)) (rows_valued w words rows takes_it)
      ∙ (later (Some w) (is, values_here w words values takes_it) rows none ∙ absent_first w words (not_flag w is))
  given_at w words rows (flagged is) all values once none later = go (same_text w n) refl
    where
      go : (b : Bool) → same_text w n ≡ b → Given (w ∷ words) None rows
      go true same =
          let here : w ≡ n = (bytes_eq-Decides w n).0 same in
          let absent : is_one_of words n ≡ false = subst (λ (t : Text). is_one_of words t ≡ false) here (no_more w words once is.dashed) in
          ap (look (drop 2 n)) (rows_flagged w words rows is ∙ ap (λ (t : Text). rows_by words None (used (flag_rule (drop 2 t)) [] rows)) here)
          ∙ (kept command n (name_of_flag n target) words None tt tt all (values_after w words values) absent (used (flag_rule (drop 2 n)) [] rows)
          ∙ (flag_own (drop 2 n) target.own rows none
          ∙ ap (λ (b : Bool). given (b || is_one_of words n)) (sym ((bytes_eq-Decides n w).1 (sym here)))))
      go false differs =
          ap (look (drop 2 n)) (rows_flagged w words rows is)
          ∙ (later None tt (used (flag_rule (drop 2 w)) [] rows) (flag_other (drop 2 n) (drop 2 w) (ids_apart w n is.dashes target.dashes (unlike w n differs)) rows ∙ none)
          ∙ absent_first w words (unlike w n differs))
  given_at w words rows (plain no_value no_dash is) all values once none later =
      ap (look (drop 2 n)) (rows_plain w words rows no_value no_dash)
      ∙ (later None tt (used files_rule (w ∷ []) rows) (file_other (drop 2 n) target.no_file w rows ∙ none)
      ∙ absent_first w words (unlike w n (plain_apart w is n target.dashed)))

  pub flag_given : (words : List Text) (pending : Option Text) → Pends pending words → list_all (is_word_of (row command)) words ≡ true → have_values words ≡ true
      → stand_once words ≡ true → (rows : List Row) → look (drop 2 n) rows ≡ None → Given words pending rows
  unfolding rows_by
  flag_given [] pending pends all values once rows none = none
  flag_given (v ∷ words) (Some m) pends all values once rows none =
      flag_given words None tt (both _ _ all).1 (values_after v words values) (once_after v words once) (used (value_rule (drop 2 m)) (v ∷ []) rows)
      (value_other (drop 2 n) (drop 2 m) (ids_apart m n pends.0.dashes target.dashes (not_flag m pends.0)) v rows ∙ none)
      ∙ absent_first v words (unlike v n (plain_apart v (value_plain m v pends.1) n target.dashed))
  flag_given (w ∷ words) None pends all values once rows none =
      given_at w words rows (kind_of command w (both _ _ all).0) (both _ _ all).1 values once none
      (λ pending pends rows' none. flag_given words pending pends (both _ _ all).1 (values_after w words values) (once_after w words once) rows' none)

-- ---- the files

abbrev Filed : List Text → Option Text → List Row → Type 0
Filed words pending rows = filed (rows_by words pending rows) ≡ filed rows ++ files_in (is_some pending) words

module _ (command : CommandName) where
  filed_at : (w : Text) (words : List Text) (rows : List Row) → Kind w → have_values (w ∷ words) ≡ true
      → ((pending : Option Text) → Pends pending words → (rows' : List Row) → Filed words pending rows') → Filed (w ∷ words) None rows
  unfolding files_in
  filed_at w words rows (valued takes_it is) values later =
      ap filed (rows_valued w words rows takes_it) ∙ (later (Some w) (is, values_here w words values takes_it) rows ∙ rw (is.dashed, takes_it) refl)
  filed_at w words rows (flagged is) values later =
      ap filed (rows_flagged w words rows is)
      ∙ (later None tt (used (flag_rule (drop 2 w)) [] rows)
      ∙ (ap (λ (o : Option Row). values_in o ++ files_in false words) (flag_other (codes "files") (drop 2 w) is.other_file rows) ∙ rw (is.dashed, is.no_value) refl))
  filed_at w words rows (plain no_value no_dash is) values later =
      ap filed (rows_plain w words rows no_value no_dash)
      ∙ (later None tt (used files_rule (w ∷ []) rows)
      ∙ (ap (λ (fs : List Text). fs ++ files_in false words) (file_own w rows) ∙ (append_assoc (filed rows) (w ∷ []) (files_in false words) ∙ rw no_dash refl)))

  pub files_filed : (words : List Text) (pending : Option Text) → Pends pending words → list_all (is_word_of (row command)) words ≡ true → have_values words ≡ true
      → (rows : List Row) → Filed words pending rows
  unfolding rows_by files_in
  files_filed [] pending pends all values rows = sym (append-nil (filed rows))
  files_filed (v ∷ words) (Some m) pends all values rows =
      files_filed words None tt (both _ _ all).1 (values_after v words values) (used (value_rule (drop 2 m)) (v ∷ []) rows)
      ∙ ap (λ (o : Option Row). values_in o ++ files_in false words) (value_other (codes "files") (drop 2 m) pends.0.other_file v rows)
  files_filed (w ∷ words) None pends all values rows =
      filed_at w words rows (kind_of command w (both _ _ all).0) values (λ pending pends rows'. files_filed words pending pends (both _ _ all).1 (values_after w words values) rows')
