-- The walk that `clap` makes over words that the rule takes.
use Rattle.std.proofs.Common.{ℕ, ◌≡◌, ◌∙◌, ap, ap₂, refl, sym, codes, true, false, not, List, [], ◌∷◌, Some, None, Option, Bool, cond, ◌&&◌, ◌||◌, nat_eq, nat_lt, drop, slice_get, true≢false}
use Rattle.std.specs.List.{fold, list_all}
use Rattle.std.specs.Option.{option_map_or}
use Rattle.std.specs.Str.{bytes_eq}
use Rattle.clap.specs.Walk.{Held, Row, Rule, Walk, arg_by_id, has_row, idle, is_pending, nothing_held, option, option_word, positional, pushed, settled, used, used_by_id, walk_from, walked, with_default}
use Rattle.clap.specs.Simple.{matches_of}
use Rattle.clap.specs.Takes.{level_passes, settle_passes, takes, turn_passes, use_passes, walk_passes}
use Rattle.clap.proofs.TakesLemmas.{leaf_takes}
use Rattle.clap.proofs.WalkLemmas.{both}
use Rattle.command_words.specs.declared.name.CommandName.{CommandName}
use Rattle.command_words.specs.Table.{Text, row, takes_value}
use Rattle.command_words.specs.Words.{begins_with_dash, have_values, is_value_of, is_word_of}
use Rattle.command_words.specs.Parsed.{the_app}
use Rattle.command_words.proofs.TheApp.{command_rule, files_rule, flag_rule, rules, shape, value_rule}
use Rattle.command_words.proofs.Steps.{IsFlag, IsValueOption, at, awaiting, between, with_file, with_flag, with_value}
use Rattle.command_words.proofs.WordKinds.{IsPlain, Kind, Pends, and_false, flagged, kind_of, or_else, or_true, plain, value_plain, valued}

-- ---- a use of an argument

flag_use : (id : Text) (rows : List Row) → use_passes true (flag_rule id) [] rows ≡ true
flag_use id rows = ap (λ (t : Bool). t && true) (or_true (not (has_row id rows)))

value_use : (id v : Text) (rows : List Row) → use_passes true (value_rule id) (v ∷ []) rows ≡ true
value_use id v rows = ap (λ (t : Bool). t && true) (or_true (not (has_row id rows)))

-- ---- a word that is no flag

-- what an option makes of a word
abbrev after_value : Text → Text → Held → Option Rule → Walk
after_value id word h found = at (option_word found id word (awaiting id h)).1 (option_word found id word (awaiting id h)).0

value_step : (id : Text) → arg_by_id rules id ≡ Some (value_rule id) → bytes_eq id id ≡ true → (h : Held) (x : ℕ) (xs : Text) → nat_eq x 45 ≡ false
    → walked rules [] (at (option id) (awaiting id h)) (x ∷ xs) ≡ at idle (with_value id (x ∷ xs) h)
unfolding walked
value_step id found own h x xs e =
    rw (e, e) (ap (after_value id (x ∷ xs) h) found ∙ ap (λ (t : Bool). at (cond (nat_lt (cond t 1 0) 1) (option id) idle) (with_value id (x ∷ xs) h)) own)

value_turn : (id : Text) (h : Held) (x : ℕ) (xs : Text) → nat_eq x 45 ≡ false → turn_passes shape [] (at (option id) h) (x ∷ xs) ≡ true
value_turn id h x xs e = rw (e, e) refl

file_step : (b : Bool) (h : Held) (x : ℕ) (xs : Text) → nat_eq x 45 ≡ false → walked rules [] (at (between b) h) (x ∷ xs) ≡ at positional (with_file (x ∷ xs) h)
unfolding walked
file_step false h x xs e =
    rw (e, e) (ap (λ (t : Bool). at positional (pushed (codes "files") (x ∷ xs) (cond t h (settled rules h)))) (and_false (is_pending files_rule h.pending)))
file_step true h x xs e =
    rw (e, e) (ap (λ (t : Bool). at positional (pushed (codes "files") (x ∷ xs) (cond t h (settled rules h)))) (and_false (is_pending files_rule h.pending)))

file_turn : (b : Bool) (h : Held) (x : ℕ) (xs : Text) → nat_eq x 45 ≡ false → settle_passes rules true h ≡ true → turn_passes shape [] (at (between b) h) (x ∷ xs) ≡ true
file_turn false h x xs e ok = rw (e, e) (ap₂ (λ (s t : Bool). s || t) (and_false (is_pending files_rule h.pending)) ok)
file_turn true h x xs e ok = rw (e, e) (ap₂ (λ (s t : Bool). s || t) (and_false (is_pending files_rule h.pending)) ok)

-- ---- a flag, and an option with a value

option_step : (b : Bool) (n : Text) → IsValueOption n → (h : Held) → walked rules [] (at (between b) h) n ≡ at (option (drop 2 n)) (awaiting (drop 2 n) h)
option_step false n is h = is.idle_step h
option_step true n is h = is.positional_step h

option_turn : (b : Bool) (n : Text) → IsValueOption n → (h : Held) → settle_passes rules true h ≡ true → turn_passes shape [] (at (between b) h) n ≡ true
option_turn false n is h ok = is.idle_passes h ∙ ap (λ (t : Bool). t && true) ok
option_turn true n is h ok = is.positional_passes h ∙ ap (λ (t : Bool). t && true) ok

flag_step : (b : Bool) (n : Text) → IsFlag n → (h : Held) → walked rules [] (at (between b) h) n ≡ at idle (with_flag (drop 2 n) h)
flag_step false n is h = is.idle_step h
flag_step true n is h = is.positional_step h

flag_turn : (b : Bool) (n : Text) → IsFlag n → (h : Held) → settle_passes rules true h ≡ true → turn_passes shape [] (at (between b) h) n ≡ true
flag_turn false n is h ok = is.idle_passes h ∙ ap₂ (λ (s t : Bool). (s && t) && true) ok (flag_use (drop 2 n) (settled rules h).rows)
flag_turn true n is h ok = is.positional_passes h ∙ ap₂ (λ (s t : Bool). (s && t) && true) ok (flag_use (drop 2 n) (settled rules h).rows)

-- ---- all words

-- the rows that the words behind the command's name make, behind an option that waits for its value if there is one
unfoldable pub rows_by : List Text → Option Text → List Row → List Row
rows_by [] pending rows = rows
rows_by (v ∷ words) (Some n) rows = rows_by words None (used (value_rule (drop 2 n)) (v ∷ []) rows)
rows_by (w ∷ words) None rows =
    cond (takes_value w) (rows_by words (Some w) rows)
    (cond (begins_with_dash w) (rows_by words None (used (flag_rule (drop 2 w)) [] rows))
    (rows_by words None (used files_rule (w ∷ []) rows)))

-- the walk passes, and ends with these rows
pub record Walks (w : Walk) (words : List Text) (rows : List Row) : Type 0 where
  pub passes : walk_passes shape [] w words ≡ true
  pub settles : settle_passes rules true (fold (walked rules []) w words).held ≡ true
  pub ends : (settled rules (fold (walked rules []) w words).held).rows ≡ rows

walk_on : (w after : Walk) (word : Text) (words : List Text) (rows : List Row) → turn_passes shape [] w word ≡ true → walked rules [] w word ≡ after
    → Walks after words rows → Walks w (word ∷ words) rows
unfolding walk_passes
walk_on w after word words rows turn step rest = record {
  passes = ap₂ (λ (a b : Bool). a && b) turn (ap (λ (v : Walk). walk_passes shape [] v words) step ∙ rest.passes);
  settles = ap (λ (v : Walk). settle_passes rules true (fold (walked rules []) v words).held) step ∙ rest.settles;
  ends = ap (λ (v : Walk). (settled rules (fold (walked rules []) v words).held).rows) step ∙ rest.ends;
}

to_rows : (w : Walk) (words : List Text) (a b : List Row) → a ≡ b → Walks w words a → Walks w words b
to_rows w words a b is walks = record { passes = walks.passes; settles = walks.settles; ends = walks.ends ∙ is }

-- where the walk stands before these words
abbrev place : Option Text → Bool → Held → Walk
place None b h = at (between b) h
place (Some n) b h = at (option (drop 2 n)) (awaiting (drop 2 n) h)

pub values_here : (w : Text) (words : List Text) → have_values (w ∷ words) ≡ true → takes_value w ≡ true → is_value_of w (slice_get words 0) ≡ true
unfolding have_values
values_here w words e takes_it = or_else (not (takes_value w)) (is_value_of w (slice_get words 0)) (both _ _ e).0 (ap not takes_it)

pub values_after : (w : Text) (words : List Text) → have_values (w ∷ words) ≡ true → have_values words ≡ true
unfolding have_values
values_after w words e = (both (not (takes_value w) || is_value_of w (slice_get words 0)) _ e).1

pub rows_valued : (w : Text) (words : List Text) (rows : List Row) → takes_value w ≡ true → rows_by (w ∷ words) None rows ≡ rows_by words (Some w) rows
unfolding rows_by
rows_valued w words rows is = rw is refl

pub rows_flagged : (w : Text) (words : List Text) (rows : List Row) → IsFlag w → rows_by (w ∷ words) None rows ≡ rows_by words None (used (flag_rule (drop 2 w)) [] rows)
unfolding rows_by
rows_flagged w words rows is = rw (is.no_value, is.dashed) refl

pub rows_plain : (w : Text) (words : List Text) (rows : List Row) → takes_value w ≡ false → begins_with_dash w ≡ false
    → rows_by (w ∷ words) None rows ≡ rows_by words None (used files_rule (w ∷ []) rows)
unfolding rows_by
rows_plain w words rows no_value no_dash = rw (no_value, no_dash) refl

-- a word where no option waits for its value
step_between : (w : Text) (words : List Text) (b : Bool) (h : Held) → Kind w → have_values (w ∷ words) ≡ true → settle_passes rules true h ≡ true
    → ((pending : Option Text) → Pends pending words → (c : Bool) (g : Held) → settle_passes rules true g ≡ true
    → Walks (place pending c g) words (rows_by words pending (settled rules g).rows))
    → Walks (at (between b) h) (w ∷ words) (rows_by (w ∷ words) None (settled rules h).rows)
step_between w words b h (valued takes_it is) values ok later =
    walk_on _ (at (option (drop 2 w)) (awaiting (drop 2 w) h)) w words _ (option_turn b w is h ok) (option_step b w is h)
    (to_rows _ words _ _ (sym (rows_valued w words (settled rules h).rows takes_it)) (later (Some w) (is, values_here w words values takes_it) b h ok))
step_between w words b h (flagged is) values ok later =
    walk_on _ (at idle (with_flag (drop 2 w) h)) w words _ (flag_turn b w is h ok) (flag_step b w is h)
    (to_rows _ words _ _ (sym (rows_flagged w words (settled rules h).rows is)) (later None tt false (with_flag (drop 2 w) h) refl))
step_between w words b h (plain no_value no_dash is) values ok later =
    let step : walked rules [] (at (between b) h) w ≡ at positional (with_file w h) =
    ap (λ (t : Text). walked rules [] (at (between b) h) t) is.is ∙ (file_step b h is.first is.rest is.other ∙ ap (λ (t : Text). at positional (with_file t h)) (sym is.is)) in
    let turn : turn_passes shape [] (at (between b) h) w ≡ true = ap (λ (t : Text). turn_passes shape [] (at (between b) h) t) is.is ∙ file_turn b h is.first is.rest is.other ok in
    walk_on _ (at positional (with_file w h)) w words _ turn step
    (to_rows _ words _ _ (sym (rows_plain w words (settled rules h).rows no_value no_dash)) (later None tt true (with_file w h) refl))

module _ (name : CommandName) where
  walks : (words : List Text) (pending : Option Text) → Pends pending words → list_all (is_word_of (row name)) words ≡ true → have_values words ≡ true
      → (b : Bool) (h : Held) → settle_passes rules true h ≡ true → Walks (place pending b h) words (rows_by words pending (settled rules h).rows)
  unfolding rows_by walk_passes
  walks [] None pends all values b h ok = record { passes = refl; settles = ok; ends = refl }
  walks [] (Some n) pends all values b h ok = absurd (true≢false (sym pends.1))
  walks (v ∷ words) (Some n) pends all values b h ok =
      let is = value_plain n v pends.1 in
      let id : Text = drop 2 n in
      let after : Held = with_value id v h in
      let settles : settle_passes rules true after ≡ true =
      ap (λ (o : Option Rule). option_map_or (λ a. use_passes true a (v ∷ []) (settled rules h).rows) o true) pends.0.found ∙ value_use id v (settled rules h).rows in
      let rows : (settled rules after).rows ≡ used (value_rule id) (v ∷ []) (settled rules h).rows = ap (λ (o : Option Rule). used_by_id o (v ∷ []) (settled rules h).rows) pends.0.found in
      let step : walked rules [] (at (option id) (awaiting id h)) v ≡ at idle after =
      ap (λ (t : Text). walked rules [] (at (option id) (awaiting id h)) t) is.is ∙ (value_step id pends.0.found pends.0.own h is.first is.rest is.other ∙ ap (λ (t : Text). at idle (with_value id t h)) (sym is.is)) in
      let turn : turn_passes shape [] (at (option id) (awaiting id h)) v ≡ true = ap (λ (t : Text). turn_passes shape [] (at (option id) (awaiting id h)) t) is.is ∙ value_turn id (awaiting id h) is.first is.rest is.other in
      walk_on _ (at idle after) v words _ turn step
      (to_rows _ words _ _ (ap (rows_by words None) rows) (walks words None tt (both _ _ all).1 (values_after v words values) false after settles))
  walks (w ∷ words) None pends all values b h ok =
      step_between w words b h (kind_of name w (both _ _ all).0) values ok (λ pending pends c g settles. walks words pending pends (both _ _ all).1 (values_after w words values) c g settles)

  -- ---- with the command's name in front

  -- what is held behind the command's name
  abbrev named_held : Text → Held
  named_held word = record { rows = []; pending = Some (codes "command", word ∷ []); skip = 0 }

  -- the rows behind the command's name
  abbrev pub named_rows : Text → List Row
  named_rows word = used command_rule (word ∷ []) []

  name_step : (x : ℕ) (xs : Text) → nat_eq x 45 ≡ false → walked rules [] (walk_from nothing_held) (x ∷ xs) ≡ at idle (named_held (x ∷ xs))
  unfolding walked
  name_step x xs e = rw (e, e) refl

  name_turn : (x : ℕ) (xs : Text) → nat_eq x 45 ≡ false → turn_passes shape [] (walk_from nothing_held) (x ∷ xs) ≡ true
  name_turn x xs e = rw (e, e) refl

  pub walks_all : (word : Text) (words : List Text) → IsPlain word → list_all (is_word_of (row name)) words ≡ true → have_values words ≡ true
      → Walks (walk_from nothing_held) (word ∷ words) (rows_by words None (named_rows word))
  walks_all word words is all values =
      let step : walked rules [] (walk_from nothing_held) word ≡ at idle (named_held word) =
      ap (λ (t : Text). walked rules [] (walk_from nothing_held) t) is.is ∙ (name_step is.first is.rest is.other ∙ ap (λ (t : Text). at idle (named_held t)) (sym is.is)) in
      let turn : turn_passes shape [] (walk_from nothing_held) word ≡ true = ap (λ (t : Text). turn_passes shape [] (walk_from nothing_held) t) is.is ∙ name_turn is.first is.rest is.other in
      walk_on _ (at idle (named_held word)) word words _ turn step (walks words None tt all values false (named_held word) refl)

  pub all_taken : (word : Text) (words : List Text) → IsPlain word → list_all (is_word_of (row name)) words ≡ true → have_values words ≡ true → takes the_app (word ∷ words) ≡ true
  all_taken word words is all values =
      let found = walks_all word words is all values in
      let level : level_passes shape [] nothing_held (word ∷ words) false ≡ true = ap₂ (λ (a b : Bool). a && (b && true)) found.passes found.settles in
      leaf_takes (record { top = shape; subs = [] }) nothing_held (word ∷ words) refl level

  pub all_matched : (word : Text) (words : List Text) → IsPlain word → list_all (is_word_of (row name)) words ≡ true → have_values words ≡ true
      → matches_of the_app (word ∷ words) ≡ fold with_default (rows_by words None (named_rows word)) rules
  all_matched word words is all values = ap (λ (rows : List Row). fold with_default rows rules) (walks_all word words is all values).ends
