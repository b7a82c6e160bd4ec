-- One word of the walk over the words that `clap` makes.
use Rattle.std.proofs.Common.{◌≡◌, refl, codes, true, false, not, List, [], ◌∷◌, Some, None, Bool, ◌&&◌, ◌||◌, drop}
use Rattle.std.specs.List.{list_all}
use Rattle.std.specs.Str.{bytes_eq}
use Rattle.clap.specs.Walk.{Held, Rule, Waiting, Walk, arg_by_id, idle, option, positional, reacted, settled, walked}
use Rattle.clap.specs.Takes.{settle_passes, turn_passes, use_passes}
use Rattle.command_words.specs.Table.{Text, takes_value}
use Rattle.command_words.specs.Words.{begins_with_dash}
use Rattle.command_words.proofs.TheApp.{rules, shape, flag_rule, value_rule}

-- the walk between two words, behind the command's name
abbrev pub at : Waiting → Held → Walk
at waiting held = record { held = held; waiting = waiting; position = 2; is_trailing = false; stopped = None }

-- the option waits for its value
abbrev pub awaiting : Text → Held → Held
awaiting id h = record (settled rules h) { pending = Some (id, []) }

-- what is held after a file, after the value of an option, and after an option without one
abbrev pub with_file : Text → Held → Held
with_file word h = record (settled rules h) { pending = Some (codes "files", word ∷ []) }

abbrev pub with_value : Text → Text → Held → Held
with_value id word h = record (settled rules h) { pending = Some (id, word ∷ []) }

abbrev pub with_flag : Text → Held → Held
with_flag id h = reacted rules (flag_rule id) [] h

-- nothing waits, or the files do
abbrev pub between : Bool → Waiting
between false = idle
between true = positional

-- no default stands for an option of this name that is left out
abbrev pub has_none : List Text → Bool
has_none [] = true
has_none (v ∷ vs) = false

abbrev pub is_undefaulted : Text → Rule → Bool
is_undefaulted id a = has_none a.defaults || not (bytes_eq a.id id)

pub record IsValueOption (n : Text) : Type 0 where
  pub dashes : n ≡ 45 ∷ 45 ∷ drop 2 n
  pub dashed : begins_with_dash n ≡ true
  pub valued : takes_value n ≡ true
  pub idle_step : (h : Held) → walked rules [] (at idle h) n ≡ at (option (drop 2 n)) (awaiting (drop 2 n) h)
  pub positional_step : (h : Held) → walked rules [] (at positional h) n ≡ at (option (drop 2 n)) (awaiting (drop 2 n) h)
  pub idle_passes : (h : Held) → turn_passes shape [] (at idle h) n ≡ (settle_passes rules true h && true)
  pub positional_passes : (h : Held) → turn_passes shape [] (at positional h) n ≡ (settle_passes rules true h && true)
  pub found : arg_by_id rules (drop 2 n) ≡ Some (value_rule (drop 2 n))
  pub own : bytes_eq (drop 2 n) (drop 2 n) ≡ true
  pub no_file : bytes_eq (codes "files") (drop 2 n) ≡ false
  pub other_file : bytes_eq (drop 2 n) (codes "files") ≡ false
  pub no_command : bytes_eq (codes "command") (drop 2 n) ≡ false
  pub no_default : list_all (is_undefaulted (drop 2 n)) rules ≡ true

pub record IsFlag (n : Text) : Type 0 where
  pub dashes : n ≡ 45 ∷ 45 ∷ drop 2 n
  pub dashed : begins_with_dash n ≡ true
  pub no_value : takes_value n ≡ false
  pub idle_step : (h : Held) → walked rules [] (at idle h) n ≡ at idle (with_flag (drop 2 n) h)
  pub positional_step : (h : Held) → walked rules [] (at positional h) n ≡ at idle (with_flag (drop 2 n) h)
  pub idle_passes : (h : Held) → turn_passes shape [] (at idle h) n ≡ ((settle_passes rules true h && use_passes true (flag_rule (drop 2 n)) [] (settled rules h).rows) && true)
  pub positional_passes : (h : Held) → turn_passes shape [] (at positional h) n ≡ ((settle_passes rules true h && use_passes true (flag_rule (drop 2 n)) [] (settled rules h).rows) && true)
  pub own : bytes_eq (drop 2 n) (drop 2 n) ≡ true
  pub no_file : bytes_eq (codes "files") (drop 2 n) ≡ false
  pub other_file : bytes_eq (drop 2 n) (codes "files") ≡ false
  pub no_command : bytes_eq (codes "command") (drop 2 n) ≡ false

pub is_until : IsValueOption (codes "--until")
unfolding walked
is_until = record { dashes = refl; dashed = refl; valued = refl; idle_step = λ h. refl; positional_step = λ h. refl; idle_passes = λ h. refl; positional_passes = λ h. refl; found = refl; own = refl; no_file = refl; other_file = refl; no_command = refl; no_default = refl }

pub is_align : IsValueOption (codes "--align")
unfolding walked
is_align = record { dashes = refl; dashed = refl; valued = refl; idle_step = λ h. refl; positional_step = λ h. refl; idle_passes = λ h. refl; positional_passes = λ h. refl; found = refl; own = refl; no_file = refl; other_file = refl; no_command = refl; no_default = refl }

pub is_threshold : IsValueOption (codes "--threshold")
unfolding walked
is_threshold = record { dashes = refl; dashed = refl; valued = refl; idle_step = λ h. refl; positional_step = λ h. refl; idle_passes = λ h. refl; positional_passes = λ h. refl; found = refl; own = refl; no_file = refl; other_file = refl; no_command = refl; no_default = refl }

pub is_budget : IsValueOption (codes "--budget")
unfolding walked
is_budget = record { dashes = refl; dashed = refl; valued = refl; idle_step = λ h. refl; positional_step = λ h. refl; idle_passes = λ h. refl; positional_passes = λ h. refl; found = refl; own = refl; no_file = refl; other_file = refl; no_command = refl; no_default = refl }

pub is_schedule : IsValueOption (codes "--schedule")
unfolding walked
is_schedule = record { dashes = refl; dashed = refl; valued = refl; idle_step = λ h. refl; positional_step = λ h. refl; idle_passes = λ h. refl; positional_passes = λ h. refl; found = refl; own = refl; no_file = refl; other_file = refl; no_command = refl; no_default = refl }

pub is_workers : IsValueOption (codes "--workers")
unfolding walked
is_workers = record { dashes = refl; dashed = refl; valued = refl; idle_step = λ h. refl; positional_step = λ h. refl; idle_passes = λ h. refl; positional_passes = λ h. refl; found = refl; own = refl; no_file = refl; other_file = refl; no_command = refl; no_default = refl }

pub is_seed : IsValueOption (codes "--seed")
unfolding walked
is_seed = record { dashes = refl; dashed = refl; valued = refl; idle_step = λ h. refl; positional_step = λ h. refl; idle_passes = λ h. refl; positional_passes = λ h. refl; found = refl; own = refl; no_file = refl; other_file = refl; no_command = refl; no_default = refl }

pub is_size : IsValueOption (codes "--size")
unfolding walked
is_size = record { dashes = refl; dashed = refl; valued = refl; idle_step = λ h. refl; positional_step = λ h. refl; idle_passes = λ h. refl; positional_passes = λ h. refl; found = refl; own = refl; no_file = refl; other_file = refl; no_command = refl; no_default = refl }

pub is_flat : IsFlag (codes "--flat")
unfolding walked
is_flat = record { dashes = refl; dashed = refl; no_value = refl; idle_step = λ h. refl; positional_step = λ h. refl; idle_passes = λ h. refl; positional_passes = λ h. refl; own = refl; no_file = refl; other_file = refl; no_command = refl }

pub is_report : IsFlag (codes "--report")
unfolding walked
is_report = record { dashes = refl; dashed = refl; no_value = refl; idle_step = λ h. refl; positional_step = λ h. refl; idle_passes = λ h. refl; positional_passes = λ h. refl; own = refl; no_file = refl; other_file = refl; no_command = refl }
