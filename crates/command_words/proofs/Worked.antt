-- Worked words, computed from the definitions.
use Rattle.std.proofs.Common.{◌≡◌, [], ◌∷◌, Some, None, true, false, refl, codes, not, is_some, Bool, List, ◌++◌}
use Rattle.std.specs.List.{list_all}
use Rattle.command_words.specs.declared.command.Align.TheVariants as align
use Rattle.command_words.specs.Table.{Text}
use Rattle.command_words.specs.declared.command.Command.TheVariants as commands
use Rattle.command_words.specs.declared.name.CommandName.TheVariants.{Run, Step, Gen}
use Rattle.command_words.specs.Schedule.{is_schedule, parts}
use Rattle.command_words.specs.Words.{asked_of_words, asked_by, command_in_table, files_in, have_values, stand_once, value_of}

seq_words : asked_of_words (codes "seq" ∷ codes "--until" ∷ codes "10" ∷ codes "m.dml" ∷ []) ≡ Some (record { command = commands.Seq 10 1000000000; schedule = None; report = false; files = codes "m.dml" ∷ [] })
unfolding asked_of_words command_in_table stand_once have_values files_in value_of is_schedule parts
seq_words = refl

seq_words_in_another_order : asked_of_words (codes "seq" ∷ codes "m.dml" ∷ codes "--budget" ∷ codes "3" ∷ codes "n.dml" ∷ codes "--until" ∷ codes "0" ∷ []) ≡ Some (record { command = commands.Seq 0 3; schedule = None; report = false; files = codes "m.dml" ∷ codes "n.dml" ∷ [] })
unfolding asked_of_words command_in_table stand_once have_values files_in value_of is_schedule parts
seq_words_in_another_order = refl

reported_words : asked_of_words (codes "seq" ∷ codes "--report" ∷ codes "m.dml" ∷ codes "--until" ∷ codes "10" ∷ []) ≡ Some (record { command = commands.Seq 10 1000000000; schedule = None; report = true; files = codes "m.dml" ∷ [] })
unfolding asked_of_words command_in_table stand_once have_values files_in value_of is_schedule parts
reported_words = refl

dml_words : asked_of_words (codes "dml" ∷ codes "m.dml" ∷ codes "n.dml" ∷ []) ≡ Some (record { command = commands.Dml false; schedule = None; report = false; files = codes "m.dml" ∷ codes "n.dml" ∷ [] })
unfolding asked_of_words command_in_table stand_once have_values files_in value_of is_schedule parts
dml_words = refl

flat_words : asked_of_words (codes "dml" ∷ codes "m.dml" ∷ codes "--flat" ∷ []) ≡ Some (record { command = commands.Dml true; schedule = None; report = false; files = codes "m.dml" ∷ [] })
unfolding asked_of_words command_in_table stand_once have_values files_in value_of is_schedule parts
flat_words = refl

check_words : asked_of_words (codes "check" ∷ codes "m.dml" ∷ codes "n.dml" ∷ []) ≡ Some (record { command = commands.Check; schedule = None; report = false; files = codes "m.dml" ∷ codes "n.dml" ∷ [] })
unfolding asked_of_words command_in_table stand_once have_values files_in value_of is_schedule parts
check_words = refl

plan_words : asked_of_words (codes "plan" ∷ codes "m.dml" ∷ []) ≡ Some (record { command = commands.Plan; schedule = None; report = false; files = codes "m.dml" ∷ [] })
unfolding asked_of_words command_in_table stand_once have_values files_in value_of is_schedule parts
plan_words = refl

check_with_an_option : asked_of_words (codes "check" ∷ codes "--until" ∷ codes "3" ∷ codes "m.dml" ∷ []) ≡ None
unfolding asked_of_words command_in_table stand_once have_values files_in value_of is_schedule parts
check_with_an_option = refl

plan_with_a_flag : asked_of_words (codes "plan" ∷ codes "--flat" ∷ codes "m.dml" ∷ []) ≡ None
unfolding asked_of_words command_in_table stand_once have_values files_in value_of is_schedule parts
plan_with_a_flag = refl

plan_without_files : asked_of_words (codes "plan" ∷ []) ≡ None
unfolding asked_of_words command_in_table stand_once have_values files_in value_of is_schedule parts
plan_without_files = refl

no_words_at_all : asked_of_words [] ≡ None
unfolding asked_of_words command_in_table stand_once have_values files_in value_of is_schedule parts
no_words_at_all = refl

no_until : asked_of_words (codes "seq" ∷ codes "m.dml" ∷ []) ≡ None
unfolding asked_of_words command_in_table stand_once have_values files_in value_of is_schedule parts
no_until = refl

leading_zero : asked_of_words (codes "seq" ∷ codes "--until" ∷ codes "010" ∷ codes "m.dml" ∷ []) ≡ None
unfolding asked_of_words command_in_table stand_once have_values files_in value_of is_schedule parts
leading_zero = refl

joined_value : asked_of_words (codes "seq" ∷ codes "--until=10" ∷ codes "m.dml" ∷ []) ≡ None
unfolding asked_of_words command_in_table stand_once have_values files_in value_of is_schedule parts
joined_value = refl

no_file : asked_of_words (codes "seq" ∷ codes "--until" ∷ codes "10" ∷ []) ≡ None
unfolding asked_of_words command_in_table stand_once have_values files_in value_of is_schedule parts
no_file = refl

an_empty_word : asked_of_words (codes "dml" ∷ [] ∷ codes "m.dml" ∷ []) ≡ None
unfolding asked_of_words command_in_table stand_once have_values files_in value_of is_schedule parts
an_empty_word = refl

latest : asked_of_words (codes "seq" ∷ codes "--until" ∷ codes "1000000000000000000" ∷ codes "m.dml" ∷ []) ≡ Some (record { command = commands.Seq 1000000000000000000 1000000000; schedule = None; report = false; files = codes "m.dml" ∷ [] })
unfolding asked_of_words command_in_table stand_once have_values files_in value_of is_schedule parts
latest = refl

too_late : asked_of_words (codes "seq" ∷ codes "--until" ∷ codes "1000000000000000001" ∷ codes "m.dml" ∷ []) ≡ None
unfolding asked_of_words command_in_table stand_once have_values files_in value_of is_schedule parts
too_late = refl

-- on timelines

a_run : asked_of_words (codes "run" ∷ codes "--until" ∷ codes "1" ∷ codes "--workers" ∷ codes "64" ∷ codes "m.dml" ∷ [])
    ≡ Some (record { command = commands.Run 1 1000000000 align.Net 0 64; schedule = None; report = false; files = codes "m.dml" ∷ [] })
unfolding asked_of_words command_in_table stand_once have_values files_in value_of is_schedule parts
a_run = refl

too_many_workers : asked_of_words (codes "run" ∷ codes "--until" ∷ codes "1" ∷ codes "--workers" ∷ codes "65" ∷ codes "m.dml" ∷ []) ≡ None
unfolding asked_of_words command_in_table stand_once have_values files_in value_of is_schedule parts
too_many_workers = refl

a_step : asked_of_words (codes "step" ∷ codes "--until" ∷ codes "5" ∷ codes "--align" ∷ codes "host" ∷ codes "--threshold" ∷ codes "5" ∷ codes "--schedule" ∷ codes "r0,c,p1.4" ∷ codes "m.dml" ∷ [])
    ≡ Some (record { command = commands.Step 5 1000000000 align.Host 5; schedule = Some (codes "r0,c,p1.4"); report = false; files = codes "m.dml" ∷ [] })
unfolding asked_of_words command_in_table stand_once have_values files_in value_of is_schedule parts
a_step = refl

a_reported_step : asked_of_words (codes "step" ∷ codes "--until" ∷ codes "1" ∷ codes "--report" ∷ codes "m.dml" ∷ [])
    ≡ Some (record { command = commands.Step 1 1000000000 align.Net 0; schedule = None; report = true; files = codes "m.dml" ∷ [] })
unfolding asked_of_words command_in_table stand_once have_values files_in value_of is_schedule parts
a_reported_step = refl

a_step_in_parts : asked_of_words (codes "step" ∷ codes "--align" ∷ codes "4096" ∷ codes "--budget" ∷ codes "3" ∷ codes "--until" ∷ codes "1" ∷ codes "m.dml" ∷ [])
    ≡ Some (record { command = commands.Step 1 3 (align.Parts 4096) 0; schedule = None; report = false; files = codes "m.dml" ∷ [] })
unfolding asked_of_words command_in_table stand_once have_values files_in value_of is_schedule parts
a_step_in_parts = refl

no_step_of_a_schedule : asked_of_words (codes "step" ∷ codes "--until" ∷ codes "1" ∷ codes "--schedule" ∷ codes "x" ∷ codes "m.dml" ∷ []) ≡ None
unfolding asked_of_words command_in_table stand_once have_values files_in value_of is_schedule parts
no_step_of_a_schedule = refl

a_campus : asked_of_words (codes "gen" ∷ codes "--size" ∷ codes "1" ∷ codes "--seed" ∷ codes "7" ∷ []) ≡ Some (record { command = commands.Gen 7 1; schedule = None; report = false; files = [] })
unfolding asked_of_words command_in_table stand_once have_values files_in value_of is_schedule parts
a_campus = refl

a_campus_of_a_file : asked_of_words (codes "gen" ∷ codes "--seed" ∷ codes "7" ∷ codes "m.dml" ∷ []) ≡ None
unfolding asked_of_words command_in_table stand_once have_values files_in value_of is_schedule parts
a_campus_of_a_file = refl

no_command : command_in_table (codes "fly" ∷ codes "m.dml" ∷ []) ≡ None
unfolding asked_of_words command_in_table stand_once have_values files_in value_of is_schedule parts
no_command = refl

until_twice : command_in_table (codes "seq" ∷ codes "--until" ∷ codes "1" ∷ codes "m.dml" ∷ codes "--until" ∷ codes "1" ∷ []) ≡ None
unfolding asked_of_words command_in_table stand_once have_values files_in value_of is_schedule parts
until_twice = refl

an_option_for_a_value : command_in_table (codes "seq" ∷ codes "--until" ∷ codes "--budget" ∷ codes "m.dml" ∷ []) ≡ None
unfolding asked_of_words command_in_table stand_once have_values files_in value_of is_schedule parts
an_option_for_a_value = refl

bare_step : is_schedule (codes "x") ≡ false
unfolding asked_of_words command_in_table stand_once have_values files_in value_of is_schedule parts
bare_step = refl

joined_steps : is_schedule (codes "x0,p0.4,t0,e0,r0,c,x999999999") ≡ true
unfolding asked_of_words command_in_table stand_once have_values files_in value_of is_schedule parts
joined_steps = refl

ten_digits : is_schedule (codes "x1000000000") ≡ false
unfolding asked_of_words command_in_table stand_once have_values files_in value_of is_schedule parts
ten_digits = refl

step_with_zero : is_schedule (codes "x00") ≡ false
unfolding asked_of_words command_in_table stand_once have_values files_in value_of is_schedule parts
step_with_zero = refl

comma_at_the_end : is_schedule (codes "c,") ≡ false
unfolding asked_of_words command_in_table stand_once have_values files_in value_of is_schedule parts
comma_at_the_end = refl

-- each option twice, with a value that begins with `-`, with `=`, abbreviated, and at the ends of its range

abbrev in_table : List Text → Bool
in_table words = is_some (command_in_table words)

step_refusals : list_all (λ more. not (in_table ((codes "step" ∷ codes "m.dml" ∷ codes "--until" ∷ codes "1" ∷ []) ++ more)))
    ((codes "--align" ∷ codes "one" ∷ codes "--align" ∷ codes "one" ∷ [])
    ∷ (codes "--threshold" ∷ codes "0" ∷ codes "--threshold" ∷ codes "0" ∷ [])
    ∷ (codes "--schedule" ∷ codes "c" ∷ codes "--schedule" ∷ codes "c" ∷ [])
    ∷ (codes "--report" ∷ codes "--report" ∷ [])
    ∷ (codes "--align" ∷ codes "-1" ∷ [])
    ∷ (codes "--threshold" ∷ codes "-1" ∷ [])
    ∷ (codes "--schedule" ∷ codes "-c" ∷ [])
    ∷ (codes "--align=one" ∷ [])
    ∷ (codes "--threshold=0" ∷ [])
    ∷ (codes "--schedule=c" ∷ [])
    ∷ (codes "--report=true" ∷ [])
    ∷ (codes "--ali" ∷ codes "one" ∷ [])
    ∷ (codes "--thr" ∷ codes "0" ∷ [])
    ∷ (codes "--sch" ∷ codes "c" ∷ [])
    ∷ (codes "--rep" ∷ [])
    ∷ (codes "--align" ∷ codes "0" ∷ [])
    ∷ (codes "--align" ∷ codes "4097" ∷ [])
    ∷ (codes "--align" ∷ codes "all" ∷ [])
    ∷ (codes "--threshold" ∷ codes "1000000000000001" ∷ [])
    ∷ (codes "--budget" ∷ codes "0" ∷ [])
    ∷ (codes "--budget" ∷ codes "1000000000001" ∷ [])
    ∷ (codes "--workers" ∷ codes "1" ∷ [])
    ∷ (codes "--schedule" ∷ codes "x" ∷ [])
    ∷ (codes "--flat" ∷ [])
    ∷ []) ≡ true
unfolding asked_of_words command_in_table stand_once have_values files_in value_of is_schedule parts
step_refusals = refl

steps_taken : list_all (λ more. in_table ((codes "step" ∷ codes "m.dml" ∷ codes "--until" ∷ codes "1" ∷ []) ++ more))
    ((codes "--align" ∷ codes "one" ∷ [])
    ∷ (codes "--align" ∷ codes "host" ∷ [])
    ∷ (codes "--align" ∷ codes "net" ∷ [])
    ∷ (codes "--align" ∷ codes "1" ∷ [])
    ∷ (codes "--align" ∷ codes "4096" ∷ [])
    ∷ (codes "--threshold" ∷ codes "0" ∷ [])
    ∷ (codes "--threshold" ∷ codes "1000000000000000" ∷ [])
    ∷ (codes "--budget" ∷ codes "1" ∷ [])
    ∷ (codes "--budget" ∷ codes "1000000000000" ∷ [])
    ∷ (codes "--schedule" ∷ codes "x0,p0.4,c" ∷ [])
    ∷ (codes "--report" ∷ [])
    ∷ []) ≡ true
unfolding asked_of_words command_in_table stand_once have_values files_in value_of is_schedule parts
steps_taken = refl

run_refusals : list_all (λ more. not (in_table ((codes "run" ∷ codes "m.dml" ∷ codes "--until" ∷ codes "1" ∷ []) ++ more)))
    ((codes "--workers" ∷ codes "1" ∷ codes "--workers" ∷ codes "1" ∷ [])
    ∷ (codes "--workers" ∷ codes "-1" ∷ [])
    ∷ (codes "--workers=1" ∷ [])
    ∷ (codes "--wor" ∷ codes "1" ∷ [])
    ∷ (codes "--workers" ∷ codes "0" ∷ [])
    ∷ (codes "--workers" ∷ codes "65" ∷ [])
    ∷ (codes "--schedule" ∷ codes "c" ∷ [])
    ∷ (codes "--size" ∷ codes "1" ∷ [])
    ∷ []) ≡ true
unfolding asked_of_words command_in_table stand_once have_values files_in value_of is_schedule parts
run_refusals = refl

gen_refusals : list_all (λ more. not (in_table ((codes "gen" ∷ []) ++ more)))
    ((codes "--seed" ∷ codes "1" ∷ codes "--seed" ∷ codes "1" ∷ [])
    ∷ (codes "--seed" ∷ codes "1" ∷ codes "--size" ∷ codes "1" ∷ codes "--size" ∷ codes "1" ∷ [])
    ∷ (codes "--seed" ∷ codes "-1" ∷ [])
    ∷ (codes "--seed=1" ∷ [])
    ∷ (codes "--see" ∷ codes "1" ∷ [])
    ∷ (codes "--seed" ∷ codes "1000000000000000001" ∷ [])
    ∷ (codes "--seed" ∷ codes "1" ∷ codes "--size" ∷ codes "0" ∷ [])
    ∷ (codes "--seed" ∷ codes "1" ∷ codes "--size" ∷ codes "1001" ∷ [])
    ∷ (codes "--seed" ∷ codes "1" ∷ codes "--size=1" ∷ [])
    ∷ (codes "--seed" ∷ codes "1" ∷ codes "--siz" ∷ codes "1" ∷ [])
    ∷ (codes "--size" ∷ codes "1" ∷ [])
    ∷ (codes "--seed" ∷ codes "1" ∷ codes "--until" ∷ codes "1" ∷ [])
    ∷ []) ≡ true
unfolding asked_of_words command_in_table stand_once have_values files_in value_of is_schedule parts
gen_refusals = refl

gens_taken : list_all (λ more. in_table ((codes "gen" ∷ []) ++ more))
    ((codes "--seed" ∷ codes "0" ∷ codes "--size" ∷ codes "1000" ∷ [])
    ∷ (codes "--size" ∷ codes "1" ∷ codes "--seed" ∷ codes "1000000000000000000" ∷ [])
    ∷ []) ≡ true
unfolding asked_of_words command_in_table stand_once have_values files_in value_of is_schedule parts
gens_taken = refl

-- what is left out

run_defaults : asked_by Run (codes "--until" ∷ codes "5" ∷ codes "m.dml" ∷ []) ≡ record { command = commands.Run 5 1000000000 align.Net 0 4; schedule = None; report = false; files = codes "m.dml" ∷ [] }
unfolding asked_of_words command_in_table stand_once have_values files_in value_of is_schedule parts
run_defaults = refl

step_asked : asked_by Step (codes "--align" ∷ codes "7" ∷ codes "--report" ∷ codes "--until" ∷ codes "5" ∷ codes "m.dml" ∷ codes "--threshold" ∷ codes "9" ∷ codes "--schedule" ∷ codes "c" ∷ codes "--budget" ∷ codes "3" ∷ []) ≡ record { command = commands.Step 5 3 (align.Parts 7) 9; schedule = Some (codes "c"); report = true; files = codes "m.dml" ∷ [] }
unfolding asked_of_words command_in_table stand_once have_values files_in value_of is_schedule parts
step_asked = refl

gen_defaults : asked_by Gen (codes "--seed" ∷ codes "7" ∷ []) ≡ record { command = commands.Gen 7 10; schedule = None; report = false; files = [] }
unfolding asked_of_words command_in_table stand_once have_values files_in value_of is_schedule parts
gen_defaults = refl
