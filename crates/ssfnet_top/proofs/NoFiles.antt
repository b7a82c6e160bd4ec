-- The command `gen` has no files, and so its outcome and what it writes are the same whatever the files are.
use Rattle.std.proofs.Common.{ℕ, ◌≡◌, ◌∙◌, ap, refl, sym, subst, true, false, List, [], ◌∷◌, Some, None, Option, Bool, ◌&&◌, nat_le, length, drop, option_map, leb-true, arith, if◌then◌else◌, Result, Ok, Err, OnOk, ◌⊎◌, inl, inr}
use Rattle.std.specs.List.{list_all}
use Rattle.sim_base.specs.Outside.{Files, Appends}
use Rattle.dml_tree.specs.Attributes.{Attributes, none}
use Rattle.model_gen.specs.Campus.{campus_text}
use Rattle.command_words.specs.declared.command.Align.{Align}
use Rattle.command_words.specs.declared.command.Command.{Command}
use Rattle.command_words.specs.declared.command.Command.TheVariants as commands
use Rattle.command_words.specs.declared.name.CommandName.{CommandName}
use Rattle.command_words.specs.declared.name.CommandName.TheVariants.{Dml, Check, Plan, Seq, Step, Run, Gen}
use Rattle.command_words.specs.Table.{Text, is_one_of, row, named}
use Rattle.command_words.specs.Words.{Asked, asked_by, asked_of_words, command_in_table, files_in, have_values, in_row_of, is_in_row, is_word_of, stand_once}
use Rattle.ssfnet_top.specs.declared.refusal.Refusal.{Refusal}
use Rattle.ssfnet_top.specs.declared.refusal.Refusal.TheVariants as refusal
use Rattle.ssfnet_top.specs.Outcome.{Due, done, AreRead, IsText, IsCommandDue, IsCommandMidway, IsTreeDue, IsAskedDue, IsOutcome}
use Rattle.ssfnet_top.specs.Answering.{Answers, AnswersMidway, IsHalt, due_of}
use Rattle.ssfnet_top.specs.Ending.{Generates, HasGenerated}
use Rattle.ssfnet_top.proofs.Endings.{ok_err}

both : (a b : Bool) → (a && b) ≡ true → (a ≡ true) × (b ≡ true)
both true b is = (refl, is)
both false b is = let differ : ◌≡◌ {A = Bool} false true = is in absurd (cc)

-- words that ask for a campus have no names of files among them
abbrev no_files : List Text → Option CommandName → Type 0
no_files words o = (asked : Asked) (seed size : ℕ) → option_map (λ name. asked_by name words) o ≡ Some asked → asked.command ≡ commands.Gen seed size → asked.files ≡ []

none_some : (asked : Asked) → ◌≡◌ {A = Option Asked} None (Some asked) → ⊥
none_some asked is = cc

none_empty : (files : List Text) → nat_le (length files) 0 ≡ true → files ≡ []
none_empty [] few = refl
none_empty (file ∷ files) few = absurd (let low = leb-true (length (file ∷ files)) 0 few in omega arith)

row_without_files : (words : List Text) → is_in_row (row Gen) words ≡ true → files_in false words ≡ []
row_without_files words in_it =
    let a = both (list_all (is_word_of (row Gen)) words) _ in_it in
    let b = both (stand_once words) _ a.1 in
    let c = both (have_values words) _ b.1 in
    let d = both (list_all (is_one_of words) (row Gen).must_have) _ c.1 in
    let e = both (nat_le (row Gen).least_files (length (files_in false words))) _ d.1 in
    none_empty (files_in false words) e.1

dml_asks : (flat : Bool) (seed size : ℕ) → ◌≡◌ {A = Command} (commands.Dml flat) (commands.Gen seed size) → ⊥
dml_asks flat seed size is = cc

check_asks : (seed size : ℕ) → ◌≡◌ {A = Command} commands.Check (commands.Gen seed size) → ⊥
check_asks seed size is = cc

plan_asks : (seed size : ℕ) → ◌≡◌ {A = Command} commands.Plan (commands.Gen seed size) → ⊥
plan_asks seed size is = cc

seq_asks : (until budget seed size : ℕ) → ◌≡◌ {A = Command} (commands.Seq until budget) (commands.Gen seed size) → ⊥
seq_asks until budget seed size is = cc

step_asks : (until budget : ℕ) (aligned : Align) (threshold seed size : ℕ) → ◌≡◌ {A = Command} (commands.Step until budget aligned threshold) (commands.Gen seed size) → ⊥
step_asks until budget aligned threshold seed size is = cc

run_asks : (until budget : ℕ) (aligned : Align) (threshold workers seed size : ℕ) → ◌≡◌ {A = Command} (commands.Run until budget aligned threshold workers) (commands.Gen seed size) → ⊥
run_asks until budget aligned threshold workers seed size is = cc

asks_gen : (name : CommandName) (words : List Text) (seed size : ℕ) → (asked_by name words).command ≡ commands.Gen seed size → name ≡ Gen
asks_gen Dml words seed size is = absurd (dml_asks _ seed size is)
asks_gen Check words seed size is = absurd (check_asks seed size is)
asks_gen Plan words seed size is = absurd (plan_asks seed size is)
asks_gen Seq words seed size is = absurd (seq_asks _ _ seed size is)
asks_gen Step words seed size is = absurd (step_asks _ _ _ _ seed size is)
asks_gen Run words seed size is = absurd (run_asks _ _ _ _ _ seed size is)
asks_gen Gen words seed size is = refl

in_row : (name : CommandName) (words : List Text) (b : Bool) → is_in_row (row name) words ≡ b → no_files words (if b then Some name else None)
in_row name words true in_it asked seed size is gen =
    let both_some : ◌≡◌ {A = Option Asked} (Some (asked_by name words)) (Some asked) = is in
    let same : asked_by name words ≡ asked = cc in
    let named_gen : name ≡ Gen = asks_gen name words seed size (ap (λ (a : Asked). a.command) same ∙ gen) in
    sym (ap (λ (a : Asked). a.files) same) ∙ row_without_files words (subst (λ (n : CommandName). is_in_row (row n) words ≡ true) named_gen in_it)
in_row name words false in_it asked seed size is gen = absurd (none_some asked is)

in_row_named : (o : Option CommandName) (words : List Text) → no_files words (in_row_of o words)
in_row_named None words asked seed size is gen = absurd (none_some asked is)
in_row_named (Some name) words asked seed size is gen = in_row name words (is_in_row (row name) words) refl asked seed size is gen

in_table : (words : List Text) → no_files (drop 1 words) (command_in_table words)
unfolding command_in_table
in_table [] asked seed size is gen = absurd (none_some asked is)
in_table (name ∷ words) asked seed size is gen = in_row_named (named name) words asked seed size is gen

gen_has_no_files : (words : List Text) (asked : Asked) (seed size : ℕ) → asked_of_words words ≡ Some asked → asked.command ≡ commands.Gen seed size → asked.files ≡ []
unfolding asked_of_words
gen_has_no_files words asked seed size is gen = in_table words asked seed size is gen

pub campus_outcome : (files : Files) (words : List Text) (asked : Asked) (seed size : ℕ) → asked_of_words words ≡ Some asked → asked.command ≡ commands.Gen seed size
    → IsOutcome files words (done (campus_text seed size))
campus_outcome files words asked seed size is gen =
    let due : Due = done (campus_text seed size) in
    let tree : Result Attributes Refusal = Ok none in
    let read : AreRead files 0 asked.files tree = subst (λ (l : List Text). AreRead files 0 l tree) (sym (gen_has_no_files words asked seed size is gen)) refl in
    let asks : IsTreeDue asked tree due = subst (λ (c : Command). IsCommandDue c asked none due) (sym gen) refl in
    subst (λ (o : Option Asked). IsAskedDue files o due) (sym is) (tree, read, asks)

-- what `gen` writes where all went well

text_written : (due report text : List ℕ) (answer : Result (Unit {0}) Refusal) (faults faults' : ℕ) (held held' : Option (List ℕ))
    → IsText (Ok due) (due_of report answer text) → Appends text held held' → OnOk answer (Appends due held held')
text_written due report text (Ok unit) faults faults' held held' is all =
    let out : text ≡ due = ap (λ (d : Due). d.out) is in
    subst (λ (t : List ℕ). Appends t held held') out all
text_written due report text (Err r) faults faults' held held' is all = tt

not_halted : (answer : Result (Unit {0}) Refusal) (faults faults' : ℕ) (P : Type 0) → IsHalt answer faults faults' → OnOk answer P
not_halted (Ok unit) faults faults' P (inl is) = absurd (ok_err unit refusal.Memory is)
not_halted (Ok unit) faults faults' P (inr is) = absurd (ok_err unit refusal.Write is.0)
not_halted (Err r) faults faults' P halt = tt

all_written : (due report : List ℕ) (answer : Result (Unit {0}) Refusal) (faults faults' : ℕ) (held held' : Option (List ℕ))
    → Answers (IsText (Ok due)) report answer faults faults' held held' → OnOk answer (Appends due held held')
all_written due report answer faults faults' held held' (inl (text, is, all)) = text_written due report text answer faults faults' held held' is all
all_written due report answer faults faults' held held' (inr (inl (other, is, halt, part))) = not_halted answer faults faults' (Appends due held held') halt
all_written due report answer faults faults' held held' (inr (inr (is, nothing))) = not_halted answer faults faults' (Appends due held held') (inl is)

on_ok : (answer : Result (Unit {0}) Refusal) → OnOk answer (Unit {0})
on_ok (Ok unit) = tt
on_ok (Err r) = tt

generates : (command : Command) (asked : Asked) (tree : Attributes) (report : List ℕ) (answer : Result (Unit {0}) Refusal) (faults faults' : ℕ) (held held' : Option (List ℕ))
    → Answers (IsCommandDue command asked tree) report answer faults faults' held held' ⊎ AnswersMidway (IsCommandMidway command asked tree) answer faults faults' held held' → OnOk answer (Generates command held held')
generates (commands.Dml flat) asked tree report answer faults faults' held held' answers = on_ok answer
generates commands.Check asked tree report answer faults faults' held held' answers = on_ok answer
generates commands.Plan asked tree report answer faults faults' held held' answers = on_ok answer
generates (commands.Seq until budget) asked tree report answer faults faults' held held' answers = on_ok answer
generates (commands.Step until budget aligned threshold) asked tree report answer faults faults' held held' answers = on_ok answer
generates (commands.Run until budget aligned threshold workers) asked tree report answer faults faults' held held' answers = on_ok answer
generates (commands.Gen seed size) asked tree report answer faults faults' held held' (inl answers) = all_written (campus_text seed size) report answer faults faults' held held' answers
generates (commands.Gen seed size) asked tree report answer faults faults' held held' (inr (below, text, midway, how)) = absurd midway

pub campus_written : (o : Option Asked) (asked : Asked) (tree : Attributes) (report : List ℕ) (answer : Result (Unit {0}) Refusal) (faults faults' : ℕ) (held held' : Option (List ℕ))
    → o ≡ Some asked → Answers (IsCommandDue asked.command asked tree) report answer faults faults' held held' ⊎ AnswersMidway (IsCommandMidway asked.command asked tree) answer faults faults' held held'
    → OnOk answer (HasGenerated o held held')
campus_written o asked tree report answer faults faults' held held' is answers =
    let written : OnOk answer (HasGenerated (Some asked) held held') = generates asked.command asked tree report answer faults faults' held held' answers in
    subst (λ (p : Option Asked). OnOk answer (HasGenerated p held held')) (sym is) written
