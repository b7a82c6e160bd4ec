-- What words in the table ask, and that it lies in its ranges.
use Rattle.std.proofs.Common.{ℕ, ◌≡◌, ◌∙◌, ◌≤◌, ap, refl, sym, subst, codes, true, false, List, [], ◌∷◌, Some, None, Option, Bool, ◌&&◌, nat_le, drop, length, slice_get, option_map, IfSome, true≢false, leb-true, arith, is_some, if◌then◌else◌, Result, Ok, Err, IfOk}
use Rattle.std.specs.List.{list_all}
use Rattle.std.specs.Option.{unwrap_or}
use Rattle.std.proofs.lemmas.Slice.Eq.{bytes_eq-Decides}
use Rattle.clap.proofs.WalkLemmas.{both}
use Rattle.clap.specs.Matches.{first_value, matched_of, raw_values}
use Rattle.clap.specs.declared.parser.matches.Found.{Found}
use Rattle.command_words.specs.declared.command.Align.TheVariants as align
use Rattle.command_words.specs.declared.command.Command.{Command}
use Rattle.command_words.specs.declared.command.Command.TheVariants as commands
use Rattle.command_words.specs.declared.name.CommandName.{CommandName}
use Rattle.command_words.specs.declared.name.CommandName.TheVariants.{Dml, Check, Plan, Seq, Step, Run, Gen}
use Rattle.command_words.specs.Numbers.{is_number, value_of_digits}
use Rattle.command_words.specs.Table.{Text, DefaultBudget, DefaultSize, DefaultThreshold, DefaultWorkers, LargestBudget, LargestSeed, LargestSize, LargestThreshold, LatestUntil, MostFiles, MostParts, MostWorkers, fits_option, is_alignment, is_one_of, is_within, row, same_text, takes_value}
use Rattle.command_words.specs.Words.{AllFit, Asked, IsAlignInRange, IsInRange, align_of, align_or_net, asked_by, asked_of_words, command_by, command_in_table, files_in, have_values, is_in_row, is_plain_word, is_value_of, is_word_of, number_or, stand_once, value_of}
use Rattle.command_words.specs.Parsed.{IsInTable, IsMatched}
use Rattle.command_words.proofs.Walks.{values_after, values_here}
use Rattle.command_words.proofs.Lookups.{value_here, value_skips}

-- ---- values fit their options

value_fits : (option : Text) → takes_value option ≡ true → (words : List Text) → have_values words ≡ true → (v : Text) → value_of option words ≡ Some v → fits_option option v ≡ true
unfolding value_of
value_fits option takes_it [] values v is = absurd (none_some v is)
  where
    none_some : (v : Text) → ◌≡◌ {A = Option Text} None (Some v) → ⊥
    none_some v e = cc
value_fits option takes_it (w ∷ words) values v is = go (same_text w option) refl (λ later. value_fits option takes_it words (values_after w words values) v later)
  where
    go : (b : Bool) → same_text w option ≡ b → (value_of option words ≡ Some v → fits_option option v ≡ true) → fits_option option v ≡ true
    go true same later =
        let here : w ≡ option = (bytes_eq-Decides w option).0 same in
        let taken : takes_value w ≡ true = ap takes_value here ∙ takes_it in
        let next : slice_get words 0 ≡ Some v = sym (value_here option w words same) ∙ is in
        let fits : is_value_of w (Some v) ≡ true = subst (λ (o : Option Text). is_value_of w o ≡ true) next (values_here w words values taken) in
        subst (λ (t : Text). fits_option t v ≡ true) here (both (is_plain_word v) _ fits).1
    go false differs later = later (sym (value_skips option w words differs) ∙ is)

-- the values of words in the table fit
values_fit : (name : CommandName) (words : List Text) → is_in_row (row name) words ≡ true → AllFit (λ option. value_of option words)
values_fit name words in_it option takes_it v is =
    let a = both (list_all (is_word_of (row name)) words) _ in_it in
    let b = both (stand_once words) _ a.1 in
    let c = both (have_values words) _ b.1 in
    value_fits option takes_it words c.0 v is

pub matched_fit : (name : CommandName) (words : List Text) → IsInTable name words → (f : Found) → IsMatched f (drop 1 words) → AllFit (λ option. first_value f (drop 2 option))
matched_fit name [] in_it f m option takes_it v is = absurd in_it
matched_fit name (word ∷ words) in_it f m option takes_it v is = values_fit name words in_it.1 option takes_it v (sym (m.value option takes_it) ∙ is)

-- ---- ranges

-- a word within a range is a number of the range
pub within_range : (least most : ℕ) (v : Text) → is_within least most v ≡ true → (is_number v ≡ true) × (least ≤ value_of_digits v) × (value_of_digits v ≤ most)
within_range least most v e = go (is_number v && (nat_le least (value_of_digits v) && nat_le (value_of_digits v) most)) refl e
  where
    go : (b : Bool) → (is_number v && (nat_le least (value_of_digits v) && nat_le (value_of_digits v) most)) ≡ b
        → is_some (if b then Some (value_of_digits v) else None) ≡ true → (is_number v ≡ true) × (least ≤ value_of_digits v) × (value_of_digits v ≤ most)
    go true is h =
        let parts = both (is_number v) _ is in
        let ends = both (nat_le least (value_of_digits v)) _ parts.1 in
        (parts.0, leb-true least (value_of_digits v) ends.0, leb-true (value_of_digits v) most ends.1)
    go false is h = absurd (true≢false (sym h))

pub number_fits : (least most : ℕ) (o : Option Text) → ((v : Text) → o ≡ Some v → is_within least most v ≡ true) → IfSome o (λ v. is_number v ≡ true)
number_fits least most None fits = tt
number_fits least most (Some v) fits = (within_range least most v (fits v refl)).0

number_range : (least most default : ℕ) (o : Option Text) → ((v : Text) → o ≡ Some v → is_within least most v ≡ true) → least ≤ default → default ≤ most
    → (least ≤ number_or default o) × (number_or default o ≤ most)
number_range least most default None fits low high = (low, high)
number_range least most default (Some v) fits low high = let w = within_range least most v (fits v refl) in (w.1, w.2)

align_in_range : (v : Text) → is_alignment v ≡ true → IsAlignInRange (align_of v)
align_in_range v e = go (same_text v (codes "one")) (same_text v (codes "host")) (same_text v (codes "net")) refl refl refl
  where
    go : (a b c : Bool) → same_text v (codes "one") ≡ a → same_text v (codes "host") ≡ b → same_text v (codes "net") ≡ c
        → IsAlignInRange (if a then align.One else if b then align.Host else if c then align.Net else align.Parts (value_of_digits v))
    go true b c first second third = tt
    go false true c first second third = tt
    go false false true first second third = tt
    go false false false first second third = let w = within_range 1 MostParts v (rw (first, second, third) at e) in (w.1, w.2)

align_range : (o : Option Text) → ((v : Text) → o ≡ Some v → is_alignment v ≡ true) → IsAlignInRange (align_or_net o)
align_range None fits = tt
align_range (Some v) fits = align_in_range v (fits v refl)

module _ (value : Text → Option Text) (fit : AllFit value) where
  until_range : number_or 0 (value (codes "--until")) ≤ LatestUntil
  until_range = (number_range 0 LatestUntil 0 (value (codes "--until")) (λ v is. fit (codes "--until") refl v is) (omega arith) (omega arith)).1

  budget_range : (1 ≤ number_or DefaultBudget (value (codes "--budget"))) × (number_or DefaultBudget (value (codes "--budget")) ≤ LargestBudget)
  budget_range = number_range 1 LargestBudget DefaultBudget (value (codes "--budget")) (λ v is. fit (codes "--budget") refl v is) (omega arith) (omega arith)

  aligned_range : IsAlignInRange (align_or_net (value (codes "--align")))
  aligned_range = align_range (value (codes "--align")) (λ v is. fit (codes "--align") refl v is)

  threshold_range : number_or DefaultThreshold (value (codes "--threshold")) ≤ LargestThreshold
  threshold_range = (number_range 0 LargestThreshold DefaultThreshold (value (codes "--threshold")) (λ v is. fit (codes "--threshold") refl v is) (omega arith) (omega arith)).1

  workers_range : (1 ≤ number_or DefaultWorkers (value (codes "--workers"))) × (number_or DefaultWorkers (value (codes "--workers")) ≤ MostWorkers)
  workers_range = number_range 1 MostWorkers DefaultWorkers (value (codes "--workers")) (λ v is. fit (codes "--workers") refl v is) (omega arith) (omega arith)

  seed_range : number_or 0 (value (codes "--seed")) ≤ LargestSeed
  seed_range = (number_range 0 LargestSeed 0 (value (codes "--seed")) (λ v is. fit (codes "--seed") refl v is) (omega arith) (omega arith)).1

  size_range : (1 ≤ number_or DefaultSize (value (codes "--size"))) × (number_or DefaultSize (value (codes "--size")) ≤ LargestSize)
  size_range = number_range 1 LargestSize DefaultSize (value (codes "--size")) (λ v is. fit (codes "--size") refl v is) (omega arith) (omega arith)

  pub command_range : (name : CommandName) (flat : Bool) → IsInRange (command_by name value flat)
  command_range Dml flat = tt
  command_range Check flat = tt
  command_range Plan flat = tt
  command_range Seq flat = (until_range, budget_range.0, budget_range.1)
  command_range Step flat = (until_range, budget_range.0, budget_range.1, aligned_range, threshold_range)
  command_range Run flat = (until_range, budget_range.0, budget_range.1, aligned_range, threshold_range, workers_range.0, workers_range.1)
  command_range Gen flat = (seed_range, size_range.0, size_range.1)

-- ---- what is asked

pub asked_none : (words : List Text) → command_in_table words ≡ None → asked_of_words words ≡ None
unfolding asked_of_words
asked_none words is = ap (option_map (λ (name : CommandName). asked_by name (drop 1 words))) is

-- words with a command ask something
pub asked_is : (words : List Text) (name : CommandName) → command_in_table words ≡ Some name → asked_of_words words ≡ None → ⊥
unfolding asked_of_words
asked_is words name is none = go (sym (ap (option_map (λ (n : CommandName). asked_by n (drop 1 words))) is) ∙ none)
  where
    go : ◌≡◌ {A = Option Asked} (Some (asked_by name (drop 1 words))) None → ⊥
    go e = cc

by_words : (f : Found) (words : List Text) → IsMatched f words → (name : CommandName) (flat : Bool)
    → command_by name (λ option. first_value f (drop 2 option)) flat ≡ command_by name (λ option. value_of option words) flat
by_words f words m Dml flat = refl
by_words f words m Check flat = refl
by_words f words m Plan flat = refl
by_words f words m Seq flat = λ i. commands.Seq (number_or 0 (m.value (codes "--until") refl i)) (number_or DefaultBudget (m.value (codes "--budget") refl i))
by_words f words m Step flat = λ i.
    commands.Step (number_or 0 (m.value (codes "--until") refl i)) (number_or DefaultBudget (m.value (codes "--budget") refl i)) (align_or_net (m.value (codes "--align") refl i))
    (number_or DefaultThreshold (m.value (codes "--threshold") refl i))
by_words f words m Run flat = λ i.
    commands.Run (number_or 0 (m.value (codes "--until") refl i)) (number_or DefaultBudget (m.value (codes "--budget") refl i)) (align_or_net (m.value (codes "--align") refl i))
    (number_or DefaultThreshold (m.value (codes "--threshold") refl i)) (number_or DefaultWorkers (m.value (codes "--workers") refl i))
by_words f words m Gen flat = λ i. commands.Gen (number_or 0 (m.value (codes "--seed") refl i)) (number_or DefaultSize (m.value (codes "--size") refl i))

pub asked_some : (words : List Text) (name : CommandName) (f : Found) → command_in_table words ≡ Some name → IsMatched f (drop 1 words)
    → (command : Command) (schedule : Option Text) (report : Bool) (files : List Text)
    → command ≡ command_by name (λ option. first_value f (drop 2 option)) (is_one_of (drop 1 words) (codes "--flat"))
    → schedule ≡ first_value f (codes "schedule") → report ≡ is_one_of (drop 1 words) (codes "--report")
    → files ≡ unwrap_or (option_map raw_values (matched_of f (codes "files"))) []
    → asked_of_words words ≡ Some (record { command = command; schedule = schedule; report = report; files = files })
unfolding asked_of_words
asked_some words name f is m command schedule report files of_command of_schedule of_report of_files =
    let command_is = of_command ∙ by_words f (drop 1 words) m name (is_one_of (drop 1 words) (codes "--flat")) in
    let schedule_is : schedule ≡ value_of (codes "--schedule") (drop 1 words) = of_schedule ∙ m.value (codes "--schedule") refl in
    let files_is : files ≡ files_in false (drop 1 words) = of_files ∙ m.files in
    ap (option_map (λ (n : CommandName). asked_by n (drop 1 words))) is
    ∙ (λ i. Some (record { command = sym command_is i; schedule = sym schedule_is i; report = sym of_report i; files = sym files_is i }))

-- ---- the number of files

most_of : (name : CommandName) → (row name).most_files ≤ MostFiles
most_of Dml = omega arith
most_of Check = omega arith
most_of Plan = omega arith
most_of Seq = omega arith
most_of Step = omega arith
most_of Run = omega arith
most_of Gen = omega arith

pub files_few : (name : CommandName) (words : List Text) → IsInTable name words → length (files_in false (drop 1 words)) ≤ MostFiles
files_few name [] in_it = absurd in_it
files_few name (word ∷ words) in_it =
    let a = both (list_all (is_word_of (row name)) words) _ in_it.1 in
    let b = both (stand_once words) _ a.1 in
    let c = both (have_values words) _ b.1 in
    let d = both (list_all (is_one_of words) (row name).must_have) _ c.1 in
    let e = both (nat_le (row name).least_files (length (files_in false words))) _ d.1 in
    omega (arith, leb-true (length (files_in false words)) (row name).most_files e.1, most_of name)

-- ---- facts of a result

pub if_both : {T E : Type 0} (r : Result T E) (A B P : T → Type 0) → ((x : T) → A x → B x → P x) → IfOk r A → IfOk r B → IfOk r P
if_both (Ok x) A B P f a b = f x a b
if_both (Err e) A B P f a b = tt

pub if_all : {T E : Type 0} (r : Result T E) (A B C D P : T → Type 0) → ((x : T) → A x → B x → C x → D x → P x) → IfOk r A → IfOk r B → IfOk r C → IfOk r D → IfOk r P
if_all (Ok x) A B C D P f a b c d = f x a b c d
if_all (Err e) A B C D P f a b c d = tt
