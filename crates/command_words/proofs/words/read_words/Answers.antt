use Rattle.std.proofs.Common.{◌∙◌, ◌≤◌, ap, refl, sym, subst, arith, codes, drop, length, map, option_map, string_bytes, Bool, false, List, Option}
use Rattle.std.proofs.lemmas.Result.{IfOk-weaker}
use Rattle.clap.specs.Words.{first_value, found_of}
use Rattle.clap.specs.declared.parser.matches.Found.{Found}
use Rattle.command_words.specs.declared.words.Request.{Request}
use Rattle.command_words.specs.Parsed.{IsMatched}
use Rattle.command_words.specs.Table.{Text, MostFiles, is_one_of}
use Rattle.command_words.specs.Words.{AllFit, IsInRange, files_in}
use Rattle.command_words.proofs.Asked.{asked_is, asked_none, asked_some, command_range, files_few, if_all, if_both, matched_fit}
use Rattle.command_words.proofs.words.read_words.Goals as goal

pub returns-in_default-clause-words : goal.returns-in_default-clause-words
returns-in_default-clause-words c = λ is. asked_none (map string_bytes c.args.words.now) (sym c.command_of.ensures.command ∙ c.in_default.is)

pub request_of-requires : goal.request_of-requires
request_of-requires c =
    matched_fit c.in-Some.name (map string_bytes c.args.words.now) c.in-Some.ensures.in_table (found_of c.in_ok-matches.matches) c.in_ok-matches.ensures.matched

pub returns-clause-ok : goal.returns-clause-ok
returns-clause-ok c =
    let words : List Text = map string_bytes c.args.words.now in
    let f : Found = found_of c.in_ok-matches.matches in
    let m : IsMatched f (drop 1 words) = c.in_ok-matches.ensures.matched in
    if_all c.request_of.result _ _ _ _ _
    (λ (r : Request) command schedule report files. asked_some words c.in-Some.name f (sym c.command_of.ensures.command ∙ c.in-Some.is) m r.command (option_map string_bytes r.schedule) r.report
    (map string_bytes r.files.items) (command (is_one_of (drop 1 words) (codes "--flat")) m.flat) schedule (report (is_one_of (drop 1 words) (codes "--report")) m.report) files)
    c.request_of.ensures.command c.request_of.ensures.schedule c.request_of.ensures.report c.request_of.ensures.files

pub returns-clause-range : goal.returns-clause-range
returns-clause-range c =
    let words : List Text = map string_bytes c.args.words.now in
    let f : Found = found_of c.in_ok-matches.matches in
    let m : IsMatched f (drop 1 words) = c.in_ok-matches.ensures.matched in
    let value : Text → Option Text = λ option. first_value f (drop 2 option) in
    let fit : AllFit value = matched_fit c.in-Some.name words c.in-Some.ensures.in_table f m in
    let flat : Bool = is_one_of (drop 1 words) (codes "--flat") in
    IfOk-weaker c.request_of.result _ _ (λ (r : Request) command. subst IsInRange (sym (command flat m.flat)) (command_range value fit c.in-Some.name flat)) c.request_of.ensures.command

pub returns-clause-scheduled : goal.returns-clause-scheduled
returns-clause-scheduled c =
    let f : Found = found_of c.in_ok-matches.matches in
    let fit : AllFit (λ option. first_value f (drop 2 option)) = matched_fit c.in-Some.name (map string_bytes c.args.words.now) c.in-Some.ensures.in_table f c.in_ok-matches.ensures.matched in
    IfOk-weaker c.request_of.result _ _ (λ (r : Request) schedule word is. fit (codes "--schedule") refl word (sym schedule ∙ is)) c.request_of.ensures.schedule

pub returns-clause-files : goal.returns-clause-files
returns-clause-files c =
    let words : List Text = map string_bytes c.args.words.now in
    let f : Found = found_of c.in_ok-matches.matches in
    let m : IsMatched f (drop 1 words) = c.in_ok-matches.ensures.matched in
    let few : length (files_in false (drop 1 words)) ≤ MostFiles = files_few c.in-Some.name words c.in-Some.ensures.in_table in
    if_both c.request_of.result _ _ _ (λ (r : Request) files len. omega (arith, len, ap length (files ∙ m.files), few)) c.request_of.ensures.files c.request_of.ensures.len

pub returns-clause-refused : goal.returns-clause-refused
returns-clause-refused c = λ none. absurd (asked_is (map string_bytes c.args.words.now) c.in-Some.name (sym c.command_of.ensures.command ∙ c.in-Some.is) none)

pub returns-in_err-matches-clause-refused : goal.returns-in_err-matches-clause-refused
returns-in_err-matches-clause-refused c = λ none. absurd (asked_is (map string_bytes c.args.words.now) c.in-Some.name (sym c.command_of.ensures.command ∙ c.in-Some.is) none)
