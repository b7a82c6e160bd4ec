-- From the answer of a command to how its call ends.
use Rattle.std.proofs.Common.{ℕ, ◌≡◌, ◌∙◌, sym, ap, subst, refl, Bool, true, false, List, [], ◌∷◌, ◌++◌, ◌≤◌, lit≤, append-nil, length, take, codes, arith, IfSome, inl, inr, ◌⊎◌, Option, Some, None, IfOk, IfErr, OnOk, OnErr, Result, Ok, Err, Vec, Global}
use Rattle.dml_tree.specs.Attributes.{Attributes}
use Rattle.sim_base.specs.Outside.{Files, Rose, Appends, AppendsPrefix}
use Rattle.command_words.specs.declared.command.Command.{Command}
use Rattle.command_words.specs.declared.command.Command.TheVariants as commands
use Rattle.ssfnet_top.specs.declared.refusal.Refusal.{Refusal}
use Rattle.ssfnet_top.specs.declared.refusal.Refusal.TheVariants as refusal
use Rattle.ssfnet_top.specs.Refusals.{status_of, line_of}
use Rattle.command_words.specs.Words.{Asked}
use Rattle.ssfnet_top.specs.Outcome.{Due, done, done_with, refused, AreRead, IsText, IsTreeDue, IsAskedDue, IsTreeMidway, IsAskedMidway}
use Rattle.ssfnet_top.specs.Answering.{IsMade, AnswersMidway, IsReportTold, due_of, IsHalt, Answers, IsReadFault, IsAnswered}
use Rattle.ssfnet_top.specs.Ending.{Outside, HasBudget, HasMiddle, MayEndMidway, IsReport, IsLongReport, Tells, IsToldOf, WantsReport, HasTold, IsTelling, Says, IsReached, IsFileReached, Ends, Concerns}
use Rattle.std.proofs.lemmas.Grind.{common_steps}

-- nothing is written
pub appends_nothing : (o : Option (List ℕ)) → Appends [] o o
appends_nothing None = tt
appends_nothing (Some h) = ap (λ (bytes : List ℕ). Some bytes) (sym (append-nil h))

take_whole : (xs : List ℕ) → take (length xs) xs ≡ xs
take_whole xs = grind (arith, common_steps)

-- all of a text is a part of it
pub part_all : (text : List ℕ) (o n : Option (List ℕ)) → Appends text o n → AppendsPrefix text o n
part_all text None n all = tt
part_all text (Some h) n all = (length text, omega arith, all ∙ ap (λ (bytes : List ℕ). Some (h ++ bytes)) (sym (take_whole text)))

-- A report that is not wanted is empty.

empty_where : (wanted : Bool) (text : List ℕ) → IsReport wanted text → ¬ (wanted ≡ true) → text ≡ []
empty_where true text is lacks = absurd (lacks refl)
empty_where false text is lacks = is

empty_long : (wanted : Bool) (text : List ℕ) → IsLongReport wanted text → ¬ (wanted ≡ true) → text ≡ []
empty_long true text is lacks = absurd (lacks refl)
empty_long false text is lacks = is

told_nothing : (command : Command) (wanted : Bool) (text : List ℕ) → Tells command wanted text → ¬ (wanted ≡ true) → text ≡ []
told_nothing (commands.Dml flat) wanted text is lacks = is
told_nothing commands.Check wanted text is lacks = is
told_nothing commands.Plan wanted text is lacks = is
told_nothing (commands.Seq until budget) wanted text is lacks = empty_where wanted text is lacks
told_nothing (commands.Step until budget aligned threshold) wanted text is lacks = empty_long wanted text is lacks
told_nothing (commands.Run until budget aligned threshold workers) wanted text is lacks = empty_long wanted text is lacks
told_nothing (commands.Gen seed size) wanted text is lacks = is

unwanted : (asked : Option Asked) (text : List ℕ) → IsToldOf asked text → ¬ WantsReport asked → text ≡ []
unwanted None text is lacks = absurd is
unwanted (Some asked) text is lacks = told_nothing asked.command asked.report text is lacks

wanted_or_empty : (wanted : Bool) → (wanted ≡ true) ⊎ ¬ (wanted ≡ true)
wanted_or_empty true = inl refl
wanted_or_empty false = inr (λ is. let differ : ◌≡◌ {A = Bool} false true = is in cc)

-- one that is not empty is wanted
wanted_where : (asked : Option Asked) (text : List ℕ) → IsToldOf asked text → ¬ (text ≡ []) → WantsReport asked
wanted_where None text is some = absurd is
wanted_where (Some asked) text is some = elim (wanted_or_empty asked.report) [
  | inl wanted ↦ wanted
  | inr lacks ↦ absurd (some (told_nothing asked.command asked.report text is lacks))
]

-- what ended well was not refused
pub ok_err : (unit : Unit {0}) (r : Refusal) → ◌≡◌ {A = Result (Unit {0}) Refusal} (Ok unit) (Err r) → ⊥
ok_err unit r is = cc

not_halted : (unit : Unit {0}) (faults faults' : ℕ) → IsHalt (Ok unit) faults faults' → ⊥
not_halted unit faults faults' (inl is) = ok_err unit refusal.Memory is
not_halted unit faults faults' (inr is) = ok_err unit refusal.Write is.0

-- the budget of one list is that of no command which may be ended in the middle of a run
list_budget : (command : Command) (budget : ℕ) → HasBudget command budget → HasMiddle command → ⊥
list_budget (commands.Seq until most) budget has middle = middle
list_budget (commands.Step until most aligned threshold) budget has middle = has
list_budget (commands.Dml flat) budget has middle = has
list_budget commands.Check budget has middle = has
list_budget commands.Plan budget has middle = has
list_budget (commands.Run until most aligned threshold workers) budget has middle = has
list_budget (commands.Gen seed size) budget has middle = has

no_list_budget : (asked : Option Asked) (budget : ℕ) → Concerns asked (refusal.Budget budget) → MayEndMidway asked → ⊥
no_list_budget None budget has middle = absurd has
no_list_budget (Some asked) budget has middle = list_budget asked.command budget has middle

-- the status of a refusal is 0 nowhere
some_status : (r : Refusal) → status_of r ≡ 0 → ⊥
some_status refusal.Memory is = omega (arith, is)
some_status refusal.Words is = omega (arith, is)
some_status (refusal.Read file) is = omega (arith, is)
some_status (refusal.Dml file f) is = omega (arith, is)
some_status (refusal.Path file f) is = omega (arith, is)
some_status (refusal.Shape f) is = omega (arith, is)
some_status refusal.Write is = omega (arith, is)
some_status (refusal.Budget budget) is = omega (arith, is)
some_status (refusal.TimelineBudget timeline budget below) is = omega (arith, is)
some_status (refusal.MemoryBelow below) is = omega (arith, is)
some_status (refusal.Stopped worker below) is = omega (arith, is)

-- the line of a refusal is told where it is written on `err`
module _ (before after : Outside) where
  -- what is told of a refusal
  abbrev Answered : Refusal → ℕ → Type 0
  Answered r status = IsAnswered r status before.err_faults after.err_faults before.err after.err

  -- want of memory is told by its own line
  memory_says : (status : ℕ) → Answered refusal.Memory status → Says refusal.Memory status before after
  memory_says status (inl told) = told
  memory_says status (inr other) = other.1

  -- the lines that need no memory are told
  unmade_says : (r : Refusal) (status : ℕ) → (IsMade r → ⊥) → Answered r status → Says r status before after
  unmade_says r status unmade (inl told) = told
  unmade_says r status unmade (inr other) = absurd (unmade other.0)

  -- nothing is written where there was no memory, or for faults of files and models
  pub record LeavesNothing (asked : Option Asked) (r : Refusal) : Type 0 where
    pub unbegun : r ≡ refusal.Memory → MayEndMidway asked → Appends [] before.out after.out
    pub nothing : 2 ≤ status_of r → status_of r ≤ 6 → Appends [] before.out after.out

  made_leaves : (asked : Option Asked) (r : Refusal) → IsMade r → Concerns asked r → LeavesNothing asked r → MayEndMidway asked → Appends [] before.out after.out
  made_leaves asked refusal.Memory made c leaves middle = leaves.unbegun refl middle
  made_leaves asked refusal.Words made c leaves middle = leaves.nothing (lit≤ tt) (lit≤ tt)
  made_leaves asked (refusal.Read file) made c leaves middle = leaves.nothing (lit≤ tt) (lit≤ tt)
  made_leaves asked (refusal.Dml file fault) made c leaves middle = leaves.nothing (lit≤ tt) (lit≤ tt)
  made_leaves asked (refusal.Path file fault) made c leaves middle = leaves.nothing (lit≤ tt) (lit≤ tt)
  made_leaves asked (refusal.Shape fault) made c leaves middle = leaves.nothing (lit≤ tt) (lit≤ tt)
  made_leaves asked refusal.Write made c leaves middle = absurd made
  made_leaves asked (refusal.Budget budget) made c leaves middle = absurd (no_list_budget asked budget c middle)
  made_leaves asked (refusal.TimelineBudget timeline budget below) made c leaves middle = absurd made
  made_leaves asked (refusal.MemoryBelow below) made c leaves middle = absurd made
  made_leaves asked (refusal.Stopped worker below) made c leaves middle = absurd made

  module _ (files : Files) (asked : Option Asked) where
    whole_ends : (r : Refusal) (status : ℕ) (text : List ℕ) → IsAskedDue files asked (refused r text) → Appends text before.out after.out → Concerns asked r
        → LeavesNothing asked r → Answered r status → Ends files asked status before after
    whole_ends r status text outcome all c leaves (inl (inl told)) = inl (refused r text, outcome, inl (record { status_is = told.0; out = all; err = told.1 }))
    whole_ends r status text outcome all c leaves (inl (inr half)) =
        inl (refused r text, outcome, inr (inl (record { wanted = λ none. absurd (some_status r none); out = all; err = half })))
    whole_ends r status text outcome all c leaves (inr (made, told)) =
        inl (refused r text, outcome, inr (inr (inl (record { line = told; out = part_all text before.out after.out all; unbegun = made_leaves asked r made c leaves }))))

    halted_ends : (r : Refusal) (status : ℕ) (due : Due) → IsAskedDue files asked due → IsHalt (Err r) before.out_faults after.out_faults → AppendsPrefix due.out before.out after.out
        → LeavesNothing asked r → Answered r status → Ends files asked status before after
    halted_ends r status due outcome (inl is) part leaves told =
        let same : r ≡ refusal.Memory = cc in
        inl (due, outcome, inr (inr (inl (record { line = memory_says status (subst (λ (s : Refusal). Answered s status) same told); out = part; unbegun = leaves.unbegun same }))))
    halted_ends r status due outcome (inr (is, rose)) part leaves told =
        let same : r ≡ refusal.Write = cc in
        inl (due, outcome, inr (inr (inr (record { rose = rose; line = unmade_says refusal.Write status (λ made. made) (subst (λ (s : Refusal). Answered s status) same told); out = part }))))

    unread_ends : (name : List ℕ) (status : ℕ) → IsFileReached files asked name → Rose before.read_faults after.read_faults → Appends [] before.out after.out
        → Answered (refusal.Read name) status → Ends files asked status before after
    unread_ends name status file rose none (inl told) =
        inr (inl (record { cause = inr (record { rose = rose; name = name; file = file; line = told }); out = none }))
    unread_ends name status file rose none (inr other) = inr (inl (record { cause = inl other.1; out = none }))

    midway_ends : (r : Refusal) (status : ℕ) → AnswersMidway (IsAskedMidway files asked) (Err r) before.out_faults after.out_faults before.out after.out → Concerns asked r
        → Answered r status → Ends files asked status before after
    midway_ends r status (below, text, midway, inl (inl is, all)) c told =
        let same : r ≡ refusal.MemoryBelow below = cc in
        let line : Says (refusal.MemoryBelow below) status before after = unmade_says (refusal.MemoryBelow below) status (λ made. made) (subst (λ (s : Refusal). Answered s status) same told) in
        inr (inr (record { below = below; text = text; midway = midway; ended = inl (record { line = line; out = all }) }))
    midway_ends r status (below, text, midway, inl (inr (worker, is), all)) c told =
        let same : r ≡ refusal.Stopped worker below = cc in
        let line : Says (refusal.Stopped worker below) status before after = unmade_says (refusal.Stopped worker below) status (λ made. made) (subst (λ (s : Refusal). Answered s status) same told) in
        let of : Concerns asked (refusal.Stopped worker below) = subst (λ (s : Refusal). Concerns asked s) same c in
        inr (inr (record { below = below; text = text; midway = midway; ended = inr (inl (record { worker = worker; asked_for = of; line = line; out = all })) }))
    midway_ends r status (below, text, midway, inr (is, rose, part)) c told =
        let same : r ≡ refusal.Write = cc in
        let line : Says refusal.Write status before after = unmade_says refusal.Write status (λ made. made) (subst (λ (s : Refusal). Answered s status) same told) in
        inr (inr (record { below = below; text = text; midway = midway; ended = inr (inr (record { rose = rose; line = line; out = part })) }))

    -- it was refused, and the line told
    pub ends_refused : (report : List ℕ) (r : Refusal) (status : ℕ)
        → Answers (IsAskedDue files asked) report (Err r) before.out_faults after.out_faults before.out after.out
        ⊎ (IsReadFault files asked (Err r) before.read_faults after.read_faults before.out after.out
        ⊎ AnswersMidway (IsAskedMidway files asked) (Err r) before.out_faults after.out_faults before.out after.out)
        → Concerns asked r → LeavesNothing asked r
        → IsAnswered r status before.err_faults after.err_faults before.err after.err
        → Ends files asked status before after
    ends_refused report r status (inl (inl all)) c leaves told = whole_ends r status all.0 all.1 all.2 c leaves told
    ends_refused report r status (inl (inr (inl (due, outcome, halt, part)))) c leaves told = halted_ends r status due outcome halt part leaves told
    ends_refused report r status (inl (inr (inr (is, none)))) c leaves told =
        let same : r ≡ refusal.Memory = cc in
        inr (inl (record { cause = inl (memory_says status (subst (λ (s : Refusal). Answered s status) same told)); out = none }))
    ends_refused report r status (inr (inr short)) c leaves told = midway_ends r status short c told
    ends_refused report r status (inr (inl (name, file, is, rose, none))) c leaves told =
        let same : r ≡ refusal.Read name = cc in
        unread_ends name status file rose none (subst (λ (s : Refusal). Answered s status) same told)

    -- it ended well, and the report was told, or cut short
    done_ends : (report text : List ℕ) (status : ℕ) → IsAskedDue files asked (done_with report text) → Appends text before.out after.out → IsToldOf asked report
        → IsReportTold report status before.err_faults after.err_faults before.err after.err → Ends files asked status before after
    done_ends report text status outcome all is (inl told) = inl (done_with report text, outcome, inl (record { status_is = told.0; out = all; err = told.1 }))
    done_ends report text status outcome all is (inr cut) =
        inl (
          done_with report text,
          outcome,
          inr (inl (record { wanted = λ well. wanted_where asked report is cut.0; out = all; err = cut.1 })),
        )

    pub ends_well : (report : List ℕ) (unit : Unit {0}) (status : ℕ)
        → Answers (IsAskedDue files asked) report (Ok unit) before.out_faults after.out_faults before.out after.out
        ⊎ (IsReadFault files asked (Ok unit) before.read_faults after.read_faults before.out after.out
        ⊎ AnswersMidway (IsAskedMidway files asked) (Ok unit) before.out_faults after.out_faults before.out after.out)
        → IsToldOf asked report
        → IsReportTold report status before.err_faults after.err_faults before.err after.err
        → Ends files asked status before after
    ends_well report unit status (inl (inl all)) is told = done_ends report all.0 status all.1 all.2 is told
    ends_well report unit status (inl (inr (inl (due, outcome, halt, part)))) is told = absurd (not_halted unit before.out_faults after.out_faults halt)
    ends_well report unit status (inl (inr (inr (memory, none)))) is told = absurd (ok_err unit refusal.Memory memory)
    ends_well report unit status (inr (inl (name, file, read, rose, none))) is told = absurd (ok_err unit (refusal.Read name) read)
    ends_well report unit status (inr (inr (below, text, midway, inl (inl short, all)))) is told = absurd (ok_err unit (refusal.MemoryBelow below) short)
    ends_well report unit status (inr (inr (below, text, midway, inl (inr (worker, stop), all)))) is told = absurd (ok_err unit (refusal.Stopped worker below) stop)
    ends_well report unit status (inr (inr (below, text, midway, inr (failed, rose, part)))) is told = absurd (ok_err unit refusal.Write failed)

-- a refusal with status 7 is that of a failed write on `out`
write_is : (r : Refusal) → status_of r ≡ 7 → r ≡ refusal.Write
write_is refusal.Memory is = absurd (omega (arith, is))
write_is refusal.Words is = absurd (omega (arith, is))
write_is (refusal.Read file) is = absurd (omega (arith, is))
write_is (refusal.Dml file f) is = absurd (omega (arith, is))
write_is (refusal.Path file f) is = absurd (omega (arith, is))
write_is (refusal.Shape f) is = absurd (omega (arith, is))
write_is refusal.Write is = refl
write_is (refusal.Budget budget) is = absurd (omega (arith, is))
write_is (refusal.TimelineBudget timeline budget below) is = absurd (omega (arith, is))
write_is (refusal.MemoryBelow below) is = absurd (omega (arith, is))
write_is (refusal.Stopped worker below) is = absurd (omega (arith, is))

-- What is told whatever the files hold.

module _ (r : Refusal) (status faults faults' : ℕ) (held held' : Option (List ℕ)) where
  pub told_line : (asked : Option Asked) → IsAnswered r status faults faults' held held' → Concerns asked r
      → IsTelling asked status faults faults' held held'
  told_line asked (inl told) c = inr (inr (r, c, told))
  told_line asked (inr other) c = inr (inr (refusal.Memory, tt, other.1))

  -- with status 7 a sink failed
  pub told_failed : (out out' : ℕ) → IsAnswered r status faults faults' held held' → (r ≡ refusal.Write → Rose out out') → status ≡ 7 → Rose out out' ⊎ Rose faults faults'
  told_failed out out' (inl (inl told)) rose seven = inl (rose (write_is r (sym told.0 ∙ seven)))
  told_failed out out' (inl (inr half)) rose seven = inr half.1
  told_failed out out' (inr (made, inl told)) rose seven = absurd (let one : status ≡ 1 = told.0 in omega (arith, one, seven))
  told_failed out out' (inr (made, inr half)) rose seven = inr half.1

module _ (asked : Option Asked) (report : List ℕ) (status faults faults' : ℕ) (held held' : Option (List ℕ)) (is : IsToldOf asked report) where
  pub report_line : IsReportTold report status faults faults' held held' → IsTelling asked status faults faults' held held'
  report_line (inl told) = inl told.0
  report_line (inr cut) = inr (inl (report, is, wanted_where asked report is cut.0, cut.1))

  pub report_quiet : IsReportTold report status faults faults' held held' → status ≡ 0 → ¬ WantsReport asked → Appends [] held held'
  report_quiet (inl told) well lacks = subst (λ (text : List ℕ). Appends text held held') (unwanted asked report is lacks) told.1
  report_quiet (inr cut) well lacks = absurd (let seven = cut.1.0 in omega arith)

  pub report_told : IsReportTold report status faults faults' held held' → status ≡ 0 → HasTold asked held held'
  report_told (inl told) well = (report, is, told.1)
  report_told (inr cut) well = absurd (let seven = cut.1.0 in omega arith)

-- a part of what is due was written
pub sent_part : (IsDue : Due → Type 0) (due : Due) (report : List ℕ) (r : Refusal) (faults faults' : ℕ) (held held' : Option (List ℕ)) → IsDue due
    → (r ≡ refusal.Memory) ⊎ ((r ≡ refusal.Write) × Rose faults faults') → AppendsPrefix due.out held held' → Answers IsDue report (Err r) faults faults' held held'
sent_part IsDue due report r faults faults' held held' is (inl m) part = inr (inl (due, is, inl (ap (λ (s : Refusal). Err s) m), part))
sent_part IsDue due report r faults faults' held held' is (inr w) part = inr (inl (due, is, inr (ap (λ (s : Refusal). Err s) w.0, w.1), part))

-- a text was written, wholly or in part
pub sent_all : (IsDue : Due → Type 0) (answer : Result (Unit {0}) Refusal) (report text : List ℕ) (faults faults' : ℕ) (held held' : Option (List ℕ)) → IsDue (done_with report text)
    → OnOk answer (Appends text held held') → OnErr answer (AppendsPrefix text held held')
    → IfErr answer (λ r. (r ≡ refusal.Memory) ⊎ ((r ≡ refusal.Write) × Rose faults faults')) → Answers IsDue report answer faults faults' held held'
sent_all IsDue (Ok unit) report text faults faults' held held' is all part cause = inl (text, is, all)
sent_all IsDue (Err r) report text faults faults' held held' is all part cause = sent_part IsDue (done_with report text) report r faults faults' held held' is cause part

-- the text of an answer was written, wholly or in part; or the answer was refused
pub sent_answer : (IsDue : Due → Type 0) (made : Result (Vec ℕ Global) Refusal) (answer : Result (Unit {0}) Refusal) (faults faults' : ℕ) (held held' : Option (List ℕ))
    → IfOk made (λ text. IsDue (done text.items)) → IfErr made (λ r. (r ≡ refusal.Memory) ⊎ IsDue (refused r []))
    → IfOk made (λ text. OnOk answer (Appends text.items held held')) → IfOk made (λ text. OnErr answer (AppendsPrefix text.items held held'))
    → IfOk made (λ text. IfErr answer (λ r. (r ≡ refusal.Write) × Rose faults faults')) → IfErr made (λ r. (answer ≡ Err r) × Appends [] held held')
    → Answers IsDue [] answer faults faults' held held'
sent_answer IsDue (Ok text) (Ok unit) faults faults' held held' is cause all part failed nothing = inl (text.items, is, all)
sent_answer IsDue (Ok text) (Err r) faults faults' held held' is cause all part failed nothing =
    sent_part IsDue (done text.items) [] r faults faults' held held' is (inr failed) part
sent_answer IsDue (Err r) answer faults faults' held held' is (inl m) all part failed nothing =
    inr (inr (nothing.0 ∙ ap (λ (s : Refusal). Err s) m, nothing.1))
sent_answer IsDue (Err r) answer faults faults' held held' is (inr due) all part failed nothing =
    inl ([], subst (λ (a : Result (Unit {0}) Refusal). IsDue (due_of [] a [])) (sym nothing.0) due, nothing.1)

-- the same where one text or one refusal is due
pub sent_text : (due : Result (List ℕ) Refusal) (made : Result (Vec ℕ Global) Refusal) (answer : Result (Unit {0}) Refusal) (faults faults' : ℕ) (held held' : Option (List ℕ))
    → IfOk made (λ text. due ≡ Ok text.items) → IfErr made (λ r. (r ≡ refusal.Memory) ⊎ (due ≡ Err r))
    → IfOk made (λ text. OnOk answer (Appends text.items held held')) → IfOk made (λ text. OnErr answer (AppendsPrefix text.items held held'))
    → IfOk made (λ text. IfErr answer (λ r. (r ≡ refusal.Write) × Rose faults faults')) → IfErr made (λ r. (answer ≡ Err r) × Appends [] held held')
    → Answers (IsText due) [] answer faults faults' held held'
sent_text due (Ok text) answer faults faults' held held' is cause all part failed nothing =
    sent_answer (IsText due) (Ok text) answer faults faults' held held' (subst (λ (d : Result (List ℕ) Refusal). IsText d (done text.items)) (sym is) refl) tt all part failed nothing
sent_text due (Err r) answer faults faults' held held' is (inl m) all part failed nothing =
    sent_answer (IsText due) (Err r) answer faults faults' held held' tt (inl m) all part failed nothing
sent_text due (Err r) answer faults faults' held held' is (inr e) all part failed nothing =
    sent_answer (IsText due) (Err r) answer faults faults' held held' tt (inr (subst (λ (d : Result (List ℕ) Refusal). IsText d (refused r [])) (sym e) refl)) all part failed nothing

of_file : (files : Files) (asked : Asked) (o : Option Asked) (names : List (List ℕ)) (file : List ℕ) → o ≡ Some asked → names ≡ asked.files → IsReached files 0 names file
    → IsFileReached files o file
of_file files asked o names file is same found = rw is (subst (λ (l : List (List ℕ)). IsReached files 0 l file) same found)

read_is : (r : Refusal) → status_of r ≡ 3 → (name : List ℕ) × (r ≡ refusal.Read name)
read_is refusal.Memory is = absurd (omega arith)
read_is refusal.Words is = absurd (omega arith)
read_is (refusal.Read file) is = (file, refl)
read_is (refusal.Dml file f) is = absurd (omega arith)
read_is (refusal.Path file f) is = absurd (omega arith)
read_is (refusal.Shape f) is = absurd (omega arith)
read_is refusal.Write is = absurd (omega arith)
read_is (refusal.Budget budget) is = absurd (omega arith)
read_is (refusal.TimelineBudget timeline budget below) is = absurd (omega arith)
read_is (refusal.MemoryBelow below) is = absurd (omega arith)
read_is (refusal.Stopped worker below) is = absurd (omega arith)

-- what is asked is answered
module _ (o : Option Asked) (asked : Asked) (names : List (List ℕ)) (asks : o ≡ Some asked) (same : names ≡ asked.files) where
  outcome_of : (files : Files) (tree : Result Attributes Refusal) (due : Due) → AreRead files 0 names tree → IsTreeDue asked tree due → IsAskedDue files o due
  outcome_of files tree due read is =
      subst (λ (x : Option Asked). IsAskedDue files x due) (sym asks) (tree, subst (λ (l : List (List ℕ)). AreRead files 0 l tree) same read, is)

  -- and so is what stands where they are ended in the middle of a run
  midway_of : (files : Files) (tree : Result Attributes Refusal) (below : ℕ) (text : List ℕ) → AreRead files 0 names tree → IsTreeMidway asked tree below text → IsAskedMidway files o below text
  midway_of files tree below text read is =
      subst (λ (x : Option Asked). IsAskedMidway files x below text) (sym asks) (tree, subst (λ (l : List (List ℕ)). AreRead files 0 l tree) same read, is)

  unread_answer : (files : Files) (report : List ℕ) (r : Refusal) (read read' faults : ℕ) (held : Option (List ℕ))
      → ((r ≡ refusal.Memory) ⊎ (status_of r ≡ 3)) ⊎ AreRead files 0 names (Err r) → ((name : List ℕ) → r ≡ refusal.Read name → IsReached files 0 names name) → (status_of r ≡ 3 → Rose read read')
      → Answers (IsAskedDue files o) report (Err r) faults faults held held
      ⊎ (IsReadFault files (o) (Err r) read read' held held ⊎ AnswersMidway (IsAskedMidway files o) (Err r) faults faults held held)
  unread_answer files report r read read' faults held (inl (inl m)) reached rose = inl (inr (inr (ap (λ (s : Refusal). Err s) m, appends_nothing held)))
  unread_answer files report r read read' faults held (inl (inr three)) reached rose =
      let found : (name : List ℕ) × (r ≡ refusal.Read name) = read_is r three in
      let file : IsReached files 0 names found.0 = reached found.0 found.1 in
      inr (inl (found.0, of_file files asked (o) names found.0 asks same file, ap (λ (s : Refusal). Err s) found.1, rose three, appends_nothing held))
  unread_answer files report r read read' faults held (inr are) reached rose = inl (inl ([], outcome_of files (Err r) (refused r []) are refl, appends_nothing held))

  -- where the files were refused
  pub unread_answers : (told : Option Files) (report : List ℕ) (r : Refusal) (read read' faults : ℕ) (held : Option (List ℕ))
      → ((r ≡ refusal.Memory) ⊎ (status_of r ≡ 3)) ⊎ IfSome told (λ files. AreRead files 0 names (Err r))
      → ((name : List ℕ) → r ≡ refusal.Read name → IfSome told (λ files. IsReached files 0 names name)) → (status_of r ≡ 3 → Rose read read')
      → IfSome told (λ files. Answers (IsAskedDue files o) report (Err r) faults faults held held
      ⊎ (IsReadFault files (o) (Err r) read read' held held ⊎ AnswersMidway (IsAskedMidway files o) (Err r) faults faults held held))
  unread_answers None report r read read' faults held are reached rose = tt
  unread_answers (Some files) report r read read' faults held are reached rose = unread_answer files report r read read' faults held are reached rose

-- What is said on `err`.

pub said_memory : (r : Refusal) (status faults faults' : ℕ) (held held' : Option (List ℕ)) → IsMade r
    → ((status ≡ 1) × Appends (codes "memory" ++ 10 ∷ []) held held') ⊎ ((status ≡ 7) × Rose faults faults' × AppendsPrefix (codes "memory" ++ 10 ∷ []) held held')
    → IsAnswered r status faults faults' held held'
unfolding line_of
said_memory r status faults faults' held held' differs (inl said) = inr (differs, inl said)
said_memory r status faults faults' held held' differs (inr failed) = inr (differs, inr failed)

pub said_write : (r : Refusal) (status faults faults' : ℕ) (held held' : Option (List ℕ)) → r ≡ refusal.Write
    → ((status ≡ 7) × Appends (codes "write" ++ 10 ∷ []) held held') ⊎ ((status ≡ 7) × Rose faults faults' × AppendsPrefix (codes "write" ++ 10 ∷ []) held held')
    → IsAnswered r status faults faults' held held'
unfolding line_of
said_write r status faults faults' held held' is said = subst (λ (s : Refusal). IsAnswered s status faults faults' held held') (sym is) (said_it said)
  where
    said_it : ((status ≡ 7) × Appends (codes "write" ++ 10 ∷ []) held held') ⊎ ((status ≡ 7) × Rose faults faults' × AppendsPrefix (codes "write" ++ 10 ∷ []) held held')
        → IsAnswered refusal.Write status faults faults' held held'
    said_it (inl said) = inl (inl said)
    said_it (inr failed) = inl (inr failed)

-- How the call ends, where the files are told.

pub told_refused : (told : Option Files) (asked : Option Asked) (before after : Outside) (report : List ℕ) (r : Refusal) (status : ℕ)
    → IfSome told (λ files. Answers (IsAskedDue files asked) report (Err r) before.out_faults after.out_faults before.out after.out
    ⊎ (IsReadFault files asked (Err r) before.read_faults after.read_faults before.out after.out
    ⊎ AnswersMidway (IsAskedMidway files asked) (Err r) before.out_faults after.out_faults before.out after.out))
    → Concerns asked r
    → (r ≡ refusal.Memory → MayEndMidway asked → Appends [] before.out after.out) → (2 ≤ status_of r → status_of r ≤ 6 → Appends [] before.out after.out)
    → IsAnswered r status before.err_faults after.err_faults before.err after.err
    → IfSome told (λ files. Ends files asked status before after)
told_refused None asked before after report r status answers c unbegun nothing told = tt
told_refused (Some files) asked before after report r status answers c unbegun nothing told =
    ends_refused before after files asked report r status answers c (record { unbegun = unbegun; nothing = nothing }) told

pub told_well : (told : Option Files) (asked : Option Asked) (before after : Outside) (report : List ℕ) (unit : Unit {0}) (status : ℕ)
    → IfSome told (λ files. Answers (IsAskedDue files asked) report (Ok unit) before.out_faults after.out_faults before.out after.out
    ⊎ (IsReadFault files asked (Ok unit) before.read_faults after.read_faults before.out after.out
    ⊎ AnswersMidway (IsAskedMidway files asked) (Ok unit) before.out_faults after.out_faults before.out after.out))
    → IsToldOf asked report
    → IsReportTold report status before.err_faults after.err_faults before.err after.err
    → IfSome told (λ files. Ends files asked status before after)
told_well None asked before after report unit status answers is told = tt
told_well (Some files) asked before after report unit status answers is told = ends_well before after files asked report unit status answers is told
