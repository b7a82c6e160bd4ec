-- The report of a run, made behind nothing.
use Rattle.std.proofs.Common.{ℕ, ◌≡◌, ◌∙◌, ap, Bool, true, false, List, [], ◌++◌, Result, Ok, Err, OnOk}
use Rattle.std.specs.Prelude.{IsErrAnd}
use Rattle.ssf_model.specs.declared.event.Entry.{Entry}
use Rattle.ssfnet_top.specs.declared.refusal.Refusal.{Refusal}
use Rattle.ssfnet_top.specs.declared.refusal.Refusal.TheVariants as refusal
use Rattle.ssfnet_top.specs.Outcome.{report_if}
use Rattle.ssfnet_top.specs.Ending.{IsReport}

pub made_report : (wanted : Bool) (before after : List ℕ) (entries : List Entry) → before ≡ [] → after ≡ before ++ report_if wanted entries → after ≡ report_if wanted entries
made_report wanted before after entries empty made = made ∙ ap (λ (text : List ℕ). text ++ report_if wanted entries) empty

pub is_report : (wanted : Bool) (text : List ℕ) (entries : List Entry) → text ≡ report_if wanted entries → IsReport wanted text
is_report true text entries is = (entries, is)
is_report false text entries is = is

pub told_report : (wanted : Bool) (before after : List ℕ) (entries : List Entry) (answer : Result (Unit {0}) Refusal) → before ≡ [] → after ≡ before ++ report_if wanted entries
    → OnOk answer (IsReport wanted after)
told_report wanted before after entries (Ok unit) empty made = is_report wanted after entries (made_report wanted before after entries empty made)
told_report wanted before after entries (Err r) empty made = tt

-- there was no memory for it
pub memory_wanted : (answer : Result (Unit {0}) Refusal) → IsErrAnd answer (λ r. r ≡ refusal.Memory) → answer ≡ Err refusal.Memory
memory_wanted (Ok unit) memory = absurd memory
memory_wanted (Err r) memory = ap (λ (s : Refusal). Err s) memory
