use Rattle.std.proofs.Common.{◌≡◌, ℕ, List, sym, ap, Ok, Err, Result, Vec, Global, IfOk, IfErr, ◌⊎◌, inl}
use Rattle.model_gen.specs.Campus.{campus_text}
use Rattle.ssfnet_top.specs.declared.refusal.Refusal.{Refusal}
use Rattle.ssfnet_top.specs.declared.refusal.Refusal.TheVariants as refusal
use Rattle.ssfnet_top.proofs.Endings.{sent_text}
use Rattle.ssfnet_top.proofs.generating.print_campus.Goals as goal

is_text : (text : List ℕ) (made : Result (Vec ℕ Global) Refusal) → IfOk made (λ t. t.items ≡ text) → IfOk made (λ t. ◌≡◌ {A = Result (List ℕ) Refusal} (Ok text) (Ok t.items))
is_text text (Ok t) is = ap (λ (l : List ℕ). Ok l) (sym is)
is_text text (Err r) is = tt

is_memory : (due : Result (List ℕ) Refusal) (made : Result (Vec ℕ Global) Refusal) → IfErr made (λ r. r ≡ refusal.Memory) → IfErr made (λ r. (r ≡ refusal.Memory) ⊎ (due ≡ Err r))
is_memory due (Ok t) is = tt
is_memory due (Err r) is = inl is

pub returns-clause-due : goal.returns-clause-due
returns-clause-due g c =
    sent_text (Ok (campus_text c.args.seed c.args.size)) c.text_of_campus.result c.write_answer.result
    (g.K.Sink.faults c.args.out.now) (g.K.Sink.faults c.write_answer.new.out) (g.K.Sink.held c.args.out.now) (g.K.Sink.held c.write_answer.new.out)
    (is_text (campus_text c.args.seed c.args.size) c.text_of_campus.result c.text_of_campus.ensures.text)
    (is_memory (Ok (campus_text c.args.seed c.args.size)) c.text_of_campus.result c.text_of_campus.ensures.cause)
    c.write_answer.ensures.all c.write_answer.ensures.part c.write_answer.ensures.cause c.write_answer.ensures.refused
