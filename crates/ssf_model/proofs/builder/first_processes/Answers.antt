use Rattle.std.proofs.Common.{◌≡◌, ◌∙◌, ◌+◌, ◌++◌, ◌∷◌, [], Bool, true, false, cond, refl, ap, get_or}
use mir.Val.{bool_byte}
use Rattle.ssf_model.specs.declared.wait.Wait.TheVariants.{Forever}
use Rattle.ssf_model.specs.declared.process.Process.{Process}
use Rattle.ssf_model.specs.Drafts.{first_process}
use Rattle.ssf_model.proofs.Drafted.{flags_next}
use Rattle.ssf_model.proofs.builder.first_processes.Goals as goal

byte_is : (b : Bool) → bool_byte b ≡ cond b 1 0
byte_is true = refl
byte_is false = refl

pub loop-flag-preserved : goal.loop-flag-preserved
loop-flag-preserved c =
    let flag = get_or c.args.flags.now c.loop-flag.flag-index false in
    let pushed : c.push.new.self.items ≡ c.loop-flag.processes.items ++ first_process c.loop-flag.next flag ∷ [] =
    c.in_ok-push.ensures.items ∙ ap (λ t. let p : Process = record { wait = Forever; ticket = 0; timer = t } in c.loop-flag.processes.items ++ p ∷ []) c.then_some.ensures in
    let n = flags_next c.args.first c.loop-flag.flag-index c.loop-flag.next c.args.flags.now c.loop-flag.processes.items c.push.new.self.items
    c.loop-flag-test.true c.loop-flag.invariant.0 c.loop-flag.invariant.1 pushed in
    (n.0, ap (λ k. c.loop-flag.next + k) (c.from-next.ensures ∙ byte_is flag) ∙ n.1)
