use Rattle.std.proofs.Common.{◌≡◌, ℕ, ◌+◌, ◌<◌, true, List, length, get_or, take, inl, inr, sym, ap, subst, ◌∙◌}
use Rattle.std.specs.Prelude.{Contains}
use Rattle.std.proofs.lemmas.List.{take_more, take_all}
use Rattle.std.proofs.lemmas.List.Elements.{Contains-push_cases}
use Rattle.spf_routes.specs.declared.graph.Arm.{Arm}
use Rattle.spf_routes.specs.Arms.{NoneRelays}
use Rattle.spf_routes.proofs.Direct.{no_arm}
use Rattle.spf_routes.proofs.routes.relays.Goals as goal

none_more : (arms : List Arm) (i from : ℕ) → i < length arms → NoneRelays (take i arms) from → ((get_or arms i no_arm).host ≡ from → (get_or arms i no_arm).relays ≡ true → ⊥) → NoneRelays (take (i + 1) arms) from
none_more arms i from lt h other = rw (take_more arms i no_arm lt) (λ a c e r. elim (Contains-push_cases (take i arms) (get_or arms i no_arm) a c) [
  | inl before ↦ h a before e r
  | inr one ↦ other (ap (λ (x : Arm). x.host) one ∙ e) (ap (λ (x : Arm). x.relays) one ∙ r)
])

pub loop-arm-preserved-then-arm-from : goal.loop-arm-preserved-then-arm-from
loop-arm-preserved-then-arm-from c = none_more c.args.arms.now c.loop-arm.arm-index c.args.from c.loop-arm-test.true c.loop-arm.invariant (λ e r. c.if-arm-from.true e)

pub loop-arm-preserved : goal.loop-arm-preserved
loop-arm-preserved c = none_more c.args.arms.now c.loop-arm.arm-index c.args.from c.loop-arm-test.true c.loop-arm.invariant (λ e r. cc)

pub returns : goal.returns
returns c = λ a known e r. c.loop-arm.invariant a (subst (λ xs. Contains xs a) (sym (take_all c.loop-arm.arm-index c.args.arms.now c.loop-arm-test.false)) known) e r
