use Rattle.std.proofs.Common.{◌≡◌, length, Option, Some, None, sym, ap, ◌∙◌}
use Rattle.std.proofs.lemmas.Bool.{MatchBool-at_false, MatchBool-at_true}
use Rattle.spf_routes.specs.declared.search.Label.{Label}
use Rattle.spf_routes.specs.Paths.{best_at}
use Rattle.spf_routes.specs.Arms.{SomeRelays, NoneRelays}
use Rattle.spf_routes.proofs.Starting.{no_entries, entries_skip, entries_more}
use Rattle.spf_routes.proofs.routes.starts.Goals as goal

pub returns-then-not-relays : goal.returns-then-not-relays
returns-then-not-relays c =
    rw c.new-starts.ensures.items (no_entries c.args.arms.now c.args.from (length c.args.direct.now) (MatchBool-at_false (SomeRelays c.args.arms.now c.args.from) (NoneRelays c.args.arms.now c.args.from) c.if-not-relays.true c.relays.ensures))

pub loop-second-preserved-in_default : goal.loop-second-preserved-in_default
loop-second-preserved-in_default c = entries_skip c.args.arms.now c.args.from c.loop-second.second-index c.args.direct.now c.loop-second.starts.items c.loop-second-test.true c.requires.direct c.loop-second.invariant
    (λ a enters. let there = c.requires.direct.least a enters.first enters.begins in let both : ◌≡◌ {A = Option Label} None (Some there.0) = sym c.in_default.is ∙ ap (best_at c.args.direct.now) enters.shared ∙ there.1 in cc)

pub loop-second-preserved : goal.loop-second-preserved
loop-second-preserved c = rw c.in_ok-push.ensures.items (entries_more c.args.arms.now c.args.from c.loop-second.second-index c.args.direct.now c.loop-second.starts.items c.loop-second-test.true c.requires.direct c.loop-second.invariant (record { cost = c.in-Some.label.cost; interface = c.in-Some.label.interface; next = c.in-Some.label.next }) c.if-second-from.false c.if-not-second.false c.in-Some.is (MatchBool-at_true (SomeRelays c.args.arms.now c.args.from) (NoneRelays c.args.arms.now c.args.from) c.if-not-relays.false c.relays.ensures) c.requires.relays)
