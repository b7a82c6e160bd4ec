use Rattle.std.proofs.Common.{List, ◌-◌, sym, subst}
use Rattle.session_table.specs.declared.entry.Entry.{Entry}
use Rattle.tcp_rules.specs.Sessions.{End}
use Rattle.host_rules.specs.Hosts.{EntryFields}
use Rattle.host_rules.specs.Limits.{EachPair, IsEarlier}
use Rattle.host_sessions.specs.Tabled.{IsTabled}
use Rattle.host_sessions.proofs.Tabling.{tabled_take}
use Rattle.host_sessions.proofs.sessions.Sessions.take.Goals as goal

pub overflow_sub-self : goal.overflow_sub-self
overflow_sub-self c =
    let taken = tabled_take c.args.number c.take-entry.result c.self.inside.table c.self.inside.accepted c.one_if_accepted.result
    (subst (λ (xs : List EntryFields). EachPair IsEarlier xs) (sym c.self.view_is) c.requires.order) c.take-entry.ensures.entry c.self.invariant c.one_if_accepted.ensures in
    taken.0

pub invariant_of-self : goal.invariant_of-self
invariant_of-self c =
    let taken = tabled_take c.args.number c.take-entry.result c.self.inside.table c.self.inside.accepted c.one_if_accepted.result
    (subst (λ (xs : List EntryFields). EachPair IsEarlier xs) (sym c.self.view_is) c.requires.order) c.take-entry.ensures.entry c.self.invariant c.one_if_accepted.ensures in
    subst (λ (table : List (Entry End)). IsTabled table (c.self.inside.accepted - c.one_if_accepted.result)) (sym c.take-entry.ensures.rest) taken.1
