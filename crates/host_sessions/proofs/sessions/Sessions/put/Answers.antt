use Rattle.std.proofs.Common.{List, sym, subst}
use Rattle.host_rules.specs.Hosts.{EntryFields}
use Rattle.host_sessions.specs.Tabled.{entry_view, IsFresh}
use Rattle.host_sessions.proofs.Tabling.{fresh_is_new}
use Rattle.host_sessions.proofs.sessions.Sessions.put.Goals as goal

pub put-requires : goal.put-requires
put-requires c = fresh_is_new c.args.entry c.self.inside.table (subst (λ (xs : List EntryFields). IsFresh (entry_view c.args.entry) xs) (sym c.self.view_is) c.requires.fresh)
