use Rattle.std.proofs.Common.{drop}
use Rattle.host_rules.specs.Hosts.{Stack}
use Rattle.host_sending.specs.Sites.{with_interfaces}
use Rattle.host_sending.proofs.Looping.{DoneLoop}
use Rattle.host_sending.proofs.interfaces.Interfaces.do_all.Given as goal

-- the acts so far and those that are left make all
abbrev pub invariant-loop-act : goal.invariant-loop-act
invariant-loop-act l = (s : Stack) → DoneLoop l.site l.now l.sockets l.acts (drop l.act-index l.acts) (with_interfaces l.initial.self s) l.initial.out (with_interfaces l.self s) l.out
