use Rattle.net_layout.proofs.HostSessions.{first_timer-first, first_timer-next, first_timer-last, timers-timed_of}
use Rattle.net_layout.proofs.laws.timers_follow_the_starts.Goals as goal

pub returns-clause-first : goal.returns-clause-first
returns-clause-first c = first_timer-first

pub returns-clause-next : goal.returns-clause-next
returns-clause-next c = first_timer-next

pub returns-clause-last : goal.returns-clause-last
returns-clause-last c = first_timer-last

pub returns-clause-timed : goal.returns-clause-timed
returns-clause-timed c = timers-timed_of
