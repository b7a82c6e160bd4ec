use Rattle.std.proofs.Common.{rules}
use Rattle.std.proofs.lemmas.Fn.{filter_same}
use Rattle.tcp_session.proofs.Scanning.{beyond_rises}
use Rattle.tcp_session.proofs.ranges.keep_beyond.Goals as goal

pub returns-clause-value : goal.returns-clause-value
returns-clause-value c = filter_same _ _ _ (λ x b f' k. search rules) _ _ c.retain.ensures.filtered

pub returns-clause-rising : goal.returns-clause-rising
returns-clause-rising c =
    rw (returns-clause-value c) (beyond_rises c.args.position c.args.items.now.items c.requires)
