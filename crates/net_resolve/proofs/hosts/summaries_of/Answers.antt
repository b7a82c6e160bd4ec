use Rattle.std.proofs.Common.{◌≡◌, ◌+◌, length, arith, sym, List, drop, get_or, replicate, ap, ◌∙◌}
use Rattle.std.proofs.lemmas.List.{drop_all, drop_more, with_items_is}
use Rattle.net_graph.specs.declared.list_keys.SessionKeys.TheVariants as keys
use Rattle.net_graph.specs.declared.seen.SessionSeen.{SessionSeen}
use Rattle.net_resolve.specs.declared.hosts.HostSummary.{HostSummary}
use Rattle.net_resolve.specs.Tables.{told, told_one, silent}
use Rattle.net_resolve.proofs.Summaries.{told_turn, told_end}
use Rattle.net_resolve.proofs.hosts.summaries_of.Goals as goal

abbrev no_session : SessionSeen
no_session = record { host = 0; keys = keys.Silent }

pub loop-session-preserved : goal.loop-session-preserved
loop-session-preserved c =
    let ss = c.args.sessions.now in let i = c.loop-session.session-index in let s : SessionSeen = get_or ss i no_session in
    let kept : length c.note_session.new.summaries ≡ c.loop-session.summaries.len = omega (arith, c.note_session.auto.summaries, c.as_mut_slice.ensures.len) in
    told_turn (told (replicate c.args.hosts silent) ss) c.loop-session.summaries.items c.note_session.new.summaries (drop i ss) (drop (i + 1) ss) s
    c.loop-session.invariant (drop_more ss i no_session c.loop-session-test.true)
    (c.note_session.ensures ∙ ap (λ (t : List HostSummary). told_one t s) c.as_mut_slice.ensures.value)
    ∙ ap (λ (t : List HostSummary). told t (drop (i + 1) ss)) (sym (with_items_is c.loop-session.summaries c.note_session.new.summaries kept))

pub returns-clause-told : goal.returns-clause-told
returns-clause-told c =
    let ss = c.args.sessions.now in let i = c.loop-session.session-index in
    told_end (told (replicate c.args.hosts silent) ss) c.loop-session.summaries.items (drop i ss) c.loop-session.invariant (drop_all i ss c.loop-session-test.false)
