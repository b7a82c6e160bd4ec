use Rattle.std.proofs.Common.{◌≡◌, ℕ, List, length, map, Ok, arith, ap, sym, ◌∙◌}
use Rattle.net_graph.specs.declared.rows.InterfaceRow.{InterfaceRow}
use Rattle.net_graph.specs.declared.rows.Network.{Network}
use Rattle.net_graph.specs.declared.seen.SessionSeen.{SessionSeen}
use Rattle.net_graph.specs.declared.seen.Seen.{Seen}
use Rattle.net_graph.specs.Reads.{Read}
use Rattle.net_graph.specs.NetworkOf.{attachments, host_rows, link_rows, linked, server_rows, session_row}
use Rattle.net_resolve.specs.Tables.{placed_rows}
use Rattle.net_resolve.proofs.LinkRows.{link_rows_are, placed_linked}
use Rattle.net_resolve.proofs.Rows.{network_is}
use Rattle.net_resolve.proofs.build.parts_with.Goals as goal

pub returns-clause-parts : goal.returns-clause-parts
returns-clause-parts c =
    let f = c.args.frequency in let seen = c.args.found.now in let all = attachments seen in let places = c.args.places.now in
    let hosts = c.from_vec.result in let interfaces = c.from_vec-2.result in let links = c.from_vec-3.result in let sessions = c.from_vec-4.result in let servers = c.from_vec-5.result in
    let same = c.seen-seen.ensures.seen in
    let h : host_rows f seen all 0 seen.hosts ≡ Ok hosts = c.in_ok-hosts.ensures.rows ∙ ap Ok (sym c.from_vec.ensures) in
    let v : server_rows seen all 0 seen.traffic ≡ Ok servers = c.in_ok-servers.ensures.rows ∙ ap Ok (sym c.from_vec-5.ensures) in
    let i : interfaces ≡ linked all 0 seen.interfaces =
    c.from_vec-2.ensures ∙ (c.in_ok-interfaces.ensures.rows
    ∙ (ap (λ (rows : List InterfaceRow). placed_rows places 0 rows) (c.as_slice-3.ensures ∙ ap (λ (w : Seen). w.interfaces) same)
    ∙ placed_linked all places 0 seen.interfaces c.requires.table)) in
    let l : links ≡ link_rows all 0 seen.links = c.from_vec-3.ensures ∙ (c.requires.links ∙ sym (link_rows_are seen)) in
    let s : sessions ≡ map session_row seen.sessions =
    c.from_vec-4.ensures ∙ (c.in_ok-sessions.ensures.rows ∙ ap (λ (rows : List SessionSeen). map session_row rows) (c.as_slice-4.ensures ∙ ap (λ (w : Seen). w.sessions) same)) in
    let many : length servers ≡ c.len-patterns.result = omega (arith, ap length c.from_vec-5.ensures, c.len-patterns.ensures, c.in_ok-servers.servers.ok.0) in
    let whole : ℕ → Read Network = λ n. Ok (record { frequency = f; patterns = n; nets = seen.nets; hosts = hosts; interfaces = interfaces; links = links; sessions = sessions; servers = servers }) in
    network_is f seen all hosts servers interfaces links sessions h v i l s ∙ ap whole many
