use Rattle.std.proofs.Common.{◌≡◌, List, [], length, map, sym, ap, subst, ◌∙◌, arith}
use Rattle.std.specs.List.{All}
use Rattle.std.proofs.lemmas.List.{length-set}
use Rattle.sim_base.specs.declared.records.ServerRow.{ServerRow}
use Rattle.net_graph.specs.Networks.{IsServer}
use Rattle.net_layout.specs.Sessions.{clients_of, servers_of, listens_of, server_address}
use Rattle.net_hosts.proofs.Moving.{left_moved, list_read}
use Rattle.net_hosts.proofs.Joining.{servers_are, rows_made}
use Rattle.net_hosts.proofs.parts.Parts.take_host.Goals as goal

pub server_addresses-requires-clause-servers : goal.server_addresses-requires-clause-servers
server_addresses-requires-clause-servers c =
    let network = c.args.network.now in
    let given : c.as_slice-given.result.now ≡ servers_of network c.args.host =
    c.as_slice-given.ensures ∙ list_read (servers_of network) (length network.hosts) c.args.host c.args.self.now.servers c.as_slice.result.now c.index-as_slice-place.result c.requires.parts.servers c.requires.host c.as_slice.ensures c.index-as_slice-place.is in
    subst (All (IsServer network)) (sym given) (servers_are network c.args.host c.requires.network)

pub returns-clause-rows : goal.returns-clause-rows
returns-clause-rows c =
    let network = c.args.network.now in
    let host = c.args.host in
    let given : c.as_slice-given.result.now ≡ servers_of network host =
    c.as_slice-given.ensures ∙ list_read (servers_of network) (length network.hosts) host c.args.self.now.servers c.as_slice.result.now c.index-as_slice-place.result c.requires.parts.servers c.requires.host c.as_slice.ensures c.index-as_slice-place.is in
    rows_made network c.args.self.now.tables host c.from_vec.result c.take_list-routes.result c.take_list-clients.result c.take_list-servers.result c.from_vec-2.result c.take_list-listens.result c.tcp_of.result c.poke_channel.result
    (c.from_vec.ensures ∙ c.in_ok-ports.ensures.ports)
    c.take_list-routes.ensures.list
    (c.take_list-clients.ensures.list ∙ c.requires.parts.clients.each host (omega arith) c.requires.host)
    (c.take_list-servers.ensures.list ∙ c.requires.parts.servers.each host (omega arith) c.requires.host)
    (c.from_vec-2.ensures ∙ c.in_ok-addresses.ensures ∙ ap (λ (xs : List ServerRow). map (server_address network) xs) given)
    (c.take_list-listens.ensures.list ∙ c.requires.parts.listens.each host (omega arith) c.requires.host)
    c.tcp_of.ensures
    c.poke_channel.ensures

pub returns-clause-parts : goal.returns-clause-parts
returns-clause-parts c =
    let network = c.args.network.now in
    let host = c.args.host in
    let before = c.args.self.now in
    record {
      outs = c.in_ok-ports.ensures.outs;
      clients = left_moved (clients_of network) host (length network.hosts) before.clients c.take_list-clients.new.lists c.requires.parts.clients c.take_list-clients.ensures.rest;
      servers = left_moved (servers_of network) host (length network.hosts) before.servers c.take_list-servers.new.lists c.requires.parts.servers c.take_list-servers.ensures.rest;
      listens = left_moved (listens_of network) host (length network.hosts) before.listens c.take_list-listens.new.lists c.requires.parts.listens c.take_list-listens.ensures.rest;
      tables = ap length c.take_list-routes.ensures.rest ∙ length-set before.tables host [] ∙ c.requires.parts.tables;
    }
