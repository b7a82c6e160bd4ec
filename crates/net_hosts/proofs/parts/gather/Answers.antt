use Rattle.std.proofs.Common.{length, ap, ◌∙◌}
use Rattle.net_layout.specs.Arms.{first_interface}
use Rattle.net_layout.specs.Ports.{outs_of}
use Rattle.net_layout.specs.Sessions.{clients_of, servers_of, listens_of}
use Rattle.net_hosts.proofs.Moving.{left_all}
use Rattle.net_hosts.proofs.parts.gather.Goals as goal

pub returns-clause-parts : goal.returns-clause-parts
returns-clause-parts c =
    let network = c.args.network.now in
    record {
      outs = left_all (outs_of network) (first_interface network 0) (length network.interfaces) c.from_vec.result (c.from_vec.ensures ∙ c.in_ok-outs.ensures);
      clients = left_all (clients_of network) 0 (length network.hosts) c.from_vec-2.result (c.from_vec-2.ensures ∙ c.in_ok-clients.ensures);
      servers = left_all (servers_of network) 0 (length network.hosts) c.from_vec-3.result (c.from_vec-3.ensures ∙ c.in_ok-servers.ensures);
      listens = left_all (listens_of network) 0 (length network.hosts) c.from_vec-4.result (c.from_vec-4.ensures ∙ c.in_ok-listens.ensures);
      tables = ap length c.from_vec-5.ensures ∙ c.in_ok-tables.ensures.as_many;
    }
