use Rattle.std.proofs.Common.{◌∙◌, Some, ap}
use Rattle.std.specs.Prelude.{slice_index}
use Rattle.host_rules.specs.Hosts.{Stack}
use Rattle.host_stack.proofs.Sending.{next_server_is}
use Rattle.host_stack.proofs.stack.Stack.next_transfer.Goals as goal

pub open-requires-clause-server : goal.open-requires-clause-server
open-requires-clause-server c =
    next_server_is c.args.site.now c.args.self.now c.args.client c.given.result (Some c.in-Some-server.server.now) c.requires.valid
    (c.given.ensures ∙ ap (λ (s : Stack). slice_index s.apps.given c.args.client) c.self.view_is) c.in-Some-server.ensures
