use Rattle.sync_core.proofs.Listing.{all_listed}
use Rattle.sync_core.proofs.core_parts.Core.listed.Goals as goal

pub returns : goal.returns
returns g c =
    all_listed c.args.self.now c.new-steps.result.items c.add_executes.new.steps.items c.add_posts.new.steps.items c.add_takes.new.steps.items c.add_enters.new.steps.items c.add_reports.new.steps.items c.add.new.steps.items
    c.new-steps.ensures.items c.in_ok-add_executes.ensures c.in_ok-add_posts.ensures c.in_ok-add_takes.ensures c.in_ok-add_enters.ensures c.in_ok-add_reports.ensures c.in_ok-add.ensures
