use Rattle.std.proofs.Common.{◌≡◌, ◌∙◌, length, sym, ap, subst, refl}
use Rattle.turn_table.specs.Shapes.{words_in}
use Rattle.sync_core.specs.Cores.{core_of}
use Rattle.core_rules.specs.Cores.{CoreView}
use Rattle.core_rules.proofs.Lists.{map_length}
use Rattle.share_rules.specs.Places.{count_of, shape_of}
use Rattle.share_rules.proofs.Opens.{counts_long}
use Rattle.share_turns.specs.Shares.{share_of}
use Rattle.worker_pool.specs.Laid.{AreLaid}
use Rattle.worker_pool.proofs.Values.{elem_mapped, seen_at_home, seen_laid, not_shared, laid_home, home_again}
use Rattle.worker_pool.proofs.Lent.{still_carried}
use Rattle.worker_pool.proofs.pool.carry_parts.Goals as goal

pub returns-then-is_empty-clause-gathered : goal.returns-then-is_empty-clause-gathered
returns-then-is_empty-clause-gathered g c = not_shared g.B.Behaviour.valid g.B.Behaviour.carried g.B.Behaviour.reaction (core_of c.args.parts) c.requires.run (λ i t own. (c.requires.ordered.each i t own).crosses)

pub returns-then-is_empty-clause-lanes : goal.returns-then-is_empty-clause-lanes
returns-then-is_empty-clause-lanes g c = still_carried g.G.Gate.stops c.args.lanes.now c.requires.idle

pub returns-in_default-clause-gathered : goal.returns-in_default-clause-gathered
returns-in_default-clause-gathered g c = not_shared g.B.Behaviour.valid g.B.Behaviour.carried g.B.Behaviour.reaction (core_of c.args.parts) c.requires.run (λ i t own. (c.requires.ordered.each i t own).crosses)

pub returns-in_default-clause-lanes : goal.returns-in_default-clause-lanes
returns-in_default-clause-lanes g c = still_carried g.G.Gate.stops c.args.lanes.now c.requires.idle

pub returns-in_default-with_capacity-clause-gathered : goal.returns-in_default-with_capacity-clause-gathered
returns-in_default-with_capacity-clause-gathered g c = not_shared g.B.Behaviour.valid g.B.Behaviour.carried g.B.Behaviour.reaction (core_of c.args.parts) c.requires.run (λ i t own. (c.requires.ordered.each i t own).crosses)

pub returns-in_default-with_capacity-clause-lanes : goal.returns-in_default-with_capacity-clause-lanes
returns-in_default-with_capacity-clause-lanes g c = still_carried g.G.Gate.stops c.args.lanes.now c.requires.idle

pub carry_values-gathered-requires-clause-counts : goal.carry_values-gathered-requires-clause-counts
carry_values-gathered-requires-clause-counts g c κs within = c.in-Ok.tables.counts.ok.0 ∙ (ap length c.in-Ok.ensures.counts ∙ (counts_long (core_of c.args.parts) ∙ ap (λ k. words_in (shape_of k)) c.requires.own))

pub carry_values-gathered-requires-clause-values : goal.carry_values-gathered-requires-clause-values
carry_values-gathered-requires-clause-values g c κs within =
    let home = laid_home g.B.Behaviour.valid g.B.Behaviour.carried g.B.Behaviour.reaction (core_of c.args.parts) c.requires.run (λ i t own. (c.requires.ordered.each i t own).crosses) c.args.about.now.value c.requires.own
    c.lay_out.new.values.items c.lay_out.ensures.values c.in-Ok.tables.counts.items c.in-Ok.ensures.counts in
    record {
      places = sym (map_length share_of c.lay_out.new.values.items) ∙ home.places;
      sound = λ p x at. home.sound p (share_of x) (elem_mapped share_of c.lay_out.new.values.items p x at);
      owed = λ p x at. home.owed p (share_of x) (elem_mapped share_of c.lay_out.new.values.items p x at);
      kept = home.kept;
    }

pub gather_into-barrier-requires-clause-laid : goal.gather_into-barrier-requires-clause-laid
gather_into-barrier-requires-clause-laid g c κs within =
    let q = c.carry_values-gathered.ensures.values in
    let key = c.args.about.now.value in
    let values = c.carry_values-gathered.result.0.items in
    let count : count_of key ≡ c.len-count.result = sym (ap count_of c.requires.own) ∙ (sym c.args.parts.timelines.ok.0 ∙ sym c.len-count.ensures) in
    subst (λ n. AreLaid n values) count (seen_laid (g.B.Behaviour.valid key.behaviour) (g.B.Behaviour.carried key.behaviour) (g.B.Behaviour.reaction key.behaviour) key q.0 values q.1.places q.1.sound)

pub returns-clause-gathered : goal.returns-clause-gathered
returns-clause-gathered g c =
    let q = c.carry_values-gathered.ensures.values in
    let key = c.args.about.now.value in
    let values = c.carry_values-gathered.result.0.items in
    let home = seen_at_home (g.B.Behaviour.valid key.behaviour) (g.B.Behaviour.carried key.behaviour) (g.B.Behaviour.reaction key.behaviour) key q.0 values q.1.places q.1.sound q.1.owed q.1.kept in
    let after : CoreView g.row.B.Denot g.row.B-State.Denot g.row.B-Payload.Denot = record {
      behaviour = c.args.parts.behaviour;
      timelines = c.gather_into-barrier.new.timelines.items;
      mails = c.gather_into-barrier.new.mails.items;
      barrier = c.gather_into-barrier.result;
      ends = c.args.parts.ends.items;
      until = c.args.parts.until;
      budget = c.args.parts.budget;
      before = c.args.parts.before;
      starts = c.args.parts.starts;
    } in
    record {
      same = record { behaviour = refl; ends = refl; until = refl; budget = refl; before = refl; starts = refl };
      counts = q.0;
      home = home_again g.B.Behaviour.valid g.B.Behaviour.carried g.B.Behaviour.reaction (core_of c.args.parts) key c.requires.own q.0 values home after c.gather_into-barrier.ensures;
    }
