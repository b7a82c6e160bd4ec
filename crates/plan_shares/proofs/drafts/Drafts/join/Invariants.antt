use Rattle.std.proofs.Common.{◌≡◌, ◌≤◌, map, vec_len, vec_capacity}
use Rattle.std.specs.List.{range_with_len}
use Rattle.plan_shares.specs.Drafts.{part_at}
use Rattle.plan_shares.proofs.ForEach.{IsLeft}
use Rattle.plan_shares.proofs.drafts.Drafts.join.Given as goal

abbrev pub invariant-loop-line : goal.invariant-loop-line
invariant-loop-line g l = record {
  parts : l.self.parts.items ≡ map (part_at l.fn.self) (range_with_len 0 l.line);
  made : vec_len l.self.parts ≡ l.line;
  room : l.fn.count ≤ vec_capacity l.self.parts;
  entities : IsLeft l.line l.fn.self.entities l.self.entities;
  events : IsLeft l.line l.fn.self.events l.self.events;
  inside : IsLeft l.line l.fn.self.inside l.self.inside;
  ins : IsLeft l.line l.fn.self.ins l.self.ins;
  outs : IsLeft l.line l.fn.self.outs l.self.outs;
  counts : IsLeft l.line l.fn.self.counts l.self.counts;
  ends : l.self.ends ≡ l.fn.self.ends;
  starts : l.self.starts ≡ l.fn.self.starts;
}
