use Rattle.std.proofs.Common.{◌∙◌, ap}
use Rattle.timeline_parts.specs.Tables.{numbers_of}
use Rattle.timeline_tests.proofs.node.part_of.Goals as goal

pub returns : goal.returns
returns c = record {
  numbers = ap numbers_of c.from_vec.ensures ∙ ap numbers_of c.in_ok-entities.ensures.items;
  event = c.start.result;
  events = c.from_vec-2.ensures ∙ c.in_ok-events.ensures.items;
  plain = c.start.ensures.plain;
  own = c.start.ensures.own;
  inside = c.new.ensures;
  ins_are = c.from_vec-3.ensures ∙ c.in_ok-from_slice.ensures.items;
  outs_are = c.from_vec-4.ensures ∙ c.in_ok-from_slice-2.ensures.items;
  counts = c.from_vec-5.ensures ∙ c.in_ok-counts.ensures;
}
