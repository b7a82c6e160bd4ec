-- The lines of the actions so far stand behind the text, and there is room for the others.
use Rattle.std.proofs.Common.{◌≡◌, ◌+◌, ◌-◌, ◌*◌, ◌≤◌, ◌++◌, length, take, vec_len}
use Rattle.std.specs.List.{flat_map}
use Rattle.std.specs.Vec.{vec_capacity}
use Rattle.trace_writer.specs.Trace.{action_line}
use Rattle.trace_writer.proofs.lines.put_action_lines.Given as goal

abbrev pub invariant-loop-line : goal.invariant-loop-line
invariant-loop-line l = record {
  items : l.out.items ≡ l.initial.out.items ++ flat_map action_line (take l.line-index l.lines);
  room : vec_len l.out + 54 * (length l.lines - l.line-index) ≤ vec_capacity l.out;
  capacity : vec_capacity l.initial.out ≤ vec_capacity l.out;
}
