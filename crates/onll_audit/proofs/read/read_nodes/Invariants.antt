use Rattle.std.proofs.Common.{◌≡◌, ◌≤◌, ◌+◌, ◌-◌, length}
use Rattle.onll_audit.specs.Form.{node_run}
use Rattle.onll_audit.specs.Values.{as_left}
use Rattle.onll_audit.proofs.Running.{onto_nodes}
use Rattle.onll_audit.proofs.read.read_nodes.Given as goal

abbrev pub invariant-loop-place : goal.invariant-loop-place
invariant-loop-place g l = record {
  whole : node_run g.O.Object.means g.O.Texted.wording 0 l.count (as_left l.lines)
      ≡ onto_nodes l.nodes.items (node_run g.O.Object.means g.O.Texted.wording l.place (l.count - l.place) (as_left l.left));
  within : l.left.number + length l.left.rest.now ≤ l.lines.number + length l.lines.rest.now;
}
