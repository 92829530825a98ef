use Rattle.std.proofs.Common.{◌≡◌, drop, true, IsSome}
use Rattle.std.specs.List.{All, AllByRecursion}
use Rattle.onll_text.specs.Bytes.{begins_line, with_lines}
use Rattle.onll_text.specs.Lines.{node_lines}
use Rattle.onll_text.specs.Reports.{NodeReads}
use Rattle.onll_task.proofs.nodes.put_nodes.Given as goal

-- the nodes that are left make the lines that all make
abbrev pub invariant-loop-node : goal.invariant-loop-node
invariant-loop-node g l =
    let b = g.O.Object.means in
    let w = g.O.Texted.wording in
    let rest = drop l.node-index l.trace in
    record {
      lines : with_lines l.out (node_lines b w l.place rest) ≡ with_lines l.fn.out (node_lines b w 0 l.trace);
      operations : AllByRecursion (λ n. IsSome (b.op_at n.row)) rest;
      reads : All (NodeReads b w) rest → All (NodeReads b w) l.trace;
      begins : begins_line l.out ≡ true;
      place : l.place ≡ l.node-index;
    }
