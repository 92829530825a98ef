use Rattle.std.proofs.Common.{◌≡◌, drop, map, true, IsSome}
use Rattle.std.specs.List.{All, AllByRecursion}
use Rattle.onll_run.specs.Ran.{node_in, flag_in}
use Rattle.onll_text.specs.Bytes.{begins_line, with_lines}
use Rattle.onll_text.specs.Reports.{NodeReads}
use Rattle.onll_text.specs.Lines.{flagged_lines}
use Rattle.onll_runner.proofs.report.put_nodes.Given as goal

-- the nodes that are left make the lines that all make
abbrev pub invariant-loop-index : goal.invariant-loop-index
invariant-loop-index g l =
    let b = g.O.Object.means in
    let w = g.O.Texted.wording in
    let rest = drop l.index l.trace in
    record {
      lines : with_lines l.out (flagged_lines b w l.index (map node_in rest) (map flag_in rest)) ≡ with_lines l.fn.out (flagged_lines b w 0 (map node_in l.trace) (map flag_in l.trace));
      operations : AllByRecursion (λ n. IsSome (b.op_at n.row)) (map node_in rest);
      reads : All (NodeReads b w) (map node_in rest) → All (NodeReads b w) (map node_in l.trace);
      begins : begins_line l.out ≡ true;
    }
