use Rattle.std.proofs.Common.{◌≡◌, drop, true, IsSome}
use Rattle.std.specs.List.{All, AllByRecursion}
use Rattle.onll_text.specs.Bytes.{begins_line, with_lines}
use Rattle.onll_text.specs.Reports.{NodeReads}
use Rattle.onll_text.specs.Lines.{flagged_lines}
use Rattle.onll_recovery.proofs.crashed.put_flagged.Given as goal

-- the nodes that are left make the lines that all make
abbrev pub invariant-loop-index : goal.invariant-loop-index
invariant-loop-index g l =
    let b = g.O.Object.means in
    let w = g.O.Texted.wording in
    record {
      lines : with_lines l.out (flagged_lines b w l.index (drop l.index l.trace) (drop l.index l.flags)) ≡ with_lines l.fn.out (flagged_lines b w 0 l.trace l.flags);
      operations : AllByRecursion (λ n. IsSome (b.op_at n.row)) (drop l.index l.trace);
      reads : All (NodeReads b w) (drop l.index l.trace) → All (NodeReads b w) l.trace;
      begins : begins_line l.out ≡ true;
    }
