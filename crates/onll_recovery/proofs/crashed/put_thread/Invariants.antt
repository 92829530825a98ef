use Rattle.std.proofs.Common.{◌≡◌, ◌++◌, drop, true, map}
use Rattle.onll_core.specs.Outcomes.{returned_end, current_ends}
use Rattle.onll_text.specs.Bytes.{begins_line, with_lines}
use Rattle.onll_text.specs.Lines.{call_lines}
use Rattle.std.specs.List.{All}
use Rattle.onll_text.specs.Reports.{EndReads}
use Rattle.onll_recovery.proofs.crashed.put_thread.Given as goal

-- the calls that are left make the lines that all make
abbrev pub invariant-loop-index : goal.invariant-loop-index
invariant-loop-index g l =
    let w = g.O.Texted.wording in
    let ends = map returned_end l.returned ++ current_ends l.current in
    record {
      lines : with_lines l.out (call_lines w l.thread l.index (drop l.index l.script) (drop l.index ends)) ≡ with_lines l.fn.out (call_lines w l.thread 0 l.script ends);
      begins : begins_line l.out ≡ true;
      reads : All (EndReads w) (drop l.index ends) → All (EndReads w) ends;
    }
