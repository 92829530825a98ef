use Rattle.std.proofs.Common.{◌≡◌, drop, true}
use Rattle.std.specs.List.{All}
use Rattle.onll_text.specs.Bytes.{begins_line, with_lines}
use Rattle.onll_text.specs.Lines.{call_lines}
use Rattle.onll_text.specs.Reports.{EndReads}
use Rattle.onll_runner.proofs.report.put_ends.Given as goal

-- the calls that are left make the lines that all make
abbrev pub invariant-loop-index : goal.invariant-loop-index
invariant-loop-index g l =
    let w = g.O.Texted.wording in
    record {
      lines : with_lines l.out (call_lines w l.thread l.index (drop l.index l.script) (drop l.index l.ends)) ≡ with_lines l.fn.out (call_lines w l.thread 0 l.script l.ends);
      begins : begins_line l.out ≡ true;
      reads : All (EndReads w) (drop l.index l.ends) → All (EndReads w) l.ends;
    }
