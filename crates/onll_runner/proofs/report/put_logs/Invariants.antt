use Rattle.std.proofs.Common.{◌≡◌, drop, true}
use Rattle.std.specs.List.{All}
use Rattle.onll_text.specs.Bytes.{begins_line, with_lines}
use Rattle.onll_text.specs.Lines.{counted_lines}
use Rattle.onll_text.specs.Reports.{LogReads}
use Rattle.onll_runner.proofs.ReportSteps.{told}
use Rattle.onll_runner.proofs.report.put_logs.Given as goal

-- the logs that are left make the lines that all make
abbrev pub invariant-loop-thread : goal.invariant-loop-thread
invariant-loop-thread g l =
    let m = g.P.Pmem.means in
    record {
      lines : with_lines l.out (counted_lines l.thread (told m (drop l.thread l.logs))) ≡ with_lines l.fn.out (counted_lines 0 (told m l.logs));
      begins : begins_line l.out ≡ true;
      reads : All LogReads (told m (drop l.thread l.logs)) → All LogReads (told m l.logs);
    }
