use Rattle.std.proofs.Common.{◌≡◌, drop, true}
use Rattle.std.specs.List.{All}
use Rattle.onll_text.specs.Bytes.{begins_line, with_lines}
use Rattle.onll_text.specs.Reports.{LogReads}
use Rattle.onll_recovery.specs.ReplayJob.{fenced_lines, counts_of}
use Rattle.onll_recovery.proofs.crashed.put_fenced.Given as goal

-- the logs that are left make the lines that all make
abbrev pub invariant-loop-log : goal.invariant-loop-log
invariant-loop-log g l = record {
  lines : with_lines l.out (fenced_lines l.thread (drop l.log-index l.logs) (drop l.thread l.core.threads)) ≡ with_lines l.fn.out (fenced_lines 0 l.logs l.core.threads);
  begins : begins_line l.out ≡ true;
  thread : l.thread ≡ l.log-index;
  reads : All LogReads (counts_of (drop l.log-index l.logs) (drop l.log-index l.core.threads)) → All LogReads (counts_of l.logs l.core.threads);
}
