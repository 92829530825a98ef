use Rattle.std.proofs.Common.{◌≡◌, drop, map, true}
use Rattle.onll_run.specs.Ran.{ends_in}
use Rattle.onll_text.specs.Bytes.{begins_line, with_lines}
use Rattle.onll_runner.specs.RunReport.{fault_lines}
use Rattle.onll_runner.proofs.report.put_faults.Given as goal

-- the threads that are left make the lines that all make
abbrev pub invariant-loop-thread : goal.invariant-loop-thread
invariant-loop-thread g l = record {
  lines : with_lines l.out (fault_lines l.thread (map ends_in (drop l.thread l.threads))) ≡ with_lines l.fn.out (fault_lines 0 (map ends_in l.threads));
  begins : begins_line l.out ≡ true;
}
