use Rattle.std.proofs.Common.{◌≡◌, drop, map, true}
use Rattle.onll_run.specs.Ran.{script_in, ends_in}
use Rattle.onll_text.specs.Bytes.{begins_line, with_lines}
use Rattle.onll_text.specs.Lines.{thread_lines}
use Rattle.onll_text.specs.Reports.{EachReads}
use Rattle.onll_runner.proofs.report.put_threads.Given as goal

-- the threads that are left make the lines that all make
abbrev pub invariant-loop-thread : goal.invariant-loop-thread
invariant-loop-thread g l =
    let w = g.O.Texted.wording in
    let rest = drop l.thread l.threads in
    record {
      lines : with_lines l.out (thread_lines w l.thread (map script_in rest) (map ends_in rest)) ≡ with_lines l.fn.out (thread_lines w 0 (map script_in l.threads) (map ends_in l.threads));
      begins : begins_line l.out ≡ true;
      reads : EachReads w (map script_in rest) (map ends_in rest) → EachReads w (map script_in l.threads) (map ends_in l.threads);
    }
