use Rattle.std.proofs.Common.{◌≡◌, drop, map, true}
use Rattle.onll_core.specs.Outcomes.{ends_of, script_of}
use Rattle.onll_text.specs.Bytes.{begins_line, with_lines}
use Rattle.onll_text.specs.Reports.{EachReads}
use Rattle.onll_recovery.specs.ReplayJob.{begun_lines}
use Rattle.onll_recovery.proofs.crashed.put_calls.Given as goal

-- the threads that are left make the lines that all make
abbrev pub invariant-loop-thread : goal.invariant-loop-thread
invariant-loop-thread g l =
    let w = g.O.Texted.wording in
    let rest = drop l.thread l.core.threads in
    record {
      lines : with_lines l.out (begun_lines w l.thread (drop l.thread l.core.threads)) ≡ with_lines l.fn.out (begun_lines w 0 l.core.threads);
      begins : begins_line l.out ≡ true;
      reads : EachReads w (map script_of rest) (map ends_of rest) → EachReads w (map script_of l.core.threads) (map ends_of l.core.threads);
    }
