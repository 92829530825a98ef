use Rattle.std.proofs.Common.{◌≡◌, drop, map, true}
use Rattle.onll_text.specs.Bytes.{begins_line, with_lines}
use Rattle.onll_recovery.specs.DetectJob.{scripts_lines}
use Rattle.onll_recovery.proofs.detect.put_scripts.Given as goal

abbrev pub invariant-loop-thread : goal.invariant-loop-thread
invariant-loop-thread g l =
    let w = g.O.Texted.wording in
    record {
      lines : with_lines l.out (scripts_lines w l.outcomes l.thread (map (λ script. script.items) (drop l.thread l.scripts)))
          ≡ with_lines l.fn.out (scripts_lines w l.outcomes 0 (map (λ script. script.items) l.scripts));
      begins : begins_line l.out ≡ true;
    }
