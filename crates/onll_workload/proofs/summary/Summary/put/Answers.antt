use Rattle.std.proofs.Common.{codes}
use Rattle.std.proofs.lemmas.Result.{on_ok_weaker}
use Rattle.onll_workload.specs.Made.{counted_line}
use Rattle.onll_workload.proofs.Determined.{begun, appended}
use Rattle.onll_workload.proofs.summary.Summary.put.Goals as goal

pub put_counted-requires-3-clause-begins : goal.put_counted-requires-3-clause-begins
put_counted-requires-3-clause-begins c =
    begun c.put_counted.new.out c.put_counted-2.new.out (counted_line (codes "recovered") c.args.self.recovered) c.in_ok-put_counted-2.ensures.line

pub returns-clause-lines : goal.returns-clause-lines
returns-clause-lines c =
    on_ok_weaker c.put_counted-3.result
    (λ d. appended c.args.self c.args.out.now c.put_made.new.out c.put_counted.new.out c.put_counted-2.new.out c.put_counted-3.new.out
    c.in_ok-put_made.ensures.line c.in_ok-put_counted.ensures.line c.in_ok-put_counted-2.ensures.line d)
    c.put_counted-3.ensures.line
