use Rattle.std.proofs.Common.{map}
use Rattle.onll_run.specs.Ran.{script_in, left_in}
use Rattle.onll_task.proofs.RunRecovers.{over_operations}
use Rattle.onll_runner.proofs.report.run_report.Goals as goal

pub put_run-requires-clause-operations : goal.put_run-requires-clause-operations
put_run-requires-clause-operations g c κs within =
    let ran = c.args.ran.now in
    over_operations g.O.Object.means c.args.object.now c.args.heads.now (map script_in ran.threads.items) (left_in g.P.Pmem.means ran) c.requires
