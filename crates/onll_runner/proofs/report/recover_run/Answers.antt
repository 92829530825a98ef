use Rattle.std.proofs.Common.{map, sym, ap}
use Rattle.std.proofs.lemmas.Result.{IfOk-weaker}
use Rattle.onll_run.specs.Ended.{log_left}
use Rattle.onll_run.specs.Ran.{left_in, node_in, script_in}
use Rattle.onll_task.proofs.RunRecovers.{logs_of_run}
use Rattle.onll_runner.proofs.report.recover_run.Goals as goal

pub recover_logs-requires-after_bounds : goal.recover_logs-requires-after_bounds
recover_logs-requires-after_bounds g c κs within = (
  map node_in c.args.ran.now.trace.items,
  logs_of_run g.O.Object.means g.P.Pmem.means c.args.object.now c.args.heads.now (map script_in c.args.ran.now.threads.items) (left_in g.P.Pmem.means c.args.ran.now) c.deref.result.now
      c.requires (ap (map (log_left g.P.Pmem.means)) (sym c.deref.ensures.value)),
)

pub returns-clause-nodes : goal.returns-clause-nodes
returns-clause-nodes g c = IfOk-weaker c.recover_logs.result _ _
    (λ a nodes. nodes (map node_in c.args.ran.now.trace.items)
    (logs_of_run g.O.Object.means g.P.Pmem.means c.args.object.now c.args.heads.now (map script_in c.args.ran.now.threads.items) (left_in g.P.Pmem.means c.args.ran.now) c.deref.result.now
    c.requires (ap (map (log_left g.P.Pmem.means)) (sym c.deref.ensures.value))))
    c.recover_logs.ensures.nodes

pub returns-clause-state : goal.returns-clause-state
returns-clause-state g c = IfOk-weaker c.recover_logs.result _ _
    (λ a state. state (map node_in c.args.ran.now.trace.items)
    (logs_of_run g.O.Object.means g.P.Pmem.means c.args.object.now c.args.heads.now (map script_in c.args.ran.now.threads.items) (left_in g.P.Pmem.means c.args.ran.now) c.deref.result.now
    c.requires (ap (map (log_left g.P.Pmem.means)) (sym c.deref.ensures.value))))
    c.recover_logs.ensures.state
