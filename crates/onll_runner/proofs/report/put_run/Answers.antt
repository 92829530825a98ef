use Rattle.std.proofs.Common.{◌≤◌, ◌^◌, List, IsSome, length, map, sym, ap, subst, ◌∙◌}
use Rattle.std.specs.List.{AllByRecursion}
use Rattle.std.proofs.lemmas.List.{length-map}
use Rattle.std.proofs.lemmas.Result.{on_ok_weaker}
use Rattle.onll_model.specs.declared.node.Node.{Node}
use Rattle.onll_trace.specs.declared.trace.Ended.{Ended}
use Rattle.onll_run.specs.Ran.{script_in, node_in}
use Rattle.onll_text.specs.Lines.{trace_line}
use Rattle.onll_task.proofs.LineSteps.{begins_after}
use Rattle.onll_runner.proofs.report.put_run.Goals as goal

pub put_nodes-requires-clause-begins : goal.put_nodes-requires-clause-begins
put_nodes-requires-clause-begins g c κs within = begins_after c.put_threads.new.out c.trace_line.new.self (trace_line c.len.result) c.in_ok-trace_line.ensures.ok

pub put_nodes-requires-clause-operations : goal.put_nodes-requires-clause-operations
put_nodes-requires-clause-operations g c κs within =
    subst (λ (l : List Ended). AllByRecursion (λ (n : Node). IsSome (g.O.Object.means.op_at n.row)) (map node_in l)) (sym c.deref-2.ensures.value) c.requires.operations

pub returns-clause-threads : goal.returns-clause-threads
returns-clause-threads g c =
    let same = length-map c.args.ran.now.threads.items script_in ∙ sym (ap length c.deref.ensures.value) in
    on_ok_weaker c.put_nodes.result (λ _. subst (λ n. n ≤ 2 ^ 64) (sym same) c.in_ok-put_threads.ensures.few) c.put_nodes.ensures.begins
