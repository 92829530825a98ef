use Rattle.std.proofs.Common.{rules, ◌≡◌, length, map, sum, sum_by, sym, ap, ◌∙◌}
use Rattle.onll_model.specs.Calls.{updates_in, reads_in}
use Rattle.onll_model.specs.Trace.{state_after}
use Rattle.onll_bank.specs.Object.{bank}
use Rattle.onll_run.specs.Left.{no_base}
use Rattle.onll_run.specs.Ended.{log_left}
use Rattle.onll_run.specs.Ran.{left_by, node_in, script_in}
use Rattle.onll_task.proofs.RunRecovers.{logs_of_run}
use Rattle.onll_workload.specs.Faultless.{faultless_view}
use Rattle.onll_workload.proofs.made.summarize.Goals as goal

pub recover_logs-requires-after_bounds : goal.recover_logs-requires-after_bounds
recover_logs-requires-after_bounds c κs = (
  map node_in c.requires.run.0,
  logs_of_run bank faultless_view c.args.object c.args.heads.now (map script_in c.args.ran.now.threads.items) (left_by faultless_view c.args.ran.now.threads.items c.requires.run.0 c.args.ran.now.logs.items) c.deref.result.now
      (record { base = no_base (length c.args.heads.now); operations = tt; run = c.requires.run.1 }) (ap (map (log_left faultless_view)) (sym c.deref.ensures.value)),
)

pub returns : goal.returns
returns c trace run =
    let of_run = logs_of_run bank faultless_view c.args.object c.args.heads.now (map script_in c.args.ran.now.threads.items) (left_by faultless_view c.args.ran.now.threads.items trace c.args.ran.now.logs.items) c.deref.result.now
    (record { base = no_base (length c.args.heads.now); operations = tt; run = run }) (ap (map (log_left faultless_view)) (sym c.deref.ensures.value)) in
    let recovered : c.in_ok-applied.applied.nodes ≡ length (map node_in trace) = c.in_ok-applied.ensures.nodes (map node_in trace) of_run in
    let threads : c.len.result ≡ length c.args.ran.now.threads.items = search rules in
    let updates : c.total_calls-updates.result.0 ≡ sum_by (λ done. updates_in done.script.items) c.args.ran.now.threads.items = c.total_calls-updates.ensures.updates ∙ ap (sum_by (λ done. updates_in done.script.items)) c.deref-2.ensures.value in
    let reads : c.total_calls-updates.result.1 ≡ sum_by (λ done. reads_in done.script.items) c.args.ran.now.threads.items = c.total_calls-updates.ensures.reads ∙ ap (sum_by (λ done. reads_in done.script.items)) c.deref-2.ensures.value in
    let fences : c.total_fences.result ≡ sum_by (λ log. log.fences) c.args.ran.now.logs.items = c.total_fences.ensures ∙ ap (sum_by (λ log. log.fences)) c.deref-3.ensures.value in
    let total : c.total_of.result ≡ sum (state_after bank c.args.object (map node_in trace)) = c.total_of.ensures ∙ ap sum (c.in_ok-applied.ensures.state (map node_in trace) of_run) in
    λ i. record { threads = threads i; updates = updates i; reads = reads i; fences = fences i; recovered = recovered i; total = total i }
