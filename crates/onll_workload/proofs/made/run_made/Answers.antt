use Rattle.std.proofs.Common.{List, sym, ap, ◌∙◌, subst, length, map}
use Rattle.onll_log.specs.declared.head.LogHead.{LogHead}
use Rattle.onll_bank.specs.Object.{bank}
use Rattle.onll_run.specs.Left.{HasRun, no_base}
use Rattle.onll_log.specs.Head.{AreHeads}
use Rattle.onll_run.specs.Ran.{anew, left_by}
use Rattle.onll_workload.specs.Faultless.{faultless_view}
use Rattle.onll_workload.proofs.Begun.{can_run}
use Rattle.onll_workload.proofs.Runs.{header_made}
use Rattle.onll_workload.proofs.Summing.{run_short, run_updates, run_reads, run_fences, run_again, summed_ok}
use Rattle.onll_workload.proofs.made.run_made.Goals as goal

pub run_for_logs-requires-after_bounds : goal.run_for_logs-requires-after_bounds
run_for_logs-requires-after_bounds g c κs within =
    can_run c.args.workload c.deref-2.result.now _ c.in_ok-devices.devices.items c.requires
    (ap length c.deref-2.ensures.value ∙ c.in_ok-heads.ensures.count)
    (subst (AreHeads c.args.workload.threads 0) (sym c.deref-2.ensures.value) c.in_ok-heads.ensures.fit)
    c.in_ok-scripts.ensures c.in_ok-devices.ensures

pub summarize-requires-clause-each : goal.summarize-requires-clause-each
summarize-requires-clause-each g c =
    run_short c.args.workload c.requires c.deref-2.result.now c.in_ok-bank.bank _ (no_base (length c.deref-2.result.now)).logs c.in_ok-devices.devices.items c.in-Ok.ran.threads.items c.in-Ok.ensures.run.0 c.in-Ok.ran.logs.items
    c.in_ok-bank.ensures c.in_ok-scripts.ensures c.in-Ok.ensures.scripts c.in-Ok.ensures.run.1 c.in-Ok.ensures.kept

pub summarize-requires-clause-updates : goal.summarize-requires-clause-updates
summarize-requires-clause-updates g c =
    run_updates c.args.workload c.requires c.deref-2.result.now c.in_ok-bank.bank _ (no_base (length c.deref-2.result.now)).logs c.in_ok-devices.devices.items c.in-Ok.ran.threads.items c.in-Ok.ensures.run.0 c.in-Ok.ran.logs.items
    c.in_ok-bank.ensures c.in_ok-scripts.ensures c.in-Ok.ensures.scripts c.in-Ok.ensures.run.1 c.in-Ok.ensures.kept

pub summarize-requires-clause-reads : goal.summarize-requires-clause-reads
summarize-requires-clause-reads g c =
    run_reads c.args.workload c.requires c.deref-2.result.now c.in_ok-bank.bank _ (no_base (length c.deref-2.result.now)).logs c.in_ok-devices.devices.items c.in-Ok.ran.threads.items c.in-Ok.ensures.run.0 c.in-Ok.ran.logs.items
    c.in_ok-bank.ensures c.in_ok-scripts.ensures c.in-Ok.ensures.scripts c.in-Ok.ensures.run.1 c.in-Ok.ensures.kept

pub summarize-requires-clause-fences : goal.summarize-requires-clause-fences
summarize-requires-clause-fences g c =
    run_fences c.args.workload c.requires c.deref-2.result.now c.in_ok-bank.bank _ (no_base (length c.deref-2.result.now)).logs c.in_ok-devices.devices.items c.in-Ok.ran.threads.items c.in-Ok.ensures.run.0 c.in-Ok.ran.logs.items
    c.in_ok-bank.ensures c.in_ok-scripts.ensures c.in-Ok.ensures.scripts c.in-Ok.ensures.run.1 c.in-Ok.ensures.kept

pub summarize-requires-clause-run : goal.summarize-requires-clause-run
summarize-requires-clause-run g c =
    let run = subst (λ (hs : List LogHead). HasRun bank (anew c.in_ok-bank.bank hs (map (λ script. script.items) c.in_ok-scripts.scripts.items)) (left_by faultless_view c.in-Ok.ran.threads.items c.in-Ok.ensures.run.0 c.in-Ok.ran.logs.items))
    (c.deref-2.ensures.value ∙ sym c.deref-in-Ok.ensures.value) c.in-Ok.ensures.run.1 in
    run_again c.args.workload c.requires c.deref-in-Ok.result.now c.in_ok-bank.bank _ (no_base (length c.deref-2.result.now)).logs c.in_ok-devices.devices.items c.in-Ok.ran.threads.items c.in-Ok.ensures.run.0 c.in-Ok.ran.logs.items
    c.in_ok-bank.ensures c.in_ok-scripts.ensures c.in-Ok.ensures.scripts run c.in-Ok.ensures.kept
    c.in_ok-first.first c.in_ok-first.ensures

pub returns-in-Ok : goal.returns-in-Ok
returns-in-Ok g c =
    let run = subst (λ (hs : List LogHead). HasRun bank (anew c.in_ok-bank.bank hs (map (λ script. script.items) c.in_ok-scripts.scripts.items)) (left_by faultless_view c.in-Ok.ran.threads.items c.in-Ok.ensures.run.0 c.in-Ok.ran.logs.items))
    (c.deref-2.ensures.value ∙ sym c.deref-in-Ok.ensures.value) c.in-Ok.ensures.run.1 in
    summed_ok c.args.workload c.requires c.deref-in-Ok.result.now c.in_ok-bank.bank _ (no_base (length c.deref-2.result.now)).logs c.in_ok-devices.devices.items c.in-Ok.ran.threads.items c.in-Ok.ensures.run.0 c.in-Ok.ran.logs.items
    c.in_ok-bank.ensures c.in_ok-scripts.ensures c.in-Ok.ensures.scripts run c.in-Ok.ensures.kept
    c.in_ok-first.first c.in_ok-first.ensures c.summarize.result c.summarize.ensures

pub unreachable-requires : goal.unreachable-requires
unreachable-requires g c =
    header_made c.deref-2.result.now (no_base (length c.deref-2.result.now)).logs c.in_ok-devices.devices.items c.in-Err-HeaderFailed.field-0-1.items c.in-Err-HeaderFailed.field-0-0
    (rw c.in-Err-HeaderFailed.field-0-is at c.in-Err-HeaderFailed.ensures.refused)
