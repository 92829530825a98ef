-- The summary of a run of a workload is that of the workload.

use Rattle.std.proofs.Common.{ℕ, ◌≡◌, ◌*◌, ◌^◌, ◌<◌, ◌≤◌, List, length, map, sum, sum_by, Result, Ok, Err, sym, ap, ◌∙◌, subst, arith}
use Rattle.std.specs.Result.{IfOk}
use Rattle.std.specs.List.{All}
use Rattle.onll_model.specs.Limits.{most_updates}
use Rattle.onll_model.specs.Calls.{updates_in, reads_in}
use Rattle.onll_model.specs.Trace.{state_after}
use Rattle.onll_pmem.specs.Device.{DeviceState}
use Rattle.onll_log.specs.declared.head.LogHead.{LogHead}
use Rattle.onll_log.specs.Grammar.{Content}
use Rattle.onll_log.specs.Log.{LogState}
use Rattle.onll_bank.specs.declared.operation.BankOp.{BankOp}
use Rattle.onll_bank.specs.declared.operation.BankQuery.{BankQuery}
use Rattle.onll_bank.specs.declared.operation.BankReply.{BankReply}
use Rattle.onll_bank.specs.Object.{bank}
use Rattle.onll_trace.specs.declared.trace.Ended.{Ended}
use Rattle.onll_run.specs.declared.run.DoneScript.{DoneScript}
use Rattle.onll_run.specs.Left.{LogLeft, HasRun}
use Rattle.onll_run.specs.Ended.{log_left}
use Rattle.onll_run.specs.Ran.{AreKeptLogs, anew, left_by, script_in, ends_in, node_in}
use Rattle.onll_workload.specs.declared.workload.Workload.{Workload}
use Rattle.onll_workload.specs.declared.summary.Summary.{Summary}
use Rattle.onll_workload.specs.Faultless.{faultless_view}
use Rattle.onll_text.specs.BankText.{BankCall}
use Rattle.onll_workload.specs.Workload.{IsWorkload, scripts_of, first_bank, accounts, balance}
use Rattle.onll_workload.specs.Made.{made_summary}
use Rattle.onll_workload.proofs.Runs.{HasMade, has_made, kept_whole}
use Rattle.onll_workload.proofs.Sums.{sum_mapped, each_short, threads_are, updates_are, reads_are, updates_fit, reads_fit}

abbrev pub BankDone : Type 0
BankDone = DoneScript (List ℕ) BankOp BankQuery BankReply

below : (n m : ℕ) → n ≡ m → m ≤ 65536 → n < 2 ^ 64
below n m e h = omega (arith, e, h)

-- the run of a workload's scripts, over devices whose fences never fail
module _ (w : Workload) (valid : IsWorkload w) (heads : List LogHead) (object : List ℕ) (scripts : List (List BankCall)) (befores : List Content) (devices : List DeviceState) (threads : List BankDone) (trace : List Ended) (logs : List (LogState DeviceState))
    (first : object ≡ first_bank) (made : scripts ≡ scripts_of w) (done : map script_in threads ≡ scripts)
    (run : HasRun bank (anew object heads scripts) (left_by faultless_view threads trace logs)) (kept : AreKeptLogs faultless_view befores (map ends_in threads) devices logs) where
  what : HasMade w (left_by faultless_view threads trace logs)
  what =
      has_made w heads (left_by faultless_view threads trace logs)
      (subst (λ (s : List ℕ). HasRun bank (anew s heads (scripts_of w)) (left_by faultless_view threads trace logs)) first
      (subst (λ (ss : List (List BankCall)). HasRun bank (anew object heads ss) (left_by faultless_view threads trace logs)) made run))
      (kept_whole befores (map ends_in threads) devices logs kept)

  all : map script_in threads ≡ scripts_of w
  all = done ∙ made

  -- it has not been too long for any count
  pub run_short : All (λ (d : BankDone). updates_in d.script.items ≤ most_updates) threads
  run_short = each_short script_in w valid threads all

  pub run_updates : sum_by (λ (d : BankDone). updates_in d.script.items) threads < 2 ^ 64
  run_updates = below _ _ (updates_are script_in w valid threads all) (updates_fit w valid)

  pub run_reads : sum_by (λ (d : BankDone). reads_in d.script.items) threads < 2 ^ 64
  run_reads = below _ _ (reads_are script_in w valid threads all) (reads_fit w valid)

  fences_are : sum_by (λ (log : LogState DeviceState). log.fences) logs ≡ w.threads * w.updates
  fences_are = sym (sum_mapped (λ (log : LogLeft). log.fences) (log_left faultless_view) logs) ∙ what.fences

  pub run_fences : sum_by (λ (log : LogState DeviceState). log.fences) logs < 2 ^ 64
  run_fences = below _ _ fences_are (updates_fit w valid)

  abbrev HasRunFrom : List ℕ → List Ended → Type 0
  HasRunFrom copy ends = HasRun bank (anew copy heads (map script_in threads)) (left_by faultless_view threads ends logs)

  run_from : (copy : List ℕ) → copy ≡ object → HasRunFrom copy trace
  run_from copy same = subst (λ (z : List ℕ × List (List BankCall)). HasRun bank (anew z.0 heads z.1) (left_by faultless_view threads trace logs)) (λ i. (sym same i, sym done i)) run

  pub run_again : (copy : List ℕ) → copy ≡ object → (ends : List Ended) × HasRunFrom copy ends
  run_again copy same = (trace, run_from copy same)

  -- its summary is that of the workload
  total_is : (copy : List ℕ) → copy ≡ object → sum (state_after bank copy (map node_in trace)) ≡ accounts * balance
  total_is copy same = ap (λ (s : List ℕ). sum (state_after bank s (map node_in trace))) (same ∙ first) ∙ what.total

  summed : (copy : List ℕ) → copy ≡ object → (s : Summary) → s ≡ record {
    threads = length threads;
    updates = sum_by (λ (d : BankDone). updates_in d.script.items) threads;
    reads = sum_by (λ (d : BankDone). reads_in d.script.items) threads;
    fences = sum_by (λ (log : LogState DeviceState). log.fences) logs;
    recovered = length (map node_in trace);
    total = sum (state_after bank copy (map node_in trace));
  } → s ≡ made_summary w
  summed copy same s e =
      e ∙ (λ i. record {
        threads = threads_are script_in w valid threads all i;
        updates = updates_are script_in w valid threads all i;
        reads = reads_are script_in w valid threads all i;
        fences = fences_are i;
        recovered = what.nodes i;
        total = total_is copy same i;
      })

  pub summed_ok : {E : Type 0} (copy : List ℕ) → copy ≡ object → (r : Result Summary E) → IfOk r (λ s. (ends : List Ended) → HasRunFrom copy ends → s ≡ record {
    threads = length threads;
    updates = sum_by (λ (d : BankDone). updates_in d.script.items) threads;
    reads = sum_by (λ (d : BankDone). reads_in d.script.items) threads;
    fences = sum_by (λ (log : LogState DeviceState). log.fences) logs;
    recovered = length (map node_in ends);
    total = sum (state_after bank copy (map node_in ends));
  }) → IfOk r (λ s. s ≡ made_summary w)
  summed_ok copy same (Ok s) h = summed copy same s (h trace (run_from copy same))
  summed_ok copy same (Err e) h = tt
