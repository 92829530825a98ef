-- What a run of a workload needs: heads, and devices with room for its scripts.

use Rattle.std.proofs.Common.{ℕ, zero, suc, ◌≡◌, ◌+◌, ◌*◌, List, [], length, None, replicate, refl, sym, ap, ◌∙◌, subst, arith}
use Rattle.onll_model.specs.Calls.{updates_in}
use Rattle.onll_model.proofs.Lists.{same_some}
use Rattle.onll_pmem.specs.Device.{DeviceState, new_device}
use Rattle.onll_log.specs.declared.head.LogHead.{LogHead}
use Rattle.onll_log.specs.Head.{AreHeads}
use Rattle.onll_run.specs.Left.{no_base}
use Rattle.onll_run.specs.Ran.{IsRoomyFor, AreRoomy, HasBase, CanRun}
use Rattle.onll_run.proofs.Anew.{new_base, new_roomy}
use Rattle.onll_workload.specs.declared.workload.Workload.{Workload}
use Rattle.onll_workload.specs.Faultless.{faultless_view}
use Rattle.onll_text.specs.BankText.{BankCall}
use Rattle.onll_workload.specs.Workload.{IsWorkload, script_of, scripts_from, scripts_of, device_lines}
use Rattle.onll_workload.proofs.Scripts.{updates_of_script, length-scripts}
use Rattle.onll_workload.proofs.Sums.{scripts_short}

roomy_device : (w : Workload) (t : ℕ) → IsWorkload w → IsRoomyFor faultless_view w.threads (record { head = None; entries = [] }) (script_of w t) (new_device (device_lines w))
roomy_device w t h =
    let same : 1 + (w.threads + 1) * updates_in (script_of w t) ≡ device_lines w = ap (λ n. 1 + (w.threads + 1) * n) (updates_of_script w t) in
    new_roomy faultless_view w.threads (device_lines w) (script_of w t) (new_device (device_lines w))
    (record { read = refl; fences = refl; faults = refl; settled = λ told is. sym (ap (λ k. k.fenced) (same_some _ told is)) }) (omega (arith, same))

roomy_devices : (w : Workload) (left t : ℕ) → IsWorkload w → AreRoomy faultless_view w.threads (no_base left).logs (scripts_from w left t) (replicate left (new_device (device_lines w)))
roomy_devices w zero t h = tt
roomy_devices w (suc left) t h = (roomy_device w t h, roomy_devices w left (t + 1) h)

pub can_run : (w : Workload) (heads : List LogHead) (scripts : List (List BankCall)) (devices : List DeviceState) → IsWorkload w → length heads ≡ w.threads → AreHeads w.threads 0 heads
    → scripts ≡ scripts_of w → devices ≡ replicate w.threads (new_device (device_lines w)) → CanRun faultless_view heads (no_base (length heads)).logs scripts devices
can_run w heads scripts devices h many are s d =
    let count : length scripts ≡ w.threads = ap length s ∙ length-scripts w w.threads 0 in
    record {
      some_thread = omega (arith, count, h.some_thread);
      few = omega (arith, count, h.few_threads);
      many = many ∙ sym count;
      heads_are = subst (λ n. AreHeads n 0 heads) (sym count) are;
      base = subst (HasBase heads (no_base (length heads)).logs) (sym s) (new_base heads (length heads) (scripts_of w) (scripts_short w w.threads 0 h));
      devices_are = subst (λ n. AreRoomy faultless_view n (no_base (length heads)).logs scripts devices) (sym count)
          (subst (λ n. AreRoomy faultless_view w.threads (no_base n).logs scripts devices) (sym many)
          (subst (λ (ss : List (List BankCall)). AreRoomy faultless_view w.threads (no_base w.threads).logs ss devices) (sym s)
          (subst (AreRoomy faultless_view w.threads (no_base w.threads).logs (scripts_of w)) (sym d) (roomy_devices w w.threads 0 h))));
    }
