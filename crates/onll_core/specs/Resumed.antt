use Rattle.std.specs.Prelude.{ℕ, suc, ◌≡◌, ◌+◌, ◌*◌, ◌≤◌, true, List, [], ◌∷◌, ◌++◌, length, replicate, Some, slice_get, count_by}
use Rattle.onll_model.specs.Limits.{most_threads, most_updates}
use Rattle.std.specs.List.{AllByRecursion}
use Rattle.onll_model.specs.declared.call.Call.{Call}
use Rattle.onll_model.specs.declared.node.Node.{Node}
use Rattle.onll_model.specs.Trace.{is_of_thread}
use Rattle.onll_model.specs.Segment.{Segment}
use Rattle.onll_model.specs.FrameLaws.{IsResumable}
use Rattle.onll_model.specs.Calls.{updates_in}
use Rattle.onll_pmem.specs.Device.{zero_lines, fenced_device}
use Rattle.onll_log.specs.declared.head.LogHead.{LogHead}
use Rattle.onll_log.specs.Encoding.{log_lines, FitEntries}
use Rattle.onll_log.specs.Grammar.{lines_in}
use Rattle.onll_core.specs.declared.phase.Phase.TheVariants as phases
use Rattle.onll_core.specs.Core.{CoreThread, CoreState}
use Rattle.onll_core.specs.First.{IsHeadOf}

-- The first state of a core that goes on from recovered logs.

-- a thread that goes on in its log, with room for a whole entry of each update
abbrev pub resumed_core_thread : {State Op Query Reply : Type 0} → LogHead → List Segment
    → List (Call State Op Query Reply) → CoreThread State Op Query Reply
resumed_core_thread head log script = record {
  head = head;
  script = script;
  returned = [];
  phase = phases.Idle;
  began = 0;
  used = suc (lines_in log);
  logged = length log;
  before = 0;
  device = fenced_device (log_lines head log ++ zero_lines (updates_in script * (head.threads + 1)));
}

-- one thread for each head, its log and its script
abbrev pub resumed_core_threads : {State Op Query Reply : Type 0} → List LogHead → List (List Segment)
    → List (List (Call State Op Query Reply)) → List (CoreThread State Op Query Reply)
resumed_core_threads (head ∷ heads) (log ∷ logs) (script ∷ scripts) =
    resumed_core_thread head log script ∷ resumed_core_threads heads logs scripts
resumed_core_threads heads logs scripts = []

abbrev pub resumed_core : {State Op Query Reply : Type 0} → State → List Node → List LogHead → List (List Segment)
    → List (List (Call State Op Query Reply)) → CoreState State Op Query Reply
resumed_core initial base heads logs scripts =
    record {
      initial = initial;
      base = length base;
      trace = base;
      flags = replicate (length base) true;
      clock = 0;
      threads = resumed_core_threads heads logs scripts;
    }

-- heads, logs and scripts within the limits, one of each for each of `count` threads; the base is what the logs hold
pub record AreResumed {State Op Query Reply : Type 0} (count : ℕ) (nodes : List Node) (heads : List LogHead)
    (logs : List (List Segment)) (scripts : List (List (Call State Op Query Reply))) : Type 0 where
  pub few : count ≤ most_threads
  pub rows : AllByRecursion (λ (n : Node). length n.row.w ≡ 7) nodes
  pub resumable : IsResumable count nodes logs
  pub all_heads : length heads ≡ count
  pub all_scripts : length scripts ≡ count
  pub each_head : (t : ℕ) (head : LogHead) → slice_get heads t ≡ Some head → IsHeadOf count t head
  pub each_log : (t : ℕ) (log : List Segment) → slice_get logs t ≡ Some log → FitEntries count log
  pub each_script : (t : ℕ) (script : List (Call State Op Query Reply)) → slice_get scripts t ≡ Some script
      → count_by (is_of_thread t) nodes + updates_in script ≤ most_updates
