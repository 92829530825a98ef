use Rattle.std.specs.Prelude.{ℕ, ◌≡◌, ◌≤◌, List, [], ◌∷◌, length, Some, slice_get}
use Rattle.onll_model.specs.Limits.{most_threads, most_updates}
use Rattle.onll_model.specs.declared.call.Call.{Call}
use Rattle.onll_model.specs.Calls.{updates_in}
use Rattle.onll_pmem.specs.Device.{DeviceState, Write, WriteBack, Fence, after_steps, new_device}
use Rattle.onll_log.specs.declared.head.LogHead.{LogHead}
use Rattle.onll_log.specs.Head.{FitsHead, head_line}
use Rattle.onll_start.specs.Start.{lines_for}
use Rattle.onll_core.specs.declared.phase.Phase.TheVariants as phases
use Rattle.onll_core.specs.Core.{CoreThread, CoreState}

-- The first state of a core that begins anew.

-- a device of this many lines whose head was written, written back and fenced
abbrev pub first_device : LogHead → ℕ → DeviceState
first_device head lines = after_steps (new_device lines) (Write 0 (head_line head) ∷ WriteBack 0 ∷ Fence ∷ [])

abbrev pub first_thread : {State Op Query Reply : Type 0} → LogHead → List (Call State Op Query Reply) → CoreThread State Op Query Reply
first_thread head script = record {
  head = head;
  script = script;
  returned = [];
  phase = phases.Idle;
  began = 0;
  used = 1;
  logged = 0;
  before = 1;
  device = first_device head (lines_for (updates_in script) head.threads);
}

-- one thread for each head and its script
abbrev pub first_threads : {State Op Query Reply : Type 0} → List LogHead → List (List (Call State Op Query Reply))
    → List (CoreThread State Op Query Reply)
first_threads (head ∷ heads) (script ∷ scripts) = first_thread head script ∷ first_threads heads scripts
first_threads heads scripts = []

abbrev pub first_core : {State Op Query Reply : Type 0} → State → List LogHead → List (List (Call State Op Query Reply))
    → CoreState State Op Query Reply
first_core initial heads scripts =
    record { initial = initial; base = 0; trace = []; flags = []; clock = 0; threads = first_threads heads scripts }

-- the head of the log of thread t of `count`
pub record IsHeadOf (count t : ℕ) (head : LogHead) : Type 0 where
  pub fits : FitsHead head
  pub thread : head.thread ≡ t
  pub threads : head.threads ≡ count
  pub format : head.format ≡ 2

-- heads and scripts within the limits, one of each for each of `count` threads
pub record AreFirst {State Op Query Reply : Type 0} (count : ℕ) (heads : List LogHead)
    (scripts : List (List (Call State Op Query Reply))) : Type 0 where
  pub few : count ≤ most_threads
  pub all_heads : length heads ≡ count
  pub all_scripts : length scripts ≡ count
  pub each_head : (t : ℕ) (head : LogHead) → slice_get heads t ≡ Some head → IsHeadOf count t head
  pub each_script : (t : ℕ) (script : List (Call State Op Query Reply)) → slice_get scripts t ≡ Some script
      → updates_in script ≤ most_updates
