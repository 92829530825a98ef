use Rattle.std.specs.Prelude.{◌≡◌, ℕ, ◌+◌, ◌*◌, ◌<◌, ◌≤◌, ◌↔◌, false, List, [], length, Some, None, Ok, slice_get, slice_set}
use Rattle.onll_model.specs.declared.node.Node.{Node}
use Rattle.onll_model.specs.declared.call.Call.{Call}
use Rattle.onll_model.specs.Object.{Behaviour}
use Rattle.onll_model.specs.Calls.{updates_in}
use Rattle.onll_pmem.specs.Pmem.{DeviceView}
use Rattle.onll_log.specs.declared.head.LogHead.{LogHead}
use Rattle.onll_log.specs.Grammar.{Content}
use Rattle.onll_log.specs.Log.{LogState}
use Rattle.onll_merge.specs.Merge.{merge}
use Rattle.onll_merge.specs.Laws.{HeadsFit}
use Rattle.onll_locked.specs.declared.ends.Next.{Next}
use Rattle.onll_locked.specs.declared.ends.Next.TheVariants.{Done, FenceFailed, Broken}
use Rattle.onll_locked.specs.Locked.{LockedThread, LockedState, first_state, next_call, failed_at, IsUpdate}
use Rattle.onll_locked.specs.DoNext.{IsThreadLog, HasDone}
use Rattle.onll_locked.specs.Whole.{HoldWhole, AreEmpty, content_read}

-- Laws of what a call does, whatever code does it.

-- logs without an entry hold the trace before any call
abbrev pub BegunLaw : Type 0
BegunLaw = (heads : List LogHead) (logs : List Content) → HeadsFit logs heads → AreEmpty logs → HoldWhole [] heads logs

-- logs that hold the whole trace merge to it
abbrev pub MergedLaw : Type 0
MergedLaw = (trace : List Node) (heads : List LogHead) (logs : List Content) → HoldWhole trace heads logs → merge heads logs ≡ Ok trace

module _ {State Op Query Reply : Type 0} (b : Behaviour State Op Query Reply) (Device : Type 0) where
  -- each call leaves logs that hold the whole trace, where the thread's log was the one at its number
  abbrev pub WholeLogsLaw : Type 0
  WholeLogsLaw = (c new : LockedState State Op Query Reply) (t : ℕ) (th : LockedThread State Op Query Reply)
      (log log' : LogState Device) (was is : DeviceView) (next : Next) (heads : List LogHead) (logs : List Content)
      → HasDone b c t th new log log' was is next → slice_get logs t ≡ Some (content_read log)
      → HoldWhole c.trace heads logs → HoldWhole new.trace heads (slice_set logs t (content_read log'))

  -- Done comes exactly at the script's end; Broken exactly for an update after one whose fence failed, with its place; and
  -- FenceFailed only where the device's faults rose.
  pub record AnswersSo (c new : LockedState State Op Query Reply) (t : ℕ) (th : LockedThread State Op Query Reply)
      (was is : DeviceView) (next : Next) : Type 0 where
    pub at_end : (next ≡ Done) ↔ (next_call th ≡ None)
    pub broken : (place : ℕ) → (next ≡ Broken place) ↔ (IsUpdate (next_call th) × (failed_at th.ends ≡ Some place))
    pub failed : (place : ℕ) → next ≡ FenceFailed place → was.faults < is.faults

  abbrev pub AnswerLaw : Type 0
  AnswerLaw = (c new : LockedState State Op Query Reply) (t : ℕ) (th : LockedThread State Op Query Reply)
      (log log' : LogState Device) (was is : DeviceView) (next : Next) → HasDone b c t th new log log' was is next
      → AnswersSo c new t th was is next

-- A log of a run's head that has no entry, isn't broken and has lines for all updates of the thread's script is the thread's
-- before any call.
abbrev pub FirstLogLaw : Type 0 → Type 0 → Type 0 → Type 0 → Type 0 → Type 0
FirstLogLaw State Op Query Reply Device =
    (initial : State) (scripts : List (List (Call State Op Query Reply))) (script : List (Call State Op Query Reply))
    (t : ℕ) (log : LogState Device) (lines : ℕ)
    → slice_get scripts t ≡ Some script → log.head.thread ≡ t → log.head.threads ≡ length scripts → log.entries ≡ []
    → log.broken ≡ false → 1 + (length scripts + 1) * updates_in script ≤ lines
    → IsThreadLog (first_state initial scripts) t log lines
