use Rattle.std.specs.Prelude.{ℕ, ◌-◌, max, List, [], ◌∷◌, Option, Some, None, drop, map}
use Rattle.onll_model.specs.declared.node.Node.{Node}
use Rattle.onll_model.specs.Segment.{Segment}
use Rattle.onll_model.specs.Frames.{Frame, Thread, Activity, Rest, Loaded, Walk, Logging, Fenced, Asking}
use Rattle.onll_model.specs.Events.{window}
use Rattle.onll_pmem.specs.Device.{DeviceState}
use Rattle.onll_log.specs.declared.head.LogHead.{LogHead}
use Rattle.onll_log.specs.Grammar.{entries_from}
use Rattle.onll_core.specs.declared.phase.Phase.{Phase}
use Rattle.onll_core.specs.declared.phase.Phase.TheVariants as phases
use Rattle.onll_core.specs.declared.returned.Returned.{Returned}
use Rattle.onll_core.specs.Core.{CoreThread, CoreState}

-- The frame that a core's state shows. No thread is stuck in it, and no note is out.

-- the greatest place of the returned calls, that of the base where there is none
abbrev pub seen_in : {State Op Query Reply : Type 0} → ℕ → List (Returned State Op Query Reply) → ℕ
seen_in base [] = base
seen_in base (r ∷ rs) = max r.place (seen_in base rs)

-- the segment that is being logged
abbrev pub pending_in : List Node → Phase → Option Segment
pending_in trace phases.Idle = None
pending_in trace (phases.Tail l) = None
pending_in trace (phases.Exchange l) = None
pending_in trace (phases.Flag p d) = None
pending_in trace (phases.Line p d k) = Some (window trace d p)
pending_in trace (phases.Back p d k) = Some (window trace d p)
pending_in trace (phases.Fence p d) = Some (window trace d p)
pending_in trace (phases.Set p d) = None
pending_in trace (phases.Ask f d) = None

abbrev pub activity_in : Phase → Activity
activity_in phases.Idle = Rest
activity_in (phases.Tail l) = Loaded l
activity_in (phases.Exchange l) = Loaded l
activity_in (phases.Flag p d) = Walk p d
activity_in (phases.Line p d k) = Logging p (p - d)
activity_in (phases.Back p d k) = Logging p (p - d)
activity_in (phases.Fence p d) = Logging p (p - d)
activity_in (phases.Set p d) = Fenced p (p - d)
activity_in (phases.Ask f d) = Asking f d

-- the entries that a device's fenced words hold, after the head's line
abbrev pub fenced_entries : LogHead → DeviceState → List Segment
fenced_entries head device = entries_from head 0 0 (drop 1 device.fenced)

-- a thread's part of the frame, if its next step were of this kind
abbrev pub thread_at : {State Op Query Reply : Type 0} → ℕ → List Node → CoreThread State Op Query Reply → Phase → Thread
thread_at base trace th phase = record {
  seen = seen_in base th.returned;
  fenced = fenced_entries th.head th.device;
  pending = pending_in trace phase;
  stuck = None;
  activity = activity_in phase;
}

abbrev pub frame_thread : {State Op Query Reply : Type 0} → ℕ → List Node → CoreThread State Op Query Reply → Thread
frame_thread base trace th = thread_at base trace th th.phase

abbrev pub frame_of : {State Op Query Reply : Type 0} → CoreState State Op Query Reply → Frame
frame_of c = record { trace = c.trace; flags = c.flags; threads = map (frame_thread c.base c.trace) c.threads; notes = [] }
