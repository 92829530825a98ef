use Rattle.std.specs.Prelude.{ℕ, ◌≡◌, ◌==◌, if◌then◌else◌, length, Option, Some, None, slice_get}
use Rattle.onll_model.specs.declared.call.Call.{Call}
use Rattle.onll_model.specs.declared.call.Call.TheVariants.{Update, Ask}
use Rattle.onll_model.specs.Object.{Behaviour}
use Rattle.onll_model.specs.Frames.{Frame, is_available}
use Rattle.onll_model.specs.Events.{Event, UpdateTail, Won, Lost, FlagSet, FlagUnset, Fence, Set, ReadTail, after, Possible}
use Rattle.onll_core.specs.declared.phase.Phase.{Phase}
use Rattle.onll_core.specs.declared.phase.Phase.TheVariants as phases
use Rattle.onll_core.specs.Core.{CoreThread, CoreState}
use Rattle.onll_core.specs.CoreFrame.{frame_of}
use Rattle.onll_core.specs.Step.{next_call}

-- Which event a step of a thread is. Where a line is written or written back no frame changes.

abbrev pub event_at : {State Op Query Reply : Type 0} → Behaviour State Op Query Reply → CoreState State Op Query Reply
    → ℕ → Option (Call State Op Query Reply) → Phase → Option Event
event_at b c t None phase = None
event_at b c t (Some (Update op)) phases.Idle = Some (UpdateTail t)
event_at b c t (Some (Update op)) (phases.Tail l) = Some (UpdateTail t)
event_at b c t (Some (Update op)) (phases.Exchange l) = if length c.trace == l then Some (Won t (b.row_of op)) else Some (Lost t)
event_at b c t (Some (Update op)) (phases.Flag p d) = if is_available c.flags d then Some (FlagSet t) else Some (FlagUnset t)
event_at b c t (Some (Update op)) (phases.Line p d k) = None
event_at b c t (Some (Update op)) (phases.Back p d k) = None
event_at b c t (Some (Update op)) (phases.Fence p d) = Some (Fence t)
event_at b c t (Some (Update op)) (phases.Set p d) = Some (Set t)
event_at b c t (Some (Update op)) (phases.Ask f d) = None
event_at b c t (Some (Ask query)) phases.Idle = Some (ReadTail t)
event_at b c t (Some (Ask query)) (phases.Ask f d) = if is_available c.flags d then Some (FlagSet t) else Some (FlagUnset t)
event_at b c t (Some (Ask query)) (phases.Tail l) = None
event_at b c t (Some (Ask query)) (phases.Exchange l) = None
event_at b c t (Some (Ask query)) (phases.Flag p d) = None
event_at b c t (Some (Ask query)) (phases.Line p d k) = None
event_at b c t (Some (Ask query)) (phases.Back p d k) = None
event_at b c t (Some (Ask query)) (phases.Fence p d) = None
event_at b c t (Some (Ask query)) (phases.Set p d) = None

abbrev pub event_by : {State Op Query Reply : Type 0} → Behaviour State Op Query Reply → CoreState State Op Query Reply
    → ℕ → Option (CoreThread State Op Query Reply) → Option Event
event_by b c t None = None
event_by b c t (Some th) = event_at b c t (next_call th) th.phase

-- the event that the next step of thread t is, if it is one
abbrev pub event_of : {State Op Query Reply : Type 0} → Behaviour State Op Query Reply → CoreState State Op Query Reply → ℕ → Option Event
event_of b c t = event_by b c t (slice_get c.threads t)

-- the frame after an event, or the same one where there is none
abbrev pub after_maybe : ℕ → Frame → Option Event → Frame
after_maybe base f None = f
after_maybe base f (Some e) = after base f e

-- the event, if there is one, may come
abbrev pub MayCome : Frame → Option Event → Type 0
MayCome f None = Unit {0}
MayCome f (Some e) = Possible f e

-- the frame that a step leads to is the one after this event, which may come
pub record IsEvent {State Op Query Reply : Type 0} (c after : CoreState State Op Query Reply) (e : Option Event) : Type 0 where
  pub frame : frame_of after ≡ after_maybe c.base (frame_of c) e
  pub may : MayCome (frame_of c) e
