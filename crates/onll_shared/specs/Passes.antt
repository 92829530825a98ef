-- What contracts see of a shared object and of a pass.
use Rattle.std.specs.Prelude.{ℕ, List, [], ◌≡◌, ◌+◌, ◌*◌, ◌≤◌, ◌⊎◌, length, take, Option, Some, None, is_some}
use Rattle.onll_model.specs.Object.{Behaviour}
use Rattle.onll_model.specs.Trace.{state_after}
use Rattle.onll_model.specs.Segment.{Segment, nodes_between}
use Rattle.onll_model.specs.Frames.{Thread, Rest, Logging, segments_of}
use Rattle.onll_pmem.specs.Pmem.{DeviceView, ToldSettled}
use Rattle.onll_log.specs.Log.{LogState, HoldsLog, free_of}
use Rattle.onll_log.specs.Torn.{log_image}
use Rattle.onll_trace.specs.declared.trace.Post.{Post}
use Rattle.onll_trace.specs.Rule.{count_of}
use Rattle.onll_trace.specs.Spots.{TraceView, SpotView, IsOf, IsLawful, base_of}

-- the trace, and the object's initial state
pub record OnllView (State : Type 0) : Type 0 where
  pub trace : TraceView
  pub first : State

-- A spot, a log, a replica with the place that it is at, how many updates the pass may order, and the place of the update whose
-- fence failed.
pub record PassView (State Device : Type 0) : Type 0 where
  pub spot : SpotView
  pub log : LogState Device
  pub replica : State
  pub at : ℕ
  pub room : ℕ
  pub broken : Option ℕ

-- between calls a thread rests, or is stuck at the place whose fence failed; the frame learns that at the next look
abbrev pub IsBetween : Option ℕ → Thread → Type 0
IsBetween None th = (th.activity ≡ Rest) × (th.stuck ≡ None)
IsBetween (Some p) th = ((n : ℕ) × (th.activity ≡ Logging p n) × (th.stuck ≡ None)) ⊎ ((th.activity ≡ Rest) × (th.stuck ≡ Some p))

-- where the device tells its fenced words, they are the log with these segments, and zeros after it
abbrev pub FencedAre : {Device : Type 0} → (Device → DeviceView) → LogState Device → List Segment → Type 0
FencedAre means log ss = ToldSettled (means log.device).told (log_image log.head ss (free_of (length (means log.device).read) ss))

-- The tie of a pass of this object. Its log as read holds the thread's segments, the pending one last, and is broken where the
-- pass is; where the device tells, what is durable is the log with the fenced segments alone. Its replica is the object after the
-- nodes up to a place that was seen.
pub record IsTied {State Op Query Reply Device : Type 0} (b : Behaviour State Op Query Reply)
    (means : Device → DeviceView) (onll : OnllView State) (pass : PassView State Device) : Type 0 where
  pub of : IsOf onll.trace pass.spot
  pub lawful : IsLawful pass.spot
  pub thread : pass.log.head.thread ≡ pass.spot.me.thread
  pub threads : pass.log.head.threads ≡ onll.trace.plan.threads
  pub format : pass.log.head.format ≡ 2
  pub entries : pass.log.entries ≡ segments_of pass.spot.me.part
  pub broken : pass.log.broken ≡ is_some pass.broken
  pub holds : HoldsLog (means pass.log.device) pass.log.head pass.log.entries pass.log.broken
  pub fenced : FencedAre means pass.log pass.spot.me.part.fenced
  pub between : IsBetween pass.broken pass.spot.me.part
  pub undrafted : pass.spot.me.draft ≡ []
  pub room : count_of pass.spot.me.thread onll.trace.plan.base + pass.room ≤ onll.trace.plan.nodes
  pub within : length pass.spot.me.own ≤ pass.room
  pub replica : pass.replica ≡ state_after b onll.first (take pass.at pass.spot.known)
  pub at : pass.at ≤ pass.spot.me.part.seen
  pub above : base_of pass.spot ≤ pass.at

-- what a pass keeps beside: the list for its walks is empty, and has room for every node
pub record IsReady (spot : SpotView) (seen : ℕ) (list : List Post) (list_room : ℕ) : Type 0 where
  pub seen_is : seen ≡ spot.me.part.seen
  pub empty : list ≡ []
  pub nodes : spot.plan.nodes * spot.plan.threads ≤ list_room

-- the replica moved forward to a place
abbrev pub caught_up : {State Op Query Reply Device : Type 0} → Behaviour State Op Query Reply → PassView State Device
    → ℕ → PassView State Device
caught_up b pass place = record pass { replica = state_after b pass.replica (nodes_between pass.spot.known pass.at place); at = place }

-- and over one operation more
abbrev pub answered : {State Op Query Reply Device : Type 0} → Behaviour State Op Query Reply → PassView State Device
    → ℕ → Op → PassView State Device
answered b pass place op = record pass {
  replica = b.next
      (state_after b pass.replica (nodes_between pass.spot.known pass.at place)) op;
  at = place + 1;
}

abbrev pub spot_of : {State Device : Type 0} → PassView State Device → SpotView
spot_of pass = pass.spot

abbrev pub log_of : {State Device : Type 0} → PassView State Device → LogState Device
log_of pass = pass.log
