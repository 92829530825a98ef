use Rattle.std.specs.Prelude.{ℕ, false, true, ◌≡◌, ◌+◌, ◌*◌, ◌≤◌, ◌↔◌, List, [], length, count_by, map, Option, Some, None, slice_get}
use Rattle.onll_model.specs.Limits.{most_threads, most_updates}
use Rattle.std.specs.List.{AllByRecursion}
use Rattle.onll_model.specs.declared.node.Node.{Node}
use Rattle.onll_model.specs.declared.call.Call.{Call}
use Rattle.onll_model.specs.declared.call.CallEnd.{CallEnd}
use Rattle.onll_model.specs.declared.call.CallEnd.TheVariants as ends
use Rattle.onll_model.specs.Object.{Behaviour}
use Rattle.onll_model.specs.Trace.{node_at, is_of_thread, state_after, IsNumbered}
use Rattle.onll_model.specs.Legal.{EachEnd, IsLegalThread, IsLegal}
use Rattle.onll_model.specs.Frames.{is_available}
use Rattle.onll_log.specs.Encoding.{CanHold}
use Rattle.onll_locked.specs.Locked.{LockedThread, LockedState, script_of, ends_of, failed_at, own_places, last_in, updates_left}

-- What the object under one lock keeps.

-- the outcomes and the trace are a legal report
abbrev pub IsLegalLocked : {State Op Query Reply : Type 0} → Behaviour State Op Query Reply → LockedState State Op Query Reply → Type 0
IsLegalLocked b c = IsLegal b c.initial [] (map script_of c.threads) c.trace (map ends_of c.threads)

-- each thread has this fact, with its number
abbrev pub EachLocked : {State Op Query Reply : Type 0} → LockedState State Op Query Reply
    → (ℕ → LockedThread State Op Query Reply → Type 0) → Type 0
EachLocked {State = State} {Op = Op} {Query = Query} {Reply = Reply} c P =
    (t : ℕ) (th : LockedThread State Op Query Reply) → slice_get c.threads t ≡ Some th → P t th

-- a node's flag is unset exactly where it is its thread's update whose fence failed
abbrev pub FlagsTell : {State Op Query Reply : Type 0} → LockedState State Op Query Reply → Type 0
FlagsTell c = EachLocked c (λ t th. (p : ℕ) (x : Node) → node_at c.trace p ≡ Some x → x.thread ≡ t
    → (is_available c.flags p ≡ false) ↔ (failed_at th.ends ≡ Some p))

-- The counts of a thread agree: it has as many nodes as updates with a place, and these and the updates that are left are
-- within the limit.
pub record AgreeCounts {State Op Query Reply : Type 0} (trace : List Node) (t : ℕ) (th : LockedThread State Op Query Reply) : Type 0 where
  pub nodes : length (own_places th) ≡ count_by (is_of_thread t) trace
  pub updates : length (own_places th) + updates_left th ≤ most_updates

-- a call was answered at a place of the trace
abbrev pub IsWithin : {State Op Query Reply : Type 0} → ℕ → Call State Op Query Reply → CallEnd State Op Query Reply → Type 0
IsWithin n c (ends.Answered reply place) = place ≤ n
IsWithin n c ends.Running = Unit {0}
IsWithin n c (ends.Ordered place) = Unit {0}
IsWithin n c (ends.FenceFailed place) = Unit {0}
IsWithin n c (ends.Broken place) = Unit {0}

-- what holds of a thread beside
pub record KeepsThread {State Op Query Reply : Type 0} (b : Behaviour State Op Query Reply)
    (c : LockedState State Op Query Reply) (t : ℕ) (th : LockedThread State Op Query Reply) : Type 0 where
  pub legal : IsLegalThread b c.initial 0 c.trace t th.script (ends_of th)
  pub within : EachEnd (IsWithin (length c.trace)) th.script (ends_of th)
  pub counts : AgreeCounts c.trace t th
  -- the last update is flagged, unless its fence failed, and then it is the thread's last node
  pub settled : failed_at th.ends ≡ None → is_available c.flags (last_in 0 (own_places th)) ≡ true
  pub last : (p : ℕ) → failed_at th.ends ≡ Some p → (q : ℕ) (x : Node) → node_at c.trace q ≡ Some x → x.thread ≡ t → q ≤ p

-- with this room for nodes and for flags, and the object as it is now
pub record KeepsLocked {State Op Query Reply : Type 0} (b : Behaviour State Op Query Reply) (nodes flags : ℕ)
    (object : State) (c : LockedState State Op Query Reply) : Type 0 where
  pub state : object ≡ state_after b c.initial c.trace
  pub few : length c.threads ≤ most_threads
  pub numbered : IsNumbered c.trace
  pub fits : AllByRecursion (CanHold (length c.threads)) c.trace
  pub as_many : length c.flags ≡ length c.trace
  pub flags_tell : FlagsTell c
  pub threads : EachLocked c (KeepsThread b c)
  pub nodes_room : most_updates * length c.threads ≤ nodes
  pub flags_room : most_updates * length c.threads ≤ flags

-- a thread's counters, and room for all its outcomes
pub record KeepsProgress {State Op Query Reply : Type 0} (most ordered : ℕ) (failed : Option ℕ)
    (th : LockedThread State Op Query Reply) : Type 0 where
  pub room : length th.script ≤ most
  pub ordered_is : ordered ≡ length (own_places th)
  pub failed_is : failed ≡ failed_at th.ends
