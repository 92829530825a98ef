use Rattle.std.specs.Prelude.{ℕ, ◌≡◌, ◌+◌, ◌*◌, ◌<◌, ◌≤◌, List, [], length, count_by, take, Option, Some, slice_get}
use Rattle.onll_model.specs.Limits.{most_updates}
use Rattle.onll_model.specs.declared.node.Node.{Node}
use Rattle.onll_model.specs.declared.call.Call.TheVariants.{Update}
use Rattle.onll_model.specs.Object.{Behaviour}
use Rattle.onll_model.specs.Trace.{node_at, is_of_thread, state_after}
use Rattle.onll_model.specs.Segment.{nodes_between}
use Rattle.onll_model.specs.Frames.{open_in}
use Rattle.onll_core.specs.declared.phase.Phase.{Phase}
use Rattle.onll_core.specs.declared.local.Local.{Local}
use Rattle.onll_core.specs.Core.{CoreThread, CoreState}
use Rattle.onll_core.specs.CoreFrame.{seen_in, activity_in}
use Rattle.onll_core.specs.Step.{next_call}
use Rattle.onll_core.specs.Consistent.{EachCoreThread, IsConsistent}
use Rattle.onll_core.specs.Reached.{IsReached}

-- What the code of a core keeps beside its state: room for all that grows, and each thread's replica.

-- A thread's device never fails, and is as long as a device can be at most; the thread has room for all that its calls
-- return.
pub record KeepsWorker {State Op Query Reply : Type 0} (failing : List ℕ) (most : ℕ) (th : CoreThread State Op Query Reply) : Type 0 where
  pub never_fails : failing ≡ []
  pub room : length th.script ≤ most
  pub lines : length th.device.read ≤ 1000000
  pub fences : th.before ≤ th.device.fences
  pub few : th.device.fences ≤ th.logged + 1
  pub entries : th.logged < th.used
  pub within : th.used ≤ length th.device.read

-- the place of the own node that isn't flagged yet
abbrev pub own_place : Phase → Option ℕ
own_place phase = open_in (activity_in phase)

-- at this place stands the operation
pub record HoldsOp {State Op Query Reply : Type 0} (b : Behaviour State Op Query Reply) (trace : List Node) (p : ℕ) (op : Op) : Type 0 where
  pub node : Node
  pub here : node_at trace p ≡ Some node
  pub row : b.op_at node.row ≡ Some op

-- an update that has a place holds its operation there
abbrev pub HoldOwn : {State Op Query Reply : Type 0} → Behaviour State Op Query Reply → CoreState State Op Query Reply → Type 0
HoldOwn b c = EachCoreThread c (λ t th. (op : _) (p : ℕ) → next_call th ≡ Some (Update op) → own_place th.phase ≡ Some p
    → HoldsOp b c.trace p op)

-- A thread's replica is the object after the nodes up to its place, which the thread has seen, and it counts the thread's nodes.
pub record IsLocal {State Op Query Reply : Type 0} (b : Behaviour State Op Query Reply)
    (c : CoreState State Op Query Reply) (t : ℕ) (th : CoreThread State Op Query Reply)
    (l : Local State Op Query Reply) : Type 0 where
  pub state : l.object ≡ state_after b c.initial (take l.place c.trace)
  pub seen : l.place ≤ seen_in c.base th.returned
  pub linked : l.linked ≡ count_by (is_of_thread t) c.trace

-- the replica was moved forward to a place
abbrev pub moved : {State Op Query Reply : Type 0} → Behaviour State Op Query Reply → Local State Op Query Reply
    → List Node → ℕ → Local State Op Query Reply
moved b l trace place = record { object = state_after b l.object (nodes_between trace l.place place); place = place; linked = l.linked }

abbrev pub AreLocal : {State Op Query Reply : Type 0} → Behaviour State Op Query Reply → CoreState State Op Query Reply
    → List (Local State Op Query Reply) → Type 0
AreLocal b c locals = EachCoreThread c (λ t th. (l : Local _ _ _ _) → slice_get locals t ≡ Some l → IsLocal b c t th l)

-- what a core keeps, with this room for nodes and for flags
pub record KeepsCore {State Op Query Reply : Type 0} (b : Behaviour State Op Query Reply) (nodes flags : ℕ)
    (locals : List (Local State Op Query Reply)) (c : CoreState State Op Query Reply) : Type 0 where
  pub consistent : IsConsistent (length c.threads) c
  pub reached : IsReached b (length c.threads) c
  pub own : HoldOwn b c
  pub nodes_room : most_updates * length c.threads ≤ nodes
  pub flags_room : most_updates * length c.threads ≤ flags
  pub as_many : length locals ≡ length c.threads
  pub replicas : AreLocal b c locals
