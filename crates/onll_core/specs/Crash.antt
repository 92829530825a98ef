use Rattle.std.specs.Prelude.{ℕ, ◌≡◌, ◌-◌, ◌≤◌, ◌⊎◌, List, [], ◌∷◌, length, map, take, Option, Some, None, Ok, slice_get}
use Rattle.std.specs.List.{AllByRecursion}
use Rattle.onll_model.specs.declared.node.Node.{Node}
use Rattle.onll_model.specs.declared.call.Call.{Call}
use Rattle.onll_model.specs.declared.call.Call.TheVariants.{Update, Ask}
use Rattle.onll_model.specs.Object.{Behaviour}
use Rattle.onll_model.specs.Trace.{node_at, reply_after, answer_after}
use Rattle.onll_model.specs.Segment.{Segment}
use Rattle.onll_pmem.specs.Device.{IsImage, image_of, zero_lines}
use Rattle.onll_log.specs.declared.head.LogHead.{LogHead}
use Rattle.onll_log.specs.Encoding.{entry_lines}
use Rattle.onll_log.specs.Log.{placed_lines}
use Rattle.onll_log.specs.Grammar.{Content, content_of}
use Rattle.onll_log.specs.Torn.{Holds, TornOrWhole}
use Rattle.onll_log.specs.Remains.{unused, HasRemains}
use Rattle.onll_merge.specs.Merge.{merge, top_of}
use Rattle.onll_core.specs.declared.returned.Returned.{Returned}
use Rattle.onll_core.specs.Core.{CoreThread, CoreState}
use Rattle.onll_core.specs.CoreFrame.{fenced_entries}
use Rattle.onll_core.specs.Consistent.{EachCoreThread}

-- What a crash leaves of a core, and what is recovered from it.

-- the fenced lines of a thread's device with the whole of this segment's entry in place
abbrev pub with_entry : {State Op Query Reply : Type 0} → CoreThread State Op Query Reply → Segment → List (List ℕ)
with_entry th s = placed_lines th.device.fenced th.used (entry_lines th.head th.logged s)

-- What an image of a thread's device holds: its head and the fenced entries; and where a segment is being logged, its entry
-- after them exactly where the image is those lines with the whole of it.
abbrev pub HoldsFenced : {State Op Query Reply : Type 0} → CoreThread State Op Query Reply → Option Segment → List (List ℕ) → Type 0
HoldsFenced th None image = Holds image th.head (fenced_entries th.head th.device)
HoldsFenced th (Some s) image = TornOrWhole th.head (fenced_entries th.head th.device) s (with_entry th s) image

-- Behind the entries that an image holds there are zeros, or what is left of an entry that isn't whole.
abbrev pub HasRest : LogHead → List Segment → List (List ℕ) → Type 0
HasRest head ss image = ((n : ℕ) × (unused head ss image ≡ zero_lines n)) ⊎ HasRemains head ss image

-- what a crash may leave: one image for each thread's device, whatever the others are
abbrev pub AreImages : {State Op Query Reply : Type 0} → List (CoreThread State Op Query Reply) → List (List (List ℕ)) → Type 0
AreImages [] [] = Unit {0}
AreImages (th ∷ ths) (image ∷ images) = IsImage th.device image × AreImages ths images
AreImages ths images = ⊥

-- the images that this number picks
abbrev pub images_of : {State Op Query Reply : Type 0} → ℕ → List (CoreThread State Op Query Reply) → List (List (List ℕ))
images_of keep ths = map (λ th. image_of th.device keep) ths

-- the heads of the threads' logs
abbrev pub heads_of : {State Op Query Reply : Type 0} → List (CoreThread State Op Query Reply) → List LogHead
heads_of ths = map (λ th. th.head) ths

-- these nodes are the trace's at each place up to this one
pub record HasUpTo (trace nodes : List Node) (place : ℕ) : Type 0 where
  pub long : place ≤ length nodes
  pub same : take place nodes ≡ take place trace

-- Each image is a log, and the logs recover to a front of the trace, which has the base and all up to the place of each
-- returned call.
pub record Recovers {State Op Query Reply : Type 0} (heads : List LogHead) (c : CoreState State Op Query Reply)
    (images : List (List (List ℕ))) : Type 0 where
  pub logs : List Content
  pub contents : map content_of images ≡ map Some logs
  pub nodes : List Node
  pub recovered : merge heads logs ≡ Ok nodes
  pub front : nodes ≡ take (top_of logs) c.trace
  pub all_places : length nodes ≡ top_of logs
  pub from_base : HasUpTo c.trace nodes c.base
  pub each_returned : EachCoreThread c
      (λ t th. AllByRecursion (λ (r : Returned State Op Query Reply). HasUpTo c.trace nodes r.place) th.returned)

-- These nodes hold a returned update of thread t: its node stands at its place, and its reply is the object's after the
-- nodes below.
pub record HoldsUpdate {State Op Query Reply : Type 0} (b : Behaviour State Op Query Reply) (initial : State) (t : ℕ)
    (nodes : List Node) (op : Op) (r : Returned State Op Query Reply) : Type 0 where
  pub node : Node
  pub here : node_at nodes r.place ≡ Some node
  pub own : node.thread ≡ t
  pub row_is : node.row ≡ b.row_of op
  pub reply_is : r.reply ≡ reply_after b initial (take (r.place - 1) nodes) op

-- They hold all that a returned read saw: its answer is the object's after the nodes up to its place.
pub record HoldsRead {State Op Query Reply : Type 0} (b : Behaviour State Op Query Reply) (initial : State)
    (nodes : List Node) (query : Query) (r : Returned State Op Query Reply) : Type 0 where
  pub all_there : r.place ≤ length nodes
  pub answer_is : r.reply ≡ answer_after b initial (take r.place nodes) query

abbrev pub HoldsCall : {State Op Query Reply : Type 0} → Behaviour State Op Query Reply → State → ℕ → List Node
    → Call State Op Query Reply → Returned State Op Query Reply → Type 0
HoldsCall b initial t nodes (Update op) r = HoldsUpdate b initial t nodes op r
HoldsCall b initial t nodes (Ask query) r = HoldsRead b initial nodes query r

-- each returned call of each thread is one of its script, the one of its number, and is held by these nodes
abbrev pub HoldAllReturned : {State Op Query Reply : Type 0} → Behaviour State Op Query Reply
    → CoreState State Op Query Reply → List Node → Type 0
HoldAllReturned {State} {Op} {Query} {Reply} b c nodes =
    EachCoreThread c (λ t th. (i : ℕ) (r : Returned State Op Query Reply) → slice_get th.returned i ≡ Some r
    → (call : Call State Op Query Reply) × (slice_get th.script i ≡ Some call) × HoldsCall b c.initial t nodes call r)

-- The images recover to a prefix of the trace that holds every returned update and all that returned reads saw.
pub record RecoversAll {State Op Query Reply : Type 0} (b : Behaviour State Op Query Reply) (heads : List LogHead)
    (c : CoreState State Op Query Reply) (images : List (List (List ℕ))) : Type 0 where
  pub recovers : Recovers heads c images
  pub calls : HoldAllReturned b c recovers.nodes

-- So do all images that a crash may leave.
abbrev pub RecoversAlways : {State Op Query Reply : Type 0} → Behaviour State Op Query Reply → List LogHead
    → CoreState State Op Query Reply → Type 0
RecoversAlways b heads c = (images : List (List (List ℕ))) → AreImages c.threads images → RecoversAll b heads c images
