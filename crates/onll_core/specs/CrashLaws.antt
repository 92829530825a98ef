use Rattle.std.specs.Prelude.{ℕ, ◌≡◌, ◌+◌, ◌≤◌, List, length, take, Some, slice_get, count_by}
use Rattle.onll_model.specs.Limits.{most_updates}
use Rattle.onll_model.specs.declared.node.Node.{Node}
use Rattle.onll_model.specs.declared.call.Call.{Call}
use Rattle.onll_model.specs.Object.{Behaviour}
use Rattle.onll_model.specs.Trace.{is_of_thread}
use Rattle.onll_model.specs.Segment.{Segment}
use Rattle.onll_model.specs.Calls.{updates_in}
use Rattle.onll_pmem.specs.Device.{IsImage}
use Rattle.onll_log.specs.declared.head.LogHead.{LogHead}
use Rattle.onll_log.specs.Torn.{Holds}
use Rattle.onll_merge.specs.Resumed.{entries_of}
use Rattle.onll_core.specs.Core.{CoreState}
use Rattle.onll_core.specs.CoreFrame.{pending_in}
use Rattle.onll_core.specs.Step.{steps_of}
use Rattle.onll_core.specs.First.{first_core, AreFirst}
use Rattle.onll_core.specs.Resumed.{resumed_core, AreResumed}
use Rattle.onll_core.specs.Reached.{IsReached}
use Rattle.onll_core.specs.Consistent.{EachCoreThread, IsConsistent}
use Rattle.onll_core.specs.Crash.{HoldsFenced, HasRest, AreImages, images_of, heads_of, Recovers, HoldAllReturned, RecoversAll}

-- Laws of a crash of the step core, whatever the object, whatever threads take steps, and whatever the crash leaves.

-- each image of each device holds the thread's log, and the entry that is being written exactly where it has that whole
abbrev pub CoreImageLaw : (State Op Query Reply : Type 0) → Type 0
CoreImageLaw State Op Query Reply = (count : ℕ) (c : CoreState State Op Query Reply) → IsConsistent count c
    → EachCoreThread c (λ t th. (image : List (List ℕ)) → IsImage th.device image → HoldsFenced th (pending_in c.trace th.phase) image)

-- behind it there is nothing that could be read as an entry: zeros, or what is left of the entry that is not whole
abbrev pub RestLaw : (State Op Query Reply : Type 0) → Type 0
RestLaw State Op Query Reply = (count : ℕ) (c : CoreState State Op Query Reply) → IsConsistent count c
    → EachCoreThread c (λ t th. (image : List (List ℕ)) (ss : List Segment) → IsImage th.device image
    → Holds image th.head ss → HasRest th.head ss image)

-- every number picks images
abbrev pub PickedLaw : (State Op Query Reply : Type 0) → Type 0
PickedLaw State Op Query Reply =
    (count : ℕ) (c : CoreState State Op Query Reply) (keep : ℕ) → IsConsistent count c
    → AreImages c.threads (images_of keep c.threads)

-- all images of a consistent core recover
abbrev pub RecoveryLaw : (State Op Query Reply : Type 0) → Type 0
RecoveryLaw State Op Query Reply =
    (count : ℕ) (c : CoreState State Op Query Reply) (images : List (List (List ℕ))) → IsConsistent count c
    → AreImages c.threads images
    → Recovers (heads_of c.threads) c images

-- new scripts, one for each of `count` threads, that with these nodes have no more updates than names
pub record AreScripts {State Op Query Reply : Type 0} (count : ℕ) (nodes : List Node)
    (scripts : List (List (Call State Op Query Reply))) : Type 0 where
  pub all_scripts : length scripts ≡ count
  pub each_script : (t : ℕ) (script : List (Call State Op Query Reply)) → slice_get scripts t ≡ Some script
      → count_by (is_of_thread t) nodes + updates_in script ≤ most_updates

-- a core can go on from what is recovered of a consistent one, with the same heads
abbrev pub GoOnLaw : (State Op Query Reply : Type 0) → Type 0
GoOnLaw State Op Query Reply =
    (count : ℕ) (c : CoreState State Op Query Reply) (images : List (List (List ℕ)))
    (scripts : List (List (Call State Op Query Reply))) → IsConsistent count c → AreImages c.threads images
    → (r : Recovers (heads_of c.threads) c images) → AreScripts count r.nodes scripts
    → AreResumed count r.nodes (heads_of c.threads) (entries_of r.logs) scripts

module _ {State Op Query Reply : Type 0} (b : Behaviour State Op Query Reply) where
  -- steps keep the heads of the logs
  abbrev pub HeadsLaw : Type 0
  HeadsLaw = (c : CoreState State Op Query Reply) (ts : List ℕ) → heads_of (steps_of b c ts).threads ≡ heads_of c.threads

  -- A crash after any steps of a consistent core: with the heads that the logs had at first, all images recover.
  abbrev pub LaterCrashLaw : Type 0
  LaterCrashLaw = (count : ℕ) (c : CoreState State Op Query Reply) (ts : List ℕ) (images : List (List (List ℕ))) → IsConsistent count c
      → AreImages (steps_of b c ts).threads images → Recovers (heads_of c.threads) (steps_of b c ts) images

  -- All images of a core that steps reach recover to a prefix that holds every returned update and all that returned reads saw.
  abbrev pub ReachedCrashLaw : Type 0
  ReachedCrashLaw = (count : ℕ) (c : CoreState State Op Query Reply) (images : List (List (List ℕ)))
      → IsReached b count c → AreImages c.threads images → RecoversAll b (heads_of c.threads) c images

  -- A crash at any step of a core leaves logs whose recovery is a prefix of the trace, and holds every returned update and
  -- all that returned reads saw: for every initial state, all heads and scripts, every list of turns, and every choice of images.
  abbrev pub CoreCrashLaw : Type 0
  CoreCrashLaw = (count : ℕ) (initial : State) (heads : List LogHead) (scripts : List (List (Call State Op Query Reply)))
      (ts : List ℕ) (images : List (List (List ℕ)))
      → AreFirst count heads scripts → AreImages (steps_of b (first_core initial heads scripts) ts).threads images
      → RecoversAll b heads (steps_of b (first_core initial heads scripts) ts) images

  -- So does a crash at any step of a core that goes on from recovered nodes, and what is recovered then begins with these.
  abbrev pub ResumedCrashLaw : Type 0
  ResumedCrashLaw = (count : ℕ) (initial : State) (base : List Node) (heads : List LogHead) (logs : List (List Segment))
      (scripts : List (List (Call State Op Query Reply))) (ts : List ℕ) (images : List (List (List ℕ)))
      → AreResumed count base heads logs scripts → AreImages (steps_of b (resumed_core initial base heads logs scripts) ts).threads images
      → (all : RecoversAll b heads (steps_of b (resumed_core initial base heads logs scripts) ts) images)
      × (take (length base) all.recovers.nodes ≡ base)

  -- what nodes hold, more nodes after them hold
  abbrev pub MoreNodesLaw : Type 0
  MoreNodesLaw = (c : CoreState State Op Query Reply) (nodes more : List Node) → take (length nodes) more ≡ nodes
      → HoldAllReturned b c nodes → HoldAllReturned b c more

  -- What is recovered after the next crash begins with what was recovered after the one before, and so holds what returned
  -- before that, too.
  abbrev pub NextCrashLaw : Type 0
  NextCrashLaw = (count : ℕ) (c : CoreState State Op Query Reply) (images next_images : List (List (List ℕ)))
      (scripts : List (List (Call State Op Query Reply))) (ts : List ℕ) → IsReached b count c
      → AreImages c.threads images
      → (all : RecoversAll b (heads_of c.threads) c images) → AreScripts count all.recovers.nodes scripts
      → AreImages (steps_of b (resumed_core c.initial all.recovers.nodes (heads_of c.threads)
      (entries_of all.recovers.logs) scripts) ts).threads next_images
      → (next : RecoversAll b (heads_of c.threads)
      (steps_of b (resumed_core c.initial all.recovers.nodes (heads_of c.threads)
      (entries_of all.recovers.logs) scripts) ts) next_images)
      × (take (length all.recovers.nodes) next.recovers.nodes ≡ all.recovers.nodes) × HoldAllReturned b c next.recovers.nodes
