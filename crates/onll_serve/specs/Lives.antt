-- An object over generations of threads, each of which goes on from what the one before left.
use Rattle.std.specs.Prelude.{ℕ, List, [], ◌∷◌, ◌≡◌, ◌≤◌, length, map, take}
use Rattle.std.specs.List.{AllByRecursion}
use Rattle.onll_model.specs.declared.node.Node.{Node}
use Rattle.onll_model.specs.declared.call.Call.{Call}
use Rattle.onll_model.specs.declared.call.CallEnd.{CallEnd}
use Rattle.onll_model.specs.Object.{Behaviour}
use Rattle.onll_pmem.specs.Pmem.{DeviceView}
use Rattle.onll_shared.specs.Passes.{OnllView}
use Rattle.onll_run.specs.Ended.{ThreadRun, ends_of, left_of, plan_of, script_of}
use Rattle.onll_run.specs.Left.{ImagesRecover, AreLeftImages}
use Rattle.onll_run.specs.Outcomes.{StandsIn}
use Rattle.onll_serve.specs.Serving.{HasHistory, base_of}

-- the nodes from which threads went on, the calls of each, the trace that they left, and what became of each thread's calls
pub record ServedGeneration (State Op Query Reply : Type 0) : Type 0 where
  pub base : List Node
  pub scripts : List (List (Call State Op Query Reply))
  pub trace : List Node
  pub ends : List (List (CallEnd State Op Query Reply))

-- each answered call stands at one of the first places, as many as these
abbrev pub AllStandIn : {State Op Query Reply : Type 0} → ℕ → List (List (CallEnd State Op Query Reply)) → Type 0
AllStandIn {State} {Op} {Query} {Reply} places ends =
    AllByRecursion (λ (es : List (CallEnd State Op Query Reply)). AllByRecursion (StandsIn places) es) ends

-- The nodes are a front of the generation's trace, with its base and each answered call. A crash leaves such.
pub record IsLifeFront {State Op Query Reply : Type 0} (g : ServedGeneration State Op Query Reply) (nodes : List Node) : Type 0 where
  pub front : take (length nodes) g.trace ≡ nodes
  pub from_base : length g.base ≤ length nodes
  pub answered : AllStandIn (length nodes) g.ends

abbrev pub BeginsWithBase : {State Op Query Reply : Type 0} → ServedGeneration State Op Query Reply → Type 0
BeginsWithBase g = take (length g.base) g.trace ≡ g.base

-- Each generation went on from a front of the one before, and the last one left these nodes.
abbrev pub IsLife : {State Op Query Reply : Type 0} → List (ServedGeneration State Op Query Reply) → List Node → Type 0
IsLife [] nodes = Unit {0}
IsLife (g ∷ []) nodes = BeginsWithBase g × IsLifeFront g nodes
IsLife (g ∷ (h ∷ more)) nodes = BeginsWithBase g × IsLifeFront g h.base × IsLife (h ∷ more) nodes

-- each answered call of the generation stands in these nodes, which are as its trace up to there
pub record StillStands {State Op Query Reply : Type 0} (nodes : List Node) (g : ServedGeneration State Op Query Reply) : Type 0 where
  pub places : ℕ
  pub answered : AllStandIn places g.ends
  pub within : places ≤ length nodes
  pub same : take places nodes ≡ take places g.trace

-- Whatever the newest generation left, each answered call of every generation stands in it.
abbrev pub LifeLaw : (State Op Query Reply : Type 0) → Type 0
LifeLaw State Op Query Reply = (life : List (ServedGeneration State Op Query Reply)) (nodes : List Node) → IsLife life nodes
    → AllByRecursion (StillStands nodes) life

module _ {State Op Query Reply Device : Type 0} (b : Behaviour State Op Query Reply) (means : Device → DeviceView)
    (onll : OnllView State) (runs : List (ThreadRun State Op Query Reply Device)) (h : HasHistory b means onll runs) where
  -- what threads did at an object that was closed, as a generation
  abbrev pub generation_of : ServedGeneration State Op Query Reply
  generation_of = record {
    base = onll.trace.plan.base;
    scripts = map script_of runs;
    trace = h.closed.ended.frame.trace;
    ends = map ends_of runs;
  }

  -- whatever images of the devices a crash leaves at its end, they recover to a front of it
  abbrev pub LeavesFronts : Type 0
  LeavesFronts = BeginsWithBase generation_of
      × ((images : List (List (List ℕ))) → AreLeftImages (left_of b means onll h.trace runs h.closed).logs (map ends_of runs) images
      → (r : ImagesRecover b (plan_of b means onll (base_of onll) runs) (left_of b means onll h.trace runs h.closed) images)
      × IsLifeFront generation_of r.nodes)
