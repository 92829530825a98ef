-- What works say that they took out of an object and put in, over a service and over whatever a crash leaves of it.
use Rattle.std.specs.Prelude.{ℕ, List, ◌+◌, ◌≤◌, Result, Ok, Err}
use Rattle.onll_model.specs.declared.call.Call.{Call}
use Rattle.onll_model.specs.declared.call.CallEnd.{CallEnd}
use Rattle.onll_model.specs.declared.node.Node.{Node}
use Rattle.onll_model.specs.Object.{Behaviour}
use Rattle.onll_model.specs.Trace.{state_after}
use Rattle.onll_log.specs.declared.head.LogHead.{LogHead}
use Rattle.onll_pmem.specs.Pmem.{DeviceView}
use Rattle.onll_outside.specs.Views.{StoreView}
use Rattle.onll_run.specs.Ended.{ThreadRun}
use Rattle.onll_shared.specs.Passes.{OnllView, PassView}
use Rattle.onll_open.specs.declared.keeping.CloseFault.{CloseFault}
use Rattle.onll_open.specs.declared.keeping.CloseFault.TheVariants.{NoMemory, NotKept}
use Rattle.onll_balance.specs.Measure.{Measure, back_by, out_by, tally_of}
use Rattle.onll_serve.specs.declared.service.Served.{Served}
use Rattle.onll_serve.specs.Lives.{IsLifeFront, generation_of}
use Rattle.onll_serve.specs.Serving.{ClosedSo, HasHistory, HasServed}
use Rattle.onll_keeps.specs.Tallies.{sum_of}

module _ {State Op Query Reply Device : Type 0} (b : Behaviour State Op Query Reply) (means : Device → DeviceView)
    (onll : OnllView State) (fact : List Node → Type 0) where
  -- the fact is so of all that was done, and of whatever a crash leaves of it
  pub record IsSoOf (runs : List (ThreadRun State Op Query Reply Device)) (h : HasHistory b means onll runs) : Type 0 where
    pub now : fact h.closed.ended.frame.trace
    pub crash : (nodes : List Node) → IsLifeFront (generation_of b means onll runs h) nodes → fact nodes

  -- so it is where the object was closed
  abbrev pub IsSoOnceClosed : (runs : List (ThreadRun State Op Query Reply Device)) (afters : List (PassView State Device)) (logs : List ℕ)
      (old new : StoreView) (kept : Result (Unit {0}) (CloseFault State Device Op Query Reply))
      → ClosedSo b means onll runs afters logs old new kept → Type 0
  IsSoOnceClosed runs afters logs old new (Ok x) c = IsSoOf runs c.0
  IsSoOnceClosed runs afters logs old new (Err (NotKept fault)) c = IsSoOf runs c.0
  IsSoOnceClosed runs afters logs old new (Err (NoMemory unclosed)) c = Unit {0}

module _ {State Op Query Reply Work Answer : Type 0} {b : Behaviour State Op Query Reply} (m : Measure b)
    (promise : Work → Work → List (Call State Op Query Reply) → List (CallEnd State Op Query Reply) → Answer → Type 0) where
  -- By its promise a work's answer says no more than its calls took out, and no less than they put in.
  pub record Account : Type 0 where
    pub out : Answer → ℕ
    pub back : Answer → ℕ
    pub outs : (old new : Work) (calls : List (Call State Op Query Reply)) (ends : List (CallEnd State Op Query Reply)) (answer : Answer)
        → promise old new calls ends answer → out answer ≤ tally_of (out_by m.out) calls ends
    pub backs : (old new : Work) (calls : List (Call State Op Query Reply)) (ends : List (CallEnd State Op Query Reply)) (answer : Answer)
        → promise old new calls ends answer → tally_of (back_by m.back m.most) calls ends ≤ back answer

  -- What answers say was taken out, and what these nodes leave, are no more than what the base left and what they say was put in.
  abbrev pub IsEven : Account → State → List Node → List Answer → List Node → Type 0
  IsEven a first base answers nodes = sum_of a.out answers + m.left (state_after b first nodes)
      ≤ m.left (state_after b first base) + sum_of a.back answers

  module _ {Device : Type 0} (means : Device → DeviceView) where
    -- In whatever way works were served, so it is, from what the files held.
    abbrev pub ServesEvenly : Account → StoreView → List ℕ → List LogHead → State → List Work → StoreView
        → Served State Device Work Answer Op Query Reply → Type 0
    ServesEvenly a store logs heads state works new served =
        (h : HasServed b means promise store logs heads state works new served)
        → IsSoOnceClosed b means h.onll (IsEven a state h.found.nodes served.answers.items)
        h.worked.ended.runs h.worked.afters logs h.opened new served.kept h.worked.closed
