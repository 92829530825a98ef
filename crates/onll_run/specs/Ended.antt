-- A run that has ended: what each thread made, and what is so of all of it once the object is closed.
use Rattle.std.specs.Prelude.{ℕ, ◌+◌, ◌≡◌, ◌≤◌, ◌↔◌, true, false, List, [], ◌∷◌, length, map}
use Rattle.onll_model.specs.declared.call.Call.{Call}
use Rattle.onll_model.specs.declared.call.CallEnd.{CallEnd}
use Rattle.onll_model.specs.Object.{Behaviour}
use Rattle.onll_model.specs.Frames.{is_available}
use Rattle.onll_model.specs.Legal.{IsLegal}
use Rattle.onll_pmem.specs.Pmem.{DeviceView}
use Rattle.onll_log.specs.Log.{LogState}
use Rattle.onll_trace.specs.declared.trace.Ended.{Ended}
use Rattle.onll_shared.specs.Passes.{OnllView, PassView}
use Rattle.onll_shared.specs.Crash.{head_of}
use Rattle.onll_shared.specs.Ends.{HasClosed}
use Rattle.onll_run.specs.Workers.{HasWorked}
use Rattle.onll_run.specs.Left.{Base, ScriptPlan, AfterRun, LogLeft, AllOver, AlwaysRecovers, failed_at}

-- one thread of a run: its script, what became of its calls, its pass before and after
pub record ThreadRun (State Op Query Reply Device : Type 0) : Type 0 where
  pub script : List (Call State Op Query Reply)
  pub ends : List (CallEnd State Op Query Reply)
  pub before : PassView State Device
  pub after : PassView State Device

abbrev pub script_of : {State Op Query Reply Device : Type 0} → ThreadRun State Op Query Reply Device → List (Call State Op Query Reply)
script_of r = r.script

abbrev pub ends_of : {State Op Query Reply Device : Type 0} → ThreadRun State Op Query Reply Device → List (CallEnd State Op Query Reply)
ends_of r = r.ends

abbrev pub after_of : {State Op Query Reply Device : Type 0} → ThreadRun State Op Query Reply Device → PassView State Device
after_of r = r.after

-- what a log is at the end
abbrev pub log_left : {Device : Type 0} → (Device → DeviceView) → LogState Device → LogLeft
log_left means log = record { head = log.head; entries = log.entries; fences = log.fences; read = (means log.device).read }

module _ {State Op Query Reply Device : Type 0} (b : Behaviour State Op Query Reply) (means : Device → DeviceView)
    (onll : OnllView State) where
  -- each thread has done its script, the first of them thread t
  abbrev pub HaveRun : ℕ → List (ThreadRun State Op Query Reply Device) → Type 0
  HaveRun t [] = Unit {0}
  HaveRun t (r ∷ rs) =
      (r.before.spot.me.thread ≡ t) × HasWorked b means onll r.script r.ends r.before r.after × HaveRun (t + 1) rs

  -- what was run over this base, and what it left
  abbrev pub plan_of : Base → List (ThreadRun State Op Query Reply Device) → ScriptPlan State Op Query Reply
  plan_of base runs = record { state = onll.first; scripts = map script_of runs; heads = map head_of (map after_of runs); base = base }

  abbrev pub left_of : (trace : List Ended) (runs : List (ThreadRun State Op Query Reply Device))
      → HasClosed onll.trace (map after_of runs) trace → AfterRun State Op Query Reply
  left_of trace runs closed = record {
    ends = map ends_of runs;
    nodes = closed.ended.frame.trace;
    flags = closed.ended.frame.flags;
    logs = map (λ (r : ThreadRun State Op Query Reply Device). log_left means r.after.log) runs;
  }

  -- A run is one legal history in which each call is over; a node above the base has its flag unset exactly where its update's fence
  -- failed; and whatever images of the devices a crash may leave, they recover to a front of the trace.
  pub record IsWholeRun (base : Base) (trace : List Ended) (runs : List (ThreadRun State Op Query Reply Device))
      (closed : HasClosed onll.trace (map after_of runs) trace) : Type 0 where
    pub legal : IsLegal b onll.first base.nodes (map script_of runs) closed.ended.frame.trace (map ends_of runs)
    pub over : AllOver (map script_of runs) (map ends_of runs)
    pub flags : (p : ℕ) → 1 ≤ p → p ≤ length closed.ended.frame.trace
        → (is_available closed.ended.frame.flags p ≡ false) ↔ (failed_at (map ends_of runs) p ≡ true)
    pub crash : AlwaysRecovers b (plan_of base runs) (left_of trace runs closed)

  -- What threads that each did a script made is such a run, once the object is closed over all their passes.
  abbrev pub RunLaw : Type 0
  RunLaw = (base : Base) (trace : List Ended) (runs : List (ThreadRun State Op Query Reply Device)) → HaveRun 0 runs
      → base.nodes ≡ onll.trace.plan.base → length runs ≡ onll.trace.plan.threads
      → (closed : HasClosed onll.trace (map after_of runs) trace) → IsWholeRun base trace runs closed
