-- That what was answered of locks stands in the one history of all, and in whatever a crash leaves of it.
use Rattle.std.specs.Prelude.{ℕ, List, Result, Ok, Err, codes, map}
use Rattle.onll_log.specs.declared.head.LogHead.{LogHead}
use Rattle.onll_model.specs.declared.call.Call.{Call}
use Rattle.onll_model.specs.declared.call.CallEnd.{CallEnd}
use Rattle.onll_model.specs.declared.node.Node.{Node}
use Rattle.onll_outside.specs.Views.{StoreView}
use Rattle.onll_pmem.specs.Pmem.{DeviceView}
use Rattle.onll_rows.specs.Sketch.{behaviour_of}
use Rattle.onll_run.specs.Ended.{ThreadRun, ends_of, script_of}
use Rattle.onll_shared.specs.Passes.{OnllView, PassView}
use Rattle.onll_open.specs.Heads.{heads_of}
use Rattle.onll_open.specs.declared.keeping.CloseFault.{CloseFault}
use Rattle.onll_open.specs.declared.keeping.CloseFault.TheVariants.{NoMemory, NotKept}
use Rattle.onll_serve.specs.declared.service.Served.{Served}
use Rattle.onll_serve.specs.Lives.{IsLifeFront, generation_of}
use Rattle.onll_serve.specs.Serving.{ClosedSo, HasHistory, HasServed}
use Rattle.onll_locks.specs.declared.clerk.Clerk.{Clerk}
use Rattle.onll_locks.specs.declared.clerk.Ending.{Ending}
use Rattle.onll_locks.specs.declared.locks.Locks.{Locks}
use Rattle.onll_locks.specs.declared.locks.LockOp.{LockOp}
use Rattle.onll_locks.specs.declared.locks.LockQuery.{LockQuery}
use Rattle.onll_locks.specs.declared.locks.LockReply.{LockReply}
use Rattle.onll_locks.specs.Laws.{EachStands}
use Rattle.onll_locks.specs.Locks.{locks, none_granted}

-- the heads of the logs of so many threads
abbrev pub lock_heads : ℕ → List LogHead
lock_heads threads = heads_of 4 (codes "locks 16") threads

-- what one thread did with locks
abbrev pub LockRun : Type 0 → Type 0
LockRun Device = ThreadRun Locks LockOp LockQuery LockReply Device

-- a clerk promises nothing of its calls
abbrev pub promises_nothing : {R : Type 0} → Clerk R → Clerk R → List (Call Locks LockOp LockQuery LockReply)
    → List (CallEnd Locks LockOp LockQuery LockReply) → Ending → Type 0
promises_nothing old new calls ends ending = Unit {0}

module _ {Device : Type 0} (means : Device → DeviceView) (onll : OnllView Locks) where
  -- Each update that was answered stands at its place with its reply, in the trace that begins with all that the files held; and in
  -- whatever a crash leaves of it.
  pub record AllAnswersStand (runs : List (LockRun Device)) (h : HasHistory (behaviour_of locks) means onll runs) : Type 0 where
    pub now : EachStands (behaviour_of locks) onll.first h.closed.ended.frame.trace (map script_of runs) (map ends_of runs)
    pub crash : (nodes : List Node) → IsLifeFront (generation_of (behaviour_of locks) means onll runs h) nodes
        → EachStands (behaviour_of locks) onll.first nodes (map script_of runs) (map ends_of runs)

  -- so it is where the locks were closed
  abbrev pub StandClosed : (runs : List (LockRun Device)) (afters : List (PassView Locks Device)) (logs : List ℕ) (old new : StoreView)
      (kept : Result (Unit {0}) (CloseFault Locks Device LockOp LockQuery LockReply))
      → ClosedSo (behaviour_of locks) means onll runs afters logs old new kept → Type 0
  StandClosed runs afters logs old new (Ok x) c = AllAnswersStand runs c.0
  StandClosed runs afters logs old new (Err (NotKept fault)) c = AllAnswersStand runs c.0
  StandClosed runs afters logs old new (Err (NoMemory unclosed)) c = Unit {0}

-- In whatever way locks were served, what was answered stands.
abbrev pub AnswersStand : {R Device : Type 0} → (Device → DeviceView) → StoreView → List ℕ → List LogHead → List (Clerk R)
    → StoreView → Served Locks Device (Clerk R) Ending LockOp LockQuery LockReply → Type 0
AnswersStand means store logs heads clerks new served =
    (h : HasServed (behaviour_of locks) means promises_nothing store logs heads none_granted clerks new served)
    → StandClosed means h.onll h.worked.ended.runs h.worked.afters logs h.opened new served.kept h.worked.closed
