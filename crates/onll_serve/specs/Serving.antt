-- What a service did: an object was opened over files, works were done at it in threads, and it was closed.
use Rattle.std.specs.Prelude.{ℕ, Bool, false, List, [], ◌∷◌, ◌≡◌, ◌<◌, ◌≤◌, ◌==◌, ◌||◌, length, map, Result, Ok, Err, None, is_some}
use Rattle.std.specs.List.{AllByRecursion}
use Rattle.onll_model.specs.Limits.{most_threads}
use Rattle.onll_model.specs.declared.call.Call.{Call}
use Rattle.onll_model.specs.declared.call.CallEnd.{CallEnd}
use Rattle.onll_model.specs.Object.{Behaviour}
use Rattle.onll_pmem.specs.Pmem.{DeviceView}
use Rattle.onll_log.specs.declared.head.LogHead.{LogHead}
use Rattle.onll_log.specs.Log.{LogState}
use Rattle.onll_merge.specs.Recovered.{Recovered}
use Rattle.onll_outside.specs.Views.{StoreView, SameFiles, SameFaults}
use Rattle.onll_trace.specs.declared.trace.Ended.{Ended}
use Rattle.onll_shared.specs.Ends.{HasClosed}
use Rattle.onll_shared.specs.Found.{head_held}
use Rattle.onll_shared.specs.Passes.{OnllView, PassView, log_of}
use Rattle.onll_shared.specs.Starts.{AreLogs, HasBegun}
use Rattle.onll_run.specs.Ended.{ThreadRun, IsWholeRun, after_of}
use Rattle.onll_run.specs.Left.{Base}
use Rattle.onll_open.specs.declared.keeping.CloseFault.{CloseFault}
use Rattle.onll_open.specs.declared.keeping.CloseFault.TheVariants.{NoMemory, NotKept}
use Rattle.onll_open.specs.Files.{SameCounts}
use Rattle.onll_open.specs.Keeping.{AreKept, AreWhole, KeepFails, devices_in}
use Rattle.onll_open.specs.Locking.{AreFree, OpenLocks}
use Rattle.onll_open.specs.Opening.{CannotOpen, GivesRoom, IsShortLog, NothingLost, OpenFaults, written_at}
use Rattle.onll_threads.specs.Ended.{HaveEnded}
use Rattle.onll_serve.specs.declared.fault.NotServed.{NotServed}
use Rattle.onll_serve.specs.declared.fault.ServeFault.{ServeFault}
use Rattle.onll_serve.specs.declared.fault.ServeFault.TheVariants as faults
use Rattle.onll_serve.specs.declared.service.Served.{Served}

-- the nodes from which an object goes on; what each log held is not said
abbrev pub base_of : {State : Type 0} → OnllView State → Base
base_of onll = record { nodes = onll.trace.plan.base; logs = [] }

-- A pass can order no more updates: it has ordered as many as it may, that is, its log is full, or a fence of it failed.
abbrev pub is_spent : {State Device : Type 0} → PassView State Device → Bool
is_spent pass = (length pass.spot.me.own == pass.room) || is_some pass.broken

-- one of them can order no more
abbrev pub any_spent : {State Device : Type 0} → List (PassView State Device) → Bool
any_spent [] = false
any_spent (pass ∷ passes) = is_spent pass || any_spent passes

module _ {State Op Query Reply Device : Type 0} (b : Behaviour State Op Query Reply) (means : Device → DeviceView)
    (onll : OnllView State) where
  -- the passes are those with which the object began, over such logs
  pub record AreBegun (passes : List (PassView State Device)) : Type 0 where
    pub opened : List (LogState Device)
    pub logs_are : AreLogs opened
    pub rooms : List ℕ
    pub begun : HasBegun b means onll opened rooms passes

  -- What threads did is one legal history, from the nodes on from which the object went; and whatever images of their devices a crash
  -- may leave, they recover to a front of it with every answered call.
  pub record HasHistory (runs : List (ThreadRun State Op Query Reply Device)) : Type 0 where
    pub trace : List Ended
    pub closed : HasClosed onll.trace (map after_of runs) trace
    pub whole : IsWholeRun b means onll (base_of onll) trace runs closed

  -- How the object was closed after these runs, and what that leaves of the store. Where there was no memory to close it, it is handed
  -- back with its passes, and nothing was changed.
  abbrev pub ClosedSo : List (ThreadRun State Op Query Reply Device) → List (PassView State Device) → List ℕ → StoreView → StoreView
      → Result (Unit {0}) (CloseFault State Device Op Query Reply) → Type 0
  ClosedSo runs afters logs old new (Ok x) =
      HasHistory runs × AreKept logs 0 (devices_in means afters) new × SameFaults old new × AreWhole (devices_in means afters)
  ClosedSo runs afters logs old new (Err (NotKept fault)) =
      HasHistory runs × KeepFails logs (devices_in means afters) old new fault.thread fault.fault
  ClosedSo runs afters logs old new (Err (NoMemory unclosed)) =
      (unclosed.object ≡ onll) × (unclosed.passes.items ≡ afters) × SameFiles old new × SameCounts old new

module _ {State Op Query Reply Device Work Answer : Type 0} (b : Behaviour State Op Query Reply) (means : Device → DeviceView)
    (promise : Work → Work → List (Call State Op Query Reply) → List (CallEnd State Op Query Reply) → Answer → Type 0) where
  -- Works were done at an object that was open, and it was closed.
  pub record WorksWereDone (onll : OnllView State) (befores : List (PassView State Device)) (works : List Work) (logs : List ℕ)
      (old new : StoreView) (served : Served State Device Work Answer Op Query Reply) : Type 0 where
    pub afters : List (PassView State Device)
    pub ended : HaveEnded b means promise onll works befores served.works.items afters served.answers.items
    pub spent_is : served.spent ≡ any_spent afters
    pub closed : ClosedSo b means onll ended.runs afters logs old new served.kept

  -- An object in this state went on from exactly what the files held. Each work made calls of its own choice, of which its promise is so;
  -- all of them are one history; and the logs were kept as their files, or it is said which was not.
  pub record HasServed (store : StoreView) (logs : List ℕ) (heads : List LogHead) (state : State) (works : List Work)
      (new : StoreView) (served : Served State Device Work Answer Op Query Reply) : Type 0 where
    pub found : Recovered
    pub given : GivesRoom b store logs heads (length works) None found
    pub before_is : served.before ≡ length found.nodes
    pub onll : OnllView State
    pub first : onll.first ≡ state
    pub base : onll.trace.plan.base ≡ found.nodes
    pub befores : List (PassView State Device)
    pub heads_are : map head_held (map log_of befores) ≡ heads
    pub short : AllByRecursion (IsShortLog means) (map log_of befores)
    pub opened : StoreView
    pub kept : NothingLost b store logs heads (length works) None heads opened
    pub counts : SameCounts store opened
    pub worked : WorksWereDone onll befores works logs opened new served

module _ {State Op Query Reply : Type 0} (b : Behaviour State Op Query Reply) (logs : List ℕ) (heads : List LogHead) where
  -- why a service didn't begin with so many works, and what that leaves of the store
  abbrev pub CannotServe : ℕ → StoreView → StoreView → ServeFault → Type 0
  CannotServe works old new faults.NoWork = (works ≡ 0) × (new ≡ old)
  CannotServe works old new (faults.TooManyWorks were) = (were ≡ works) × (most_threads < works) × (new ≡ old)
  CannotServe works old new (faults.NoThread thread) = (1 ≤ thread) × (thread < works) × (new ≡ old)
  CannotServe works old new (faults.NotOpened fault) =
      CannotOpen b old logs heads works None fault × OpenFaults {T = Unit {0}} logs works old new (Err fault)
      × NothingLost b old logs heads works None (written_at heads fault) new
  CannotServe works old new faults.NoMemory = new ≡ old

-- the logs are free once an object over them was closed
abbrev pub GivenBack : {State Device Op Query Reply : Type 0} → StoreView → List ℕ → List (List ℕ)
    → Result (Unit {0}) (CloseFault State Device Op Query Reply) → Type 0
GivenBack store logs new (Err (NoMemory unclosed)) = Unit {0}
GivenBack store logs new result = AreFree store logs new

-- who has the logs where a service didn't begin
abbrev pub RefusedLocks : StoreView → List ℕ → List (List ℕ) → List (List ℕ) → ServeFault → Type 0
RefusedLocks store logs old new (faults.NotOpened fault) = OpenLocks {T = Unit {0}} store logs old new (Err fault)
RefusedLocks store logs old new fault = new ≡ old

-- who has the logs before and after a service
abbrev pub ServeLocks : {State Device Work Answer Op Query Reply : Type 0} → StoreView → List ℕ → List (List ℕ) → List (List ℕ)
    → Result (Served State Device Work Answer Op Query Reply) (NotServed Work) → Type 0
ServeLocks store logs old new (Ok served) = AreFree store logs old × GivenBack store logs new served.kept
ServeLocks store logs old new (Err refused) = RefusedLocks store logs old new refused.fault
