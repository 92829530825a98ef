-- What is so of all that threads did, each with its own work.
use Rattle.std.specs.Prelude.{ℕ, List, [], ◌∷◌, ◌≡◌, length, map}
use Rattle.std.specs.List.{AllByRecursion}
use Rattle.onll_model.specs.declared.call.Call.{Call}
use Rattle.onll_model.specs.declared.call.CallEnd.{CallEnd}
use Rattle.onll_model.specs.Object.{Behaviour}
use Rattle.onll_pmem.specs.Pmem.{DeviceView}
use Rattle.onll_log.specs.Log.{LogState}
use Rattle.onll_trace.specs.Closing.{AreAll}
use Rattle.onll_shared.specs.Passes.{OnllView, PassView, IsTied, spot_of}
use Rattle.onll_shared.specs.Starts.{AreLogs, HasBegun}
use Rattle.onll_run.specs.Ended.{ThreadRun, HaveRun, after_of}
use Rattle.onll_threads.specs.Crews.{AllDone}

abbrev pub before_of : {State Op Query Reply Device : Type 0} → ThreadRun State Op Query Reply Device → PassView State Device
before_of run = run.before

module _ {State Op Query Reply Device Work Answer : Type 0} (b : Behaviour State Op Query Reply) (means : Device → DeviceView)
    (promise : Work → Work → List (Call State Op Query Reply) → List (CallEnd State Op Query Reply) → Answer → Type 0) where
  -- each thread's calls, outcomes and answer are as its work promises
  abbrev pub ArePromised : (olds news : List Work) → List (ThreadRun State Op Query Reply Device) → List Answer → Type 0
  ArePromised [] [] [] [] = Unit {0}
  ArePromised (w ∷ olds) (v ∷ news) (r ∷ runs) (a ∷ answers) = promise w v r.script r.ends a × ArePromised olds news runs answers
  ArePromised olds news runs answers = ⊥

  -- What threads did is a run, as if each had had a script of the calls that it made; the promises are so of that; and the object can be
  -- closed over the passes.
  pub record HaveEnded (onll : OnllView State) (olds : List Work) (befores : List (PassView State Device)) (news : List Work)
      (afters : List (PassView State Device)) (answers : List Answer) : Type 0 where
    pub runs : List (ThreadRun State Op Query Reply Device)
    pub have_run : HaveRun b means onll 0 runs
    pub many : length runs ≡ onll.trace.plan.threads
    pub befores_are : map before_of runs ≡ befores
    pub afters_are : map after_of runs ≡ afters
    pub promised : ArePromised olds news runs answers
    pub all_there : AreAll onll.trace (map spot_of afters)
    pub tied : AllByRecursion (IsTied b means onll) afters

  abbrev pub WorksLaw : Type 0
  WorksLaw = (onll : OnllView State) (logs : List (LogState Device)) (rooms : List ℕ) (olds : List Work)
      (befores : List (PassView State Device)) (news : List Work) (afters : List (PassView State Device)) (answers : List Answer)
      → AreLogs logs → HasBegun b means onll logs rooms befores → AllDone b means promise onll olds befores news afters answers
      → HaveEnded onll olds befores news afters answers
