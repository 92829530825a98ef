-- Scripts that are run on the passes of one object.
use Rattle.std.specs.Prelude.{ℕ, List, [], ◌∷◌, ◌≡◌, ◌≤◌, length, map, vec_capacity, ◌+◌, ◌*◌}
use Rattle.std.specs.List.{AllByRecursion}
use Rattle.onll_model.specs.declared.call.Call.{Call}
use Rattle.onll_model.specs.declared.call.CallEnd.{CallEnd}
use Rattle.onll_model.specs.Object.{Behaviour}
use Rattle.onll_model.specs.Calls.{updates_in}
use Rattle.onll_pmem.specs.Pmem.{DeviceView}
use Rattle.onll_log.specs.Log.{LogState, free_of}
use Rattle.onll_trace.specs.Closing.{AreAll}
use Rattle.onll_shared.specs.Passes.{OnllView, PassView, IsTied, spot_of}
use Rattle.onll_shared.specs.Starts.{AreLogs, HasBegun}
use Rattle.onll_run.specs.declared.worker.Worker.{Worker}
use Rattle.onll_run.specs.declared.worker.WorkerEnd.{WorkerEnd}
use Rattle.onll_run.specs.Workers.{IsReadyPass, HasWorked}
use Rattle.onll_run.specs.Ended.{ThreadRun, script_of, after_of, HaveRun}

abbrev pub script_in : {R State Device G Op Query Reply : Type 0} → Worker R State Device G Op Query Reply
    → List (Call State Op Query Reply)
script_in w = w.script.items

abbrev pub pass_in : {R State Device G Op Query Reply : Type 0} → Worker R State Device G Op Query Reply → PassView State Device
pass_in w = w.pass

-- a worker of this object, which has no outcome, and room for all
pub record IsNewWorker {R State Device G Op Query Reply : Type 0} (onll : OnllView State)
    (w : Worker R State Device G Op Query Reply) : Type 0 where
  pub onll_is : w.onll.now ≡ onll
  pub empty : w.ends.items ≡ []
  pub many : length w.script.items ≤ vec_capacity w.ends

-- a worker for each script and pass
pub record AreWorkers {R State Device G Op Query Reply : Type 0} (onll : OnllView State)
    (scripts : List (List (Call State Op Query Reply))) (passes : List (PassView State Device))
    (ws : List (Worker R State Device G Op Query Reply)) : Type 0 where
  pub scripts_are : map script_in ws ≡ scripts
  pub passes_are : map pass_in ws ≡ passes
  pub new : AllByRecursion (IsNewWorker onll) ws

module _ {State Op Query Reply Device : Type 0} (b : Behaviour State Op Query Reply) (means : Device → DeviceView)
    (onll : OnllView State) where
  -- each pass is ready for the script at its place
  abbrev pub AreReadyPasses : List (List (Call State Op Query Reply)) → List (PassView State Device) → Type 0
  AreReadyPasses [] [] = Unit {0}
  AreReadyPasses [] (p ∷ ps) = ⊥
  AreReadyPasses (s ∷ ss) [] = ⊥
  AreReadyPasses (s ∷ ss) (p ∷ ps) = IsReadyPass b means onll s p × AreReadyPasses ss ps

  -- each script was done on the pass at its place
  abbrev pub AreDone : List (List (Call State Op Query Reply)) → List (PassView State Device)
      → List (WorkerEnd State Device Op Query Reply) → Type 0
  AreDone [] [] [] = Unit {0}
  AreDone (s ∷ ss) (p ∷ ps) (w ∷ ws) =
      (w.script.items ≡ s) × HasWorked b means onll s w.ends.items p w.pass × AreDone ss ps ws
  AreDone ss ps ws = ⊥

abbrev pub pass_done : {State Op Query Reply Device : Type 0} → WorkerEnd State Device Op Query Reply → PassView State Device
pass_done w = w.pass

abbrev pub script_done : {State Op Query Reply Device : Type 0} → WorkerEnd State Device Op Query Reply → List (Call State Op Query Reply)
script_done w = w.script.items

abbrev pub ends_done : {State Op Query Reply Device : Type 0} → WorkerEnd State Device Op Query Reply → List (CallEnd State Op Query Reply)
ends_done w = w.ends.items

-- what each thread made
abbrev pub runs_of : {State Op Query Reply Device : Type 0} → List (List (Call State Op Query Reply)) → List (PassView State Device)
    → List (WorkerEnd State Device Op Query Reply) → List (ThreadRun State Op Query Reply Device)
runs_of (s ∷ ss) (p ∷ ps) (w ∷ ws) = record { script = s; ends = w.ends.items; before = p; after = w.pass } ∷ runs_of ss ps ws
runs_of ss ps ws = []

-- What scripts made that were done on the passes of an object, from its beginning on: the object can be closed over the passes, which are
-- those that were handed in, and each thread has done its own script.
pub record CanEnd {State Op Query Reply Device : Type 0} (b : Behaviour State Op Query Reply) (means : Device → DeviceView)
    (onll : OnllView State) (scripts : List (List (Call State Op Query Reply))) (passes : List (PassView State Device))
    (all : List (WorkerEnd State Device Op Query Reply)) : Type 0 where
  pub all_there : AreAll onll.trace (map spot_of (map pass_done all))
  pub tied : AllByRecursion (IsTied b means onll) (map pass_done all)
  pub have_run : HaveRun b means onll 0 (runs_of scripts passes all)
  pub passes_are : map after_of (runs_of scripts passes all) ≡ map pass_done all
  pub scripts_are : map script_of (runs_of scripts passes all) ≡ scripts
  pub many : length (runs_of scripts passes all) ≡ onll.trace.plan.threads

abbrev pub PassesLaw : {State Op Query Reply Device : Type 0} → Behaviour State Op Query Reply → (Device → DeviceView) → Type 0
PassesLaw {State} {Op} {Query} {Reply} {Device} b means = (onll : OnllView State) (logs : List (LogState Device)) (rooms : List ℕ)
    (scripts : List (List (Call State Op Query Reply))) (passes : List (PassView State Device))
    (all : List (WorkerEnd State Device Op Query Reply)) → AreLogs logs → HasBegun b means onll logs rooms passes
    → AreDone b means onll scripts passes all → CanEnd b means onll scripts passes all

-- Each script has room in its pass, and lines in its log, for all its updates, among so many threads.
abbrev pub AreFit : {State Op Query Reply Device : Type 0} → (Device → DeviceView) → ℕ → List (List (Call State Op Query Reply)) → List ℕ
    → List (LogState Device) → Type 0
AreFit means threads [] [] [] = Unit {0}
AreFit means threads (s ∷ ss) (room ∷ rooms) (log ∷ logs) =
    (updates_in s ≤ room) × ((threads + 1) * updates_in s ≤ free_of (length (means log.device).read) log.entries)
    × AreFit means threads ss rooms logs
AreFit means threads ss rooms logs = ⊥

-- The passes that an object begins with are ready for such scripts.
abbrev pub ReadyLaw : {State Op Query Reply Device : Type 0} → Behaviour State Op Query Reply → (Device → DeviceView) → Type 0
ReadyLaw {State} {Op} {Query} {Reply} {Device} b means = (onll : OnllView State) (logs : List (LogState Device)) (rooms : List ℕ)
    (scripts : List (List (Call State Op Query Reply))) (passes : List (PassView State Device)) → HasBegun b means onll logs rooms passes
    → AreFit means onll.trace.plan.threads scripts rooms logs → AreReadyPasses b means onll scripts passes
