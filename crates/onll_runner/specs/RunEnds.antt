-- How a run comes to its end: what it left is kept and reported, or a device can't be kept; or a header's fence failed.

use Rattle.std.specs.Prelude.{ℕ, ◌≡◌, ◌<◌, ◌≤◌, ◌+◌, ◌⊎◌, true, List, length, Result}
use Rattle.std.specs.List.{AllByRecursion}
use Rattle.std.specs.Result.{IfOk, IfErr}
use Rattle.std.specs.declared.vec.Vec.{Vec}
use Rattle.onll_outside.specs.Views.{StoreView, SameFiles, SameFaults, counted}
use Rattle.onll_outside.specs.declared.store.FaultKind.TheVariants as kinds
use Rattle.onll_log.specs.Grammar.{Content}
use Rattle.onll_run.specs.Left.{LogLeft, begun_logs}
use Rattle.onll_text.specs.Kinds.{ObjectKind}
use Rattle.onll_task.specs.declared.ending.Ending.TheVariants.{Faulty}
use Rattle.onll_task.specs.declared.answer.Stop.{Stop}
use Rattle.onll_task.specs.declared.answer.Stop.TheVariants.{NoMemory}
use Rattle.onll_task.specs.FileLines.{FitFile}
use Rattle.onll_task.specs.Running.{RunPlan, RunLeft, PlanReads, HoldsLogs, HoldTo, broken_threads, fences_of, log_files}
use Rattle.onll_task.specs.Stop.{StopSays}
use Rattle.onll_task.specs.Writing.{AllButStay}
use Rattle.onll_open.specs.Files.{SameBut}
use Rattle.onll_runner.specs.Devices.{DeviceFails}
use Rattle.onll_runner.specs.RunReport.{plan_report}

-- how many lines a log has
abbrev pub lines_left : LogLeft → ℕ
lines_left log = length log.read

-- where the store tells its files, the named one is as it was
abbrev pub IsAsBefore : StoreView → StoreView → List ℕ → Content → Type 0
IsAsBefore store after name before = store.tells ≡ true → after.file name ≡ store.file name

-- ---- what a run left is handed back to the store
module _ {k : ObjectKind} (plan : RunPlan k) (left : RunLeft k) (store after : StoreView) where
  -- All of it is kept: no call of the store failed, its counts rose by the devices, and the files hold the logs.
  pub record IsStored : Type 0 where
    pub calls : SameFaults store after
    pub faults : after.device_faults ≡ counted store.device_faults (broken_threads left.ends)
    pub fences : after.device_fences ≡ counted store.device_fences (fences_of left.logs + begun_logs plan.run.base.logs)
    pub files : HoldsLogs after plan.logs 0 left.logs left.ends
    pub fit : AllByRecursion (λ (log : LogLeft). FitFile log.read) left.logs
    pub others : AllButStay (log_files plan) store after

  -- It is kept up to this thread's log, whose device could not be kept, and each file from that one on holds its log or is as it was. The
  -- store's counts rose by all devices.
  pub record IsStoredTo (stop : Stop) : Type 0 where
    pub thread : ℕ
    pub within : thread < length plan.run.scripts
    pub files : HoldTo (IsAsBefore store after) after (log_files plan) plan.run.base.logs left.logs left.ends thread
    pub faults : after.device_faults ≡ counted store.device_faults (broken_threads left.ends)
    pub fences : after.device_fences ≡ counted store.device_fences (fences_of left.logs + begun_logs plan.run.base.logs)
    pub says : StopSays stop (DeviceFails kinds.Keep plan.logs thread store after)

  -- Fences failed, and the report says so, which reads back.
  pub record RunIsBroken (stop : Stop) : Type 0 where
    pub stored : IsStored
    pub broken : 1 ≤ broken_threads left.ends
    pub reads : PlanReads plan left
    pub says : StopSays stop (λ ending text. (ending ≡ Faulty) × (text ≡ plan_report plan left))

  -- memory could not be had, before any file was changed
  abbrev pub IsLost : Stop → Type 0
  IsLost stop = (stop ≡ NoMemory) × SameFiles store after

  -- What a run left was kept and is reported; or it is said in place of a report that fences failed; or it is kept in part, or not at all.
  pub record RunHasEnded {A : Type 0} (result : Result (Vec ℕ A) Stop) : Type 0 where
    pub kept : IfOk result (λ text. IsStored)
    pub whole : IfOk result (λ text. broken_threads left.ends ≡ 0)
    pub report : IfOk result (λ text. text.items ≡ plan_report plan left)
    pub reads : IfOk result (λ text. PlanReads plan left)
    pub stop : IfErr result (λ stop. RunIsBroken stop ⊎ IsStoredTo stop ⊎ IsLost stop)
    pub others : SameBut (log_files plan) store after
