-- What threads did, each with its own work.
use Rattle.std.specs.Prelude.{ℕ, List, [], ◌∷◌, ◌≡◌, ◌≤◌, Some, vec_capacity}
use Rattle.onll_model.specs.declared.call.Call.{Call}
use Rattle.onll_model.specs.declared.call.CallEnd.{CallEnd}
use Rattle.onll_model.specs.Object.{Behaviour}
use Rattle.onll_pmem.specs.Pmem.{DeviceView}
use Rattle.onll_shared.specs.Passes.{OnllView, PassView}
use Rattle.onll_threads.specs.declared.crew.Space.{Space}
use Rattle.onll_threads.specs.declared.crew.DoneWorks.{DoneWorks}
use Rattle.onll_threads.specs.declared.job.Job.{Job}
use Rattle.onll_threads.specs.Acts.{HasActed, IsUnused}

-- A thread's work was done on its pass: there are calls that it made, which ended so, and what it promises of them and of its answer is
-- so.
pub record WasDone {State Op Query Reply Device Answer : Type 0} (b : Behaviour State Op Query Reply) (means : Device → DeviceView)
    (onll : OnllView State) (promise : List (Call State Op Query Reply) → List (CallEnd State Op Query Reply) → Answer → Type 0)
    (old new : PassView State Device) (answer : Answer) : Type 0 where
  pub calls : List (Call State Op Query Reply)
  pub ends : List (CallEnd State Op Query Reply)
  pub acted : HasActed b means onll calls ends old new
  pub kept : promise calls ends answer

-- a job whose pass is there, on which nothing was done yet
pub record JobIsReady {State Op Query Reply Device Work Answer : Type 0} (b : Behaviour State Op Query Reply)
    (means : Device → DeviceView) (job : Job State Device Work Answer Op Query Reply) : Type 0 where
  pub pass : PassView State Device
  pub pass_is : job.pass ≡ Some pass
  pub unused : IsUnused b means job.at.now.onll pass

-- a job that was done
pub record JobIsDone {State Op Query Reply Device Work Answer : Type 0} (b : Behaviour State Op Query Reply)
    (means : Device → DeviceView)
    (promise : Work → Work → List (Call State Op Query Reply) → List (CallEnd State Op Query Reply) → Answer → Type 0)
    (old new : Job State Device Work Answer Op Query Reply) : Type 0 where
  pub before : PassView State Device
  pub before_is : old.pass ≡ Some before
  pub after : PassView State Device
  pub after_is : new.pass ≡ Some after
  pub answer : Answer
  pub answer_is : new.answer ≡ Some answer
  pub done : WasDone b means old.at.now.onll (promise old.work new.work) before after answer

-- a job of this work and pass
pub record IsJob {State Op Query Reply Device Work Answer : Type 0} (onll : OnllView State) (work : Work)
    (pass : PassView State Device) (job : Job State Device Work Answer Op Query Reply) : Type 0 where
  pub onll_is : job.at.now.onll ≡ onll
  pub work_is : job.work ≡ work
  pub pass_is : job.pass ≡ Some pass

-- a job for each work and pass
abbrev pub AreJobs : {State Op Query Reply Device Work Answer : Type 0} → OnllView State → List Work
    → List (PassView State Device) → List (Job State Device Work Answer Op Query Reply) → Type 0
AreJobs onll [] [] [] = Unit {0}
AreJobs onll (w ∷ works) (p ∷ passes) (j ∷ jobs) = IsJob onll w p j × AreJobs onll works passes jobs
AreJobs onll works passes jobs = ⊥

-- a job that has a pass and an answer
pub record JobHasEnded {State Op Query Reply Device Work Answer : Type 0} (job : Job State Device Work Answer Op Query Reply) : Type 0 where
  pub pass : PassView State Device
  pub pass_is : job.pass ≡ Some pass
  pub answer : Answer
  pub answer_is : job.answer ≡ Some answer

-- what jobs hold that were done
abbrev pub AreTaken : {State Op Query Reply Device Work Answer : Type 0} → List (Job State Device Work Answer Op Query Reply)
    → List Work → List (PassView State Device) → List Answer → Type 0
AreTaken [] [] [] [] = Unit {0}
AreTaken (j ∷ jobs) (w ∷ works) (p ∷ passes) (a ∷ answers) =
    (j.work ≡ w) × (j.pass ≡ Some p) × (j.answer ≡ Some a) × AreTaken jobs works passes answers
AreTaken jobs works passes answers = ⊥

-- lists that are empty, with room for so many
pub record HasSpaceFor {State Op Query Reply Device Work Answer : Type 0} (count : ℕ)
    (all : DoneWorks State Device Work Answer Op Query Reply) : Type 0 where
  pub works : (all.works.items ≡ []) × (count ≤ vec_capacity all.works)
  pub passes : (all.passes.items ≡ []) × (count ≤ vec_capacity all.passes)
  pub answers : (all.answers.items ≡ []) × (count ≤ vec_capacity all.answers)

pub record HasSpace {State Op Query Reply Device Work Answer : Type 0} (count : ℕ)
    (space : Space State Device Work Answer Op Query Reply) : Type 0 where
  pub jobs : (space.jobs.items ≡ []) × (count ≤ vec_capacity space.jobs)
  pub done : HasSpaceFor count space.done

module _ {State Op Query Reply Device Work Answer : Type 0} (b : Behaviour State Op Query Reply) (means : Device → DeviceView)
    (promise : Work → Work → List (Call State Op Query Reply) → List (CallEnd State Op Query Reply) → Answer → Type 0)
    (onll : OnllView State) where
  -- each work was done on the pass at its place
  abbrev pub AllDone : (olds : List Work) (befores : List (PassView State Device)) (news : List Work)
      (afters : List (PassView State Device)) → List Answer → Type 0
  AllDone [] [] [] [] [] = Unit {0}
  AllDone (w ∷ olds) (p ∷ befores) (v ∷ news) (q ∷ afters) (a ∷ answers) =
      WasDone b means onll (promise w v) p q a × AllDone olds befores news afters answers
  AllDone olds befores news afters answers = ⊥
