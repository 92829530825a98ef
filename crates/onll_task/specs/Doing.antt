-- What the functions of a command do, each in one relation of the store before, the store after and the result.

use Rattle.std.specs.Prelude.{ℕ, Bool, true, List, [], ◌∷◌, ◌≡◌, Result}
use Rattle.std.specs.Result.{IfOk, IfErr}
use Rattle.std.specs.declared.vec.Vec.{Vec}
use Rattle.onll_text.specs.Refusal.{Refusal}
use Rattle.onll_outside.specs.Views.{StoreView}
use Rattle.onll_log.specs.ImageFile.{image_lines}
use Rattle.onll_task.specs.declared.ending.Ending.{Ending}
use Rattle.onll_task.specs.declared.ending.Ending.TheVariants.{Done}
use Rattle.onll_task.specs.declared.answer.Stop.{Stop}
use Rattle.onll_task.specs.declared.answer.Stop.TheVariants.{Says, NoMemory}
use Rattle.onll_task.specs.Reading.{Reads, ReadsWhole, HoldsImage}
use Rattle.onll_task.specs.Writing.{FilesStay}
use Rattle.onll_open.specs.Files.{SameBut}
use Rattle.onll_task.specs.Job.{Job, Say, Read, Write, Keep, Assured, JobEnds, JobCut, JobGoesOn, reading, reading_whole}

-- ---- what is to be done
-- A task: a job with all its endings, and what its report says of the files, where it is done.
pub record Task : Type 1 where
  pub job : Job
  pub reports : StoreView → List ℕ → Type 0

-- What a command does: its task, and the files that it may write.
pub record Work : Type 1 where
  pub task : Task
  pub writes : List (List ℕ)

-- The first of a task, which gives a value: how a job goes on with it, and what it is by the files.
pub record Stage (X : Type 0) : Type 1 where
  pub job : (X → Job) → Job
  pub known : StoreView → X → Type 0

-- by the files a stage gives some value, and the task that goes on with it reports this
pub record Reached {X : Type 0} (stage : Stage X) (next : X → Task) (store : StoreView) (text : List ℕ) : Type 0 where
  pub value : X
  pub known : stage.known store value
  pub reports : (next value).reports store text

-- a stage, and then the task that its value makes
abbrev pub after_stage : {X : Type 0} → Stage X → (X → Task) → Task
after_stage {X} stage next = record { job = stage.job (λ (value : X). (next value).job); reports = Reached stage next }

-- this report, of which this holds
abbrev pub report_task : List ℕ → (List ℕ → Type 0) → Task
report_task report Holds = record { job = Say Done report; reports = λ _ text. Holds text }

-- this text, which is no report
abbrev pub say_task : Ending → List ℕ → Task
say_task ending text = record { job = Say ending text; reports = λ _ _. ⊥ }

-- ---- the stages that read one file
-- a text by its grammar
abbrev pub text_stage : {A : Type 0} → List ℕ → (List ℕ → Result A Refusal) → Stage A
text_stage name grammar = record { job = reading name grammar; known = λ store value. Reads store grammar name value }

-- the same, with the bytes of the file
abbrev pub whole_stage : {A : Type 0} → List ℕ → (List ℕ → Result A Refusal) → Stage (List ℕ × A)
whole_stage {A} name grammar = record {
  job = λ (next : List ℕ × A → Job). reading_whole name grammar (λ bytes value. next (bytes, value));
  known = λ store read. ReadsWhole store grammar name read.0 read.1;
}

-- the lines of an image
abbrev pub lines_stage : List ℕ → Stage (List (List ℕ))
lines_stage name = record {
  job = λ (next : List (List ℕ) → Job). Read name (λ bytes. next (image_lines bytes));
  known = λ store lines. HoldsImage store name lines;
}

-- ---- the stages that give nothing
-- these bytes are made the file of this name
abbrev pub write_stage : (name bytes : List ℕ) → Stage (Unit {0})
write_stage name bytes = record { job = λ (next : Unit {0} → Job). Write name bytes (next tt); known = λ _ _. Unit {0} }

-- a device with these lines, durable after so many fences, is kept as the file of this name; where a fence fails, this is said
abbrev pub keep_stage : (name : List ℕ) (lines : List (List ℕ)) (fences : ℕ) (said : List ℕ) → Stage (Unit {0})
keep_stage name lines fences said =
    record { job = λ (next : Unit {0} → Job). Keep name lines fences said (next tt); known = λ _ _. Unit {0} }

-- what follows is done where this is so, which the types of the program's values assure
abbrev pub assured_stage : Bool → Stage (Unit {0})
assured_stage b = record { job = λ (next : Unit {0} → Job). Assured b (next tt); known = λ _ _. b ≡ true }

-- the one, and then the other
abbrev pub then_stage : Stage (Unit {0}) → Stage (Unit {0}) → Stage (Unit {0})
then_stage first last = record { job = λ (next : Unit {0} → Job). first.job (λ _. last.job next); known = λ _ _. Unit {0} }

-- a stage, and then the one that its value makes
abbrev pub onto_stage : {X Y : Type 0} → Stage X → (X → Stage Y) → Stage Y
onto_stage {X} {Y} first last = record {
  job = λ (next : Y → Job). first.job (λ (value : X). (last value).job next);
  known = λ store y. (value : X) × first.known store value × (last value).known store y;
}

-- ---- one stage after the other
abbrev pub each_job : {A X : Type 0} → (A → Stage X) → List A → (List X → Job) → Job
each_job stage [] next = next []
each_job {A} {X} stage (x ∷ xs) next = (stage x).job (λ (value : X). each_job stage xs (λ values. next (value ∷ values)))

-- the values are those of the stages, in order
abbrev pub AreKnown : {A X : Type 0} → (A → Stage X) → List A → StoreView → List X → Type 0
AreKnown stage [] store [] = Unit {0}
AreKnown stage (x ∷ xs) store (value ∷ values) = (stage x).known store value × AreKnown stage xs store values
AreKnown stage xs store values = ⊥

-- a stage of each element, in order
abbrev pub each_stage : {A X : Type 0} → (A → Stage X) → List A → Stage (List X)
each_stage stage xs = record { job = each_job stage xs; known = AreKnown stage xs }

-- ---- what a function did
-- A job stops so: what is said in place of a report is an end of the job, and no good one; where memory could not be had the job
-- was cut.
abbrev pub StopsSo : StoreView → StoreView → Job → Stop → Type 0
StopsSo store after job (Says ending text) = (ending ≡ Done → ⊥) × JobEnds store after job ending text.items
StopsSo store after job NoMemory = JobCut store after job

-- A function did this task: what it gives is the report of the job that is done, which says so of the files, also as they were
-- before calls that changed none; else the job stopped so. No files but these changed.
pub record Fulfils {A : Type 0} (names : List (List ℕ)) (store after : StoreView) (task : Task)
    (result : Result (Vec ℕ A) Stop) : Type 0 where
  pub done : IfOk result (λ text. JobEnds store after task.job Done text.items)
  pub reports : IfOk result (λ text. (before : StoreView) → FilesStay before store → task.reports before text.items)
  pub stops : IfErr result (λ stop. StopsSo store after task.job stop)
  pub files : SameBut names store after

-- A function did this stage: with the value that it gives each job goes on, and it is the value by the files, also as they were
-- before calls that changed none; else each job stopped so. No files but these changed.
pub record DoesStage {V X : Type 0} (names : List (List ℕ)) (store after : StoreView) (stage : Stage X) (value : V → X)
    (result : Result V Stop) : Type 0 where
  pub goes : IfOk result (λ v. (next : X → Job) → JobGoesOn store after (stage.job next) (next (value v)))
  pub gives : IfOk result (λ v. (before : StoreView) → FilesStay before store → stage.known before (value v))
  pub stops : IfErr result (λ stop. (next : X → Job) → StopsSo store after (stage.job next) stop)
  pub files : SameBut names store after

-- With some value that fits what the function gives each job goes on, and it is the value by the files, also as they were before
-- calls that changed none.
pub record GoesBy {X : Type 0} (store after : StoreView) (stage : Stage X) (Fits : X → Type 0) : Type 0 where
  pub value : X
  pub fits : Fits value
  pub goes : (next : X → Job) → JobGoesOn store after (stage.job next) (next value)
  pub gives : (before : StoreView) → FilesStay before store → stage.known before value

-- A function did this stage, and what it gives only stands for the value; else each job stopped so. No files but these changed.
pub record BeginsBy {V X : Type 0} (names : List (List ℕ)) (store after : StoreView) (stage : Stage X)
    (Fits : V → X → Type 0) (result : Result V Stop) : Type 0 where
  pub goes : IfOk result (λ v. GoesBy store after stage (Fits v))
  pub stops : IfErr result (λ stop. (next : X → Job) → StopsSo store after (stage.job next) stop)
  pub files : SameBut names store after
