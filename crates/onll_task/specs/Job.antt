-- Jobs: what a call does, and how it may end.

use Rattle.std.specs.Prelude.{ℕ, Bool, true, false, List, ◌≡◌, ◌⊎◌, Result, Ok, Err}
use Rattle.onll_text.specs.Refusal.{Refusal}
use Rattle.onll_outside.specs.Views.{StoreView, FileHolds, image_bytes}
use Rattle.onll_areas.specs.Keeping.{HasKeptLines, MayKeepLines}
use Rattle.onll_text.specs.declared.any_object.Kind.{Kind}
use Rattle.onll_text.specs.Kinds.{kind_at}
use Rattle.onll_task.specs.declared.ending.Ending.{Ending}
use Rattle.onll_task.specs.declared.ending.Ending.TheVariants.{Refused}
use Rattle.onll_task.specs.Printed.{refusal_text}
use Rattle.onll_task.specs.Reading.{CannotRead, FileIsTold}
use Rattle.onll_task.specs.Running.{RunPlan, RunLeft, RunGoes, RunCut}
use Rattle.onll_task.specs.Keeps.{KeepStops}
use Rattle.onll_task.specs.Writing.{CannotWrite, FilesStay, WriteStops, written}
use Rattle.onll_open.specs.Files.{SameCounts}

-- What a call does, up to the text that it puts: it reads files by their names, each after what the ones before it held, makes
-- bytes the files of names, keeps devices as files, each with lines that are durable after so many fences (where one of these fails, a
-- line is said in place of all else), goes on where something is so, which the types of the program's values assure, runs scripts on
-- threads over devices, and goes on with what they leave, and then says a text.
pub data Job : Type 0 where
  Say : Ending → List ℕ → Job
  Read : List ℕ → (List ℕ → Job) → Job
  Write : (name bytes : List ℕ) → Job → Job
  Keep : (name : List ℕ) (lines : List (List ℕ)) (fences : ℕ) (said : List ℕ) → Job → Job
  Assured : Bool → Job → Job
  Threads : (kind : Kind) → RunPlan (kind_at kind) → (RunLeft (kind_at kind) → Job) → Job

-- The job may end so, and leave the store so: each file that it reads holds some bytes, which it goes on with, or can't be
-- read; each that it writes is written, or can't be; each device is kept as its file, which then holds the device's lines, or can't be;
-- what is assured is so; scripts leave what a run of them may leave, which the store keeps, or it stops. No other file changes. Where it
-- says its text, no call of the store failed.
abbrev pub JobEnds : StoreView → StoreView → Job → Ending → List ℕ → Type 0
JobEnds store after (Say e t) ending text = (ending ≡ e) × (text ≡ t) × FilesStay store after × SameCounts store after
JobEnds store after (Read name next) ending text =
    (CannotRead store after name ending text × FilesStay store after)
    ⊎ ((bytes : List ℕ) × (FileHolds store name bytes × JobEnds store after (next bytes) ending text))
JobEnds store after (Write name bytes next) ending text =
    CannotWrite store after name ending text ⊎ JobEnds (written store name bytes) after next ending text
JobEnds store after (Keep name lines fences said next) ending text = KeepStops store after name lines fences said ending text
    ⊎ ((kept : StoreView) × HasKeptLines store kept name lines fences × JobEnds kept after next ending text)
JobEnds store after (Assured b next) ending text = (b ≡ true) × JobEnds store after next ending text
JobEnds store after (Threads kind plan next) ending text =
    RunGoes plan store after ending text (λ left kept. JobEnds kept after (next left) ending text)

-- The job may stop early, and leave the store so: it read files, wrote files and kept devices as files, each of them whole, up to one
-- that is as it was, unless a write of it failed; one that a device is kept as may also hold zeros alone, or the lines already. No other
-- file changes.
abbrev pub JobCut : StoreView → StoreView → Job → Type 0
JobCut store after (Say e t) = FilesStay store after
JobCut store after (Read name next) =
    FilesStay store after ⊎ ((bytes : List ℕ) × (FileHolds store name bytes × JobCut store after (next bytes)))
JobCut store after (Write name bytes next) = WriteStops store after name ⊎ JobCut (written store name bytes) after next
JobCut store after (Keep name lines fences said next) = MayKeepLines store after name lines
    ⊎ ((kept : StoreView) × HasKeptLines store kept name lines fences × JobCut kept after next)
JobCut store after (Assured b next) = FilesStay store after ⊎ ((b ≡ true) × JobCut store after next)
JobCut store after (Threads kind plan next) = RunCut plan store after (λ left kept. JobCut kept after (next left))

-- whatever the other job does from this store, the job may do from the store before
pub record JobGoesOn (store mid : StoreView) (job next : Job) : Type 0 where
  pub ends : (after : StoreView) (ending : Ending) (text : List ℕ) → JobEnds mid after next ending text
      → JobEnds store after job ending text
  pub cut : (after : StoreView) → JobCut mid after next → JobCut store after job

-- The files that are told decide that it ends so, unless a call of the store fails; one that keeps a device only where the devices'
-- fences are taken to hold.
abbrev pub DecidesWhere : (hold : Bool) → StoreView → Job → Ending → List ℕ → Type 0
DecidesWhere hold store (Say e t) ending text = (e ≡ ending) × (t ≡ text)
DecidesWhere hold store (Read name next) ending text =
    (bytes : List ℕ) × (FileIsTold store name bytes × DecidesWhere hold store (next bytes) ending text)
DecidesWhere hold store (Write name bytes next) ending text = DecidesWhere hold (written store name bytes) next ending text
DecidesWhere hold store (Keep name lines fences said next) ending text =
    (hold ≡ true) × DecidesWhere hold (written store name (image_bytes lines)) next ending text
DecidesWhere hold store (Assured b next) ending text = DecidesWhere hold store next ending text
DecidesWhere hold store (Threads kind plan next) ending text = ⊥

-- the files that are told decide that it ends so, unless a write fails
abbrev pub Decides : StoreView → Job → Ending → List ℕ → Type 0
Decides store job ending text = DecidesWhere false store job ending text

-- goes on with a value, or says why a text is refused
abbrev pub on_value : {A : Type 0} → List ℕ → (A → Job) → Result A Refusal → Job
on_value name next (Ok value) = next value
on_value name next (Err refusal) = Say Refused (refusal_text name refusal)

-- reads a text by its grammar
abbrev pub reading : {A : Type 0} → List ℕ → (List ℕ → Result A Refusal) → (A → Job) → Job
reading name grammar next = Read name (λ bytes. on_value name next (grammar bytes))

-- the same, going on with the bytes of the file as well
abbrev pub reading_whole : {A : Type 0} → List ℕ → (List ℕ → Result A Refusal) → (List ℕ → A → Job) → Job
reading_whole name grammar next = Read name (λ bytes. on_value name (next bytes) (grammar bytes))
