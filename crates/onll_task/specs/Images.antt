-- The images of the logs of one run: one file for each thread.

use Rattle.std.specs.Prelude.{ℕ, suc, ◌≡◌, ◌≤◌, List, [], ◌∷◌, length, map, IsSome}
use Rattle.std.specs.declared.vec.Vec.{Vec}
use Rattle.std.specs.declared.alloc.Global.{Global}
use Rattle.onll_words.specs.declared.line.Line.{Line}
use Rattle.onll_pmem.specs.Pmem.{words_of}
use Rattle.onll_log.specs.Grammar.{content_of, format_in}
use Rattle.onll_log.specs.Tested.{used_in}
use Rattle.onll_outside.specs.Views.{StoreView, BeginsWith, image_bytes}
use Rattle.onll_open.specs.Names.{log_name, log_names}
use Rattle.onll_task.specs.Job.{Job, Write}
use Rattle.onll_task.specs.Doing.{Stage, lines_stage, each_stage}

-- the lines of images, as words
abbrev pub images_in : List (Vec Line Global) → List (List (List ℕ))
images_in images = map (λ image. words_of image.items) images

-- ---- what stays of an image
-- these lines hold as a log what the image holds, are read by its format, and are no more than decide it
pub record Decides (lines image : List (List ℕ)) : Type 0 where
  pub content : content_of lines ≡ content_of image
  pub format : IsSome (content_of image) → format_in lines ≡ format_in image
  pub few : length lines ≤ used_in (content_of image)

-- the same of each image, in order
abbrev pub AllDecide : List (List (List ℕ)) → List (List (List ℕ)) → Type 0
AllDecide [] [] = Unit {0}
AllDecide (lines ∷ more) (image ∷ images) = Decides lines image × AllDecide more images
AllDecide more images = ⊥

-- what is kept of an image: lines that stand for it, and how many lines it has
pub record KeepsOf (lines : List (List ℕ)) (count : ℕ) (image : List (List ℕ)) : Type 0 where
  pub stands : Decides lines image
  pub many : count ≡ length image

-- the same of all images
pub record KeepOf (lines : List (List (List ℕ))) (counts : List ℕ) (images : List (List (List ℕ))) : Type 0 where
  pub stand : AllDecide lines images
  pub many : counts ≡ map length images

-- where the store tells its files, each thread's, from thread t on, begins with the lines at its place
abbrev pub AllBeginWith : List ℕ → ℕ → List (List (List ℕ)) → StoreView → Type 0
AllBeginWith logs t [] store = Unit {0}
AllBeginWith logs t (lines ∷ more) store =
    BeginsWith store (log_name logs t) (image_bytes lines) × AllBeginWith logs (suc t) more store

-- ---- reading
-- the images of the logs of this many threads are read
abbrev pub images_stage : List ℕ → ℕ → Stage (List (List (List ℕ)))
images_stage logs threads = each_stage lines_stage (log_names logs 0 threads)

-- ---- writing
-- writes the images of threads, from thread i on, and goes on
abbrev pub writing_images : List ℕ → ℕ → List (List (List ℕ)) → Job → Job
writing_images logs i [] next = next
writing_images logs i (image ∷ images) next = Write (log_name logs i) (image_bytes image) (writing_images logs (suc i) images next)

-- these images are made the files of the logs
abbrev pub writing_stage : List ℕ → List (List (List ℕ)) → Stage (Unit {0})
writing_stage logs images =
    record { job = λ (next : Unit {0} → Job). writing_images logs 0 images (next tt); known = λ _ _. Unit {0} }
