-- Logs that are not those of so many threads that go on, as their heads and entries say before they are merged.
use Rattle.std.specs.Prelude.{ℕ, ◌+◌, ◌==◌, ◌||◌, if◌then◌else◌, Bool, true, false, List, [], ◌∷◌, length, Option, Some, None, Result, Ok, Err}
use Rattle.std.specs.Option.{option_or, option_map, is_some}
use Rattle.onll_model.specs.Object.{Behaviour}
use Rattle.onll_model.specs.Segment.{Segment}
use Rattle.onll_log.specs.declared.head.LogHead.{LogHead}
use Rattle.onll_log.specs.Grammar.{Content, content_of}
use Rattle.onll_merge.specs.declared.fault.StateFault.{StateFault}
use Rattle.onll_merge.specs.Recovered.{Recovered, state_recovered}
use Rattle.onll_open.specs.declared.fault.FilesFault.{FilesFault}
use Rattle.onll_open.specs.declared.fault.FilesFault.TheVariants.{OldFormat, Threads, Gone}
use Rattle.onll_open.specs.Faults.{refused_as}

-- ---- one image
abbrev pub head_of_content : Option Content → Option LogHead
head_of_content None = None
head_of_content (Some log) = log.head

-- the head that an image holds, none where it is all zero or no log
abbrev pub head_in : List (List ℕ) → Option LogHead
head_in image = head_of_content (content_of image)

abbrev pub are_some : List Segment → Bool
are_some [] = false
are_some (entry ∷ entries) = true

abbrev pub content_has_entries : Option Content → Bool
content_has_entries None = false
content_has_entries (Some log) = are_some log.entries

-- an image holds a log with an entry
abbrev pub has_entries : List (List ℕ) → Bool
has_entries image = content_has_entries (content_of image)

abbrev pub is_old : Option LogHead → Bool
is_old None = false
is_old (Some head) = head.format == 1

-- the number of threads that a head says, where it is not this one
abbrev pub other_number : ℕ → Option LogHead → Option ℕ
other_number threads None = None
other_number threads (Some head) = if head.threads == threads then None else Some head.threads

-- ---- the images of all threads' logs
-- the first of these images, numbered from i, that holds a log of the first format
abbrev pub first_old : ℕ → List (List (List ℕ)) → Option ℕ
first_old i [] = None
first_old i (image ∷ images) = if is_old (head_in image) then Some i else first_old (i + 1) images

-- another number of threads than this, which the first head that differs says
abbrev pub other_threads : ℕ → List (List (List ℕ)) → Option ℕ
other_threads threads [] = None
other_threads threads (image ∷ images) = option_or (other_number threads (head_in image)) (other_threads threads images)

-- one of these images holds a log with an entry
abbrev pub have_entries : List (List (List ℕ)) → Bool
have_entries [] = false
have_entries (image ∷ images) = has_entries image || have_entries images

-- the first of these images, numbered from i, that holds no head
abbrev pub first_headless : ℕ → List (List (List ℕ)) → Option ℕ
first_headless i [] = None
first_headless i (image ∷ images) = if is_some (head_in image) then first_headless (i + 1) images else Some i

-- A log without a head is gone where another has an entry, since all heads are durable before the first entry is made.
abbrev pub first_gone : List (List (List ℕ)) → Option ℕ
first_gone images = if have_entries images then first_headless 0 images else None

-- why these images are not those of the logs of so many threads that go on: a format, then a number of threads, then a log that is gone
abbrev pub misfit : ℕ → List (List (List ℕ)) → Option FilesFault
misfit threads images =
    option_or (option_map OldFormat (first_old 0 images))
    (option_or (option_map Threads (other_threads threads images))
    (option_map Gone (first_gone images)))

-- ---- what files give
abbrev pub with_misfit : Option FilesFault → Result Recovered StateFault → Result Recovered FilesFault
with_misfit fault (Err refused) = Err (refused_as fault refused)
with_misfit (Some fault) (Ok found) = Err fault
with_misfit None (Ok found) = Ok found

-- What images give over an object as the logs of one run with these heads, with which it goes on; or the first refusal: an image that is
-- no log, a misfit, and then what recovery refuses.
abbrev pub found_in : {State Op Query Reply : Type 0} → Behaviour State Op Query Reply → List LogHead → List (List (List ℕ))
    → Result Recovered FilesFault
found_in b heads images = with_misfit (misfit (length heads) images) (state_recovered b heads images)
