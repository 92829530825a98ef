-- What code makes of images, on the way to what scripts go on from.
use Rattle.std.specs.Prelude.{ℕ, ◌≡◌, ◌+◌, if◌then◌else◌, Bool, false, List, [], ◌∷◌, Option, Some, None, Result, Ok, Err}
use Rattle.onll_model.specs.Object.{Behaviour}
use Rattle.onll_model.specs.Trace.{state_after}
use Rattle.onll_log.specs.Grammar.{Content, content_of}
use Rattle.onll_merge.specs.declared.fault.ImagesFault.{ImagesFault}
use Rattle.onll_merge.specs.declared.fault.ImagesFault.TheVariants as images
use Rattle.onll_merge.specs.declared.fault.StateFault.{StateFault}
use Rattle.onll_merge.specs.declared.fault.StateFault.TheVariants as states
use Rattle.onll_merge.specs.Recovered.{Recovered, recovered_with, applied_nodes}
use Rattle.onll_start.specs.declared.fault.ResumeFault.{ResumeFault}
use Rattle.onll_start.specs.declared.fault.ResumeFault.TheVariants.{Images, OldFormat, NotOp, NoMemory}
use Rattle.onll_start.specs.Start.{Found, is_old}

-- ---- refusals
abbrev pub is_old_log : Option Content → Bool
is_old_log None = false
is_old_log (Some c) = is_old c.head

-- the first of these images, numbered from i, that is a log of format 1
abbrev pub first_old : ℕ → List (List (List ℕ)) → Option ℕ
first_old i [] = None
first_old i (image ∷ more) = if is_old_log (content_of image) then Some i else first_old (i + 1) more

-- what is answered where this was recovered, and this log is the first of an old format
abbrev pub answer_of : {A : Type 0} → Option ℕ → Result A StateFault → Result A ResumeFault
answer_of old (Err states.NoMemory) = Err NoMemory
answer_of old (Err (states.NotLog log)) = Err (Images (images.NotLog log))
answer_of (Some log) (Ok value) = Err (OldFormat log)
answer_of (Some log) (Err (states.NotMerged fault)) = Err (OldFormat log)
answer_of (Some log) (Err (states.NotOperation place)) = Err (OldFormat log)
answer_of None (Ok value) = Ok value
answer_of None (Err (states.NotMerged fault)) = Err (Images (images.Recover fault))
answer_of None (Err (states.NotOperation place)) = Err (NotOp place)

-- this is what was recovered, in numbers
pub record IsFound (found : Result Found ResumeFault) (r : Recovered) : Type 0 where
  pub all : Found
  pub is : found ≡ Ok all
  pub told : r ≡ recovered_with all.logs all.nodes

-- the object that a refusal leaves where images give this: after the operations before the first row that is none, and as it was
-- where memory ran out
abbrev pub object_left : {State Op Query Reply : Type 0} → Behaviour State Op Query Reply → Result Recovered ImagesFault → State
    → ResumeFault → State
object_left b recovered s NoMemory = s
object_left b recovered s fault = state_after b s (applied_nodes b recovered)
