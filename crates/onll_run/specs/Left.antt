-- What a run of scripts on threads leaves, as plain data, and what is so of it.
use Rattle.std.specs.Prelude.{ℕ, ◌+◌, ◌==◌, ◌≡◌, ◌≤◌, ◌||◌, Bool, true, false, if◌then◌else◌, List, [], ◌∷◌, length, map, take, replicate, Option, Some, None, Ok}
use Rattle.std.specs.List.{AllByRecursion}
use mathlib.Core.List.{IsPrefix}
use Rattle.onll_model.specs.declared.node.Node.{Node}
use Rattle.onll_model.specs.declared.call.Call.{Call}
use Rattle.onll_model.specs.declared.call.CallEnd.{CallEnd}
use Rattle.onll_model.specs.Object.{Behaviour}
use Rattle.onll_model.specs.Segment.{Segment}
use Rattle.onll_model.specs.Legal.{placed_updates, IsLegal, IsOver}
use Rattle.onll_pmem.specs.Device.{Mixed}
use Rattle.onll_log.specs.declared.head.LogHead.{LogHead}
use Rattle.onll_log.specs.Grammar.{Content, content_of}
use Rattle.onll_log.specs.Log.{EndsInZeros, free_of, but_last}
use Rattle.onll_log.specs.Torn.{log_image}
use Rattle.onll_merge.specs.Merge.{merge}
use Rattle.onll_run.specs.Outcomes.{failed_in, StandsIn}

-- ---- what is run
-- what threads go on from: the nodes recovered from their logs, and what each log holds; one without a head is begun anew
pub record Base : Type 0 where
  pub nodes : List Node
  pub logs : List Content

-- nothing was recovered, and this many logs are begun anew
abbrev pub no_base : ℕ → Base
no_base threads = record { nodes = []; logs = replicate threads (record { head = None; entries = [] }) }

-- one for a log without a head
abbrev pub one_begun : Option LogHead → ℕ
one_begun None = 1
one_begun (Some head) = 0

-- how many of these logs have no head, and so are begun anew
abbrev pub begun_logs : List Content → ℕ
begun_logs [] = 0
begun_logs (before ∷ logs) = one_begun before.head + begun_logs logs

-- a script for each thread on an object in this state, the head of each thread's log, and the base
pub record ScriptPlan (State Op Query Reply : Type 0) : Type 0 where
  pub state : State
  pub scripts : List (List (Call State Op Query Reply))
  pub heads : List LogHead
  pub base : Base

-- ---- what a run leaves
-- the log of one thread: its head and its entries as read, the fences since it was opened, and all lines of its device as read
pub record LogLeft : Type 0 where
  pub head : LogHead
  pub entries : List Segment
  pub fences : ℕ
  pub read : List (List ℕ)

abbrev pub content_in : LogLeft → Content
content_in log = record { head = Some log.head; entries = log.entries }

-- what became of the calls of each thread, the trace, which begins with the base, with its flags, and the log of each
pub record AfterRun (State Op Query Reply : Type 0) : Type 0 where
  pub ends : List (List (CallEnd State Op Query Reply))
  pub nodes : List Node
  pub flags : List Bool
  pub logs : List LogLeft

abbrev pub is_place : ℕ → Option ℕ → Bool
is_place place None = false
is_place place (Some failed) = failed == place

-- the fence of the update at this place failed
abbrev pub failed_at : {State Op Query Reply : Type 0} → List (List (CallEnd State Op Query Reply)) → ℕ → Bool
failed_at [] place = false
failed_at (ends ∷ more) place = is_place place (failed_in ends) || failed_at more place

-- the flags of nodes, the first of them at place p + 1: each is set but that of an update whose fence failed
abbrev pub flags_by : {State Op Query Reply : Type 0} → List (List (CallEnd State Op Query Reply)) → ℕ → List Node → List Bool
flags_by ends p [] = []
flags_by ends p (n ∷ nodes) = (if failed_at ends (p + 1) then false else true) ∷ flags_by ends (p + 1) nodes

-- ---- what is so of a run
-- each call of each script is over: it was answered, its fence failed, or it is broken
abbrev pub AllOver : {State Op Query Reply : Type 0} → List (List (Call State Op Query Reply))
    → List (List (CallEnd State Op Query Reply)) → Type 0
AllOver [] [] = Unit {0}
AllOver [] (ends ∷ more) = ⊥
AllOver (calls ∷ scripts) [] = ⊥
AllOver (calls ∷ scripts) (ends ∷ more) = (length ends ≡ length calls) × AllByRecursion IsOver ends × AllOver scripts more

-- A log of this head held this before, and its thread has this many updates with a place since: its device reads as what it is
-- said to hold, and then zeros. That is what it held and an entry more for each of them, made with one fence.
pub record LogTells (head : LogHead) (before : Content) (updates : ℕ) (log : LogLeft) : Type 0 where
  pub head_is : log.head ≡ head
  pub holds : content_of log.read ≡ Some (content_in log)
  pub zeros : EndsInZeros log.read (content_in log)
  pub goes_on : IsPrefix before.entries log.entries
  pub entries : length log.entries ≡ length before.entries + updates
  pub fences : log.fences ≡ updates

abbrev pub LogsTell : {State Op Query Reply : Type 0} → Behaviour State Op Query Reply → List LogHead → List Content
    → List (List (Call State Op Query Reply)) → List (List (CallEnd State Op Query Reply)) → List LogLeft → Type 0
LogsTell b [] [] [] [] [] = Unit {0}
LogsTell b (head ∷ heads) (before ∷ base) (calls ∷ scripts) (ends ∷ more) (log ∷ logs) =
    LogTells head before (length (placed_updates b calls ends)) log × LogsTell b heads base scripts more logs
LogsTell b heads base scripts ends logs = ⊥

-- the lines of a log's device as they are fenced: where a fence failed, without the last entry
abbrev pub fenced_in : LogLeft → Option ℕ → List (List ℕ)
fenced_in log None = log.read
fenced_in log (Some place) = log_image log.head (but_last log.entries) (free_of (length log.read) (but_last log.entries))

-- what a crash may leave of the devices: one image of each, by itself
abbrev pub AreLeftImages : {State Op Query Reply : Type 0} → List LogLeft → List (List (CallEnd State Op Query Reply))
    → List (List (List ℕ)) → Type 0
AreLeftImages [] [] [] = Unit {0}
AreLeftImages (log ∷ logs) (ends ∷ more) (image ∷ images) =
    Mixed (fenced_in log (failed_in ends)) log.read image × AreLeftImages logs more images
AreLeftImages logs ends images = ⊥

module _ {State Op Query Reply : Type 0} (b : Behaviour State Op Query Reply) (plan : ScriptPlan State Op Query Reply)
    (left : AfterRun State Op Query Reply) where
  -- Each image is a log, and the logs recover to a front of the trace, which has the base, every answered update and the place of
  -- every answered read.
  pub record ImagesRecover (images : List (List (List ℕ))) : Type 0 where
    pub logs : List Content
    pub contents : map content_of images ≡ map Some logs
    pub nodes : List Node
    pub recovered : merge plan.heads logs ≡ Ok nodes
    pub front : take (length nodes) left.nodes ≡ nodes
    pub from_base : length plan.base.nodes ≤ length nodes
    pub answered : AllByRecursion (λ (ends : List (CallEnd State Op Query Reply)). AllByRecursion (StandsIn (length nodes)) ends) left.ends

  abbrev pub AlwaysRecovers : Type 0
  AlwaysRecovers = (images : List (List (List ℕ))) → AreLeftImages left.logs left.ends images → ImagesRecover images

  -- A run of this plan left this: one legal history in which each call is over; a node's flag is unset exactly where its update's
  -- fence failed; the logs hold the history, one entry and one fence for each update with a place; and whatever images of the devices
  -- a crash may leave, they recover to a front of it.
  pub record HasRun : Type 0 where
    pub legal : IsLegal b plan.state plan.base.nodes plan.scripts left.nodes left.ends
    pub over : AllOver plan.scripts left.ends
    pub flags : left.flags ≡ flags_by left.ends 0 left.nodes
    pub logs : LogsTell b plan.heads plan.base.logs plan.scripts left.ends left.logs
    pub merged : merge plan.heads (map content_in left.logs) ≡ Ok left.nodes
    pub crash : AlwaysRecovers
