-- What a service leaves in the files of its logs, and what the next one finds there.
use Rattle.std.specs.Prelude.{ℕ, List, [], ◌∷◌, ◌≡◌, true, length, map, Ok}
use Rattle.std.specs.List.{AllByRecursion}
use Rattle.onll_model.specs.declared.call.Call.{Call}
use Rattle.onll_model.specs.declared.call.CallEnd.{CallEnd}
use Rattle.onll_model.specs.Object.{Behaviour}
use Rattle.onll_pmem.specs.Pmem.{DeviceView}
use Rattle.onll_log.specs.declared.head.LogHead.{LogHead}
use Rattle.onll_merge.specs.Recovered.{Recovered}
use Rattle.onll_outside.specs.Views.{StoreView}
use Rattle.onll_shared.specs.Passes.{OnllView}
use Rattle.onll_run.specs.Ended.{ThreadRun, ends_of, left_of}
use Rattle.onll_run.specs.Left.{AreLeftImages}
use Rattle.onll_open.specs.Files.{FilesHold, SameLogs}
use Rattle.onll_open.specs.Opening.{FilesGive}
use Rattle.onll_serve.specs.declared.service.Served.{Served}
use Rattle.onll_serve.specs.Lives.{BeginsWithBase, IsLife, IsLifeFront, ServedGeneration, StillStands, generation_of}
use Rattle.onll_serve.specs.Serving.{HasHistory, HasServed}

module _ {State Op Query Reply : Type 0} (b : Behaviour State Op Query Reply) (logs : List ℕ) (heads : List LogHead) where
  -- what the files of these logs give is a front of the generation, with its base and each answered call
  abbrev pub GiveFrontOf : StoreView → ServedGeneration State Op Query Reply → Type 0
  GiveFrontOf store g = (found : Recovered) → FilesGive b store logs heads (Ok found) → IsLifeFront g found.nodes

  -- The generation went on from what the files gave before it, and what they give after it is a front of it.
  pub record IsOverFiles (before after : StoreView) (g : ServedGeneration State Op Query Reply) : Type 0 where
    pub found : Recovered
    pub given : FilesGive b before logs heads (Ok found)
    pub base : g.base ≡ found.nodes
    pub begins : BeginsWithBase g
    pub leaves : GiveFrontOf after g

  -- One generation after the other over the same files, of which none changed in between: the first began, and the last left, these.
  abbrev pub AreOver : StoreView → StoreView → List (ServedGeneration State Op Query Reply) → Type 0
  AreOver old new [] = SameLogs logs old new
  AreOver old new (g ∷ life) =
      (before : StoreView) × (after : StoreView) × SameLogs logs old before × IsOverFiles before after g × AreOver after new life

  -- Each answered call of every generation stands in what the files give after the last.
  abbrev pub FilesLifeLaw : Type 0
  FilesLifeLaw = (life : List (ServedGeneration State Op Query Reply)) (old new : StoreView) → AreOver old new life → (found : Recovered)
      → FilesGive b new logs heads (Ok found) → IsLife life found.nodes × AllByRecursion (StillStands found.nodes) life

module _ {State Op Query Reply Device : Type 0} (b : Behaviour State Op Query Reply) (means : Device → DeviceView)
    (onll : OnllView State) (runs : List (ThreadRun State Op Query Reply Device)) (h : HasHistory b means onll runs) where
  -- Where files hold what a crash left of the devices, they give a front of what was done.
  abbrev pub LeavesInFiles : Type 0
  LeavesInFiles = (store : StoreView) (logs : List ℕ) (heads : List LogHead) (images : List (List (List ℕ)))
      → length heads ≡ length runs → store.tells ≡ true
      → AreLeftImages (left_of b means onll h.trace runs h.closed).logs (map ends_of runs) images → FilesHold logs 0 images store
      → GiveFrontOf b logs heads store (generation_of b means onll runs h)

module _ {State Op Query Reply Device Work Answer Files : Type 0} (b : Behaviour State Op Query Reply) (means : Device → DeviceView)
    (seen : Files → StoreView)
    (promise : Work → Work → List (Call State Op Query Reply) → List (CallEnd State Op Query Reply) → Answer → Type 0) where
  -- Where a store tells its files, what a service kept in them is what the next one finds: its threads' history is a generation over them.
  abbrev pub NextLaw : Type 0
  NextLaw = (old : StoreView) (new : Files) (logs : List ℕ) (heads : List LogHead) (state : State) (works : List Work)
      (served : Served State Device Work Answer Op Query Reply)
      → (s : HasServed b means promise old logs heads state works (seen new) served) → served.kept ≡ Ok tt → (seen new).tells ≡ true
      → (h : HasHistory b means s.onll s.worked.ended.runs)
      × IsOverFiles b logs heads old (seen new) (generation_of b means s.onll s.worked.ended.runs h)
