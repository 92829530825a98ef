-- What a crash leaves of a service at any moment while its threads work.
use Rattle.std.specs.Prelude.{ℕ, List, [], ◌∷◌, ◌≡◌, ◌≤◌, true, take, Option}
use Rattle.onll_model.specs.declared.call.Call.{Call}
use Rattle.onll_model.specs.declared.call.CallEnd.{CallEnd}
use Rattle.onll_model.specs.Frames.{Frame}
use Rattle.onll_model.specs.Object.{Behaviour}
use Rattle.onll_pmem.specs.Pmem.{DeviceView}
use Rattle.onll_log.specs.declared.head.LogHead.{LogHead}
use Rattle.onll_merge.specs.Merge.{top_of}
use Rattle.onll_outside.specs.Views.{StoreView}
use Rattle.onll_shared.specs.Calls.{IsSamePass}
use Rattle.onll_shared.specs.Crash.{AreLeft, IsMoment, PassesRecover}
use Rattle.onll_shared.specs.Passes.{OnllView, PassView}
use Rattle.onll_open.specs.Files.{FilesHold}
use Rattle.onll_open.specs.Opening.{HasOpened}
use Rattle.onll_threads.specs.Acts.{HasActed, seen_in}
use Rattle.onll_serve.specs.Linking.{IsOverFiles}
use Rattle.onll_serve.specs.Lives.{BeginsWithBase, IsLifeFront, ServedGeneration}

module _ {State Op Query Reply Device : Type 0} (b : Behaviour State Op Query Reply) (means : Device → DeviceView)
    (onll : OnllView State) where
  -- A thread at a moment, within a call or between two: these calls were made on its pass and have ended so, and the pass has gone on since
  -- the last of them.
  pub record HasCome (calls : List (Call State Op Query Reply)) (ends : List (CallEnd State Op Query Reply))
      (first now : PassView State Device) : Type 0 where
    pub last : PassView State Device
    pub acted : HasActed b means onll calls ends first last
    pub same : IsSamePass last now
    pub later : seen_in last ≤ seen_in now

  -- so has each thread
  abbrev pub HaveCome : List (List (Call State Op Query Reply)) → List (List (CallEnd State Op Query Reply))
      → (firsts nows : List (PassView State Device)) → Type 0
  HaveCome [] [] [] [] = Unit {0}
  HaveCome (calls ∷ scripts) (es ∷ ends) (first ∷ firsts) (now ∷ nows) =
      HasCome calls es first now × HaveCome scripts ends firsts nows
  HaveCome scripts ends firsts nows = ⊥

-- what threads have done so far at an object of which this is the frame
abbrev pub generation_at : {State Op Query Reply : Type 0} → OnllView State → Frame → List (List (Call State Op Query Reply))
    → List (List (CallEnd State Op Query Reply)) → ServedGeneration State Op Query Reply
generation_at onll f scripts ends = record { base = onll.trace.plan.base; scripts = scripts; trace = f.trace; ends = ends }

module _ {State Op Query Reply Device : Type 0} (b : Behaviour State Op Query Reply) (means : Device → DeviceView) where
  -- Whatever a crash leaves of the devices at a moment recovers to a front of the trace as it then is, with its base and each call that
  -- was answered so far.
  abbrev pub MomentLaw : Type 0
  MomentLaw = (onll : OnllView State) (f : Frame) (scripts : List (List (Call State Op Query Reply)))
      (ends : List (List (CallEnd State Op Query Reply))) (firsts nows : List (PassView State Device))
      → IsMoment onll.trace f nows → HaveCome b means onll scripts ends firsts nows
      → BeginsWithBase (generation_at onll f scripts ends)
      × ((images : List (List (List ℕ))) → AreLeft nows images
      → (r : PassesRecover f nows images) × IsLifeFront (generation_at onll f scripts ends) (take (top_of r.logs) f.trace))

  -- Where the files of an object that was opened hold such images, what its threads had done by then is a generation over them.
  abbrev pub KilledLaw : Type 0
  KilledLaw = (before after : StoreView) (logs : List ℕ) (heads : List LogHead) (state : State) (threads : ℕ) (asked : Option (List ℕ))
      (onll : OnllView State) (firsts : List (PassView State Device))
      → HasOpened b before logs heads means state threads asked onll firsts
      → (f : Frame) (nows : List (PassView State Device)) (scripts : List (List (Call State Op Query Reply)))
      (ends : List (List (CallEnd State Op Query Reply))) (images : List (List (List ℕ)))
      → IsMoment onll.trace f nows → HaveCome b means onll scripts ends firsts nows → AreLeft nows images
      → after.tells ≡ true → FilesHold logs 0 images after → IsOverFiles b logs heads before after (generation_at onll f scripts ends)
