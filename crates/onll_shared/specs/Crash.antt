-- What a crash leaves of the logs of a shared object's passes, and what is recovered of them.
use Rattle.std.specs.Prelude.{ℕ, List, [], ◌∷◌, ◌++◌, ◌≡◌, ◌≤◌, ◌⊎◌, length, map, take, Some, Ok}
use Rattle.std.specs.List.{AllByRecursion}
use Rattle.onll_model.specs.Segment.{Segment}
use Rattle.onll_model.specs.Frames.{Thread, Frame, IsAvailable, segments_of}
use Rattle.onll_model.specs.FrameLaws.{SoundOver}
use Rattle.onll_model.specs.Object.{Behaviour}
use Rattle.onll_pmem.specs.Device.{Mixed, zero_lines}
use Rattle.onll_pmem.specs.Pmem.{DeviceView, Told}
use Rattle.onll_log.specs.declared.head.LogHead.{LogHead}
use Rattle.onll_log.specs.Head.{FitsHead}
use Rattle.onll_log.specs.Encoding.{FitEntries, entry_lines, log_lines}
use Rattle.onll_log.specs.Grammar.{Content, content_of}
use Rattle.onll_log.specs.Torn.{Among, log_image}
use Rattle.onll_merge.specs.Merge.{merge, top_of}
use Rattle.onll_trace.specs.Plans.{base_place}
use Rattle.onll_trace.specs.Spots.{TraceView, IsLawful}
use Rattle.onll_trace.specs.Closing.{AreAll, IsIn}
use Rattle.onll_shared.specs.Passes.{OnllView, PassView, IsTied, spot_of}

abbrev pub head_of : {State Device : Type 0} → PassView State Device → LogHead
head_of pass = pass.log.head

-- The log of a thread with this part, at any moment: its head is of the newest format, and its entries can hold the thread's segments.
pub record IsLogOfPart (head : LogHead) (part : Thread) : Type 0 where
  pub fits : FitsHead head
  pub format : head.format ≡ 2
  pub fit : FitEntries head.threads (segments_of part)

-- an image of the log while nothing is written behind the fenced segments
pub record IsWhole (head : LogHead) (part : Thread) (image : List (List ℕ)) : Type 0 where
  pub zeros : ℕ
  pub image_is : image ≡ log_image head part.fenced zeros

-- An image of the log while the entry of the pending segment is written, or after its fence failed: some of its words are written
-- behind the fenced segments, and each word of the image is, by itself, the one before or the one that was written.
pub record IsTorn (head : LogHead) (part : Thread) (image : List (List ℕ)) : Type 0 where
  pub segment : Segment
  pub pending : part.pending ≡ Some segment
  pub before : ℕ
  pub after : ℕ
  pub written : List (List ℕ)
  pub among : Among (entry_lines head (length part.fenced) segment ++ zero_lines after) written
  pub mixed : Mixed (log_image head part.fenced before) (log_lines head part.fenced ++ written) image

-- what a crash may leave of the log
abbrev pub IsLeft : LogHead → Thread → List (List ℕ) → Type 0
IsLeft head part image = IsWhole head part image ⊎ IsTorn head part image

-- one image for each pass, each by itself
abbrev pub AreLeft : {State Device : Type 0} → List (PassView State Device) → List (List (List ℕ)) → Type 0
AreLeft [] [] = Unit {0}
AreLeft [] (image ∷ images) = ⊥
AreLeft (p ∷ ps) [] = ⊥
AreLeft (p ∷ ps) (image ∷ images) = IsLeft p.log.head p.spot.me.part image × AreLeft ps images

abbrev pub HasLog : {State Device : Type 0} → PassView State Device → Type 0
HasLog pass = IsLogOfPart pass.log.head pass.spot.me.part

-- The passes of an object at one moment, between their calls or within them: the frame that the trace shows is sound, as it always
-- is, and has each pass's part.
pub record IsMoment {State Device : Type 0} (b : TraceView) (f : Frame) (passes : List (PassView State Device)) : Type 0 where
  pub sound : SoundOver b.plan.threads (base_place b.plan) f
  pub all : AreAll b (map spot_of passes)
  pub shown : AllByRecursion (IsIn f) (map spot_of passes)
  pub lawful : AllByRecursion IsLawful (map spot_of passes)
  pub logs : AllByRecursion HasLog passes

-- all that the pass has seen is among the first nodes of the trace, as many as these, and is what the pass knows
pub record IsKept {State Device : Type 0} (f : Frame) (top : ℕ) (pass : PassView State Device) : Type 0 where
  pub within : pass.spot.me.part.seen ≤ top
  pub same : take pass.spot.me.part.seen (take top f.trace) ≡ take pass.spot.me.part.seen pass.spot.known

-- The images are logs, which merge to the first nodes of the trace. These have every place that is available, and all that any
-- pass has seen: each update that was answered, and all that a read saw.
pub record PassesRecover {State Device : Type 0} (f : Frame) (passes : List (PassView State Device))
    (images : List (List (List ℕ))) : Type 0 where
  pub logs : List Content
  pub contents : map content_of images ≡ map Some logs
  pub merged : merge (map head_of passes) logs ≡ Ok (take (top_of logs) f.trace)
  pub within : top_of logs ≤ length f.trace
  pub available : (p : ℕ) → IsAvailable f p → p ≤ top_of logs
  pub seen : AllByRecursion (IsKept f (top_of logs)) passes

-- Whatever a crash leaves at any moment recovers.
abbrev pub SharedCrashLaw : (State Device : Type 0) → Type 0
SharedCrashLaw State Device = (b : TraceView) (f : Frame) (passes : List (PassView State Device))
    (images : List (List (List ℕ))) → IsMoment b f passes → AreLeft passes images → PassesRecover f passes images

module _ {State Op Query Reply Device : Type 0} (b : Behaviour State Op Query Reply) (means : Device → DeviceView) where
  -- Between its calls a pass has such a log,
  abbrev pub LogLaw : Type 0
  LogLaw = (onll : OnllView State) (pass : PassView State Device) → IsTied b means onll pass → HasLog pass

  -- and every image that its device may then leave, where it tells its fenced words, is one that a crash may leave.
  abbrev pub SharedImageLaw : Type 0
  SharedImageLaw = (onll : OnllView State) (pass : PassView State Device) (told : Told) (image : List (List ℕ))
      → IsTied b means onll pass → (means pass.log.device).told ≡ Some told
      → Mixed told.fenced (means pass.log.device).read image → IsLeft pass.log.head pass.spot.me.part image
