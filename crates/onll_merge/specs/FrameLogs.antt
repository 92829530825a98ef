use Rattle.std.specs.Prelude.{◌≡◌, ℕ, ◌≤◌, ◌⊎◌, List, [], ◌∷◌, length, take, Some, Ok}
use Rattle.onll_model.specs.Frames.{Thread, Frame, Sound, IsAvailable, segments_of}
use Rattle.onll_log.specs.declared.head.LogHead.{LogHead}
use Rattle.onll_log.specs.Grammar.{Content}
use Rattle.onll_merge.specs.Merge.{merge, top_of}

-- What a crash leaves in the logs of a frame's threads, and what these merge to.

-- a log that is left of a thread: with its head, the fenced segments, or these and the pending one
pub record IsLogOf (th : Thread) (head : LogHead) (log : Content) : Type 0 where
  pub head_kept : log.head ≡ Some head
  pub segments : (log.entries ≡ th.fenced) ⊎ (log.entries ≡ segments_of th)

-- one log for each thread, each by itself
abbrev pub AreLogsOf : List Thread → List LogHead → List Content → Type 0
AreLogsOf [] [] [] = Unit {0}
AreLogsOf (th ∷ ths) (head ∷ heads) (log ∷ logs) = IsLogOf th head log × AreLogsOf ths heads logs
AreLogsOf ths heads logs = ⊥

-- the logs merge to a front of the frame's trace, which holds each available place
pub record MergeToFront (f : Frame) (heads : List LogHead) (logs : List Content) : Type 0 where
  pub merged : merge heads logs ≡ Ok (take (top_of logs) f.trace)
  pub within : top_of logs ≤ length f.trace
  pub available : (p : ℕ) → IsAvailable f p → p ≤ top_of logs

-- whatever is left of the threads of a sound frame
abbrev pub FrameLogsLaw : Type 0
FrameLogsLaw = (count : ℕ) (f : Frame) (heads : List LogHead) (logs : List Content) → Sound count f
    → AreLogsOf f.threads heads logs → MergeToFront f heads logs
