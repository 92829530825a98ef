use Rattle.std.specs.Prelude.{ℕ, false, ◌≡◌, ◌≢◌, ◌<◌, List, [], length, take, replicate, Some, slice_get}
use Rattle.std.specs.List.{AllByRecursion}
use Rattle.onll_model.specs.declared.node.Node.{Node}
use Rattle.onll_model.specs.Trace.{IsNumbered, node_at}
use Rattle.onll_model.specs.Segment.{Segment, Covers, Rises}
use Rattle.onll_model.specs.Frames.{Frame, Sound, Based, IsAvailable, is_available, IsSoundSegment, fenced_segments, resumed_frame}
use Rattle.onll_model.specs.Events.{Event, Possible, after, thread_of}

-- Laws of frames, whatever code shows them.

-- the frame is sound and goes on from b nodes
pub record SoundOver (count b : ℕ) (f : Frame) : Type 0 where
  pub sound : Sound count f
  pub based : Based b f

-- each event that may come keeps a frame sound, and its base
abbrev pub EventLaw : Type 0
EventLaw = (count b : ℕ) (f : Frame) (e : Event) → SoundOver count b f → Possible f e → SoundOver count b (after b f e)

-- A run of `count` threads can go on from the base: it is numbered and of these threads, whose segments are its own, rise,
-- and hold all its places.
pub record IsResumable (count : ℕ) (base : List Node) (logs : List (List Segment)) : Type 0 where
  pub threads : length logs ≡ count
  pub numbered : IsNumbered base
  pub below : AllByRecursion (λ (x : Node). x.thread < count) base
  pub segments : AllByRecursion (λ (ss : List Segment). AllByRecursion
      (IsSoundSegment count base (fenced_segments (resumed_frame base logs).threads)) ss) logs
  pub rising : AllByRecursion (λ (ss : List Segment). Rises 0 ss) logs
  pub covered : Covers (fenced_segments (resumed_frame base logs).threads) (length base)

-- the first frame over such a base is sound
abbrev pub ResumedLaw : Type 0
ResumedLaw = (count : ℕ) (base : List Node) (logs : List (List Segment)) → IsResumable count base logs
    → SoundOver count (length base) (resumed_frame base logs)

-- so is the first frame of a run that begins anew
abbrev pub CreatedLaw : Type 0
CreatedLaw = (count : ℕ) → SoundOver count 0 (resumed_frame [] (replicate count []))

-- What an event of thread t does at most: the trace and the flags grow, the thread sets only flags of its own nodes, and the
-- parts of other threads stay.
pub record IsStepOf (t : ℕ) (old new : Frame) : Type 0 where
  pub trace : take (length old.trace) new.trace ≡ old.trace
  pub flags : (p : ℕ) → IsAvailable old p → IsAvailable new p
  pub own : (p : ℕ) (x : Node) → node_at new.trace p ≡ Some x → is_available old.flags p ≡ false → IsAvailable new p → x.thread ≡ t
  pub others : (u : ℕ) → u ≢ t → slice_get new.threads u ≡ slice_get old.threads u

abbrev pub StepLaw : Type 0
StepLaw = (count b : ℕ) (f : Frame) (e : Event) → Sound count f → IsStepOf (thread_of e) f (after b f e)
