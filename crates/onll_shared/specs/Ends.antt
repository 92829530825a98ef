-- A shared object at its end.
use Rattle.std.specs.Prelude.{ℕ, false, List, [], ◌∷◌, ◌≡◌, ◌≤◌, ◌↔◌, length, map, Option, Some, Ok}
use Rattle.std.specs.List.{Contains}
use Rattle.onll_model.specs.Frames.{is_available}
use Rattle.onll_log.specs.Log.{LogState}
use Rattle.onll_log.specs.Grammar.{Content}
use Rattle.onll_merge.specs.Merge.{merge}
use Rattle.onll_trace.specs.declared.trace.Ended.{Ended}
use Rattle.onll_trace.specs.declared.trace.Post.{Post}
use Rattle.onll_trace.specs.Spots.{SpotView, TraceView}
use Rattle.onll_trace.specs.Closing.{HasEnded}
use Rattle.onll_shared.specs.Passes.{PassView, IsReady, spot_of}
use Rattle.onll_shared.specs.Crash.{IsMoment, head_of}

-- a pass without its spot
pub record RestView (State Device : Type 0) : Type 0 where
  pub log : LogState Device
  pub replica : State
  pub at : ℕ
  pub room : ℕ
  pub broken : Option ℕ
  pub seen : ℕ
  pub list : List Post
  pub list_room : ℕ

abbrev pub log_in : {State Device : Type 0} → RestView State Device → LogState Device
log_in rest = rest.log

abbrev pub join : {State Device : Type 0} → SpotView → RestView State Device → PassView State Device
join spot rest = record { spot = spot; log = rest.log; replica = rest.replica; at = rest.at; room = rest.room; broken = rest.broken }

-- the passes that spots and rests make
abbrev pub joined : {State Device : Type 0} → List SpotView → List (RestView State Device) → List (PassView State Device)
joined [] rests = []
joined (s ∷ spots) [] = []
joined (s ∷ spots) (r ∷ rests) = join s r ∷ joined spots rests

abbrev pub IsReadyFor : {State Device : Type 0} → SpotView → RestView State Device → Type 0
IsReadyFor s r = IsReady s r.seen r.list r.list_room

-- each spot has its rest
abbrev pub AreReady : {State Device : Type 0} → List SpotView → List (RestView State Device) → Type 0
AreReady [] [] = Unit {0}
AreReady [] (r ∷ rests) = ⊥
AreReady (s ∷ spots) [] = ⊥
AreReady (s ∷ spots) (r ∷ rests) = IsReadyFor s r × AreReady spots rests

-- ---- what a shared object is at its end
abbrev pub broken_of : {State Device : Type 0} → PassView State Device → Option ℕ
broken_of pass = pass.broken

-- what a pass's log reads as
abbrev pub content_in : {State Device : Type 0} → PassView State Device → Content
content_in pass = record { head = Some pass.log.head; entries = pass.log.entries }

-- The trace at its end: a node above the base has its flag unset exactly where a pass is broken at its place, and the logs as read
-- merge to the trace.
pub record HasClosed {State Device : Type 0} (b : TraceView) (passes : List (PassView State Device)) (trace : List Ended) : Type 0 where
  pub ended : HasEnded b (map spot_of passes) trace
  pub flags : (p : ℕ) → 1 ≤ p → p ≤ length ended.frame.trace
      → (is_available ended.frame.flags p ≡ false) ↔ Contains (map broken_of passes) (Some p)
  pub merged : merge (map head_of passes) (map content_in passes) ≡ Ok ended.frame.trace
  pub moment : IsMoment b ended.frame passes
