use Rattle.std.specs.Prelude.{ℕ, ◌≡◌, ◌+◌, ◌≤◌, length, count_by, Some, slice_get}
use Rattle.onll_model.specs.Limits.{most_threads, most_updates}
use Rattle.std.specs.List.{AllByRecursion}
use Rattle.onll_model.specs.declared.node.Node.{Node}
use Rattle.onll_model.specs.Trace.{is_of_thread}
use Rattle.onll_model.specs.Frames.{Sound, Based}
use Rattle.onll_core.specs.Core.{CoreThread, CoreState}
use Rattle.onll_core.specs.CoreFrame.{pending_in, frame_of}
use Rattle.onll_core.specs.Tie.{updates_to_link, IsTiedDevice}

-- each thread has this fact, with its number
abbrev pub EachCoreThread : {State Op Query Reply : Type 0} → CoreState State Op Query Reply
    → (ℕ → CoreThread State Op Query Reply → Type 0) → Type 0
EachCoreThread {State} {Op} {Query} {Reply} c P = (t : ℕ) (th : CoreThread State Op Query Reply) → slice_get c.threads t ≡ Some th → P t th

-- What every step keeps: the frame is sound and goes on from the base, each device is tied to its log, and no thread has
-- more than 4,096 updates, so that each node has a name.
pub record IsConsistent {State Op Query Reply : Type 0} (count : ℕ) (c : CoreState State Op Query Reply) : Type 0 where
  pub sound : Sound count (frame_of c)
  pub based : Based c.base (frame_of c)
  pub rows : AllByRecursion (λ (n : Node). length n.row.w ≡ 7) c.trace
  pub few : count ≤ most_threads
  pub numbers : EachCoreThread c (λ t th. count_by (is_of_thread t) c.trace + updates_to_link th th.phase ≤ most_updates)
  pub tied : EachCoreThread c (λ t th. IsTiedDevice count t (pending_in c.trace th.phase) th th.phase)
