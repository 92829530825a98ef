use Rattle.std.specs.Prelude.{ℕ, ◌≡◌, ◌==◌, ◌+◌, ◌*◌, ◌≤◌, List, length, count_by, Some, slice_get}
use Rattle.onll_model.specs.Object.{Behaviour}
use Rattle.onll_core.specs.declared.returned.Current.TheVariants as currents
use Rattle.onll_core.specs.Step.{steps_of}
use Rattle.onll_core.specs.Outcomes.{current_of}
use Rattle.onll_core.specs.declared.returned.Returned.{Returned}
use Rattle.onll_core.specs.Core.{CoreThread, CoreState}

-- That a call returns, and in how many steps of its thread.

-- how many of these steps are the thread's own
abbrev pub own_steps : ℕ → List ℕ → ℕ
own_steps t ts = count_by (λ u. u == t) ts

-- the call of this number of thread t has returned, at this place
pub record HasReturned {State Op Query Reply : Type 0} (c : CoreState State Op Query Reply) (t number place : ℕ) : Type 0 where
  pub thread : CoreThread State Op Query Reply
  pub there : slice_get c.threads t ≡ Some thread
  pub call : Returned State Op Query Reply
  pub here : slice_get thread.returned number ≡ Some call
  pub at : call.place ≡ place

-- An ordered call has returned, at its place, after 3 * count + 4 steps of its thread, whatever steps others take between.
abbrev pub OrderedReturn : {State Op Query Reply : Type 0} → Behaviour State Op Query Reply → ℕ → CoreState State Op Query Reply → Type 0
OrderedReturn {State} {Op} {Query} {Reply} b count c =
    (t place : ℕ) (th : CoreThread State Op Query Reply) (ts : List ℕ) → slice_get c.threads t ≡ Some th
    → current_of th ≡ currents.Ordered place → 3 * count + 4 ≤ own_steps t ts → HasReturned (steps_of b c ts) t (length th.returned) place
