use Rattle.std.specs.Prelude.{◌≡◌, ◌≤◌, List, [], ◌∷◌, ◌++◌, length, map, take}
use Rattle.onll_model.specs.declared.call.Call.{Call}
use Rattle.onll_model.specs.declared.call.CallEnd.{CallEnd}
use Rattle.onll_model.specs.declared.call.CallEnd.TheVariants as ends
use Rattle.onll_model.specs.Object.{Behaviour}
use Rattle.onll_model.specs.Legal.{IsLegal}
use Rattle.onll_core.specs.declared.phase.Phase.{Phase}
use Rattle.onll_core.specs.declared.phase.Phase.TheVariants as phases
use Rattle.onll_core.specs.declared.returned.Returned.{Returned}
use Rattle.onll_core.specs.declared.returned.Current.{Current}
use Rattle.onll_core.specs.declared.returned.Current.TheVariants as currents
use Rattle.onll_core.specs.Core.{CoreThread, CoreState}
use Rattle.onll_core.specs.Consistent.{EachCoreThread}

-- What a core's state says of its calls: a thread's returned calls in their order, and what its running call is.

abbrev pub current_in : Phase → Current
current_in phases.Idle = currents.Idle
current_in (phases.Tail l) = currents.Running
current_in (phases.Exchange l) = currents.Running
current_in (phases.Flag p d) = currents.Ordered p
current_in (phases.Line p d k) = currents.Ordered p
current_in (phases.Back p d k) = currents.Ordered p
current_in (phases.Fence p d) = currents.Ordered p
current_in (phases.Set p d) = currents.Ordered p
current_in (phases.Ask f d) = currents.Running

-- what a thread's next call is about
abbrev pub current_of : {State Op Query Reply : Type 0} → CoreThread State Op Query Reply → Current
current_of th = current_in th.phase

-- the outcome of a returned call
abbrev pub returned_end : {State Op Query Reply : Type 0} → Returned State Op Query Reply → CallEnd State Op Query Reply
returned_end r = ends.Answered r.reply r.place

-- the outcome of the call that has begun and not returned, if there is one
abbrev pub current_ends : {State Op Query Reply : Type 0} → Current → List (CallEnd State Op Query Reply)
current_ends currents.Idle = []
current_ends currents.Running = ends.Running ∷ []
current_ends (currents.Ordered p) = ends.Ordered p ∷ []

-- the outcomes of a thread's calls that have begun
abbrev pub ends_of : {State Op Query Reply : Type 0} → CoreThread State Op Query Reply → List (CallEnd State Op Query Reply)
ends_of th = map returned_end th.returned ++ current_ends (current_of th)

abbrev pub script_of : {State Op Query Reply : Type 0} → CoreThread State Op Query Reply → List (Call State Op Query Reply)
script_of th = th.script

-- the outcomes and the trace of a core are a legal report
abbrev pub IsLegalCore : {State Op Query Reply : Type 0} → Behaviour State Op Query Reply → CoreState State Op Query Reply → Type 0
IsLegalCore b c = IsLegal b c.initial (take c.base c.trace) (map script_of c.threads) c.trace (map ends_of c.threads)

-- No call has begun since the base, which is the whole trace, and no fence was made in this generation.
pub record IsFreshCore {State Op Query Reply : Type 0} (c : CoreState State Op Query Reply) : Type 0 where
  pub trace : length c.trace ≡ c.base
  pub returned : EachCoreThread c (λ t th. th.returned ≡ [])
  pub idle : EachCoreThread c (λ t th. th.phase ≡ phases.Idle)
  pub began : EachCoreThread c (λ t th. th.began ≤ c.clock)
  pub fences : EachCoreThread c (λ t th. th.device.fences ≡ th.before)
