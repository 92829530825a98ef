use Rattle.std.specs.Prelude.{ℕ, ◌≡◌, List, [], ◌∷◌, ◌++◌, length, Some, None}
use Rattle.std.specs.List.{flat_map}
use Rattle.onll_model.specs.declared.call.Call.{Call}
use Rattle.onll_model.specs.declared.call.Call.TheVariants.{Update, Ask}
use Rattle.onll_model.specs.RealTime.{Stand, NodeAt, ReadAt, TimedCall, IsInRealTime, StandApart, AreInTurn}
use Rattle.onll_core.specs.declared.returned.Returned.{Returned}
use Rattle.onll_core.specs.declared.returned.Current.{Current}
use Rattle.onll_core.specs.declared.returned.Current.TheVariants as currents
use Rattle.onll_core.specs.Core.{CoreThread, CoreState}
use Rattle.onll_core.specs.Consistent.{EachCoreThread}
use Rattle.onll_core.specs.Outcomes.{current_of, ends_of}

-- Where the calls of a core stand, and when they were made.

-- an update stands at its node, a read after the node of its place
abbrev pub stand_of : {State Op Query Reply : Type 0} → Call State Op Query Reply → Returned State Op Query Reply → Stand
stand_of (Update op) r = NodeAt r.place
stand_of (Ask query) r = ReadAt r.place r.ended

abbrev pub returned_call : {State Op Query Reply : Type 0} → Call State Op Query Reply → Returned State Op Query Reply → TimedCall
returned_call call r = record { stand = Some (stand_of call r); began = r.began; ended = Some r.ended }

-- the returned calls of a thread
abbrev pub returned_calls : {State Op Query Reply : Type 0} → List (Call State Op Query Reply)
    → List (Returned State Op Query Reply) → List TimedCall
returned_calls [] rs = []
returned_calls (call ∷ calls) [] = []
returned_calls (call ∷ calls) (r ∷ rs) = returned_call call r ∷ returned_calls calls rs

-- the call that began at this clock and has not returned, if there is one
abbrev pub current_calls : ℕ → Current → List TimedCall
current_calls began currents.Idle = []
current_calls began currents.Running = record { stand = None; began = began; ended = None } ∷ []
current_calls began (currents.Ordered place) = record { stand = Some (NodeAt place); began = began; ended = None } ∷ []

-- the calls of a thread that have begun
abbrev pub timed_calls : {State Op Query Reply : Type 0} → CoreThread State Op Query Reply → List TimedCall
timed_calls th = returned_calls th.script th.returned ++ current_calls th.began (current_of th)

-- of all threads
abbrev pub calls_of : {State Op Query Reply : Type 0} → CoreState State Op Query Reply → List TimedCall
calls_of c = flat_map timed_calls c.threads

-- The calls of a core stand in one order, as they were made; none that has begun is left out.
pub record AreInTime {State Op Query Reply : Type 0} (c : CoreState State Op Query Reply) : Type 0 where
  pub all : EachCoreThread c (λ t th. length (timed_calls th) ≡ length (ends_of th))
  pub turns : EachCoreThread c (λ t th. AreInTurn (timed_calls th))
  pub in_time : IsInRealTime (calls_of c)
  pub apart : StandApart (calls_of c)
