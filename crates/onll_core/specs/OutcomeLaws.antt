use Rattle.std.specs.Prelude.{ℕ, List, length}
use Rattle.onll_model.specs.declared.node.Node.{Node}
use Rattle.onll_model.specs.declared.call.Call.{Call}
use Rattle.onll_model.specs.Object.{Behaviour}
use Rattle.onll_model.specs.Segment.{Segment}
use Rattle.onll_log.specs.declared.head.LogHead.{LogHead}
use Rattle.onll_core.specs.Core.{CoreState}
use Rattle.onll_core.specs.Step.{step_of, steps_of}
use Rattle.onll_core.specs.First.{first_core, AreFirst}
use Rattle.onll_core.specs.Created.{created_core, IsWithinLimits}
use Rattle.onll_core.specs.Resumed.{resumed_core, AreResumed}
use Rattle.onll_core.specs.Consistent.{IsConsistent}
use Rattle.onll_core.specs.Outcomes.{IsLegalCore, IsFreshCore}
use Rattle.onll_core.specs.CallTimes.{AreInTime}
use Rattle.onll_core.specs.Returns.{OrderedReturn}
use Rattle.onll_core.specs.Reached.{IsReached}

-- Laws of the calls of a step core, whatever the object and whatever threads take steps.

module _ {State Op Query Reply : Type 0} (b : Behaviour State Op Query Reply) where
  -- the first state of a core that begins anew is reached
  abbrev pub FirstReachedLaw : Type 0
  FirstReachedLaw = (count : ℕ) (initial : State) (heads : List LogHead)
      (scripts : List (List (Call State Op Query Reply))) → AreFirst count heads scripts
      → IsReached b count (first_core initial heads scripts)

  -- so is that of a core that is made of scripts within the limits
  abbrev pub CreatedReachedLaw : Type 0
  CreatedReachedLaw = (initial : State) (object : ℕ) (init : List ℕ) (scripts : List (List (Call State Op Query Reply)))
      → IsWithinLimits object scripts → IsReached b (length scripts) (created_core initial object init scripts)

  -- and that of a core that goes on from recovered logs
  abbrev pub ResumedReachedLaw : Type 0
  ResumedReachedLaw = (count : ℕ) (initial : State) (base : List Node) (heads : List LogHead)
      (logs : List (List Segment)) (scripts : List (List (Call State Op Query Reply)))
      → AreResumed count base heads logs scripts
      → IsReached b count (resumed_core initial base heads logs scripts)

  -- so is every consistent state in which no call has begun
  abbrev pub FreshReachedLaw : Type 0
  FreshReachedLaw = (count : ℕ) (c : CoreState State Op Query Reply) → IsConsistent count c → IsFreshCore c → IsReached b count c

  -- and what a step leads to from a state that is reached, and what steps do
  abbrev pub StepReachedLaw : Type 0
  StepReachedLaw = (count : ℕ) (c : CoreState State Op Query Reply) (t : ℕ) → IsReached b count c → IsReached b count (step_of b c t)

  abbrev pub StepsReachedLaw : Type 0
  StepsReachedLaw = (count : ℕ) (c : CoreState State Op Query Reply) (ts : List ℕ) → IsReached b count c
      → IsReached b count (steps_of b c ts)

  -- a state that is reached is consistent
  abbrev pub ReachedConsistentLaw : Type 0
  ReachedConsistentLaw = (count : ℕ) (c : CoreState State Op Query Reply) → IsReached b count c → IsConsistent count c

  -- its outcomes and its trace are a legal report
  abbrev pub ReportLaw : Type 0
  ReportLaw = (count : ℕ) (c : CoreState State Op Query Reply) → IsReached b count c → IsLegalCore b c

  -- its calls stand in one order as they were made
  abbrev pub OrderLaw : Type 0
  OrderLaw = (count : ℕ) (c : CoreState State Op Query Reply) → IsReached b count c → AreInTime c

  -- its ordered calls return
  abbrev pub ReturnLaw : Type 0
  ReturnLaw = (count : ℕ) (c : CoreState State Op Query Reply) → IsReached b count c → OrderedReturn b count c
