use Rattle.std.specs.Prelude.{ℕ, List, length}
use Rattle.onll_model.specs.declared.call.Call.{Call}
use Rattle.onll_model.specs.declared.node.Node.{Node}
use Rattle.onll_model.specs.Object.{Behaviour}
use Rattle.onll_model.specs.Segment.{Segment}
use Rattle.onll_log.specs.declared.head.LogHead.{LogHead}
use Rattle.onll_core.specs.Core.{CoreState}
use Rattle.onll_core.specs.Step.{step_of, steps_of}
use Rattle.onll_core.specs.StepEvent.{event_of, IsEvent}
use Rattle.onll_core.specs.First.{first_core, AreFirst}
use Rattle.onll_core.specs.Created.{created_core, IsWithinLimits}
use Rattle.onll_core.specs.Resumed.{resumed_core, AreResumed}
use Rattle.onll_core.specs.Fences.{CountsFences}
use Rattle.onll_core.specs.Entries.{EntriesAreFew}
use Rattle.onll_core.specs.Consistent.{IsConsistent}
use Rattle.onll_core.specs.Stays.{Stays}

-- Laws of the step core, whatever the object and whatever threads take steps.

module _ (State Op Query Reply : Type 0) where
  -- the first state of a core that begins anew is consistent, and its threads have made no fence but their heads'
  abbrev pub FirstLaw : Type 0
  FirstLaw = (count : ℕ) (initial : State) (heads : List LogHead) (scripts : List (List (Call State Op Query Reply)))
      → AreFirst count heads scripts → IsConsistent count (first_core initial heads scripts)

  abbrev pub FirstFencesLaw : Type 0
  FirstFencesLaw = (count : ℕ) (initial : State) (heads : List LogHead)
      (scripts : List (List (Call State Op Query Reply))) → AreFirst count heads scripts
      → CountsFences (first_core initial heads scripts)

  -- such as the one that is made of scripts within the limits
  abbrev pub CreatedCoreLaw : Type 0
  CreatedCoreLaw = (initial : State) (object : ℕ) (init : List ℕ) (scripts : List (List (Call State Op Query Reply)))
      → IsWithinLimits object scripts → IsConsistent (length scripts) (created_core initial object init scripts)

  abbrev pub CreatedFencesLaw : Type 0
  CreatedFencesLaw = (initial : State) (object : ℕ) (init : List ℕ) (scripts : List (List (Call State Op Query Reply)))
      → IsWithinLimits object scripts → CountsFences (created_core initial object init scripts)

  -- so is that of a core that goes on, which has made none
  abbrev pub ResumedCoreLaw : Type 0
  ResumedCoreLaw = (count : ℕ) (initial : State) (base : List Node) (heads : List LogHead) (logs : List (List Segment))
      (scripts : List (List (Call State Op Query Reply))) → AreResumed count base heads logs scripts
      → IsConsistent count (resumed_core initial base heads logs scripts)

  abbrev pub ResumedFencesLaw : Type 0
  ResumedFencesLaw = (count : ℕ) (initial : State) (base : List Node) (heads : List LogHead)
      (logs : List (List Segment)) (scripts : List (List (Call State Op Query Reply)))
      → AreResumed count base heads logs scripts
      → CountsFences (resumed_core initial base heads logs scripts)

  -- no entry of a consistent core, fenced or being written, holds more nodes than there are threads
  abbrev pub EntryBoundLaw : Type 0
  EntryBoundLaw = (count : ℕ) (c : CoreState State Op Query Reply) → IsConsistent count c → EntriesAreFew count c

module _ {State Op Query Reply : Type 0} (b : Behaviour State Op Query Reply) where
  -- a step of a thread is its event
  abbrev pub StepEventLaw : Type 0
  StepEventLaw = (count : ℕ) (c : CoreState State Op Query Reply) (t : ℕ) → IsConsistent count c
      → IsEvent c (step_of b c t) (event_of b c t)

  -- each step keeps a core consistent, and so do all steps
  abbrev pub CoreStepLaw : Type 0
  CoreStepLaw = (count : ℕ) (c : CoreState State Op Query Reply) (t : ℕ) → IsConsistent count c → IsConsistent count (step_of b c t)

  abbrev pub StepsLaw : Type 0
  StepsLaw = (count : ℕ) (c : CoreState State Op Query Reply) (ts : List ℕ) → IsConsistent count c → IsConsistent count (steps_of b c ts)

  -- steps keep the count of fences
  abbrev pub FencesLaw : Type 0
  FencesLaw = (c : CoreState State Op Query Reply) (ts : List ℕ) → CountsFences c → CountsFences (steps_of b c ts)

  -- steps leave the initial state, the base, heads and scripts; they add nodes, flags and returned calls, and take none back
  abbrev pub StaysLaw : Type 0
  StaysLaw = (c : CoreState State Op Query Reply) (ts : List ℕ) → Stays c (steps_of b c ts)
