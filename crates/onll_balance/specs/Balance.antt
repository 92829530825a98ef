-- The measure of an object is balanced over any legal history, and over whatever is recovered of one. So is its other bound, and
-- both at once.
use Rattle.std.specs.Prelude.{List, length, take, ◌≡◌, ◌≤◌}
use Rattle.std.specs.List.{AllByRecursion}
use Rattle.onll_model.specs.Object.{Behaviour}
use Rattle.onll_model.specs.declared.node.Node.{Node}
use Rattle.onll_model.specs.declared.call.Call.{Call}
use Rattle.onll_model.specs.declared.call.CallEnd.{CallEnd}
use Rattle.onll_model.specs.Trace.{state_after}
use Rattle.onll_model.specs.Legal.{IsLegal}
use Rattle.onll_run.specs.Outcomes.{StandsIn}
use Rattle.onll_balance.specs.Floor.{Exact, Floor, IsExact, LosesNone, NoneFailed}
use Rattle.onll_balance.specs.Measure.{Measure, IsBalanced}

module _ {State Op Query Reply : Type 0} (b : Behaviour State Op Query Reply) (m : Measure b) where
  -- Threads go on from a base. These nodes are a front of all that they did, with the base and every answered call. Then the measure is
  -- balanced over the threads, from the base to these nodes.
  abbrev pub FrontBalanceLaw : Type 0
  FrontBalanceLaw = (first : State) (base : List Node) (scripts : List (List (Call State Op Query Reply))) (trace : List Node)
      (ends : List (List (CallEnd State Op Query Reply))) (nodes : List Node) → IsLegal b first base scripts trace ends
      → take (length nodes) trace ≡ nodes → length base ≤ length nodes
      → AllByRecursion (λ (es : List (CallEnd State Op Query Reply)). AllByRecursion (StandsIn (length nodes)) es) ends
      → IsBalanced m (state_after b first base) scripts ends (state_after b first nodes)

  -- So it is over all that they did.
  abbrev pub WholeBalanceLaw : Type 0
  WholeBalanceLaw = (first : State) (base : List Node) (scripts : List (List (Call State Op Query Reply))) (trace : List Node)
      (ends : List (List (CallEnd State Op Query Reply))) → IsLegal b first base scripts trace ends
      → IsBalanced m (state_after b first base) scripts ends (state_after b first trace)

module _ {State Op Query Reply : Type 0} (b : Behaviour State Op Query Reply) (f : Floor b) where
  -- The same of the other bound: nothing is lost of what there was and what was put in.
  abbrev pub FrontFloorLaw : Type 0
  FrontFloorLaw = (first : State) (base : List Node) (scripts : List (List (Call State Op Query Reply))) (trace : List Node)
      (ends : List (List (CallEnd State Op Query Reply))) (nodes : List Node) → IsLegal b first base scripts trace ends
      → take (length nodes) trace ≡ nodes → length base ≤ length nodes
      → AllByRecursion (λ (es : List (CallEnd State Op Query Reply)). AllByRecursion (StandsIn (length nodes)) es) ends
      → LosesNone f (state_after b first base) scripts ends (state_after b first nodes)

  -- So it is over all that they did.
  abbrev pub WholeFloorLaw : Type 0
  WholeFloorLaw = (first : State) (base : List Node) (scripts : List (List (Call State Op Query Reply))) (trace : List Node)
      (ends : List (List (CallEnd State Op Query Reply))) → IsLegal b first base scripts trace ends
      → LosesNone f (state_after b first base) scripts ends (state_after b first trace)

module _ {State Op Query Reply : Type 0} (b : Behaviour State Op Query Reply) (e : Exact b) where
  -- Where no fence failed, both are one equation.
  abbrev pub FrontExactLaw : Type 0
  FrontExactLaw = (first : State) (base : List Node) (scripts : List (List (Call State Op Query Reply))) (trace : List Node)
      (ends : List (List (CallEnd State Op Query Reply))) (nodes : List Node) → IsLegal b first base scripts trace ends
      → take (length nodes) trace ≡ nodes → length base ≤ length nodes
      → AllByRecursion (λ (es : List (CallEnd State Op Query Reply)). AllByRecursion (StandsIn (length nodes)) es) ends
      → NoneFailed ends → IsExact e (state_after b first base) scripts ends (state_after b first nodes)

  -- So it is over all that they did.
  abbrev pub WholeExactLaw : Type 0
  WholeExactLaw = (first : State) (base : List Node) (scripts : List (List (Call State Op Query Reply))) (trace : List Node)
      (ends : List (List (CallEnd State Op Query Reply))) → IsLegal b first base scripts trace ends
      → NoneFailed ends → IsExact e (state_after b first base) scripts ends (state_after b first trace)
