use Rattle.std.proofs.Common.{ℕ, ◌+◌, ◌-◌, ◌==◌, nat_le, Bool, true, false, if◌then◌else◌, List, [], ◌∷◌, ◌++◌, length, Option, Some, None, IsSome, refl, sym, subst}
use Rattle.std.specs.List.{AllByRecursion, slice_get}
use Rattle.onll_model.specs.declared.node.Node.{Node}
use Rattle.onll_model.specs.declared.call.Call.{Call}
use Rattle.onll_model.specs.declared.call.Call.TheVariants.{Update, Ask}
use Rattle.onll_model.specs.Object.{Behaviour}
use Rattle.onll_model.specs.Frames.{is_available}
use Rattle.onll_model.specs.Events.{next_node}
use Rattle.onll_core.specs.declared.phase.Phase.{Phase}
use Rattle.onll_core.specs.declared.phase.Phase.TheVariants as phases
use Rattle.onll_core.specs.Core.{CoreThread, CoreState}
use Rattle.onll_core.specs.Step.{turned, begun, put, linked, after_exchange, answered, act, next_call, step_by, step_of, steps_of}

-- Each row of the trace that steps make is that of an operation.

module _ {State Op Query Reply : Type 0} (b : Behaviour State Op Query Reply) where
  abbrev pub IsOperation : Node → Type 0
  IsOperation n = IsSome (b.op_at n.row)

  abbrev pub AllOperations : List Node → Type 0
  AllOperations nodes = AllByRecursion IsOperation nodes

  all_and : (nodes : List Node) (n : Node) → AllOperations nodes → IsOperation n → AllOperations (nodes ++ n ∷ [])
  all_and [] n h k = (k, tt)
  all_and (x ∷ nodes) n h k = (h.0, all_and nodes n h.1 k)

  is_operation : (op : Op) → IsSome (b.op_at (b.row_of op))
  is_operation op = subst (λ (o : Option Op). IsSome o) (sym (b.op_of_its_row op)) refl

  module _ (c : CoreState State Op Query Reply) (t : ℕ) (th : CoreThread State Op Query Reply) (h : AllOperations c.trace) where
    update_rows : (op : Op) (ph : Phase) → AllOperations (act b c t th (Some (Update op)) ph).trace
    update_rows op phases.Idle = h
    update_rows op (phases.Tail l) = h
    update_rows op (phases.Exchange l) = by_tail (length c.trace == l)
      where
        by_tail : (q : Bool) → AllOperations (if q then linked c t (next_node c.trace t (b.row_of op)) (turned th (after_exchange c.base l)) else put c t (turned th (phases.Tail l))).trace
        by_tail true = all_and c.trace (next_node c.trace t (b.row_of op)) h (is_operation op)
        by_tail false = h
    update_rows op (phases.Flag p d) = h
    update_rows op (phases.Line p d j) = h
    update_rows op (phases.Back p d j) = h
    update_rows op (phases.Fence p d) = h
    update_rows op (phases.Set p d) = h
    update_rows op (phases.Ask g d) = h

    ask_rows : (query : Query) (ph : Phase) → AllOperations (act b c t th (Some (Ask query)) ph).trace
    ask_rows query phases.Idle = by_base (nat_le (length c.trace) c.base)
      where
        by_base : (q : Bool) → AllOperations (if q then answered b c t th c.clock c.base query else put c t (begun th c.clock (phases.Ask (length c.trace) (length c.trace)))).trace
        by_base true = h
        by_base false = h
    ask_rows query (phases.Ask g d) = by_flag (is_available c.flags d) (nat_le d (c.base + 1))
      where
        by_flag : (q r : Bool) → AllOperations (if q then answered b c t th th.began d query else (if r then answered b c t th th.began c.base query else put c t (turned th (phases.Ask g (d - 1))))).trace
        by_flag true r = h
        by_flag false true = h
        by_flag false false = h
    ask_rows query (phases.Tail l) = h
    ask_rows query (phases.Exchange l) = h
    ask_rows query (phases.Flag p d) = h
    ask_rows query (phases.Line p d j) = h
    ask_rows query (phases.Back p d j) = h
    ask_rows query (phases.Fence p d) = h
    ask_rows query (phases.Set p d) = h

    act_rows : (call : Option (Call State Op Query Reply)) → AllOperations (act b c t th call th.phase).trace
    act_rows None = h
    act_rows (Some (Update op)) = update_rows op th.phase
    act_rows (Some (Ask query)) = ask_rows query th.phase

  pub step_operations : (c : CoreState State Op Query Reply) (t : ℕ) → AllOperations c.trace → AllOperations (step_of b c t).trace
  step_operations c t h = by_thread (slice_get c.threads t)
    where
      by_thread : (o : Option (CoreThread State Op Query Reply)) → AllOperations (step_by b c t o).trace
      by_thread None = h
      by_thread (Some th) = act_rows c t th h (next_call th)

  pub steps_operations : (c : CoreState State Op Query Reply) (ts : List ℕ) → AllOperations c.trace → AllOperations (steps_of b c ts).trace
  steps_operations c [] h = h
  steps_operations c (t ∷ ts) h = steps_operations (step_of b c t) ts (step_operations c t h)
