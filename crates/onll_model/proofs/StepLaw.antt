use Rattle.std.proofs.Common.{◌≡◌, ◌≢◌, ℕ, ◌+◌, ◌-◌, ◌≤◌, max, Bool, true, false, List, [], ◌∷◌, ◌++◌, length, take, drop, set, Option, Some, None, refl, sym, ap, ◌∙◌, ⊎_elim, arith, length-append, true≢false}
use Rattle.std.specs.List.{slice_get}
use mathlib.Core.Logic.{dite}
use native.Mathlib.Decide.{ℕ_discrete}
use Rattle.onll_model.specs.declared.node.Node.{Node}
use Rattle.onll_model.specs.Trace.{node_at}
use Rattle.onll_model.specs.Frames.{Frame, Thread, Activity, Rest, Loaded, Walk, Logging, Fenced, Asking, Sound, is_available}
use Rattle.onll_model.specs.Events.{Event, UpdateTail, Won, Lost, FlagSet, FlagUnset, Fence, Set, ReadTail, Withdraw, Fail, MakeNote, Learn, thread_of, with_thread, with_flag, with_node, resting_at, next_node, linking, doing, at_set_flag, at_unset_flag, asking, after_fence, after_fail, after_set, after_learn, after_by, after}
use Rattle.onll_model.specs.FrameLaws.{IsStepOf}
use Rattle.onll_model.proofs.Lists.{same_some, set_else, take_before, take_all}
use Rattle.onll_model.proofs.Traces.{node_place}
use Rattle.onll_model.proofs.Flags.{available_low, flag_before, flag_past, flag_set}
use Rattle.onll_model.proofs.FrameParts.{own_of, free_of, open_free}

-- What an event does at most.

-- the trace and the flags stay
same_step : (t : ℕ) (f : Frame) (threads : List Thread) (notes : List ℕ) → ((u : ℕ) → u ≢ t → slice_get threads u ≡ slice_get f.threads u)
    → IsStepOf t f record { trace = f.trace; flags = f.flags; threads = threads; notes = notes }
same_step t f threads notes others = record {
  trace = take_all f.trace;
  flags = λ p e. e;
  own = λ p x here unset e. absurd (true≢false (sym e ∙ unset));
  others = others;
}

still : (t : ℕ) (f : Frame) → IsStepOf t f f
still t f = record { trace = take_all f.trace; flags = λ p e. e; own = λ p x here unset e. absurd (true≢false (sym e ∙ unset)); others = λ u n. refl }

put_step : (t : ℕ) (f : Frame) (w : Thread) → IsStepOf t f (with_thread f t w)
put_step t f w = same_step t f (set f.threads t w) f.notes (λ u n. set_else f.threads t u w n)

linked_step : (count : ℕ) (t : ℕ) (f : Frame) (x : Node) (w : Thread) → Sound count f → IsStepOf t f (with_thread (with_node f x) t w)
linked_step count t f x w s = let n = s.flags in record {
  trace = take_before f.trace (x ∷ []) (length f.trace) (omega arith) ∙ take_all f.trace;
  flags = λ p e. let low = available_low f.flags p e in flag_before f.flags (false ∷ []) p low ∙ e;
  own = λ p y here unset e. let long = length-append f.flags (false ∷ []) in let low = available_low (f.flags ++ false ∷ []) p e in dite (native.Mathlib.Decide.dec_le p (length f.flags))
      (λ le. absurd (true≢false (sym e ∙ (flag_before f.flags (false ∷ []) p le ∙ unset))))
      (λ gt. absurd (true≢false (sym e ∙ flag_past f.flags p (omega arith))));
  others = λ u n. set_else f.threads t u w n;
}

flagged_step : (count : ℕ) (t : ℕ) (f : Frame) (th w : Thread) (p n : ℕ) → Sound count f → slice_get f.threads t ≡ Some th → th.activity ≡ Fenced p n → IsStepOf t f (with_thread (with_flag f p) t w)
flagged_step count t f th w p n s at is =
    let free = free_of count f th (Fenced p n) (own_of count f s t th at) is (λ q. q) in
    let last = s.opened t th at p (open_free th (Fenced p n) free is) in
    let here = node_place f.trace p last.node last.here in
    let high = here.1 in
    let e = s.flags in
    let long : p ≤ length f.flags = omega arith in
    let fs : List Bool = set f.flags (p - 1) true in
    record {
      trace = take_all f.trace;
      flags = λ q up. ⊎_elim (λ (h : (q ≡ p) × (is_available fs q ≡ true)). h.1) (λ (h : (q ≢ p) × (is_available fs q ≡ is_available f.flags q)). h.1 ∙ up) (flag_set f.flags p q here.0 long);
      own = λ q x at_q unset up. ⊎_elim
          (λ (h : (q ≡ p) × (is_available fs q ≡ true)). let same = same_some x last.node (sym at_q ∙ (ap (node_at f.trace) h.0 ∙ last.here)) in ap (λ (y : Node). y.thread) same ∙ last.own)
          (λ (h : (q ≢ p) × (is_available fs q ≡ is_available f.flags q)). absurd (true≢false (sym up ∙ (h.1 ∙ unset))))
          (flag_set f.flags p q here.0 long);
      others = λ u n. set_else f.threads t u w n;
    }

set_step : (count : ℕ) (t : ℕ) (f : Frame) (th : Thread) → Sound count f → slice_get f.threads t ≡ Some th → (a : Activity) → th.activity ≡ a → IsStepOf t f (after_set f t th a)
set_step count t f th s at Rest is = still t f
set_step count t f th s at (Loaded l) is = still t f
set_step count t f th s at (Walk p d) is = still t f
set_step count t f th s at (Logging p n) is = still t f
set_step count t f th s at (Fenced p n) is = flagged_step count t f th (resting_at th p) p n s at is
set_step count t f th s at (Asking q d) is = still t f

learn_step : (t : ℕ) (f : Frame) (th : Thread) (i : ℕ) (o : Option ℕ) → IsStepOf t f (after_learn f t th i o)
learn_step t f th i None = still t f
learn_step t f th i (Some p) = let w : Thread = resting_at th (max th.seen p) in same_step t f (set f.threads t w) (take i f.notes ++ drop (i + 1) f.notes) (λ u n. set_else f.threads t u w n)

step_by : (count b : ℕ) (f : Frame) (e : Event) → Sound count f → (o : Option Thread) → slice_get f.threads (thread_of e) ≡ o → IsStepOf (thread_of e) f (after_by b f e o)
step_by count b f e s None at = still (thread_of e) f
step_by count b f (UpdateTail t) s (Some th) at = put_step t f (doing th (Loaded (length f.trace)))
step_by count b f (Won t row) s (Some th) at = let x : Node = next_node f.trace t row in linked_step count t f x (linking b th (f.trace ++ x ∷ []) (length f.trace)) s
step_by count b f (Lost t) s (Some th) at = still t f
step_by count b f (FlagSet t) s (Some th) at = put_step t f (at_set_flag th f.trace th.activity)
step_by count b f (FlagUnset t) s (Some th) at = put_step t f (at_unset_flag b th f.trace th.activity)
step_by count b f (Fence t) s (Some th) at = put_step t f (after_fence th th.activity)
step_by count b f (Set t) s (Some th) at = set_step count t f th s at th.activity refl
step_by count b f (ReadTail t) s (Some th) at = put_step t f (asking b th (length f.trace))
step_by count b f (Withdraw t) s (Some th) at = put_step t f (doing th Rest)
step_by count b f (Fail t) s (Some th) at = put_step t f (after_fail th th.activity)
step_by count b f (MakeNote t) s (Some th) at = same_step t f f.threads (f.notes ++ th.seen ∷ []) (λ u n. refl)
step_by count b f (Learn t i) s (Some th) at = learn_step t f th i (slice_get f.notes i)

pub event_step : (count b : ℕ) (f : Frame) (e : Event) → Sound count f → IsStepOf (thread_of e) f (after b f e)
event_step count b f e s = step_by count b f e s (slice_get f.threads (thread_of e)) refl
