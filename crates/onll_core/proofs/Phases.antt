use Rattle.std.proofs.Common.{◌≡◌, ◌≢◌, ℕ, zero, suc, ◌-◌, ◌<◌, ◌≤◌, ⊎_elim, Bool, true, false, cond, set, List, [], ◌∷◌, ◌++◌, length, map, Option, Some, None, option_to_list, refl, sym, ap, ◌∙◌, subst, arith}
use Rattle.std.specs.List.{AllByRecursion, slice_get}
use Rattle.onll_model.specs.Segment.{Segment}
use Rattle.onll_model.specs.Frames.{Thread, Activity, Logging, Fenced, IsLast, IsAvailable, IsSoundSegment, IsPending, IsSettled, Follows, open_in, fenced_segments}
use Rattle.onll_model.specs.Events.{window}
use Rattle.onll_model.proofs.Lists.{some_not_none, same_some, at_set, all_left, all_right}
use Rattle.onll_model.proofs.Traces.{node_place}
use Rattle.onll_model.proofs.FrameParts.{in_trace}
use Rattle.onll_model.proofs.FrameLogs.{window_few}
use Rattle.onll_core.specs.declared.phase.Phase.{Phase}
use Rattle.onll_core.specs.declared.phase.Phase.TheVariants as phases
use Rattle.onll_core.specs.declared.returned.Current.TheVariants as currents
use Rattle.onll_core.specs.Core.{CoreThread, CoreState}
use Rattle.onll_core.specs.CoreFrame.{seen_in, pending_in, activity_in, thread_at, frame_thread, frame_of}
use Rattle.onll_core.specs.Consistent.{IsConsistent}
use Rattle.onll_core.specs.Outcomes.{current_in}

-- What a consistent core says of a thread by its phase.

get_map : {A B : Type 0} (f : A → B) (xs : List A) (i : ℕ) (x : A) → slice_get xs i ≡ Some x → slice_get (map f xs) i ≡ Some (f x)
get_map f [] i x e = some_not_none x (sym e)
get_map f (y ∷ xs) zero x e = ap (λ z. Some (f z)) (same_some y x e)
get_map f (y ∷ xs) (suc i) x e = get_map f xs i x e

pub if_case : {A : Type 0} (P : A → Type 0) (b : Bool) (x y : A) → (b ≡ true → P x) → (b ≡ false → P y) → P (cond b x y)
if_case P true x y f g = f refl
if_case P false x y f g = g refl

-- what holds of each element holds after one of them has changed
pub each_set : {A : Type 0} (P : ℕ → A → Type 0) (xs : List A) (i : ℕ) (x : A) → P i x → ((j : ℕ) (y : A) → j ≢ i → slice_get xs j ≡ Some y → P j y) → (j : ℕ) (y : A) → slice_get (set xs i x) j ≡ Some y → P j y
each_set {A} P xs i x mine others j y e = ⊎_elim (λ (h : (j ≡ i) × (x ≡ y)). subst (λ (z : ℕ × A). P z.0 z.1) (λ k. (sym h.0 k, h.1 k)) mine)
    (λ (h : (j ≢ i) × (slice_get xs j ≡ Some y)). others j y h.0 h.1) (at_set xs i j x y e)

-- the own node of an ordered call is the open one
open_is : (ph : Phase) (p : ℕ) → current_in ph ≡ currents.Ordered p → open_in (activity_in ph) ≡ Some p
open_is phases.Idle p e = absurd (cc)
open_is (phases.Tail l) p e = absurd (cc)
open_is (phases.Exchange l) p e = absurd (cc)
open_is (phases.Flag q d) p e = (cc)
open_is (phases.Line q d k) p e = (cc)
open_is (phases.Back q d k) p e = (cc)
open_is (phases.Fence q d) p e = (cc)
open_is (phases.Set q d) p e = (cc)
open_is (phases.Ask f d) p e = absurd (cc)

module _ {State Op Query Reply : Type 0} (count : ℕ) (c : CoreState State Op Query Reply) (k : IsConsistent count c) (t : ℕ) (th : CoreThread State Op Query Reply) (at : slice_get c.threads t ≡ Some th) where
  -- the thread's part of the frame
  pub frame_at : (ph : Phase) → th.phase ≡ ph → slice_get (frame_of c).threads t ≡ Some (thread_at c.base c.trace th ph)
  frame_at ph e = get_map (frame_thread c.base c.trace) c.threads t th at ∙ ap (λ (z : Phase). Some (thread_at c.base c.trace th z)) e

  -- what the thread has seen is of the trace
  pub seen_low : seen_in c.base th.returned ≤ length c.trace
  seen_low = in_trace count (frame_of c) k.sound (seen_in c.base th.returned) (k.sound.seen t (thread_at c.base c.trace th th.phase) (frame_at th.phase refl))

  pub seen_available : IsAvailable (frame_of c) (seen_in c.base th.returned)
  seen_available = k.sound.seen t (thread_at c.base c.trace th th.phase) (frame_at th.phase refl)

  -- an ordered call stands at the thread's last node
  pub own_last : (p : ℕ) → current_in th.phase ≡ currents.Ordered p → IsLast c.trace t p
  own_last p e = k.sound.opened t (thread_at c.base c.trace th th.phase) (frame_at th.phase refl) p (open_is th.phase p e)

  pub own_place : (p : ℕ) → current_in th.phase ≡ currents.Ordered p → (1 ≤ p) × (p ≤ length c.trace)
  own_place p e = let last = own_last p e in node_place c.trace p last.node last.here

  pub follows_at : (ph : Phase) → th.phase ≡ ph → Follows c.trace (seen_in c.base th.returned) (activity_in ph)
  follows_at ph e = k.sound.follows t (thread_at c.base c.trace th ph) (frame_at ph e)

  -- the window that is being logged has 1 to `count` nodes
  pub window_size : (ph : Phase) → th.phase ≡ ph → (p d : ℕ) → activity_in ph ≡ Logging p (p - d) → pending_in c.trace ph ≡ Some (window c.trace d p) → (1 ≤ p - d) × (p - d ≤ count)
  window_size ph e p d logs pends =
      let v : Thread = thread_at c.base c.trace th ph in
      let g : Segment = window c.trace d p in
      let all : AllByRecursion (IsSoundSegment count c.trace (fenced_segments (frame_of c).threads)) (v.fenced ++ option_to_list (Some g)) =
      subst (λ (o : Option Segment). AllByRecursion (IsSoundSegment count c.trace (fenced_segments (frame_of c).threads)) (v.fenced ++ option_to_list o)) pends (k.sound.segments t v (frame_at ph e)) in
      let mine = (all_right (IsSoundSegment count c.trace (fenced_segments (frame_of c).threads)) v.fenced (g ∷ []) all).0 in
      let is : IsPending (Some g) None (Logging p (p - d)) = subst (λ (x : Option Segment × Activity). IsPending x.0 None x.1) (λ i. (pends i, logs i)) (k.sound.pending t v (frame_at ph e)) in
      let same : g ≡ is.0 = same_some g is.0 is.1 in
      let size : length g.nodes ≡ p - d = ap (λ (s : Segment). length s.nodes) same ∙ is.2.1 in
      let some_nodes = mine.agrees.some_nodes in
      let few = mine.few in
      (omega arith, omega arith)

  -- the window that is fenced has a node
  fenced_size : (p d : ℕ) → th.phase ≡ phases.Set p d → 1 ≤ p - d
  fenced_size p d e =
      let v : Thread = thread_at c.base c.trace th (phases.Set p d) in
      let all = all_left (IsSoundSegment count c.trace (fenced_segments (frame_of c).threads)) v.fenced [] (k.sound.segments t v (frame_at (phases.Set p d) e)) in
      let s : IsSettled v.seen v.fenced (Fenced p (p - d)) = k.sound.settled t v (frame_at (phases.Set p d) e) in
      let last = (all_right (IsSoundSegment count c.trace (fenced_segments (frame_of c).threads)) s.0 (s.1 ∷ []) (subst (AllByRecursion (IsSoundSegment count c.trace (fenced_segments (frame_of c).threads))) s.2 all)).0 in
      let some_nodes = last.agrees.some_nodes in
      let size = s.3.1 in
      omega arith

  -- an ordered call stands above all that its thread has seen
  seen_below_by : (ph : Phase) → th.phase ≡ ph → (p : ℕ) → current_in ph ≡ currents.Ordered p → seen_in c.base th.returned < p
  seen_below_by phases.Idle e p o = absurd (cc)
  seen_below_by (phases.Tail l) e p o = absurd (cc)
  seen_below_by (phases.Exchange l) e p o = absurd (cc)
  seen_below_by (phases.Ask f d) e p o = absurd (cc)
  seen_below_by (phases.Flag q d) e p o = let same : q ≡ p = (cc) in let fol = follows_at (phases.Flag q d) e in let a = fol.0 in let b = fol.1 in omega arith
  seen_below_by (phases.Line q d j) e p o = let same : q ≡ p = (cc) in let fol = follows_at (phases.Line q d j) e in let w = (window_size (phases.Line q d j) e q d refl refl).0 in omega arith
  seen_below_by (phases.Back q d j) e p o = let same : q ≡ p = (cc) in let fol = follows_at (phases.Back q d j) e in let w = (window_size (phases.Back q d j) e q d refl refl).0 in omega arith
  seen_below_by (phases.Fence q d) e p o = let same : q ≡ p = (cc) in let fol = follows_at (phases.Fence q d) e in let w = (window_size (phases.Fence q d) e q d refl refl).0 in omega arith
  seen_below_by (phases.Set q d) e p o = let same : q ≡ p = (cc) in let fol = follows_at (phases.Set q d) e in let w = fenced_size q d e in omega arith

  pub seen_below : (p : ℕ) → current_in th.phase ≡ currents.Ordered p → seen_in c.base th.returned < p
  seen_below p o = seen_below_by th.phase refl p o

  -- a walk has 1 to `count` nodes above the place whose flag is next
  pub walk_size : (p d : ℕ) → th.phase ≡ phases.Flag p d → (p - d ≤ count) × (d < p)
  walk_size p d e =
      let fol = follows_at (phases.Flag p d) e in
      let b = fol.1 in
      let high = (own_place p (ap current_in e)).1 in
      (window_few count (frame_of c) d p k.sound (omega arith) high fol.3, b)

  -- a read's next flag is at or above what the thread has seen
  pub ask_place : (f d : ℕ) → th.phase ≡ phases.Ask f d → (seen_in c.base th.returned ≤ d) × (d ≤ length c.trace)
  ask_place f d e = let fol = follows_at (phases.Ask f d) e in let a = fol.0 in let b = fol.1 in let h = fol.2 in (a, omega arith)
