use Rattle.std.proofs.Common.{ℕ, zero, suc, ◌≡◌, ◌-◌, ◌≤◌, true, false, List, [], ◌∷◌, ◌++◌, length, drop, map, set, Option, Some, None, option_to_list, sym, refl, ap, ◌∙◌, subst, arith}
use Rattle.std.proofs.lemmas.List.{map-set}
use Rattle.std.specs.List.{AllByRecursion, slice_get}
use Rattle.onll_model.specs.declared.node.Node.{Node}
use Rattle.onll_model.specs.Segment.{Segment}
use Rattle.onll_model.specs.Frames.{Thread, Sound, IsSoundSegment, fenced_segments}
use Rattle.onll_model.specs.Events.{window, with_thread, with_node, with_flag}
use Rattle.onll_model.proofs.Lists.{same_some, some_not_none, take_before, all_right}
use Rattle.onll_core.specs.declared.phase.Phase.{Phase}
use Rattle.onll_core.specs.declared.phase.Phase.TheVariants as phases
use Rattle.onll_core.specs.declared.returned.Returned.{Returned}
use Rattle.onll_core.specs.Core.{CoreThread, CoreState}
use Rattle.onll_core.specs.CoreFrame.{seen_in, pending_in, activity_in, fenced_entries, thread_at, frame_thread, frame_of}
use Rattle.onll_core.specs.Step.{put, linked, flagged}

-- How the frame of a core changes with one of its threads.

-- ---- lists
pub get_map : {A B : Type 0} (f : A → B) (xs : List A) (i : ℕ) (x : A) → slice_get xs i ≡ Some x → slice_get (map f xs) i ≡ Some (f x)
get_map f [] i x e = some_not_none x (sym e)
get_map f (y ∷ xs) zero x e = ap (λ z. Some (f z)) (same_some y x e)
get_map f (y ∷ xs) (suc i) x e = get_map f xs i x e

set_same : {A : Type 0} (xs : List A) (i : ℕ) (x : A) → slice_get xs i ≡ Some x → set xs i x ≡ xs
set_same [] i x e = refl
set_same (y ∷ xs) zero x e = ap (λ z. z ∷ xs) (sym (same_some y x e))
set_same (y ∷ xs) (suc i) x e = ap (λ l. y ∷ l) (set_same xs i x e)

map_same : {A B : Type 0} (f g : A → B) (xs : List A) → ((i : ℕ) (x : A) → slice_get xs i ≡ Some x → f x ≡ g x) → map f xs ≡ map g xs
map_same f g [] h = refl
map_same f g (x ∷ xs) h = let a = h 0 x refl in let b = map_same f g xs (λ i y e. h (suc i) y e) in λ i. a i ∷ b i

-- ---- parts of a thread
-- what is returned at or above all seen places is what is seen then
pub seen_snoc : {State Op Query Reply : Type 0} (base : ℕ) (rs : List (Returned State Op Query Reply)) (r : Returned State Op Query Reply) → seen_in base rs ≤ r.place → seen_in base (rs ++ r ∷ []) ≡ r.place
seen_snoc base [] r l = omega arith
seen_snoc base (x ∷ rs) r l = let h = seen_snoc base rs r (omega arith) in omega arith

-- what is pending is a window of the trace, whatever comes after it
still_pending : (trace more : List Node) (ph : Phase) → ((g : Segment) → pending_in trace ph ≡ Some g → g.place ≤ length trace) → pending_in (trace ++ more) ph ≡ pending_in trace ph
still_pending trace more phases.Idle h = refl
still_pending trace more (phases.Tail l) h = refl
still_pending trace more (phases.Exchange l) h = refl
still_pending trace more (phases.Flag p d) h = refl
still_pending trace more (phases.Line p d k) h = let e = take_before trace more p (h (window trace d p) refl) in λ i. Some (record { place = p; nodes = drop d (e i) })
still_pending trace more (phases.Back p d k) h = let e = take_before trace more p (h (window trace d p) refl) in λ i. Some (record { place = p; nodes = drop d (e i) })
still_pending trace more (phases.Fence p d) h = let e = take_before trace more p (h (window trace d p) refl) in λ i. Some (record { place = p; nodes = drop d (e i) })
still_pending trace more (phases.Set p d) h = refl
still_pending trace more (phases.Ask f d) h = refl

module _ {State Op Query Reply : Type 0} (c : CoreState State Op Query Reply) where
  -- a thread of the core in its frame
  pub part_at : (t : ℕ) (th : CoreThread State Op Query Reply) → slice_get c.threads t ≡ Some th → (ph : Phase) → th.phase ≡ ph → slice_get (frame_of c).threads t ≡ Some (thread_at c.base c.trace th ph)
  part_at t th at ph e = get_map (frame_thread c.base c.trace) c.threads t th at ∙ ap (λ (z : Phase). Some (thread_at c.base c.trace th z)) e

  -- what is pending is sound
  pub pending_sound : (count : ℕ) → Sound count (frame_of c) → (t : ℕ) (th : CoreThread State Op Query Reply) → slice_get c.threads t ≡ Some th → (g : Segment) → pending_in c.trace th.phase ≡ Some g
      → IsSoundSegment count c.trace (fenced_segments (frame_of c).threads) g
  pending_sound count s t th at g e =
      let P : Segment → Type 0 = IsSoundSegment count c.trace (fenced_segments (frame_of c).threads) in
      let v : Thread = frame_thread c.base c.trace th in
      (all_right P v.fenced (g ∷ []) (subst (λ (o : Option Segment). AllByRecursion P (v.fenced ++ option_to_list o)) e (s.segments t v (part_at t th at th.phase refl)))).0

  -- and stays so where the trace grows
  pub pending_longer : (count : ℕ) → Sound count (frame_of c) → (t : ℕ) (th : CoreThread State Op Query Reply) → slice_get c.threads t ≡ Some th → (more : List Node) → pending_in (c.trace ++ more) th.phase ≡ pending_in c.trace th.phase
  pending_longer count s t th at more = still_pending c.trace more th.phase (λ g e. (pending_sound count s t th at g e).agrees.in_trace)

  -- ---- the frames of the next states
  pub frame_put : (t : ℕ) (w : CoreThread State Op Query Reply) → frame_of (put c t w) ≡ with_thread (frame_of c) t (frame_thread c.base c.trace w)
  frame_put t w = let e = map-set (frame_thread c.base c.trace) c.threads t w in λ i. record { trace = c.trace; flags = c.flags; threads = e i; notes = [] }

  -- a thread whose part stays
  pub frame_still : (t : ℕ) (th w : CoreThread State Op Query Reply) → slice_get c.threads t ≡ Some th → frame_thread c.base c.trace w ≡ frame_thread c.base c.trace th → frame_of (put c t w) ≡ frame_of c
  frame_still t th w at same = let k = set_same (frame_of c).threads t (frame_thread c.base c.trace th) (part_at t th at th.phase refl) in
      frame_put t w ∙ (ap (with_thread (frame_of c) t) same ∙ λ i. record { trace = c.trace; flags = c.flags; threads = k i; notes = [] })

  pub frame_flagged : (t p : ℕ) (w : CoreThread State Op Query Reply) → frame_of (flagged c t p w) ≡ with_thread (with_flag (frame_of c) p) t (frame_thread c.base c.trace w)
  frame_flagged t p w = let e = map-set (frame_thread c.base c.trace) c.threads t w in λ i. record { trace = c.trace; flags = set c.flags (p - 1) true; threads = e i; notes = [] }

  pub frame_linked : (count : ℕ) → Sound count (frame_of c) → (t : ℕ) (x : Node) (w : CoreThread State Op Query Reply) → frame_of (linked c t x w) ≡ with_thread (with_node (frame_of c) x) t (frame_thread c.base (c.trace ++ x ∷ []) w)
  frame_linked count s t x w =
      let long : List Node = c.trace ++ x ∷ [] in
      let others : map (frame_thread c.base long) c.threads ≡ map (frame_thread c.base c.trace) c.threads = map_same (frame_thread c.base long) (frame_thread c.base c.trace) c.threads
      (λ u z e. let same = pending_longer count s u z e (x ∷ []) in
      λ i. record { seen = seen_in c.base z.returned; fenced = fenced_entries z.head z.device; pending = same i; stuck = None; activity = activity_in z.phase }) in
      let e = map-set (frame_thread c.base long) c.threads t w ∙ ap (λ (l : List Thread). set l t (frame_thread c.base long w)) others in
      λ i. record { trace = long; flags = c.flags ++ false ∷ []; threads = e i; notes = [] }
