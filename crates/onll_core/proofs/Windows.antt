use Rattle.std.proofs.Common.{ℕ, zero, suc, ◌≡◌, ◌+◌, ◌-◌, ◌*◌, ◌<◌, ◌≤◌, Bool, List, [], ◌∷◌, length, take, drop, Some, sym, refl, ap, ◌∙◌, arith, count_by, cond, ◌==◌, eq-eqb}
use Rattle.std.specs.List.{slice_get}
use mathlib.Core.Logic.{dite}
use native.Mathlib.Decide.{ℕ_discrete}
use Rattle.onll_model.specs.declared.node.Node.{Node}
use Rattle.onll_model.specs.Trace.{is_of_thread}
use Rattle.onll_model.specs.Segment.{Segment}
use Rattle.onll_model.specs.Frames.{Sound}
use Rattle.onll_model.specs.Events.{window}
use Rattle.onll_model.proofs.Lists.{same_some, some_not_none, all_at, all_from, at_window, length_window, present}
use Rattle.onll_model.proofs.Traces.{number_at_place}
use Rattle.onll_model.proofs.Counting.{count_cons, few_in_all}
use Rattle.onll_log.specs.Encoding.{FitsNode, FitsEntry}
use Rattle.onll_core.specs.Core.{CoreThread, CoreState}
use Rattle.onll_core.specs.CoreFrame.{pending_in, frame_of}
use Rattle.onll_core.specs.Consistent.{IsConsistent}
use Rattle.onll_core.proofs.CoreFrames.{pending_sound}

-- The window that is written fits an entry.

-- a thread's node is one more than those below it
count_here : (t : ℕ) (xs : List Node) (i : ℕ) (x : Node) → slice_get xs i ≡ Some x → x.thread ≡ t → count_by (is_of_thread t) (take i xs) + 1 ≤ count_by (is_of_thread t) xs
count_here t [] i x e own = some_not_none x (sym e)
count_here t (y ∷ xs) zero x e own = let h : cond {A = ℕ} (y.thread == t) 1 0 ≡ 1 = ap (λ (c : Bool). cond {A = ℕ} c 1 0) (eq-eqb y.thread t (ap (λ (z : Node). z.thread) (same_some y x e) ∙ own)) in let m = count_cons (is_of_thread t) y xs in omega arith
count_here t (y ∷ xs) (suc i) x e own = let h = count_here t xs i x e own in let m = count_cons (is_of_thread t) y xs in let n = count_cons (is_of_thread t) y (take i xs) in omega arith

bounds : (xs : List Node) (d p : ℕ) → 1 ≤ length (drop d (take p xs)) → d < p
bounds xs zero zero h = absurd (omega arith)
bounds xs zero (suc p) h = omega arith
bounds xs (suc d) zero h = absurd (omega arith)
bounds [] (suc d) (suc p) h = absurd (omega arith)
bounds (x ∷ xs) (suc d) (suc p) h = let k = bounds xs d p h in omega arith

-- how long the window of the nodes above d, up to p, is
pub record IsShort (count : ℕ) (trace : List Node) (p d : ℕ) : Type 0 where
  pub size : length (window trace d p).nodes ≡ p - d
  pub below : d < p
  pub few : p - d ≤ count

-- a window that is pending in a sound frame
pub short_of : {State Op Query Reply : Type 0} (count : ℕ) (c : CoreState State Op Query Reply) → Sound count (frame_of c) → (t : ℕ) (th : CoreThread State Op Query Reply) → slice_get c.threads t ≡ Some th
    → (p d : ℕ) → pending_in c.trace th.phase ≡ Some (window c.trace d p) → IsShort count c.trace p d
short_of count c s t th at p d e =
    let g : Segment = window c.trace d p in
    let seg = pending_sound c count s t th at g e in
    let a = seg.agrees in
    let some_nodes = a.some_nodes in
    let low = bounds c.trace d p some_nodes in
    let high = a.in_trace in
    let size : length g.nodes ≡ p - d = length_window c.trace d p (omega arith) high in
    let few = seg.few in
    record { size = size; below = low; few = omega arith }

-- and that it fits an entry
pub record IsWindowOf (count : ℕ) (trace : List Node) (p d : ℕ) : Type 0 where
  pub fits : FitsEntry count (window trace d p)
  pub size : length (window trace d p).nodes ≡ p - d
  pub below : d < p
  pub few : p - d ≤ count
  pub high : p ≤ length trace

module _ {State Op Query Reply : Type 0} (count : ℕ) (c : CoreState State Op Query Reply) (k : IsConsistent count c) where
  pub threads_count : length c.threads ≡ count
  threads_count = sym (Rattle.std.proofs.lemmas.List.length-map c.threads _) ∙ k.sound.threads

  -- no thread has more nodes than names
  pub few_of_thread : (t : ℕ) → t < count → count_by (is_of_thread t) c.trace ≤ 4096
  few_of_thread t l = let n = threads_count in let th = present c.threads t (omega arith) in let h = k.numbers t th.0 th.1 in omega arith

  pub trace_short : length c.trace ≤ 4096 * count
  trace_short = few_in_all 4096 count c.trace few_of_thread k.sound.below

  -- so places stay below 65,537
  pub places : length c.trace ≤ 65536
  places = let a = trace_short in let b = k.few in omega arith

  -- each node of the trace has a name
  pub node_fits : (i : ℕ) (x : Node) → slice_get c.trace i ≡ Some x → FitsNode count x
  node_fits i x e =
      let low = all_at (λ (z : Node). z.thread < count) c.trace k.sound.below i x e in
      let number = number_at_place c.trace k.sound.numbered (suc i) x e in
      let same : suc i - 1 ≡ i = omega arith in
      let number' : x.number ≡ count_by (is_of_thread x.thread) (take i c.trace) + 1 = number ∙ ap (λ (n : ℕ). count_by (is_of_thread x.thread) (take n c.trace) + 1) same in
      let m = count_here x.thread c.trace i x e refl in
      let most = few_of_thread x.thread low in
      record { thread = low; number = (omega arith, omega arith); row = all_at (λ (z : Node). length z.row.w ≡ 7) c.trace k.rows i x e }

  -- the window that is logged
  pub window_of : (t : ℕ) (th : CoreThread State Op Query Reply) → slice_get c.threads t ≡ Some th → (p d : ℕ) → pending_in c.trace th.phase ≡ Some (window c.trace d p) → IsWindowOf count c.trace p d
  window_of t th at p d e =
      let g : Segment = window c.trace d p in
      let seg = pending_sound c count k.sound t th at g e in
      let a = seg.agrees in
      let short = short_of count c k.sound t th at p d e in
      let high = a.in_trace in
      let all = trace_short in
      record {
        fits = record {
          some_nodes = a.some_nodes;
          few_nodes = seg.few;
          from_one = a.from_one;
          place = omega arith;
          nodes = all_from (FitsNode count) g.nodes (λ i x e. node_fits (d + i) x (at_window c.trace d p i x e).0);
        };
        size = short.size;
        below = short.below;
        few = short.few;
        high = high;
      }
