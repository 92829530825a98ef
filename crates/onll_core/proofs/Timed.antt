use Rattle.std.proofs.Common.{◌≡◌, ◌≢◌, ℕ, suc, ◌<◌, ◌≤◌, ◌⊎◌, inl, inr, ⊎_elim, true, List, [], ◌∷◌, ◌++◌, length, set, Some, sym, ap, ◌∙◌, subst, arith}
use Rattle.std.specs.List.{slice_get}
use mathlib.Core.Logic.{dite}
use native.Mathlib.Decide.{ℕ_discrete}
use Rattle.onll_model.specs.declared.node.Node.{Node}
use Rattle.onll_model.specs.declared.call.Call.{Call}
use Rattle.onll_model.specs.declared.call.Call.TheVariants.{Update, Ask}
use Rattle.onll_model.specs.Trace.{node_at}
use Rattle.onll_model.specs.Frames.{is_available}
use Rattle.onll_model.specs.RealTime.{StandsBefore}
use Rattle.onll_model.proofs.Lists.{same_some, inside, at_set, at_snoc}
use Rattle.onll_core.specs.declared.phase.Phase.{Phase}
use Rattle.onll_core.specs.declared.phase.Phase.TheVariants as phases
use Rattle.onll_core.specs.declared.returned.Returned.{Returned}
use Rattle.onll_core.specs.Core.{CoreThread, CoreState}
use Rattle.onll_core.specs.CallTimes.{stand_of}

-- What is known of the order of a core's calls, and that a change of one thread keeps it.

-- the returned call of this number, of this thread
pub record IsPast {State Op Query Reply : Type 0} (c : CoreState State Op Query Reply) (t i : ℕ) (call : Call State Op Query Reply) (r : Returned State Op Query Reply) : Type 0 where
  pub thread : CoreThread State Op Query Reply
  pub there : slice_get c.threads t ≡ Some thread
  pub asked : slice_get thread.script i ≡ Some call
  pub here : slice_get thread.returned i ≡ Some r

-- where the running call has a place, or looks for one, it is ahead of this place
abbrev pub IsAhead : ℕ → Phase → Type 0
IsAhead p phases.Idle = Unit {0}
IsAhead p (phases.Tail l) = Unit {0}
IsAhead p (phases.Exchange l) = Unit {0}
IsAhead p (phases.Flag q d) = p < q
IsAhead p (phases.Line q d k) = p < q
IsAhead p (phases.Back q d k) = p < q
IsAhead p (phases.Fence q d) = p < q
IsAhead p (phases.Set q d) = p < q
IsAhead p (phases.Ask f d) = p ≤ d

-- the node of an update is one of its thread
abbrev pub HasNode : {State Op Query Reply : Type 0} → List Node → ℕ → ℕ → Call State Op Query Reply → Type 0
HasNode trace t p (Update op) = (x : Node) × (node_at trace p ≡ Some x) × (x.thread ≡ t)
HasNode trace t p (Ask query) = Unit {0}

-- an update stands above this place
abbrev pub IsAbove : {State Op Query Reply : Type 0} → ℕ → ℕ → Call State Op Query Reply → Type 0
IsAbove p q (Update op) = p < q
IsAbove p q (Ask query) = Unit {0}

-- the place of a returned call is available, and its last step is over
pub record IsOver {State Op Query Reply : Type 0} (c : CoreState State Op Query Reply) (r : Returned State Op Query Reply) : Type 0 where
  pub available : is_available c.flags r.place ≡ true
  pub first : r.began ≤ r.ended
  pub last : r.ended < c.clock

-- a call has begun and not returned
abbrev pub IsBusy : Phase → Type 0
IsBusy phases.Idle = ⊥
IsBusy (phases.Tail l) = Unit {0}
IsBusy (phases.Exchange l) = Unit {0}
IsBusy (phases.Flag p d) = Unit {0}
IsBusy (phases.Line p d k) = Unit {0}
IsBusy (phases.Back p d k) = Unit {0}
IsBusy (phases.Fence p d) = Unit {0}
IsBusy (phases.Set p d) = Unit {0}
IsBusy (phases.Ask f d) = Unit {0}

pub record IsTimed {State Op Query Reply : Type 0} (c : CoreState State Op Query Reply) : Type 0 where
  pub past : (t i : ℕ) (x : Call State Op Query Reply) (a : Returned State Op Query Reply) → IsPast c t i x a → IsOver c a
  pub begun : (t : ℕ) (th : CoreThread State Op Query Reply) → slice_get c.threads t ≡ Some th → th.began ≤ c.clock
  pub pairs : (t i u j : ℕ) (x y : Call State Op Query Reply) (a b : Returned State Op Query Reply) → IsPast c t i x a → IsPast c u j y b → a.ended < b.began → StandsBefore (stand_of x a) (stand_of y b)
  pub ahead : (t i u : ℕ) (x : Call State Op Query Reply) (a : Returned State Op Query Reply) (w : CoreThread State Op Query Reply) → IsPast c t i x a → slice_get c.threads u ≡ Some w → a.ended < w.began → IsAhead a.place w.phase
  pub nodes : (t i : ℕ) (x : Call State Op Query Reply) (a : Returned State Op Query Reply) → IsPast c t i x a → HasNode c.trace t a.place x
  pub rising : (t i j : ℕ) (x y : Call State Op Query Reply) (a b : Returned State Op Query Reply) → IsPast c t i x a → IsPast c t j y b → i < j → IsAbove a.place b.place y
  pub turns : (t i j : ℕ) (x y : Call State Op Query Reply) (a b : Returned State Op Query Reply) → IsPast c t i x a → IsPast c t j y b → i < j → a.ended < b.began
  pub last_turn : (t i : ℕ) (x : Call State Op Query Reply) (a : Returned State Op Query Reply) (th : CoreThread State Op Query Reply) → IsPast c t i x a → slice_get c.threads t ≡ Some th → IsBusy th.phase → a.ended < th.began
  pub moments : (t i u j : ℕ) (x y : Call State Op Query Reply) (a b : Returned State Op Query Reply) → IsPast c t i x a → IsPast c u j y b → a.ended ≡ b.ended → (t ≡ u) × (i ≡ j)

module _ {State Op Query Reply : Type 0} (c next : CoreState State Op Query Reply) (time : IsTimed c) (t : ℕ) (th w : CoreThread State Op Query Reply) (at : slice_get c.threads t ≡ Some th)
    (threads : next.threads ≡ set c.threads t w) (clock : next.clock ≡ suc c.clock) (flags : (p : ℕ) → is_available c.flags p ≡ true → is_available next.flags p ≡ true)
    (trace : (p : ℕ) (x : Node) → node_at c.trace p ≡ Some x → node_at next.trace p ≡ Some x) (script : w.script ≡ th.script) (began : w.began ≤ suc c.clock) where
  thread_was : (u : ℕ) (v : CoreThread State Op Query Reply) → slice_get next.threads u ≡ Some v → ((u ≡ t) × (w ≡ v)) ⊎ ((u ≢ t) × (slice_get c.threads u ≡ Some v))
  thread_was u v e = at_set c.threads t u w v (sym (ap (λ (l : List (CoreThread State Op Query Reply)). slice_get l u) threads) ∙ e)

  still_over : (a : Returned State Op Query Reply) → IsOver c a → IsOver next a
  still_over a o = let l = o.last in record { available = flags a.place o.available; first = o.first; last = omega arith }

  still_begun : (u : ℕ) (v : CoreThread State Op Query Reply) → slice_get next.threads u ≡ Some v → v.began ≤ next.clock
  still_begun u v e = ⊎_elim (λ (h : (u ≡ t) × (w ≡ v)). let n = ap (λ (z : CoreThread State Op Query Reply). z.began) h.1 in omega arith)
      (λ (h : (u ≢ t) × (slice_get c.threads u ≡ Some v)). let n = time.begun u v h.1 in omega arith) (thread_was u v e)

  still_node : (u p : ℕ) (x : Call State Op Query Reply) → HasNode c.trace u p x → HasNode next.trace u p x
  still_node u p (Update op) h = (h.0, trace p h.0 h.1, h.2)
  still_node u p (Ask query) h = tt

  -- the thread of the step asks for the same calls
  same_asked : (u i : ℕ) (v : CoreThread State Op Query Reply) (x : Call State Op Query Reply) → w ≡ v → slice_get v.script i ≡ Some x → slice_get th.script i ≡ Some x
  same_asked u i v x e asked = ap (λ (l : List (Call State Op Query Reply)). slice_get l i) (sym script ∙ ap (λ (z : CoreThread State Op Query Reply). z.script) e) ∙ asked

  here_now : (u i : ℕ) (v : CoreThread State Op Query Reply) (a : Returned State Op Query Reply) (rs : List (Returned State Op Query Reply)) → w ≡ v → w.returned ≡ rs → slice_get v.returned i ≡ Some a → slice_get rs i ≡ Some a
  here_now u i v a rs e same here = ap (λ (l : List (Returned State Op Query Reply)). slice_get l i) (sym same ∙ ap (λ (z : CoreThread State Op Query Reply). z.returned) e) ∙ here

  -- no call returns
  module _ (returned : w.returned ≡ th.returned) (ahead : (u i : ℕ) (x : Call State Op Query Reply) (a : Returned State Op Query Reply) → IsPast c u i x a → a.ended < w.began → IsAhead a.place w.phase)
      (turn : (i : ℕ) (x : Call State Op Query Reply) (a : Returned State Op Query Reply) → IsPast c t i x a → IsBusy w.phase → a.ended < w.began) where
    was : (u i : ℕ) (x : Call State Op Query Reply) (a : Returned State Op Query Reply) → IsPast next u i x a → IsPast c u i x a
    was u i x a h = ⊎_elim
        (λ (e : (u ≡ t) × (w ≡ h.thread)). record { thread = th; there = ap (slice_get c.threads) e.0 ∙ at; asked = same_asked u i h.thread x e.1 h.asked; here = here_now u i h.thread a th.returned e.1 returned h.here })
        (λ (e : (u ≢ t) × (slice_get c.threads u ≡ Some h.thread)). record { thread = h.thread; there = e.1; asked = h.asked; here = h.here })
        (thread_was u h.thread h.there)

    pub timed_put : IsTimed next
    timed_put = record {
      past = λ u i x a h. still_over a (time.past u i x a (was u i x a h));
      begun = still_begun;
      pairs = λ u i v j x y a b h k less. time.pairs u i v j x y a b (was u i x a h) (was v j y b k) less;
      ahead = λ u i v x a z h e less. ⊎_elim
          (λ (o : (v ≡ t) × (w ≡ z)). subst (λ (y : CoreThread State Op Query Reply). a.ended < y.began → IsAhead a.place y.phase) o.1 (ahead u i x a (was u i x a h)) less)
          (λ (o : (v ≢ t) × (slice_get c.threads v ≡ Some z)). time.ahead u i v x a z (was u i x a h) o.1 less) (thread_was v z e);
      nodes = λ u i x a h. still_node u a.place x (time.nodes u i x a (was u i x a h));
      rising = λ u i j x y a b h k less. time.rising u i j x y a b (was u i x a h) (was u j y b k) less;
      turns = λ u i j x y a b h k less. time.turns u i j x y a b (was u i x a h) (was u j y b k) less;
      last_turn = λ u i x a z h e busy. ⊎_elim
          (λ (o : (u ≡ t) × (w ≡ z)). subst (λ (y : CoreThread State Op Query Reply). IsBusy y.phase → a.ended < y.began) o.1 (turn i x a (subst (λ (v : ℕ). IsPast c v i x a) o.0 (was u i x a h))) busy)
          (λ (o : (u ≢ t) × (slice_get c.threads u ≡ Some z)). time.last_turn u i x a z (was u i x a h) o.1 busy) (thread_was u z e);
      moments = λ u i v j x y a b h k same. time.moments u i v j x y a b (was u i x a h) (was v j y b k) same;
    }

  -- this call returns now
  module _ (call : Call State Op Query Reply) (r : Returned State Op Query Reply) (returned : w.returned ≡ th.returned ++ r ∷ []) (is : slice_get th.script (length th.returned) ≡ Some call) (rests : w.phase ≡ phases.Idle)
      (flag : is_available next.flags r.place ≡ true) (first : r.began ≤ r.ended) (last : r.ended ≡ c.clock) (node : HasNode next.trace t r.place call)
      (above : (i : ℕ) (x : Call State Op Query Reply) (a : Returned State Op Query Reply) → IsPast c t i x a → IsAbove a.place r.place call)
      (turn : (i : ℕ) (x : Call State Op Query Reply) (a : Returned State Op Query Reply) → IsPast c t i x a → a.ended < r.began)
      (after : (u i : ℕ) (x : Call State Op Query Reply) (a : Returned State Op Query Reply) → IsPast c u i x a → a.ended < r.began → StandsBefore (stand_of x a) (stand_of call r)) where
    -- the call that returns now
    record IsNow (u i : ℕ) (x : Call State Op Query Reply) (a : Returned State Op Query Reply) : Type 0 where
      own : u ≡ t
      number : i ≡ length th.returned
      called : call ≡ x
      same : r ≡ a

    was_or_now : (u i : ℕ) (x : Call State Op Query Reply) (a : Returned State Op Query Reply) → IsPast next u i x a → IsPast c u i x a ⊎ IsNow u i x a
    was_or_now u i x a h = ⊎_elim
        (λ (e : (u ≡ t) × (w ≡ h.thread)). let asked = same_asked u i h.thread x e.1 h.asked in ⊎_elim
        (λ (o : slice_get th.returned i ≡ Some a). inl record { thread = th; there = ap (slice_get c.threads) e.0 ∙ at; asked = asked; here = o })
        (λ (o : (i ≡ length th.returned) × (r ≡ a)). inr record { own = e.0; number = o.0; called = same_some call x (sym is ∙ (ap (slice_get th.script) (sym o.0) ∙ asked)); same = o.1 })
        (at_snoc th.returned r a i (here_now u i h.thread a (th.returned ++ r ∷ []) e.1 returned h.here)))
        (λ (e : (u ≢ t) × (slice_get c.threads u ≡ Some h.thread)). inl record { thread = h.thread; there = e.1; asked = h.asked; here = h.here })
        (thread_was u h.thread h.there)

    now_over : IsOver next r
    now_over = record { available = flag; first = first; last = omega arith }

    over : (u i : ℕ) (x : Call State Op Query Reply) (a : Returned State Op Query Reply) → IsPast next u i x a → IsOver next a
    over u i x a h = ⊎_elim (λ (o : IsPast c u i x a). still_over a (time.past u i x a o)) (λ (n : IsNow u i x a). subst (IsOver next) n.same now_over) (was_or_now u i x a h)

    -- no call of before begins after this moment
    not_yet : (u i : ℕ) (x : Call State Op Query Reply) (a : Returned State Op Query Reply) → IsPast next u i x a → r.ended < a.began → ⊥
    not_yet u i x a h less = let o = over u i x a h in let a1 = o.first in let a2 = o.last in absurd (omega arith)

    old_number : (i : ℕ) (x : Call State Op Query Reply) (a : Returned State Op Query Reply) → IsPast c t i x a → i < length th.returned
    old_number i x a h = subst (λ (z : CoreThread State Op Query Reply). i < length z.returned) (same_some h.thread th (sym h.there ∙ at)) (inside h.thread.returned i a h.here)

    -- a call of before and one of before or now
    pair_after : (u i v j : ℕ) (x y : Call State Op Query Reply) (a b : Returned State Op Query Reply) → IsPast c u i x a → IsPast c v j y b ⊎ IsNow v j y b → a.ended < b.began → StandsBefore (stand_of x a) (stand_of y b)
    pair_after u i v j x y a b h (inl k) less = time.pairs u i v j x y a b h k less
    pair_after u i v j x y a b h (inr n) less = subst (λ (z : Call State Op Query Reply × Returned State Op Query Reply). a.ended < z.1.began → StandsBefore (stand_of x a) (stand_of z.0 z.1)) (λ m. (n.called m, n.same m)) (after u i x a h) less

    rises : (u i j : ℕ) (x y : Call State Op Query Reply) (a b : Returned State Op Query Reply) → IsPast c u i x a ⊎ IsNow u i x a → IsPast c u j y b ⊎ IsNow u j y b → i < j → IsAbove a.place b.place y
    rises u i j x y a b (inl h) (inl k) less = time.rising u i j x y a b h k less
    rises u i j x y a b (inl h) (inr n) less = subst (λ (z : Call State Op Query Reply × Returned State Op Query Reply). IsAbove a.place z.1.place z.0) (λ m. (n.called m, n.same m)) (above i x a (subst (λ (z : ℕ). IsPast c z i x a) n.own h))
    rises u i j x y a b (inr n) (inl k) less = let l = old_number j y b (subst (λ (z : ℕ). IsPast c z j y b) n.own k) in let m = n.number in absurd (omega arith)
    rises u i j x y a b (inr n) (inr m) less = let p = n.number in let q = m.number in absurd (omega arith)

    in_turn : (u i j : ℕ) (x y : Call State Op Query Reply) (a b : Returned State Op Query Reply) → IsPast c u i x a ⊎ IsNow u i x a → IsPast c u j y b ⊎ IsNow u j y b → i < j → a.ended < b.began
    in_turn u i j x y a b (inl h) (inl k) less = time.turns u i j x y a b h k less
    in_turn u i j x y a b (inl h) (inr n) less = subst (λ (z : Returned State Op Query Reply). a.ended < z.began) n.same (turn i x a (subst (λ (z : ℕ). IsPast c z i x a) n.own h))
    in_turn u i j x y a b (inr n) (inl k) less = let l = old_number j y b (subst (λ (z : ℕ). IsPast c z j y b) n.own k) in let m = n.number in absurd (omega arith)
    in_turn u i j x y a b (inr n) (inr m) less = let p = n.number in let q = m.number in absurd (omega arith)

    at_once : (u i v j : ℕ) (x y : Call State Op Query Reply) (a b : Returned State Op Query Reply) → IsPast c u i x a ⊎ IsNow u i x a → IsPast c v j y b ⊎ IsNow v j y b → a.ended ≡ b.ended → (u ≡ v) × (i ≡ j)
    at_once u i v j x y a b (inl h) (inl k) same = time.moments u i v j x y a b h k same
    at_once u i v j x y a b (inl h) (inr n) same = let l = (time.past u i x a h).last in let q = ap (λ (z : Returned State Op Query Reply). z.ended) n.same in absurd (omega arith)
    at_once u i v j x y a b (inr n) (inl k) same = let l = (time.past v j y b k).last in let q = ap (λ (z : Returned State Op Query Reply). z.ended) n.same in absurd (omega arith)
    at_once u i v j x y a b (inr n) (inr m) same = (n.own ∙ sym m.own, n.number ∙ sym m.number)

    pub timed_return : IsTimed next
    timed_return = record {
      past = over;
      begun = still_begun;
      pairs = λ u i v j x y a b h k less. ⊎_elim
          (λ (o : IsPast c u i x a). pair_after u i v j x y a b o (was_or_now v j y b k) less)
          (λ (n : IsNow u i x a). let q = ap (λ (z : Returned State Op Query Reply). z.ended) n.same in absurd (not_yet v j y b k (omega arith)))
          (was_or_now u i x a h);
      ahead = λ u i v x a z h e less. ⊎_elim
          (λ (o : (v ≡ t) × (w ≡ z)). subst (IsAhead a.place) (sym rests ∙ ap (λ (y : CoreThread State Op Query Reply). y.phase) o.1) tt)
          (λ (o : (v ≢ t) × (slice_get c.threads v ≡ Some z)). ⊎_elim
          (λ (p : IsPast c u i x a). time.ahead u i v x a z p o.1 less)
          (λ (n : IsNow u i x a). let q = ap (λ (y : Returned State Op Query Reply). y.ended) n.same in let b = time.begun v z o.1 in absurd (omega arith))
          (was_or_now u i x a h))
          (thread_was v z e);
      nodes = λ u i x a h. ⊎_elim (λ (o : IsPast c u i x a). still_node u a.place x (time.nodes u i x a o))
          (λ (n : IsNow u i x a). subst (λ (z : ℕ × Call State Op Query Reply × Returned State Op Query Reply). HasNode next.trace z.0 z.2.place z.1) (λ m. (sym n.own m, n.called m, n.same m)) node)
          (was_or_now u i x a h);
      rising = λ u i j x y a b h k less. rises u i j x y a b (was_or_now u i x a h) (was_or_now u j y b k) less;
      turns = λ u i j x y a b h k less. in_turn u i j x y a b (was_or_now u i x a h) (was_or_now u j y b k) less;
      last_turn = λ u i x a z h e busy. ⊎_elim
          (λ (o : (u ≡ t) × (w ≡ z)). absurd (subst IsBusy (sym (ap (λ (y : CoreThread State Op Query Reply). y.phase) o.1) ∙ rests) busy))
          (λ (o : (u ≢ t) × (slice_get c.threads u ≡ Some z)). ⊎_elim
          (λ (p : IsPast c u i x a). time.last_turn u i x a z p o.1 busy)
          (λ (n : IsNow u i x a). absurd (o.0 n.own))
          (was_or_now u i x a h))
          (thread_was u z e);
      moments = λ u i v j x y a b h k same. at_once u i v j x y a b (was_or_now u i x a h) (was_or_now v j y b k) same;
    }

-- what stands before a call that returns

pub before_update : {State Op Query Reply : Type 0} (x : Call State Op Query Reply) (op : Op) (a r : Returned State Op Query Reply) → a.place < r.place → StandsBefore (stand_of x a) (stand_of (Update op) r)
before_update (Update o) op a r l = l
before_update (Ask query) op a r l = l

pub before_read : {State Op Query Reply : Type 0} (x : Call State Op Query Reply) (query : Query) (a r : Returned State Op Query Reply) → a.place ≤ r.place → a.ended < r.ended → StandsBefore (stand_of x a) (stand_of (Ask query) r)
before_read (Update o) query a r le l = le
before_read (Ask q) query a r le l = dite (ℕ_discrete a.place r.place) (λ is. inr (is, l)) (λ not. inl (omega arith))
