use Rattle.std.proofs.Common.{◌≡◌, ℕ, zero, suc, ◌+◌, ◌<◌, ◌≤◌, ◌⊎◌, inl, inr, ⊎_elim, List, [], ◌∷◌, ◌++◌, length, Option, Some, None, refl, sym, ap, ◌∙◌, subst, arith, take, length-append}
use Rattle.std.specs.Prelude.{IfSome}
use Rattle.std.specs.List.{slice_get, flat_map}
use mathlib.Core.Logic.{dite}
use native.Mathlib.Decide.{ℕ_discrete}
use Rattle.onll_model.specs.declared.node.Node.{Node}
use Rattle.onll_model.specs.declared.call.Call.{Call}
use Rattle.onll_model.specs.declared.call.Call.TheVariants.{Update, Ask}
use Rattle.onll_model.specs.Trace.{node_at}
use Rattle.onll_model.specs.RealTime.{Stand, NodeAt, StandsBefore, TimedCall}
use Rattle.onll_model.proofs.Lists.{some_not_none, same_some}
use Rattle.onll_core.specs.declared.phase.Phase.{Phase}
use Rattle.onll_core.specs.declared.phase.Phase.TheVariants as phases
use Rattle.onll_core.specs.declared.returned.Returned.{Returned}
use Rattle.onll_core.specs.declared.returned.Current.{Current}
use Rattle.onll_core.specs.declared.returned.Current.TheVariants as currents
use Rattle.onll_core.specs.Core.{CoreThread, CoreState}
use Rattle.onll_core.specs.CoreFrame.{seen_in}
use Rattle.onll_core.specs.Consistent.{IsConsistent}
use Rattle.onll_core.specs.Outcomes.{current_in, current_of, ends_of}
use Rattle.onll_core.specs.CallTimes.{stand_of, returned_call, returned_calls, current_calls, timed_calls, AreInTime}
use Rattle.onll_core.proofs.Phases.{own_last, seen_below}
use Rattle.onll_core.proofs.Timed.{IsPast, IsAhead, IsBusy, IsTimed}
use Rattle.onll_core.proofs.TimedSteps.{place_seen}

-- What is known of a core's calls puts them in one order.

-- what a call of a core is: one that has returned, one that runs, or one that is ordered
data IsCall {State Op Query Reply : Type 0} (c : CoreState State Op Query Reply) (t i : ℕ) (a : TimedCall) : Type 0 where
  past : (x : Call State Op Query Reply) (r : Returned State Op Query Reply) → IsPast c t i x r → a ≡ returned_call x r → IsCall c t i a
  running : (th : CoreThread State Op Query Reply) → slice_get c.threads t ≡ Some th → i ≡ length (returned_calls th.script th.returned) → current_of th ≡ currents.Running
      → a ≡ record { stand = None; began = th.began; ended = None } → IsCall c t i a
  ordered : (th : CoreThread State Op Query Reply) (p : ℕ) → slice_get c.threads t ≡ Some th → i ≡ length (returned_calls th.script th.returned) → current_of th ≡ currents.Ordered p
      → a ≡ record { stand = Some (NodeAt p); began = th.began; ended = None } → IsCall c t i a

at_append : {A : Type 0} (xs ys : List A) (i : ℕ) (a : A) → slice_get (xs ++ ys) i ≡ Some a → (slice_get xs i ≡ Some a) ⊎ ((j : ℕ) × (i ≡ length xs + j) × (slice_get ys j ≡ Some a))
at_append [] ys i a e = inr (i, (let k : i ≡ 0 + i = omega arith in k), e)
at_append (x ∷ xs) ys zero a e = inl e
at_append (x ∷ xs) ys (suc i) a e = ⊎_elim (λ (h : slice_get xs i ≡ Some a). inl h)
    (λ (h : (j : ℕ) × (i ≡ length xs + j) × (slice_get ys j ≡ Some a)). let n = h.1 in inr (h.0, (let k : suc i ≡ suc (length xs) + h.0 = omega arith in k), h.2)) (at_append xs ys i a e)

-- an ordered call stands above what it is ahead of
ahead_of : (ph : Phase) (p q : ℕ) → current_in ph ≡ currents.Ordered p → IsAhead q ph → q < p
ahead_of phases.Idle p q e h = absurd (cc)
ahead_of (phases.Tail l) p q e h = absurd (cc)
ahead_of (phases.Exchange l) p q e h = absurd (cc)
ahead_of (phases.Flag r d) p q e h = let same : r ≡ p = (cc) in omega arith
ahead_of (phases.Line r d k) p q e h = let same : r ≡ p = (cc) in omega arith
ahead_of (phases.Back r d k) p q e h = let same : r ≡ p = (cc) in omega arith
ahead_of (phases.Fence r d) p q e h = let same : r ≡ p = (cc) in omega arith
ahead_of (phases.Set r d) p q e h = let same : r ≡ p = (cc) in omega arith
ahead_of (phases.Ask f d) p q e h = absurd (cc)

-- an element of lists in a row is one of one of them
record IsIn {A B : Type 0} (f : A → List B) (xs : List A) (i : ℕ) (b : B) : Type 0 where
  list : ℕ
  place : ℕ
  from : A
  there : slice_get xs list ≡ Some from
  here : slice_get (f from) place ≡ Some b
  number : i ≡ length (flat_map f (take list xs)) + place

in_flat : {A B : Type 0} (f : A → List B) (xs : List A) (i : ℕ) (b : B) → slice_get (flat_map f xs) i ≡ Some b → IsIn f xs i b
in_flat f [] i b e = some_not_none b (sym e)
in_flat f (x ∷ xs) i b e = ⊎_elim
    (λ (h : slice_get (f x) i ≡ Some b). record { list = 0; place = i; from = x; there = refl; here = h; number = omega arith })
    (λ (h : (j : ℕ) × (i ≡ length (f x) + j) × (slice_get (flat_map f xs) j ≡ Some b)). let r = in_flat f xs h.0 b h.2 in let n = h.1 in let m = r.number in record {
      list = suc r.list;
      place = r.place;
      from = r.from;
      there = r.there;
      here = r.here;
      number = omega (arith, length-append (f x) (flat_map f (take r.list xs)));
    })
    (at_append (f x) (flat_map f xs) i b e)

if_some_from : {A : Type 0} (o : Option A) (P : A → Type 0) → ((x : A) → o ≡ Some x → P x) → IfSome o P
if_some_from None P f = tt
if_some_from (Some x) P f = f x refl

running_busy : (ph : Phase) → current_in ph ≡ currents.Running → IsBusy ph
running_busy phases.Idle e = absurd (cc)
running_busy (phases.Tail l) e = tt
running_busy (phases.Exchange l) e = tt
running_busy (phases.Flag p d) e = tt
running_busy (phases.Line p d k) e = tt
running_busy (phases.Back p d k) e = tt
running_busy (phases.Fence p d) e = tt
running_busy (phases.Set p d) e = tt
running_busy (phases.Ask f d) e = tt

ordered_busy : (ph : Phase) (p : ℕ) → current_in ph ≡ currents.Ordered p → IsBusy ph
ordered_busy phases.Idle p e = absurd (cc)
ordered_busy (phases.Tail l) p e = tt
ordered_busy (phases.Exchange l) p e = tt
ordered_busy (phases.Flag q d) p e = tt
ordered_busy (phases.Line q d k) p e = tt
ordered_busy (phases.Back q d k) p e = tt
ordered_busy (phases.Fence q d) p e = tt
ordered_busy (phases.Set q d) p e = tt
ordered_busy (phases.Ask f d) p e = tt

module _ {State Op Query Reply : Type 0} where
  returned_at : (calls : List (Call State Op Query Reply)) (rs : List (Returned State Op Query Reply)) (i : ℕ) (a : TimedCall) → slice_get (returned_calls calls rs) i ≡ Some a
      → (x : Call State Op Query Reply) × (r : Returned State Op Query Reply) × (slice_get calls i ≡ Some x) × (slice_get rs i ≡ Some r) × (a ≡ returned_call x r)
  returned_at [] rs i a e = some_not_none a (sym e)
  returned_at (x ∷ calls) [] i a e = some_not_none a (sym e)
  returned_at (x ∷ calls) (r ∷ rs) zero a e = (x, r, refl, refl, sym (same_some (returned_call x r) a e))
  returned_at (x ∷ calls) (r ∷ rs) (suc i) a e = returned_at calls rs i a e

  current_at : (c : CoreState State Op Query Reply) (t i j : ℕ) (th : CoreThread State Op Query Reply) (a : TimedCall) → slice_get c.threads t ≡ Some th → i ≡ length (returned_calls th.script th.returned) + j
      → (now : Current) → current_of th ≡ now → slice_get (current_calls th.began now) j ≡ Some a → IsCall c t i a
  current_at c t i j th a at n currents.Idle is e = some_not_none a (sym e)
  current_at c t i zero th a at n currents.Running is e = running th at (omega arith) is (sym (same_some record { stand = None; began = th.began; ended = None } a e))
  current_at c t i (suc j) th a at n currents.Running is e = some_not_none a (sym e)
  current_at c t i zero th a at n (currents.Ordered p) is e = ordered th p at (omega arith) is (sym (same_some record { stand = Some (NodeAt p); began = th.began; ended = None } a e))
  current_at c t i (suc j) th a at n (currents.Ordered p) is e = some_not_none a (sym e)

  call_is : (c : CoreState State Op Query Reply) (t i : ℕ) (th : CoreThread State Op Query Reply) (a : TimedCall) → slice_get c.threads t ≡ Some th → slice_get (timed_calls th) i ≡ Some a → IsCall c t i a
  call_is c t i th a at e = ⊎_elim
      (λ (o : slice_get (returned_calls th.script th.returned) i ≡ Some a). let q = returned_at th.script th.returned i a o in past q.0 q.1 record { thread = th; there = at; asked = q.2; here = q.3 } q.4)
      (λ (o : (j : ℕ) × (i ≡ length (returned_calls th.script th.returned) + j) × (slice_get (current_calls th.began (current_of th)) j ≡ Some a)). current_at c t i o.0 th a at o.1 (current_of th) refl o.2)
      (at_append (returned_calls th.script th.returned) (current_calls th.began (current_of th)) i a e)

  low_returned : (calls : List (Call State Op Query Reply)) (rs : List (Returned State Op Query Reply)) (i : ℕ) (x : Call State Op Query Reply) (r : Returned State Op Query Reply) → slice_get calls i ≡ Some x → slice_get rs i ≡ Some r → i < length (returned_calls calls rs)
  low_returned [] rs i x r e h = some_not_none x (sym e)
  low_returned (y ∷ calls) [] i x r e h = some_not_none r (sym h)
  low_returned (y ∷ calls) (s ∷ rs) zero x r e h = omega arith
  low_returned (y ∷ calls) (s ∷ rs) (suc i) x r e h = let l = low_returned calls rs i x r e h in omega arith

  stands_below : (x : Call State Op Query Reply) (r : Returned State Op Query Reply) (p : ℕ) → r.place < p → StandsBefore (stand_of x r) (NodeAt p)
  stands_below (Update op) r p l = l
  stands_below (Ask query) r p l = l

  module _ (count : ℕ) (c : CoreState State Op Query Reply) (k : IsConsistent count c) (time : IsTimed c) where
    in_time : (t i u j : ℕ) (a b : TimedCall) → IsCall c t i a → IsCall c u j b → (ended : ℕ) (later : Stand) → a.ended ≡ Some ended → ended < b.began → b.stand ≡ Some later
        → (first : Stand) × (a.stand ≡ Some first) × StandsBefore first later
    in_time t i u j a b (running th at n now same) h ended later e less e' = some_not_none ended (sym e ∙ ap (λ (z : TimedCall). z.ended) same)
    in_time t i u j a b (ordered th p at n now same) h ended later e less e' = some_not_none ended (sym e ∙ ap (λ (z : TimedCall). z.ended) same)
    in_time t i u j a b (past x r h same) (running th at n now same') ended later e less e' = some_not_none later (sym e' ∙ ap (λ (z : TimedCall). z.stand) same')
    in_time t i u j a b (past x r h same) (past y s g same') ended later e less e' =
        let m : r.ended ≡ ended = same_some r.ended ended (sym (ap (λ (z : TimedCall). z.ended) same) ∙ e) in
        let n : b.began ≡ s.began = ap (λ (z : TimedCall). z.began) same' in
        let o : stand_of y s ≡ later = same_some (stand_of y s) later (sym (ap (λ (z : TimedCall). z.stand) same') ∙ e') in
        (stand_of x r, ap (λ (z : TimedCall). z.stand) same, subst (StandsBefore (stand_of x r)) o (time.pairs t i u j x y r s h g (omega arith)))
    in_time t i u j a b (past x r h same) (ordered th p at number now same') ended later e less e' =
        let m : r.ended ≡ ended = same_some r.ended ended (sym (ap (λ (z : TimedCall). z.ended) same) ∙ e) in
        let n : b.began ≡ th.began = ap (λ (z : TimedCall). z.began) same' in
        let o : NodeAt p ≡ later = same_some (NodeAt p) later (sym (ap (λ (z : TimedCall). z.stand) same') ∙ e') in
        (stand_of x r, ap (λ (z : TimedCall). z.stand) same, subst (StandsBefore (stand_of x r)) o (stands_below x r p (ahead_of th.phase p r.place now (time.ahead t i u x r th h at (omega arith)))))

    -- a node has one thread
    one_thread : (t u p q : ℕ) (x y : Node) → node_at c.trace p ≡ Some x → x.thread ≡ t → node_at c.trace q ≡ Some y → y.thread ≡ u → p ≡ q → t ≡ u
    one_thread t u p q x y e own e' own' same = sym own ∙ (ap (λ (z : Node). z.thread) (same_some x y (sym e ∙ (ap (node_at c.trace) same ∙ e'))) ∙ own')

    -- two returned calls at one point are one
    past_apart : (t i u j : ℕ) (x y : Call State Op Query Reply) (r s : Returned State Op Query Reply) → IsPast c t i x r → IsPast c u j y s → stand_of x r ≡ stand_of y s → (t ≡ u) × (i ≡ j)
    past_apart t i u j (Update o) (Update q) r s h g e =
        let place : r.place ≡ s.place = (cc) in
        let m = time.nodes t i (Update o) r h in
        let n = time.nodes u j (Update q) s g in
        let own : t ≡ u = one_thread t u r.place s.place m.0 n.0 m.1 m.2 n.1 n.2 place in
        let g' : IsPast c t j (Update q) s = subst (λ (z : ℕ). IsPast c z j (Update q) s) (sym own) g in (
          own,
          dite (ℕ_discrete i j) (λ is. is) (λ not. dite (native.Mathlib.Decide.dec_le i j)
              (λ le. let l : r.place < s.place = time.rising t i j (Update o) (Update q) r s h g' (omega arith) in absurd (omega arith))
              (λ gt. let l : s.place < r.place = time.rising t j i (Update q) (Update o) s r g' h (omega arith) in absurd (omega arith))),
        )
    past_apart t i u j (Update o) (Ask q) r s h g e = absurd (cc)
    past_apart t i u j (Ask o) (Update q) r s h g e = absurd (cc)
    past_apart t i u j (Ask o) (Ask q) r s h g e = let same : r.ended ≡ s.ended = (cc) in time.moments t i u j (Ask o) (Ask q) r s h g same

    -- an ordered call stands alone at its node
    ordered_alone : (t i u p : ℕ) (x : Call State Op Query Reply) (r : Returned State Op Query Reply) (th : CoreThread State Op Query Reply) → IsPast c t i x r → slice_get c.threads u ≡ Some th → current_of th ≡ currents.Ordered p → stand_of x r ≡ NodeAt p → ⊥
    ordered_alone t i u p (Ask q) r th h at now e = absurd (cc)
    ordered_alone t i u p (Update o) r th h at now e =
        let place : r.place ≡ p = (cc) in
        let m = time.nodes t i (Update o) r h in
        let last = own_last count c k u th at p now in
        let own : t ≡ u = one_thread t u r.place p m.0 last.node m.1 m.2 last.here last.own place in
        let same : h.thread ≡ th = same_some h.thread th (sym h.there ∙ (ap (slice_get c.threads) own ∙ at)) in
        let low : r.place ≤ seen_in c.base th.returned = subst (λ (z : CoreThread State Op Query Reply). r.place ≤ seen_in c.base z.returned) same (place_seen c.base h.thread.returned i r h.here) in
        let below = seen_below count c k u th at p now in
        absurd (omega arith)

    apart : (t i u j : ℕ) (a b : TimedCall) (point : Stand) → IsCall c t i a → IsCall c u j b → a.stand ≡ Some point → b.stand ≡ Some point → (t ≡ u) × (i ≡ j)
    apart t i u j a b point (running th at n now same) h e e' = some_not_none point (sym e ∙ ap (λ (z : TimedCall). z.stand) same)
    apart t i u j a b point (past x r h same) (running w at' n' now' same') e e' = some_not_none point (sym e' ∙ ap (λ (z : TimedCall). z.stand) same')
    apart t i u j a b point (ordered th p at n now same) (running w at' n' now' same') e e' = some_not_none point (sym e' ∙ ap (λ (z : TimedCall). z.stand) same')
    apart t i u j a b point (past x r h same) (past y s g same') e e' = past_apart t i u j x y r s h g
        (same_some (stand_of x r) (stand_of y s) (sym (ap (λ (z : TimedCall). z.stand) same) ∙ (e ∙ (sym e' ∙ ap (λ (z : TimedCall). z.stand) same'))))
    apart t i u j a b point (past x r h same) (ordered th p at n now same') e e' = absurd (ordered_alone t i u p x r th h at now
        (same_some (stand_of x r) (NodeAt p) (sym (ap (λ (z : TimedCall). z.stand) same) ∙ (e ∙ (sym e' ∙ ap (λ (z : TimedCall). z.stand) same')))))
    apart t i u j a b point (ordered th p at n now same) (past y s g same') e e' = absurd (ordered_alone u j t p y s th g at now
        (same_some (stand_of y s) (NodeAt p) (sym (ap (λ (z : TimedCall). z.stand) same') ∙ (e' ∙ (sym e ∙ ap (λ (z : TimedCall). z.stand) same)))))
    apart t i u j a b point (ordered th p at n now same) (ordered w q at' n' now' same') e e' =
        let one : NodeAt p ≡ NodeAt q = same_some (NodeAt p) (NodeAt q) (sym (ap (λ (z : TimedCall). z.stand) same) ∙ (e ∙ (sym e' ∙ ap (λ (z : TimedCall). z.stand) same'))) in
        let place : p ≡ q = (cc) in
        let last = own_last count c k t th at p now in
        let last' = own_last count c k u w at' q now' in
        let own : t ≡ u = one_thread t u p q last.node last'.node last.here last.own last'.here last'.own place in
        let threads : th ≡ w = same_some th w (sym at ∙ (ap (slice_get c.threads) own ∙ at')) in
        (own, n ∙ (ap (λ (z : CoreThread State Op Query Reply). length (returned_calls z.script z.returned)) threads ∙ sym n'))

    -- what a thread's calls so far come to
    past_low : (t i : ℕ) (x : Call State Op Query Reply) (r : Returned State Op Query Reply) (th : CoreThread State Op Query Reply) → IsPast c t i x r → slice_get c.threads t ≡ Some th → i < length (returned_calls th.script th.returned)
    past_low t i x r th h at = subst (λ (z : CoreThread State Op Query Reply). i < length (returned_calls z.script z.returned)) (same_some h.thread th (sym h.there ∙ at)) (low_returned h.thread.script h.thread.returned i x r h.asked h.here)

    same_count : (t : ℕ) (th w : CoreThread State Op Query Reply) → slice_get c.threads t ≡ Some th → slice_get c.threads t ≡ Some w → length (returned_calls th.script th.returned) ≡ length (returned_calls w.script w.returned)
    same_count t th w at at' = ap (λ (z : CoreThread State Op Query Reply). length (returned_calls z.script z.returned)) (same_some th w (sym at ∙ at'))

    in_turn : (t i j : ℕ) (a b : TimedCall) → IsCall c t i a → IsCall c t j b → i < j → (ended : ℕ) × (a.ended ≡ Some ended) × (ended < b.began)
    in_turn t i j a b (past x r h same) (past y s g same') less = let l = time.turns t i j x y r s h g less in let n : b.began ≡ s.began = ap (λ (z : TimedCall). z.began) same' in (r.ended, ap (λ (z : TimedCall). z.ended) same, omega arith)
    in_turn t i j a b (past x r h same) (running th at n now same') less = let l = time.last_turn t i x r th h at (running_busy th.phase now) in let m : b.began ≡ th.began = ap (λ (z : TimedCall). z.began) same' in (r.ended, ap (λ (z : TimedCall). z.ended) same, omega arith)
    in_turn t i j a b (past x r h same) (ordered th p at n now same') less = let l = time.last_turn t i x r th h at (ordered_busy th.phase p now) in let m : b.began ≡ th.began = ap (λ (z : TimedCall). z.began) same' in (r.ended, ap (λ (z : TimedCall). z.ended) same, omega arith)
    in_turn t i j a b (running th at n now same) (past y s g same') less = let l = past_low t j y s th g at in absurd (omega arith)
    in_turn t i j a b (running th at n now same) (running w at' n' now' same') less = let l = same_count t th w at at' in absurd (omega arith)
    in_turn t i j a b (running th at n now same) (ordered w p at' n' now' same') less = let l = same_count t th w at at' in absurd (omega arith)
    in_turn t i j a b (ordered th p at n now same) (past y s g same') less = let l = past_low t j y s th g at in absurd (omega arith)
    in_turn t i j a b (ordered th p at n now same) (running w at' n' now' same') less = let l = same_count t th w at at' in absurd (omega arith)
    in_turn t i j a b (ordered th p at n now same) (ordered w q at' n' now' same') less = let l = same_count t th w at at' in absurd (omega arith)

    pub timed_order : ((t : ℕ) (th : CoreThread State Op Query Reply) → slice_get c.threads t ≡ Some th → length (timed_calls th) ≡ length (ends_of th)) → AreInTime c
    timed_order all = record {
      all = all;
      turns = λ t th at i j a b e e' less. in_turn t i j a b (call_is c t i th a at e) (call_is c t j th b at e') less;
      in_time = λ i j a b e e'. let h = in_flat timed_calls c.threads i a e in let k = in_flat timed_calls c.threads j b e' in
          let both = in_time h.list h.place k.list k.place a b (call_is c h.list h.place h.from a h.there h.here) (call_is c k.list k.place k.from b k.there k.here) in
          if_some_from a.ended (λ (ended : ℕ). ended < b.began → IfSome b.stand (λ later. (first : Stand) × (a.stand ≡ Some first) × StandsBefore first later))
          (λ ended o less. if_some_from b.stand (λ (later : Stand). (first : Stand) × (a.stand ≡ Some first) × StandsBefore first later) (λ later p. both ended later o less p));
      apart = λ i j a b point e e' p p'. let h = in_flat timed_calls c.threads i a e in let k = in_flat timed_calls c.threads j b e' in
          let same = apart h.list h.place k.list k.place a b point (call_is c h.list h.place h.from a h.there h.here) (call_is c k.list k.place k.from b k.there k.here) p p' in
          h.number ∙ ((λ m. length (flat_map timed_calls (take (same.0 m) c.threads)) + same.1 m) ∙ sym k.number);
    }
