use Rattle.std.proofs.Common.{◌≡◌, ℕ, zero, suc, ◌+◌, ◌≤◌, ◌<◌, List, [], ◌∷◌, ◌++◌, length, drop, Option, Some, None, refl, sym, ap, ◌∙◌, subst, arith, append-nil, append_assoc, length-append}
use Rattle.std.specs.List.{slice_get}
use Rattle.std.specs.Option.{option_or}
use Rattle.onll_model.specs.declared.call.Call.{Call}
use Rattle.onll_model.specs.declared.call.Call.TheVariants.{Update, Ask}
use Rattle.onll_model.specs.Calls.{updates_in}
use Rattle.onll_model.proofs.Lists.{same_some, some_not_none, inside}
use Rattle.onll_locked.specs.declared.ends.LockedEnd.{LockedEnd}
use Rattle.onll_locked.specs.declared.ends.LockedEnd.TheVariants.{Answered, FenceFailed, Broken}
use Rattle.onll_locked.specs.Locked.{LockedThread, failed_in, failed_at, places_of, places_in, own_places, last_in, EndHasNode, HasNoNode, next_call}
use Rattle.onll_locked.specs.DoNext.{with_end}
use Rattle.onll_locked.specs.Kept.{KeepsProgress}

-- A thread's outcomes with one more at their end.

pub last_more : (d : ℕ) (xs : List ℕ) (x : ℕ) → last_in d (xs ++ x ∷ []) ≡ x
last_more d [] x = refl
last_more d (y ∷ xs) x = last_more y xs x

module _ {State Op Query Reply : Type 0} where
  pub failed_more : (ends : List (LockedEnd State Op Query Reply)) (e : LockedEnd State Op Query Reply) → failed_at (ends ++ e ∷ []) ≡ option_or (failed_at ends) (failed_in e)
  failed_more [] (Answered place reply) = refl
  failed_more [] (FenceFailed place) = refl
  failed_more [] (Broken place) = refl
  failed_more (Answered place reply ∷ ends) e = failed_more ends e
  failed_more (FenceFailed place ∷ ends) e = refl
  failed_more (Broken place ∷ ends) e = failed_more ends e

  pub no_places : (calls : List (Call State Op Query Reply)) → places_in {State = State} {Op = Op} {Query = Query} {Reply = Reply} calls [] ≡ []
  no_places [] = refl
  no_places (c ∷ calls) = refl

  pub places_more : (calls : List (Call State Op Query Reply)) (ends : List (LockedEnd State Op Query Reply)) (c : Call State Op Query Reply) (e : LockedEnd State Op Query Reply)
      → slice_get calls (length ends) ≡ Some c → places_in calls (ends ++ e ∷ []) ≡ places_in calls ends ++ places_of c e
  places_more [] ends c e at = some_not_none c (sym at)
  places_more (d ∷ calls) [] c e at = ap (λ (z : List ℕ). places_of d e ++ z) (no_places calls) ∙ (append-nil (places_of d e) ∙ ap (λ (z : Call State Op Query Reply). places_of z e) (same_some d c at))
  places_more (d ∷ calls) (f ∷ ends) c e at = ap (λ (z : List ℕ). places_of d f ++ z) (places_more calls ends c e at) ∙ sym (append_assoc (places_of d f) (places_in calls ends) (places_of c e))

  few_places_of : (c : Call State Op Query Reply) (e : LockedEnd State Op Query Reply) → length (places_of c e) ≤ 1
  few_places_of (Update op) (Answered place reply) = omega arith
  few_places_of (Update op) (FenceFailed place) = omega arith
  few_places_of (Update op) (Broken place) = omega arith
  few_places_of (Ask query) e = omega arith

  pub few_places : (calls : List (Call State Op Query Reply)) (ends : List (LockedEnd State Op Query Reply)) → length (places_in calls ends) ≤ length ends
  few_places [] ends = omega arith
  few_places (c ∷ calls) [] = omega arith
  few_places (c ∷ calls) (e ∷ ends) = let a = few_places_of c e in let h = few_places calls ends in let l = length-append (places_of c e) (places_in calls ends) in omega arith

  -- an update takes one from those that are left, and a read none
  pub left_update : (calls : List (Call State Op Query Reply)) (n : ℕ) (op : Op) → slice_get calls n ≡ Some (Update op) → updates_in (drop n calls) ≡ suc (updates_in (drop (n + 1) calls))
  left_update [] n op at = some_not_none (Update op) (sym at)
  left_update (c ∷ calls) zero op at = ap (λ (z : Call State Op Query Reply). updates_in (z ∷ calls)) (same_some c (Update op) at)
  left_update (c ∷ calls) (suc n) op at = let k : suc n + 1 ≡ suc (n + 1) = omega arith in left_update calls n op at ∙ ap (λ (z : ℕ). suc (updates_in (drop z (c ∷ calls)))) (sym k)

  pub left_ask : (calls : List (Call State Op Query Reply)) (n : ℕ) (query : Query) → slice_get calls n ≡ Some (Ask query) → updates_in (drop n calls) ≡ updates_in (drop (n + 1) calls)
  left_ask [] n query at = some_not_none (Ask query) (sym at)
  left_ask (c ∷ calls) zero query at = ap (λ (z : Call State Op Query Reply). updates_in (z ∷ calls)) (same_some c (Ask query) at)
  left_ask (c ∷ calls) (suc n) query at = let k : suc n + 1 ≡ suc (n + 1) = omega arith in left_ask calls n query at ∙ ap (λ (z : ℕ). updates_in (drop z (c ∷ calls))) (sym k)

  -- ---- a thread's counters
  pub first_progress : (script : List (Call State Op Query Reply)) (most : ℕ) (ends : List (LockedEnd State Op Query Reply)) → ends ≡ [] → length script ≤ most → KeepsProgress most 0 None (record { script = script; ends = ends })
  first_progress script most ends none room = subst (λ (l : List (LockedEnd State Op Query Reply)). KeepsProgress most 0 None (record { script = script; ends = l })) (sym none)
      record { room = room; ordered_is = ap length (sym (no_places script)); failed_is = refl }

  -- a call that has a node
  pub placed_progress : (most ordered : ℕ) (failed : Option ℕ) (th : LockedThread State Op Query Reply) (o : Option (Call State Op Query Reply)) (e : LockedEnd State Op Query Reply)
      → KeepsProgress most ordered failed th → next_call th ≡ o → EndHasNode o e → failed_at th.ends ≡ None → KeepsProgress most (ordered + 1) (failed_in e) (with_end th e)
  placed_progress most ordered failed th None e k is node whole = absurd node
  placed_progress most ordered failed th (Some c) e k is node whole =
      let n = k.ordered_is in
      let l = ap length (places_more th.script th.ends c e is) ∙ length-append (own_places th) (places_of c e) in
      record {
        room = k.room;
        ordered_is = omega arith;
        failed_is = sym (failed_more th.ends e ∙ ap (λ (z : Option ℕ). option_or z (failed_in e)) whole);
      }

  -- a call that has none
  pub unplaced_progress : (most ordered : ℕ) (failed : Option ℕ) (th : LockedThread State Op Query Reply) (o : Option (Call State Op Query Reply)) (e : LockedEnd State Op Query Reply)
      → KeepsProgress most ordered failed th → next_call th ≡ o → HasNoNode o e → KeepsProgress most ordered failed (with_end th e)
  unplaced_progress most ordered failed th None e k is free = absurd free
  unplaced_progress most ordered failed th (Some c) e k is free = record {
    room = k.room;
    ordered_is = k.ordered_is ∙ ap length (sym (places_more th.script th.ends c e is ∙ (ap (λ (z : List ℕ). own_places th ++ z) free.0 ∙ append-nil (own_places th))));
    failed_is = k.failed_is ∙ sym (failed_more th.ends e ∙ (ap (option_or (failed_at th.ends)) free.1 ∙ or_none (failed_at th.ends)));
  }
    where
      or_none : (z : Option ℕ) → option_or z None ≡ z
      or_none None = refl
      or_none (Some x) = refl

  pub next_inside : (th : LockedThread State Op Query Reply) (c : Call State Op Query Reply) → next_call th ≡ Some c → length th.ends < length th.script
  next_inside th c is = inside th.script (length th.ends) c is

  -- ---- the counters as the code sets them
  module _ (most ordered : ℕ) (failed : Option ℕ) (th now : LockedThread State Op Query Reply) (k : KeepsProgress most ordered failed th) (view : th ≡ now) (most' : ℕ) (same : most' ≡ most) (e : LockedEnd State Op Query Reply)
      (ends : List (LockedEnd State Op Query Reply)) (more : ends ≡ th.ends ++ e ∷ []) where
    as_made : (ordered' : ℕ) (failed' is : Option ℕ) → is ≡ failed' → KeepsProgress most ordered' failed' (with_end th e) → KeepsProgress most' ordered' is (record { script = th.script; ends = ends })
    as_made ordered' failed' is e₁ h = subst (λ (z : ℕ × Option ℕ × List (LockedEnd State Op Query Reply)). KeepsProgress z.0 ordered' z.1 (record { script = th.script; ends = z.2 })) (λ i. (sym same i, sym e₁ i, sym more i)) h

    pub order_made : (failed' : Option ℕ) → failed' ≡ failed_in e → EndHasNode (next_call now) e → failed_at now.ends ≡ None → KeepsProgress most' (ordered + 1) failed' (record { script = th.script; ends = ends })
    order_made failed' is node whole = as_made (ordered + 1) (failed_in e) failed' is
        (placed_progress most ordered failed th (next_call th) e k refl (subst (λ (z : LockedThread State Op Query Reply). EndHasNode (next_call z) e) (sym view) node) (ap (λ (z : LockedThread State Op Query Reply). failed_at z.ends) view ∙ whole))

    pub put_made : HasNoNode (next_call now) e → KeepsProgress most' ordered failed (record { script = th.script; ends = ends })
    put_made free = as_made ordered failed failed refl
        (unplaced_progress most ordered failed th (next_call th) e k refl (subst (λ (z : LockedThread State Op Query Reply). HasNoNode (next_call z) e) (sym view) free))

  -- a thread has no more nodes than calls
  pub few_ordered : (most ordered : ℕ) (failed : Option ℕ) (th : LockedThread State Op Query Reply) → KeepsProgress most ordered failed th → ordered ≤ length th.ends
  few_ordered most ordered failed th k = let n = k.ordered_is in let f = few_places th.script th.ends in omega arith
