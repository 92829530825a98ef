use Rattle.std.proofs.Common.{◌≡◌, ◌≢◌, ℕ, suc, ◌+◌, ◌-◌, ◌*◌, ◌<◌, ◌≤◌, ⊎_elim, Bool, true, false, List, [], ◌∷◌, ◌++◌, length, take, drop, map, set, count_by, Option, Some, None, option_to_list, refl, sym, ap, ◌∙◌, subst, arith, append-nil, length-append, true≢false}
use Rattle.std.specs.Prelude.{◌↔◌, IfSome}
use Rattle.std.specs.List.{AllByRecursion, slice_get}
use Rattle.std.specs.Option.{option_or}
use Rattle.std.proofs.lemmas.List.{length-map, length-set}
use Rattle.onll_words.specs.declared.line.OpRow.{OpRow}
use Rattle.onll_model.specs.declared.node.Node.{Node}
use Rattle.onll_model.specs.declared.call.Call.{Call}
use Rattle.onll_model.specs.declared.call.Call.TheVariants.{Update, Ask}
use Rattle.onll_model.specs.Object.{Behaviour}
use Rattle.onll_model.specs.Calls.{updates_in}
use Rattle.onll_model.specs.Trace.{node_at, is_of_thread, state_after, after_row, reply_after, answer_after}
use Rattle.onll_model.specs.Legal.{place_in, at_place, placed_updates, placed_rows, EachEnd, HasReply, HasAnswer, IsLegalThread}
use Rattle.onll_model.specs.Frames.{is_available}
use Rattle.onll_model.specs.Events.{next_node}
use Rattle.onll_model.proofs.Lists.{same_some, some_not_none, inside, present, at_set, all_append, all_map, take_before, take_all}
use Rattle.onll_model.proofs.States.{state_after-append}
use Rattle.onll_model.proofs.Traces.{node_place, node_snoc, count_own, count_other, numbered_longer}
use Rattle.onll_model.proofs.Flags.{flag_before, available_low}
use Rattle.onll_model.proofs.Ends.{each_end_more, placed_update, placed_ask, rows_own}
use Rattle.onll_log.specs.Encoding.{CanHold}
use Rattle.onll_locked.specs.declared.ends.LockedEnd.{LockedEnd}
use Rattle.onll_locked.specs.declared.ends.LockedEnd.TheVariants.{Answered, FenceFailed, Broken}
use Rattle.onll_locked.specs.Locked.{LockedThread, LockedState, end_of, ends_of, script_of, next_call, failed_in, failed_at, places_of, own_places, last_in, updates_left, update_end, HasNoNode, EndHasNode}
use Rattle.onll_locked.specs.DoNext.{with_end, after_end, after_node, EndsSo}
use Rattle.onll_locked.specs.Kept.{EachLocked, AgreeCounts, IsWithin, KeepsThread, KeepsLocked, IsLegalLocked}
use Rattle.onll_locked.proofs.Places.{last_more, failed_more, places_more, left_update, left_ask}
use Rattle.onll_locked.proofs.Reports.{end_more, next_is, within_longer, reads_order, updates_order, MayEnd, legal_other, legal_more, legal_end, all_legal}
use Rattle.onll_model.proofs.Counting.{few_in_all}

-- What the object under one lock keeps is kept by each call.

module _ {State Op Query Reply : Type 0} (b : Behaviour State Op Query Reply) where
  -- ---- what is kept is a legal report, and short
  pub keeps_legal : (nodes flags : ℕ) (object : State) (c : LockedState State Op Query Reply) → KeepsLocked b nodes flags object c → IsLegalLocked b c
  keeps_legal nodes flags object c k = record {
    begins = refl;
    numbered = k.numbered;
    threads = subst (λ (n : ℕ). AllByRecursion (λ (x : Node). x.thread < n) c.trace) (sym (length-map c.threads script_of)) (all_map (CanHold (length c.threads)) (λ (x : Node). x.thread < length c.threads) c.trace (λ x h. h.0) k.fits);
    outcomes = all_legal b c.initial c.trace c.threads (λ t th at. (k.threads t th at).legal);
  }

  pub keeps_counts : (nodes flags : ℕ) (object : State) (c : LockedState State Op Query Reply) → KeepsLocked b nodes flags object c → EachLocked c (AgreeCounts c.trace)
  keeps_counts nodes flags object c k t th at = (k.threads t th at).counts

  pub few_nodes_in : (nodes flags : ℕ) (object : State) (c : LockedState State Op Query Reply) → KeepsLocked b nodes flags object c → length c.trace ≤ 4096 * length c.threads
  few_nodes_in nodes flags object c k = few_in_all 4096 (length c.threads) c.trace
      (λ t l. let th = present c.threads t l in let a = (k.threads t th.0 th.1).counts in let n = a.nodes in let u = a.updates in omega arith)
      (all_map (CanHold (length c.threads)) (λ (x : Node). x.thread < length c.threads) c.trace (λ x h. h.0) k.fits)

  -- ---- a call that has no node
  module _ (nodes flags : ℕ) (object : State) (c : LockedState State Op Query Reply) (k : KeepsLocked b nodes flags object c) (t : ℕ) (th : LockedThread State Op Query Reply) (at : slice_get c.threads t ≡ Some th) where
    mine : KeepsThread b c t th
    mine = k.threads t th at

    length_more : (e : LockedEnd State Op Query Reply) → length (th.ends ++ e ∷ []) ≡ length th.ends + 1
    length_more e = length-append th.ends (e ∷ [])

    module _ (e : LockedEnd State Op Query Reply) (o : Option (Call State Op Query Reply)) (is : next_call th ≡ o) where
      abbrev new : LockedState State Op Query Reply
      new = after_end c t th e

      same_failed : failed_in e ≡ None → failed_at (th.ends ++ e ∷ []) ≡ failed_at th.ends
      same_failed none = failed_more th.ends e ∙ (ap (option_or (failed_at th.ends)) none ∙ or_none (failed_at th.ends))
        where
          or_none : (z : Option ℕ) → option_or z None ≡ z
          or_none None = refl
          or_none (Some x) = refl

      -- the thread itself, by the facts of this one call
      own_ended : (call : Call State Op Query Reply) → next_call th ≡ Some call → places_of call e ≡ [] → failed_in e ≡ None → IsLegalThread b c.initial 0 c.trace t th.script (map end_of (th.ends ++ e ∷ []))
          → IsWithin (length c.trace) call (end_of e) → updates_left (with_end th e) ≤ updates_left th → KeepsThread b new t (with_end th e)
      own_ended call next none whole legal place less =
          let places : own_places (with_end th e) ≡ own_places th = places_more th.script th.ends call e next ∙ (ap (λ (z : List ℕ). own_places th ++ z) none ∙ append-nil (own_places th)) in
          let n = mine.counts.nodes in
          let u = mine.counts.updates in
          let l = ap length places in
          record {
            legal = legal;
            within = subst (EachEnd (IsWithin (length c.trace)) th.script) (sym (end_more th.ends e)) (each_end_more (IsWithin (length c.trace)) th.script (ends_of th) call (end_of e) mine.within (next_is th.script th.ends call next) place);
            counts = record { nodes = l ∙ n; updates = omega arith };
            settled = λ h. ap (λ (z : List ℕ). is_available c.flags (last_in 0 z)) places ∙ mine.settled (sym (same_failed whole) ∙ h);
            last = λ p h. mine.last p (sym (same_failed whole) ∙ h);
          }

      left_less : (call : Call State Op Query Reply) → next_call th ≡ Some call → updates_left (with_end th e) ≤ updates_left th
      left_less (Update op) next = let l = left_update th.script (length th.ends) op next in let m = ap (λ (n : ℕ). updates_in (drop n th.script)) (length_more e) in omega arith
      left_less (Ask query) next = let l = left_ask th.script (length th.ends) query next in let m = ap (λ (n : ℕ). updates_in (drop n th.script)) (length_more e) in omega arith

    own_end : (o : Option (Call State Op Query Reply)) (e : LockedEnd State Op Query Reply) → next_call th ≡ o → EndsSo b c th o e → KeepsThread b (after_end c t th e) t (with_end th e) × (failed_in e ≡ None) × HasNoNode o e
    own_end None e is so = absurd so
    own_end (Some (Update op)) (Answered place reply) is so = absurd so
    own_end (Some (Update op)) (FenceFailed place) is so = absurd so
    own_end (Some (Update op)) (Broken place) is so =
        let e : LockedEnd State Op Query Reply = Broken place in
        let next = next_is th.script th.ends (Update op) is in (
          own_ended e (Some (Update op)) is (Update op) is refl refl
              (legal_end b c.initial c.trace t th.script th.ends mine.legal mine.within (Update op) e is (placed_update b th.script (ends_of th) op (end_of e) next ∙ append-nil (placed_updates b th.script (ends_of th))) tt tt
              (updates_order (length c.trace) op (end_of e) th.script (ends_of th) tt mine.within) (subst (λ (z : Option ℕ). MayEnd z (Update op) e) (sym so) refl))
              tt (left_less e (Some (Update op)) is (Update op) is),
          refl,
          (refl, refl),
        )
    own_end (Some (Ask query)) (Answered place reply) is so =
        let e : LockedEnd State Op Query Reply = Answered place reply in
        let next = next_is th.script th.ends (Ask query) is in
        let high = so.0 in
        let all : take place c.trace ≡ c.trace = ap (λ (n : ℕ). take n c.trace) high ∙ take_all c.trace in (
          own_ended e (Some (Ask query)) is (Ask query) is refl refl
              (legal_end b c.initial c.trace t th.script th.ends mine.legal mine.within (Ask query) e is (placed_ask b th.script (ends_of th) query (end_of e) next) tt (omega arith, omega arith, so.1 ∙ ap (λ (l : List Node). answer_after b c.initial l query) (sym all))
              (reads_order (length c.trace) query reply place th.script (ends_of th) (omega arith) mine.within) (may (failed_at th.ends)))
              (omega arith) (left_less e (Some (Ask query)) is (Ask query) is),
          refl,
          (refl, refl),
        )
      where
        may : (z : Option ℕ) → MayEnd {State = State} {Op = Op} {Query = Query} {Reply = Reply} z (Ask query) (Answered place reply)
        may None = tt
        may (Some p) = tt
    own_end (Some (Ask query)) (FenceFailed place) is so = absurd so
    own_end (Some (Ask query)) (Broken place) is so = absurd so

    pub end_free : (e : LockedEnd State Op Query Reply) → EndsSo b c th (next_call th) e → HasNoNode (next_call th) e
    end_free e so = (own_end (next_call th) e refl so).2

    same_threads : (w : LockedThread State Op Query Reply) → length (set c.threads t w) ≡ length c.threads
    same_threads w = length-set c.threads t w

    pub kept_end : (e : LockedEnd State Op Query Reply) → EndsSo b c th (next_call th) e → KeepsLocked b nodes flags object (after_end c t th e)
    kept_end e so =
        let own = own_end (next_call th) e refl so in
        let w : LockedThread State Op Query Reply = with_end th e in
        let many = same_threads w in
        let few = k.few in
        let a = k.nodes_room in
        let f = k.flags_room in
        record {
          state = k.state;
          few = omega arith;
          numbered = k.numbered;
          fits = subst (λ (n : ℕ). AllByRecursion (CanHold n) c.trace) (sym many) k.fits;
          as_many = k.as_many;
          flags_tell = λ u v e₁. ⊎_elim
              (λ (h : (u ≡ t) × (w ≡ v)). subst (λ (z : ℕ × LockedThread State Op Query Reply). (p : ℕ) (x : Node) → node_at c.trace p ≡ Some x → x.thread ≡ z.0 → (is_available c.flags p ≡ false) ↔ (failed_at z.1.ends ≡ Some p)) (λ i. (sym h.0 i, h.1 i))
              (λ p x here own_thread. let old = k.flags_tell t th at p x here own_thread in let same = same_failed e (next_call th) refl own.1 in (λ unset. same ∙ old.0 unset, λ failed. old.1 (sym same ∙ failed))))
              (λ (h : (u ≢ t) × (slice_get c.threads u ≡ Some v)). k.flags_tell u v h.1)
              (at_set c.threads t u w v e₁);
          threads = λ u v e₁. ⊎_elim
              (λ (h : (u ≡ t) × (w ≡ v)). subst (λ (z : ℕ × LockedThread State Op Query Reply). KeepsThread b (after_end c t th e) z.0 z.1) (λ i. (sym h.0 i, h.1 i)) own.0)
              (λ (h : (u ≢ t) × (slice_get c.threads u ≡ Some v)). let old = k.threads u v h.1 in record { legal = old.legal; within = old.within; counts = old.counts; settled = old.settled; last = old.last })
              (at_set c.threads t u w v e₁);
          nodes_room = subst (λ (n : ℕ). 4096 * n ≤ nodes) (sym many) a;
          flags_room = subst (λ (n : ℕ). 4096 * n ≤ flags) (sym many) f;
        }

    -- ---- an update that has a node
    module _ (op : Op) (is : next_call th ≡ Some (Update op)) (whole : failed_at th.ends ≡ None) where
      abbrev row : OpRow
      row = b.row_of op

      abbrev node : Node
      node = next_node c.trace t row

      abbrev reply : Reply
      reply = reply_after b c.initial c.trace op

      abbrev longer : List Node
      longer = c.trace ++ node ∷ []

      abbrev place : ℕ
      place = length c.trace + 1

      pub one_more : length longer ≡ place
      one_more = length-append c.trace (node ∷ [])

      -- one update fewer is left
      pub fewer : (e : LockedEnd State Op Query Reply) → updates_left th ≡ suc (updates_left (with_end th e))
      fewer e = let l = left_update th.script (length th.ends) op is in let m = ap (λ (n : ℕ). updates_in (drop n th.script)) (length_more e) in omega arith

      pub few_own : count_by (is_of_thread t) c.trace + 1 ≤ 4096
      few_own = let f = fewer (Broken 0) in let n = mine.counts.nodes in let u = mine.counts.updates in omega arith

      module _ (flag : Bool) where
        abbrev end : LockedEnd State Op Query Reply
        end = update_end place reply flag

        abbrev after : LockedState State Op Query Reply
        after = after_node c t th row flag end

        flags_before : (p : ℕ) → p ≤ length c.trace → is_available (c.flags ++ flag ∷ []) p ≡ is_available c.flags p
        flags_before p l = let m = k.as_many in flag_before c.flags (flag ∷ []) p (omega arith)

        flag_here : is_available (c.flags ++ flag ∷ []) (suc (length c.trace)) ≡ flag
        flag_here = ap (λ (n : ℕ). is_available (c.flags ++ flag ∷ []) (suc n)) (sym k.as_many) ∙ at_last c.flags
          where
            at_last : (fs : List Bool) → is_available (fs ++ flag ∷ []) (suc (length fs)) ≡ flag
            at_last [] = refl
            at_last (x ∷ fs) = at_last fs

        failed_now : failed_at (th.ends ++ end ∷ []) ≡ failed_in end
        failed_now = failed_more th.ends end ∙ ap (λ (z : Option ℕ). option_or z (failed_in end)) whole

        others_threads : (u : ℕ) (v : LockedThread State Op Query Reply) → u ≢ t → slice_get c.threads u ≡ Some v → KeepsThread b after u v
        others_threads u v other at' =
            let old = k.threads u v at' in
            record {
              legal = legal_other b c.initial c.trace u v.script v.ends old.legal old.within node (λ e. other (sym e));
              within = within_longer (length c.trace) (length longer) v.script (ends_of v) (let l = one_more in omega arith) old.within;
              counts = record { nodes = old.counts.nodes ∙ sym (count_other u c.trace node (λ e. other (sym e))); updates = old.counts.updates };
              settled = λ h. let s = old.settled h in let m = k.as_many in let low = available_low c.flags (last_in 0 (own_places v)) s in flags_before (last_in 0 (own_places v)) (omega arith) ∙ s;
              last = λ p h q x here own. ⊎_elim
                  (λ (e : node_at c.trace q ≡ Some x). old.last p h q x e own)
                  (λ (e : (q ≡ suc (length c.trace)) × (node ≡ x)). absurd (other (sym (ap (λ (z : Node). z.thread) e.1 ∙ own))))
                  (node_snoc c.trace node x q here);
            }

        others_flags : (u : ℕ) (v : LockedThread State Op Query Reply) → u ≢ t → slice_get c.threads u ≡ Some v → (p : ℕ) (x : Node) → node_at longer p ≡ Some x → x.thread ≡ u → (is_available (c.flags ++ flag ∷ []) p ≡ false) ↔ (failed_at v.ends ≡ Some p)
        others_flags u v other at' p x here own = ⊎_elim
            (λ (e : node_at c.trace p ≡ Some x). let old = k.flags_tell u v at' p x e own in let same = flags_before p (node_place c.trace p x e).1 in (λ h. old.0 (sym same ∙ h), λ h. same ∙ old.1 h))
            (λ (e : (p ≡ suc (length c.trace)) × (node ≡ x)). absurd (other (sym (ap (λ (z : Node). z.thread) e.1 ∙ own))))
            (node_snoc c.trace node x p here)

      end_flag : (f : Bool) (p : ℕ) → p ≡ suc (length c.trace) → (f ≡ false) ↔ (failed_in (end f) ≡ Some p)
      end_flag true p e = (λ h. absurd (true≢false h), λ h. some_not_none p (sym h))
      end_flag false p e = (λ h. let n : place ≡ p = omega arith in ap Some n, λ h. refl)

      end_old : (f : Bool) (p : ℕ) → p ≤ length c.trace → failed_in (end f) ≡ Some p → ⊥
      end_old true p l h = some_not_none p (sym h)
      end_old false p l h = let n = same_some place p h in omega arith

      own_flags : (flag : Bool) (p : ℕ) (x : Node) → node_at longer p ≡ Some x → x.thread ≡ t → (is_available (c.flags ++ flag ∷ []) p ≡ false) ↔ (failed_at (th.ends ++ end flag ∷ []) ≡ Some p)
      own_flags flag p x here own = ⊎_elim
          (λ (e : node_at c.trace p ≡ Some x). let low = (node_place c.trace p x e).1 in (
            λ h. some_not_none p (sym ((k.flags_tell t th at p x e own).0 (sym (flags_before flag p low) ∙ h)) ∙ whole),
            λ h. absurd (end_old flag p low (sym (failed_now flag) ∙ h)),
          ))
          (λ (e : (p ≡ suc (length c.trace)) × (node ≡ x)). let both = end_flag flag p e.0 in let same = ap (is_available (c.flags ++ flag ∷ [])) e.0 ∙ flag_here flag in
          (λ h. failed_now flag ∙ both.0 (sym same ∙ h), λ h. same ∙ both.1 (sym (failed_now flag) ∙ h)))
          (node_snoc c.trace node x p here)

      placed_end : (f : Bool) → place_in (end_of (end f)) ≡ Some place
      placed_end true = refl
      placed_end false = refl

      places_end : (f : Bool) → places_of (Update op) (end f) ≡ place ∷ []
      places_end f = ap option_to_list (placed_end f)

      pub end_has_node : (f : Bool) → EndHasNode (next_call th) (end f)
      end_has_node f = subst (λ (z : Option (Call State Op Query Reply)). EndHasNode z (end f)) (sym is) (ap length (places_end f))

      end_within : (f : Bool) → IsWithin (length longer) (Update op) (end_of (end f))
      end_within true = let l = one_more in omega arith
      end_within false = tt

      end_reply : (f : Bool) → HasReply b c.initial longer (Update op) (end_of (end f))
      end_reply true = let n : place - 1 ≡ length c.trace = omega arith in sym (ap (λ (l : List Node). reply_after b c.initial l op) (ap (λ (m : ℕ). take m longer) n ∙ (take_before c.trace (node ∷ []) (length c.trace) (omega arith) ∙ take_all c.trace)))
      end_reply false = tt

      end_may : (f : Bool) → MayEnd (failed_at th.ends) (Update op) (end f)
      end_may true = subst (λ (z : Option ℕ). MayEnd z (Update op) (end true)) (sym whole) tt
      end_may false = subst (λ (z : Option ℕ). MayEnd z (Update op) (end false)) (sym whole) tt

      whole_flag : (f : Bool) → failed_in (end f) ≡ None → f ≡ true
      whole_flag true h = refl
      whole_flag false h = some_not_none place h

      failed_place : (f : Bool) (p : ℕ) → failed_in (end f) ≡ Some p → place ≡ p
      failed_place true p h = some_not_none p (sym h)
      failed_place false p h = same_some place p h

      own_thread : (flag : Bool) → KeepsThread b (after flag) t (with_end th (end flag))
      own_thread flag =
          let e : LockedEnd State Op Query Reply = end flag in
          let next = next_is th.script th.ends (Update op) is in
          let places : own_places (with_end th e) ≡ own_places th ++ place ∷ [] = places_more th.script th.ends (Update op) e is ∙ ap (λ (z : List ℕ). own_places th ++ z) (places_end flag) in
          let n = mine.counts.nodes in
          let u = mine.counts.updates in
          let l = ap length places ∙ length-append (own_places th) (place ∷ []) in
          let f = fewer e in
          let own = count_own t c.trace node refl in
          let first : 0 + length c.trace + 1 ≡ place = omega arith in
          record {
            legal = legal_more b c.initial c.trace t th.script th.ends mine.legal mine.within (node ∷ []) (Update op) e is
                (placed_update b th.script (ends_of th) op (end_of e) next ∙ ((λ i. mine.legal.places i ++ at_place row (placed_end flag i)) ∙ (ap (λ (m : ℕ). placed_rows t 0 c.trace ++ (row, m) ∷ []) (sym first) ∙ sym (rows_own t 0 c.trace node refl))))
                (end_reply flag) (end_answer flag)
                (updates_order (length c.trace) op (end_of e) th.script (ends_of th) (subst (λ (z : Option ℕ). IfSome z (λ p. length c.trace < p)) (sym (placed_end flag)) (omega arith)) mine.within)
                (end_may flag);
            within = subst (EachEnd (IsWithin (length longer)) th.script) (sym (end_more th.ends e)) (each_end_more (IsWithin (length longer)) th.script (ends_of th) (Update op) (end_of e) (within_longer (length c.trace) (length longer) th.script (ends_of th) (let m = one_more in omega arith) mine.within) next (end_within flag));
            counts = record { nodes = omega arith; updates = omega arith };
            settled = λ h. let set_now = whole_flag flag (sym (failed_now flag) ∙ h) in let p : place ≡ suc (length c.trace) = omega arith in
                ap (is_available (c.flags ++ flag ∷ [])) (ap (last_in 0) places ∙ (last_more 0 (own_places th) place ∙ p)) ∙ (flag_here flag ∙ set_now);
            last = λ p h q x here own'. let same = failed_place flag p (sym (failed_now flag) ∙ h) in let low = (node_place longer q x here).1 in let m = one_more in omega arith;
          }
        where
          end_answer : (f : Bool) → HasAnswer b c.initial 0 longer (Update op) (end_of (end f))
          end_answer true = tt
          end_answer false = tt

      pub node_fits : CanHold (length c.threads) node
      node_fits = let f = few_own in (inside c.threads t th at, (omega arith, f))

      pub kept_node : (flag : Bool) → KeepsLocked b nodes flags (b.next object op) (after flag)
      kept_node flag =
          let w : LockedThread State Op Query Reply = with_end th (end flag) in
          let many = same_threads w in
          let few = k.few in
          let m = k.as_many in
          let l = one_more in
          let g = length-append c.flags (flag ∷ []) in
          record {
            state = ap (λ (s : State). b.next s op) k.state ∙ sym (state_after-append b c.initial c.trace (node ∷ []) ∙ ap (after_row b (state_after b c.initial c.trace)) (b.op_of_its_row op));
            few = omega arith;
            numbered = numbered_longer c.trace node k.numbered refl;
            fits = subst (λ (n : ℕ). AllByRecursion (CanHold n) longer) (sym many) (all_append (CanHold (length c.threads)) c.trace (node ∷ []) k.fits (node_fits, tt));
            as_many = omega arith;
            flags_tell = λ u v e₁. ⊎_elim
                (λ (h : (u ≡ t) × (w ≡ v)). subst (λ (z : ℕ × LockedThread State Op Query Reply). (p : ℕ) (x : Node) → node_at longer p ≡ Some x → x.thread ≡ z.0 → (is_available (c.flags ++ flag ∷ []) p ≡ false) ↔ (failed_at z.1.ends ≡ Some p)) (λ i. (sym h.0 i, h.1 i)) (own_flags flag))
                (λ (h : (u ≢ t) × (slice_get c.threads u ≡ Some v)). others_flags flag u v h.0 h.1)
                (at_set c.threads t u w v e₁);
            threads = λ u v e₁. ⊎_elim
                (λ (h : (u ≡ t) × (w ≡ v)). subst (λ (z : ℕ × LockedThread State Op Query Reply). KeepsThread b (after flag) z.0 z.1) (λ i. (sym h.0 i, h.1 i)) (own_thread flag))
                (λ (h : (u ≢ t) × (slice_get c.threads u ≡ Some v)). others_threads flag u v h.0 h.1)
                (at_set c.threads t u w v e₁);
            nodes_room = subst (λ (n : ℕ). 4096 * n ≤ nodes) (sym many) k.nodes_room;
            flags_room = subst (λ (n : ℕ). 4096 * n ≤ flags) (sym many) k.flags_room;
          }

      -- the trace stays short
      pub short : place ≤ 4096 * length c.threads
      short = let f = few_nodes_in nodes flags (b.next object op) (after true) (kept_node true) in let l = one_more in let many = same_threads (with_end th (end true)) in
          subst (λ (n : ℕ). place ≤ 4096 * n) many (omega arith)
