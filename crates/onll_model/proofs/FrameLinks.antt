use Rattle.std.proofs.Common.{◌≡◌, ◌≢◌, ℕ, suc, ◌+◌, ◌-◌, ◌<◌, ◌≤◌, Bool, true, false, List, [], ◌∷◌, ◌++◌, length, set, Option, Some, None, refl, sym, ap, ◌∙◌, subst, ⊎_elim, arith, length-append, length-set, true≢false, count_by}
use Rattle.std.specs.List.{AllByRecursion, slice_get}
use Rattle.std.proofs.lemmas.Bool.{cases_Bool}
use mathlib.Core.Logic.{◌↔◌, dite}
use native.Mathlib.Decide.{ℕ_discrete}
use Rattle.onll_model.specs.declared.node.Node.{Node}
use Rattle.onll_model.specs.Trace.{node_at, is_of_thread}
use Rattle.onll_model.specs.Segment.{Segment, Rises}
use Rattle.onll_model.specs.Frames.{Frame, Thread, Activity, Rest, Loaded, Walk, Logging, Fenced, Asking, Sound, IsLast, IsAvailable, is_available, AreApart, IsSoundSegment, fenced_segments, segments_of, open_in, open_at, open_place, IsSettled, IsPending, Follows}
use Rattle.onll_model.specs.Events.{with_thread, with_node, doing, logging}
use Rattle.onll_model.proofs.Lists.{inside, all_append, all_map}
use Rattle.onll_model.proofs.Segments.{same_grows, covers_still, agrees_longer}
use Rattle.onll_model.proofs.Traces.{node_place, node_snoc, node_before, node_end, numbered_longer}
use Rattle.onll_model.proofs.Flags.{available_low, flag_before, flag_past}
use Rattle.onll_model.proofs.FrameParts.{each_put, segments_still, Own, own_of, in_trace, unflagged_last, free_of, open_free, still_open, pends_none, none_pends}
use Rattle.onll_model.proofs.FrameLogs.{own_logging, fenced_alone}

-- An exchange links a node: the trace is longer by one node, which isn't flagged.

module _ (count : ℕ) (f : Frame) (s : Sound count f) (t : ℕ) (th : Thread) (at : slice_get f.threads t ≡ Some th) (closed : open_place th ≡ None) (x : Node) (own_x : x.thread ≡ t) (number : x.number ≡ count_by (is_of_thread t) f.trace + 1) where
  abbrev longer : List Node
  longer = f.trace ++ x ∷ []

  abbrev more_flags : List Bool
  more_flags = f.flags ++ false ∷ []

  abbrev size : ℕ
  size = length f.trace

  long : length longer ≡ suc size
  long = omega (arith, length-append f.trace (x ∷ []))

  same_flag : (p : ℕ) → p ≤ size → is_available more_flags p ≡ is_available f.flags p
  same_flag p h = let n = s.flags in flag_before f.flags (false ∷ []) p (omega arith)

  new_flag : is_available more_flags (suc size) ≡ false
  new_flag = let n = s.flags in flag_past f.flags (suc size) (omega arith)

  still_available : (p : ℕ) → IsAvailable f p → is_available more_flags p ≡ true
  still_available p e = same_flag p (in_trace count f s p e) ∙ e

  was_available : (p : ℕ) → is_available more_flags p ≡ true → IsAvailable f p
  was_available p e = dite (ℕ_discrete p (suc size))
      (λ (h : p ≡ suc size). absurd (true≢false (sym e ∙ (ap (is_available more_flags) h ∙ new_flag))))
      (λ not. let n = s.flags in let h = available_low more_flags p e in let l = length-append f.flags (false ∷ []) in sym (same_flag p (omega arith)) ∙ e)

  -- all the thread's nodes so far are flagged, since it has none that is open
  own_flagged : (p : ℕ) (y : Node) → node_at f.trace p ≡ Some y → y.thread ≡ t → IsAvailable f p
  own_flagged p y here own = ⊎_elim (λ (e : is_available f.flags p ≡ true). e)
      (λ (e : is_available f.flags p ≡ false). absurd (let opens = (s.latest t th at p (subst (λ (u : ℕ). IsLast f.trace u p) own (unflagged_last count f s p y here e))).0 e in let both = sym closed ∙ opens in (cc)))
      (cases_Bool (is_available f.flags p))

  apart : (d p : ℕ) → p ≤ size → AreApart f.trace d p → AreApart longer d p
  apart d p le h i j y z a b c e e' = ⊎_elim
      (λ (u : node_at f.trace i ≡ Some y). ⊎_elim (λ (v : node_at f.trace j ≡ Some z). h i j y z a b c u v) (λ (v : (j ≡ suc size) × (x ≡ z)). absurd (let k = v.0 in omega arith)) (node_snoc f.trace x z j e'))
      (λ (u : (i ≡ suc size) × (x ≡ y)). absurd (let k = u.0 in omega arith)) (node_snoc f.trace x y i e)

  follows : (seen : ℕ) (a : Activity) → ((p : ℕ) → open_in a ≡ Some p → p ≤ size) → Follows f.trace seen a → Follows longer seen a
  follows seen Rest o h = tt
  follows seen (Loaded k) o h = (h.0, let b = h.1 in let n = long in omega arith)
  follows seen (Walk p d) o h = (h.0, h.1, h.2, apart d p (o p refl) h.3)
  follows seen (Logging p n) o h = h
  follows seen (Fenced p n) o h = h
  follows seen (Asking q d) o h = (h.0, h.1, (let b = h.2 in let n = long in omega arith), h.3)

  -- a last node stays the last of its thread, but for the thread that has linked
  still_last : (u p : ℕ) → u ≢ t → IsLast f.trace u p → IsLast longer u p
  still_last u p other h = record {
    node = h.node;
    here = node_before f.trace (x ∷ []) p h.node h.here;
    own = h.own;
    none_later = λ q y e own. ⊎_elim (λ (k : node_at f.trace q ≡ Some y). h.none_later q y k own)
        (λ (k : (q ≡ suc size) × (x ≡ y)). absurd (other (sym own ∙ (ap (λ (z : Node). z.thread) (sym k.1) ∙ own_x)))) (node_snoc f.trace x y q e);
  }

  was_last : (u p : ℕ) → u ≢ t → IsLast longer u p → IsLast f.trace u p
  was_last u p other h = record {
    node = h.node;
    here = ⊎_elim (λ (k : node_at f.trace p ≡ Some h.node). k)
        (λ (k : (p ≡ suc size) × (x ≡ h.node)). absurd (other (sym h.own ∙ (ap (λ (z : Node). z.thread) (sym k.1) ∙ own_x)))) (node_snoc f.trace x h.node p h.here);
    own = h.own;
    none_later = λ q y e own. h.none_later q y (node_before f.trace (x ∷ []) q y e) own;
  }

  new_last : IsLast longer t (suc size)
  new_last = record { node = x; here = node_end f.trace x; own = own_x; none_later = λ q y e _. let h = node_place longer q y e in let b = h.1 in let n = long in omega arith }

  pub linked_sound : (w : Thread) → w.fenced ≡ th.fenced → open_place w ≡ Some (suc size) → Own count (with_node f x) w → Sound count (with_thread (with_node f x) t w)
  linked_sound w same opens mine =
      let cover = covers_still f.threads t th w at (same_grows th w same) in
      let old : List Segment = fenced_segments f.threads in
      let new : List Segment = fenced_segments (set f.threads t w) in
      record {
        flags = length-append f.flags (false ∷ []) ∙ (ap (λ n. n + 1) s.flags ∙ sym (length-append f.trace (x ∷ [])));
        threads = length-set f.threads t w ∙ s.threads;
        numbered = numbered_longer f.trace x s.numbered (number ∙ ap (λ (u : ℕ). count_by (is_of_thread u) f.trace + 1) (sym own_x));
        below = all_append (λ (z : Node). z.thread < count) f.trace (x ∷ []) s.below ((let i = inside f.threads t th at in let n = s.threads in omega arith), tt);
        earlier = λ p q y z ey ez same less. ⊎_elim
            (λ (a : node_at f.trace p ≡ Some y). still_available p (⊎_elim
            (λ (b : node_at f.trace q ≡ Some z). s.earlier p q y z a b same less)
            (λ (b : (q ≡ suc size) × (x ≡ z)). own_flagged p y a (same ∙ (ap (λ (k : Node). k.thread) (sym b.1) ∙ own_x)))
            (node_snoc f.trace x z q ez)))
            (λ (a : (p ≡ suc size) × (x ≡ y)). absurd (let h = (node_place longer q z ez).1 in let n = long in let k = a.0 in omega arith))
            (node_snoc f.trace x y p ey);
        latest = each_put (λ u z. (p : ℕ) → IsLast longer u p → (is_available more_flags p ≡ false) ↔ (open_place z ≡ Some p)) f.threads t w
            (λ p last. let a = last.none_later (suc size) x (node_end f.trace x) own_x in let b = new_last.none_later p last.node last.here last.own in let k : p ≡ suc size = omega arith in
            ((λ _. opens ∙ ap Some (sym k)), λ _. ap (is_available more_flags) k ∙ new_flag))
            (λ u z other e p last. let before = was_last u p other last in let both = s.latest u z e p before in let k = same_flag p ((node_place f.trace p before.node before.here).1) in
            ((λ i. both.0 (sym k ∙ i)), λ i. k ∙ both.1 i));
        opened = each_put _ f.threads t w
            (λ p e. let k : suc size ≡ p = (let both = sym opens ∙ e in (cc)) in subst (IsLast longer t) k new_last)
            (λ u z other e p o. still_last u p other (s.opened u z e p o));
        quiet = each_put _ f.threads t w mine.quiet (λ u z _ e. s.quiet u z e);
        segments = each_put (λ u z. AllByRecursion (IsSoundSegment count longer new) (segments_of z)) f.threads t w
            (segments_still count longer longer old new (segments_of w) (λ g a. a) cover mine.segments)
            (λ u z _ e. segments_still count f.trace longer old new (segments_of z) (λ g a. agrees_longer f.trace (x ∷ []) g a) cover (s.segments u z e));
        covered = λ p e. cover p (s.covered p (was_available p e));
        rising = each_put _ f.threads t w mine.rising (λ u z _ e. s.rising u z e);
        settled = each_put _ f.threads t w mine.settled (λ u z _ e. s.settled u z e);
        pending = each_put _ f.threads t w mine.pending (λ u z _ e. s.pending u z e);
        follows = each_put _ f.threads t w mine.follows (λ u z _ e. follows z.seen z.activity
            (λ p o. let last = s.opened u z e p (still_open z.stuck z.activity p (s.quiet u z e) o) in (node_place f.trace p last.node last.here).1) (s.follows u z e));
        seen = each_put _ f.threads t w mine.seen (λ u z _ e. still_available z.seen (s.seen u z e));
        notes = all_map (IsAvailable f) (λ p. is_available more_flags p ≡ true) f.notes still_available s.notes;
      }

  -- the segments of before, over the longer trace
  pub old_segments : AllByRecursion (IsSoundSegment count longer (fenced_segments f.threads)) (segments_of th)
  old_segments = segments_still count f.trace longer (fenced_segments f.threads) (fenced_segments f.threads) (segments_of th) (λ g a. agrees_longer f.trace (x ∷ []) g a) (λ p c. c) (s.segments t th at)

-- a thread that has loaded the tail has no open place
pub loaded_closed : (count : ℕ) (f : Frame) (t : ℕ) (th : Thread) (l : ℕ) → Sound count f → slice_get f.threads t ≡ Some th → th.activity ≡ Loaded l → open_place th ≡ None
loaded_closed count f t th l s at is = open_free th (Loaded l) (free_of count f th (Loaded l) (own_of count f s t th at) is (λ q. q)) is

-- the exchange has linked a node, and the walk begins
pub won_walks_sound : (count : ℕ) (f : Frame) (t : ℕ) (th : Thread) (l : ℕ) (x : Node) → Sound count f → slice_get f.threads t ≡ Some th → th.activity ≡ Loaded l → x.thread ≡ t
    → x.number ≡ count_by (is_of_thread t) f.trace + 1 → 1 ≤ length f.trace
    → Sound count (with_thread (with_node f x) t (doing th (Walk (suc (length f.trace)) (length f.trace))))
won_walks_sound count f t th l x s at is own_x number some_nodes =
    let own = own_of count f s t th at in
    let n : ℕ = length f.trace in
    let low = in_trace count f s th.seen own.seen in
    let closed = loaded_closed count f t th l s at is in
    let free = free_of count f th (Loaded l) own is (λ q. q) in
    let none = pends_none th.pending (Loaded l) tt (subst (λ (a : Activity). IsPending th.pending None a) is (subst (λ (o : Option ℕ). IsPending th.pending o th.activity) free own.pending)) in
    linked_sound count f s t th at closed x own_x number (doing th (Walk (suc n) n)) refl (ap (λ (o : Option ℕ). open_at o (Walk (suc n) n)) free) record {
      quiet = λ h. absurd (h free);
      segments = old_segments count f s t th at closed x own_x number;
      rising = own.rising;
      settled = subst (IsSettled th.seen th.fenced) is own.settled;
      pending = subst (λ (o : Option ℕ). IsPending th.pending o (Walk (suc n) n)) (sym free) (none_pends th.pending (Walk (suc n) n) tt none);
      follows = (low, omega arith, some_nodes, λ i j y z a b c e e'. absurd (omega arith));
      seen = still_available count f s t th at closed x own_x number th.seen own.seen;
    }

-- the exchange has linked the first node above the base, and there is no walk
pub won_base_sound : (count : ℕ) (f : Frame) (t : ℕ) (th : Thread) (l : ℕ) (x : Node) → Sound count f → slice_get f.threads t ≡ Some th → th.activity ≡ Loaded l → x.thread ≡ t
    → x.number ≡ count_by (is_of_thread t) f.trace + 1 → (b : ℕ) → length f.trace ≡ b → IsAvailable f b
    → Sound count (with_thread (with_node f x) t (logging th (f.trace ++ x ∷ []) b (suc b)))
won_base_sound count f t th l x s at is own_x number b size available =
    let own = own_of count f s t th at in
    let low = in_trace count f s th.seen own.seen in
    let closed = loaded_closed count f t th l s at is in
    let free = free_of count f th (Loaded l) own is (λ q. q) in
    let none = pends_none th.pending (Loaded l) tt (subst (λ (a : Activity). IsPending th.pending None a) is (subst (λ (o : Option ℕ). IsPending th.pending o th.activity) free own.pending)) in
    let alone = fenced_alone th none in
    let long : length (f.trace ++ x ∷ []) ≡ suc (length f.trace) = omega (arith, length-append f.trace (x ∷ [])) in
    let some_threads = inside f.threads t th at in
    let n = s.threads in
    linked_sound count f s t th at closed x own_x number (logging th (f.trace ++ x ∷ []) b (suc b)) refl (ap (λ (o : Option ℕ). open_at o (Logging (suc b) (suc b - b))) free ∙ ap (λ (m : ℕ). Some (suc m)) (sym size))
    (own_logging count (with_node f x) th b (suc b) free
    (subst (AllByRecursion (IsSoundSegment count (f.trace ++ x ∷ []) (fenced_segments f.threads))) alone (old_segments count f s t th at closed x own_x number))
    (subst (Rises 0) alone own.rising)
    (subst (IsSettled th.seen th.fenced) is own.settled)
    (still_available count f s t th at closed x own_x number th.seen own.seen)
    (omega arith) (omega arith) (omega arith) (omega arith)
    (s.covered b available))
