use Rattle.std.proofs.Common.{◌≡◌, ◌≢◌, ℕ, suc, ◌+◌, ◌-◌, ◌<◌, ◌≤◌, Bool, true, false, List, [], ◌∷◌, ◌++◌, length, take, drop, set, Option, Some, None, option_to_list, refl, sym, ap, ◌∙◌, subst, ⊎_elim, ◌⊎◌, inl, arith, append-nil, length-set, true≢false}
use Rattle.std.specs.List.{AllByRecursion, slice_get}
use mathlib.Core.Logic.{◌↔◌, dite}
use Rattle.onll_model.specs.declared.node.Node.{Node}
use Rattle.onll_model.specs.Trace.{node_at}
use Rattle.onll_model.specs.Segment.{Segment, LiesIn, Covers, Rises, last_place, nodes_between}
use Rattle.onll_model.specs.Frames.{Frame, Thread, Activity, Rest, Walk, Logging, Fenced, Sound, IsLast, IsAvailable, is_available, AreApart, IsSoundSegment, IsWindow, fenced_segments, segments_of, open_at, open_place, IsSettled, IsPending, Follows}
use Rattle.onll_model.specs.Events.{with_thread, with_flag, resting_at, window, logging, fencing, stuck_at}
use Rattle.onll_model.proofs.Lists.{same_some, at_window, length_window, all_append, all_left, all_right, all_map}
use Rattle.onll_model.proofs.Segments.{covers_still, rises_snoc, last_snoc, lies_left, lies_right, lies_of_thread}
use Rattle.onll_model.proofs.Traces.{node_place, few_nodes}
use Rattle.onll_model.proofs.Flags.{flag_set}
use Rattle.onll_model.proofs.FrameParts.{each_put, segments_still, Own, own_of, put_sound, free_of, open_free, pends_none}
use Rattle.onll_model.proofs.FrameSteps.{apart_more, seen_below}

-- The steps that log a window, fence it, and set the own flag; and a fence that fails.

-- nodes of different threads are no more than the threads
pub window_few : (count : ℕ) (f : Frame) (d p : ℕ) → Sound count f → d ≤ p → p ≤ length f.trace → AreApart f.trace d p → p - d ≤ count
window_few count f d p s a b c = subst (λ (n : ℕ). n ≤ count) (length_window f.trace d p a b) (few_nodes count (drop d (take p f.trace))
    (λ i j x y l e e'. let h = at_window f.trace d p i x e in let h' = at_window f.trace d p j y e' in let m = h'.1 in c (suc (d + i)) (suc (d + j)) x y (omega arith) (omega arith) (omega arith) h.0 h'.0)
    (λ i x e. let h = at_window f.trace d p i x e in Rattle.onll_model.proofs.Lists.all_at (λ (z : Node). z.thread < count) f.trace s.below (d + i) x h.0))

-- without a pending segment
pub fenced_alone : (th : Thread) → th.pending ≡ None → segments_of th ≡ th.fenced
fenced_alone th e = ap (λ (o : Option Segment). th.fenced ++ option_to_list o) e ∙ append-nil th.fenced

-- The part of a thread that logs the window above d, where d is available. `fenced` are the segments that cover.
pub own_logging : (count : ℕ) (f : Frame) (th : Thread) (d p : ℕ) → th.stuck ≡ None → AllByRecursion (IsSoundSegment count f.trace (fenced_segments f.threads)) th.fenced → Rises 0 th.fenced
    → last_place 0 th.fenced ≤ th.seen → IsAvailable f th.seen
    → th.seen ≤ d → d < p → p ≤ length f.trace → p - d ≤ count → Covers (fenced_segments f.threads) d → Own count f (logging th f.trace d p)
own_logging count f th d p free old rises settled available above below high few cover =
    let g : Segment = window f.trace d p in
    let len : length g.nodes ≡ p - d = length_window f.trace d p (omega arith) high in
    let first : d ≡ p - length g.nodes = omega arith in
    record {
      quiet = λ h. absurd (h free);
      segments = all_append (IsSoundSegment count f.trace (fenced_segments f.threads)) th.fenced (g ∷ []) old (
        record {
          agrees = record { some_nodes = omega arith; from_one = omega arith; in_trace = high; nodes = ap (λ (n : ℕ). nodes_between f.trace n p) first };
          few = omega arith;
          below = subst (Covers (fenced_segments f.threads)) first cover;
        },
        tt,
      );
      rising = rises_snoc 0 th.fenced g rises (omega arith);
      settled = settled;
      pending = subst (λ (o : Option ℕ). IsPending (Some g) o (Logging p (p - d))) (sym free) (g, refl, (refl, len));
      follows = omega arith;
      seen = available;
    }

-- a walk ends at an available place
walk_to_sound : (count : ℕ) (f : Frame) (t : ℕ) (th : Thread) (p d e : ℕ) → Sound count f → slice_get f.threads t ≡ Some th → th.activity ≡ Walk p d → th.seen ≤ e → e < p → AreApart f.trace e p
    → IsAvailable f e → Sound count (with_thread f t (logging th f.trace e p))
walk_to_sound count f t th p d e s at is above below apart available =
    let own = own_of count f s t th at in
    let free = free_of count f th (Walk p d) own is (λ q. q) in
    let none = pends_none th.pending (Walk p d) tt (subst (λ (a : Activity). IsPending th.pending None a) is (subst (λ (o : Option ℕ). IsPending th.pending o th.activity) free own.pending)) in
    let alone = fenced_alone th none in
    let opens = open_free th (Walk p d) free is in
    let last = s.opened t th at p opens in
    let high = (node_place f.trace p last.node last.here).1 in
    put_sound count f t th (logging th f.trace e p) s at (λ q l. l) (ap (λ (o : Option ℕ). open_at o (Logging p (p - e))) free ∙ sym opens)
    (own_logging count f th e p free
    (subst (AllByRecursion (IsSoundSegment count f.trace (fenced_segments f.threads))) alone own.segments)
    (subst (Rises 0) alone own.rising)
    (subst (IsSettled th.seen th.fenced) is own.settled)
    own.seen above below high
    (window_few count f e p s (omega arith) high apart)
    (s.covered e available))

-- the walk meets a flagged node
pub walk_ends_sound : (count : ℕ) (f : Frame) (t : ℕ) (th : Thread) (p d : ℕ) → Sound count f → slice_get f.threads t ≡ Some th → th.activity ≡ Walk p d → IsAvailable f d
    → Sound count (with_thread f t (logging th f.trace d p))
walk_ends_sound count f t th p d s at is available = let fol = subst (Follows f.trace th.seen) is (s.follows t th at) in
    walk_to_sound count f t th p d d s at is fol.0 fol.1 fol.3 available

-- the walk meets the base
pub walk_base_sound : (count : ℕ) (f : Frame) (t : ℕ) (th : Thread) (p b : ℕ) → Sound count f → slice_get f.threads t ≡ Some th → th.activity ≡ Walk p (suc b) → is_available f.flags (suc b) ≡ false
    → IsAvailable f b → Sound count (with_thread f t (logging th f.trace b p))
walk_base_sound count f t th p b s at is unset available =
    let fol = subst (Follows f.trace th.seen) is (s.follows t th at) in
    let below = fol.1 in
    walk_to_sound count f t th p (suc b) b s at is (seen_below count f t th b s at fol.0 unset) (omega arith) (apart_more count f s b p unset fol.3) available

-- the segment that is pending while it is logged
pub logged : (count : ℕ) (f : Frame) (t : ℕ) (th : Thread) (p n : ℕ) → Sound count f → slice_get f.threads t ≡ Some th → th.activity ≡ Logging p n
    → (g : Segment) × (th.pending ≡ Some g) × IsWindow p n g
logged count f t th p n s at is =
    let own = own_of count f s t th at in
    let free = free_of count f th (Logging p n) own is (λ q. q) in
    subst (λ (a : Activity). IsPending th.pending None a) is (subst (λ (o : Option ℕ). IsPending th.pending o th.activity) free own.pending)

-- the log is fenced
pub fence_sound : (count : ℕ) (f : Frame) (t : ℕ) (th : Thread) (p n : ℕ) → Sound count f → slice_get f.threads t ≡ Some th → th.activity ≡ Logging p n → Sound count (with_thread f t (fencing th p n))
fence_sound count f t th p n s at is =
    let own = own_of count f s t th at in
    let free = free_of count f th (Logging p n) own is (λ q. q) in
    let log = logged count f t th p n s at is in
    let whole : segments_of (fencing th p n) ≡ segments_of th = append-nil (segments_of th) in
    put_sound count f t th (fencing th p n) s at (λ q l. lies_left q th.fenced (option_to_list th.pending) l)
    (ap (λ (o : Option ℕ). open_at o (Fenced p n)) free ∙ sym (open_free th (Logging p n) free is)) record {
      quiet = λ h. absurd (h free);
      segments = subst (AllByRecursion (IsSoundSegment count f.trace (fenced_segments f.threads))) (sym whole) own.segments;
      rising = subst (Rises 0) (sym whole) own.rising;
      settled = (th.fenced, log.0, ap (λ (o : Option Segment). th.fenced ++ option_to_list o) log.1, log.2, subst (IsSettled th.seen th.fenced) is own.settled);
      pending = subst (λ (o : Option ℕ). IsPending None o (Fenced p n)) (sym free) refl;
      follows = subst (Follows f.trace th.seen) is own.follows;
      seen = own.seen;
    }

-- the fence has failed, and the thread is stuck
pub fail_sound : (count : ℕ) (f : Frame) (t : ℕ) (th : Thread) (p n : ℕ) → Sound count f → slice_get f.threads t ≡ Some th → th.activity ≡ Logging p n → Sound count (with_thread f t (stuck_at th p))
fail_sound count f t th p n s at is =
    let own = own_of count f s t th at in
    let free = free_of count f th (Logging p n) own is (λ q. q) in
    let log = logged count f t th p n s at is in
    put_sound count f t th (stuck_at th p) s at (λ q l. l) (sym (open_free th (Logging p n) free is)) record {
      quiet = λ _. tt;
      segments = own.segments;
      rising = own.rising;
      settled = subst (IsSettled th.seen th.fenced) is own.settled;
      pending = (log.0, log.1, log.2.0);
      follows = tt;
      seen = own.seen;
    }

-- what is fenced last lies above what its thread's other segments and the segments below it cover
last_covers : (count : ℕ) (f : Frame) (t : ℕ) (th : Thread) (p n : ℕ) → Sound count f → slice_get f.threads t ≡ Some th → th.activity ≡ Fenced p n → Covers (fenced_segments f.threads) p
last_covers count f t th p n s at is q low high =
    let settled = subst (IsSettled th.seen th.fenced) is (s.settled t th at) in
    let g : Segment = settled.1 in
    let place = settled.3.0 in
    let own : AllByRecursion (IsSoundSegment count f.trace (fenced_segments f.threads)) th.fenced = all_left _ th.fenced (option_to_list th.pending) (s.segments t th at) in
    let mine = (all_right _ settled.0 (g ∷ []) (subst (AllByRecursion (IsSoundSegment count f.trace (fenced_segments f.threads))) settled.2 own)).0 in
    dite (native.Mathlib.Decide.dec_le q (g.place - length g.nodes))
    (λ le. mine.below q low le)
    (λ gt. lies_of_thread q f.threads t th at (subst (LiesIn q) (sym settled.2) (lies_right q settled.0 (g ∷ []) (inl (omega arith, omega arith)))))

-- the own flag is set, and the update returns
pub set_sound : (count : ℕ) (f : Frame) (t : ℕ) (th : Thread) (p n : ℕ) → Sound count f → slice_get f.threads t ≡ Some th → th.activity ≡ Fenced p n
    → Sound count (with_thread (with_flag f p) t (resting_at th p))
set_sound count f t th p n s at is =
    let own = own_of count f s t th at in
    let free = free_of count f th (Fenced p n) own is (λ q. q) in
    let w : Thread = resting_at th p in
    let last = s.opened t th at p (open_free th (Fenced p n) free is) in
    let here = node_place f.trace p last.node last.here in
    let long : p ≤ length f.flags = (let e = s.flags in let h = here.1 in omega arith) in
    let fs : List Bool = set f.flags (p - 1) true in
    let flag : (q : ℕ) → ((q ≡ p) × (is_available fs q ≡ true)) ⊎ ((q ≢ p) × (is_available fs q ≡ is_available f.flags q)) = (λ q. flag_set f.flags p q here.0 long) in
    let up : (q : ℕ) → IsAvailable f q → is_available fs q ≡ true = (λ q e. ⊎_elim (λ (h : (q ≡ p) × (is_available fs q ≡ true)). h.1) (λ (h : (q ≢ p) × (is_available fs q ≡ is_available f.flags q)). h.1 ∙ e) (flag q)) in
    let up_here : (q : ℕ) → q ≡ p → is_available fs q ≡ true = (λ q e. ⊎_elim (λ (h : (q ≡ p) × (is_available fs q ≡ true)). h.1) (λ (h : (q ≢ p) × (is_available fs q ≡ is_available f.flags q)). absurd (h.0 e)) (flag q)) in
    let cover = covers_still f.threads t th w at (λ q l. l) in
    let old : List Segment = fenced_segments f.threads in
    let new : List Segment = fenced_segments (set f.threads t w) in
    let settled = subst (IsSettled th.seen th.fenced) is own.settled in
    let g : Segment = settled.1 in
    let top : last_place 0 th.fenced ≡ p = ap (last_place 0) settled.2 ∙ (last_snoc 0 settled.0 g ∙ settled.3.0) in
    let none = subst (λ (o : Option ℕ). IsPending th.pending o (Fenced p n)) free (subst (IsPending th.pending th.stuck) is own.pending) in
    let closed : (q : ℕ) → open_place w ≢ Some q = (λ q e. absurd (let both = ap (λ (o : Option ℕ). open_at o Rest) (sym free) ∙ e in (cc))) in
    record {
      flags = length-set f.flags (p - 1) true ∙ s.flags;
      threads = length-set f.threads t w ∙ s.threads;
      numbered = s.numbered;
      below = s.below;
      earlier = λ q r y z a b same less. up q (s.earlier q r y z a b same less);
      latest = each_put (λ u z. (q : ℕ) → IsLast f.trace u q → (is_available fs q ≡ false) ↔ (open_place z ≡ Some q)) f.threads t w
          (λ q l. let a = last.none_later q l.node l.here l.own in let b = l.none_later p last.node last.here last.own in let same : q ≡ p = omega arith in
          ((λ e. absurd (true≢false (sym (up_here q same) ∙ e))), λ e. absurd (closed q e)))
          (λ u z other e q l. ⊎_elim
          (λ (h : (q ≡ p) × (is_available fs q ≡ true)). absurd (let same = same_some l.node last.node (sym l.here ∙ (ap (node_at f.trace) h.0 ∙ last.here)) in other (sym l.own ∙ (ap (λ (x : Node). x.thread) same ∙ last.own))))
          (λ (h : (q ≢ p) × (is_available fs q ≡ is_available f.flags q)). let both = s.latest u z e q l in ((λ i. both.0 (sym h.1 ∙ i)), λ i. h.1 ∙ both.1 i))
          (flag q));
      opened = each_put _ f.threads t w (λ q e. absurd (closed q e)) (λ u z _ e. s.opened u z e);
      quiet = each_put _ f.threads t w (λ _. tt) (λ u z _ e. s.quiet u z e);
      segments = each_put (λ u z. AllByRecursion (IsSoundSegment count f.trace new) (segments_of z)) f.threads t w
          (segments_still count f.trace f.trace old new (segments_of w) (λ x a. a) cover own.segments)
          (λ u z _ e. segments_still count f.trace f.trace old new (segments_of z) (λ x a. a) cover (s.segments u z e));
      covered = λ q e. cover q (⊎_elim
          (λ (h : (q ≡ p) × (is_available fs q ≡ true)). subst (Covers old) (sym h.0) (last_covers count f t th p n s at is))
          (λ (h : (q ≢ p) × (is_available fs q ≡ is_available f.flags q)). s.covered q (sym h.1 ∙ e))
          (flag q));
      rising = each_put _ f.threads t w own.rising (λ u z _ e. s.rising u z e);
      settled = each_put _ f.threads t w (omega arith) (λ u z _ e. s.settled u z e);
      pending = each_put _ f.threads t w (subst (λ (o : Option ℕ). IsPending th.pending o Rest) (sym free) none) (λ u z _ e. s.pending u z e);
      follows = each_put _ f.threads t w tt (λ u z _ e. s.follows u z e);
      seen = each_put _ f.threads t w (up_here p refl) (λ u z _ e. up z.seen (s.seen u z e));
      notes = all_map (IsAvailable f) (λ q. is_available fs q ≡ true) f.notes up s.notes;
    }
