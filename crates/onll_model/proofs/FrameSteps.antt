use Rattle.std.proofs.Common.{◌≡◌, ◌≢◌, ℕ, suc, ◌<◌, ◌≤◌, max, false, List, length, Some, None, refl, sym, ap, ◌∙◌, subst, ⊎_elim, arith, true≢false}
use Rattle.std.specs.List.{AllByRecursion, slice_get}
use Rattle.std.proofs.lemmas.Bool.{cases_lt}
use mathlib.Core.Logic.{dite}
use native.Mathlib.Decide.{ℕ_discrete}
use Rattle.onll_model.specs.Frames.{Frame, Thread, Activity, Rest, Loaded, Walk, Asking, Sound, IsAvailable, is_available, AreApart, open_in, open_at, IsQuiet, IsSettled, IsPending, Follows}
use Rattle.onll_model.specs.Events.{with_thread, with_notes, doing, resting_at}
use Rattle.onll_model.proofs.FrameParts.{own_of, put_sound, in_trace, unflagged_last, free_of, same_open, IsUnwritten, pends_same, settled_low, low_settled, quiet_unwritten, quiet_open}

-- Steps that change only what a thread is about, or only what it has seen.

-- the activity alone changes, and the place that is open stays
pub doing_sound : (count : ℕ) (f : Frame) (t : ℕ) (th : Thread) (a b : Activity) → Sound count f → slice_get f.threads t ≡ Some th → th.activity ≡ a
    → open_in b ≡ open_in a → (th.stuck ≢ None → IsQuiet b) → IsUnwritten a → IsUnwritten b → Follows f.trace th.seen b → Sound count (with_thread f t (doing th b))
doing_sound count f t th a b s at is opens quiet u v follows =
    let own = own_of count f s t th at in
    put_sound count f t th (doing th b) s at (λ q l. l) (same_open th.stuck b a opens ∙ ap (open_at th.stuck) (sym is)) record {
      quiet = quiet;
      segments = own.segments;
      rising = own.rising;
      settled = low_settled th.seen th.fenced b v (settled_low th.seen th.fenced a u (subst (IsSettled th.seen th.fenced) is own.settled));
      pending = pends_same th.pending th.stuck a b u v (subst (IsPending th.pending th.stuck) is own.pending);
      follows = follows;
      seen = own.seen;
    }

-- an update loads the tail
pub look_sound : (count : ℕ) (f : Frame) (t : ℕ) (th : Thread) → Sound count f → slice_get f.threads t ≡ Some th → th.activity ≡ Rest → th.stuck ≡ None
    → Sound count (with_thread f t (doing th (Loaded (length f.trace))))
look_sound count f t th s at is free = let low = in_trace count f s th.seen (s.seen t th at) in
    doing_sound count f t th Rest (Loaded (length f.trace)) s at is refl (λ h. absurd (h free)) tt tt (low, omega arith)

-- and again after a lost exchange
pub look_again_sound : (count : ℕ) (f : Frame) (t : ℕ) (th : Thread) (l : ℕ) → Sound count f → slice_get f.threads t ≡ Some th → th.activity ≡ Loaded l
    → Sound count (with_thread f t (doing th (Loaded (length f.trace))))
look_again_sound count f t th l s at is = let low = in_trace count f s th.seen (s.seen t th at) in
    let free = free_of count f th (Loaded l) (own_of count f s t th at) is (λ q. q) in
    doing_sound count f t th (Loaded l) (Loaded (length f.trace)) s at is refl (λ h. absurd (h free)) tt tt (low, omega arith)

-- the update ends without a node
pub withdraw_sound : (count : ℕ) (f : Frame) (t : ℕ) (th : Thread) (l : ℕ) → Sound count f → slice_get f.threads t ≡ Some th → th.activity ≡ Loaded l → Sound count (with_thread f t (doing th Rest))
withdraw_sound count f t th l s at is = doing_sound count f t th (Loaded l) Rest s at is refl (λ _. tt) tt tt tt

-- a seen place isn't one whose flag is unset
pub seen_below : (count : ℕ) (f : Frame) (t : ℕ) (th : Thread) (d : ℕ) → Sound count f → slice_get f.threads t ≡ Some th → th.seen ≤ suc d → is_available f.flags (suc d) ≡ false → th.seen ≤ d
seen_below count f t th d s at le unset = let not : th.seen ≢ suc d = (λ e. true≢false (sym (s.seen t th at) ∙ (ap (is_available f.flags) e ∙ unset))) in omega arith

-- the window grows by a node that isn't flagged
pub apart_more : (count : ℕ) (f : Frame) → Sound count f → (d p : ℕ) → is_available f.flags (suc d) ≡ false → AreApart f.trace (suc d) p → AreApart f.trace d p
apart_more count f s d p unset h i j x y a b c u v = dite (ℕ_discrete i (suc d))
    (λ is same. let last = unflagged_last count f s i x u (ap (is_available f.flags) is ∙ unset) in let le = last.none_later j y v (sym same) in absurd (omega arith))
    (λ not. h i j x y (omega arith) b c u v)

-- the walk goes on below a node that isn't flagged
pub walk_on_sound : (count : ℕ) (f : Frame) (t : ℕ) (th : Thread) (p d : ℕ) → Sound count f → slice_get f.threads t ≡ Some th → th.activity ≡ Walk p (suc d) → 1 ≤ d
    → is_available f.flags (suc d) ≡ false → Sound count (with_thread f t (doing th (Walk p d)))
walk_on_sound count f t th p d s at is low unset =
    let own = own_of count f s t th at in
    let fol = subst (Follows f.trace th.seen) is own.follows in
    let b = fol.1 in
    let free = free_of count f th (Walk p (suc d)) own is (λ q. q) in
    doing_sound count f t th (Walk p (suc d)) (Walk p d) s at is refl (λ h. absurd (h free)) tt tt
    (seen_below count f t th d s at fol.0 unset, omega arith, low, apart_more count f s d p unset fol.3)

-- a read loads the tail
pub ask_sound : (count : ℕ) (f : Frame) (t : ℕ) (th : Thread) → Sound count f → slice_get f.threads t ≡ Some th → th.activity ≡ Rest → 1 ≤ length f.trace
    → Sound count (with_thread f t (doing th (Asking (length f.trace) (length f.trace))))
ask_sound count f t th s at is some_nodes = let low = in_trace count f s th.seen (s.seen t th at) in
    doing_sound count f t th Rest (Asking (length f.trace) (length f.trace)) s at is refl (λ _. tt) tt tt (low, omega arith, omega arith, some_nodes)

-- a read goes on below a node that isn't flagged
pub ask_on_sound : (count : ℕ) (f : Frame) (t : ℕ) (th : Thread) (q d : ℕ) → Sound count f → slice_get f.threads t ≡ Some th → th.activity ≡ Asking q (suc d) → 1 ≤ d
    → is_available f.flags (suc d) ≡ false → Sound count (with_thread f t (doing th (Asking q d)))
ask_on_sound count f t th q d s at is low unset =
    let fol = subst (Follows f.trace th.seen) is (s.follows t th at) in
    let b = fol.1 in
    let c = fol.2 in
    doing_sound count f t th (Asking q (suc d)) (Asking q d) s at is refl (λ _. tt) tt tt
    (seen_below count f t th d s at fol.0 unset, omega arith, c, low)

-- a read returns at an available place, or its thread learns of one
pub rest_sound : (count : ℕ) (f : Frame) (t : ℕ) (th : Thread) (d : ℕ) → Sound count f → slice_get f.threads t ≡ Some th → IsQuiet th.activity → th.seen ≤ d → IsAvailable f d
    → Sound count (with_thread f t (resting_at th d))
rest_sound count f t th d s at quiet above available =
    let own = own_of count f s t th at in
    let u = quiet_unwritten th.activity quiet in
    let settled = settled_low th.seen th.fenced th.activity u own.settled in
    put_sound count f t th (resting_at th d) s at (λ q l. l) (same_open th.stuck Rest th.activity (sym (quiet_open th.activity quiet))) record {
      quiet = λ _. tt;
      segments = own.segments;
      rising = own.rising;
      settled = omega arith;
      pending = pends_same th.pending th.stuck th.activity Rest u tt own.pending;
      follows = tt;
      seen = available;
    }

-- a read meets a flagged node
pub ask_ends_sound : (count : ℕ) (f : Frame) (t : ℕ) (th : Thread) (q d : ℕ) → Sound count f → slice_get f.threads t ≡ Some th → th.activity ≡ Asking q d → IsAvailable f d
    → Sound count (with_thread f t (resting_at th d))
ask_ends_sound count f t th q d s at is available = let fol = subst (Follows f.trace th.seen) is (s.follows t th at) in
    rest_sound count f t th d s at (subst IsQuiet (sym is) tt) fol.0 available

-- a read meets the base
pub ask_base_sound : (count : ℕ) (f : Frame) (t : ℕ) (th : Thread) (q b : ℕ) → Sound count f → slice_get f.threads t ≡ Some th → th.activity ≡ Asking q (suc b) → is_available f.flags (suc b) ≡ false
    → IsAvailable f b → Sound count (with_thread f t (resting_at th b))
ask_base_sound count f t th q b s at is unset available = let fol = subst (Follows f.trace th.seen) is (s.follows t th at) in
    rest_sound count f t th b s at (subst IsQuiet (sym is) tt) (seen_below count f t th b s at fol.0 unset) available

-- at rest the seen place rises to that of a note
pub learn_sound : (count : ℕ) (f : Frame) (t : ℕ) (th : Thread) (p : ℕ) → Sound count f → slice_get f.threads t ≡ Some th → th.activity ≡ Rest → IsAvailable f p
    → Sound count (with_thread f t (resting_at th (max th.seen p)))
learn_sound count f t th p s at is available = rest_sound count f t th (max th.seen p) s at (subst IsQuiet (sym is) tt) (omega arith)
    (⊎_elim (λ (h : th.seen < p). let k : p ≡ max th.seen p = omega arith in subst (IsAvailable f) k available)
    (λ (h : p ≤ th.seen). let k : th.seen ≡ max th.seen p = omega arith in subst (IsAvailable f) k (s.seen t th at)) (cases_lt th.seen p))

-- other notes are out
pub notes_sound : (count : ℕ) (f : Frame) (notes : List ℕ) → Sound count f → AllByRecursion (IsAvailable f) notes → Sound count (with_notes f notes)
notes_sound count f notes s all = record {
  flags = s.flags;
  threads = s.threads;
  numbered = s.numbered;
  below = s.below;
  earlier = s.earlier;
  latest = s.latest;
  opened = s.opened;
  quiet = s.quiet;
  segments = s.segments;
  covered = s.covered;
  rising = s.rising;
  settled = s.settled;
  pending = s.pending;
  follows = s.follows;
  seen = s.seen;
  notes = all;
}
