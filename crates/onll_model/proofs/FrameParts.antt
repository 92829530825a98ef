use Rattle.std.proofs.Common.{◌≡◌, ◌≢◌, ℕ, ◌-◌, ◌≤◌, false, List, length, set, Option, Some, None, refl, sym, ap, ◌∙◌, subst, ⊎_elim, arith, length-set, true≢false}
use Rattle.std.specs.List.{AllByRecursion, slice_get}
use mathlib.Core.Logic.{◌↔◌, dite}
use Rattle.onll_model.specs.declared.node.Node.{Node}
use Rattle.onll_model.specs.Trace.{node_at}
use Rattle.onll_model.specs.Segment.{Segment, Agrees, Covers, Rises, last_place}
use Rattle.onll_model.specs.Frames.{Frame, Thread, Activity, Rest, Loaded, Walk, Logging, Fenced, Asking, Sound, IsLast, IsAvailable, is_available, IsSoundSegment, fenced_segments, segments_of, open_in, open_at, open_place, IsQuiet, IsSettled, IsPending, Follows}
use Rattle.onll_model.specs.Events.{with_thread}
use Rattle.onll_model.proofs.Lists.{at_set, all_map}
use Rattle.onll_model.proofs.Segments.{Grows, covers_still}
use Rattle.onll_model.proofs.Flags.{available_low}

-- A change of one thread's part keeps a frame sound, where it keeps the place that is open.

-- what holds of each thread holds after one of them has changed
pub each_put : (P : ℕ → Thread → Type 0) (ths : List Thread) (t : ℕ) (w : Thread) → P t w → ((u : ℕ) (z : Thread) → u ≢ t → slice_get ths u ≡ Some z → P u z) → (u : ℕ) (z : Thread)
    → slice_get (set ths t w) u ≡ Some z → P u z
each_put P ths t w mine others u z e = ⊎_elim (λ (x : (u ≡ t) × (w ≡ z)). subst (λ (y : ℕ × Thread). P y.0 y.1) (λ i. (sym x.0 i, x.1 i)) mine)
    (λ (x : (u ≢ t) × (slice_get ths u ≡ Some z)). others u z x.0 x.1) (at_set ths t u w z e)

-- segments stay sound where the trace grows and more is covered
pub segments_still : (count : ℕ) (trace longer : List Node) (fenced more ss : List Segment) → ((s : Segment) → Agrees trace s → Agrees longer s) → ((p : ℕ) → Covers fenced p → Covers more p)
    → AllByRecursion (IsSoundSegment count trace fenced) ss → AllByRecursion (IsSoundSegment count longer more) ss
segments_still count trace longer fenced more ss agree cover all = all_map (IsSoundSegment count trace fenced) (IsSoundSegment count longer more) ss
    (λ s h. record { agrees = agree s h.agrees; few = h.few; below = cover (s.place - length s.nodes) h.below }) all

-- what a sound frame says of one thread, where these threads cover
pub record Own (count : ℕ) (f : Frame) (w : Thread) : Type 0 where
  pub quiet : w.stuck ≢ None → IsQuiet w.activity
  pub segments : AllByRecursion (IsSoundSegment count f.trace (fenced_segments f.threads)) (segments_of w)
  pub rising : Rises 0 (segments_of w)
  pub settled : IsSettled w.seen w.fenced w.activity
  pub pending : IsPending w.pending w.stuck w.activity
  pub follows : Follows f.trace w.seen w.activity
  pub seen : IsAvailable f w.seen

pub own_of : (count : ℕ) (f : Frame) → Sound count f → (t : ℕ) (th : Thread) → slice_get f.threads t ≡ Some th → Own count f th
own_of count f s t th at = record {
  quiet = s.quiet t th at;
  segments = s.segments t th at;
  rising = s.rising t th at;
  settled = s.settled t th at;
  pending = s.pending t th at;
  follows = s.follows t th at;
  seen = s.seen t th at;
}

pub put_sound : (count : ℕ) (f : Frame) (t : ℕ) (th w : Thread) → Sound count f → slice_get f.threads t ≡ Some th → Grows th w → open_place w ≡ open_place th → Own count f w
    → Sound count (with_thread f t w)
put_sound count f t th w s at more same own =
    let cover = covers_still f.threads t th w at more in
    let old : List Segment = fenced_segments f.threads in
    let new : List Segment = fenced_segments (set f.threads t w) in
    record {
      flags = s.flags;
      threads = length-set f.threads t w ∙ s.threads;
      numbered = s.numbered;
      below = s.below;
      earlier = s.earlier;
      latest = each_put (λ u z. (p : ℕ) → IsLast f.trace u p → (is_available f.flags p ≡ false) ↔ (open_place z ≡ Some p)) f.threads t w
          (λ p last. subst (λ (o : Option ℕ). (is_available f.flags p ≡ false) ↔ (o ≡ Some p)) (sym same) (s.latest t th at p last))
          (λ u z _ e. s.latest u z e);
      opened = each_put _ f.threads t w (λ p e. s.opened t th at p (sym same ∙ e)) (λ u z _ e. s.opened u z e);
      quiet = each_put _ f.threads t w own.quiet (λ u z _ e. s.quiet u z e);
      segments = each_put (λ u z. AllByRecursion (IsSoundSegment count f.trace new) (segments_of z)) f.threads t w
          (segments_still count f.trace f.trace old new (segments_of w) (λ g a. a) cover own.segments)
          (λ u z _ e. segments_still count f.trace f.trace old new (segments_of z) (λ g a. a) cover (s.segments u z e));
      covered = λ p e. cover p (s.covered p e);
      rising = each_put _ f.threads t w own.rising (λ u z _ e. s.rising u z e);
      settled = each_put _ f.threads t w own.settled (λ u z _ e. s.settled u z e);
      pending = each_put _ f.threads t w own.pending (λ u z _ e. s.pending u z e);
      follows = each_put _ f.threads t w own.follows (λ u z _ e. s.follows u z e);
      seen = each_put _ f.threads t w own.seen (λ u z _ e. s.seen u z e);
      notes = s.notes;
    }

-- an available place is one of the trace
pub in_trace : (count : ℕ) (f : Frame) → Sound count f → (p : ℕ) → IsAvailable f p → p ≤ length f.trace
in_trace count f s p e = let n = s.flags in let h = available_low f.flags p e in omega arith

-- a node that isn't flagged is its thread's last
pub unflagged_last : (count : ℕ) (f : Frame) → Sound count f → (p : ℕ) (x : Node) → node_at f.trace p ≡ Some x → is_available f.flags p ≡ false → IsLast f.trace x.thread p
unflagged_last count f s p x here unset = record {
  node = x;
  here = here;
  own = refl;
  none_later = λ q y e own. dite (native.Mathlib.Decide.dec_le q p) (λ le. le)
      (λ gt. absurd (true≢false (sym (s.earlier p q x y here e (sym own) (omega arith)) ∙ unset)));
}

-- on activities

pub not_stuck : (o : Option ℕ) → (o ≢ None → ⊥) → o ≡ None
not_stuck None h = refl
not_stuck (Some p) h = absurd (h (λ e. (cc)))

-- a thread in an update isn't stuck
pub free_of : (count : ℕ) (f : Frame) (w : Thread) (a : Activity) → Own count f w → w.activity ≡ a → (IsQuiet a → ⊥) → w.stuck ≡ None
free_of count f w a own is not = not_stuck w.stuck (λ h. not (subst IsQuiet is (own.quiet h)))

pub same_open : (o : Option ℕ) (a b : Activity) → open_in a ≡ open_in b → open_at o a ≡ open_at o b
same_open (Some p) a b e = refl
same_open None a b e = e

-- the open place of a thread that isn't stuck
pub open_free : (th : Thread) (a : Activity) → th.stuck ≡ None → th.activity ≡ a → open_place th ≡ open_in a
open_free th a free is = ap (λ (o : Option ℕ). open_at o th.activity) free ∙ ap open_in is

pub still_open : (o : Option ℕ) (a : Activity) (p : ℕ) → (o ≢ None → IsQuiet a) → open_in a ≡ Some p → open_at o a ≡ Some p
still_open None a p q e = e
still_open (Some r) Rest p q e = (cc)
still_open (Some r) (Loaded l) p q e = (cc)
still_open (Some r) (Walk g d) p q e = absurd (q (λ k. (cc)))
still_open (Some r) (Logging g n) p q e = absurd (q (λ k. (cc)))
still_open (Some r) (Fenced g n) p q e = absurd (q (λ k. (cc)))
still_open (Some r) (Asking g d) p q e = (cc)

-- nothing of the activity is being written to the log
abbrev pub IsUnwritten : Activity → Type 0
IsUnwritten Rest = Unit {0}
IsUnwritten (Loaded l) = Unit {0}
IsUnwritten (Walk p d) = Unit {0}
IsUnwritten (Logging p n) = ⊥
IsUnwritten (Fenced p n) = ⊥
IsUnwritten (Asking f d) = Unit {0}

pub pends_none : (g : Option Segment) (a : Activity) → IsUnwritten a → IsPending g None a → g ≡ None
pends_none g Rest u h = h
pends_none g (Loaded l) u h = h
pends_none g (Walk p d) u h = h
pends_none g (Logging p n) u h = absurd u
pends_none g (Fenced p n) u h = absurd u
pends_none g (Asking f d) u h = h

pub none_pends : (g : Option Segment) (a : Activity) → IsUnwritten a → g ≡ None → IsPending g None a
none_pends g Rest u h = h
none_pends g (Loaded l) u h = h
none_pends g (Walk p d) u h = h
none_pends g (Logging p n) u h = absurd u
none_pends g (Fenced p n) u h = absurd u
none_pends g (Asking f d) u h = h

pub pends_same : (g : Option Segment) (o : Option ℕ) (a b : Activity) → IsUnwritten a → IsUnwritten b → IsPending g o a → IsPending g o b
pends_same g (Some p) a b u v h = h
pends_same g None a b u v h = none_pends g b v (pends_none g a u h)

pub settled_low : (seen : ℕ) (ss : List Segment) (a : Activity) → IsUnwritten a → IsSettled seen ss a → last_place 0 ss ≤ seen
settled_low seen ss Rest u h = h
settled_low seen ss (Loaded l) u h = h
settled_low seen ss (Walk p d) u h = h
settled_low seen ss (Logging p n) u h = absurd u
settled_low seen ss (Fenced p n) u h = absurd u
settled_low seen ss (Asking f d) u h = h

pub low_settled : (seen : ℕ) (ss : List Segment) (a : Activity) → IsUnwritten a → last_place 0 ss ≤ seen → IsSettled seen ss a
low_settled seen ss Rest u h = h
low_settled seen ss (Loaded l) u h = h
low_settled seen ss (Walk p d) u h = h
low_settled seen ss (Logging p n) u h = absurd u
low_settled seen ss (Fenced p n) u h = absurd u
low_settled seen ss (Asking f d) u h = h

pub quiet_unwritten : (a : Activity) → IsQuiet a → IsUnwritten a
quiet_unwritten Rest q = tt
quiet_unwritten (Loaded l) q = absurd q
quiet_unwritten (Walk p d) q = absurd q
quiet_unwritten (Logging p n) q = absurd q
quiet_unwritten (Fenced p n) q = absurd q
quiet_unwritten (Asking f d) q = tt

pub quiet_open : (a : Activity) → IsQuiet a → open_in a ≡ None
quiet_open Rest q = refl
quiet_open (Loaded l) q = absurd q
quiet_open (Walk p d) q = absurd q
quiet_open (Logging p n) q = absurd q
quiet_open (Fenced p n) q = absurd q
quiet_open (Asking f d) q = refl
