-- What a crash leaves of a sound frame merges to a front of its trace.
use Rattle.std.proofs.Common.{◌≡◌, ℕ, zero, suc, ◌-◌, ◌≤◌, inl, inr, ⊎_elim, List, [], ◌∷◌, ◌++◌, length, sym, refl, subst, arith, Option, Some, option_to_list}
use Rattle.std.specs.Prelude.{IfSome}
use Rattle.std.specs.List.{AllByRecursion, slice_get}
use mathlib.Core.Logic.{dite}
use Rattle.onll_model.specs.declared.node.Node.{Node}
use Rattle.onll_model.specs.Segment.{Segment, Agrees, LiesIn, Covers, Rises}
use Rattle.onll_model.specs.Frames.{Thread, Frame, Sound, IsAvailable, IsSoundSegment, segments_of, fenced_segments}
use Rattle.onll_model.proofs.Lists.{all_left, all_map}
use Rattle.onll_model.proofs.Segments.{lies_left, lies_right, lies_either}
use Rattle.onll_log.specs.declared.head.LogHead.{LogHead}
use Rattle.onll_log.specs.Grammar.{Content}
use Rattle.onll_log.specs.Survey.{top_in_log}
use Rattle.onll_merge.specs.Merge.{top_of}
use Rattle.onll_merge.specs.Laws.{all_segments, EachSegment, HeadsFit, HoldOne}
use Rattle.onll_merge.specs.FrameLogs.{AreLogsOf, MergeToFront}
use Rattle.onll_merge.proofs.Fronts.{merge-front, top_of-lies}

-- ---- what is left is a thread's
pub front_rises : (last : ℕ) (xs ys : List Segment) → Rises last (xs ++ ys) → Rises last xs
front_rises last [] ys r = tt
front_rises last (x ∷ xs) ys r = (r.0, front_rises x.place xs ys r.1)

-- a fact of a thread's segments that each front of them has, too
each_left : (Q : List Segment → Type 0) → ((xs ys : List Segment) → Q (xs ++ ys) → Q xs) → (ths : List Thread) (heads : List LogHead) (logs : List Content) → AreLogsOf ths heads logs
    → ((t : ℕ) (th : Thread) → slice_get ths t ≡ Some th → Q (segments_of th)) → AllByRecursion (λ (c : Content). Q c.entries) logs
each_left Q front [] [] [] a h = tt
each_left Q front [] [] (c ∷ cs) a h = absurd a
each_left Q front [] (x ∷ xs) cs a h = absurd a
each_left Q front (th ∷ ths) [] cs a h = absurd a
each_left Q front (th ∷ ths) (x ∷ xs) [] a h = absurd a
each_left Q front (th ∷ ths) (x ∷ xs) (c ∷ cs) a h = (
  ⊎_elim (λ (e : c.entries ≡ th.fenced). subst Q (sym e) (front th.fenced (option_to_list th.pending) (h 0 th refl))) (λ (e : c.entries ≡ segments_of th). subst Q (sym e) (h 0 th refl)) a.0.segments,
  each_left Q front ths xs cs a.1 (λ t w e. h (suc t) w e),
)

heads_fit : (ths : List Thread) (heads : List LogHead) (logs : List Content) → AreLogsOf ths heads logs → HeadsFit logs heads
heads_fit [] [] [] a = tt
heads_fit [] [] (c ∷ cs) a = absurd a
heads_fit [] (x ∷ xs) cs a = absurd a
heads_fit (th ∷ ths) [] cs a = absurd a
heads_fit (th ∷ ths) (x ∷ xs) [] a = absurd a
heads_fit (th ∷ ths) (x ∷ xs) (c ∷ cs) a = (subst (λ (o : Option LogHead). IfSome o (λ head. head ≡ x)) (sym a.0.head_kept) refl, heads_fit ths xs cs a.1)

-- what is fenced is left
fenced_left : (ths : List Thread) (heads : List LogHead) (logs : List Content) → AreLogsOf ths heads logs → (q : ℕ) → LiesIn q (fenced_segments ths) → LiesIn q (all_segments logs)
fenced_left [] [] [] a q h = absurd h
fenced_left [] [] (c ∷ cs) a q h = absurd a
fenced_left [] (x ∷ xs) cs a q h = absurd a
fenced_left (th ∷ ths) [] cs a q h = absurd a
fenced_left (th ∷ ths) (x ∷ xs) [] a q h = absurd a
fenced_left (th ∷ ths) (x ∷ xs) (c ∷ cs) a q h = ⊎_elim
    (λ (k : LiesIn q th.fenced). lies_left q c.entries (all_segments cs) (⊎_elim
    (λ (e : c.entries ≡ th.fenced). subst (LiesIn q) (sym e) k)
    (λ (e : c.entries ≡ segments_of th). subst (LiesIn q) (sym e) (lies_left q th.fenced (option_to_list th.pending) k)) a.0.segments))
    (λ (k : LiesIn q (fenced_segments ths)). lies_right q c.entries (all_segments cs) (fenced_left ths xs cs a.1 q k))
    (lies_either q th.fenced (fenced_segments ths) h)

-- ---- the greatest place
-- the places below each segment lie in segments
abbrev pub HasBelow : List Segment → Segment → Type 0
HasBelow all s = Covers all (s.place - length s.nodes)

covers_log : (all ss : List Segment) → ((q : ℕ) → LiesIn q ss → LiesIn q all) → AllByRecursion (HasBelow all) ss → Covers all (top_in_log ss)
covers_log all [] into below q low high = absurd (omega arith)
covers_log all (s ∷ ss) into below q low high = dite (native.Mathlib.Decide.dec_le q s.place)
    (λ here. dite (native.Mathlib.Decide.dec_le q (s.place - length s.nodes))
    (λ under. below.0 q low under)
    (λ above. into q (inl (here, omega arith))))
    (λ there. covers_log all ss (λ p l. into p (inr l)) below.1 q low (omega arith))

pub covers_logs : (all : List Segment) (logs : List Content) → ((q : ℕ) → LiesIn q (all_segments logs) → LiesIn q all) → EachSegment (HasBelow all) logs → Covers all (top_of logs)
covers_logs all [] into below q low high = absurd (omega arith)
covers_logs all (c ∷ cs) into below q low high = dite (native.Mathlib.Decide.dec_le q (top_in_log c.entries))
    (λ here. covers_log all c.entries (λ p l. into p (lies_left p c.entries (all_segments cs) l)) below.0 q low here)
    (λ there. covers_logs all cs (λ p l. into p (lies_right p c.entries (all_segments cs) l)) below.1 q low (omega arith))

within_log : (trace : List Node) (ss : List Segment) → AllByRecursion (Agrees trace) ss → top_in_log ss ≤ length trace
within_log trace [] a = omega arith
within_log trace (s ∷ ss) a = let here = a.0.in_trace in let rest = within_log trace ss a.1 in omega arith

pub within_logs : (trace : List Node) (logs : List Content) → EachSegment (Agrees trace) logs → top_of logs ≤ length trace
within_logs trace [] a = omega arith
within_logs trace (c ∷ cs) a = let here = within_log trace c.entries a.0 in let rest = within_logs trace cs a.1 in omega arith

-- ---- together
module _ (count : ℕ) (f : Frame) (heads : List LogHead) (logs : List Content) (s : Sound count f) (left : AreLogsOf f.threads heads logs) where
  pub sound_segments : EachSegment (IsSoundSegment count f.trace (fenced_segments f.threads)) logs
  sound_segments = let P : Segment → Type 0 = IsSoundSegment count f.trace (fenced_segments f.threads) in each_left (AllByRecursion P) (λ xs ys h. all_left P xs ys h) f.threads heads logs left s.segments

  each_segment : (P : Segment → Type 0) → ((g : Segment) → IsSoundSegment count f.trace (fenced_segments f.threads) g → P g) → EachSegment P logs
  each_segment P h = all_map (λ (c : Content). AllByRecursion (IsSoundSegment count f.trace (fenced_segments f.threads)) c.entries) (λ (c : Content). AllByRecursion P c.entries) logs
      (λ c a. all_map (IsSoundSegment count f.trace (fenced_segments f.threads)) P c.entries h a) sound_segments

  pub hold_one : HoldOne f.trace heads logs
  hold_one = record {
    heads_fit = heads_fit f.threads heads logs left;
    agree = each_segment (Agrees f.trace) (λ g h. h.agrees);
    rise = each_left (Rises 0) (λ xs ys r. front_rises 0 xs ys r) f.threads heads logs left s.rising;
    cover = covers_logs (all_segments logs) logs (λ q l. l) (each_segment (HasBelow (all_segments logs)) (λ g h q low high. fenced_left f.threads heads logs left q (h.below q low high)));
    numbered = s.numbered;
  }

  available_held : (p : ℕ) → IsAvailable f p → p ≤ top_of logs
  available_held zero a = omega arith
  available_held (suc p) a = top_of-lies logs (suc p) (fenced_left f.threads heads logs left (suc p) (s.covered (suc p) a (suc p) (omega arith) (omega arith)))

pub merge_to_front : (count : ℕ) (f : Frame) (heads : List LogHead) (logs : List Content) → Sound count f → AreLogsOf f.threads heads logs → MergeToFront f heads logs
merge_to_front count f heads logs s left = let one = hold_one count f heads logs s left in record {
  merged = merge-front f.trace heads logs one;
  within = within_logs f.trace logs one.agree;
  available = available_held count f heads logs s left;
}
