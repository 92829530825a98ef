-- A whole run, from what each thread made.
use Rattle.std.proofs.Common.{◌≡◌, ℕ, zero, suc, ◌+◌, ◌-◌, ◌<◌, ◌⊎◌, inl, inr, ⊎_elim, Bool, true, false, ◌||◌, List, [], ◌∷◌, ◌++◌, length, map, take, drop, Option, Some, None, option_to_list, refl, sym, ap, ◌∙◌, subst, arith, append-nil, length-append, ◌==◌}
use Rattle.std.specs.List.{AllByRecursion, slice_get}
use Rattle.std.proofs.lemmas.List.{length-map, length-take-le}
use Rattle.std.proofs.lemmas.Bool.{eq-eqb}
use Rattle.onll_model.specs.declared.node.Node.{Node}
use Rattle.onll_model.specs.declared.call.CallEnd.{CallEnd}
use Rattle.onll_model.specs.Object.{Behaviour}
use Rattle.onll_model.specs.Segment.{Segment}
use Rattle.onll_model.specs.Frames.{Frame, Thread, Activity, IsPending}
use Rattle.onll_model.specs.Legal.{placed_rows, IsLegalThread, AreLegalThreads}
use Rattle.onll_model.proofs.Lists.{same_some, some_not_none, inside, all_map, take_all, take_before}
use Rattle.onll_pmem.specs.Device.{Mixed, zero_lines}
use Rattle.onll_pmem.specs.Pmem.{DeviceView}
use Rattle.onll_pmem.proofs.Mixes.{Mixed-same, FillsLines-self}
use Rattle.onll_log.specs.Encoding.{entry_lines, log_lines}
use Rattle.onll_log.specs.Log.{free_of, but_last}
use Rattle.onll_log.specs.Torn.{log_image}
use Rattle.onll_log.proofs.Torn.{log_image-more}
use Rattle.onll_merge.specs.Merge.{top_of}
use Rattle.onll_trace.specs.Plans.{base_place}
use Rattle.onll_trace.specs.Spots.{SpotView, base_of}
use Rattle.onll_trace.specs.Closing.{IsIn}
use Rattle.onll_shared.specs.Passes.{OnllView, PassView, IsTied, IsBetween, spot_of}
use Rattle.onll_shared.specs.Crash.{IsLeft, IsKept, AreLeft as AreLeftOf}
use Rattle.onll_shared.specs.Ends.{broken_of}
use Rattle.onll_shared.proofs.Parts.{pending_of}
use Rattle.onll_shared.proofs.Chosen.{contained, index_of, crash_recovers}
use Rattle.onll_run.specs.Outcomes.{failed_in, StandsIn}
use Rattle.onll_run.specs.Workers.{HasWorked}
use Rattle.onll_run.specs.Left.{is_place, failed_at, AllOver, fenced_in, AreLeftImages}
use Rattle.onll_run.specs.Ended.{ThreadRun, script_of, ends_of, after_of, log_left, HaveRun, RunLaw}
use Rattle.onll_run.proofs.Outcomes.{legal_longer, stands_more}

-- entries without the last of them
but_last-more : (ss : List Segment) (s : Segment) → but_last (ss ++ s ∷ []) ≡ ss
but_last-more ss s = let n : length (ss ++ s ∷ []) - 1 ≡ length ss = omega (arith, length-append ss (s ∷ [])) in
    ap (λ (m : ℕ). take m (ss ++ s ∷ [])) n ∙ (take_before ss (s ∷ []) (length ss) (omega arith) ∙ take_all ss)

eqb-eq : (x y : ℕ) → (x == y) ≡ true → x ≡ y
eqb-eq x y e = grind arith

module _ {State Op Query Reply Device : Type 0} (b : Behaviour State Op Query Reply) (means : Device → DeviceView) (onll : OnllView State) where
  -- ---- legal
  -- a thread's outcomes over the whole trace
  thread_legal : (f : Frame) (base t : ℕ) (r : ThreadRun State Op Query Reply Device) → base ≡ base_place onll.trace.plan → r.before.spot.me.thread ≡ t
      → HasWorked b means onll r.script r.ends r.before r.after → IsIn f r.after.spot → IsLegalThread b onll.first base f.trace t r.script r.ends
  thread_legal f base t r same th w here =
      let s : SpotView = r.after.spot in
      let n : ℕ = base_of s in
      let told = w.tied.lawful.told in
      let rows : placed_rows s.me.thread n (drop n (s.known ++ here.known.0)) ≡ placed_rows s.me.thread n (drop n s.known) =
      ap (λ (l : List Node). placed_rows s.me.thread n (drop n l)) here.known.1 ∙ (sym here.own ∙ told.own) in
      let longer = legal_longer b onll.first n s.known here.known.0 s.me.part.seen told.part.seen.1 s.me.thread r.script r.ends w.runs.low rows w.runs.legal in
      let thread : s.me.thread ≡ t = w.gone_on.same.thread ∙ th in
      let place : n ≡ base = ap base_place w.tied.of.plan ∙ sym same in
      subst (λ (z : (ℕ × ℕ) × List Node). IsLegalThread b onll.first z.0.0 z.1 z.0.1 r.script r.ends) (λ i. ((place i, thread i), here.known.1 i)) longer

  threads_legal : (f : Frame) (base t : ℕ) (runs : List (ThreadRun State Op Query Reply Device)) → base ≡ base_place onll.trace.plan → HaveRun b means onll t runs
      → AllByRecursion (IsIn f) (map spot_of (map after_of runs)) → AreLegalThreads b onll.first base f.trace t (map script_of runs) (map ends_of runs)
  threads_legal f base t [] same h s = tt
  threads_legal f base t (r ∷ rs) same h s = (thread_legal f base t r same h.0 h.1 s.0, threads_legal f base (t + 1) rs same h.2 s.1)

  all_over : (t : ℕ) (runs : List (ThreadRun State Op Query Reply Device)) → HaveRun b means onll t runs → AllOver (map script_of runs) (map ends_of runs)
  all_over t [] h = tt
  all_over t (r ∷ rs) h = (h.1.many, h.1.runs.over, all_over (t + 1) rs h.2)

  -- ---- flags
  or_true : (p q : Bool) → p || q ≡ true → (p ≡ true) ⊎ (q ≡ true)
  or_true true q e = inl refl
  or_true false q e = inr e

  or_left : (p q : Bool) → p ≡ true → p || q ≡ true
  or_left true q e = refl
  or_left false q e = absurd (cc)

  or_right : (p q : Bool) → q ≡ true → p || q ≡ true
  or_right true q e = refl
  or_right false q e = e

  is_of : (p : ℕ) (k : Option ℕ) → k ≡ Some p → is_place p k ≡ true
  is_of p None e = absurd (cc)
  is_of p (Some q) e = let same : q ≡ p = (cc) in eq-eqb q p same

  of_is : (p : ℕ) (k : Option ℕ) → is_place p k ≡ true → k ≡ Some p
  of_is p None e = absurd (cc)
  of_is p (Some q) e = ap Some (eqb-eq q p e)

  failed_here : (p t : ℕ) (runs : List (ThreadRun State Op Query Reply Device)) → HaveRun b means onll t runs → (k : ℕ)
      → slice_get (map broken_of (map after_of runs)) k ≡ Some (Some p) → failed_at (map ends_of runs) p ≡ true
  failed_here p t [] h k e = some_not_none (Some p) (sym e)
  failed_here p t (r ∷ rs) h zero e = or_left (is_place p (failed_in r.ends)) (failed_at (map ends_of rs) p) (is_of p (failed_in r.ends) (h.1.runs.failed ∙ same_some r.after.broken (Some p) e))
  failed_here p t (r ∷ rs) h (suc k) e = or_right (is_place p (failed_in r.ends)) (failed_at (map ends_of rs) p) (failed_here p (t + 1) rs h.2 k e)

  broken_here : (p t : ℕ) (runs : List (ThreadRun State Op Query Reply Device)) → HaveRun b means onll t runs → failed_at (map ends_of runs) p ≡ true
      → (k : ℕ) × (slice_get (map broken_of (map after_of runs)) k ≡ Some (Some p))
  broken_here p t [] h e = absurd (cc)
  broken_here p t (r ∷ rs) h e = ⊎_elim
      (λ (q : is_place p (failed_in r.ends) ≡ true). (0, ap Some (sym h.1.runs.failed ∙ of_is p (failed_in r.ends) q)))
      (λ (q : failed_at (map ends_of rs) p ≡ true). let z = broken_here p (t + 1) rs h.2 q in (suc z.0, z.1))
      (or_true (is_place p (failed_in r.ends)) (failed_at (map ends_of rs) p) e)

  -- ---- crashes
  -- what may be left of a log may be left of its pass
  left_one : (pass : PassView State Device) (image : List (List ℕ)) (k : Option ℕ) → k ≡ pass.broken → IsTied b means onll pass
      → Mixed (fenced_in (log_left means pass.log) k) (means pass.log.device).read image → IsLeft pass.log.head pass.spot.me.part image
  left_one pass image None e t m =
      let none : pass.spot.me.part.pending ≡ None = pending_none pass (sym e) t in
      inl (record {
        zeros = free_of (length (means pass.log.device).read) pass.spot.me.part.fenced;
        image_is = Mixed-same (means pass.log.device).read image m ∙ (t.holds.read ∙ ap (λ (ss : List Segment). log_image pass.log.head ss (free_of (length (means pass.log.device).read) ss))
            (t.entries ∙ (ap (λ (o : Option Segment). pass.spot.me.part.fenced ++ option_to_list o) none ∙ append-nil pass.spot.me.part.fenced)));
      })
    where
      pending_none : (p : PassView State Device) → p.broken ≡ None → IsTied b means onll p → p.spot.me.part.pending ≡ None
      pending_none p none u =
          let between : IsBetween None p.spot.me.part = subst (λ (z : Option ℕ). IsBetween z p.spot.me.part) none u.between in
          subst (λ (z : Option ℕ × Activity). IsPending p.spot.me.part.pending z.0 z.1) (λ i. (between.1 i, between.0 i)) u.lawful.told.part.pending
  left_one pass image (Some p) e t m =
      let part : Thread = pass.spot.me.part in
      let s = pending_of p part (subst (λ (z : Option ℕ). IsBetween z part) (sym e) t.between) t.lawful.told.part.pending in
      let lines : ℕ = length (means pass.log.device).read in
      let entries : pass.log.entries ≡ part.fenced ++ s.0 ∷ [] = t.entries ∙ ap (λ (o : Option Segment). part.fenced ++ option_to_list o) s.1 in
      let n : ℕ = free_of lines (part.fenced ++ s.0 ∷ []) in
      let whole : List (List ℕ) = entry_lines pass.log.head (length part.fenced) s.0 ++ zero_lines n in
      let front : but_last pass.log.entries ≡ part.fenced = ap but_last entries ∙ but_last-more part.fenced s.0 in
      let durable = ap (λ (ss : List Segment). log_image pass.log.head ss (free_of lines ss)) front in
      let read : (means pass.log.device).read ≡ log_lines pass.log.head part.fenced ++ whole =
      t.holds.read ∙ (ap (λ (ss : List Segment). log_image pass.log.head ss (free_of lines ss)) entries ∙ log_image-more pass.log.head part.fenced s.0 n) in
      inr (record {
        segment = s.0;
        pending = s.1;
        before = free_of lines part.fenced;
        after = n;
        written = whole;
        among = FillsLines-self whole;
        mixed = subst (λ (z : List (List ℕ) × List (List ℕ)). Mixed z.0 z.1 image) (λ i. (durable i, read i)) m;
      })

  left_all : (t : ℕ) (runs : List (ThreadRun State Op Query Reply Device)) (images : List (List (List ℕ))) → HaveRun b means onll t runs
      → AreLeftImages (map (λ (r : ThreadRun State Op Query Reply Device). log_left means r.after.log) runs) (map ends_of runs) images → AreLeftOf (map after_of runs) images
  left_all t [] [] h a = tt
  left_all t [] (i ∷ images) h a = absurd a
  left_all t (r ∷ rs) [] h a = absurd a
  left_all t (r ∷ rs) (i ∷ images) h a = (left_one r.after i (failed_in r.ends) h.1.runs.failed h.1.tied a.0, left_all (t + 1) rs images h.2 a.1)

  answered_all : (f : Frame) (top t : ℕ) (runs : List (ThreadRun State Op Query Reply Device)) → HaveRun b means onll t runs → AllByRecursion (IsKept f top) (map after_of runs)
      → AllByRecursion (λ (es : List (CallEnd State Op Query Reply)). AllByRecursion (StandsIn top) es) (map ends_of runs)
  answered_all f top t [] h k = tt
  answered_all f top t (r ∷ rs) h k = (
    all_map (StandsIn r.after.spot.me.part.seen) (StandsIn top) r.ends (λ e q. stands_more r.after.spot.me.part.seen top k.0.within e q) h.1.runs.low,
    answered_all f top (t + 1) rs h.2 k.1,
  )

  pub run_whole : RunLaw b means onll
  run_whole base trace runs h same many closed =
      let f : Frame = closed.ended.frame in
      let n : length base.nodes ≡ base_place onll.trace.plan = ap length same in
      record {
        legal = record {
          begins = ap (λ (k : ℕ). take k f.trace) n ∙ (closed.ended.base ∙ sym same);
          numbered = closed.ended.sound.sound.numbered;
          threads = subst (λ (k : ℕ). AllByRecursion (λ (x : Node). x.thread < k) f.trace) (sym (length-map runs script_of ∙ many)) closed.ended.sound.sound.below;
          outcomes = threads_legal f (length base.nodes) 0 runs n h closed.ended.spots;
        };
        over = all_over 0 runs h;
        flags = λ p low high. (
          (λ unset. let k = contained (map broken_of (map after_of runs)) (Some p) ((closed.flags p low high).0 unset) in failed_here p 0 runs h k.0 k.1),
          (λ failed. let k = broken_here p 0 runs h failed in let l = inside (map broken_of (map after_of runs)) k.0 (Some p) k.1 in
              (closed.flags p low high).1 (k.0, l, index_of (map broken_of (map after_of runs)) k.0 (Some p) (Some p) k.1)),
        );
        crash = λ images left.
            let r = crash_recovers onll.trace f (map after_of runs) images closed.moment (left_all 0 runs images h left) in
            let top : ℕ = top_of r.logs in
            let long : length (take top f.trace) ≡ top = let w = r.within in length-take-le top f.trace w in
            let low = r.available (base_place onll.trace.plan) (closed.ended.sound.based.available (base_place onll.trace.plan) (omega arith)) in
            record {
              logs = r.logs;
              contents = r.contents;
              nodes = take top f.trace;
              recovered = r.merged;
              front = ap (λ (k : ℕ). take k f.trace) long;
              from_base = omega arith;
              answered = subst (λ (k : ℕ). AllByRecursion (λ (es : List (CallEnd State Op Query Reply)). AllByRecursion (StandsIn k) es) (map ends_of runs)) (sym long) (answered_all f top 0 runs h r.seen);
            };
      }
