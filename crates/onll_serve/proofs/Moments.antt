-- What a crash leaves of a service at any moment is a front of what its threads had done.
use Rattle.std.proofs.Common.{ℕ, suc, ◌≡◌, ◌≤◌, List, [], ◌∷◌, length, map, take, refl, sym, ap, ◌∙◌, subst, arith}
use Rattle.std.specs.List.{AllByRecursion}
use Rattle.std.proofs.lemmas.List.{length-map, length-take}
use Rattle.onll_model.specs.declared.call.Call.{Call}
use Rattle.onll_model.specs.declared.call.CallEnd.{CallEnd}
use Rattle.onll_model.specs.declared.node.Node.{Node}
use Rattle.onll_model.specs.Frames.{Frame, Thread, fenced_segments}
use Rattle.onll_model.specs.Object.{Behaviour}
use Rattle.onll_model.specs.Segment.{Covers}
use Rattle.onll_model.proofs.Lists.{all_map, take_before}
use Rattle.onll_pmem.specs.Pmem.{DeviceView}
use Rattle.onll_merge.specs.Merge.{top_of}
use Rattle.onll_trace.specs.Plans.{Plan}
use Rattle.onll_trace.specs.Spots.{TraceView}
use Rattle.onll_shared.specs.Crash.{AreLeft, IsKept, IsMoment, PassesRecover, head_of}
use Rattle.onll_shared.specs.Found.{head_held}
use Rattle.onll_shared.specs.Passes.{OnllView, PassView, log_of}
use Rattle.onll_shared.proofs.Chosen.{crash_recovers}
use Rattle.onll_run.specs.Outcomes.{StandsIn}
use Rattle.onll_run.proofs.Outcomes.{stands_more}
use Rattle.onll_open.specs.Misfits.{found_in}
use Rattle.onll_threads.specs.Acts.{seen_in}
use Rattle.onll_serve.specs.Lives.{AllStandIn, IsLifeFront}
use Rattle.onll_serve.specs.Moments.{HaveCome, KilledLaw, MomentLaw, generation_at}
use Rattle.onll_serve.proofs.Holding.{one_each}
use Rattle.onll_serve.proofs.Linking.{nodes_found}

-- ---- the base
-- where there is no thread nothing is fenced, so there is no base
none_covered : (threads : List Thread) (base : List Node) → length threads ≡ 0 → Covers (fenced_segments threads) (length base) → base ≡ []
none_covered threads [] none covers = refl
none_covered [] (x ∷ base) none covers = absurd (covers 1 (omega arith) (omega arith))
none_covered (th ∷ threads) (x ∷ base) none covers = absurd (omega (arith, none))

module _ {State Device : Type 0} (v : TraceView) (f : Frame) where
  begins : (passes : List (PassView State Device)) → IsMoment v f passes → take (length v.plan.base) f.trace ≡ v.plan.base
  begins [] m =
      let count = m.all.count in
      let threads = m.sound.sound.threads in
      let covered = m.sound.sound.covered (length v.plan.base) (m.sound.based.available (length v.plan.base) (omega arith)) in
      let none : v.plan.base ≡ [] = none_covered f.threads v.plan.base (omega (arith, count, threads)) covered in
      subst (λ (base : List Node). take (length base) f.trace ≡ base) (sym none) refl
  begins (p ∷ passes) m =
      let told = m.lawful.0.told in
      let plan = m.all.of.0.plan in
      let shown = m.shown.0.known in
      let long : length p.spot.plan.base ≤ length p.spot.known = told.long in
      let here : take (length p.spot.plan.base) f.trace ≡ p.spot.plan.base =
      ap (take (length p.spot.plan.base)) (sym shown.1) ∙ (take_before p.spot.known shown.0 (length p.spot.plan.base) long ∙ told.base) in
      subst (λ (k : Plan). take (length k.base) f.trace ≡ k.base) plan here

module _ {State Op Query Reply Device : Type 0} (b : Behaviour State Op Query Reply) (means : Device → DeviceView)
    (onll : OnllView State) where
  -- what was answered on a pass stands at what it has seen
  all_stand : (f : Frame) (top : ℕ) (scripts : List (List (Call State Op Query Reply)))
      (ends : List (List (CallEnd State Op Query Reply))) (firsts nows : List (PassView State Device))
      → HaveCome b means onll scripts ends firsts nows → AllByRecursion (IsKept f top) nows → AllStandIn top ends
  all_stand f top [] [] [] [] h k = tt
  all_stand f top [] [] [] (now ∷ nows) h k = absurd h
  all_stand f top [] [] (first ∷ firsts) nows h k = absurd h
  all_stand f top [] (es ∷ ends) firsts nows h k = absurd h
  all_stand f top (calls ∷ scripts) [] firsts nows h k = absurd h
  all_stand f top (calls ∷ scripts) (es ∷ ends) [] nows h k = absurd h
  all_stand f top (calls ∷ scripts) (es ∷ ends) (first ∷ firsts) [] h k = absurd h
  all_stand f top (calls ∷ scripts) (es ∷ ends) (first ∷ firsts) (now ∷ nows) h k =
      let c = h.0 in
      let later = c.later in
      let within = k.0.within in
      let low : seen_in c.last ≤ top = omega (arith, later, within) in (
        all_map (StandsIn (seen_in c.last)) (StandsIn top) es (λ e s. stands_more (seen_in c.last) top low e s) (c.acted.runs []).low,
        all_stand f top scripts ends firsts nows h.1 k.1,
      )

  as_many : (scripts : List (List (Call State Op Query Reply))) (ends : List (List (CallEnd State Op Query Reply)))
      (firsts nows : List (PassView State Device)) → HaveCome b means onll scripts ends firsts nows → length firsts ≡ length nows
  as_many [] [] [] [] h = refl
  as_many [] [] [] (now ∷ nows) h = absurd h
  as_many [] [] (first ∷ firsts) nows h = absurd h
  as_many [] (es ∷ ends) firsts nows h = absurd h
  as_many (calls ∷ scripts) [] firsts nows h = absurd h
  as_many (calls ∷ scripts) (es ∷ ends) [] nows h = absurd h
  as_many (calls ∷ scripts) (es ∷ ends) (first ∷ firsts) [] h = absurd h
  as_many (calls ∷ scripts) (es ∷ ends) (first ∷ firsts) (now ∷ nows) h = ap suc (as_many scripts ends firsts nows h.1)

left_many : {State Device : Type 0} (passes : List (PassView State Device)) (images : List (List (List ℕ))) → AreLeft passes images
    → length images ≡ length passes
left_many [] [] h = refl
left_many [] (image ∷ images) h = absurd h
left_many (p ∷ passes) [] h = absurd h
left_many (p ∷ passes) (image ∷ images) h = ap suc (left_many passes images h.1)

module _ {State Op Query Reply Device : Type 0} (b : Behaviour State Op Query Reply) (means : Device → DeviceView) where
  pub moment_law : MomentLaw b means
  moment_law onll f scripts ends firsts nows m come = (
    begins onll.trace f nows m,
    λ images left.
        let r : PassesRecover f nows images = crash_recovers onll.trace f nows images m left in
        let top = top_of r.logs in
        let within = r.within in
        let long : length (take top f.trace) ≡ top = (let l = length-take top f.trace in omega (arith, l, within)) in
        let base = r.available (length onll.trace.plan.base) (m.sound.based.available (length onll.trace.plan.base) (omega arith)) in (
          r,
          record {
            front = ap (λ n. take n f.trace) long;
            from_base = omega (arith, long, base);
            answered = subst (λ n. AllStandIn n ends) (sym long) (all_stand b means onll f top scripts ends firsts nows come r.seen);
          },
        ),
  )

  pub killed_law : KilledLaw b means
  killed_law before after logs heads state threads asked onll firsts o f nows scripts ends images m come left on hold =
      let g = generation_at onll f scripts ends in
      let law = moment_law onll f scripts ends firsts nows m come in
      let there = law.1 images left in
      let r = there.0 in
      let many : length heads ≡ length images =
      sym (ap length o.on.heads_are) ∙ (length-map o.on.opened head_held ∙ (sym (ap length o.on.begun.logs_are)
      ∙ (length-map firsts log_of ∙ (as_many b means onll scripts ends firsts nows come ∙ sym (left_many nows images left))))) in
      record {
        found = o.found;
        given = o.recovered.0;
        base = o.on.base;
        begins = law.0;
        leaves = λ found gives.
            let same = one_each after logs 0 gives.images images on (gives.many ∙ many) gives.hold hold in
            let e = ap (found_in b heads) (sym same) ∙ gives.gives in
            let nodes = nodes_found b heads (map head_of nows) images found r.logs (take (top_of r.logs) f.trace) e r.contents r.merged in
            subst (IsLifeFront g) nodes there.1;
      }
