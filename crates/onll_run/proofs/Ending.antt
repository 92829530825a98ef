-- What scripts made that were done on the passes of an object.
use Rattle.std.proofs.Common.{◌≡◌, ℕ, suc, ◌+◌, List, [], ◌∷◌, length, map, Some, refl, sym, ap, ◌∙◌, subst, arith}
use Rattle.std.specs.List.{AllByRecursion, Contains, slice_get}
use Rattle.std.proofs.lemmas.List.{length-map}
use Rattle.onll_model.specs.declared.call.Call.{Call}
use Rattle.onll_model.specs.Object.{Behaviour}
use Rattle.onll_pmem.specs.Pmem.{DeviceView}
use Rattle.onll_log.specs.Log.{LogState}
use Rattle.onll_trace.specs.Spots.{SpotView, IsOf}
use Rattle.onll_shared.specs.Passes.{OnllView, PassView, IsTied, spot_of, log_of}
use Rattle.onll_shared.specs.Starts.{AreLogs, HasBegun}
use Rattle.onll_shared.proofs.Chosen.{get_map, all_get}
use Rattle.onll_run.specs.declared.worker.WorkerEnd.{WorkerEnd}
use Rattle.onll_run.specs.Ended.{script_of, after_of, HaveRun}
use Rattle.onll_run.specs.Crew.{AreDone, runs_of, pass_done, CanEnd}

module _ {State Op Query Reply Device : Type 0} (b : Behaviour State Op Query Reply) (means : Device → DeviceView) (onll : OnllView State) where
  have_run : (t : ℕ) (ss : List (List (Call State Op Query Reply))) (ps : List (PassView State Device)) (ws : List (WorkerEnd State Device Op Query Reply)) → AreDone b means onll ss ps ws
      → ((i : ℕ) (p : PassView State Device) → slice_get ps i ≡ Some p → p.spot.me.thread ≡ t + i) → HaveRun b means onll t (runs_of ss ps ws)
  have_run t [] [] [] d h = tt
  have_run t [] [] (w ∷ ws) d h = absurd d
  have_run t [] (p ∷ ps) ws d h = absurd d
  have_run t (s ∷ ss) [] ws d h = absurd d
  have_run t (s ∷ ss) (p ∷ ps) [] d h = absurd d
  have_run t (s ∷ ss) (p ∷ ps) (w ∷ ws) d h = (
    (let e = h 0 p refl in omega arith),
    d.1,
    have_run (t + 1) ss ps ws d.2 (λ i q e. let k = h (suc i) q e in omega arith),
  )

  all_tied : (ss : List (List (Call State Op Query Reply))) (ps : List (PassView State Device)) (ws : List (WorkerEnd State Device Op Query Reply)) → AreDone b means onll ss ps ws
      → AllByRecursion (IsTied b means onll) (map pass_done ws)
  all_tied [] [] [] d = tt
  all_tied [] [] (w ∷ ws) d = absurd d
  all_tied [] (p ∷ ps) ws d = absurd d
  all_tied (s ∷ ss) [] ws d = absurd d
  all_tied (s ∷ ss) (p ∷ ps) [] d = absurd d
  all_tied (s ∷ ss) (p ∷ ps) (w ∷ ws) d = (d.1.tied, all_tied ss ps ws d.2)

  all_of : (ps : List (PassView State Device)) → AllByRecursion (IsTied b means onll) ps → AllByRecursion (IsOf onll.trace) (map spot_of ps)
  all_of [] a = tt
  all_of (p ∷ ps) a = (a.0.of, all_of ps a.1)

  same_threads : (ss : List (List (Call State Op Query Reply))) (ps : List (PassView State Device)) (ws : List (WorkerEnd State Device Op Query Reply)) → AreDone b means onll ss ps ws
      → map (λ (p : SpotView). p.me.thread) (map spot_of (map pass_done ws)) ≡ map (λ (p : SpotView). p.me.thread) (map spot_of ps)
  same_threads [] [] [] d = refl
  same_threads [] [] (w ∷ ws) d = absurd d
  same_threads [] (p ∷ ps) ws d = absurd d
  same_threads (s ∷ ss) [] ws d = absurd d
  same_threads (s ∷ ss) (p ∷ ps) [] d = absurd d
  same_threads (s ∷ ss) (p ∷ ps) (w ∷ ws) d = λ i. d.1.gone_on.same.thread i ∷ same_threads ss ps ws d.2 i

  passes_are : (ss : List (List (Call State Op Query Reply))) (ps : List (PassView State Device)) (ws : List (WorkerEnd State Device Op Query Reply)) → AreDone b means onll ss ps ws
      → map after_of (runs_of ss ps ws) ≡ map pass_done ws
  passes_are [] [] [] d = refl
  passes_are [] [] (w ∷ ws) d = absurd d
  passes_are [] (p ∷ ps) ws d = absurd d
  passes_are (s ∷ ss) [] ws d = absurd d
  passes_are (s ∷ ss) (p ∷ ps) [] d = absurd d
  passes_are (s ∷ ss) (p ∷ ps) (w ∷ ws) d = ap (λ (l : List (PassView State Device)). w.pass ∷ l) (passes_are ss ps ws d.2)

  scripts_are : (ss : List (List (Call State Op Query Reply))) (ps : List (PassView State Device)) (ws : List (WorkerEnd State Device Op Query Reply)) → AreDone b means onll ss ps ws
      → map script_of (runs_of ss ps ws) ≡ ss
  scripts_are [] [] [] d = refl
  scripts_are [] [] (w ∷ ws) d = absurd d
  scripts_are [] (p ∷ ps) ws d = absurd d
  scripts_are (s ∷ ss) [] ws d = absurd d
  scripts_are (s ∷ ss) (p ∷ ps) [] d = absurd d
  scripts_are (s ∷ ss) (p ∷ ps) (w ∷ ws) d = ap (λ (l : List (List (Call State Op Query Reply))). s ∷ l) (scripts_are ss ps ws d.2)

  pub passes_end : (logs : List (LogState Device)) (rooms : List ℕ) (ss : List (List (Call State Op Query Reply))) (ps : List (PassView State Device)) (ws : List (WorkerEnd State Device Op Query Reply))
      → AreLogs logs → HasBegun b means onll logs rooms ps → AreDone b means onll ss ps ws → CanEnd b means onll ss ps ws
  passes_end logs rooms ss ps ws l h d =
      let tied = all_tied ss ps ws d in
      let same = same_threads ss ps ws d in
      let after = passes_are ss ps ws d in
      let spots = length-map (map spot_of (map pass_done ws)) (λ (p : SpotView). p.me.thread) in
      let spots0 = length-map (map spot_of ps) (λ (p : SpotView). p.me.thread) in
      let long = ap length same in
      let runs = ap length after in
      let count = h.all.count in
      record {
        all_there = record {
          of = all_of (map pass_done ws) tied;
          count = omega arith;
          each = λ t k. subst (λ (ts : List ℕ). Contains ts t) (sym same) (h.all.each t k);
        };
        tied = tied;
        have_run = have_run 0 ss ps ws d (λ i p e.
            let here : slice_get logs i ≡ Some p.log = ap (λ (ls : List (LogState Device)). slice_get ls i) (sym h.logs_are) ∙ get_map log_of ps i p e in
            let t = (all_get (IsTied b means onll) ps h.tied i p e).thread in
            let n = (l i p.log here).thread in omega arith);
        passes_are = after;
        scripts_are = scripts_are ss ps ws d;
        many = (let a = length-map (runs_of ss ps ws) after_of in let c = length-map (map pass_done ws) spot_of in omega arith);
      }
