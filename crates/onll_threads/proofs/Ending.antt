-- What threads did, each with its own work, is a run.
use Rattle.std.proofs.Common.{◌≡◌, ℕ, suc, ◌+◌, List, [], ◌∷◌, length, map, Some, refl, sym, ap, ◌∙◌, subst, arith}
use Rattle.std.specs.List.{AllByRecursion, Contains, slice_get}
use Rattle.std.proofs.lemmas.List.{length-map}
use Rattle.onll_model.specs.declared.call.Call.{Call}
use Rattle.onll_model.specs.declared.call.CallEnd.{CallEnd}
use Rattle.onll_model.specs.Object.{Behaviour}
use Rattle.onll_pmem.specs.Pmem.{DeviceView}
use Rattle.onll_log.specs.Log.{LogState}
use Rattle.onll_trace.specs.Spots.{SpotView, IsOf}
use Rattle.onll_shared.specs.Passes.{OnllView, PassView, IsTied, spot_of, log_of}
use Rattle.onll_shared.proofs.Chosen.{get_map, all_get}
use Rattle.onll_run.specs.Ended.{ThreadRun, after_of, HaveRun}
use Rattle.onll_threads.specs.Crews.{AllDone}
use Rattle.onll_threads.specs.Ended.{ArePromised, WorksLaw, before_of}
use Rattle.onll_threads.proofs.Acting.{worked}

module _ {State Op Query Reply Device Work Answer : Type 0} (b : Behaviour State Op Query Reply) (means : Device → DeviceView)
    (promise : Work → Work → List (Call State Op Query Reply) → List (CallEnd State Op Query Reply) → Answer → Type 0)
    (onll : OnllView State) where
  -- the runs, with what is so of them
  record Runs (t : ℕ) (olds : List Work) (ps : List (PassView State Device)) (news : List Work) (qs : List (PassView State Device)) (got : List Answer) : Type 0 where
    runs : List (ThreadRun State Op Query Reply Device)
    have_run : HaveRun b means onll t runs
    befores_are : map before_of runs ≡ ps
    afters_are : map after_of runs ≡ qs
    promised : ArePromised b means promise olds news runs got
    tied : AllByRecursion (IsTied b means onll) qs
    same : map (λ (p : SpotView). p.me.thread) (map spot_of qs) ≡ map (λ (p : SpotView). p.me.thread) (map spot_of ps)

  all_runs : (t : ℕ) (olds : List Work) (ps : List (PassView State Device)) (news : List Work) (qs : List (PassView State Device)) (got : List Answer) → AllDone b means promise onll olds ps news qs got
      → ((i : ℕ) (p : PassView State Device) → slice_get ps i ≡ Some p → p.spot.me.thread ≡ t + i) → Runs t olds ps news qs got
  all_runs t [] [] [] [] [] d h =
      record { runs = []; have_run = tt; befores_are = refl; afters_are = refl; promised = tt; tied = tt; same = refl }
  all_runs t [] [] [] [] (a ∷ got) d h = absurd d
  all_runs t [] [] [] (q ∷ qs) got d h = absurd d
  all_runs t [] [] (v ∷ news) qs got d h = absurd d
  all_runs t [] (p ∷ ps) news qs got d h = absurd d
  all_runs t (w ∷ olds) [] news qs got d h = absurd d
  all_runs t (w ∷ olds) (p ∷ ps) [] qs got d h = absurd d
  all_runs t (w ∷ olds) (p ∷ ps) (v ∷ news) [] got d h = absurd d
  all_runs t (w ∷ olds) (p ∷ ps) (v ∷ news) (q ∷ qs) [] d h = absurd d
  all_runs t (w ∷ olds) (p ∷ ps) (v ∷ news) (q ∷ qs) (a ∷ got) d h =
      let k = d.0 in
      let rest = all_runs (t + 1) olds ps news qs got d.1 (λ i x e. let at = h (suc i) x e in omega (arith, at)) in
      record {
        runs = record { script = k.calls; ends = k.ends; before = p; after = q } ∷ rest.runs;
        have_run = ((let e = h 0 p refl in omega (arith, e)), worked b means onll k.calls k.ends p q k.acted, rest.have_run);
        befores_are = ap (λ (l : List (PassView State Device)). p ∷ l) rest.befores_are;
        afters_are = ap (λ (l : List (PassView State Device)). q ∷ l) rest.afters_are;
        promised = (k.kept, rest.promised);
        tied = (k.acted.tied, rest.tied);
        same = λ i. k.acted.gone_on.same.thread i ∷ rest.same i;
      }

  all_of : (ps : List (PassView State Device)) → AllByRecursion (IsTied b means onll) ps → AllByRecursion (IsOf onll.trace) (map spot_of ps)
  all_of [] a = tt
  all_of (p ∷ ps) a = (a.0.of, all_of ps a.1)

module _ {State Op Query Reply Device Work Answer : Type 0} (b : Behaviour State Op Query Reply) (means : Device → DeviceView)
    (promise : Work → Work → List (Call State Op Query Reply) → List (CallEnd State Op Query Reply) → Answer → Type 0) where
  pub works_end : WorksLaw b means promise
  works_end onll logs rooms olds ps news qs got l h d =
      let all = all_runs b means promise onll 0 olds ps news qs got d (λ i p e.
      let here : slice_get logs i ≡ Some p.log = ap (λ (ls : List (LogState Device)). slice_get ls i) (sym h.logs_are)
      ∙ get_map log_of ps i p e in
      let t = (all_get (IsTied b means onll) ps h.tied i p e).thread in
      let n = (l i p.log here).thread in omega (arith, t, n)) in
      let spots = length-map (map spot_of qs) (λ (p : SpotView). p.me.thread) in
      let spots0 = length-map (map spot_of ps) (λ (p : SpotView). p.me.thread) in
      let long = ap length all.same in
      let runs = ap length all.afters_are in
      let count = h.all.count in
      record {
        runs = all.runs;
        have_run = all.have_run;
        many = (let a = length-map all.runs after_of in let c = length-map qs spot_of in
            omega (arith, a, c, spots, spots0, long, runs, count));
        befores_are = all.befores_are;
        afters_are = all.afters_are;
        promised = all.promised;
        all_there = record {
          of = all_of b means promise onll qs all.tied;
          count = omega (arith, spots, spots0, long, count);
          each = λ t k. subst (λ (ts : List ℕ). Contains ts t) (sym all.same) (h.all.each t k);
        };
        tied = all.tied;
      }
