-- Passes at the beginning of an object, and the scripts that they are ready for.
use Rattle.std.proofs.Common.{ℕ, List, [], ◌∷◌, length, map, sym, ap, subst, arith}
use Rattle.std.specs.List.{AllByRecursion}
use Rattle.onll_model.specs.declared.call.Call.{Call}
use Rattle.onll_model.specs.Object.{Behaviour}
use Rattle.onll_pmem.specs.Pmem.{DeviceView}
use Rattle.onll_log.specs.Log.{LogState}
use Rattle.onll_shared.specs.Passes.{OnllView, PassView, IsTied, log_of}
use Rattle.onll_shared.specs.Starts.{HasBegun, IsNewcomer, room_of}
use Rattle.onll_run.specs.Crew.{AreReadyPasses, AreFit}

module _ {State Op Query Reply Device : Type 0} (b : Behaviour State Op Query Reply) (means : Device → DeviceView) (onll : OnllView State) where
  ready : (ss : List (List (Call State Op Query Reply))) (ps : List (PassView State Device)) → AllByRecursion (IsTied b means onll) ps → AllByRecursion IsNewcomer ps
      → AreFit means onll.trace.plan.threads ss (map room_of ps) (map log_of ps) → AreReadyPasses b means onll ss ps
  ready [] [] t n f = tt
  ready [] (p ∷ ps) t n f = absurd f
  ready (s ∷ ss) [] t n f = absurd f
  ready (s ∷ ss) (p ∷ ps) t n f = (
    record {
      tied = t.0;
      own = n.0.own;
      whole = n.0.whole;
      room = record { nodes = (let e = ap length n.0.own in let k = f.0 in omega arith); lines = f.1 };
    },
    ready ss ps t.1 n.1 f.2,
  )

  pub ready_all : (logs : List (LogState Device)) (rooms : List ℕ) (ss : List (List (Call State Op Query Reply))) (ps : List (PassView State Device)) → HasBegun b means onll logs rooms ps
      → AreFit means onll.trace.plan.threads ss rooms logs → AreReadyPasses b means onll ss ps
  ready_all logs rooms ss ps h f = ready ss ps h.tied h.whole
      (subst (λ (z : List ℕ × List (LogState Device)). AreFit means onll.trace.plan.threads ss z.0 z.1) (λ i. (sym h.rooms_are i, sym h.logs_are i)) f)
