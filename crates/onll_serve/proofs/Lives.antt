-- What was answered once stands in whatever later generations leave.
use Rattle.std.proofs.Common.{ℕ, List, [], ◌∷◌, ◌≡◌, ◌≤◌, length, take, sym, ap, ◌∙◌, arith}
use Rattle.std.proofs.lemmas.List.{take-take}
use Rattle.onll_model.specs.declared.node.Node.{Node}
use Rattle.onll_model.specs.Object.{Behaviour}
use Rattle.onll_pmem.specs.Pmem.{DeviceView}
use Rattle.onll_shared.specs.Passes.{OnllView}
use Rattle.onll_run.specs.Ended.{ThreadRun}
use Rattle.onll_serve.specs.Lives.{ServedGeneration, IsLife, LeavesFronts, LifeLaw}
use Rattle.onll_serve.specs.Serving.{HasHistory}

-- a front of a trace has what the trace has up to a place within it
front_same : (trace nodes : List Node) (k : ℕ) → take (length nodes) trace ≡ nodes → k ≤ length nodes → take k nodes ≡ take k trace
front_same trace nodes k e low = ap (take k) (sym e) ∙ take-take k (length nodes) trace low

module _ {State Op Query Reply : Type 0} where
  record Stays (g : ServedGeneration State Op Query Reply) (nodes : List Node) : Type 0 where
    same : take (length g.base) nodes ≡ g.base
    low : length g.base ≤ length nodes

  -- the base of a generation is still there
  base_stays : (g : ServedGeneration State Op Query Reply) (more : List (ServedGeneration State Op Query Reply)) (nodes : List Node)
      → IsLife (g ∷ more) nodes → Stays g nodes
  base_stays g [] nodes l = record {
    same = front_same g.trace nodes (length g.base) l.1.front l.1.from_base ∙ l.0;
    low = l.1.from_base;
  }
  base_stays g (h ∷ more) nodes l =
      let f = l.1 in
      let rest = base_stays h more nodes l.2 in
      let low = f.from_base in
      let long = rest.low in
      record {
        same = sym (take-take (length g.base) (length h.base) nodes low) ∙ (ap (take (length g.base)) rest.same
            ∙ (front_same g.trace h.base (length g.base) f.front low ∙ l.0));
        low = omega (arith, low, long);
      }

  pub life_law : LifeLaw State Op Query Reply
  life_law [] nodes l = tt
  life_law (g ∷ []) nodes l = (
    record {
      places = length nodes;
      answered = l.1.answered;
      within = omega arith;
      same = front_same g.trace nodes (length nodes) l.1.front (omega arith);
    },
    tt,
  )
  life_law (g ∷ (h ∷ more)) nodes l =
      let f = l.1 in
      let rest = base_stays h more nodes l.2 in (
        record { places = length h.base; answered = f.answered; within = rest.low; same = rest.same ∙ sym f.front },
        life_law (h ∷ more) nodes l.2,
      )

module _ {State Op Query Reply Device : Type 0} (b : Behaviour State Op Query Reply) (means : Device → DeviceView)
    (onll : OnllView State) (runs : List (ThreadRun State Op Query Reply Device)) (h : HasHistory b means onll runs) where
  pub leaves_fronts : LeavesFronts b means onll runs h
  leaves_fronts = (
    h.whole.legal.begins,
    λ images left. let r = h.whole.crash images left in
        (r, record { front = r.front; from_base = r.from_base; answered = r.answered }),
  )
