-- Measures and floors hold over eras, since each began in the state that the one before left.
use Rattle.std.proofs.Common.{ℕ, List, [], ◌∷◌, ◌≡◌, ◌+◌, ◌≤◌, map, ap, sym, ◌∙◌, arith}
use Rattle.onll_model.specs.declared.node.Node.{Node}
use Rattle.onll_model.specs.declared.call.Call.{Call}
use Rattle.onll_model.specs.declared.call.CallEnd.{CallEnd}
use Rattle.onll_model.specs.Object.{Behaviour}
use Rattle.onll_model.specs.Trace.{state_after}
use Rattle.onll_model.proofs.States.{state_after-append}
use Rattle.onll_pmem.specs.Pmem.{DeviceView}
use Rattle.onll_run.specs.Ended.{ends_of, script_of}
use Rattle.onll_balance.specs.Balance.{FrontBalanceLaw, FrontFloorLaw}
use Rattle.onll_balance.specs.Floor.{Floor, LosesNone}
use Rattle.onll_balance.specs.Measure.{IsBalanced, Measure, back_by, out_by}
use Rattle.onll_serve.specs.Lives.{generation_of}
use Rattle.onll_live.specs.declared.era.Era.{Era}
use Rattle.onll_live.specs.Living.{EraService}
use Rattle.onll_live.specs.Lifetime.{BeganAfter, BeginAnew, Give, IsServiceFront, WasServed, in_order}
use Rattle.onll_live.specs.Balances.{ErasBalanceLaw, ErasFloorLaw, WereAllServed, state_at_first, tally_over}

module _ {State Op Query Reply Device Work Answer : Type 0} (b : Behaviour State Op Query Reply) (means : Device → DeviceView)
    (promise : Work → Work → List (Call State Op Query Reply) → List (CallEnd State Op Query Reply) → Answer → Type 0)
    (code : ℕ) (description : State → List ℕ) (name : List ℕ) where
  -- an era began in the state that the one before left
  state_next : (from : Era State) (given : List (List Node)) (nodes : List Node) (s t : EraService State Device Work Answer Op Query Reply)
      → BeganAfter b means promise code description name from given s
      → BeganAfter b means promise code description name from (nodes ∷ given) t → t.era.state ≡ state_after b s.era.state nodes
  state_next from given nodes s t before after =
      after.state_is
      ∙ (state_after-append b from.state (in_order given) nodes ∙ ap (λ (x : State). state_after b x nodes) (sym before.state_is))

  module _ (s : EraService State Device Work Answer Op Query Reply) (h : WasServed b means promise code description name s) where
    -- the state from which a service went on
    state_then : h.onll.first ≡ s.era.state → state_after b h.onll.first h.onll.trace.plan.base ≡ state_after b s.era.state h.found.nodes
    state_then first =
        ap (λ (x : State). state_after b x h.onll.trace.plan.base) first ∙ ap (λ (ns : List Node). state_after b s.era.state ns) h.base

    balanced : (m : Measure b) → FrontBalanceLaw b m → (nodes : List Node) → IsServiceFront b means promise code description name s h nodes
        → IsBalanced m (state_after b s.era.state h.found.nodes) (map script_of h.worked.ended.runs) (map ends_of h.worked.ended.runs)
        (state_after b s.era.state nodes)
    balanced m law nodes f =
        let g = generation_of b means h.onll h.worked.ended.runs f.history in
        let before = ap m.left (state_then h.first) in
        let after = ap (λ (x : State). m.left (state_after b x nodes)) h.first in
        let low : IsBalanced m (state_after b h.onll.first h.onll.trace.plan.base) (map script_of h.worked.ended.runs)
        (map ends_of h.worked.ended.runs) (state_after b h.onll.first nodes) =
        law h.onll.first h.onll.trace.plan.base g.scripts g.trace g.ends nodes f.history.whole.legal f.front.front f.front.from_base
        f.front.answered in
        omega (arith, low, before, after)

    lost_none : (f : Floor b) → FrontFloorLaw b f → (nodes : List Node) → IsServiceFront b means promise code description name s h nodes
        → LosesNone f (state_after b s.era.state h.found.nodes) (map script_of h.worked.ended.runs) (map ends_of h.worked.ended.runs)
        (state_after b s.era.state nodes)
    lost_none f law nodes is =
        let g = generation_of b means h.onll h.worked.ended.runs is.history in
        let before = ap f.left (state_then h.first) in
        let after = ap (λ (x : State). f.left (state_after b x nodes)) h.first in
        let low : LosesNone f (state_after b h.onll.first h.onll.trace.plan.base) (map script_of h.worked.ended.runs)
        (map ends_of h.worked.ended.runs) (state_after b h.onll.first nodes) =
        law h.onll.first h.onll.trace.plan.base g.scripts g.trace g.ends nodes is.history.whole.legal is.front.front is.front.from_base
        is.front.answered in
        omega (arith, low, before, after)

  module _ (m : Measure b) (law : FrontBalanceLaw b m) where
    balances : (from : Era State) (last : EraService State Device Work Answer Op Query Reply)
        (earlier : List (EraService State Device Work Answer Op Query Reply)) (given : List (List Node))
        (h : WereAllServed b means promise code description name earlier) → BeganAfter b means promise code description name from given last
        → Give b means promise code description name from earlier given → BeginAnew b means promise code description name (last ∷ earlier)
        → tally_over b means promise code description name (out_by m.out) earlier h + m.left last.era.state
        ≤ m.left (state_at_first b means promise code description name from earlier h)
        + tally_over b means promise code description name (back_by m.back m.most) earlier h
    balances from last [] [] h begins each anew = let now = ap m.left begins.state_is in omega (arith, now)
    balances from last [] (nodes ∷ given) h begins each anew = absurd each
    balances from last (s ∷ earlier) [] h begins each anew = absurd each
    balances from last (s ∷ []) (nodes ∷ (others ∷ given)) h begins each anew = absurd each.2
    balances from last (s ∷ []) (nodes ∷ []) h begins each anew =
        let here = balanced s h.0 m law nodes (each.1.front h.0) in
        let before = ap (λ (x : State). m.left (state_after b x h.0.found.nodes)) each.0.state_is in
        let after = ap m.left (state_next from [] nodes s last each.0 begins) in
        omega (arith, here, before, after)
    balances from last (s ∷ (r ∷ earlier)) (nodes ∷ given) h begins each anew =
        let here = balanced s h.0 m law nodes (each.1.front h.0) in
        let rest = balances from s (r ∷ earlier) given h.1 each.0 each.2 anew.1 in
        let none : m.left (state_after b s.era.state h.0.found.nodes) ≡ m.left s.era.state =
        ap (λ (ns : List Node). m.left (state_after b s.era.state ns)) (anew.1.0 h.0.found h.0.given.0) in
        let after = ap m.left (state_next from given nodes s last each.0 begins) in
        omega (arith, here, rest, none, after)

    pub eras_balance : ErasBalanceLaw b means promise code description name m
    eras_balance from last earlier h a = balances from last earlier a.given h a.begins a.each a.anew

  module _ (f : Floor b) (law : FrontFloorLaw b f) where
    floors : (from : Era State) (last : EraService State Device Work Answer Op Query Reply)
        (earlier : List (EraService State Device Work Answer Op Query Reply)) (given : List (List Node))
        (h : WereAllServed b means promise code description name earlier) → BeganAfter b means promise code description name from given last
        → Give b means promise code description name from earlier given → BeginAnew b means promise code description name (last ∷ earlier)
        → f.left (state_at_first b means promise code description name from earlier h)
        + tally_over b means promise code description name (out_by f.put) earlier h
        ≤ f.left last.era.state + tally_over b means promise code description name (back_by f.out f.most) earlier h
    floors from last [] [] h begins each anew = let now = ap f.left begins.state_is in omega (arith, now)
    floors from last [] (nodes ∷ given) h begins each anew = absurd each
    floors from last (s ∷ earlier) [] h begins each anew = absurd each
    floors from last (s ∷ []) (nodes ∷ (others ∷ given)) h begins each anew = absurd each.2
    floors from last (s ∷ []) (nodes ∷ []) h begins each anew =
        let here = lost_none s h.0 f law nodes (each.1.front h.0) in
        let before = ap (λ (x : State). f.left (state_after b x h.0.found.nodes)) each.0.state_is in
        let after = ap f.left (state_next from [] nodes s last each.0 begins) in
        omega (arith, here, before, after)
    floors from last (s ∷ (r ∷ earlier)) (nodes ∷ given) h begins each anew =
        let here = lost_none s h.0 f law nodes (each.1.front h.0) in
        let rest = floors from s (r ∷ earlier) given h.1 each.0 each.2 anew.1 in
        let none : f.left (state_after b s.era.state h.0.found.nodes) ≡ f.left s.era.state =
        ap (λ (ns : List Node). f.left (state_after b s.era.state ns)) (anew.1.0 h.0.found h.0.given.0) in
        let after = ap f.left (state_next from given nodes s last each.0 begins) in
        omega (arith, here, rest, none, after)

    pub eras_floor : ErasFloorLaw b means promise code description name f
    eras_floor from last earlier h a = floors from last earlier a.given h a.begins a.each a.anew
