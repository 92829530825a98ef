-- Measures and floors hold over all generations, since each goes on from a front of the one before; and so does what is told.
use Rattle.std.proofs.Common.{ℕ, List, [], ◌∷◌, ◌≡◌, ◌+◌, ◌≤◌, refl, ap, sym, subst, arith}
use Rattle.std.specs.List.{AllByRecursion}
use Rattle.onll_model.specs.declared.node.Node.{Node}
use Rattle.onll_model.specs.Object.{Behaviour}
use Rattle.onll_model.specs.Trace.{state_after}
use Rattle.onll_balance.specs.Balance.{FrontBalanceLaw, FrontFloorLaw}
use Rattle.onll_balance.specs.Floor.{Floor, NoneFailed, floor_of, measure_of}
use Rattle.onll_balance.specs.Measure.{Measure, back_by, out_by}
use Rattle.onll_balance.proofs.Exactly.{all_replied}
use Rattle.onll_serve.specs.Lives.{ServedGeneration}
use Rattle.onll_keeps.specs.Facts.{AllTold, FactToldLaw}
use Rattle.onll_keeps.specs.Lifetimes.{EndsLives, IsLegalGeneration, IsWholeLife, LifeBalanceLaw, LifeFloorLaw, ToldInLives, tally_in_life}

module _ {State Op Query Reply : Type 0} (b : Behaviour State Op Query Reply) (first : State) where
  module _ (m : Measure b) where
    pub life_balance : FrontBalanceLaw b m → LifeBalanceLaw b first m
    life_balance law g [] nodes l legal =
        let f = l.1 in
        let here = law first g.base g.scripts g.trace g.ends nodes legal.0 f.front f.from_base f.answered in
        omega (arith, here)
    life_balance law g (h ∷ more) nodes l legal =
        let f = l.1 in
        let here = law first g.base g.scripts g.trace g.ends h.base legal.0 f.front f.from_base f.answered in
        let rest = life_balance law h more nodes l.2 legal.1 in
        omega (arith, here, rest)

    whole_balance : LifeBalanceLaw b first m → (life : List (ServedGeneration State Op Query Reply)) (nodes : List Node)
        → IsWholeLife b first life nodes → tally_in_life (out_by m.out) life + m.left (state_after b first nodes)
        ≤ m.left first + tally_in_life (back_by m.back m.most) life
    whole_balance law [] nodes l = let none = ap (λ (ns : List Node). m.left (state_after b first ns)) l in omega (arith, none)
    whole_balance law (g ∷ more) nodes l =
        let none = ap (λ (ns : List Node). m.left (state_after b first ns)) l.0 in
        let here = law g more nodes l.1 l.2 in omega (arith, none, here)

  module _ (f : Floor b) where
    pub life_floor : FrontFloorLaw b f → LifeFloorLaw b first f
    life_floor law g [] nodes l legal =
        let e = l.1 in
        let here = law first g.base g.scripts g.trace g.ends nodes legal.0 e.front e.from_base e.answered in
        omega (arith, here)
    life_floor law g (h ∷ more) nodes l legal =
        let e = l.1 in
        let here = law first g.base g.scripts g.trace g.ends h.base legal.0 e.front e.from_base e.answered in
        let rest = life_floor law h more nodes l.2 legal.1 in
        omega (arith, here, rest)

    whole_floor : LifeFloorLaw b first f → (life : List (ServedGeneration State Op Query Reply)) (nodes : List Node)
        → IsWholeLife b first life nodes → f.left first + tally_in_life (out_by f.put) life
        ≤ f.left (state_after b first nodes) + tally_in_life (back_by f.out f.most) life
    whole_floor law [] nodes l = let none = ap (λ (ns : List Node). f.left (state_after b first ns)) l in omega (arith, none)
    whole_floor law (g ∷ more) nodes l =
        let none = ap (λ (ns : List Node). f.left (state_after b first ns)) l.0 in
        let here = law g more nodes l.1 l.2 in omega (arith, none, here)

  all_replied_in : (back : Op → Reply → ℕ) (most : Op → ℕ) (life : List (ServedGeneration State Op Query Reply))
      → AllByRecursion (λ (g : ServedGeneration State Op Query Reply). NoneFailed g.ends) life
      → tally_in_life (back_by back most) life ≡ tally_in_life (out_by back) life
  all_replied_in back most [] none = refl
  all_replied_in back most (g ∷ life) none =
      let here = all_replied back most g.scripts g.ends none.0 in
      let rest = all_replied_in back most life none.1 in omega (arith, here, rest)

  -- whatever generations left these nodes, with the object in this state
  pub ends_lives : ((m : Measure b) → LifeBalanceLaw b first m) → ((f : Floor b) → LifeFloorLaw b first f) → (nodes : List Node)
      (now : State) → now ≡ state_after b first nodes → EndsLives b first nodes now
  ends_lives balance floor nodes now e = subst (EndsLives b first nodes) (sym e) (record {
    balanced = λ m life l. whole_balance m (balance m) life nodes l;
    lost_none = λ f life l. whole_floor f (floor f) life nodes l;
    exact = λ e life l none. (let most = whole_balance (measure_of e) (balance (measure_of e)) life nodes l in
        let least = whole_floor (floor_of e) (floor (floor_of e)) life nodes l in
        let backs = all_replied_in e.back e.most_back life none in
        let outs = all_replied_in e.out e.most_out life none in
        omega (arith, most, least, backs, outs));
  })

  module _ {holds : State → Type 0} {says : Op → Reply → Type 0} (told : FactToldLaw b holds says) (so : holds first) where
    told_each : (life : List (ServedGeneration State Op Query Reply)) → AllByRecursion (IsLegalGeneration b first) life
        → AllByRecursion (λ (g : ServedGeneration State Op Query Reply). AllTold says g.scripts g.ends) life
    told_each [] l = tt
    told_each (g ∷ life) l = (told first g.base g.scripts g.trace g.ends l.0 so, told_each life l.1)

    pub told_in_lives : (nodes : List Node) → ToldInLives b first says nodes
    told_in_lives nodes [] l = tt
    told_in_lives nodes (g ∷ more) l = told_each (g ∷ more) l.2
