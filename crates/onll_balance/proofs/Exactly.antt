-- Where no fence failed, a measure and a floor of the same are one equation.
use Rattle.std.proofs.Common.{ℕ, List, [], ◌∷◌, ◌≡◌, refl, arith}
use Rattle.std.specs.List.{AllByRecursion}
use Rattle.onll_model.specs.Object.{Behaviour}
use Rattle.onll_model.specs.declared.call.Call.{Call}
use Rattle.onll_model.specs.declared.call.Call.TheVariants.{Ask, Update}
use Rattle.onll_model.specs.declared.call.CallEnd.{CallEnd}
use Rattle.onll_model.specs.declared.call.CallEnd.TheVariants.{Answered, Broken, FenceFailed, Ordered, Running}
use Rattle.onll_balance.specs.Balance.{FrontBalanceLaw, FrontExactLaw, FrontFloorLaw, WholeBalanceLaw, WholeExactLaw, WholeFloorLaw}
use Rattle.onll_balance.specs.Floor.{Exact, HasNotFailed, NoneFailed, floor_of, measure_of}
use Rattle.onll_balance.specs.Measure.{back_by, out_by, tally, tally_of}

module _ {State Op Query Reply : Type 0} (back : Op → Reply → ℕ) (most : Op → ℕ) where
  replied : (calls : List (Call State Op Query Reply)) (ends : List (CallEnd State Op Query Reply)) → AllByRecursion HasNotFailed ends
      → tally_of (back_by back most) calls ends ≡ tally_of (out_by back) calls ends
  replied [] ends none = refl
  replied (c ∷ calls) [] none = refl
  replied (Update op ∷ calls) (Answered reply place ∷ ends) none = let rest = replied calls ends none.1 in omega (arith, rest)
  replied (Update op ∷ calls) (Running ∷ ends) none = let rest = replied calls ends none.1 in omega (arith, rest)
  replied (Update op ∷ calls) (Ordered place ∷ ends) none = absurd none.0
  replied (Update op ∷ calls) (FenceFailed place ∷ ends) none = absurd none.0
  replied (Update op ∷ calls) (Broken place ∷ ends) none = let rest = replied calls ends none.1 in omega (arith, rest)
  replied (Ask query ∷ calls) (e ∷ ends) none = let rest = replied calls ends none.1 in omega (arith, rest)

  -- no more counts than what replies say
  pub all_replied : (scripts : List (List (Call State Op Query Reply))) (ends : List (List (CallEnd State Op Query Reply)))
      → NoneFailed ends → tally (back_by back most) scripts ends ≡ tally (out_by back) scripts ends
  all_replied [] ends none = refl
  all_replied (calls ∷ scripts) [] none = refl
  all_replied (calls ∷ scripts) (es ∷ ends) none =
      let here = replied calls es none.0 in let rest = all_replied scripts ends none.1 in omega (arith, here, rest)

module _ {State Op Query Reply : Type 0} (b : Behaviour State Op Query Reply) (e : Exact b) where
  pub exact_fronts : FrontBalanceLaw b (measure_of e) → FrontFloorLaw b (floor_of e) → FrontExactLaw b e
  exact_fronts balance floor first base scripts trace ends nodes legal front low within none =
      let most = balance first base scripts trace ends nodes legal front low within in
      let least = floor first base scripts trace ends nodes legal front low within in
      let backs = all_replied e.back e.most_back scripts ends none in
      let outs = all_replied e.out e.most_out scripts ends none in
      omega (arith, most, least, backs, outs)

  pub exact_whole : WholeBalanceLaw b (measure_of e) → WholeFloorLaw b (floor_of e) → WholeExactLaw b e
  exact_whole balance floor first base scripts trace ends legal none =
      let most = balance first base scripts trace ends legal in
      let least = floor first base scripts trace ends legal in
      let backs = all_replied e.back e.most_back scripts ends none in
      let outs = all_replied e.out e.most_out scripts ends none in
      omega (arith, most, least, backs, outs)
