-- The one spot of a new trace.
use Rattle.std.proofs.Common.{◌≡◌, List, [], ◌∷◌, ◌++◌, length, Some, sym, refl, ap, ◌∙◌, subst, arith, length-append}
use Rattle.std.specs.List.{slice_get}
use Rattle.onll_model.specs.Segment.{Segment}
use Rattle.onll_model.proofs.Lists.{at_end, same_some}
use Rattle.onll_trace.specs.Spots.{TraceView, SpotView, AreNewSpots, fresh_spot}
use Rattle.onll_outside.specs.Gate.{AtPoint}
use Rattle.onll_outside.specs.declared.gate.Point.TheVariants as points

-- the spot that is taken from the end has made no step
pub begins : (b : TraceView) (ps rest : List SpotView) (spot : SpotView) → b.plan.logs ≡ [] ∷ [] → AreNewSpots b ps → ps ≡ rest ++ spot ∷ [] → AtPoint spot points.Begin
begins b ps rest spot logs new last =
    let one : length ps ≡ 1 = new.count ∙ ap (λ (l : List (List Segment)). length l) logs in
    let none : length rest ≡ 0 = let n = ap length last in omega (arith, length-append rest (spot ∷ [])) in
    let here : slice_get ps 0 ≡ Some spot = ap (slice_get ps) (sym none) ∙ (ap (λ (xs : List SpotView). slice_get xs (length rest)) last ∙ at_end rest spot) in
    let is : spot ≡ fresh_spot b 0 [] = same_some spot (fresh_spot b 0 []) (sym here ∙ new.each 0 [] (ap (λ (l : List (List Segment)). slice_get l 0) logs)) in
    subst (λ (p : SpotView). AtPoint p points.Begin) (sym is) (refl, refl)
