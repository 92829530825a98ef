use Rattle.std.proofs.Common.{◌≡◌, ◌∷◌, ◌++◌, [], length, ap, ◌∙◌, arith, length-append}
use Rattle.onll_log.specs.Log.{LogState}
use Rattle.onll_trace.specs.Spots.{SpotView}
use Rattle.onll_shared.specs.Passes.{spot_of, log_of}
use Rattle.onll_shared.proofs.Taken.{back_one}
use Rattle.onll_shared.proofs.close.spots_and_logs.Goals as goal

pub loop-pass-preserved : goal.loop-pass-preserved
loop-pass-preserved g c =
    let i = c.loop-pass.invariant in
    let a = ap length c.in-Some.ensures.items in let b = ap length c.push_reserved.ensures.items in let d = ap length c.push_reserved-in-Some.ensures.items in
    let k = c.push_reserved.ensures.capacity in let l = c.push_reserved-in-Some.ensures.capacity in
    let spot_is : c.pass.inside.spot ≡ c.in-Some.pass.spot = ap spot_of c.pass.view_is in
    let log_is : c.pass.inside.log ≡ c.in-Some.pass.log = ap log_of c.pass.view_is in
    record {
      spots = back_one spot_of _ _ _ _ _ _ i.spots c.in-Some.ensures.items (c.push_reserved.ensures.items ∙ ap (λ (s : SpotView). c.loop-pass.spots.items ++ s ∷ []) spot_is);
      logs = back_one log_of _ _ _ _ _ _ i.logs c.in-Some.ensures.items (c.push_reserved-in-Some.ensures.items ∙ ap (λ (log : LogState g.row.P.Denot). c.loop-pass.logs.items ++ log ∷ []) log_is);
      spot_room = let s = i.spot_room in omega (arith, length-append c.pop.new.self.items (c.in-Some.pass ∷ []), length-append c.loop-pass.spots.items (c.pass.inside.spot ∷ []));
      log_room = let s = i.log_room in omega (arith, length-append c.pop.new.self.items (c.in-Some.pass ∷ []), length-append c.loop-pass.logs.items (c.pass.inside.log ∷ []));
    }
