use Rattle.std.proofs.Common.{◌∷◌, [], List, length, sym, ap, ◌∙◌, subst, arith, length-append, vec_capacity}
use Rattle.std.specs.Prelude.{reverse}
use Rattle.onll_trace.specs.Spots.{SpotView}
use Rattle.onll_shared.specs.Ends.{RestView}
use Rattle.onll_shared.proofs.Ending.{AreSplit, split_more}
use Rattle.onll_shared.proofs.close.take_apart.Goals as goal

pub loop-pass-preserved : goal.loop-pass-preserved
loop-pass-preserved g c =
    let p = c.pass.inside in
    let r : RestView g.row.O.Denot g.row.P.Denot = record { log = p.log; replica = p.replica; at = p.at; room = p.room; broken = p.broken; seen = p.seen; list = p.list.items; list_room = vec_capacity p.list } in
    let a = ap length c.in-Some.ensures.items in let b = ap length c.push_reserved.ensures.items in let d = ap length c.push_reserved-in-Some.ensures.items in
    let i = c.loop-pass.invariant in let k = c.push_reserved.ensures.capacity in let l = c.push_reserved-in-Some.ensures.capacity in
    record {
      split = subst (λ (z : List SpotView × List (RestView g.row.O.Denot g.row.P.Denot)). AreSplit (reverse c.args.passes.now.items) c.pop.new.self.items z.0 z.1)
          (λ j. (sym c.push_reserved.ensures.items j, sym c.push_reserved-in-Some.ensures.items j))
          (split_more _ _ _ _ _ _ p.spot r i.split c.in-Some.ensures.items (sym c.pass.view_is) c.pass.invariant);
      capacity = c.in-Some.ensures.capacity ∙ i.capacity;
      spots = let s = i.spots in omega (arith, length-append c.pop.new.self.items (c.in-Some.pass ∷ []), length-append c.loop-pass.spots.items (p.spot ∷ []));
      rests = let s = i.rests in omega (arith, length-append c.pop.new.self.items (c.in-Some.pass ∷ []), length-append c.loop-pass.rests.items (r ∷ []));
    }
