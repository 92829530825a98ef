use Rattle.std.proofs.Common.{rules, ◌≤◌, List, length, map, sym, ap, ◌∙◌, subst, arith, vec_capacity}
use Rattle.onll_trace.specs.Spots.{SpotView}
use Rattle.onll_trace.specs.Closing.{AreAll, HasEnded}
use Rattle.onll_shared.specs.Passes.{spot_of}
use Rattle.onll_shared.proofs.Closings.{closed}
use Rattle.onll_shared.proofs.Ending.{whole_spots, whole_logs, whole_rests, whole_long}
use Rattle.onll_shared.proofs.onll.Onll.close.Goals as goal

pub close-requires : goal.close-requires
close-requires g c = let r = rw (← c.self.view_is) at c.requires.all in
    subst (AreAll c.self.inside.trace) (sym (whole_spots _ _ _ _ c.take_apart.ensures.ready c.take_apart.ensures.joined c.reverse.ensures.items)) r

pub logs_of-requires-after_bounds : goal.logs_of-requires-after_bounds
logs_of-requires-after_bounds g c κs within = let n = whole_rests _ _ _ c.args.passes.items c.take_apart.ensures.ready c.take_apart.ensures.joined c.reverse.ensures.items in
    let low : length c.args.passes.items ≤ vec_capacity c.in-Ok-with_capacity-2.logs = search (rules, arith) in
    (c.in-Ok-with_capacity-2.ensures.items, omega (arith, n, low))

pub put_together-requires-clause-passes : goal.put_together-requires-clause-passes
put_together-requires-clause-passes g c κs within = let n = whole_long _ _ _ c.args.passes.items c.take_apart.ensures.ready c.take_apart.ensures.joined c.reverse.ensures.items in
    let k = c.take_apart.ensures.passes.1 in let r = c.reverse.ensures.capacity in
    let low : length c.args.passes.items ≤ vec_capacity c.args.passes = search (rules, arith) in
    let m = ap length c.in-Err.ensures.unchanged.1 in
    (c.take_apart.ensures.passes.0, omega (arith, n, low, k, r, m))

pub returns-in-Ok-close-clause-closed : goal.returns-in-Ok-close-clause-closed
returns-in-Ok-close-clause-closed g c =
    let e = whole_spots _ _ _ _ c.take_apart.ensures.ready c.take_apart.ensures.joined c.reverse.ensures.items in
    let ended : HasEnded c.args.self.trace (map spot_of c.args.passes.items) c.in-Ok-close.trace.items = rw (← c.self.view_is) (subst (λ (ps : List SpotView). HasEnded c.self.inside.trace ps c.in-Ok-close.trace.items) e c.in-Ok-close.ensures.ended) in
    closed g.O.Object.means g.P.Pmem.means c.args.self c.args.passes.items c.in-Ok-close.trace.items ended c.requires.all c.requires.tied

pub returns-in-Ok-close-clause-logs : goal.returns-in-Ok-close-clause-logs
returns-in-Ok-close-clause-logs g c = c.logs_of.ensures ∙ whole_logs _ _ _ _ c.take_apart.ensures.ready c.take_apart.ensures.joined c.reverse.ensures.items
