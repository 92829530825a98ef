use Rattle.std.proofs.Common.{ap, sym, subst}
use Rattle.onll_trace.specs.Plans.{Plan}
use Rattle.onll_trace.specs.Rule.{Kept}
use Rattle.onll_trace.specs.Spots.{TraceView, SpotView}
use Rattle.onll_trace.proofs.Closing.{own_spot, spots_all, shows_end}
use Rattle.onll_trace.proofs.trace.Trace.closed.Goals as goal

pub returns-clause-shows : goal.returns-clause-shows
returns-clause-shows c = let key = ap (λ (b : TraceView). b.plan) c.self.view_is in let fin = c.close_with.ensures.values.2 in let r = subst (λ (k : Plan). Kept k fin.0) key fin.1.0 in
    let own = own_spot c.last.inside.seat.me.0 c.in-Some.last c.last.invariant.one (sym (ap (λ (p : SpotView). p.me) c.last.view_is)) (sym (ap (λ (p : SpotView). p.known) c.last.view_is)) in
    let has = spots_all c.last.inside.seat.me.0 c.args.spots.items c.pop.new.self.items c.in-Some.last c.absorb_all.new.seat.me.0 c.in-Some.ensures.items own c.absorb_all.ensures.held in
    shows_end c.args.self c.args.spots.items fin.0 _ _ c.requires r fin.1.1 has _ fin.2
