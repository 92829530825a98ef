use Rattle.std.proofs.Common.{List, map, sym, subst}
use Rattle.onll_trace.specs.Spots.{SpotView}
use Rattle.onll_trace.specs.Closing.{AreAll, HasEnded}
use Rattle.onll_shared.specs.Passes.{spot_of}
use Rattle.onll_shared.proofs.Closings.{closed}
use Rattle.onll_shared.proofs.onll.Onll.end.Goals as goal

pub end-requires : goal.end-requires
end-requires g c = let r = rw (← c.self.view_is) at c.requires.all in subst (AreAll c.self.inside.trace) (sym c.spots_and_logs-spots.ensures.spots) r

pub returns-clause-closed : goal.returns-clause-closed
returns-clause-closed g c =
    let made = c.end.ensures in
    let ended : HasEnded c.args.self.trace (map spot_of c.args.passes.items) made.0 = rw (← c.self.view_is) (subst (λ (ps : List SpotView). HasEnded c.self.inside.trace ps made.0) c.spots_and_logs-spots.ensures.spots made.1) in
    (made.0, closed g.O.Object.means g.P.Pmem.means c.args.self c.args.passes.items made.0 ended c.requires.all c.requires.tied)
