use Rattle.std.proofs.Common.{sym, ◌∙◌}
use Rattle.onll_run.proofs.Crewing.{can_all, done_all, if_all}
use Rattle.onll_run.proofs.crew.run_passes.Goals as goal

pub run_all-requires-after_bounds : goal.run_all-requires-after_bounds
run_all-requires-after_bounds g c κs within = can_all g.O.Object.means g.P.Pmem.means c.args.onll.now _ _ _ c.in_ok-workers.ensures c.requires.ready

pub returns : goal.returns
returns g c = if_all c.run_all.result _ _ _ _ (λ all l s h. done_all g.O.Object.means g.P.Pmem.means c.args.onll.now _ _ _ _ c.in_ok-workers.ensures (sym all.ok.0 ∙ (l ∙ c.in_ok-workers.workers.ok.0)) s h) c.run_all.ensures.many c.run_all.ensures.scripts c.run_all.ensures.worked
