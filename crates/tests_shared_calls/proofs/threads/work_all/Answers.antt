use denote.Param.Send.{sendable}
use Rattle.std.proofs.Common.{rules, sym, ap, ◌∙◌}
use Rattle.onll_shared.specs.Passes.{PassView}
use Rattle.tests_shared_calls.proofs.Tied.{tied_at, all_again}
use Rattle.tests_shared_calls.proofs.threads.work_all.Goals as goal

pub map_vec-requires-after_bounds : goal.map_vec-requires-after_bounds
map_vec-requires-after_bounds g c κs within = let b = c.type_bounds in λ i x low is. (
  tied_at g.O.Object.means _ c.args.onll.now c.args.passes.items i x c.requires.tied low is,
  search (sendable, b),
)

pub returns : goal.returns
returns g c = record {
  tied = all_again g.O.Object.means _ c.args.onll.now c.args.passes.items c.in_ok-all.all.items c.requires.tied (search rules)
      (λ i d low. let x = (c.in_ok-all.ensures.each i d low).1 in
      (x.call.met.0, x.call.met.1 ∙ ap (λ (p : PassView _ _). p.spot.me.thread) (sym (x.job_is d))));
}
