use Rattle.std.proofs.Common.{ap, ◌∙◌}
use Rattle.onll_model.specs.Trace.{state_after}
use Rattle.onll_shared.proofs.Starting.{new_room, begun_on}
use Rattle.onll_shared.proofs.onll.Onll.resume_marked.Goals as goal

pub make_passes-requires-clause-plan : goal.make_passes-requires-clause-plan
make_passes-requires-clause-plan g c κs within = new_room c.in_ok-trace.trace c.in_ok-trace.spots.items c.in_ok-trace.ensures.spots

pub returns-clause-passes : goal.returns-clause-passes
returns-clause-passes g c = begun_on _ _ _ _ _ _ _ _ c.in_ok-trace.ensures.spots c.in_ok-passes.ensures c.requires.logs c.args.base.now c.args.marks.now c.in_ok-trace.ensures.threads c.in_ok-trace.ensures.base c.in_ok-trace.ensures.logs c.in_ok-trace.ensures.rooms c.requires.entries
    (c.fold_base.ensures ∙ ap (λ (s : _). state_after g.O.Object.means s c.args.base.now) c.in_ok-replica.ensures)
