use Rattle.std.proofs.Common.{rules, refl, ◌∙◌}
use Rattle.onll_shared.proofs.Starting.{new_room, begun_new}
use Rattle.onll_shared.proofs.onll.Onll.create.Goals as goal

pub make_passes-requires-clause-plan : goal.make_passes-requires-clause-plan
make_passes-requires-clause-plan g c κs within = new_room c.in_ok-trace.trace c.in_ok-trace.spots.items c.in_ok-trace.ensures.spots

pub returns-clause-passes : goal.returns-clause-passes
returns-clause-passes g c = begun_new _ _ _ _ _ _ _ _ c.in_ok-trace.ensures.spots c.in_ok-passes.ensures c.requires.logs _ _ c.in_ok-trace.ensures.plan (search rules) (c.deref.ensures.value ∙ c.in_ok-rooms.ensures) c.requires.none refl
