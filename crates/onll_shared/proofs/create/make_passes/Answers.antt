use Rattle.std.proofs.Common.{rules, ℕ, get_or, refl, ap}
use Rattle.onll_shared.proofs.Making.{here, making_one, making_all}
use Rattle.onll_shared.proofs.create.make_passes.Goals as goal

pub make_pass-requires-clause-seen : goal.make_pass-requires-clause-seen
make_pass-requires-clause-seen g c = λ κs within. (here _ _ _ _ _ _ _ _ _ c.loop-spot.invariant _ _ c.in-Some.ensures.items).1

pub make_pass-requires-clause-plan : goal.make_pass-requires-clause-plan
make_pass-requires-clause-plan g c = λ κs within. (here _ _ _ _ _ _ _ _ _ c.loop-spot.invariant _ _ c.in-Some.ensures.items).0

pub loop-spot-preserved : goal.loop-spot-preserved
loop-spot-preserved g c = making_one _ _ _ _ _ _ _ _ _ c.loop-spot.invariant _ _ c.in-Some.ensures.items _ _ c.in_ok-pass.pass _ (get_or c.args.rooms.now c.len.result 0) 0 _
    c.in-Some-pop.ensures.items (ap (λ (n : ℕ). get_or c.args.rooms.now n 0) (search rules)) c.facts.ensures c.log_facts.ensures refl c.in_ok-pass.ensures c.in_ok-push.ensures.items

pub returns : goal.returns
returns g c = making_all _ _ _ _ _ _ _ _ _ c.loop-spot.invariant _ (search rules) c.reverse.ensures.items
