use Rattle.std.proofs.Common.{rules, refl}
use Rattle.onll_threads.proofs.Jobs.{all_made, making_more, making_none}
use Rattle.onll_threads.proofs.crew.make_jobs.Goals as goal

pub loop-pass-init : goal.loop-pass-init
loop-pass-init g c = making_none c.args.at.now.onll c.args.works.items c.args.passes.items _ _ c.args.jobs.items _ c.requires.many c.requires.room.0
    c.requires.room.1 c.reverse.ensures.items c.reverse-2.ensures.items

pub loop-pass-preserved : goal.loop-pass-preserved
loop-pass-preserved g c = making_more _ _ _ _ _ _ _ _ _ _ _ _ _ _ c.loop-pass.invariant c.in-Some-pop.ensures.items c.in-Some.ensures.items
    (record { onll_is = refl; work_is = refl; pass_is = refl }) c.push_reserved.ensures.items c.push_reserved.ensures.capacity

pub returns : goal.returns
returns g c = all_made _ _ _ _ _ _ _ c.loop-pass.invariant (search rules)
