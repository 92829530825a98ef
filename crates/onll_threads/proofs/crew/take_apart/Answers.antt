use Rattle.std.proofs.Common.{rules, refl, vec_capacity}
use Rattle.onll_threads.proofs.Jobs.{all_taken, next_ended, taking_more, taking_none}
use Rattle.onll_threads.proofs.crew.take_apart.Goals as goal

pub loop-job-init : goal.loop-job-init
loop-job-init g c =
    let s = c.requires.space in
    taking_none c.args.jobs.items c.reverse.new.self.items c.args.all.works.items c.args.all.passes.items c.args.all.answers.items
    (vec_capacity c.args.all.works) (vec_capacity c.args.all.passes) (vec_capacity c.args.all.answers)
    c.reverse.ensures.items c.requires.ended s.works.0 s.passes.0 s.answers.0 s.works.1 s.passes.1 s.answers.1

pub unreachable-requires : goal.unreachable-requires
unreachable-requires g c =
    let h = next_ended _ _ _ _ _ _ _ _ _ c.in-Some.job c.loop-job.invariant c.in-Some.ensures.items in
    let e = h.pass_is in
    absurd (cc)

pub unreachable-requires-in_default-answer : goal.unreachable-requires-in_default-answer
unreachable-requires-in_default-answer g c =
    let h = next_ended _ _ _ _ _ _ _ _ _ c.in-Some.job c.loop-job.invariant c.in-Some.ensures.items in
    let e = h.answer_is in
    absurd (cc)

pub loop-job-preserved : goal.loop-job-preserved
loop-job-preserved g c =
    taking_more _ _ _ _ _ _ _ _ _ _ _ _ _ _ _ c.in-Some.job _ _ _ c.loop-job.invariant c.in-Some.ensures.items
    refl (search rules) (search rules) c.push_reserved.ensures.items c.push_reserved-in-Some.ensures.items
    c.push_reserved-in-Some-2.ensures.items c.push_reserved.ensures.capacity c.push_reserved-in-Some.ensures.capacity
    c.push_reserved-in-Some-2.ensures.capacity

pub returns : goal.returns
returns g c = all_taken _ _ _ _ _ _ _ _ c.loop-job.invariant (search rules)
