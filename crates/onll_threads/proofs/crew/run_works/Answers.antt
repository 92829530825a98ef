use Rattle.std.proofs.Common.{◌≡◌, length, drop, rules, sym, ap, ◌∙◌, subst, arith}
use Rattle.std.specs.List.{AllByRecursion}
use Rattle.onll_threads.specs.Crews.{AreJobs, AreTaken, JobHasEnded, HasSpaceFor, JobIsReady}
use Rattle.onll_threads.proofs.Jobs.{all_done, all_ended, all_ready, first_part, jobs_long}
use Rattle.onll_threads.proofs.crew.run_works.Goals as goal

pub do_jobs-requires-after_bounds : goal.do_jobs-requires-after_bounds
do_jobs-requires-after_bounds g c κs within =
    let e : c.deref_mut.result.now ≡ c.make_jobs-jobs.result.items = search rules in
    subst (AllByRecursion (JobIsReady g.O.Object.means g.P.Pmem.means)) (sym e)
    (all_ready g.O.Object.means g.P.Pmem.means g.W.Work.promise c.args.place.now.onll c.args.works.items c.args.passes.items
    c.make_jobs-jobs.result.items c.make_jobs-jobs.ensures c.requires.tied c.requires.fresh)

pub take_apart-requires-clause-space : goal.take_apart-requires-clause-space
take_apart-requires-clause-space g c κs within =
    let e : c.deref_mut.result.now ≡ c.make_jobs-jobs.result.items = search rules in
    let same = ap length e in
    let long = jobs_long c.args.place.now.onll c.args.works.items c.args.passes.items c.make_jobs-jobs.result.items
    c.make_jobs-jobs.ensures in
    let kept = c.do_jobs.ensures.len in
    let ok = c.make_jobs-jobs.result.ok in
    let whole = first_part c.make_jobs-jobs.result.len c.do_jobs.new.jobs
    (drop (length c.do_jobs.new.jobs) c.make_jobs-jobs.result.items) (omega (arith, same, kept, ok)) in
    subst (λ n. HasSpaceFor n c.args.space.done) (sym (ap length whole ∙ (kept ∙ (same ∙ long)))) c.requires.space.done

pub take_apart-requires-clause-ended : goal.take_apart-requires-clause-ended
take_apart-requires-clause-ended g c κs within =
    let e : c.deref_mut.result.now ≡ c.make_jobs-jobs.result.items = search rules in
    let same = ap length e in
    let kept = c.do_jobs.ensures.len in
    let ok = c.make_jobs-jobs.result.ok in
    let whole = first_part c.make_jobs-jobs.result.len c.do_jobs.new.jobs
    (drop (length c.do_jobs.new.jobs) c.make_jobs-jobs.result.items) (omega (arith, same, kept, ok)) in
    subst (AllByRecursion JobHasEnded) (sym whole)
    (all_ended g.O.Object.means g.P.Pmem.means g.W.Work.promise c.args.place.now.onll c.deref_mut.result.now c.do_jobs.new.jobs
    kept c.do_jobs.ensures.done)

pub returns : goal.returns
returns g c =
    let e : c.deref_mut.result.now ≡ c.make_jobs-jobs.result.items = search rules in
    let same = ap length e in
    let kept = c.do_jobs.ensures.len in
    let ok = c.make_jobs-jobs.result.ok in
    let whole = first_part c.make_jobs-jobs.result.len c.do_jobs.new.jobs
    (drop (length c.do_jobs.new.jobs) c.make_jobs-jobs.result.items) (omega (arith, same, kept, ok)) in
    let r = c.take_apart.result in
    all_done g.O.Object.means g.P.Pmem.means g.W.Work.promise c.args.place.now.onll c.args.works.items c.args.passes.items
    c.deref_mut.result.now c.do_jobs.new.jobs r.works.items r.passes.items r.answers.items
    (subst (AreJobs c.args.place.now.onll c.args.works.items c.args.passes.items) (sym e) c.make_jobs-jobs.ensures)
    kept c.do_jobs.ensures.done
    (subst (λ js. AreTaken js r.works.items r.passes.items r.answers.items) whole c.take_apart.ensures)
