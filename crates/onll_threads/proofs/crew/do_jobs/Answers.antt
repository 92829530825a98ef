use Rattle.std.proofs.Common.{sym, subst}
use denote.Param.Send.{sendable}
use Rattle.onll_threads.specs.declared.job.Job.{Job}
use Rattle.onll_threads.specs.Crews.{JobIsDone, JobIsReady}
use Rattle.onll_threads.proofs.Jobs.{all_at}
use Rattle.onll_threads.proofs.crew.do_jobs.Goals as goal

pub for_each_mut-requires-clause-accepts : goal.for_each_mut-requires-clause-accepts
for_each_mut-requires-clause-accepts g c κs within =
    let b = c.type_bounds in
    let P : Job _ _ _ _ _ _ _ → Type 0 = JobIsReady g.O.Object.means g.P.Pmem.means in
    λ i p low is. (subst P (sym is) (all_at P c.args.jobs.now c.requires i p.now low), search (sendable, b))

pub returns-clause-done : goal.returns-clause-done
returns-clause-done g c = λ i d low.
    let at = (c.for_each_mut.ensures i d low).1 in
    subst (λ (z : Job _ _ _ _ _ _ _ × Job _ _ _ _ _ _ _).
    JobIsDone g.O.Object.means g.P.Pmem.means g.W.Work.promise z.0 z.1)
    (λ j. (at.argument_is j, at.left j)) at.call
