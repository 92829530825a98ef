use Rattle.std.proofs.Common.{length, vec_capacity}
use Rattle.onll_threads.proofs.Jobs.{IsTaking}
use Rattle.onll_threads.proofs.crew.take_apart.Given as goal

abbrev pub invariant-loop-job : goal.invariant-loop-job
invariant-loop-job g l = IsTaking l.fn.jobs.items l.jobs.items l.all.works.items l.all.passes.items l.all.answers.items
    (vec_capacity l.all.works) (vec_capacity l.all.passes) (vec_capacity l.all.answers)

abbrev pub decreases-loop-job : goal.decreases-loop-job
decreases-loop-job g l = length l.jobs.items
