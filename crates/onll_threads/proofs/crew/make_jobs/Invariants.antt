use Rattle.std.proofs.Common.{length, vec_capacity}
use Rattle.onll_threads.proofs.Jobs.{IsMaking}
use Rattle.onll_threads.proofs.crew.make_jobs.Given as goal

abbrev pub invariant-loop-pass : goal.invariant-loop-pass
invariant-loop-pass g l = IsMaking l.at.onll l.fn.works.items l.fn.passes.items l.works.items l.passes.items l.jobs.items
    (vec_capacity l.jobs)

abbrev pub decreases-loop-pass : goal.decreases-loop-pass
decreases-loop-pass g l = length l.passes.items
