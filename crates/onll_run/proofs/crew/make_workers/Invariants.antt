use Rattle.std.proofs.Common.{length, map}
use Rattle.onll_run.proofs.Crewing.{IsMaking}
use Rattle.onll_run.proofs.crew.make_workers.Given as goal

abbrev pub invariant-loop-pass : goal.invariant-loop-pass
invariant-loop-pass g l = IsMaking l.onll (map (λ script. script.items) l.initial.scripts.items) l.initial.passes.items (map (λ script. script.items) l.scripts.items) l.passes.items l.workers.items

abbrev pub decreases-loop-pass : goal.decreases-loop-pass
decreases-loop-pass g l = length l.passes.items
