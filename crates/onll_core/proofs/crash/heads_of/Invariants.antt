use Rattle.std.proofs.Common.{◌≡◌, take}
use Rattle.onll_core.specs.Crash.{heads_of}
use Rattle.onll_core.proofs.crash.heads_of.Given as goal

abbrev pub invariant-loop-worker : goal.invariant-loop-worker
invariant-loop-worker g l = l.heads.items ≡ heads_of (take l.worker-index l.workers)
