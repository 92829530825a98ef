use Rattle.std.proofs.Common.{◌≡◌, ◌-◌, ◌++◌, map}
use Rattle.onll_workload.specs.Workload.{scripts_from, scripts_of}
use Rattle.onll_workload.proofs.script.scripts_of.Given as goal

-- the scripts so far, and those of the threads that are left, are all
abbrev pub invariant-loop-thread : goal.invariant-loop-thread
invariant-loop-thread l =
    map (λ script. script.items) l.scripts.items ++ scripts_from l.workload (l.workload.threads - l.thread) l.thread ≡ scripts_of l.workload
