use Rattle.std.proofs.Common.{◌≡◌, ◌-◌, ◌++◌}
use Rattle.onll_workload.specs.Workload.{calls_from}
use Rattle.onll_workload.proofs.script.calls_of.Given as goal

-- the calls so far, and those that are left by draws from here on, are all
abbrev pub invariant-loop-made : goal.invariant-loop-made
invariant-loop-made l = l.calls.items ++ calls_from (l.updates - l.made) l.made l.draws.x ≡ calls_from l.updates 0 l.x
