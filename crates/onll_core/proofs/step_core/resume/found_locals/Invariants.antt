use Rattle.std.proofs.Common.{◌≡◌, ◌-◌, ◌++◌, length}
use Rattle.std.specs.Vec.{vec_capacity}
use Rattle.onll_core.specs.Found.{locals_from}
use Rattle.onll_core.proofs.step_core.resume.found_locals.Given as goal

-- the replicas that are made, and those that are left
abbrev pub invariant-loop-thread : goal.invariant-loop-thread
invariant-loop-thread g l = record {
  all : l.locals.items ++ locals_from l.object l.nodes l.thread (l.threads - l.thread) ≡ locals_from l.object l.nodes 0 l.threads;
  made : length l.locals.items ≡ l.thread;
  room : vec_capacity l.locals ≡ l.threads;
}
