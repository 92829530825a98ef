use Rattle.std.proofs.Common.{◌≡◌, replicate}
use Rattle.std.specs.Vec.{vec_capacity}
use Rattle.onll_core.proofs.step_core.first_locals.Given as goal

abbrev pub invariant-loop-thread : goal.invariant-loop-thread
invariant-loop-thread g l = record {
  all : l.locals.items ≡ replicate l._thread (record { object = l.object; place = 0; linked = 0 });
  room : vec_capacity l.locals ≡ l.threads;
}
