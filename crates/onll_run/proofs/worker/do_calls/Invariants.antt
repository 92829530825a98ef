use Rattle.std.proofs.Common.{◌≡◌, vec_capacity}
use Rattle.onll_run.proofs.Calling.{Keeps}
use Rattle.onll_run.proofs.worker.do_calls.Given as goal

abbrev pub invariant-loop-call : goal.invariant-loop-call
invariant-loop-call g l = record {
  keeps : Keeps g.O.Object.means g.P.Pmem.means l.onll l.script l.initial.pass l.ends.items l.call-index l.pass;
  room : vec_capacity l.ends ≡ vec_capacity l.initial.ends;
}
