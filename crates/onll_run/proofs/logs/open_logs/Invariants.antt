use Rattle.std.proofs.Common.{◌≤◌, ◌+◌, length, drop, vec_capacity}
use Rattle.std.specs.Prelude.{reverse}
use Rattle.onll_merge.specs.Merge.{contents_in}
use Rattle.onll_run.proofs.Headers.{OpenTo}
use Rattle.onll_run.proofs.logs.open_logs.Given as goal

abbrev pub invariant-loop-thread : goal.invariant-loop-thread
invariant-loop-thread g l = record {
  opened : OpenTo g.P.Pmem.means l.heads (contents_in l.base) l.fn.devices.items l.logs.items (drop l.thread l.heads) (contents_in (drop l.thread l.base)) (reverse l.devices.items);
  logs_room : length l.heads ≤ vec_capacity l.logs;
  room : length l.logs.items + length l.devices.items ≤ vec_capacity l.devices;
}
