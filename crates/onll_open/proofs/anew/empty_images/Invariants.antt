use Rattle.std.proofs.Common.{◌≡◌, ◌≤◌, replicate, vec_capacity}
use Rattle.onll_pmem.specs.Device.{zero_lines}
use Rattle.onll_open.proofs.anew.empty_images.Given as goal

abbrev pub invariant-loop : goal.invariant-loop
invariant-loop l = record {
  images : l.images.items ≡ replicate l.counter (zero_lines 1);
  room : l.count ≤ vec_capacity l.images;
}
