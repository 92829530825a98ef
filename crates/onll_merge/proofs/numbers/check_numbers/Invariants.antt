use Rattle.std.proofs.Common.{◌≡◌, ◌<◌, ℕ, take, drop, length, get_or}
use Rattle.std.specs.Prelude.{[], count_by}
use Rattle.onll_model.specs.Limits.{most_threads}
use Rattle.onll_model.specs.Trace.{is_of_thread}
use Rattle.onll_merge.specs.Merge.{stray_above}
use Rattle.onll_merge.proofs.numbers.check_numbers.Given as goal

abbrev pub invariant-loop-below : goal.invariant-loop-below
invariant-loop-below l = record {
  many : length l.counts ≡ most_threads;
  counts : (t : ℕ) → t < most_threads → get_or l.counts t 0 ≡ count_by (is_of_thread t) (take l.below l.nodes);
  rest : stray_above (take l.below l.nodes) (drop l.below l.nodes) ≡ stray_above [] l.nodes;
}
