use Rattle.std.proofs.Common.{◌≡◌, ◌≤◌, ◌-◌, ◌++◌, length, map, take}
use Rattle.onll_words.specs.Lines.{words_of_bytes}
use Rattle.onll_pmem.specs.Device.{zero_lines}
use Rattle.onll_outside.proofs.gather.front_count.Given as goal

-- behind these lines are zeros alone
abbrev pub invariant-loop-count : goal.invariant-loop-count
invariant-loop-count l =
    let lines = map words_of_bytes l.chunks in
    record {
      within : l.count ≤ length l.chunks;
      zeros : lines ≡ take l.count lines ++ zero_lines (length l.chunks - l.count);
    }

abbrev pub decreases-loop-count : goal.decreases-loop-count
decreases-loop-count l = l.count
