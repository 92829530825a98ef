use Rattle.std.proofs.Common.{◌≡◌, ◌≤◌, ◌+◌, ◌++◌, drop, length, map, vec_capacity}
use Rattle.onll_runner.specs.Ground.{AreFitting, lines_over}
use Rattle.onll_runner.proofs.over_logs.lines_over.Given as goal

-- the lines so far and those of the threads that are left are those of all
abbrev pub invariant-loop-thread : goal.invariant-loop-thread
invariant-loop-thread g l = record {
  all : l.lines.items ++ lines_over (length l.scripts) (drop l.thread l.logs) (drop l.thread l.counts) (map (λ script. script.items) (drop l.thread l.scripts)) ≡ lines_over (length l.scripts) l.logs l.counts (map (λ script. script.items) l.scripts);
  fit : AreFitting (length l.scripts + 1) (drop l.thread l.logs) (map (λ script. script.items) (drop l.thread l.scripts));
  count : length l.lines.items ≡ l.thread;
  room : length l.scripts ≤ vec_capacity l.lines;
}
