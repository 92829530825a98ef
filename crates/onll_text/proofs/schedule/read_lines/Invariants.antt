use Rattle.std.proofs.Common.{◌≡◌, ◌≤◌, length}
use Rattle.onll_text.specs.Schedule.{most_steps, after_turns, schedule_in}
use Rattle.onll_text.proofs.schedule.read_lines.Given as goal

-- the turns so far and those of the lines that are left are those of all
abbrev pub invariant-loop-number : goal.invariant-loop-number
invariant-loop-number l = record {
  steps : l.steps ≤ most_steps;
  schedule : after_turns l.turns.items (schedule_in l.threads l.steps l.lines) ≡ schedule_in l.threads 0 l.fn.lines;
}

abbrev pub decreases-loop-number : goal.decreases-loop-number
decreases-loop-number l = length l.lines
