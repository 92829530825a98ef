use Rattle.std.proofs.Common.{◌≡◌, ◌+◌, ◌≤◌, length, drop}
use Rattle.std.specs.Prelude.{sum_by}
use Rattle.onll_core.specs.Step.{steps_of}
use Rattle.onll_core.specs.Turns.{turns_of}
use Rattle.onll_core.proofs.step_core.Core.play.Given as goal

-- what is left to do leads where all does
abbrev pub invariant-loop-turn : goal.invariant-loop-turn
invariant-loop-turn g l = record {
  steps : steps_of g.O.Object.means l.self (turns_of (drop l.turn-index l.turns)) ≡ steps_of g.O.Object.means l.fn.self (turns_of l.turns);
  clock : l.self.clock + sum_by (λ turn. turn.count) (drop l.turn-index l.turns) ≤ l.fn.self.clock + sum_by (λ turn. turn.count) l.turns;
  threads : length l.self.threads ≡ length l.fn.self.threads;
}
