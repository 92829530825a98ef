use Rattle.std.proofs.Common.{◌≡◌, ◌+◌, ◌∷◌, ◌∙◌, List, drop, get_or, arith}
use Rattle.std.proofs.lemmas.List.{drop_more}
use Rattle.std.proofs.lemmas.List.Sums.{sum_by-drop_more}
use Rattle.onll_model.specs.declared.turn.Turn.{Turn}
use Rattle.onll_core.proofs.Plays.{play_more}
use Rattle.onll_core.proofs.step_core.Core.play.Goals as goal

pub loop-turn-preserved : goal.loop-turn-preserved
loop-turn-preserved g c =
    let test = c.loop-turn-test.true in
    let turns : List Turn = c.args.turns.now in
    let turn : Turn = get_or turns c.loop-turn.turn-index (record { thread = 0; count = 0 }) in
    let rest : List Turn = drop (c.loop-turn.turn-index + 1) turns in
    let e : drop c.loop-turn.turn-index turns ≡ turn ∷ rest = drop_more turns c.loop-turn.turn-index (record { thread = 0; count = 0 }) test in
    record {
      steps = play_more g.O.Object.means c.loop-turn.self c.run.new.self turn rest (drop c.loop-turn.turn-index turns) c.run.ensures.steps e ∙ c.loop-turn.invariant.steps;
      clock = (let a = c.run.ensures.clock in let b = c.loop-turn.invariant.clock in let n = sum_by-drop_more (λ (x : Turn). x.count) turns c.loop-turn.turn-index (record { thread = 0; count = 0 }) test in omega arith);
      threads = c.run.ensures.threads ∙ c.loop-turn.invariant.threads;
    }
