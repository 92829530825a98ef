-- The steps that the turns of a schedule stand for.

use Rattle.std.specs.Prelude.{ℕ, List, [], ◌∷◌, ◌++◌, replicate}
use Rattle.onll_model.specs.declared.turn.Turn.{Turn}

-- the threads of the steps of turns, in order
abbrev pub turns_of : List Turn → List ℕ
turns_of [] = []
turns_of (turn ∷ turns) = replicate turn.count turn.thread ++ turns_of turns
