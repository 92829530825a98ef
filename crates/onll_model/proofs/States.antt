use Rattle.std.proofs.Common.{List, [], ◌∷◌, ◌++◌, ◌≡◌, refl}
use Rattle.onll_model.specs.declared.node.Node.{Node}
use Rattle.onll_model.specs.Object.{Behaviour}
use Rattle.onll_model.specs.Trace.{state_after, after_row}

-- the state after two lists of nodes
pub state_after-append : {State Op Query Reply : Type 0} (b : Behaviour State Op Query Reply) (s : State) (xs ys : List Node) → state_after b s (xs ++ ys) ≡ state_after b (state_after b s xs) ys
state_after-append b s [] ys = refl
state_after-append b s (x ∷ xs) ys = state_after-append b (after_row b s (b.op_at x.row)) xs ys
