use Rattle.std.specs.Prelude.{ℕ, List, [], ◌∷◌, ◌+◌}
use Rattle.onll_model.specs.declared.node.Node.{Node}
use Rattle.onll_model.specs.declared.call.Call.{Call}
use Rattle.onll_model.specs.declared.call.Call.TheVariants.{Update, Ask}
use Rattle.onll_model.specs.declared.call.CallEnd.{CallEnd}
use Rattle.onll_model.specs.declared.call.CallEnd.TheVariants.{Answered}
use Rattle.onll_model.specs.Object.{Behaviour}

-- One script done in order by thread 0: each call is answered at the place that the trace has reached.

-- the updates of calls, the first of which has the number after n
abbrev pub fold_trace : {State Op Query Reply : Type 0} → Behaviour State Op Query Reply → ℕ → List (Call State Op Query Reply) → List Node
fold_trace b n [] = []
fold_trace b n (Update op ∷ calls) = record { thread = 0; number = n + 1; row = b.row_of op } ∷ fold_trace b (n + 1) calls
fold_trace b n (Ask query ∷ calls) = fold_trace b n calls

-- the outcomes of calls on the state s, which n updates have reached
abbrev pub fold_ends : {State Op Query Reply : Type 0} → Behaviour State Op Query Reply → State → ℕ
    → List (Call State Op Query Reply) → List (CallEnd State Op Query Reply)
fold_ends b s n [] = []
fold_ends b s n (Update op ∷ calls) = Answered (b.reply s op) (n + 1) ∷ fold_ends b (b.next s op) (n + 1) calls
fold_ends b s n (Ask query ∷ calls) = Answered (b.answer s query) n ∷ fold_ends b s n calls

-- the state that calls leave
abbrev pub fold_state : {State Op Query Reply : Type 0} → Behaviour State Op Query Reply → State → List (Call State Op Query Reply) → State
fold_state b s [] = s
fold_state b s (Update op ∷ calls) = fold_state b (b.next s op) calls
fold_state b s (Ask query ∷ calls) = fold_state b s calls
