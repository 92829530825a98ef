use Rattle.std.specs.Prelude.{ℕ, Bool, List, [], ◌∷◌, ◌++◌, ◌≡◌, ◌+◌, ◌==◌, Option, Some, None, count_by, slice_get, suc, zero}
use Rattle.onll_model.specs.declared.node.Node.{Node}
use Rattle.onll_model.specs.Object.{Behaviour}

-- A trace is the list of the updates in their order. The place of a node is its number in the trace, from 1.

-- the node at a place, none at place 0
abbrev pub node_at : List Node → ℕ → Option Node
node_at trace zero = None
node_at trace (suc q) = slice_get trace q

-- the state after a row; one that is the row of no operation leaves the state as it is
abbrev pub after_row : {State Op Query Reply : Type 0} → Behaviour State Op Query Reply → State → Option Op → State
after_row b s None = s
after_row b s (Some op) = b.next s op

-- the state after the rows of nodes, in order
abbrev pub state_after : {State Op Query Reply : Type 0} → Behaviour State Op Query Reply → State → List Node → State
state_after b s [] = s
state_after b s (n ∷ ns) = state_after b (after_row b s (b.op_at n.row)) ns

-- the reply to an operation after nodes
abbrev pub reply_after : {State Op Query Reply : Type 0} → Behaviour State Op Query Reply → State → List Node → Op → Reply
reply_after b s ns op = b.reply (state_after b s ns) op

-- the answer to a query after nodes
abbrev pub answer_after : {State Op Query Reply : Type 0} → Behaviour State Op Query Reply → State → List Node → Query → Reply
answer_after b s ns query = b.answer (state_after b s ns) query

-- the node is one of this thread's
abbrev pub is_of_thread : ℕ → Node → Bool
is_of_thread t n = n.thread == t

-- each node's number is one more than the count of its thread's nodes below it
abbrev pub NumberedAbove : List Node → List Node → Type 0
NumberedAbove below [] = Unit {0}
NumberedAbove below (n ∷ ns) = (n.number ≡ count_by (is_of_thread n.thread) below + 1) × NumberedAbove (below ++ n ∷ []) ns

-- each node's number is its thread's next one
abbrev pub IsNumbered : List Node → Type 0
IsNumbered trace = NumberedAbove [] trace
