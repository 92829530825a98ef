-- The object, and how far it follows.
use Rattle.std.specs.Prelude.{ℕ, ◌≡◌, ◌+◌, ◌<◌, List, [], ◌∷◌, ◌++◌, length, get_or, count_by, true, Option, None, Some, IsSome, Result, MatchResult}
use Rattle.onll_model.specs.declared.node.Node.{Node}
use Rattle.onll_model.specs.Object.{Behaviour}
use Rattle.onll_model.specs.Limits.{most_threads}
use Rattle.onll_model.specs.Trace.{is_of_thread, state_after}
use Rattle.onll_standby.specs.declared.fault.FeedFault.{FeedFault}
use Rattle.onll_standby.specs.declared.applied.Applied.{Applied}
use Rattle.onll_standby.specs.Held.{number_follows, followed_above, node_fault_above, nodes_from}
use Rattle.onll_standby.specs.Places.{held_at}

-- it is after these nodes, which are counted
pub record StandsAfter {State Op Query Reply : Type 0} (b : Behaviour State Op Query Reply) (start : State) (nodes : List Node)
    (f : Applied State Op Query Reply) : Type 0 where
  pub object : f.object ≡ state_after b start nodes
  pub followed : f.followed ≡ length nodes
  pub counts : (t : ℕ) → t < most_threads → get_or f.counts t 0 ≡ count_by (is_of_thread t) nodes

-- what comes of the node after these
pub record IsFollowed {State Op Query Reply : Type 0} (b : Behaviour State Op Query Reply) (start : State) (nodes : List Node)
    (x : Node) (f : Applied State Op Query Reply) : Type 0 where
  pub number : number_follows nodes x ≡ true
  pub operation : IsSome (b.op_at x.row)
  pub stands : StandsAfter b start (nodes ++ x ∷ []) f

pub record IsNotFollowed {State Op Query Reply : Type 0} (b : Behaviour State Op Query Reply) (start : State) (nodes : List Node)
    (x : Node) (e : FeedFault) (f : Applied State Op Query Reply) : Type 0 where
  pub fault : node_fault_above b nodes (x ∷ []) ≡ Some e
  pub stands : StandsAfter b start nodes f

-- it has gone on over the next nodes that are held, as far as they are followed; there are slots for so many more places
pub record HasAdvanced {State Op Query Reply : Type 0} (b : Behaviour State Op Query Reply) (start : State) (nodes : List Node) (room : ℕ)
    (slots : List (Option Node)) (result : Result Unit FeedFault) (f : Applied State Op Query Reply) : Type 0 where
  pub stands : StandsAfter b start (nodes ++ followed_above b nodes (nodes_from (held_at slots) room (length nodes + 1))) f
  pub fault : MatchResult result (λ _. node_fault_above b nodes (nodes_from (held_at slots) room (length nodes + 1)) ≡ None)
      (λ e. node_fault_above b nodes (nodes_from (held_at slots) room (length nodes + 1)) ≡ Some e)
