use Rattle.std.specs.Prelude.{List, [], ◌∷◌, Option, Some, None}
use Rattle.onll_model.specs.declared.node.Node.{Node}
use Rattle.onll_model.specs.Object.{Behaviour}

-- Recovered nodes are applied in order, up to the first whose row is no operation of the object.

abbrev pub where_some : {A : Type 0} → Option A → List Node → List Node
where_some None nodes = []
where_some (Some x) nodes = nodes

-- the nodes before the first whose row is no operation
abbrev pub operations_front : {State Op Query Reply : Type 0} → Behaviour State Op Query Reply → List Node → List Node
operations_front b [] = []
operations_front b (n ∷ ns) = where_some (b.op_at n.row) (n ∷ operations_front b ns)
