use Rattle.std.proofs.Common.{◌≡◌, ◌+◌, ◌-◌, ◌*◌, ◌/◌, ◌%◌, arith}
use Rattle.onll_model.specs.declared.node.Node.{Node}
use Rattle.onll_model.specs.Names.{name_of, node_of_name, HasNumber}

-- a node is the one of its name
pub node_of_its_name : (n : Node) → HasNumber n → node_of_name (name_of n) n.row ≡ n
node_of_its_name n h =
    let low = h.0 in
    let high = h.1 in
    let thread : (n.thread * 4096 + n.number - 1) / 4096 ≡ n.thread = omega arith in
    let number : (n.thread * 4096 + n.number - 1) % 4096 + 1 ≡ n.number = omega arith in
    λ i. record { thread = thread i; number = number i; row = n.row }
