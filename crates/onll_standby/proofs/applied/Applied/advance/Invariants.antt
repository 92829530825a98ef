use Rattle.std.proofs.Common.{ℕ, ◌+◌, ◌-◌, ◌≤◌, List, length}
use Rattle.onll_model.specs.declared.node.Node.{Node}
use Rattle.onll_standby.specs.Applied.{StandsAfter}
use Rattle.onll_standby.proofs.Advancing.{Comes}
use Rattle.onll_standby.proofs.applied.Applied.advance.Given as goal

abbrev pub invariant-loop-node : goal.invariant-loop-node
invariant-loop-node g l = (start : _) (nodes : List Node) (room : ℕ) → StandsAfter g.O.Object.means start nodes l.initial.self → length l.places ≤ length nodes + room
    → Comes g.O.Object.means start nodes room l.places l.self

abbrev pub decreases-loop-node : goal.decreases-loop-node
decreases-loop-node g l = length l.places - l.self.followed
