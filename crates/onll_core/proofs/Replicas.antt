use Rattle.std.proofs.Common.{ℕ, ◌≡◌, ◌+◌, ◌-◌, ◌≤◌, List, take, drop, ap, ◌∙◌, arith}
use Rattle.std.specs.List.{slice_range}
use Rattle.std.proofs.lemmas.List.{drop-take}
use Rattle.onll_model.specs.declared.node.Node.{Node}
use Rattle.onll_model.specs.Segment.{nodes_between}

-- Replicas that are moved forward over the trace.

-- the nodes above a place, up to another
pub window_is : (xs : List Node) (from to : ℕ) → from ≤ to → nodes_between xs from to ≡ slice_range xs from to
window_is xs from to l = let e : to ≡ from + (to - from) = omega arith in ap (λ (n : ℕ). drop from (take n xs)) e ∙ drop-take from (to - from) xs
