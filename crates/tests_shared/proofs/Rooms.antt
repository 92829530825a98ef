-- Room for what a thread orders that has one node.
use Rattle.std.proofs.Common.{ℕ, zero, suc, ◌≡◌, ◌≤◌, List, [], ◌∷◌, length, arith}
use Rattle.std.proofs.lemmas.List.Sums.{count_by-le-length}
use Rattle.onll_model.specs.declared.node.Node.{Node}
use Rattle.onll_model.specs.Limits.{most_updates}
use Rattle.onll_model.specs.Trace.{is_of_thread}
use Rattle.onll_trace.specs.Plans.{HasRooms}

pub one_room : (base : List Node) (room : ℕ) → length base ≡ 1 → room ≤ 4095 → HasRooms base (room ∷ []) most_updates
one_room base room one low zero r e = let same : room ≡ r = (cc) in let few = count_by-le-length (is_of_thread 0) base in omega arith
one_room base room one low (suc t) r e = absurd (cc)
