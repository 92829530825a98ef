-- What a standby holds: the entries that it accepted, in the order in which they came.
use Rattle.std.specs.Prelude.{ℕ, zero, suc, ◌+◌, ◌-◌, ◌*◌, ◌==◌, if◌then◌else◌, Bool, true, List, [], ◌∷◌, ◌++◌, length, map, count_by, nat_le, Option, Some, None}
use Rattle.std.specs.Option.{option_map, option_map_or}
use Rattle.onll_model.specs.declared.node.Node.{Node}
use Rattle.onll_model.specs.Object.{Behaviour}
use Rattle.onll_model.specs.Limits.{most_updates}
use Rattle.onll_model.specs.Trace.{is_of_thread}
use Rattle.onll_model.specs.Recovered.{where_some}
use Rattle.onll_model.specs.Segment.{Segment, last_place}
use Rattle.onll_merge.specs.Merge.{node_in_log, same_node}
use Rattle.onll_standby.specs.declared.fault.FeedFault.{FeedFault}
use Rattle.onll_standby.specs.declared.fault.FeedFault.TheVariants.{Disorder, Clash, Stray, NotOp}

-- an entry of the log of a thread
pub record HeldEntry : Type 0 where
  pub thread : ℕ
  pub segment : Segment

-- the segments of all entries, and those of one thread's
abbrev pub segments_held : List HeldEntry → List Segment
segments_held es = map (λ (e : HeldEntry). e.segment) es

abbrev pub log_held : ℕ → List HeldEntry → List Segment
log_held t [] = []
log_held t (e ∷ es) = (if e.thread == t then e.segment ∷ [] else []) ++ log_held t es

-- ---- the nodes of places
abbrev pub node_then : Option Node → List Node → List Node
node_then None rest = []
node_then (Some x) rest = x ∷ rest

-- the nodes from the place p on, where `held` says which node is held at a place, as far as each of so many places has one
abbrev pub nodes_from : (ℕ → Option Node) → ℕ → ℕ → List Node
nodes_from held zero p = []
nodes_from held (suc k) p = node_then (held p) (nodes_from held k (p + 1))

-- the node of a place in the first entry that holds it
abbrev pub node_held : List HeldEntry → ℕ → Option Node
node_held es p = node_in_log (segments_held es) p

-- the greatest place that an entry of so many threads can have
abbrev pub greatest_place : ℕ → ℕ
greatest_place threads = most_updates * threads

-- the nodes of the places from 1 on, as far as each place is in an accepted entry
abbrev pub covered : ℕ → List HeldEntry → List Node
covered threads es = nodes_from (node_held es) (greatest_place threads) 1

-- ---- what is followed
-- the number of the node follows, after these
abbrev pub number_follows : List Node → Node → Bool
number_follows below x = x.number == count_by (is_of_thread x.thread) below + 1

-- the fault of the node at a place whose number follows: none where its row is an operation
abbrev pub row_fault : {Op : Type 0} → Option Op → ℕ → Option FeedFault → Option FeedFault
row_fault None place rest = Some (NotOp place)
row_fault (Some op) place rest = rest

module _ {State Op Query Reply : Type 0} (b : Behaviour State Op Query Reply) where
  -- nodes, as far as each number follows and each row is an operation
  abbrev pub followed_above : List Node → List Node → List Node
  followed_above below [] = []
  followed_above below (x ∷ xs) =
      if number_follows below x then where_some (b.op_at x.row) (x ∷ followed_above (below ++ x ∷ []) xs) else []

  -- the fault of the first node that is not followed
  abbrev pub node_fault_above : List Node → List Node → Option FeedFault
  node_fault_above below [] = None
  node_fault_above below (x ∷ xs) =
      if number_follows below x
      then row_fault (b.op_at x.row) (length below + 1) (node_fault_above (below ++ x ∷ []) xs)
      else Some (Stray (length below + 1))

  -- of the nodes that entries cover: those that are followed, and the fault of the first that is not
  abbrev pub nodes_followed : ℕ → List HeldEntry → List Node
  nodes_followed threads es = followed_above [] (covered threads es)

  abbrev pub node_fault : ℕ → List HeldEntry → Option FeedFault
  node_fault threads es = node_fault_above [] (covered threads es)

-- ---- one entry more
-- whether no other node than x is held
abbrev pub is_alike : Option Node → Node → Bool
is_alike held x = option_map_or (same_node x) held true

-- the least of the places from p on, where these nodes stand, at which another node is held
abbrev pub clash_among : (ℕ → Option Node) → ℕ → List Node → Option ℕ
clash_among held p [] = None
clash_among held p (x ∷ xs) = if is_alike (held p) x then clash_among held (p + 1) xs else Some p

abbrev pub clash_with : List HeldEntry → Segment → Option ℕ
clash_with es s = clash_among (node_held es) (s.place + 1 - length s.nodes) s.nodes

-- whether a segment's first place is above the last place of its thread's entry before it
abbrev pub goes_up : List HeldEntry → HeldEntry → Bool
goes_up es e = nat_le (last_place 0 (log_held e.thread es) + length e.segment.nodes) e.segment.place

-- the fault of a whole entry that begins at the byte `at`, against the earlier ones
abbrev pub entry_fault : List HeldEntry → ℕ → HeldEntry → Option FeedFault
entry_fault es at e = if goes_up es e then option_map (Clash at) (clash_with es e.segment) else Some (Disorder at)
