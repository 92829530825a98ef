-- Which updates took effect: the replies of a trace's nodes, and each thread's places.

use Rattle.std.specs.Prelude.{ℕ, zero, suc, List, [], ◌∷◌, ◌++◌, ◌≡◌, ◌+◌, ◌-◌, ◌<◌, ◌≤◌, Option, Some, None, if◌then◌else◌, take, slice_get}
use Rattle.std.specs.List.{AllByRecursion}
use Rattle.onll_model.specs.declared.node.Node.{Node}
use Rattle.onll_model.specs.Limits.{most_threads}
use Rattle.onll_model.specs.Object.{Behaviour}
use Rattle.onll_model.specs.Recovered.{operations_front}
use Rattle.onll_model.specs.Trace.{is_of_thread, node_at, after_row, reply_after, IsNumbered}
use Rattle.onll_detect.specs.declared.outcome.Outcome.{Outcome}
use Rattle.onll_detect.specs.declared.outcome.Outcome.TheVariants.{Took, Lost}

-- the reply to an operation; a row of no operation has none
abbrev pub reply_to : {State Op Query Reply : Type 0} → Behaviour State Op Query Reply → State → Option Op → List Reply
reply_to b s None = []
reply_to b s (Some op) = b.reply s op ∷ []

-- the reply of each node
abbrev pub replies_of : {State Op Query Reply : Type 0} → Behaviour State Op Query Reply → State → List Node → List Reply
replies_of b s [] = []
replies_of b s (n ∷ nodes) = reply_to b s (b.op_at n.row) ++ replies_of b (after_row b s (b.op_at n.row)) nodes

-- the places of a thread's nodes, where the first node of the list stands above this place
abbrev pub places_of : ℕ → ℕ → List Node → List ℕ
places_of t below [] = []
places_of t below (n ∷ nodes) = (if is_of_thread t n then (below + 1) ∷ [] else []) ++ places_of t (below + 1) nodes

-- those of so many threads, from thread t on
abbrev pub all_places : ℕ → ℕ → List Node → List (List ℕ)
all_places t zero nodes = []
all_places t (suc count) nodes = places_of t 0 nodes ∷ all_places (t + 1) count nodes

-- what is found at a place
abbrev pub at_reply : {Reply : Type 0} → ℕ → Option Reply → Outcome Reply
at_reply place None = Lost
at_reply place (Some reply) = Took place reply

abbrev pub at_place : {Reply : Type 0} → List Reply → Option ℕ → Outcome Reply
at_place replies None = Lost
at_place replies (Some place) = at_reply place (slice_get replies (place - 1))

-- the one of this number, from 1, of a list, where there is a list
abbrev pub numbered_in : {A : Type 0} → Option (List A) → ℕ → Option A
numbered_in None number = None
numbered_in (Some xs) zero = None
numbered_in (Some xs) (suc n) = slice_get xs n

-- the replies of a trace's nodes, and the places of each thread's
pub record Table (Reply : Type 0) : Type 0 where
  pub replies : List Reply
  pub places : List (List ℕ)

-- each place is one of the first so many
abbrev pub ArePlacesWithin : ℕ → List (List ℕ) → Type 0
ArePlacesWithin count places = AllByRecursion (λ own. AllByRecursion (λ place. (1 ≤ place) × (place ≤ count)) own) places

abbrev pub table_of : {State Op Query Reply : Type 0} → Behaviour State Op Query Reply → State → List Node → Table Reply
table_of b s nodes = record { replies = replies_of b s nodes; places = all_places 0 most_threads nodes }

abbrev pub find_in : {Reply : Type 0} → Table Reply → ℕ → ℕ → Outcome Reply
find_in table t number = at_place table.replies (numbered_in (slice_get table.places t) number)

-- ---- in the trace's own words
-- no node has this thread and number
abbrev pub IsNowhere : List Node → ℕ → ℕ → Type 0
IsNowhere nodes t number = (place : ℕ) (n : Node) → node_at nodes place ≡ Some n → n.thread ≡ t → n.number ≡ number → ⊥

-- the node at this place has this thread and number, and its operation this reply
pub record HasTaken {State Op Query Reply : Type 0}
    (b : Behaviour State Op Query Reply) (s : State) (nodes : List Node) (t number place : ℕ)
    (reply : Reply) : Type 0 where
  pub node : Node
  pub here : node_at nodes place ≡ Some node
  pub thread : node.thread ≡ t
  pub number_is : node.number ≡ number
  pub op : Op
  pub row : b.op_at node.row ≡ Some op
  pub reply_is : reply ≡ reply_after b s (take (place - 1) nodes) op

-- an update took effect at a place, with a reply, or it is lost
abbrev pub IsOutcome : {State Op Query Reply : Type 0}
    → Behaviour State Op Query Reply → State → List Node → ℕ → ℕ → Outcome Reply → Type 0
IsOutcome b s nodes t number Lost = IsNowhere nodes t number
IsOutcome b s nodes t number (Took place reply) = HasTaken b s nodes t number place reply

-- a numbered trace of operations, of threads that a run can have
pub record IsTraceOf {State Op Query Reply : Type 0} (b : Behaviour State Op Query Reply) (nodes : List Node) : Type 0 where
  pub numbered : IsNumbered nodes
  pub threads : AllByRecursion (λ (n : Node). n.thread < most_threads) nodes
  pub operations : operations_front b nodes ≡ nodes

-- What is found in the table of such a trace is the outcome of that update.
abbrev pub OutcomeLaw : {State Op Query Reply : Type 0} → Behaviour State Op Query Reply → Type 0
OutcomeLaw {State} b = (s : State) (nodes : List Node) → IsTraceOf b nodes → (t number : ℕ)
    → IsOutcome b s nodes t number (find_in (table_of b s nodes) t number)
