-- What is kept of the entries that are held.
use Rattle.std.specs.Prelude.{ℕ, suc, ◌≡◌, ◌<◌, ◌≤◌, List, [], ◌∷◌, ◌++◌, length, get_or, Option, Some, None, Result, MatchResult}
use Rattle.onll_model.specs.declared.node.Node.{Node}
use Rattle.onll_model.specs.Object.{Behaviour}
use Rattle.onll_model.specs.Limits.{most_threads}
use Rattle.onll_model.specs.Segment.{last_place}
use Rattle.onll_standby.specs.declared.fault.FeedFault.{FeedFault}
use Rattle.onll_standby.specs.declared.holdings.LogTail.{LogTail}
use Rattle.onll_standby.specs.declared.holdings.Holdings.{Holdings}
use Rattle.onll_standby.specs.Held.{HeldEntry, log_held, node_held, greatest_place, covered, nodes_followed, node_fault}
use Rattle.onll_standby.specs.Places.{held_at}
use Rattle.onll_standby.specs.Applied.{StandsAfter}

-- of each log how many entries are held, and the place of the last
abbrev pub AreLogTails : List HeldEntry → List LogTail → Type 0
AreLogTails es logs = (t : ℕ) (d : LogTail) → t < most_threads
    → get_or logs t d ≡ record { entries = length (log_held t es); last = last_place 0 (log_held t es) }

-- the nodes at their places
abbrev pub AreHeldNodes : List HeldEntry → List (Option Node) → Type 0
AreHeldNodes es slots = (q : ℕ) → held_at slots (suc q) ≡ node_held es (suc q)

-- what is kept of entries whose nodes are followed as far as they cover the places
pub record KeepsEntries {State Op Query Reply : Type 0} (b : Behaviour State Op Query Reply) (start : State) (threads : ℕ)
    (es : List HeldEntry) (h : Holdings State Op Query Reply) : Type 0 where
  pub logs : AreLogTails es h.logs
  pub places : AreHeldNodes es h.places
  pub room : length h.places ≤ greatest_place threads
  pub held : h.held ≡ length es
  pub applied : StandsAfter b start (covered threads es) h.applied
  pub clean : node_fault b threads es ≡ None

-- an entry isn't held, and the nodes below the one that isn't followed are
pub record StopsAtNode {State Op Query Reply : Type 0} (b : Behaviour State Op Query Reply) (start : State) (threads : ℕ)
    (es : List HeldEntry) (e : HeldEntry) (f : FeedFault) (h : Holdings State Op Query Reply) : Type 0 where
  pub fault : node_fault b threads (es ++ e ∷ []) ≡ Some f
  pub held : h.held ≡ length es
  pub applied : StandsAfter b start (nodes_followed b threads (es ++ e ∷ [])) h.applied

abbrev pub HasAdmitted : {State Op Query Reply : Type 0} → Behaviour State Op Query Reply → State → ℕ
    → List HeldEntry → HeldEntry → Result (Unit {0}) FeedFault → Holdings State Op Query Reply → Type 0
HasAdmitted b start threads es e result h =
    MatchResult result (λ _. KeepsEntries b start threads (es ++ e ∷ []) h) (λ f. StopsAtNode b start threads es e f h)
