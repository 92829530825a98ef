-- What those rely on who use locks, of whatever updates stand in a trace.
use Rattle.std.specs.Prelude.{ℕ, List, [], ◌∷◌, ◌≡◌, ◌+◌, ◌-◌, ◌<◌, ◌≤◌, ◌⊎◌, Some, None, length, take}
use Rattle.onll_model.specs.declared.node.Node.{Node}
use Rattle.onll_model.specs.declared.call.Call.{Call}
use Rattle.onll_model.specs.declared.call.Call.TheVariants.{Update, Ask}
use Rattle.onll_model.specs.declared.call.CallEnd.{CallEnd}
use Rattle.onll_model.specs.declared.call.CallEnd.TheVariants.{Answered, Running, Ordered, FenceFailed, Broken}
use Rattle.onll_model.specs.Object.{Behaviour}
use Rattle.onll_model.specs.Trace.{node_at, reply_after, state_after}
use Rattle.onll_rows.specs.Sketch.{behaviour_of}
use Rattle.onll_locks.specs.declared.locks.Lock.{Lock}
use Rattle.onll_locks.specs.declared.locks.Locks.{Locks}
use Rattle.onll_locks.specs.declared.locks.LockOp.TheVariants.{Acquire, Release}
use Rattle.onll_locks.specs.declared.locks.LockReply.TheVariants as gives
use Rattle.onll_locks.specs.Locks.{held_by, lock_at, locks}

-- ---- what stands in a trace
-- the update at a place of these nodes is this operation, and this is its reply
pub record OpStandsAt {State Op Query Reply : Type 0} (b : Behaviour State Op Query Reply) (first : State) (nodes : List Node) (op : Op)
    (reply : Reply) (place : ℕ) : Type 0 where
  pub node : Node
  pub here : node_at nodes place ≡ Some node
  pub op_is : b.op_at node.row ≡ Some op
  pub reply_is : reply ≡ reply_after b first (take (place - 1) nodes) op

-- an update that was answered stands at its place, with its reply
abbrev pub StandsAnswered : {State Op Query Reply : Type 0} → Behaviour State Op Query Reply → State → List Node
    → Call State Op Query Reply → CallEnd State Op Query Reply → Type 0
StandsAnswered b first nodes (Update op) (Answered reply place) = OpStandsAt b first nodes op reply place
StandsAnswered b first nodes (Update op) Running = Unit {0}
StandsAnswered b first nodes (Update op) (Ordered place) = Unit {0}
StandsAnswered b first nodes (Update op) (FenceFailed place) = Unit {0}
StandsAnswered b first nodes (Update op) (Broken place) = Unit {0}
StandsAnswered b first nodes (Ask query) e = Unit {0}

-- so it is of each call of one thread, and of each thread
abbrev pub StandAll : {State Op Query Reply : Type 0} → Behaviour State Op Query Reply → State → List Node
    → List (Call State Op Query Reply) → List (CallEnd State Op Query Reply) → Type 0
StandAll b first nodes calls [] = Unit {0}
StandAll b first nodes [] (e ∷ ends) = ⊥
StandAll b first nodes (c ∷ calls) (e ∷ ends) = StandsAnswered b first nodes c e × StandAll b first nodes calls ends

abbrev pub EachStands : {State Op Query Reply : Type 0} → Behaviour State Op Query Reply → State → List Node
    → List (List (Call State Op Query Reply)) → List (List (CallEnd State Op Query Reply)) → Type 0
EachStands b first nodes scripts [] = Unit {0}
EachStands b first nodes [] (es ∷ ends) = ⊥
EachStands b first nodes (calls ∷ scripts) (es ∷ ends) = StandAll b first nodes calls es × EachStands b first nodes scripts ends

module _ (first : Locks) (nodes : List Node) where
  -- the lock as it is before the update at a place; what is no lock was never granted
  abbrev pub lock_before : ℕ → ℕ → Lock
  lock_before lock place = lock_at (state_after (behaviour_of locks) first (take (place - 1) nodes)) lock

  -- at this place the lock was granted to the client, with this token
  abbrev pub GrantedAt : (lock client token place : ℕ) → Type 0
  GrantedAt lock client token place = OpStandsAt (behaviour_of locks) first nodes (Acquire lock client) (gives.Granted token) place

  -- between two places the client released the lock that it held with this token
  pub record ReleasedBetween (lock client token low high : ℕ) : Type 0 where
    pub place : ℕ
    pub above : low < place
    pub below : place < high
    pub there : OpStandsAt (behaviour_of locks) first nodes (Release lock client token) gives.Released place

-- ---- laws
-- a lock is granted only where nobody holds it, with the token that comes after its last one
pub record IsGrantOf (before : Lock) (token : ℕ) : Type 0 where
  pub nobody : before.holder ≡ None
  pub token_is : token ≡ before.token + 1

abbrev pub GrantLaw : Type 0
GrantLaw = (first : Locks) (nodes : List Node) (lock client token place : ℕ) → GrantedAt first nodes lock client token place
    → IsGrantOf (lock_before first nodes lock place) token

-- of two grants of one lock the later has the greater token
abbrev pub GrantsRiseLaw : Type 0
GrantsRiseLaw = (first : Locks) (nodes : List Node) (lock c t p d u q : ℕ) → GrantedAt first nodes lock c t p
    → GrantedAt first nodes lock d u q → p < q → t < u

-- who was granted a lock holds it with that token up to any later place, or has released it before
abbrev pub HoldsLaw : Type 0
HoldsLaw = (first : Locks) (nodes : List Node) (lock c t p q : ℕ) → GrantedAt first nodes lock c t p → p < q → q ≤ length nodes + 1
    → (lock_before first nodes lock q ≡ held_by c t) ⊎ ReleasedBetween first nodes lock c t p q

-- no two hold one lock: between two grants of it the first was released
abbrev pub AloneLaw : Type 0
AloneLaw = (first : Locks) (nodes : List Node) (lock c t p d u q : ℕ) → GrantedAt first nodes lock c t p
    → GrantedAt first nodes lock d u q → p < q → ReleasedBetween first nodes lock c t p q
