use Rattle.std.specs.Prelude.{ℕ, Bool, true, false, List, [], ◌∷◌, ◌++◌, ◌≡◌, length, drop, map, Option, Some, None, slice_get}
use Rattle.std.specs.Option.{option_or, option_to_list}
use Rattle.onll_model.specs.declared.node.Node.{Node}
use Rattle.onll_model.specs.declared.call.Call.{Call}
use Rattle.onll_model.specs.declared.call.Call.TheVariants.{Update, Ask}
use Rattle.onll_model.specs.declared.call.CallEnd.{CallEnd}
use Rattle.onll_model.specs.declared.call.CallEnd.TheVariants as ends
use Rattle.onll_model.specs.Calls.{updates_in}
use Rattle.onll_model.specs.Legal.{place_in}
use Rattle.onll_locked.specs.declared.ends.LockedEnd.{LockedEnd}
use Rattle.onll_locked.specs.declared.ends.LockedEnd.TheVariants.{Answered, FenceFailed, Broken}

-- The state of the object under one lock, as plain data.

-- one thread: its script, and what became of its first calls
pub record LockedThread (State Op Query Reply : Type 0) : Type 0 where
  pub script : List (Call State Op Query Reply)
  pub ends : List (LockedEnd State Op Query Reply)

-- the object's initial state, the trace, the flag of each node, and the threads
pub record LockedState (State Op Query Reply : Type 0) : Type 0 where
  pub initial : State
  pub trace : List Node
  pub flags : List Bool
  pub threads : List (LockedThread State Op Query Reply)

-- before any call
abbrev pub first_thread : {State Op Query Reply : Type 0} → List (Call State Op Query Reply) → LockedThread State Op Query Reply
first_thread script = record { script = script; ends = [] }

abbrev pub first_state : {State Op Query Reply : Type 0} → State → List (List (Call State Op Query Reply))
    → LockedState State Op Query Reply
first_state initial scripts = record { initial = initial; trace = []; flags = []; threads = map first_thread scripts }

-- an outcome, as a report says it
abbrev pub end_of : {State Op Query Reply : Type 0} → LockedEnd State Op Query Reply → CallEnd State Op Query Reply
end_of (Answered place reply) = ends.Answered reply place
end_of (FenceFailed place) = ends.FenceFailed place
end_of (Broken place) = ends.Broken place

abbrev pub ends_of : {State Op Query Reply : Type 0} → LockedThread State Op Query Reply → List (CallEnd State Op Query Reply)
ends_of th = map end_of th.ends

abbrev pub script_of : {State Op Query Reply : Type 0} → LockedThread State Op Query Reply → List (Call State Op Query Reply)
script_of th = th.script

-- the call that comes next, none at the script's end
abbrev pub next_call : {State Op Query Reply : Type 0} → LockedThread State Op Query Reply → Option (Call State Op Query Reply)
next_call th = slice_get th.script (length th.ends)

-- that call is an update
abbrev pub IsUpdate : {State Op Query Reply : Type 0} → Option (Call State Op Query Reply) → Type 0
IsUpdate None = ⊥
IsUpdate (Some (Update op)) = Unit {0}
IsUpdate (Some (Ask query)) = ⊥

-- the place of an update whose fence failed
abbrev pub failed_in : {State Op Query Reply : Type 0} → LockedEnd State Op Query Reply → Option ℕ
failed_in (Answered place reply) = None
failed_in (FenceFailed place) = Some place
failed_in (Broken place) = None

-- the place of the first of these
abbrev pub failed_at : {State Op Query Reply : Type 0} → List (LockedEnd State Op Query Reply) → Option ℕ
failed_at [] = None
failed_at (e ∷ ends) = option_or (failed_in e) (failed_at ends)

-- the place that an outcome gives to an update
abbrev pub places_of : {State Op Query Reply : Type 0} → Call State Op Query Reply → LockedEnd State Op Query Reply → List ℕ
places_of (Update op) e = option_to_list (place_in (end_of e))
places_of (Ask query) e = []

-- the places of a thread's updates that have one, in the script's order
abbrev pub places_in : {State Op Query Reply : Type 0} → List (Call State Op Query Reply) → List (LockedEnd State Op Query Reply) → List ℕ
places_in [] ends = []
places_in (c ∷ calls) [] = []
places_in (c ∷ calls) (e ∷ ends) = places_of c e ++ places_in calls ends

abbrev pub own_places : {State Op Query Reply : Type 0} → LockedThread State Op Query Reply → List ℕ
own_places th = places_in th.script th.ends

-- a call that ends so has no node
abbrev pub HasNoNode : {State Op Query Reply : Type 0} → Option (Call State Op Query Reply) → LockedEnd State Op Query Reply → Type 0
HasNoNode None e = ⊥
HasNoNode (Some c) e = (places_of c e ≡ []) × (failed_in e ≡ None)

-- and one that ends so has one
abbrev pub EndHasNode : {State Op Query Reply : Type 0} → Option (Call State Op Query Reply) → LockedEnd State Op Query Reply → Type 0
EndHasNode None e = ⊥
EndHasNode (Some c) e = length (places_of c e) ≡ 1

-- what becomes of an update that has a node, by whether its fence succeeded
abbrev pub update_end : {State Op Query Reply : Type 0} → ℕ → Reply → Bool → LockedEnd State Op Query Reply
update_end place reply true = Answered place reply
update_end place reply false = FenceFailed place

-- the last number of a list, this one where there is none
abbrev pub last_in : ℕ → List ℕ → ℕ
last_in d [] = d
last_in d (x ∷ xs) = last_in x xs

-- how many updates of the script are left
abbrev pub updates_left : {State Op Query Reply : Type 0} → LockedThread State Op Query Reply → ℕ
updates_left th = updates_in (drop (length th.ends) th.script)
