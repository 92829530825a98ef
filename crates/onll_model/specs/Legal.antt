use Rattle.std.specs.Prelude.{ℕ, List, [], ◌∷◌, ◌++◌, ◌≡◌, ◌+◌, ◌-◌, ◌<◌, ◌≤◌, Option, Some, None, if◌then◌else◌, length, take, drop, IfSome}
use Rattle.std.specs.List.{AllByRecursion}
use Rattle.onll_words.specs.declared.line.OpRow.{OpRow}
use Rattle.onll_model.specs.declared.node.Node.{Node}
use Rattle.onll_model.specs.declared.call.Call.{Call}
use Rattle.onll_model.specs.declared.call.Call.TheVariants.{Update, Ask}
use Rattle.onll_model.specs.declared.call.CallEnd.{CallEnd}
use Rattle.onll_model.specs.declared.call.CallEnd.TheVariants.{Answered, Running, Ordered, FenceFailed, Broken}
use Rattle.onll_model.specs.Object.{Behaviour}
use Rattle.onll_model.specs.Trace.{is_of_thread, reply_after, answer_after, IsNumbered}

-- A report has, for each thread, the outcomes of the first calls of its script, and the trace. The trace begins
-- with a base: the nodes recovered from an earlier run, none in a run that begins anew.

-- the place in the trace that an outcome gives an update; a broken one has none
abbrev pub place_in : {State Op Query Reply : Type 0} → CallEnd State Op Query Reply → Option ℕ
place_in (Answered reply place) = Some place
place_in Running = None
place_in (Ordered place) = Some place
place_in (FenceFailed place) = Some place
place_in (Broken place) = None

abbrev pub at_place : OpRow → Option ℕ → List (OpRow × ℕ)
at_place row None = []
at_place row (Some place) = (row, place) ∷ []

-- a thread's updates that have a place, in script order: their rows and places
abbrev pub placed_updates : {State Op Query Reply : Type 0} → Behaviour State Op Query Reply
    → List (Call State Op Query Reply) → List (CallEnd State Op Query Reply) → List (OpRow × ℕ)
placed_updates b [] ends = []
placed_updates b (c ∷ calls) [] = []
placed_updates b (Update op ∷ calls) (e ∷ ends) = at_place (b.row_of op) (place_in e) ++ placed_updates b calls ends
placed_updates b (Ask query ∷ calls) (e ∷ ends) = placed_updates b calls ends

-- the rows and places of a thread's nodes, where the first node of the list stands above this place
abbrev pub placed_rows : ℕ → ℕ → List Node → List (OpRow × ℕ)
placed_rows t below [] = []
placed_rows t below (n ∷ nodes) = (if is_of_thread t n then (n.row, below + 1) ∷ [] else []) ++ placed_rows t (below + 1) nodes

-- each outcome belongs to a call, and has this fact with it
abbrev pub EachEnd : {State Op Query Reply : Type 0}
    → (Call State Op Query Reply → CallEnd State Op Query Reply → Type 0) → List (Call State Op Query Reply)
    → List (CallEnd State Op Query Reply) → Type 0
EachEnd P calls [] = Unit {0}
EachEnd P [] (e ∷ ends) = ⊥
EachEnd P (c ∷ calls) (e ∷ ends) = P c e × EachEnd P calls ends

-- each outcome has this fact with each later one
abbrev pub EachLaterEnd : {State Op Query Reply : Type 0}
    → (Call State Op Query Reply → CallEnd State Op Query Reply → Call State Op Query Reply
    → CallEnd State Op Query Reply → Type 0) → List (Call State Op Query Reply) → List (CallEnd State Op Query Reply)
    → Type 0
EachLaterEnd R calls [] = Unit {0}
EachLaterEnd R [] (e ∷ ends) = ⊥
EachLaterEnd R (c ∷ calls) (e ∷ ends) = EachEnd (R c e) calls ends × EachLaterEnd R calls ends

-- an answered update has the object's reply after the nodes below its place
abbrev pub HasReply : {State Op Query Reply : Type 0} → Behaviour State Op Query Reply → State → List Node
    → Call State Op Query Reply → CallEnd State Op Query Reply → Type 0
HasReply b s trace (Update op) (Answered reply place) = reply ≡ reply_after b s (take (place - 1) trace) op
HasReply b s trace c e = Unit {0}

-- an answered read has the object's answer after the nodes up to its place, which is at least that of the base
abbrev pub HasAnswer : {State Op Query Reply : Type 0} → Behaviour State Op Query Reply → State → ℕ → List Node
    → Call State Op Query Reply → CallEnd State Op Query Reply → Type 0
HasAnswer b s base trace (Ask query) (Answered reply place) =
    (base ≤ place) × (place ≤ length trace) × (reply ≡ answer_after b s (take place trace) query)
HasAnswer b s base trace c e = Unit {0}

-- a read is answered at or after each earlier answered call of its thread, and below each later update that has a place
abbrev pub InOrder : {State Op Query Reply : Type 0} → Call State Op Query Reply → CallEnd State Op Query Reply
    → Call State Op Query Reply → CallEnd State Op Query Reply → Type 0
InOrder c (Answered reply place) (Ask query) (Answered later_reply later_place) = place ≤ later_place
InOrder (Ask query) (Answered reply place) (Update op) e = IfSome (place_in e) (λ later_place. place < later_place)
InOrder c e d f = Unit {0}

-- After an update whose fence failed each later update is broken by it, and nothing else is broken; the argument is
-- the place of the failed update, once there is one. Only updates have a failed fence or are ordered.
abbrev pub BrokenAfterFailure : {State Op Query Reply : Type 0} → Option ℕ → List (Call State Op Query Reply)
    → List (CallEnd State Op Query Reply) → Type 0
BrokenAfterFailure failed calls [] = Unit {0}
BrokenAfterFailure failed [] (e ∷ ends) = ⊥
BrokenAfterFailure None (Update op ∷ calls) (Answered reply place ∷ ends) = BrokenAfterFailure None calls ends
BrokenAfterFailure None (Update op ∷ calls) (Running ∷ ends) = BrokenAfterFailure None calls ends
BrokenAfterFailure None (Update op ∷ calls) (Ordered place ∷ ends) = BrokenAfterFailure None calls ends
BrokenAfterFailure None (Update op ∷ calls) (FenceFailed place ∷ ends) = BrokenAfterFailure (Some place) calls ends
BrokenAfterFailure (Some failed) (Update op ∷ calls) (Broken place ∷ ends) = (place ≡ failed) × BrokenAfterFailure (Some failed) calls ends
BrokenAfterFailure failed (Ask query ∷ calls) (Answered reply place ∷ ends) = BrokenAfterFailure failed calls ends
BrokenAfterFailure failed (Ask query ∷ calls) (Running ∷ ends) = BrokenAfterFailure failed calls ends
BrokenAfterFailure failed calls ends = ⊥

-- the call is over
abbrev pub IsOver : {State Op Query Reply : Type 0} → CallEnd State Op Query Reply → Type 0
IsOver (Answered reply place) = Unit {0}
IsOver Running = ⊥
IsOver (Ordered place) = ⊥
IsOver (FenceFailed place) = Unit {0}
IsOver (Broken place) = Unit {0}

-- running and ordered stand only last
abbrev pub OverButLast : {State Op Query Reply : Type 0} → List (CallEnd State Op Query Reply) → Type 0
OverButLast [] = Unit {0}
OverButLast (e ∷ []) = Unit {0}
OverButLast (e ∷ f ∷ ends) = IsOver e × OverButLast (f ∷ ends)

-- the outcomes of one thread are legal over the trace
pub record IsLegalThread {State Op Query Reply : Type 0} (b : Behaviour State Op Query Reply) (s : State) (base : ℕ)
    (trace : List Node) (t : ℕ) (calls : List (Call State Op Query Reply))
    (ends : List (CallEnd State Op Query Reply)) : Type 0 where
  pub places : placed_updates b calls ends ≡ placed_rows t base (drop base trace)
  pub replies : EachEnd (HasReply b s trace) calls ends
  pub answers : EachEnd (HasAnswer b s base trace) calls ends
  pub reads_in_order : EachLaterEnd InOrder calls ends
  pub broken : BrokenAfterFailure None calls ends
  pub over : OverButLast ends

-- each thread's outcomes are legal, the first list being that of thread t
abbrev pub AreLegalThreads : {State Op Query Reply : Type 0} → Behaviour State Op Query Reply → State → ℕ → List Node
    → ℕ → List (List (Call State Op Query Reply)) → List (List (CallEnd State Op Query Reply)) → Type 0
AreLegalThreads b s base trace t [] [] = Unit {0}
AreLegalThreads b s base trace t [] (ends ∷ rest) = ⊥
AreLegalThreads b s base trace t (calls ∷ scripts) [] = ⊥
AreLegalThreads b s base trace t (calls ∷ scripts) (ends ∷ rest) =
    IsLegalThread b s base trace t calls ends × AreLegalThreads b s base trace (t + 1) scripts rest

-- The report is one legal history of the object from the state s: the trace begins with the base, is numbered and of
-- the scripts' threads; each thread's outcomes are those of its calls at their places.
pub record IsLegal {State Op Query Reply : Type 0} (b : Behaviour State Op Query Reply) (s : State) (base : List Node)
    (scripts : List (List (Call State Op Query Reply))) (trace : List Node)
    (ends : List (List (CallEnd State Op Query Reply))) : Type 0 where
  pub begins : take (length base) trace ≡ base
  pub numbered : IsNumbered trace
  pub threads : AllByRecursion (λ n. n.thread < length scripts) trace
  pub outcomes : AreLegalThreads b s (length base) trace 0 scripts ends
