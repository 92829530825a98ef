-- The bytes of a report determine what it says: two lists of data that read back where they are printed, and are printed by
-- the same bytes, are the same.

use Rattle.std.specs.Prelude.{ℕ, ◌≡◌, ◌≢◌, ◌<◌, ◌≤◌, ◌^◌, List, [], ◌∷◌, ◌++◌, Some, Ok, codes, decimal, length}
use Rattle.std.specs.List.{All, flat_map}
use Rattle.onll_words.specs.Texts.{line_text}
use Rattle.onll_model.specs.declared.node.Node.{Node}
use Rattle.onll_model.specs.declared.call.Call.{Call}
use Rattle.onll_model.specs.declared.call.Call.TheVariants.{Update}
use Rattle.onll_model.specs.declared.call.CallEnd.{CallEnd}
use Rattle.onll_model.specs.declared.call.CallEnd.TheVariants.{Answered, Running, Ordered, FenceFailed, Broken}
use Rattle.onll_model.specs.Object.{Behaviour}
use Rattle.onll_text.specs.Wording.{Wording}
use Rattle.onll_text.specs.Lines.{LogData, call_words, call_lines, trace_line, node_lines, state_lines}

-- ---- data that read back
-- what is printed of a call reads as it
abbrev pub CallReads : {State Op Query Reply : Type 0} → Wording State Op Query Reply → Call State Op Query Reply → Type 0
CallReads w call = w.call_of (call_words w call) ≡ Ok call

-- what became of a call: its reply reads back, and its place is a number of 64 bits
abbrev pub EndReads : {State Op Query Reply : Type 0} → Wording State Op Query Reply → CallEnd State Op Query Reply → Type 0
EndReads w (Answered reply place) = (w.reply_of (w.reply_words reply) ≡ Ok reply) × (place < 2 ^ 64)
EndReads w Running = Unit {0}
EndReads w (Ordered place) = place < 2 ^ 64
EndReads w (FenceFailed place) = place < 2 ^ 64
EndReads w (Broken place) = place < 2 ^ 64

-- the outcomes of a script's first calls, each of which reads back
pub record EndsRead {State Op Query Reply : Type 0} (w : Wording State Op Query Reply)
    (script : List (Call State Op Query Reply)) (ends : List (CallEnd State Op Query Reply)) : Type 0 where
  pub few : length ends ≤ length script
  pub reads : All (EndReads w) ends

-- the outcomes of the first calls of each script read back
abbrev pub EachReads : {State Op Query Reply : Type 0} → Wording State Op Query Reply
    → List (List (Call State Op Query Reply)) → List (List (CallEnd State Op Query Reply)) → Type 0
EachReads w [] [] = Unit {0}
EachReads w (script ∷ scripts) (ends ∷ more) = EndsRead w script ends × EachReads w scripts more
EachReads w scripts ends = ⊥

-- a node: its numbers are of 64 bits, and its row is that of an operation that reads back
pub record NodeReads {State Op Query Reply : Type 0} (b : Behaviour State Op Query Reply)
    (w : Wording State Op Query Reply) (node : Node) : Type 0 where
  pub thread : node.thread < 2 ^ 64
  pub number : node.number < 2 ^ 64
  pub op : Op
  pub row : b.op_at node.row ≡ Some op
  pub reads : w.call_of (w.op_words op) ≡ Ok (Update op)

-- the numbers of a log are of 64 bits
pub record LogReads (log : LogData) : Type 0 where
  pub entries : log.entries < 2 ^ 64
  pub lines : log.lines < 2 ^ 64
  pub fences : log.fences < 2 ^ 64

abbrev pub StateReads : {State Op Query Reply : Type 0} → Wording State Op Query Reply → State → Type 0
StateReads w state = w.state_of (flat_map line_text (w.state_lines state)) ≡ Some state

-- ---- one part of a report after the other
-- the first of these lines is no call's of this thread
abbrev pub NoCallNext : ℕ → List (List (List ℕ)) → Type 0
NoCallNext thread [] = Unit {0}
NoCallNext thread (ws ∷ lines) = (rest : List (List ℕ)) → ws ≢ codes "call" ∷ decimal thread ∷ rest

-- the first of these lines is no node's
abbrev pub NoNodeNext : List (List (List ℕ)) → Type 0
NoNodeNext [] = Unit {0}
NoNodeNext (ws ∷ lines) = (rest : List (List ℕ)) → ws ≢ codes "node" ∷ rest

-- the lines of a thread's calls determine what became of each, whatever other lines follow them
abbrev pub CallsDeterminedLaw : {State Op Query Reply : Type 0} → Wording State Op Query Reply → Type 0
CallsDeterminedLaw {State} {Op} {Query} {Reply} w =
    (thread : ℕ) (script : List (Call State Op Query Reply)) (ends others : List (CallEnd State Op Query Reply))
    (lines more : List (List (List ℕ)))
    → EndsRead w script ends → EndsRead w script others → NoCallNext thread lines → NoCallNext thread more
    → call_lines w thread 0 script ends ++ lines ≡ call_lines w thread 0 script others ++ more → (ends ≡ others) × (lines ≡ more)

-- the lines of nodes determine these
abbrev pub NodesDeterminedLaw : {State Op Query Reply : Type 0} → Behaviour State Op Query Reply → Wording State Op Query Reply → Type 0
NodesDeterminedLaw b w =
    (nodes others : List Node) (lines more : List (List (List ℕ))) → All (NodeReads b w) nodes
    → All (NodeReads b w) others → NoNodeNext lines → NoNodeNext more
    → node_lines b w 0 nodes ++ lines ≡ node_lines b w 0 others ++ more → (nodes ≡ others) × (lines ≡ more)

-- the lines of a state determine it
abbrev pub StateDeterminedLaw : {State Op Query Reply : Type 0} → Wording State Op Query Reply → Type 0
StateDeterminedLaw {State} w =
    (state other : State) → StateReads w state → StateReads w other → state_lines w state ≡ state_lines w other
    → state ≡ other

-- ---- the report of one thread
-- what a report of one thread says: what became of its calls, the trace, and the state
pub record FoldData (State Op Query Reply : Type 0) : Type 0 where
  pub ends : List (CallEnd State Op Query Reply)
  pub nodes : List Node
  pub state : State

-- its lines, for this script
abbrev pub fold_data_lines : {State Op Query Reply : Type 0} → Behaviour State Op Query Reply
    → Wording State Op Query Reply → List (Call State Op Query Reply) → FoldData State Op Query Reply
    → List (List (List ℕ))
fold_data_lines b w script said =
    call_lines w 0 0 script said.ends
    ++ (trace_line (length said.nodes) ∷ (node_lines b w 0 said.nodes ++ state_lines w said.state))

-- all that it says reads back
pub record FoldDataReads {State Op Query Reply : Type 0} (b : Behaviour State Op Query Reply)
    (w : Wording State Op Query Reply) (script : List (Call State Op Query Reply))
    (said : FoldData State Op Query Reply) : Type 0 where
  pub ends : EndsRead w script said.ends
  pub nodes : All (NodeReads b w) said.nodes
  pub state : StateReads w said.state

-- its bytes determine all that it says
abbrev pub FoldDeterminedLaw : {State Op Query Reply : Type 0} → Behaviour State Op Query Reply → Wording State Op Query Reply → Type 0
FoldDeterminedLaw {State} {Op} {Query} {Reply} b w =
    (script : List (Call State Op Query Reply)) (said other : FoldData State Op Query Reply)
    → FoldDataReads b w script said → FoldDataReads b w script other
    → flat_map line_text (fold_data_lines b w script said) ≡ flat_map line_text (fold_data_lines b w script other) → said ≡ other

-- ---- any report
-- of what reads back these bytes say this and nothing else
pub record SaysOnly {Said : Type 0} (lines : Said → List (List (List ℕ))) (Reads : Said → Type 0) (bytes : List ℕ)
    (said : Said) : Type 0 where
  pub printed : bytes ≡ flat_map line_text (lines said)
  pub reads : Reads said
  pub only : (other : Said) → Reads other → bytes ≡ flat_map line_text (lines other) → said ≡ other
