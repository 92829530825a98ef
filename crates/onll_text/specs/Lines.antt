-- The lines of a report, each as its words.

use Rattle.std.specs.Prelude.{ℕ, Bool, true, false, List, [], ◌∷◌, ◌++◌, ◌+◌, Option, Some, None, codes, decimal}
use Rattle.onll_model.specs.declared.node.Node.{Node}
use Rattle.onll_model.specs.declared.call.Call.{Call}
use Rattle.onll_model.specs.declared.call.Call.TheVariants.{Update, Ask}
use Rattle.onll_model.specs.declared.call.CallEnd.{CallEnd}
use Rattle.onll_model.specs.declared.call.CallEnd.TheVariants.{Answered, Running, Ordered, FenceFailed, Broken}
use Rattle.onll_model.specs.Object.{Behaviour}
use Rattle.onll_text.specs.Wording.{Wording}

abbrev pub at_words : ℕ → List (List ℕ)
at_words place = codes "at" ∷ decimal place ∷ []

abbrev pub trace_line : ℕ → List (List ℕ)
trace_line count = codes "trace" ∷ decimal count ∷ []

abbrev pub flag_words : Option Bool → List (List ℕ)
flag_words None = []
flag_words (Some true) = codes "set" ∷ []
flag_words (Some false) = codes "unset" ∷ []

module _ {State Op Query Reply : Type 0} (w : Wording State Op Query Reply) where
  abbrev pub call_words : Call State Op Query Reply → List (List ℕ)
  call_words (Update op) = w.op_words op
  call_words (Ask query) = w.query_words query

  -- what became of a call
  abbrev pub end_words : CallEnd State Op Query Reply → List (List ℕ)
  end_words (Answered reply place) = w.reply_words reply ++ at_words place
  end_words Running = codes "running" ∷ []
  end_words (Ordered place) = codes "ordered" ∷ at_words place
  end_words (FenceFailed place) = codes "fence" ∷ codes "failed" ∷ at_words place
  end_words (Broken place) = codes "broken" ∷ at_words place

  -- call number k of a thread: `call T K CALL -> ..`
  abbrev pub call_line : ℕ → ℕ → Call State Op Query Reply → CallEnd State Op Query Reply → List (List ℕ)
  call_line thread number call end =
      codes "call" ∷ decimal thread ∷ decimal number ∷ (call_words call ++ codes "->" ∷ end_words end)

  -- the line of each outcome, the first of them of call number k + 1
  abbrev pub call_lines : ℕ → ℕ → List (Call State Op Query Reply) → List (CallEnd State Op Query Reply) → List (List (List ℕ))
  call_lines thread k calls [] = []
  call_lines thread k [] ends = []
  call_lines thread k (c ∷ calls) (e ∷ ends) = call_line thread (k + 1) c e ∷ call_lines thread (k + 1) calls ends

  -- the lines of the calls of each thread, from thread t on
  abbrev pub thread_lines : ℕ → List (List (Call State Op Query Reply)) → List (List (CallEnd State Op Query Reply))
      → List (List (List ℕ))
  thread_lines t (script ∷ scripts) (ends ∷ more) = call_lines t 0 script ends ++ thread_lines (t + 1) scripts more
  thread_lines t scripts ends = []

  -- the words of a row's operation; a row of no operation has none
  abbrev pub row_words : Option Op → List (List ℕ)
  row_words None = []
  row_words (Some op) = w.op_words op

  -- the line `state`, and the state
  abbrev pub state_lines : State → List (List (List ℕ))
  state_lines state = (codes "state" ∷ []) ∷ w.state_lines state

module _ {State Op Query Reply : Type 0} (b : Behaviour State Op Query Reply) (w : Wording State Op Query Reply) where
  -- the node at a place, with its flag where there is one: `node P T N CALL`
  abbrev pub node_line : ℕ → Node → Option Bool → List (List ℕ)
  node_line place node flag =
      codes "node" ∷ decimal place ∷ decimal node.thread ∷ decimal node.number ∷ (flag_words flag ++ row_words w (b.op_at node.row))

  -- the line of each node, the first of them at place p + 1, without flags
  abbrev pub node_lines : ℕ → List Node → List (List (List ℕ))
  node_lines p [] = []
  node_lines p (n ∷ nodes) = node_line (p + 1) n None ∷ node_lines (p + 1) nodes

  -- the line of each node with its flag, the first of them at place p + 1
  abbrev pub flagged_lines : ℕ → List Node → List Bool → List (List (List ℕ))
  flagged_lines p (n ∷ nodes) (flag ∷ flags) = node_line (p + 1) n (Some flag) ∷ flagged_lines (p + 1) nodes flags
  flagged_lines p nodes flags = []

-- the entries, lines and fences of a thread's log
abbrev pub fence_words : Option ℕ → List (List ℕ)
fence_words None = []
fence_words (Some fences) = codes "fences" ∷ decimal fences ∷ []

abbrev pub log_line : ℕ → ℕ → ℕ → Option ℕ → List (List ℕ)
log_line thread entries lines fences =
    codes "log" ∷ decimal thread ∷ codes "entries" ∷ decimal entries ∷ codes "lines" ∷ decimal lines ∷ fence_words fences

-- what is said of a log: its entries, its lines, and the fences of its device since it was opened
pub record LogData : Type 0 where
  pub entries : ℕ
  pub lines : ℕ
  pub fences : ℕ

-- the line of each log, from thread t on
abbrev pub counted_lines : ℕ → List LogData → List (List (List ℕ))
counted_lines t [] = []
counted_lines t (log ∷ logs) = log_line t log.entries log.lines (Some log.fences) ∷ counted_lines (t + 1) logs

-- how many nodes are recovered from the logs
abbrev pub recovered_line : ℕ → List (List ℕ)
recovered_line nodes = codes "recovered" ∷ decimal nodes ∷ []

-- the line of a fence that failed: of a thread's update at this place, or of its header at place 0
abbrev pub fence_line : ℕ → ℕ → List (List ℕ)
fence_line thread place = codes "fault" ∷ codes "thread" ∷ decimal thread ∷ codes "place" ∷ decimal place ∷ []
