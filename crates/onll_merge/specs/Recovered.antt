-- What recovery makes of the images of one run, which are lists of lines.
use Rattle.std.specs.Prelude.{ℕ, ◌+◌, ◌==◌, if◌then◌else◌, List, [], ◌∷◌, length, map, Option, Some, None, Result, Ok, Err}
use Rattle.std.specs.Option.{is_some}
use Rattle.onll_model.specs.declared.node.Node.{Node}
use Rattle.onll_model.specs.Object.{Behaviour}
use Rattle.onll_model.specs.Recovered.{operations_front}
use Rattle.onll_model.specs.Trace.{state_after}
use Rattle.onll_log.specs.declared.head.LogHead.{LogHead}
use Rattle.onll_log.specs.Head.{head_for}
use Rattle.onll_log.specs.Grammar.{Content, content_of, format_in, used_by}
use Rattle.onll_merge.specs.declared.fault.RecoverFault.{RecoverFault}
use Rattle.onll_merge.specs.declared.fault.ImagesFault.{ImagesFault}
use Rattle.onll_merge.specs.declared.fault.ImagesFault.TheVariants.{NotLog, Recover}
use Rattle.onll_merge.specs.declared.fault.StateFault.{StateFault}
use Rattle.onll_merge.specs.declared.fault.StateFault.TheVariants.{NotOperation, NoMemory}
use Rattle.onll_merge.specs.Faults.{state_fault}
use Rattle.onll_merge.specs.declared.counts.LogCounts.{LogCounts}
use Rattle.onll_merge.specs.declared.recovery.Recovery.{Recovery}
use Rattle.onll_merge.specs.Merge.{merge}

-- ---- logs and nodes
-- a log before those that follow; the first that is no log is the fault
abbrev pub content_before : ℕ → Option Content → Result (List Content) ImagesFault → Result (List Content) ImagesFault
content_before i None rest = Err (NotLog i)
content_before i (Some content) (Ok contents) = Ok (content ∷ contents)
content_before i (Some content) (Err fault) = Err fault

-- what the images from number i on hold, or the first that is no log
abbrev pub contents_from : ℕ → List (List (List ℕ)) → Result (List Content) ImagesFault
contents_from i [] = Ok []
contents_from i (image ∷ images) = content_before i (content_of image) (contents_from (i + 1) images)

-- how much a log holds: whether there is a head, how many entries, and how many lines are used
abbrev pub log_counts : Content → LogCounts
log_counts c = record { head = is_some c.head; entries = length c.entries; lines = used_by c }

-- what images give: how much each holds, and the nodes of the trace
pub record Recovered : Type 0 where
  pub logs : List LogCounts
  pub nodes : List Node

-- these logs hold these nodes
abbrev pub recovered_with : List Content → List Node → Recovered
recovered_with logs nodes = record { logs = map log_counts logs; nodes = nodes }

abbrev pub with_logs : List Content → Result (List Node) RecoverFault → Result Recovered ImagesFault
with_logs logs (Ok nodes) = Ok (recovered_with logs nodes)
with_logs logs (Err fault) = Err (Recover fault)

abbrev pub merged : List LogHead → Result (List Content) ImagesFault → Result Recovered ImagesFault
merged heads (Ok logs) = with_logs logs (merge heads logs)
merged heads (Err fault) = Err fault

-- the images are decoded in order, then the logs are merged
abbrev pub recovered_from : List LogHead → List (List (List ℕ)) → Result Recovered ImagesFault
recovered_from heads images = merged heads (contents_from 0 images)

abbrev pub recovered_in : Recovery → Recovered
recovered_in r = record { logs = r.logs.items; nodes = r.nodes.items }

-- the nodes of the places 1 to the greatest, or the first refusal: of an image that is no log before all others
abbrev pub nodes_of : Result Recovered ImagesFault → Result (List Node) ImagesFault
nodes_of (Ok r) = Ok r.nodes
nodes_of (Err fault) = Err fault

abbrev pub merge_images : List LogHead → List (List (List ℕ)) → Result (List Node) ImagesFault
merge_images heads images = nodes_of (recovered_from heads images)

-- ---- the heads of a run
-- the heads of the logs of this many threads, from thread i on, each in the format of its image
abbrev pub heads_for : ℕ → List ℕ → ℕ → ℕ → List (List (List ℕ)) → List LogHead
heads_for code init threads i [] = []
heads_for code init threads i (image ∷ images) =
    head_for (format_in image) i threads code init ∷ heads_for code init threads (i + 1) images

-- the heads that the logs of these images have in a run of an object of this code whose initial state these bytes say
abbrev pub expected_heads : ℕ → List ℕ → List (List (List ℕ)) → List LogHead
expected_heads code init images = heads_for code init (length images) 0 images

-- ---- a state

-- the rows are read as operations after all else; the first that is none is the fault
abbrev pub with_operations : {State Op Query Reply : Type 0} → Behaviour State Op Query Reply
    → Result Recovered ImagesFault → Result Recovered StateFault
with_operations b (Ok r) = if length (operations_front b r.nodes) == length r.nodes then Ok r else Err
    (NotOperation (length (operations_front b r.nodes) + 1))
with_operations b (Err fault) = Err (state_fault fault)

-- what images give over an object as the logs of one run with these heads
abbrev pub state_recovered : {State Op Query Reply : Type 0} → Behaviour State Op Query Reply → List LogHead
    → List (List (List ℕ)) → Result Recovered StateFault
state_recovered b heads images = with_operations b (recovered_from heads images)

-- the nodes whose operations are applied where a state is asked for: those before the first whose row is none; where images give
-- no nodes there are none
abbrev pub applied_nodes : {State Op Query Reply : Type 0} → Behaviour State Op Query Reply → Result Recovered ImagesFault → List Node
applied_nodes b (Ok r) = operations_front b r.nodes
applied_nodes b (Err fault) = []

-- the object that a refusal leaves: with these operations applied, and as it was where memory ran out
abbrev pub state_left : {State Op Query Reply : Type 0} → Behaviour State Op Query Reply → Result Recovered ImagesFault → State
    → StateFault → State
state_left b recovered s NoMemory = s
state_left b recovered s fault = state_after b s (applied_nodes b recovered)
