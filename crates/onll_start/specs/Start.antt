-- What images give to scripts that go on from them, or the first reason why they give nothing.
use Rattle.std.specs.Prelude.{ℕ, ◌+◌, ◌*◌, ◌==◌, ◌||◌, max, nat_lt, if◌then◌else◌, Bool, false, List, [], ◌∷◌, length, map, count_by, Option, Some, None, Result, Ok, Err}
use Rattle.onll_model.specs.Limits.{most_threads, most_updates}
use Rattle.onll_model.specs.declared.call.Call.{Call}
use Rattle.onll_model.specs.declared.node.Node.{Node}
use Rattle.onll_model.specs.Object.{Behaviour}
use Rattle.onll_model.specs.Trace.{is_of_thread}
use Rattle.onll_model.specs.Calls.{updates_in}
use Rattle.onll_model.specs.Recovered.{operations_front}
use Rattle.onll_log.specs.declared.head.LogHead.{LogHead}
use Rattle.onll_log.specs.Grammar.{Content}
use Rattle.onll_merge.specs.declared.counts.LogCounts.{LogCounts}
use Rattle.onll_merge.specs.declared.fault.RecoverFault.{RecoverFault}
use Rattle.onll_merge.specs.declared.fault.ImagesFault.{ImagesFault}
use Rattle.onll_merge.specs.declared.fault.ImagesFault.TheVariants.{Recover}
use Rattle.onll_merge.specs.Merge.{merge, unless}
use Rattle.onll_merge.specs.Recovered.{contents_from, log_counts}
use Rattle.onll_start.specs.declared.fault.ResumeFault.{ResumeFault}
use Rattle.onll_start.specs.declared.fault.ResumeFault.TheVariants.{Images, OldFormat, NotOp, TooMany}

-- ---- what images give
-- their logs, and the nodes of the trace, each of which is an operation's
pub record Found : Type 0 where
  pub logs : List Content
  pub nodes : List Node

abbrev pub is_old : Option LogHead → Bool
is_old None = false
is_old (Some head) = head.format == 1

-- the first of these logs, numbered from i, whose head is of format 1
abbrev pub old_format : ℕ → List Content → Option ResumeFault
old_format i [] = None
old_format i (c ∷ cs) = if is_old c.head then Some (OldFormat i) else old_format (i + 1) cs

module _ {State Op Query Reply : Type 0} (b : Behaviour State Op Query Reply) (heads : List LogHead) where
  -- the rows are read as operations after all else; the first that is none is the fault
  abbrev pub found_operations : List Content → List Node → Result Found ResumeFault
  found_operations logs nodes =
      if length (operations_front b nodes) == length nodes
      then Ok (record { logs = logs; nodes = nodes })
      else Err (NotOp (length (operations_front b nodes) + 1))

  abbrev pub found_merged : List Content → Result (List Node) RecoverFault → Result Found ResumeFault
  found_merged logs (Ok nodes) = found_operations logs nodes
  found_merged logs (Err fault) = Err (Images (Recover fault))

  -- logs of an old format are refused before they are merged
  abbrev pub found_newer : List Content → Option ResumeFault → Result Found ResumeFault
  found_newer logs None = found_merged logs (merge heads logs)
  found_newer logs (Some fault) = Err fault

  abbrev pub found_logs : Result (List Content) ImagesFault → Result Found ResumeFault
  found_logs (Ok logs) = found_newer logs (old_format 0 logs)
  found_logs (Err fault) = Err (Images fault)

  -- what images give as the logs of one run with these heads
  abbrev pub found_in : List (List (List ℕ)) → Result Found ResumeFault
  found_in images = found_logs (contents_from 0 images)

-- ---- room
-- how many lines a log takes: its head, and a whole entry of each update
abbrev pub lines_for : ℕ → ℕ → ℕ
lines_for updates threads = 1 + updates * (threads + 1)

-- the most lines of a log: its head's, and those of a whole entry of each update, with as many threads as there can be
abbrev pub most_lines : ℕ
most_lines = lines_for most_updates most_threads

-- a thread of this many has, with those of its recovered nodes, more updates than names, or its log has, with a whole entry of
-- each update to come, more lines than a log can have; a log that is still to be begun has its head's line
abbrev pub is_too_many : ℕ → ℕ → ℕ → ℕ → Bool
is_too_many threads recovered lines updates =
    nat_lt most_updates (recovered + updates) || nat_lt most_lines (max 1 lines + updates * (threads + 1))

-- the first such thread, from thread t on
abbrev pub too_many : {State Op Query Reply : Type 0} → ℕ → List Node → ℕ → List LogCounts → List (List (Call State Op Query Reply))
    → Option ResumeFault
too_many threads nodes t (log ∷ logs) (script ∷ scripts) =
    if is_too_many threads (count_by (is_of_thread t) nodes) log.lines (updates_in script)
    then Some (TooMany t)
    else too_many threads nodes (t + 1) logs scripts
too_many threads nodes t logs scripts = None

module _ {State Op Query Reply : Type 0} (b : Behaviour State Op Query Reply) (heads : List LogHead)
    (scripts : List (List (Call State Op Query Reply))) where
  -- what was found, unless a thread has no room for its script
  abbrev pub with_room : Result Found ResumeFault → Result Found ResumeFault
  with_room (Ok found) = unless (too_many (length heads) found.nodes 0 (map log_counts found.logs) scripts) found
  with_room (Err fault) = Err fault

  -- what images give to scripts that go on from them, or the first reason why they can't
  abbrev pub base_in : List (List (List ℕ)) → Result Found ResumeFault
  base_in images = with_room (found_in b heads images)
