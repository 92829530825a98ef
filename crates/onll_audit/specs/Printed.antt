-- What a run of scripts on threads says, line by line, and that it is judged legal.

use Rattle.std.specs.Prelude.{ℕ, ◌≡◌, ◌+◌, ◌*◌, ◌<◌, ◌≤◌, ◌^◌, Bool, List, [], ◌∷◌, ◌++◌, Ok, length}
use Rattle.std.specs.List.{All, AllByRecursion, flat_map}
use Rattle.onll_words.specs.Texts.{line_text}
use Rattle.onll_model.specs.Limits.{most_threads, most_updates}
use Rattle.onll_model.specs.declared.node.Node.{Node}
use Rattle.onll_model.specs.declared.call.Call.{Call}
use Rattle.onll_model.specs.declared.call.CallEnd.{CallEnd}
use Rattle.onll_model.specs.Calls.{updates_in, reads_in}
use Rattle.onll_model.specs.Object.{Behaviour}
use Rattle.onll_model.specs.Trace.{state_after}
use Rattle.onll_model.specs.Legal.{IsOver, IsLegal}
use Rattle.onll_text.specs.Script.{most_calls}
use Rattle.onll_text.specs.Wording.{Wording}
use Rattle.onll_text.specs.Lines.{LogData, thread_lines, trace_line, flagged_lines, counted_lines, recovered_line, fence_line, state_lines}
use Rattle.onll_text.specs.Reports.{CallReads, NodeReads, LogReads, StateReads, EachReads}
use Rattle.onll_audit.specs.declared.verdict.Verdict.TheVariants.{Legal}
use Rattle.onll_audit.specs.Verdict.{verdict_of}

-- ---- its lines
-- a fence that failed: of which thread, and of its update at which place
pub record FailedFence : Type 0 where
  pub thread : ℕ
  pub place : ℕ

abbrev pub failed_lines : List FailedFence → List (List (List ℕ))
failed_lines [] = []
failed_lines (fault ∷ faults) = fence_line fault.thread fault.place ∷ failed_lines faults

-- What the report says: what became of the calls of each thread, the trace with its flags, the logs, how many nodes are recovered
-- from these, the fences that failed, and the state after the trace.
pub record ReportData (State Op Query Reply : Type 0) : Type 0 where
  pub ends : List (List (CallEnd State Op Query Reply))
  pub nodes : List Node
  pub flags : List Bool
  pub logs : List LogData
  pub recovered : ℕ
  pub faults : List FailedFence
  pub state : State

module _ {State Op Query Reply : Type 0} (b : Behaviour State Op Query Reply) (w : Wording State Op Query Reply)
    (scripts : List (List (Call State Op Query Reply))) (said : ReportData State Op Query Reply) where
  -- the lines of all of it, for these scripts
  abbrev pub report_lines : List (List (List ℕ))
  report_lines = thread_lines w 0 scripts said.ends
      ++ (trace_line (length said.nodes)
      ∷ (flagged_lines b w 0 said.nodes said.flags
      ++ (counted_lines 0 said.logs ++ (recovered_line said.recovered ∷ (failed_lines said.faults ++ state_lines w said.state)))))

  abbrev pub report_text : List ℕ
  report_text = flat_map line_text report_lines

-- ---- what is so of it
-- a script: each of its calls reads back where it is printed, and there are no more of them than one may have
pub record ScriptReads {State Op Query Reply : Type 0} (w : Wording State Op Query Reply) (script : List (Call State Op Query Reply))
    : Type 0 where
  pub calls : All (CallReads w) script
  pub updates : updates_in script ≤ most_calls
  pub reads : reads_in script ≤ most_calls

-- the threads of these fences rise from this one on and are below that count, and their places are numbers of 64 bits
abbrev pub FaultsRise : (least threads : ℕ) → List FailedFence → Type 0
FaultsRise least threads [] = Unit {0}
FaultsRise least threads (fault ∷ faults) =
    (least ≤ fault.thread) × (fault.thread < threads) × (fault.place < 2 ^ 64) × FaultsRise (fault.thread + 1) threads faults

-- all that is said reads back, and there are a flag for each node and a log for each thread
pub record ReportReads {State Op Query Reply : Type 0} (b : Behaviour State Op Query Reply) (w : Wording State Op Query Reply)
    (scripts : List (List (Call State Op Query Reply))) (said : ReportData State Op Query Reply) : Type 0 where
  pub threads : length scripts ≤ most_threads
  pub scripts_read : AllByRecursion (ScriptReads w) scripts
  pub ends : EachReads w scripts said.ends
  pub nodes : All (NodeReads b w) said.nodes
  pub few : length said.nodes < 2 ^ 64
  pub flags : length said.flags ≡ length said.nodes
  pub each_log : length said.logs ≡ length scripts
  pub logs : All LogReads said.logs
  pub recovered : said.recovered < 2 ^ 64
  pub faults : FaultsRise 0 (length scripts) said.faults

-- each call of each thread is over
abbrev pub EachOver : {State Op Query Reply : Type 0} → List (List (CallEnd State Op Query Reply)) → Type 0
EachOver ends = AllByRecursion (λ own. AllByRecursion IsOver own) ends

-- ---- the laws
-- a report of one legal history, each call of which is over, is judged legal
abbrev pub PrintedLaw : {State Op Query Reply : Type 0} → Behaviour State Op Query Reply → Wording State Op Query Reply → Type 0
PrintedLaw {State} {Op} {Query} {Reply} b w =
    (s : State) (scripts : List (List (Call State Op Query Reply))) (said : ReportData State Op Query Reply)
    → ReportReads b w scripts said → EachOver said.ends → IsLegal b s [] scripts said.nodes said.ends
    → said.state ≡ state_after b s said.nodes → verdict_of b w s scripts (report_text b w scripts said) ≡ Ok Legal

-- the greatest length of a report of a run, in bytes
abbrev pub longest_report : ℕ
longest_report = 67108864

-- a report with as many nodes as all threads can have updates is no longer
abbrev pub ReportShortLaw : {State Op Query Reply : Type 0} → Behaviour State Op Query Reply → Wording State Op Query Reply → Type 0
ReportShortLaw {State} {Op} {Query} {Reply} b w =
    (scripts : List (List (Call State Op Query Reply))) (said : ReportData State Op Query Reply) → ReportReads b w scripts said
    → length said.nodes ≤ most_threads * most_updates → StateReads w said.state
    → length (report_text b w scripts said) ≤ longest_report
