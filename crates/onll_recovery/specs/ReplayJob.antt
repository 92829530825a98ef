-- What `replay INIT SCHEDULE LOGS SCRIPT..` does: it plays a schedule on the step core, crashes it, writes the images, and says
-- the run and what recovery finds. The report is that of any core, also of one that goes on from recovered nodes.

use Rattle.std.specs.Prelude.{ℕ, ◌≡◌, ◌<◌, ◌≤◌, ◌^◌, ◌+◌, Bool, List, [], ◌∷◌, ◌++◌, Option, Some, None, Result, Ok, Err, codes, decimal, length, map}
use Rattle.std.specs.List.{All, flat_map}
use Rattle.std.specs.Option.{IfSome}
use Rattle.onll_words.specs.Texts.{line_text}
use Rattle.onll_model.specs.declared.node.Node.{Node}
use Rattle.onll_model.specs.declared.call.Call.{Call}
use Rattle.onll_model.specs.declared.call.CallEnd.{CallEnd}
use Rattle.onll_model.specs.declared.turn.Turn.{Turn}
use Rattle.onll_model.specs.Object.{Behaviour}
use Rattle.onll_model.specs.Trace.{state_after}
use Rattle.onll_core.specs.Core.{CoreThread, CoreState}
use Rattle.onll_core.specs.Step.{steps_of}
use Rattle.onll_core.specs.Turns.{turns_of}
use Rattle.onll_core.specs.Created.{created_core}
use Rattle.onll_core.specs.Fences.{fences_of}
use Rattle.onll_core.specs.Outcomes.{ends_of}
use Rattle.onll_core.specs.Crash.{heads_of, images_of}
use Rattle.onll_text.specs.declared.schedule.Schedule.{Schedule}
use Rattle.onll_text.specs.Kinds.{ObjectKind}
use Rattle.onll_text.specs.Wording.{Wording}
use Rattle.onll_text.specs.Lines.{LogData, call_lines, thread_lines, trace_line, flagged_lines, log_line, counted_lines, recovered_line, state_lines}
use Rattle.onll_text.specs.Schedule.{schedule_of}
use Rattle.onll_text.specs.Reports.{EachReads, NodeReads, LogReads, StateReads, SaysOnly}
use Rattle.onll_task.specs.declared.ending.Ending.TheVariants.{BadLog}
use Rattle.onll_merge.specs.declared.fault.StateFault.{StateFault}
use Rattle.onll_task.specs.Doing.{Task, after_stage, report_task, say_task, text_stage}
use Rattle.onll_task.specs.Images.{writing_stage}
use Rattle.onll_task.specs.Faults.{fault_line}
use Rattle.onll_merge.specs.declared.counts.LogCounts.{LogCounts}
use Rattle.onll_merge.specs.Recovered.{Recovered, state_recovered}
use Rattle.onll_task.specs.Scripts.{scripts_stage}
use Rattle.onll_task.specs.RunSaid.{resumed_lines}

-- the core that is made of scripts, after the steps of turns
abbrev pub played : {State Op Query Reply : Type 0} → Behaviour State Op Query Reply → ℕ → List ℕ → State
    → List (List (Call State Op Query Reply)) → List Turn → CoreState State Op Query Reply
played b code init s scripts turns = steps_of b (created_core s code init scripts) (turns_of turns)

-- ---- the report
-- the lines of the calls of each thread that have begun, from thread t on
abbrev pub begun_lines : {State Op Query Reply : Type 0} → Wording State Op Query Reply → ℕ
    → List (CoreThread State Op Query Reply) → List (List (List ℕ))
begun_lines w t [] = []
begun_lines w t (th ∷ ths) = call_lines w t 0 th.script (ends_of th) ++ begun_lines w (t + 1) ths

abbrev pub crash_line : ℕ → List (List ℕ)
crash_line keep = codes "crash" ∷ decimal keep ∷ []

-- the line of each thread's log, from thread t on: what its image holds, and the fences of this generation
abbrev pub fenced_lines : {State Op Query Reply : Type 0} → ℕ → List LogCounts → List (CoreThread State Op Query Reply)
    → List (List (List ℕ))
fenced_lines t (log ∷ logs) (th ∷ ths) =
    log_line t log.entries log.lines (Some (fences_of th)) ∷ fenced_lines (t + 1) logs ths
fenced_lines t logs ths = []

-- the lines of the crash, of the logs, and of this state, which is recovered
abbrev pub crash_lines : {State Op Query Reply : Type 0} → Wording State Op Query Reply → CoreState State Op Query Reply
    → ℕ → Recovered → State → List (List (List ℕ))
crash_lines w c keep r s = crash_line keep ∷ (fenced_lines 0 r.logs c.threads ++ (recovered_line (length r.nodes) ∷ state_lines w s))

-- ---- what the report says
-- what a report of threads says: how many nodes they go on from, where they do, what became of the calls of each, the trace with
-- its flags, the crash, the logs, how many nodes are recovered, and the state after them
pub record CrashedRunData (State Op Query Reply : Type 0) : Type 0 where
  pub resumed : Option ℕ
  pub ends : List (List (CallEnd State Op Query Reply))
  pub nodes : List Node
  pub flags : List Bool
  pub keep : ℕ
  pub logs : List LogData
  pub recovered : ℕ
  pub state : State

-- the counts of logs and of their threads' devices
abbrev pub counts_of : {State Op Query Reply : Type 0} → List LogCounts → List (CoreThread State Op Query Reply) → List LogData
counts_of (log ∷ logs) (th ∷ ths) =
    record { entries = log.entries; lines = log.lines; fences = fences_of th } ∷ counts_of logs ths
counts_of logs ths = []

-- what the report of a replay says
abbrev pub replay_data : {State Op Query Reply : Type 0} → Behaviour State Op Query Reply
    → Option ℕ → CoreState State Op Query Reply → ℕ → Recovered → CrashedRunData State Op Query Reply
replay_data b resumed c keep r = record {
  resumed = resumed;
  ends = map ends_of c.threads;
  nodes = c.trace;
  flags = c.flags;
  keep = keep;
  logs = counts_of r.logs c.threads;
  recovered = length r.nodes;
  state = state_after b c.initial r.nodes;
}

module _ {State Op Query Reply : Type 0} (b : Behaviour State Op Query Reply) (w : Wording State Op Query Reply) where
  -- the lines of the core's calls and trace
  abbrev pub run_lines : CoreState State Op Query Reply → List (List (List ℕ))
  run_lines c = begun_lines w 0 c.threads ++ (trace_line (length c.trace) ∷ flagged_lines b w 0 c.trace c.flags)

  abbrev pub replay_report : Option ℕ → CoreState State Op Query Reply → ℕ → Recovered → List ℕ
  replay_report resumed c keep r =
      flat_map line_text (resumed_lines resumed ++ (run_lines c ++ crash_lines w c keep r (state_after b c.initial r.nodes)))

  -- the lines of all that is said, for these scripts
  abbrev pub run_data_lines : List (List (Call State Op Query Reply)) → CrashedRunData State Op Query Reply → List (List (List ℕ))
  run_data_lines scripts said =
      resumed_lines said.resumed
      ++ ((thread_lines w 0 scripts said.ends ++ (trace_line (length said.nodes) ∷ flagged_lines b w 0 said.nodes said.flags))
      ++ (crash_line said.keep ∷ (counted_lines 0 said.logs ++ (recovered_line said.recovered ∷ state_lines w said.state))))

  -- all that is said of these scripts' run reads back
  pub record CrashedRunReads (scripts : List (List (Call State Op Query Reply))) (said : CrashedRunData State Op Query Reply)
      : Type 0 where
    pub threads : length scripts ≤ 2 ^ 64
    pub resumed : IfSome said.resumed (λ nodes. nodes < 2 ^ 64)
    pub ends : EachReads w scripts said.ends
    pub nodes : All (NodeReads b w) said.nodes
    pub flags : length said.flags ≡ length said.nodes
    pub keep : said.keep < 2 ^ 64
    pub logs : All LogReads said.logs
    pub recovered : said.recovered < 2 ^ 64
    pub state : StateReads w said.state

  -- ---- the work
  -- the run of these scripts, its crash, and what was recovered are reported: the report says that, and nothing else
  abbrev pub run_task : Option ℕ → List (List (Call State Op Query Reply)) → CoreState State Op Query Reply → ℕ
      → Result Recovered StateFault → Task
  run_task resumed scripts c keep (Ok r) = report_task (replay_report resumed c keep r)
      (λ text. SaysOnly (run_data_lines scripts) (CrashedRunReads scripts) text (replay_data b resumed c keep r))
  run_task resumed scripts c keep (Err fault) = say_task BadLog (fault_line fault)

  -- a core crashes: its images are written, and then recovered as logs with its heads
  abbrev pub crash_task : List ℕ → Option ℕ → List (List (Call State Op Query Reply)) → CoreState State Op Query Reply → ℕ → Task
  crash_task logs resumed scripts c keep = after_stage (writing_stage logs (images_of keep c.threads))
      (λ _. run_task resumed scripts c keep (state_recovered b (heads_of c.threads) (images_of keep c.threads)))

-- the schedule of these scripts is read and played, and the core crashes
abbrev pub schedule_task : (k : ObjectKind) → List ℕ → k.State → (schedule logs : List ℕ)
    → List (List (Call k.State k.Op k.Query k.Reply)) → Task
schedule_task k init s schedule logs scripts = after_stage (text_stage schedule (schedule_of (length scripts)))
    (λ (plan : Schedule). crash_task k.means k.wording logs None scripts (played k.means k.code init s scripts plan.turns) plan.keep)

abbrev pub scripts_task : (k : ObjectKind) → (init schedule logs : List ℕ) → List (List ℕ) → k.State → Task
scripts_task k init schedule logs names s = after_stage (scripts_stage k.wording names) (schedule_task k init s schedule logs)
