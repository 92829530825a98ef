-- The report of `run` and `resume`: what became of each call, the trace, the logs, and the state after the trace.

use Rattle.std.specs.Prelude.{ℕ, ◌+◌, List, [], ◌∷◌, ◌++◌, Option, Some, None, length}
use Rattle.std.specs.List.{flat_map}
use Rattle.onll_words.specs.Texts.{line_text}
use Rattle.onll_model.specs.declared.call.Call.{Call}
use Rattle.onll_model.specs.declared.call.CallEnd.{CallEnd}
use Rattle.onll_model.specs.Object.{Behaviour}
use Rattle.onll_run.specs.Outcomes.{failed_in}
use Rattle.onll_run.specs.Left.{AfterRun}
use Rattle.onll_text.specs.Kinds.{ObjectKind}
use Rattle.onll_text.specs.Wording.{Wording}
use Rattle.onll_text.specs.Lines.{trace_line, state_lines, thread_lines, flagged_lines, counted_lines, recovered_line, fence_line}
use Rattle.onll_task.specs.RunSaid.{RunData, run_data, resumed_lines}
use Rattle.onll_task.specs.Running.{RunPlan, RunLeft, plan_resumed}

-- ---- its lines
-- the line of a thread's fence that failed, if one did
abbrev pub faults_at : ℕ → Option ℕ → List (List (List ℕ))
faults_at t None = []
faults_at t (Some place) = fence_line t place ∷ []

-- the line of each thread's fence that failed, from thread t on
abbrev pub fault_lines : {State Op Query Reply : Type 0} → ℕ → List (List (CallEnd State Op Query Reply)) → List (List (List ℕ))
fault_lines t [] = []
fault_lines t (ends ∷ more) = faults_at t (failed_in ends) ++ fault_lines (t + 1) more

-- the lines of the logs, of the fences that failed, and of the state; as many nodes are recovered from the logs as the trace has
abbrev pub end_lines : {State Op Query Reply : Type 0} → Wording State Op Query Reply → RunData State Op Query Reply
    → List (List (List ℕ))
end_lines w said = counted_lines 0 said.logs
    ++ (recovered_line (length said.nodes) ∷ (fault_lines 0 said.ends ++ state_lines w said.state))

-- the lines of all of it, for these scripts
abbrev pub run_lines : {State Op Query Reply : Type 0} → Behaviour State Op Query Reply → Wording State Op Query Reply
    → List (List (Call State Op Query Reply)) → RunData State Op Query Reply → List (List (List ℕ))
run_lines b w scripts said = resumed_lines said.resumed
    ++ ((thread_lines w 0 scripts said.ends ++ (trace_line (length said.nodes) ∷ flagged_lines b w 0 said.nodes said.flags))
    ++ end_lines w said)

-- ---- what a run left
-- the report of a run that left this, from this state on, where it goes on from so many nodes or from none
abbrev pub run_report : {State Op Query Reply : Type 0} → Behaviour State Op Query Reply → Wording State Op Query Reply → Option ℕ → State
    → List (List (Call State Op Query Reply)) → AfterRun State Op Query Reply → List ℕ
run_report b w resumed state scripts left = flat_map line_text (run_lines b w scripts (run_data b resumed state left))

-- the report of a plan's run that left this
abbrev pub plan_report : {k : ObjectKind} → RunPlan k → RunLeft k → List ℕ
plan_report {k} plan left = run_report k.means k.wording (plan_resumed plan) plan.run.state plan.run.scripts left
