-- What `run INIT LOGS SCRIPT..` does: it runs a script on each thread, over devices that are kept as logs, and says what became of that.

use Rattle.std.specs.Prelude.{ℕ, zero, suc, false, List}
use Rattle.onll_model.specs.declared.call.Call.{Call}
use Rattle.onll_start.specs.Heads.{created_heads}
use Rattle.onll_run.specs.Ran.{anew}
use Rattle.onll_text.specs.Kinds.{ObjectKind}
use Rattle.onll_text.specs.Reports.{SaysOnly}
use Rattle.onll_task.specs.declared.ending.Ending.TheVariants.{Faulty}
use Rattle.onll_task.specs.RunSaid.{RunReads}
use Rattle.onll_task.specs.Running.{RunPlan, RunLeft, plan_data, broken_threads}
use Rattle.onll_task.specs.Job.{Job}
use Rattle.onll_task.specs.Doing.{Task, after_stage, report_task, say_task}
use Rattle.onll_task.specs.Standing.{threads_stage}
use Rattle.onll_task.specs.Scripts.{scripts_stage}
use Rattle.onll_runner.specs.RunReport.{run_lines, plan_report}

-- these scripts on an object of this kind, in the state that these bytes say, over new logs of this name
abbrev pub run_plan : (k : ObjectKind) → (init logs : List ℕ) → k.State → List (List (Call k.State k.Op k.Query k.Reply)) → RunPlan k
run_plan k init logs s scripts = record { logs = logs; reopens = false; run = anew s (created_heads k.code init scripts) scripts }

-- what a run left is reported; where fences failed the report says so, and so does the ending
abbrev pub said_task : (k : ObjectKind) → RunPlan k → RunLeft k → (broken : ℕ) → Task
said_task k plan left zero = report_task (plan_report plan left)
    (λ text. SaysOnly (run_lines k.means k.wording plan.run.scripts) (RunReads k.means k.wording plan.run.scripts) text
    (plan_data plan left))
said_task k plan left (suc more) = say_task Faulty (plan_report plan left)

-- scripts are run, and what they left is said
abbrev pub calls_task : (k : ObjectKind) → (RunPlan k → (RunLeft k → Job) → Job) → RunPlan k → Task
calls_task k threads plan = after_stage (threads_stage threads plan) (λ left. said_task k plan left (broken_threads left.ends))

-- the scripts are read first
abbrev pub run_task : (k : ObjectKind) → (RunPlan k → (RunLeft k → Job) → Job) → (init logs : List ℕ) → List (List ℕ)
    → k.State → Task
run_task k threads init logs names s =
    after_stage (scripts_stage k.wording names) (λ scripts. calls_task k threads (run_plan k init logs s scripts))
