-- The one call that runs scripts on threads, over logs that are opened or begun: what it needs, and what it leaves.
use Rattle.std.specs.Prelude.{ℕ, Bool, true, List, [], ◌∷◌, ◌≡◌, ◌+◌, ◌*◌, ◌≤◌, max, length, map, is_some, count_by, Ok}
use Rattle.onll_model.specs.Limits.{most_threads, most_updates}
use Rattle.onll_model.specs.declared.node.Node.{Node}
use Rattle.onll_model.specs.declared.call.Call.{Call}
use Rattle.onll_model.specs.declared.call.CallEnd.{CallEnd}
use Rattle.onll_model.specs.Calls.{updates_in}
use Rattle.onll_model.specs.Trace.{is_of_thread}
use Rattle.onll_pmem.specs.Pmem.{DeviceView, ToldSettled}
use Rattle.onll_log.specs.declared.head.LogHead.{LogHead}
use Rattle.onll_log.specs.Grammar.{Content, used_by}
use Rattle.onll_log.specs.Log.{LogState}
use Rattle.onll_merge.specs.Merge.{merge}
use Rattle.onll_trace.specs.declared.trace.Ended.{Ended}
use Rattle.onll_run.specs.declared.run.DoneScript.{DoneScript}
use Rattle.onll_run.specs.declared.run.RunOutcome.{RunOutcome}
use Rattle.onll_run.specs.Outcomes.{failed_in, fault_in}
use Rattle.onll_run.specs.Left.{ScriptPlan, AfterRun, no_base, one_begun, fenced_in}
use Rattle.onll_run.specs.Ended.{log_left}
use Rattle.onll_log.specs.Head.{AreHeads}
use Rattle.onll_run.specs.Making.{HeldBefore}

-- ---- what the call needs
-- A device that was not fenced yet, and reads as what its log held before, with lines for that, or for the header where the log is
-- begun, and, among so many threads, for all updates of a script.
pub record IsRoomyFor {State Op Query Reply Device : Type 0} (means : Device → DeviceView) (threads : ℕ) (before : Content)
    (script : List (Call State Op Query Reply)) (device : Device) : Type 0 where
  pub fences : (means device).fences ≡ 0
  pub faults : (means device).faults ≡ 0
  pub settled : ToldSettled (means device).told (means device).read
  pub stands : HeldBefore before (means device).read
  pub lines : max 1 (used_by before) + (threads + 1) * updates_in script ≤ length (means device).read

-- a log and a device for each script
abbrev pub AreRoomy : {State Op Query Reply Device : Type 0} → (Device → DeviceView) → ℕ → List Content
    → List (List (Call State Op Query Reply)) → List Device → Type 0
AreRoomy means threads [] [] [] = Unit {0}
AreRoomy means threads (before ∷ logs) (script ∷ scripts) (device ∷ devices) =
    IsRoomyFor means threads before script device × AreRoomy means threads logs scripts devices
AreRoomy means threads logs scripts devices = ⊥

-- each thread, the first of them thread t, has numbers left for the updates of its script after these nodes
abbrev pub HaveNumbers : {State Op Query Reply : Type 0} → List Node → ℕ → List (List (Call State Op Query Reply)) → Type 0
HaveNumbers nodes t [] = Unit {0}
HaveNumbers nodes t (script ∷ scripts) =
    (count_by (is_of_thread t) nodes + updates_in script ≤ most_updates) × HaveNumbers nodes (t + 1) scripts

-- what these logs held is one trace, which leaves each thread numbers for its script
pub record HasBase {State Op Query Reply : Type 0} (heads : List LogHead) (logs : List Content)
    (scripts : List (List (Call State Op Query Reply))) : Type 0 where
  pub nodes : List Node
  pub merged : merge heads logs ≡ Ok nodes
  pub numbers : HaveNumbers nodes 0 scripts

-- Scripts can be run over such logs and devices: one to the greatest number of threads, a head, a log and a device for each.
pub record CanRun {State Op Query Reply Device : Type 0} (means : Device → DeviceView) (heads : List LogHead) (logs : List Content)
    (scripts : List (List (Call State Op Query Reply))) (devices : List Device) : Type 0 where
  pub some_thread : 1 ≤ length scripts
  pub few : length scripts ≤ most_threads
  pub many : length heads ≡ length scripts
  pub heads_are : AreHeads (length scripts) 0 heads
  pub base : HasBase heads logs scripts
  pub devices_are : AreRoomy means (length scripts) logs scripts devices

-- these scripts on an object in this state, over logs of these heads that held these nodes
abbrev pub going_on : {State Op Query Reply : Type 0} → State → List LogHead → List Node → List Content
    → List (List (Call State Op Query Reply)) → ScriptPlan State Op Query Reply
going_on state heads nodes logs scripts =
    record { state = state; scripts = scripts; heads = heads; base = record { nodes = nodes; logs = logs } }

-- these scripts on an object in this state, over logs of these heads that are begun anew
abbrev pub anew : {State Op Query Reply : Type 0} → State → List LogHead → List (List (Call State Op Query Reply))
    → ScriptPlan State Op Query Reply
anew state heads scripts = record { state = state; scripts = scripts; heads = heads; base = no_base (length heads) }

-- ---- what it leaves
abbrev pub script_in : {State Op Query Reply : Type 0} → DoneScript State Op Query Reply → List (Call State Op Query Reply)
script_in done = done.script.items

abbrev pub ends_in : {State Op Query Reply : Type 0} → DoneScript State Op Query Reply → List (CallEnd State Op Query Reply)
ends_in done = done.ends.items

-- nodes, all of them available
abbrev pub available : List Node → List Ended
available nodes = map (λ (node : Node). record { node = node; flag = true }) nodes

abbrev pub node_in : Ended → Node
node_in end = end.node

abbrev pub flag_in : Ended → Bool
flag_in end = end.flag

-- what a run left, as plain data
abbrev pub left_by : {State Device Op Query Reply : Type 0} → (Device → DeviceView) → List (DoneScript State Op Query Reply)
    → List Ended → List (LogState Device) → AfterRun State Op Query Reply
left_by means threads trace logs = record {
  ends = map ends_in threads;
  nodes = map node_in trace;
  flags = map flag_in trace;
  logs = map (log_left means) logs;
}

-- what the call left, as plain data
abbrev pub left_in : {State Device Op Query Reply : Type 0} → (Device → DeviceView) → RunOutcome State Device Op Query Reply
    → AfterRun State Op Query Reply
left_in means ran = left_by means ran.threads.items ran.trace.items ran.logs.items

-- A thread's log is handed back with its device. Where that tells its fenced words, they are the log without the entry whose fence
-- failed. It has as many lines as before, and counts the fences of the log, the header's where the log was begun, and a fault where
-- a fence failed.
pub record IsKeptLog {State Op Query Reply Device : Type 0} (means : Device → DeviceView) (before : Content)
    (ends : List (CallEnd State Op Query Reply)) (device : Device) (log : LogState Device) : Type 0 where
  pub fenced : ToldSettled (means log.device).told (fenced_in (log_left means log) (failed_in ends))
  pub broken : log.broken ≡ is_some (failed_in ends)
  pub fences : (means log.device).fences ≡ log.fences + one_begun before.head
  pub faults : (means log.device).faults ≡ fault_in (failed_in ends)
  pub lines : length (means log.device).read ≡ length (means device).read

-- so is each thread's log
abbrev pub AreKeptLogs : {State Op Query Reply Device : Type 0} → (Device → DeviceView) → List Content
    → List (List (CallEnd State Op Query Reply)) → List Device → List (LogState Device) → Type 0
AreKeptLogs means [] [] [] [] = Unit {0}
AreKeptLogs means (before ∷ befores) (ends ∷ more) (device ∷ devices) (log ∷ logs) =
    IsKeptLog means before ends device log × AreKeptLogs means befores more devices logs
AreKeptLogs means befores ends devices logs = ⊥
