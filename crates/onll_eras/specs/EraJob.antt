-- What `areas`, `restore` and `checkpoint` do.

use Rattle.std.specs.Prelude.{ℕ, zero, suc, ◌≡◌, ◌+◌, ◌%◌, ◌^◌, Bool, true, false, List, [], ◌∷◌, ◌++◌, length, nat_lt, Option, Some, None, Result, Ok, Err, if◌then◌else◌}
use Rattle.std.specs.List.{flat_map}
use Rattle.onll_words.specs.Texts.{line_text}
use Rattle.onll_model.specs.Trace.{state_after}
use Rattle.onll_log.specs.Head.{head_line, head_for}
use Rattle.onll_merge.specs.Recovered.{Recovered}
use Rattle.onll_text.specs.declared.any_object.AnyObject.{AnyObject}
use Rattle.onll_text.specs.Refusal.{Refusal}
use Rattle.onll_text.specs.Init.{init_of}
use Rattle.onll_text.specs.Kinds.{ObjectKind, on_object}
use Rattle.onll_text.specs.EraText.{era_text}
use Rattle.onll_text.specs.PrintsBack.{prints_back}
use Rattle.onll_text.specs.Reports.{SaysOnly}
use Rattle.onll_outside.specs.Views.{FileHolds}
use Rattle.onll_task.specs.declared.ending.Ending.TheVariants.{Refused, BadLog}
use Rattle.onll_text.specs.Lines.{fence_line}
use Rattle.onll_task.specs.Printed.{refusal_text}
use Rattle.onll_open.specs.Names.{log_name, log_names}
use Rattle.onll_task.specs.Recovering.{recovery_stage}
use Rattle.onll_task.specs.Job.{Job, Read, Keep}
use Rattle.onll_task.specs.Doing.{Task, Work, Stage, after_stage, whole_stage, report_task, say_task, assured_stage, keep_stage, write_stage, then_stage}
use Rattle.onll_task.specs.RecoverySaid.{data_with}
use Rattle.onll_checkpoint.specs.Checkpoint.{CheckpointState}
use Rattle.onll_checkpoint.specs.Text.{lines_for}
use Rattle.onll_checkpoint.specs.Grammar.{checkpoint_image}
use Rattle.onll_areas.specs.Newest.{newest}
use Rattle.onll_eras.specs.Names.{EraNames, area_name, text_name, area_files}
use Rattle.onll_eras.specs.Eras.{Era, era_of}
use Rattle.onll_eras.specs.EraReports.{areas_text, at_end_text, area_fault_line, RestoreData, RestoreReads, newest_in, restore_lines, CheckpointData, CheckpointReads, checkpoint_lines}

-- ---- areas
-- both areas are made empty files
abbrev pub empty_stage : List ℕ → Stage (Unit {0})
empty_stage ckpt = then_stage (write_stage (area_name ckpt 0) []) (write_stage (area_name ckpt 1) [])

abbrev pub areas_work : List ℕ → Work
areas_work ckpt = record {
  task = after_stage (empty_stage ckpt) (λ _. report_task (areas_text ckpt) (λ text. text ≡ areas_text ckpt));
  writes = log_names ckpt 0 2;
}

-- ---- the newest era
-- the bytes of an area's file
abbrev pub area_stage : List ℕ → Stage (List ℕ)
area_stage name = record { job = Read name; known = λ store bytes. FileHolds store name bytes }

-- those of both areas
pub record AreaBytes : Type 0 where
  pub even : List ℕ
  pub odd : List ℕ

abbrev pub areas_stage : List ℕ → Stage AreaBytes
areas_stage ckpt = record {
  job = λ (next : AreaBytes → Job).
      Read (area_name ckpt 0) (λ even. Read (area_name ckpt 1) (λ odd. next (record { even = even; odd = odd })));
  known = λ store read. FileHolds store (area_name ckpt 0) read.even × FileHolds store (area_name ckpt 1) read.odd;
}

-- the object of an era: that of INIT where there is no checkpoint, and else what the checkpoint's text says, or why it says none
abbrev pub started : AnyObject → Option CheckpointState → Result AnyObject Refusal
started first None = Ok first
started first (Some c) = init_of c.text

-- this task goes on with the object; a text that is refused is said by the name of its area
abbrev pub on_started : Era → Result AnyObject Refusal → ((k : ObjectKind) → k.State → Task) → Task
on_started era (Ok object) next = on_object next object
on_started era (Err refusal) next = say_task Refused (refusal_text era.source refusal)

-- what the logs of an era give goes on
abbrev pub EraNext : Type 1
EraNext = Option CheckpointState → Era → (k : ObjectKind) → k.State → Recovered → Task

-- the logs of the era of this checkpoint are recovered over its object
abbrev pub era_task : EraNames → (bytes : List ℕ) → ℕ → AnyObject → Option CheckpointState → EraNext → Task
era_task names bytes threads first from next =
    let era = era_of names bytes from in
    on_started era (started first from) (λ k s. after_stage (recovery_stage k era.text era.logs threads) (next from era k s))

-- the initial state, the areas and then the logs of the newest era are read
abbrev pub with_newest : EraNames → ℕ → EraNext → Task
with_newest names threads next =
    after_stage (whole_stage names.init init_of) (λ read. after_stage (areas_stage names.ckpt)
    (λ held. era_task names read.0 threads read.1 (newest held.even held.odd) next))

-- the one task, or the other
abbrev pub either_task : Bool → Task → Task → Task
either_task true task other = task
either_task false task other = other

-- ---- restore
-- what logs gave is reported, with the state after it; or it is said that no place is left
abbrev pub restored_with : Option CheckpointState → Era → (k : ObjectKind) → k.State → Recovered → Task
restored_with from era k state r =
    let said : RestoreData k.State = record { from = newest_in from; logs = data_with r state } in
    either_task (nat_lt (era.place + length r.nodes) (2 ^ 64))
    (report_task (flat_map line_text (restore_lines k.means k.wording said))
    (λ text. SaysOnly (restore_lines k.means k.wording) (RestoreReads k.means k.wording) text said))
    (say_task BadLog at_end_text)

-- the report of a restoration
abbrev pub restored_task : EraNext
restored_task from era k s r = restored_with from era k (state_after k.means s r.nodes) r

abbrev pub restore_work : EraNames → ℕ → Work
restore_work names threads = record { task = with_newest names threads restored_task; writes = [] }

-- ---- checkpoint
-- what is said of a fence that failed: of a thread's header, and of an area
abbrev pub header_said : ℕ → List ℕ
header_said thread = line_text (fence_line thread 0)

abbrev pub area_said : ℕ → List ℕ
area_said area = line_text (area_fault_line area)

-- keeps a log with its header alone for each thread from t on, and goes on
abbrev pub keeping_headers : (logs : List ℕ) (code : ℕ) (text : List ℕ) (threads t : ℕ) → ℕ → Job → Job
keeping_headers logs code text threads t zero next = next
keeping_headers logs code text threads t (suc more) next =
    Keep (log_name logs t) (head_line (head_for 2 t threads code text) ∷ []) 1 (header_said t)
    (keeping_headers logs code text threads (suc t) more next)

abbrev pub headers_stage : (logs : List ℕ) (code : ℕ) (text : List ℕ) (threads : ℕ) → Stage (Unit {0})
headers_stage logs code text threads =
    record { job = λ (next : Unit {0} → Job). keeping_headers logs code text threads 0 threads (next tt); known = λ _ _. Unit {0} }

-- the area of a checkpoint, by its number
abbrev pub area_of : CheckpointState → ℕ
area_of c = c.number % 2

-- the era of this checkpoint begins: its logs, then the file of its text, and then the area
abbrev pub begun_stage : (ckpt : List ℕ) (code threads : ℕ) → CheckpointState → Stage (Unit {0})
begun_stage ckpt code threads c =
    then_stage (headers_stage (area_name ckpt (area_of c)) code c.text threads)
    (then_stage (write_stage (text_name ckpt (area_of c)) c.text)
    (keep_stage (area_name ckpt (area_of c)) (checkpoint_image c (lines_for (length c.text))) 2 (area_said (area_of c))))

-- neither the next number nor the next place is past 64 bits
abbrev pub has_next : Era → ℕ → Bool
has_next era nodes = if nat_lt (era.number + 1) (2 ^ 64) then nat_lt (era.place + nodes) (2 ^ 64) else false

-- the checkpoint after so many nodes of an era, of the state with these lines
abbrev pub checkpoint_after : Era → ℕ → List (List (List ℕ)) → CheckpointState
checkpoint_after era nodes lines =
    record { number = era.number + 1; place = era.place + nodes; text = era_text (era.number + 1) (era.place + nodes) lines }

-- the era of this checkpoint begins with this state, which is then reported; that it is printed as one that is read back the types of the
-- objects assure
abbrev pub begun_task : (ckpt : List ℕ) (threads : ℕ) (k : ObjectKind) → k.State → CheckpointState → Task
begun_task ckpt threads k state c =
    let said : CheckpointData k.State = record { number = c.number; place = c.place; state = state } in
    after_stage (assured_stage (prints_back k.wording (flat_map line_text (k.wording.state_lines state))))
    (λ _. after_stage (begun_stage ckpt k.code threads c)
    (λ _. report_task (flat_map line_text (checkpoint_lines k.wording said))
    (λ text. SaysOnly (checkpoint_lines k.wording) (CheckpointReads k.wording) text said)))

-- the next era begins after so many nodes of this one, with this state; or it is said that no number is left
abbrev pub checkpoint_with : (ckpt : List ℕ) (threads : ℕ) → Era → (k : ObjectKind) → k.State → ℕ → Task
checkpoint_with ckpt threads era k state nodes =
    either_task (has_next era nodes)
    (begun_task ckpt threads k state (checkpoint_after era nodes (k.wording.state_lines state)))
    (say_task BadLog at_end_text)

-- the next era begins with what the logs of this one gave
abbrev pub checkpoint_task : (ckpt : List ℕ) → ℕ → EraNext
checkpoint_task ckpt threads from era k s r =
    checkpoint_with ckpt threads era k (state_after k.means s r.nodes) (length r.nodes)

-- the files that it may write: those of the era of either area
abbrev pub checkpoint_work : EraNames → ℕ → Work
checkpoint_work names threads = record {
  task = with_newest names threads (checkpoint_task names.ckpt threads);
  writes = area_files names.ckpt 0 threads ++ area_files names.ckpt 1 threads;
}
