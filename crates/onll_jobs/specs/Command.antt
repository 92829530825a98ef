-- The program's commands: the forms of its words, the limits of their numbers, and what those over an object do, of whatever kind it is,
-- once its initial state is read.

use Rattle.std.specs.Prelude.{ℕ, ◌≤◌, Bool, true, List, [], ◌∷◌, ◌++◌, Option, Some, None, if◌then◌else◌, codes, nat_le, ◌&&◌, Result, length, map, string_bytes}
use Rattle.std.specs.Option.{option_map}
use Rattle.std.specs.Str.{bytes_eq}
use Rattle.onll_model.specs.Limits.{most_threads, most_updates}
use Rattle.onll_words.specs.Numbers.{number_of}
use Rattle.onll_workload.specs.declared.workload.Workload.{Workload}
use Rattle.onll_workload.specs.Workload.{IsWorkload}
use Rattle.onll_eras.specs.Names.{EraNames, names_of}
use Rattle.onll_jobs.specs.declared.command.Command.{Command}
use Rattle.onll_jobs.specs.declared.command.Command.TheVariants as commands
use Rattle.std.specs.declared.vec.Vec.{Vec}
use Rattle.onll_outside.specs.Views.{StoreView}
use Rattle.onll_text.specs.Init.{on_kind, init_of}
use Rattle.onll_text.specs.declared.any_object.AnyObject.{AnyObject}
use Rattle.onll_text.specs.Kinds.{ObjectKind, kind_at}
use Rattle.onll_jobs.specs.declared.objects.Over.{Over}
use Rattle.onll_jobs.specs.declared.objects.Over.TheVariants as overs
use Rattle.onll_task.specs.declared.answer.Stop.{Stop}
use Rattle.onll_task.specs.Doing.{Task, Work, Fulfils, after_stage, whole_stage}
use Rattle.onll_task.specs.Job.{Job, Threads}
use Rattle.onll_task.specs.Running.{RunPlan, RunLeft}
use Rattle.onll_task.specs.Standing.{StandsForRuns}
use Rattle.onll_jobs.specs.AuditJob.{audit_task}
use Rattle.onll_jobs.specs.FoldJob.{script_task}
use Rattle.onll_open.specs.Names.{log_names}
use Rattle.onll_recovery.specs.RecoverJob.{recover_task}
use Rattle.onll_recovery.specs.ReplayJob.{scripts_task}
use Rattle.onll_recovery.specs.AgainJob.{again_task}
use Rattle.onll_recovery.specs.DetectJob.{detect_task}
use Rattle.onll_runner.specs.ResumeJob.{resume_task}
use Rattle.onll_runner.specs.RunJob.{run_task}
use Rattle.onll_shipping.specs.FollowJob.{longest_piece, follow_task}

-- ---- what is done over an object
-- What is done over an object: a script is folded, the logs of so many threads are recovered, scripts are replayed, anew or going on
-- from the logs of an earlier generation, scripts are run on threads, going on or anew, or it is said what became of their updates, or
-- a stream of the logs of so many threads is followed, in pieces of so many bytes, or the report of a run of scripts is judged.
pub data OverForm : Type 0 where
  FoldOver : (script : List ℕ) → OverForm
  RecoverOver : (logs : List ℕ) (threads : ℕ) → OverForm
  ReplayOver : (schedule logs : List ℕ) (names : List (List ℕ)) → OverForm
  AgainOver : (schedule logs : List ℕ) (names : List (List ℕ)) → OverForm
  ResumeOver : (logs : List ℕ) (names : List (List ℕ)) → OverForm
  RunOver : (logs : List ℕ) (names : List (List ℕ)) → OverForm
  DetectOver : (logs : List ℕ) (names : List (List ℕ)) → OverForm
  FollowOver : (threads : ℕ) (stream : List ℕ) (piece : ℕ) → OverForm
  AuditOver : (report : List ℕ) (names : List (List ℕ)) → OverForm

-- what the code's words for it stand for
abbrev pub over_in : Over → OverForm
over_in (overs.Fold script) = FoldOver script.now
over_in (overs.Recover logs threads) = RecoverOver logs.now threads
over_in (overs.Replay schedule logs scripts) = ReplayOver schedule.now logs.now (map string_bytes scripts.now)
over_in (overs.Again schedule logs scripts) = AgainOver schedule.now logs.now (map string_bytes scripts.now)
over_in (overs.Resume logs scripts) = ResumeOver logs.now (map string_bytes scripts.now)
over_in (overs.Run logs scripts) = RunOver logs.now (map string_bytes scripts.now)
over_in (overs.Detect logs scripts) = DetectOver logs.now (map string_bytes scripts.now)
over_in (overs.Follow threads stream piece) = FollowOver threads stream.now piece
over_in (overs.Audit report scripts) = AuditOver report.now (map string_bytes scripts.now)

-- a recovery is from the logs of 1 to 16 threads, 1 to 16 scripts are replayed, run or asked about, or their report is judged, and a
-- stream is of 1 to 16 threads and followed in pieces of 1 to 1,048,576 bytes
abbrev pub is_over : OverForm → Bool
is_over (FoldOver script) = true
is_over (RecoverOver logs threads) = nat_le 1 threads && nat_le threads most_threads
is_over (ReplayOver schedule logs names) = nat_le 1 (length names) && nat_le (length names) most_threads
is_over (AgainOver schedule logs names) = nat_le 1 (length names) && nat_le (length names) most_threads
is_over (ResumeOver logs names) = nat_le 1 (length names) && nat_le (length names) most_threads
is_over (RunOver logs names) = nat_le 1 (length names) && nat_le (length names) most_threads
is_over (DetectOver logs names) = nat_le 1 (length names) && nat_le (length names) most_threads
is_over (FollowOver threads stream piece) =
    nat_le 1 threads && (nat_le threads most_threads && (nat_le 1 piece && nat_le piece longest_piece))
is_over (AuditOver report names) = nat_le 1 (length names) && nat_le (length names) most_threads

-- the same of the code's words
abbrev pub OverFits : Over → Type 0
OverFits (overs.Fold script) = Unit {0}
OverFits (overs.Recover logs threads) = (1 ≤ threads) × (threads ≤ most_threads)
OverFits (overs.Replay schedule logs scripts) = (1 ≤ length scripts.now) × (length scripts.now ≤ most_threads)
OverFits (overs.Again schedule logs scripts) = (1 ≤ length scripts.now) × (length scripts.now ≤ most_threads)
OverFits (overs.Resume logs scripts) = (1 ≤ length scripts.now) × (length scripts.now ≤ most_threads)
OverFits (overs.Run logs scripts) = (1 ≤ length scripts.now) × (length scripts.now ≤ most_threads)
OverFits (overs.Detect logs scripts) = (1 ≤ length scripts.now) × (length scripts.now ≤ most_threads)
OverFits (overs.Follow threads stream piece) = (1 ≤ threads) × (threads ≤ most_threads) × (1 ≤ piece) × (piece ≤ longest_piece)
OverFits (overs.Audit report scripts) = (1 ≤ length scripts.now) × (length scripts.now ≤ most_threads)

-- ---- the forms
-- A form of the program's words: a command over the object whose initial state a file holds, or one of an image, or a workload, or a
-- command over the areas of checkpoints, or over eras of so many threads, or the stream of so many threads' logs.
pub data Form : Type 0 where
  OverInit : (init : List ℕ) (over : OverForm) → Form
  Show : (image : List ℕ) → Form
  Make : (workload : Workload) → Form
  Areas : (ckpt : List ℕ) → Form
  Restore : (names : EraNames) (threads : ℕ) → Form
  Checkpoint : (names : EraNames) (threads : ℕ) → Form
  Ship : (logs : List ℕ) (threads : ℕ) (out : List ℕ) → Form

-- ---- the commands over an object
abbrev pub Fold : (init script : List ℕ) → Form
Fold init script = OverInit init (FoldOver script)

abbrev pub Recover : (init logs : List ℕ) → (threads : ℕ) → Form
Recover init logs threads = OverInit init (RecoverOver logs threads)

abbrev pub Replay : (init schedule logs : List ℕ) → (scripts : List (List ℕ)) → Form
Replay init schedule logs scripts = OverInit init (ReplayOver schedule logs scripts)

abbrev pub Again : (init schedule logs : List ℕ) → (scripts : List (List ℕ)) → Form
Again init schedule logs scripts = OverInit init (AgainOver schedule logs scripts)

abbrev pub Resume : (init logs : List ℕ) → (scripts : List (List ℕ)) → Form
Resume init logs scripts = OverInit init (ResumeOver logs scripts)

abbrev pub Run : (init logs : List ℕ) → (scripts : List (List ℕ)) → Form
Run init logs scripts = OverInit init (RunOver logs scripts)

abbrev pub Detect : (init logs : List ℕ) → (scripts : List (List ℕ)) → Form
Detect init logs scripts = OverInit init (DetectOver logs scripts)

abbrev pub Follow : (init : List ℕ) (threads : ℕ) (stream : List ℕ) (piece : ℕ) → Form
Follow init threads stream piece = OverInit init (FollowOver threads stream piece)

abbrev pub Audit : (init report : List ℕ) → (scripts : List (List ℕ)) → Form
Audit init report scripts = OverInit init (AuditOver report scripts)

-- ---- what the names after a command's word say
abbrev pub fold_of : List (List ℕ) → Option Form
fold_of (init ∷ script ∷ []) = Some (Fold init script)
fold_of names = None

abbrev pub show_of : List (List ℕ) → Option Form
show_of (image ∷ []) = Some (Show image)
show_of names = None

-- the last name of a recovery is the number of its threads
abbrev pub recover_of : List (List ℕ) → Option Form
recover_of (init ∷ logs ∷ threads ∷ []) = option_map (Recover init logs) (number_of threads)
recover_of names = None

abbrev pub replay_of : List (List ℕ) → Option Form
replay_of (init ∷ schedule ∷ logs ∷ scripts) = Some (Replay init schedule logs scripts)
replay_of names = None

abbrev pub again_of : List (List ℕ) → Option Form
again_of (init ∷ schedule ∷ logs ∷ scripts) = Some (Again init schedule logs scripts)
again_of names = None

abbrev pub resume_of : List (List ℕ) → Option Form
resume_of (init ∷ logs ∷ scripts) = Some (Resume init logs scripts)
resume_of names = None

abbrev pub run_of : List (List ℕ) → Option Form
run_of (init ∷ logs ∷ scripts) = Some (Run init logs scripts)
run_of names = None

abbrev pub detect_of : List (List ℕ) → Option Form
detect_of (init ∷ logs ∷ scripts) = Some (Detect init logs scripts)
detect_of names = None

-- all three names are numbers
abbrev pub numbers_of : Option ℕ → Option ℕ → Option ℕ → Option Form
numbers_of (Some threads) (Some updates) (Some seed) = Some (Make (record { threads = threads; updates = updates; seed = seed }))
numbers_of threads updates seed = None

abbrev pub make_of : List (List ℕ) → Option Form
make_of (threads ∷ updates ∷ seed ∷ []) = numbers_of (number_of threads) (number_of updates) (number_of seed)
make_of names = None

abbrev pub areas_of : List (List ℕ) → Option Form
areas_of (ckpt ∷ []) = Some (Areas ckpt)
areas_of names = None

abbrev pub restore_of : List (List ℕ) → Option Form
restore_of (init ∷ logs ∷ ckpt ∷ threads ∷ []) =
    option_map (Restore (record { init = init; logs = logs; ckpt = ckpt })) (number_of threads)
restore_of names = None

abbrev pub checkpoint_of : List (List ℕ) → Option Form
checkpoint_of (init ∷ logs ∷ ckpt ∷ threads ∷ []) =
    option_map (Checkpoint (record { init = init; logs = logs; ckpt = ckpt })) (number_of threads)
checkpoint_of names = None

abbrev pub ship_of : List (List ℕ) → Option Form
ship_of (logs ∷ threads ∷ out ∷ []) = option_map (λ n. Ship logs n out) (number_of threads)
ship_of names = None

-- the second name is the number of threads, the last how many bytes a piece has
abbrev pub followed_from : (init stream : List ℕ) → Option ℕ → Option ℕ → Option Form
followed_from init stream (Some threads) (Some piece) = Some (Follow init threads stream piece)
followed_from init stream threads piece = None

abbrev pub follow_of : List (List ℕ) → Option Form
follow_of (init ∷ threads ∷ stream ∷ piece ∷ []) = followed_from init stream (number_of threads) (number_of piece)
follow_of names = None

abbrev pub audit_of : List (List ℕ) → Option Form
audit_of (init ∷ report ∷ scripts) = Some (Audit init report scripts)
audit_of names = None

-- the form of a command's word with these names
abbrev pub named_form : List ℕ → List (List ℕ) → Option Form
named_form command names =
    if bytes_eq command (codes "fold") then fold_of names
    else if bytes_eq command (codes "show") then show_of names
    else if bytes_eq command (codes "recover") then recover_of names
    else if bytes_eq command (codes "replay") then replay_of names
    else if bytes_eq command (codes "again") then again_of names
    else if bytes_eq command (codes "resume") then resume_of names
    else if bytes_eq command (codes "run") then run_of names
    else if bytes_eq command (codes "make") then make_of names
    else if bytes_eq command (codes "detect") then detect_of names
    else if bytes_eq command (codes "areas") then areas_of names
    else if bytes_eq command (codes "restore") then restore_of names
    else if bytes_eq command (codes "checkpoint") then checkpoint_of names
    else if bytes_eq command (codes "ship") then ship_of names
    else if bytes_eq command (codes "follow") then follow_of names
    else if bytes_eq command (codes "audit") then audit_of names
    else None

-- ---- the form of words
-- what is done over an object is within its limits, and a workload is of 1 to 16 threads and of 1 to 4,096 updates of each
abbrev pub is_within : Form → Bool
is_within (OverInit init over) = is_over over
is_within (Show image) = true
is_within (Areas ckpt) = true
is_within (Restore names threads) = nat_le 1 threads && nat_le threads most_threads
is_within (Checkpoint names threads) = nat_le 1 threads && nat_le threads most_threads
is_within (Ship logs threads out) = nat_le 1 threads && nat_le threads most_threads
is_within (Make w) = nat_le 1 w.threads && (nat_le w.threads most_threads && (nat_le 1 w.updates && nat_le w.updates most_updates))

abbrev pub within_limits : Option Form → Option Form
within_limits None = None
within_limits (Some form) = if is_within form then Some form else None

-- the form that words have, where they have one that is built
abbrev pub form_of : List (List ℕ) → Option Form
form_of [] = None
form_of (command ∷ names) = within_limits (named_form command names)

-- the form of a command that was read
abbrev pub form_in : Command → Form
form_in (commands.OverInit init over) = OverInit init.now (over_in over)
form_in (commands.Show image) = Show image.now
form_in (commands.Make workload) = Make workload
form_in (commands.Areas ckpt) = Areas ckpt.now
form_in (commands.Restore files threads) = Restore (names_of files) threads
form_in (commands.Checkpoint files threads) = Checkpoint (names_of files) threads
form_in (commands.Ship logs threads out) = Ship logs.now threads out.now

-- it is within the limits
abbrev pub IsCommand : Command → Type 0
IsCommand (commands.OverInit init over) = OverFits over
IsCommand (commands.Show image) = Unit {0}
IsCommand (commands.Make workload) = IsWorkload workload
IsCommand (commands.Areas ckpt) = Unit {0}
IsCommand (commands.Restore files threads) = (1 ≤ threads) × (threads ≤ most_threads)
IsCommand (commands.Checkpoint files threads) = (1 ≤ threads) × (threads ≤ most_threads)
IsCommand (commands.Ship logs threads out) = (1 ≤ threads) × (threads ≤ most_threads)

-- the text that is put where words have no form
abbrev pub usage_text : List ℕ
usage_text =
    codes "usage: onll fold INIT SCRIPT\n"
    ++ codes "       onll show IMAGE\n"
    ++ codes "       onll recover INIT LOGS T\n"
    ++ codes "       onll replay INIT SCHEDULE LOGS SCRIPT..\n"
    ++ codes "       onll run INIT LOGS SCRIPT..\n"
    ++ codes "       onll make T N SEED\n"
    ++ codes "       onll again INIT SCHEDULE LOGS SCRIPT..\n"
    ++ codes "       onll resume INIT LOGS SCRIPT..\n"
    ++ codes "       onll detect INIT LOGS SCRIPT..\n"
    ++ codes "       onll areas CKPT\n"
    ++ codes "       onll restore INIT LOGS CKPT T\n"
    ++ codes "       onll checkpoint INIT LOGS CKPT T\n"
    ++ codes "       onll ship LOGS T OUT\n"
    ++ codes "       onll follow INIT T STREAM PIECE\n"
    ++ codes "       onll audit INIT REPORT SCRIPT..\n"

-- ---- what the commands over an object do
-- the task over a state of this kind, which these bytes say; a part of its job that runs scripts on threads is made so
abbrev pub over_task : OverForm → (k : ObjectKind) → (RunPlan k → (RunLeft k → Job) → Job) → List ℕ → k.State → Task
over_task (FoldOver script) k threads init s = script_task k.means k.wording s script
over_task (RecoverOver logs count) k threads init s = recover_task k init logs count s
over_task (ReplayOver schedule logs names) k threads init s = scripts_task k init schedule logs names s
over_task (AgainOver schedule logs names) k threads init s = again_task k init schedule logs names s
over_task (ResumeOver logs names) k threads init s = resume_task k threads init logs names s
over_task (RunOver logs names) k threads init s = run_task k threads init logs names s
over_task (DetectOver logs names) k threads init s = detect_task k init logs names s
over_task (FollowOver count stream piece) k threads init s = follow_task k init stream count s
over_task (AuditOver report names) k threads init s = audit_task k report names s

-- the task over an object, whose initial state these bytes say
abbrev pub object_task : OverForm → List ℕ → AnyObject → Task
object_task over init object = on_kind (λ kind s. over_task over (kind_at kind) (Threads kind) init s) object

-- the files that may be written
abbrev pub over_writes : OverForm → List (List ℕ)
over_writes (ReplayOver schedule logs names) = log_names logs 0 (length names)
over_writes (AgainOver schedule logs names) = log_names logs 0 (length names)
over_writes (ResumeOver logs names) = log_names logs 0 (length names)
over_writes (RunOver logs names) = log_names logs 0 (length names)
over_writes over = []

-- What a function does over a state of a kind, which these bytes say: the task, whatever stands for the runs of that kind in it.
pub record DoesOver {A : Type 0} (over : OverForm) (k : ObjectKind) (store after : StoreView) (init : List ℕ) (s : k.State)
    (result : Result (Vec ℕ A) Stop) : Type 0 where
  pub by : (threads : RunPlan k → (RunLeft k → Job) → Job) → StandsForRuns k threads
      → Fulfils (over_writes over) store after (over_task over k threads init s) result

-- the initial state is read first
abbrev pub over_work : (init : List ℕ) → OverForm → Work
over_work init over = record {
  task = after_stage (whole_stage init init_of) (λ read. object_task over read.0 read.1);
  writes = over_writes over;
}
