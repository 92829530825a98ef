-- The parts of a replay, one after the other.

use Rattle.std.proofs.Common.{Vec, ℕ, zero, suc, ◌≡◌, ◌+◌, ◌-◌, ◌<◌, List, [], ◌∷◌, ◌++◌, Option, None, IsSome, length, get_or, map, Result, Ok, Err, refl, sym, ap, ◌∙◌, subst, arith}
use Rattle.std.proofs.lemmas.List.{length-map}
use Rattle.std.specs.List.{AllByRecursion, slice_get}
use Rattle.std.specs.Option.{IfSome}
use Rattle.onll_words.specs.declared.line.Line.{Line}
use Rattle.onll_pmem.specs.Device.{image_of, zero_lines}
use Rattle.onll_pmem.specs.Memory.{MemoryState}
use Rattle.onll_pmem.specs.Pmem.{words_of}
use Rattle.onll_pmem.proofs.Lines.{length-words_of}
use Rattle.onll_model.specs.declared.node.Node.{Node}
use Rattle.onll_model.specs.declared.call.Call.{Call}
use Rattle.onll_model.specs.declared.turn.Turn.{Turn}
use Rattle.onll_model.specs.Object.{Behaviour}
use Rattle.onll_core.specs.Core.{CoreThread, CoreState}
use Rattle.onll_core.specs.Step.{steps_of}
use Rattle.onll_core.specs.Turns.{turns_of}
use Rattle.onll_core.specs.First.{first_threads}
use Rattle.onll_core.specs.Created.{created_core}
use Rattle.onll_log.specs.Head.{heads_from}
use Rattle.onll_core.specs.Crash.{heads_of, images_of}
use Rattle.onll_core.specs.Outcomes.{script_of}
use Rattle.onll_core.proofs.Crashed.{steps_scripts}
use Rattle.onll_core.proofs.Operations.{steps_operations}
use Rattle.onll_merge.specs.Recovered.{state_recovered}
use Rattle.onll_text.specs.Kinds.{kind_by}
use Rattle.onll_text.specs.Wording.{Wording}
use Rattle.onll_text.specs.declared.schedule.Schedule.{Schedule}
use Rattle.onll_text.specs.Schedule.{schedule_of}
use Rattle.onll_outside.specs.Views.{StoreView, with_zeros}
use Rattle.onll_task.specs.declared.answer.Stop.{Stop}
use Rattle.onll_open.specs.Names.{log_names}
use Rattle.onll_task.specs.Images.{AllDecide, writing_stage}
use Rattle.onll_task.specs.Doing.{text_stage, Fulfils, DoesStage}
use Rattle.onll_recovery.specs.ReplayJob.{played, run_task, crash_task, schedule_task}
use Rattle.onll_task.proofs.Standing.{crash_stands}
use Rattle.onll_task.proofs.Stages.{wrote_does, stop_does, read_does}

-- ---- a core's scripts are those that it was made of
made_scripts : {State Op Query Reply : Type 0} (count code : ℕ) (init : List ℕ) (t : ℕ) (scripts : List (List (Call State Op Query Reply)))
    → map script_of (first_threads (heads_from count code init t (length scripts)) scripts) ≡ scripts
made_scripts count code init t [] = refl
made_scripts count code init t (script ∷ scripts) = ap (λ l. script ∷ l) (made_scripts count code init (suc t) scripts)

pub played_scripts : {State Op Query Reply : Type 0} (b : Behaviour State Op Query Reply) (code : ℕ) (init : List ℕ) (s : State) (scripts : List (List (Call State Op Query Reply))) (turns : List Turn)
    → map script_of (played b code init s scripts turns).threads ≡ scripts
played_scripts b code init s scripts turns =
    steps_scripts b (created_core s code init scripts) (turns_of turns) ∙ made_scripts (length scripts) code init 0 scripts

-- ---- the crash
-- an image for each thread
pub images_count : {State Op Query Reply : Type 0} (c : CoreState State Op Query Reply) (keep : ℕ) → length (images_of keep c.threads) ≡ length c.threads
images_count {State} {Op} {Query} {Reply} c keep = length-map c.threads (λ (th : CoreThread State Op Query Reply). image_of th.device keep)

-- the image of a thread's device is the one at its place
image_found : {State Op Query Reply : Type 0} (keep : ℕ) (ths : List (CoreThread State Op Query Reply)) (t : ℕ) (m : MemoryState) (lines : List (List ℕ)) → t < length ths
    → IfSome (slice_get ths t) (λ th. m ≡ record { device = th.device; failing = [] }) → lines ≡ image_of m.device keep → lines ≡ get_or (images_of keep ths) t []
image_found keep [] t m lines less same is = absurd (omega (arith, less))
image_found keep (th ∷ ths) zero m lines less same is = is ∙ ap (λ (x : MemoryState). image_of x.device keep) same
image_found keep (th ∷ ths) (suc t) m lines less same is = image_found keep ths t m lines (omega (arith, less)) same is

pub image_is : {State Op Query Reply : Type 0} (keep : ℕ) (ths : List (CoreThread State Op Query Reply)) (t : ℕ) (m : MemoryState) (front : List Line) (count : ℕ) → t < length ths
    → IfSome (slice_get ths t) (λ th. m ≡ record { device = th.device; failing = [] }) → image_of m.device keep ≡ words_of front ++ zero_lines (length m.device.read - length front)
    → count ≡ length m.device.read → with_zeros (words_of front) count ≡ get_or (images_of keep ths) t []
image_is keep ths t m front count less same is many =
    let zeros : count - length (words_of front) ≡ length m.device.read - length front = omega (arith, many, length-words_of front) in
    image_found keep ths t m (with_zeros (words_of front) count) less same (ap (λ n. words_of front ++ zero_lines n) zeros ∙ sym is)

module _ {State Op Query Reply : Type 0} (b : Behaviour State Op Query Reply) (w : Wording State Op Query Reply) (logs : List ℕ) (resumed : Option ℕ) where
  -- the images were written, and the rest is said by lines that stand for them
  pub crash_does : {V A : Type 0} (scripts : List (List (Call State Op Query Reply))) (c : CoreState State Op Query Reply) (keep : ℕ) {store mid : StoreView} (lines : List (List (List ℕ))) {value : V → Unit {0}} {v : V} (r : Result (Vec ℕ A) Stop)
      → AllDecide lines (images_of keep c.threads)
      → DoesStage (log_names logs 0 (length (images_of keep c.threads))) store mid (writing_stage logs (images_of keep c.threads)) value (Ok v)
      → ((any : StoreView) → Fulfils [] any any (run_task b w resumed scripts c keep (state_recovered b (heads_of c.threads) lines)) r)
      → Fulfils (log_names logs 0 (length c.threads)) store mid (crash_task b w logs resumed scripts c keep) r
  crash_does scripts c keep {store} {mid} lines r stand first says =
      let heads = heads_of c.threads in
      let images = images_of keep c.threads in
      subst (λ m. Fulfils (log_names logs 0 m) store mid (crash_task b w logs resumed scripts c keep) r) (images_count c keep)
      (wrote_does (λ _. run_task b w resumed scripts c keep (state_recovered b heads images)) first
      (λ any. subst (λ recovered. Fulfils [] any any (run_task b w resumed scripts c keep recovered) r) (crash_stands b heads lines images stand) (says any)))

  -- one was not written
  pub crash_stops : {V A : Type 0} (scripts : List (List (Call State Op Query Reply))) (c : CoreState State Op Query Reply) (keep : ℕ) {store after : StoreView} {value : V → Unit {0}} (s : Stop)
      → DoesStage (log_names logs 0 (length (images_of keep c.threads))) store after (writing_stage logs (images_of keep c.threads)) value (Err s)
      → Fulfils {A = A} (log_names logs 0 (length c.threads)) store after (crash_task b w logs resumed scripts c keep) (Err s)
  crash_stops {V} {A} scripts c keep {store} {after} s first =
      subst (λ m. Fulfils {A = A} (log_names logs 0 m) store after (crash_task b w logs resumed scripts c keep) (Err s)) (images_count c keep)
      (stop_does (λ _. run_task b w resumed scripts c keep (state_recovered b (heads_of c.threads) (images_of keep c.threads))) first)

-- ---- the schedule
module _ {State Op Query Reply : Type 0} (b : Behaviour State Op Query Reply) (w : Wording State Op Query Reply) (logs : List ℕ) where
  -- the schedule was read, and its core crashes
  pub schedule_does : {A : Type 0} (code : ℕ) (init : List ℕ) (s : State) (schedule : List ℕ) (scripts : List (List (Call State Op Query Reply))) (n : ℕ) (plan : Schedule) (c : CoreState State Op Query Reply) {store mid after : StoreView} (r : Result (Vec ℕ A) Stop)
      → DoesStage [] store mid (text_stage schedule (schedule_of (length scripts))) (λ (p : Schedule). p) (Ok plan) → c ≡ played b code init s scripts plan.turns → length c.threads ≡ n
      → Fulfils (log_names logs 0 (length c.threads)) mid after (crash_task b w logs None (map script_of c.threads) c plan.keep) r
      → Fulfils (log_names logs 0 n) store after (schedule_task (kind_by b w code) init s schedule logs scripts) r
  schedule_does code init s schedule scripts n plan c {store} {mid} {after} r first e many says =
      let run : CoreState State Op Query Reply = played b code init s scripts plan.turns in
      let by : List (List (Call State Op Query Reply)) → CoreState State Op Query Reply → Type 0 =
      λ scripts core. Fulfils (log_names logs 0 n) mid after (crash_task b w logs None scripts core plan.keep) r in
      read_does (λ (plan : Schedule). crash_task b w logs None scripts (played b code init s scripts plan.turns) plan.keep) first
      (subst (λ scripts. by scripts run) (played_scripts b code init s scripts plan.turns)
      (subst (λ (core : CoreState State Op Query Reply). by (map script_of core.threads) core) e
      (subst (λ m. Fulfils (log_names logs 0 m) mid after (crash_task b w logs None (map script_of c.threads) c plan.keep) r) many says)))

-- ---- the core
-- each row of a core that was made and took steps is an operation's
pub played_operations : {State Op Query Reply : Type 0} (b : Behaviour State Op Query Reply) (code : ℕ) (init : List ℕ) (s : State) (scripts : List (List (Call State Op Query Reply))) (turns : List Turn) (made c : CoreState State Op Query Reply)
    → made ≡ created_core s code init scripts → c ≡ steps_of b made (turns_of turns) → AllByRecursion (λ (n : Node). IsSome (b.op_at n.row)) c.trace
played_operations {State} {Op} {Query} {Reply} b code init s scripts turns made c e steps =
    subst (λ (k : CoreState State Op Query Reply). AllByRecursion (λ (n : Node). IsSome (b.op_at n.row)) k.trace) (sym (steps ∙ ap (λ k. steps_of b k (turns_of turns)) e))
    (steps_operations b (created_core s code init scripts) (turns_of turns) tt)
