use Rattle.std.proofs.Common.{ℕ, suc, List, [], ◌∷◌, ◌≡◌, ◌≤◌, inl, inr, length, Option, Some, None, Result, Ok, refl, sym, subst}
use Rattle.onll_model.specs.declared.call.Call.{Call}
use Rattle.onll_model.specs.Object.{Behaviour}
use Rattle.onll_core.specs.Core.{CoreState}
use Rattle.onll_core.specs.Turns.{turns_of}
use Rattle.onll_core.specs.Created.{created_core, IsWithinLimits}
use Rattle.onll_core.specs.Crash.{heads_of, images_of}
use Rattle.onll_core.proofs.Created.{created_consistent}
use Rattle.onll_core.proofs.Kept.{steps_consistent}
use Rattle.onll_core.proofs.Crashed.{picked_images}
use Rattle.onll_core.proofs.Durable.{always_durable}
use Rattle.onll_text.specs.declared.any_object.AnyObject.{AnyObject}
use Rattle.onll_text.specs.declared.schedule.Schedule.{Schedule}
use Rattle.onll_text.specs.Wording.{Wording}
use Rattle.onll_text.specs.Init.{init_of}
use Rattle.onll_text.specs.Kinds.{ObjectKind, kind_at}
use Rattle.onll_text.specs.Schedule.{schedule_of}
use Rattle.onll_outside.specs.Views.{StoreView, image_bytes}
use Rattle.onll_task.specs.declared.ending.Ending.{Ending}
use Rattle.onll_task.specs.declared.ending.Ending.TheVariants.{Done, Usage, BadLog, Faulty, Judged}
use Rattle.onll_merge.specs.declared.fault.StateFault.{StateFault}
use Rattle.onll_task.specs.Reading.{ReadsWhole}
use Rattle.onll_task.specs.Writing.{FilesStay, written}
use Rattle.onll_open.specs.Files.{SameCounts}
use Rattle.onll_task.specs.Job.{Job, Threads, JobEnds}
use Rattle.onll_open.specs.Names.{log_name}
use Rattle.onll_task.specs.Images.{writing_images}
use Rattle.onll_jobs.specs.Seen.{Seen}
use Rattle.onll_jobs.specs.Command.{form_of, Replay, ReplayOver, over_task, object_task, over_work}
use Rattle.onll_jobs.specs.Says.{job_of, PutWhole}
use Rattle.onll_merge.specs.Recovered.{Recovered, recovered_with, state_recovered}
use Rattle.onll_recovery.specs.ReplayJob.{played, replay_report, run_task, crash_task, schedule_task, scripts_task}
use Rattle.onll_jobs.specs.Durable.{with_images, HasReplayed, HasReplayedAny, ReplayPut}
use Rattle.onll_task.specs.Doing.{Task}
use Rattle.onll_recovery.proofs.Crashes.{crash_recovered}
use Rattle.onll_jobs.proofs.SaidEnds.{IsSaid, said_read, can_write, many_scripts, few_updates, whole_ends, scripts_end}
use Rattle.onll_text.proofs.EachKind.{IsKnown, kind_goes}
use Rattle.onll_jobs.proofs.Forms.{few-scripts}

-- How a replay ends where each file is read and written and no text is refused: it is done, and its run is durable.

-- how a replay ended
record ReplayEnds (store after : StoreView) (init schedule logs : List ℕ) (names : List (List ℕ)) (ending : Ending) (text : List ℕ) : Type 0 where
  pub done : ending ≡ Done
  pub bytes : List ℕ
  pub object : AnyObject
  pub read : ReadsWhole store init_of init bytes object
  pub replayed : HasReplayedAny bytes store after schedule logs names text object

module _ (after : StoreView) (ending : Ending) (text : List ℕ) (said : IsSaid ending) where
  pub images_end : (store : StoreView) (logs : List ℕ) (i : ℕ) (images : List (List (List ℕ))) (next : Job) → JobEnds store after (writing_images logs i images next) ending text → JobEnds (with_images store logs i images) after next ending text
  images_end store logs i [] next h = h
  images_end store logs i (image ∷ images) next (inl h) = absurd (can_write store after (log_name logs i) ending text said h)
  images_end store logs i (image ∷ images) next (inr h) = images_end (written store (log_name logs i) (image_bytes image)) logs (suc i) images next h

  module _ {State Op Query Reply : Type 0} (b : Behaviour State Op Query Reply) (w : Wording State Op Query Reply) (store : StoreView) where
    -- what a crash says of a core whose images recover
    pub crash_ends : (logs : List ℕ) (resumed : Option ℕ) (scripts : List (List (Call State Op Query Reply))) (c : CoreState State Op Query Reply) (keep : ℕ) (r : Recovered) → state_recovered b (heads_of c.threads) (images_of keep c.threads) ≡ Ok r
        → JobEnds store after (crash_task b w logs resumed scripts c keep).job ending text
        → (ending ≡ Done) × (text ≡ replay_report b w resumed c keep r)
        × FilesStay (with_images store logs 0 (images_of keep c.threads)) after × SameCounts (with_images store logs 0 (images_of keep c.threads)) after
    crash_ends logs resumed scripts c keep r e h =
        let images = images_of keep c.threads in
        subst (λ (x : Result Recovered StateFault). JobEnds (with_images store logs 0 images) after (run_task b w resumed scripts c keep x).job ending text) e
        (images_end store logs 0 images (run_task b w resumed scripts c keep (state_recovered b (heads_of c.threads) images)).job h)

  -- ---- what was replayed
  on_ends : (k : ObjectKind) → IsKnown k → (store : StoreView) (init : List ℕ) (s : k.State) (schedule logs : List ℕ) (names : List (List ℕ)) → length names ≤ 16
      → JobEnds store after (scripts_task k init schedule logs names s).job ending text → (ending ≡ Done) × HasReplayed k init s store after schedule logs names text
  on_ends k is store init s schedule logs names few h =
      let b = k.means in
      let w = k.wording in
      let read = scripts_end after ending text (said_read ending said) w store names (λ scripts. (schedule_task k init s schedule logs scripts).job) h in
      let scripts = read.scripts in
      let count = length scripts in
      let planned = whole_ends after ending text (said_read ending said) store schedule (schedule_of count) (λ bytes (plan : Schedule). (crash_task b w logs None scripts (played b k.code init s scripts plan.turns) plan.keep).job) read.ends in
      let plan = planned.value in
      let core = played b k.code init s scripts plan.turns in
      let images = images_of plan.keep core.threads in
      let within : IsWithinLimits k.code scripts = record { code = is; few = subst (λ (n : ℕ). n ≤ 16) (sym (many_scripts w store names scripts read.read)) few; updates = few_updates w store names scripts read.read } in
      let durable = always_durable b k.code init s scripts (created_core s k.code init scripts) within (inl refl) in
      let left = picked_images count core plan.keep (steps_consistent b count (created_core s k.code init scripts) (turns_of plan.turns) (created_consistent s k.code init scripts within)) in
      let crash = (durable (turns_of plan.turns)).crash images left in
      let is_recovered = crash_recovered b k.code init s scripts (turns_of plan.turns) images crash.recovers in
      let end = crash_ends b w store logs None scripts core plan.keep (recovered_with crash.recovers.logs crash.recovers.nodes) is_recovered planned.ends in (
        end.0,
        record {
          scripts = scripts;
          plan = plan;
          read = read.read;
          planned = record { bytes = planned.bytes; held = planned.read.held; accepted = planned.read.accepted };
          durable = durable;
          core = core;
          run = refl;
          crash = crash;
          printed = end.1;
          files = end.2;
        },
      )

  any_ends : (store : StoreView) (init schedule logs : List ℕ) (names : List (List ℕ)) (object : AnyObject) → length names ≤ 16
      → JobEnds store after (object_task (ReplayOver schedule logs names) init object).job ending text
      → (ending ≡ Done) × HasReplayedAny init store after schedule logs names text object
  any_ends store init schedule logs names object few h =
      kind_goes {A = Task} (λ kind s. over_task (ReplayOver schedule logs names) (kind_at kind) (Threads kind) init s) (λ task. JobEnds store after task.job ending text)
      (λ k s. HasReplayed k init s store after schedule logs names text) (λ says. (ending ≡ Done) × says)
      (λ kind s known h. on_ends (kind_at kind) known store init s schedule logs names few h) object h

  job_ends : (store : StoreView) (init schedule logs : List ℕ) (names : List (List ℕ)) → length names ≤ 16
      → JobEnds store after (over_work init (ReplayOver schedule logs names)).task.job ending text → ReplayEnds store after init schedule logs names ending text
  job_ends store init schedule logs names few h =
      let read = whole_ends after ending text (said_read ending said) store init init_of (λ bytes object. (object_task (ReplayOver schedule logs names) bytes object).job) h in
      let end = any_ends store read.bytes schedule logs names read.value few read.ends in
      record { done = end.0; bytes = read.bytes; object = read.value; read = read.read; replayed = end.1 }

-- ---- the call
module _ (seen : Seen) (init schedule logs : List ℕ) (names : List (List ℕ)) (form : form_of seen.words ≡ Some (Replay init schedule logs names)) where
  replay_put : (ending : Ending) → IsSaid ending → (h : PutWhole seen ending) → ReplayEnds seen.store seen.store_after init schedule logs names ending h.text
  replay_put ending said h = job_ends seen.store_after ending h.text said seen.store init schedule logs names (few-scripts seen.words init schedule logs names form)
      (subst (λ form. JobEnds seen.store seen.store_after (job_of form) ending h.text) form h.allowed)

  -- a replay never says the usage, nor that a log is bad, nor that a fence failed, nor that a report is wrong
  pub replay_not_usage : PutWhole seen Usage → ⊥
  replay_not_usage h = let e = (replay_put Usage tt h).done in cc

  pub replay_not_bad : PutWhole seen BadLog → ⊥
  replay_not_bad h = let e = (replay_put BadLog tt h).done in cc

  pub replay_not_faulty : PutWhole seen Faulty → ⊥
  replay_not_faulty h = let e = (replay_put Faulty tt h).done in cc

  pub replay_not_judged : PutWhole seen Judged → ⊥
  replay_not_judged h = let e = (replay_put Judged tt h).done in cc

  -- one that is done is durable
  pub replay_durable : PutWhole seen Done → ReplayPut seen init schedule logs names
  replay_durable h = let r = replay_put Done tt h in record { bytes = r.bytes; object = r.object; read = r.read; text = h.text; replayed = r.replayed; put = h.put }
