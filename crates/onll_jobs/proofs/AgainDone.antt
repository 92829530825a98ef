-- A run that goes on from images in told files, whose texts are told and accepted, is done, or a script has too many updates.

use Rattle.std.proofs.Common.{ℕ, suc, List, [], ◌∷◌, ◌≡◌, ◌≤◌, inr, length, Option, Some, Result, Ok, Err, refl, sym, ◌∙◌, subst}
use Rattle.std.specs.List.{AllByRecursion}
use Rattle.onll_model.specs.declared.call.Call.{Call}
use Rattle.onll_model.specs.Object.{Behaviour}
use Rattle.onll_start.specs.declared.fault.ResumeFault.{ResumeFault}
use Rattle.onll_start.specs.declared.fault.ResumeFault.TheVariants.{Images, OldFormat, NotOp, TooMany, NoMemory}
use Rattle.onll_start.specs.Heads.{created_heads}
use Rattle.onll_start.specs.Start.{Found, found_in}
use Rattle.onll_core.specs.Core.{CoreState}
use Rattle.onll_core.specs.Turns.{turns_of}
use Rattle.onll_core.specs.Step.{steps_of}
use Rattle.onll_core.specs.Created.{IsWithinLimits}
use Rattle.onll_log.specs.Head.{heads_from}
use Rattle.onll_core.specs.Crash.{heads_of, images_of}
use Rattle.onll_core.specs.Durable.{CoreBegins}
use Rattle.onll_core.specs.Resume.{resumed}
use Rattle.onll_core.proofs.Kept.{steps_consistent}
use Rattle.onll_core.proofs.Crashed.{picked_images}
use Rattle.onll_core.proofs.Durable.{begun_starts, always_durable}
use Rattle.onll_core.proofs.ReachedCores.{reached_consistent}
use Rattle.onll_text.specs.declared.any_object.AnyObject.{AnyObject}
use Rattle.onll_text.specs.Init.{init_of}
use Rattle.onll_text.specs.declared.any_object.Kind.{Kind}
use Rattle.onll_text.specs.Kinds.{ObjectKind, kind_at, on_object}
use Rattle.onll_text.specs.Refusal.{Refusal}
use Rattle.onll_text.specs.Schedule.{schedule_of}
use Rattle.onll_text.specs.Script.{script_of}
use Rattle.onll_text.specs.Wording.{Wording}
use Rattle.onll_text.proofs.EachKind.{IsKnown, kind_goes}
use Rattle.onll_outside.specs.Views.{StoreView, image_bytes}
use Rattle.onll_task.specs.declared.ending.Ending.{Ending}
use Rattle.onll_task.specs.declared.ending.Ending.TheVariants.{Done, Refused}
use Rattle.onll_task.specs.declared.ending.Exit.{Exit}
use Rattle.onll_task.specs.Doing.{Task, lines_stage, each_job}
use Rattle.onll_open.specs.Names.{log_name, log_names}
use Rattle.onll_task.specs.Images.{writing_images}
use Rattle.onll_task.specs.Job.{Job, Threads, Decides, on_value, reading_whole}
use Rattle.onll_task.specs.Printed.{exit_status}
use Rattle.onll_task.specs.Reading.{FileIsTold}
use Rattle.onll_task.specs.Writing.{written}
use Rattle.onll_log.specs.Torn.{AreLines}
use Rattle.onll_merge.specs.declared.fault.StateFault.{StateFault}
use Rattle.onll_merge.specs.Recovered.{Recovered, recovered_with, state_recovered}
use Rattle.onll_recovery.specs.AgainJob.{resumed_task, goes_on_task, planned_task, again_task}
use Rattle.onll_task.specs.NotResumed.{resume_text}
use Rattle.onll_recovery.specs.ReplayJob.{replay_report, run_task, crash_task}
use Rattle.onll_task.specs.Scripts.{scripts_stage}
use Rattle.onll_recovery.proofs.Resumes.{GoesOrMany, goes_or_many, resumed_on, on_recovered}
use Rattle.onll_jobs.specs.AgainPromises.{TellsValue, TellScripts, TellsPlan, SaysOn, GoesOnLeft, GoesOnRun, RunGoesOn}
use Rattle.onll_jobs.specs.Command.{form_of, Again, AgainOver, over_task, object_task, over_work}
use Rattle.onll_eras.specs.Restored.{TellLogs}
use Rattle.onll_jobs.specs.Says.{job_of, ExitSays, NoneRose, SaysThis}
use Rattle.onll_jobs.specs.Seen.{Seen}
use Rattle.onll_jobs.proofs.AgainEnds.{image_eight}
use Rattle.onll_jobs.proofs.ExitCauses.{decided_exactly}
use Rattle.onll_jobs.proofs.Forms.{few-scripts-again}
use Rattle.onll_jobs.proofs.CrashLeft.{left_many, left_images}
use Rattle.onll_jobs.proofs.RecoverCrashes.{decides_images}
use Rattle.onll_jobs.proofs.RecoverRuns.{run_images}
use Rattle.onll_jobs.proofs.SaidEnds.{many_scripts, few_updates}
use Rattle.onll_jobs.proofs.Told.{told_read}

-- ---- what told files decide
module _ (ending : Ending) (text : List ℕ) where
  decides_value : {A : Type 0} (store : StoreView) (name : List ℕ) (grammar : List ℕ → Result A Refusal) (next : List ℕ → A → Job) (value : A) (told : TellsValue store grammar name value)
      → Decides store (next told.bytes value) ending text → Decides store (reading_whole name grammar next) ending text
  decides_value {A} store name grammar next value told d =
      (told.bytes, (told.told, subst (λ (r : Result A Refusal). Decides store (on_value name (next told.bytes) r) ending text) (sym told.accepted) d))

  pub decides_scripts : {State Op Query Reply : Type 0} (w : Wording State Op Query Reply) (store : StoreView) (names : List (List ℕ)) (scripts : List (List (Call State Op Query Reply))) (next : List (List (Call State Op Query Reply)) → Job)
      → TellScripts w store names scripts → Decides store (next scripts) ending text → Decides store ((scripts_stage w names).job next) ending text
  decides_scripts w store [] [] next told d = d
  decides_scripts w store [] (script ∷ scripts) next told d = absurd told
  decides_scripts w store (name ∷ names) [] next told d = absurd told
  decides_scripts w store (name ∷ names) (script ∷ scripts) next told d =
      decides_value store name (script_of w) (λ bytes calls. (scripts_stage w names).job (λ more. next (calls ∷ more))) script told.0
      (decides_scripts w store names scripts (λ more. next (script ∷ more)) told.1 d)

  decides_writes : (store : StoreView) (logs : List ℕ) (i : ℕ) (images : List (List (List ℕ))) (next : Job) → ((any : StoreView) → Decides any next ending text) → Decides store (writing_images logs i images next) ending text
  decides_writes store logs i [] next d = d store
  decides_writes store logs i (image ∷ images) next d = decides_writes (written store (log_name logs i) (image_bytes image)) logs (suc i) images next d

told_eight : (store : StoreView) (logs : List ℕ) (i : ℕ) (images : List (List (List ℕ))) → TellLogs store logs i images → AllByRecursion AreLines images
told_eight store logs i [] h = tt
told_eight store logs i (image ∷ images) h = (subst AreLines (sym h.0.image) (image_eight h.0.bytes), told_eight store logs (suc i) images h.1)

-- ---- what a core that goes on, or none, makes of it
run_decides : {State Op Query Reply : Type 0} (b : Behaviour State Op Query Reply) (w : Wording State Op Query Reply) (store : StoreView) (logs : List ℕ) (on : Option ℕ) (scripts : List (List (Call State Op Query Reply))) (c : CoreState State Op Query Reply) (keep : ℕ) (r : Recovered)
    → state_recovered b (heads_of c.threads) (images_of keep c.threads) ≡ Ok r → Decides store (crash_task b w logs on scripts c keep).job Done (replay_report b w on c keep r)
run_decides b w store logs on scripts c keep r e =
    decides_writes Done (replay_report b w on c keep r) store logs 0 (images_of keep c.threads) (run_task b w on scripts c keep (state_recovered b (heads_of c.threads) (images_of keep c.threads))).job
    (λ any. subst (λ (x : Result Recovered StateFault). Decides any (run_task b w on scripts c keep x).job Done (replay_report b w on c keep r)) (sym e) (refl, refl))

-- ---- the call
module _ (seen : Seen) (x : Exit) (says : ExitSays seen x) (init schedule logs bytes : List ℕ) (names : List (List ℕ)) (object : AnyObject)
    (form : form_of seen.words ≡ Some (Again init schedule logs names)) (told : FileIsTold seen.store init bytes) (accepted : init_of bytes ≡ Ok object) (none : NoneRose seen) where
  pub object_says : (ending : Ending) (text : List ℕ) → Decides seen.store (object_task (AgainOver schedule logs names) bytes object).job ending text → SaysThis seen (exit_status x) ending text
  object_says ending text d =
      let on : Result AnyObject Refusal → Job = λ r. on_value init (λ o. (object_task (AgainOver schedule logs names) bytes o).job) r in
      let job : Decides seen.store (over_work init (AgainOver schedule logs names)).task.job ending text =
      (bytes, (told, subst (λ (r : Result AnyObject Refusal). Decides seen.store (on r) ending text) (sym accepted) d)) in
      decided_exactly seen x ending text (subst (λ f. Decides seen.store (job_of f) ending text) (sym form) job) none says

  module _ (k : ObjectKind) (is : IsKnown k) (s : k.State) (few : length names ≤ 16)
      (say : (ending : Ending) (text : List ℕ) → Decides seen.store (again_task k bytes schedule logs names s).job ending text → SaysThis seen (exit_status x) ending text)
      (texts : TellsPlan k seen.store schedule names) (images : List (List (List ℕ))) (files : TellLogs seen.store logs 0 images) (many : length images ≡ length names) where
    as_many : length images ≡ length texts.scripts
    as_many = many ∙ sym (many_scripts k.wording seen.store names texts.scripts (told_read k.wording seen.store names texts.scripts texts.tell))

    eight : AllByRecursion AreLines images
    eight = told_eight seen.store logs 0 images files

    within : IsWithinLimits k.code texts.scripts
    within = record {
      code = is;
      few = subst (λ (n : ℕ). n ≤ 16) (sym (many_scripts k.wording seen.store names texts.scripts (told_read k.wording seen.store names texts.scripts texts.tell))) few;
      updates = few_updates k.wording seen.store names texts.scripts (told_read k.wording seen.store names texts.scripts texts.tell);
    }

    -- what is decided of what goes on from the images is said
    found_says : (ending : Ending) (text : List ℕ) → Decides seen.store (resumed_task k.means k.wording logs names texts.scripts texts.plan (resumed k.means k.code bytes s images texts.scripts)).job ending text
        → SaysThis seen (exit_status x) ending text
    found_says ending text d =
        let scripts = texts.scripts in
        let goes : List (List (List ℕ)) → Job = λ images. (resumed_task k.means k.wording logs names scripts texts.plan (resumed k.means k.code bytes s images scripts)).job in
        let read = subst (λ (n : ℕ). Decides seen.store (each_job lines_stage (log_names logs 0 n) goes) ending text) as_many (decides_images seen.store logs 0 images goes ending text files d) in
        say ending text
        (decides_scripts ending text k.wording seen.store names scripts (λ scripts. (planned_task k bytes s schedule logs names scripts).job) texts.tell
        (decides_value ending text seen.store schedule (schedule_of (length scripts)) (λ read plan. (goes_on_task k bytes s logs names scripts plan).job) texts.plan texts.planned read))

    pub says_on : GoesOrMany (resumed k.means k.code bytes s images texts.scripts) → SaysOn k bytes s seen (exit_status x) logs names texts.scripts texts.plan (resumed k.means k.code bytes s images texts.scripts)
    says_on fine = by (resumed k.means k.code bytes s images texts.scripts) refl fine
      where
        by : (found : Result (CoreState k.State k.Op k.Query k.Reply) ResumeFault) → resumed k.means k.code bytes s images texts.scripts ≡ found → GoesOrMany found
            → SaysOn k bytes s seen (exit_status x) logs names texts.scripts texts.plan found
        by (Ok begun) e h =
            let b = k.means in
            let scripts = texts.scripts in
            let plan = texts.plan in
            let ts = turns_of plan.turns in
            let core = steps_of b begun ts in
            let taken = images_of plan.keep core.threads in
            let on = resumed_on b k.code bytes s scripts images begun as_many e in
            let count = length scripts in
            let begins : CoreBegins b k.code bytes s scripts begun = inr (record { images = images; lines = eight; as_many = as_many; resumed = e }) in
            let starts = begun_starts b k.code bytes s scripts within begun begins in
            let left = picked_images count core plan.keep (steps_consistent b count begun ts (reached_consistent b count begun starts.reached)) in
            let crash = (always_durable b k.code bytes s scripts begun within begins ts).crash taken left in
            let r : Recovered = recovered_with crash.recovers.logs crash.recovers.nodes in
            let report = replay_report b k.wording (Some begun.base) core plan.keep r in
            record {
              crash = crash;
              says = subst (λ n. SaysThis seen (exit_status x) Done (replay_report b k.wording (Some n) core plan.keep r)) starts.base_is (found_says Done report
                  (subst (λ (found : Result (CoreState k.State k.Op k.Query k.Reply) ResumeFault). Decides seen.store (resumed_task b k.wording logs names scripts plan found).job Done report) (sym e)
                  (run_decides b k.wording seen.store logs (Some begun.base) scripts core plan.keep r (on_recovered b (created_heads k.code bytes scripts) scripts begun on ts taken crash.recovers))));
            }
        by (Err (TooMany thread)) e h =
            let text = resume_text names (TooMany thread) in
            found_says Refused text
            (subst (λ (found : Result (CoreState k.State k.Op k.Query k.Reply) ResumeFault). Decides seen.store (resumed_task k.means k.wording logs names texts.scripts texts.plan found).job Refused text) (sym e) (refl, refl))
        by (Err (Images fault)) e h = absurd h
        by (Err (OldFormat log)) e h = absurd h
        by (Err (NotOp place)) e h = absurd h
        by (Err NoMemory) e h = absurd h

-- ---- what is promised
module _ (seen : Seen) (x : Exit) (says : ExitSays seen x) (init schedule logs bytes : List ℕ) (names : List (List ℕ)) (object : AnyObject)
    (form : form_of seen.words ≡ Some (Again init schedule logs names)) (told : FileIsTold seen.store init bytes) (accepted : init_of bytes ≡ Ok object) (none : NoneRose seen) where
  -- from images that give nodes, as logs with the heads of as many threads, the scripts go on
  module _ (k : ObjectKind) (is : IsKnown k) (s : k.State)
      (say : (ending : Ending) (text : List ℕ) → Decides seen.store (again_task k bytes schedule logs names s).job ending text → SaysThis seen (exit_status x) ending text)
      (texts : TellsPlan k seen.store schedule names) (images : List (List (List ℕ))) (files : TellLogs seen.store logs 0 images) (many : length images ≡ length names)
      (found : Found) (gives : found_in k.means (heads_from (length names) k.code bytes 0 (length names)) images ≡ Ok found) where
    gives_on : SaysOn k bytes s seen (exit_status x) logs names texts.scripts texts.plan (resumed k.means k.code bytes s images texts.scripts)
    gives_on =
        let count = many_scripts k.wording seen.store names texts.scripts (told_read k.wording seen.store names texts.scripts texts.tell) in
        let same = subst (λ (n : ℕ). found_in k.means (heads_from n k.code bytes 0 n) images ≡ Ok found) (sym count) gives in
        says_on seen x says init schedule logs bytes names object form told accepted none k is s (few-scripts-again seen.words init schedule logs names form) say texts images files many
        (goes_or_many k.means k.code bytes s texts.scripts images found same)

  abbrev Over : ((k : ObjectKind) → k.State → Type 0) → Type 0
  Over Holds = ((kind : Kind) (s : (kind_at kind).State) → IsKnown (kind_at kind)
      → ((ending : Ending) (text : List ℕ) → Decides seen.store (again_task (kind_at kind) bytes schedule logs names s).job ending text → SaysThis seen (exit_status x) ending text) → Holds (kind_at kind) s)
      → on_object Holds object

  over : (Holds : (k : ObjectKind) → k.State → Type 0) → Over Holds
  over Holds f =
      kind_goes {A = Task} (λ kind s. over_task (AgainOver schedule logs names) (kind_at kind) (Threads kind) bytes s)
      (λ task. (ending : Ending) (text : List ℕ) → Decides seen.store task.job ending text → SaysThis seen (exit_status x) ending text) Holds (λ says. says) (λ kind s known say. f kind s known say)
      object (object_says seen x says init schedule logs bytes names object form told accepted none)

  left_goes_on : on_object (λ k s. GoesOnLeft k bytes s seen (exit_status x) schedule logs names) object
  left_goes_on = over (λ k s. GoesOnLeft k bytes s seen (exit_status x) schedule logs names)
      (λ kind s known say texts left.
      let k = kind_at kind in
      let leaves = (left_images k bytes s seen.store logs (length names) left).leaves in
      record {
        leaves = leaves;
        says = gives_on k known s say texts left.images left.files (left_many k bytes s seen.store logs (length names) left)
            (record { logs = leaves.all.recovers.logs; nodes = leaves.all.recovers.nodes }) leaves.gives;
      })

  run_goes_on : on_object (λ k s. GoesOnRun k bytes s seen (exit_status x) schedule logs names) object
  run_goes_on = over (λ k s. GoesOnRun k bytes s seen (exit_status x) schedule logs names)
      (λ kind s known say texts left.
      let k = kind_at kind in
      let held = run_images seen bytes logs (length names) k s told.tells left in
      record {
        images = held.images;
        files = held.files;
        recovers = held.recovers;
        gives = held.gives;
        says = gives_on k known s say texts held.images held.files held.many (record { logs = held.recovers.logs; nodes = held.recovers.nodes }) held.gives;
      })

pub goes_on_left : (seen : Seen) (x : Exit) → ExitSays seen x → RunGoesOn seen (λ k bytes s schedule logs names. GoesOnLeft k bytes s seen (exit_status x) schedule logs names)
goes_on_left seen x says init schedule logs bytes names object form told accepted none = left_goes_on seen x says init schedule logs bytes names object form told accepted none

pub goes_on_run : (seen : Seen) (x : Exit) → ExitSays seen x → RunGoesOn seen (λ k bytes s schedule logs names. GoesOnRun k bytes s seen (exit_status x) schedule logs names)
goes_on_run seen x says init schedule logs bytes names object form told accepted none = run_goes_on seen x says init schedule logs bytes names object form told accepted none
