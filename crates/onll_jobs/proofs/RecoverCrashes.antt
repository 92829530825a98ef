use Rattle.std.proofs.Common.{ℕ, suc, List, [], ◌∷◌, ◌≡◌, length, Result, Ok, refl, sym, subst, Some}
use Rattle.onll_log.specs.ImageFile.{image_lines}
use Rattle.onll_text.specs.declared.any_object.AnyObject.{AnyObject}
use Rattle.onll_text.specs.Refusal.{Refusal}
use Rattle.onll_text.specs.Init.{init_of}
use Rattle.onll_text.specs.Kinds.{ObjectKind, kind_at}
use Rattle.onll_outside.specs.Views.{StoreView}
use Rattle.onll_task.specs.declared.ending.Ending.{Ending}
use Rattle.onll_task.specs.declared.ending.Ending.TheVariants.{Done}
use Rattle.onll_task.specs.declared.ending.Exit.{Exit}
use Rattle.onll_task.specs.Reading.{FileIsTold}
use Rattle.onll_task.specs.Job.{Job, Threads, Decides, on_value}
use Rattle.onll_open.specs.Names.{log_names}
use Rattle.onll_task.specs.Doing.{lines_stage, each_job}
use Rattle.onll_jobs.specs.Seen.{Seen}
use Rattle.onll_jobs.specs.Command.{form_of, Recover, RecoverOver, over_task, object_task, over_work}
use Rattle.onll_task.specs.Printed.{exit_status}
use Rattle.onll_jobs.specs.Says.{job_of, ExitSays, NoneRose, SaysThis}
use Rattle.onll_recovery.specs.RecoverJob.{recover_report, recovered_task, recover_task}
use Rattle.onll_merge.specs.Recovered.{Recovered, recovered_with}
use Rattle.onll_eras.specs.Restored.{TellLogs}
use Rattle.onll_jobs.specs.Durable.{AreLeftFiles, RecoversLeft, RecoversCrashes}
use Rattle.onll_task.specs.Doing.{Task}
use Rattle.onll_task.specs.Recovering.{on_recovery, recovery_of}
use Rattle.onll_task.proofs.Recovering.{recovery_decides}
use Rattle.onll_text.proofs.EachKind.{kind_goes}
use Rattle.onll_jobs.proofs.CrashLeft.{left_many, left_images}
use Rattle.onll_jobs.proofs.ExitCauses.{decided_exactly}

-- What a crash left in told files is recovered.

pub decides_images : (store : StoreView) (logs : List ℕ) (i : ℕ) (images : List (List (List ℕ))) (next : List (List (List ℕ)) → Job) (ending : Ending) (text : List ℕ)
    → TellLogs store logs i images → Decides store (next images) ending text → Decides store (each_job lines_stage (log_names logs i (length images)) next) ending text
decides_images store logs i [] next ending text told d = d
decides_images store logs i (image ∷ images) next ending text told d =
    let here = told.0 in (
      here.bytes,
      (
        here.told,
        decides_images store logs (suc i) images (λ more. next (image_lines here.bytes ∷ more)) ending text told.1
            (subst (λ lines. Decides store (next (lines ∷ images)) ending text) here.image d),
      ),
    )

-- how a recovery goes on with these images
abbrev pub recover_over : (k : ObjectKind) → List ℕ → k.State → List (List (List ℕ)) → Job
recover_over k init s images = on_recovery (λ r. (recovered_task k s r).job) (recovery_of k init images)

pub images_decide : (k : ObjectKind) (init : List ℕ) (store : StoreView) (s : k.State) (images : List (List (List ℕ))) (r : Recovered) → recovery_of k init images ≡ Ok r
    → Decides store (recover_over k init s images) Done (recover_report k.means k.wording s r)
images_decide k init store s images r e =
    recovery_decides (λ r. (recovered_task k s r).job) store (recovery_of k init images) r Done (recover_report k.means k.wording s r) e (refl, refl)

-- the call says what the told files decide
module _ (seen : Seen) (x : Exit) (says : ExitSays seen x) (init logs bytes : List ℕ) (threads : ℕ) (object : AnyObject)
    (form : form_of seen.words ≡ Some (Recover init logs threads)) (told : FileIsTold seen.store init bytes) (accepted : init_of bytes ≡ Ok object) (none : NoneRose seen) where
  pub object_says : (text : List ℕ) → Decides seen.store (object_task (RecoverOver logs threads) bytes object).job Done text
      → SaysThis seen (exit_status x) Done text
  object_says text d =
      let on : Result AnyObject Refusal → Job = λ r. on_value init (λ o. (object_task (RecoverOver logs threads) bytes o).job) r in
      let job : Decides seen.store (over_work init (RecoverOver logs threads)).task.job Done text =
      (bytes, (told, subst (λ (r : Result AnyObject Refusal). Decides seen.store (on r) Done text) (sym accepted) d)) in
      decided_exactly seen x Done text (subst (λ f. Decides seen.store (job_of f) Done text) (sym form) job) none says

  left_recovers : (k : ObjectKind) (s : k.State)
      → ((text : List ℕ) → Decides seen.store (recover_task k bytes logs threads s).job Done text → SaysThis seen (exit_status x) Done text)
      → (left : AreLeftFiles k bytes s seen.store logs threads) → RecoversLeft k bytes s seen (exit_status x) logs threads left
  left_recovers k s say left =
      let b = k.means in
      let w = k.wording in
      let held = left_images k bytes s seen.store logs threads left in
      let leaves = held.leaves in
      let r : Recovered = recovered_with leaves.all.recovers.logs leaves.all.recovers.nodes in
      let recovered = images_decide k bytes seen.store s left.images r held.recovered in
      record {
        leaves = leaves;
        says = say (recover_report b w s r) (subst (λ (n : ℕ). Decides seen.store (each_job lines_stage (log_names logs 0 n) (recover_over k bytes s)) Done (recover_report b w s r)) (left_many k bytes s seen.store logs threads left)
            (decides_images seen.store logs 0 left.images (recover_over k bytes s) Done (recover_report b w s r) left.files recovered));
      }

pub recovers_crashes : (seen : Seen) (x : Exit) → ExitSays seen x → RecoversCrashes seen (exit_status x)
recovers_crashes seen x says init logs bytes threads object form told accepted none =
    kind_goes {A = Task} (λ kind s. over_task (RecoverOver logs threads) (kind_at kind) (Threads kind) bytes s)
    (λ task. (text : List ℕ) → Decides seen.store task.job Done text → SaysThis seen (exit_status x) Done text)
    (λ k s. (left : AreLeftFiles k bytes s seen.store logs threads) → RecoversLeft k bytes s seen (exit_status x) logs threads left)
    (λ says. says)
    (λ kind s known say left. left_recovers seen x says init logs bytes threads object form told accepted none (kind_at kind) s say left)
    object (object_says seen x says init logs bytes threads object form told accepted none)
