-- How `detect` ends where each file is read and no text is refused: it is done, or the logs are bad.

use Rattle.std.proofs.Common.{ℕ, List, ◌≡◌, ◌⊎◌, inl, inr, ⊎_elim, length, Option, Some, None, subst}
use Rattle.onll_model.specs.declared.call.Call.{Call}
use Rattle.onll_model.specs.declared.node.Node.{Node}
use Rattle.onll_model.specs.Object.{Behaviour}
use Rattle.onll_merge.specs.Recovered.{Recovered}
use Rattle.onll_text.specs.Init.{init_of}
use Rattle.onll_text.specs.Kinds.{ObjectKind, kind_at}
use Rattle.onll_text.specs.Wording.{Wording}
use Rattle.onll_text.proofs.EachKind.{each_kind}
use Rattle.onll_outside.specs.Views.{StoreView}
use Rattle.onll_task.specs.declared.ending.Ending.{Ending}
use Rattle.onll_task.specs.declared.ending.Ending.TheVariants.{Done, Usage, BadLog, Faulty, Judged}
use Rattle.onll_task.specs.Doing.{Task}
use Rattle.onll_open.specs.Names.{log_names}
use Rattle.onll_task.specs.Job.{Job, JobEnds, Threads}
use Rattle.onll_task.specs.Recovering.{on_recovery, recovery_of}
use Rattle.onll_task.proofs.Recovering.{recovery_ends}
use Rattle.onll_recovery.specs.DetectJob.{stranger_to, nodes_task, detected_task, detect_logs_task, detect_task}
use Rattle.onll_jobs.specs.Command.{Detect, form_of, DetectOver, over_task, object_task}
use Rattle.onll_jobs.specs.Says.{job_of, PutWhole}
use Rattle.onll_jobs.specs.Seen.{Seen}
use Rattle.onll_jobs.proofs.SaidEnds.{IsSaid, said_read, images_read, whole_ends, scripts_end}

module _ (after : StoreView) (ending : Ending) (text : List ℕ) (said : IsSaid ending) where
  module _ {State Op Query Reply : Type 0} (b : Behaviour State Op Query Reply) (w : Wording State Op Query Reply) (store : StoreView) (s : State)
      (scripts : List (List (Call State Op Query Reply))) where
    nodes_said : (nodes : List Node) (place : Option ℕ) → JobEnds store after (nodes_task b w s scripts nodes place).job ending text
        → (ending ≡ Done) ⊎ (ending ≡ BadLog)
    nodes_said nodes None h = inl h.0
    nodes_said nodes (Some place) h = inr h.0

  detect_said : (k : ObjectKind) (store : StoreView) (init logs : List ℕ) (names : List (List ℕ)) (s : k.State)
      → JobEnds store after (detect_task k init logs names s).job ending text → (ending ≡ Done) ⊎ (ending ≡ BadLog)
  detect_said k store init logs names s h =
      let read = scripts_end after ending text (said_read ending said) k.wording store names (λ scripts. (detect_logs_task k init s logs scripts).job) h in
      let scripts = read.scripts in
      let goes : Recovered → Job = λ r. (detected_task k s scripts r).job in
      let taken = images_read after ending text (said_read ending said).0 store (log_names logs 0 (length scripts)) (λ images. on_recovery goes (recovery_of k init images)) read.ends in
      ⊎_elim (λ (bad : ending ≡ BadLog). inr bad) (λ on. nodes_said k.means k.wording store s scripts on.0.nodes (stranger_to k.means scripts on.0.nodes) on.2)
      (recovery_ends goes store after (recovery_of k init taken.images) ending text taken.ends)

done_or_bad : (ending : Ending) → (ending ≡ Done → ⊥) → (ending ≡ BadLog → ⊥) → (ending ≡ Done) ⊎ (ending ≡ BadLog) → ⊥
done_or_bad ending f g (inl e) = f e
done_or_bad ending f g (inr e) = g e

-- ---- the call
module _ (seen : Seen) (init logs : List ℕ) (names : List (List ℕ)) (form : form_of seen.words ≡ Some (Detect init logs names)) where
  never_put : (ending : Ending) → IsSaid ending → (ending ≡ Done → ⊥) → (ending ≡ BadLog → ⊥) → PutWhole seen ending → ⊥
  never_put ending said f g h =
      let read = whole_ends seen.store_after ending h.text (said_read ending said) seen.store init init_of (λ bytes object. (object_task (DetectOver logs names) bytes object).job)
      (subst (λ form. JobEnds seen.store seen.store_after (job_of form) ending h.text) form h.allowed) in
      each_kind {A = Task} (λ kind s. over_task (DetectOver logs names) (kind_at kind) (Threads kind) read.bytes s)
      (λ task. JobEnds seen.store seen.store_after task.job ending h.text → ⊥)
      (λ kind s k. done_or_bad ending f g (detect_said seen.store_after ending h.text said (kind_at kind) seen.store read.bytes logs names s k)) read.value read.ends

  -- the usage is never said, nor that a fence failed, nor that a report is wrong
  pub detect_not_usage : PutWhole seen Usage → ⊥
  detect_not_usage h = never_put Usage tt (λ e. cc e) (λ e. cc e) h

  pub detect_not_faulty : PutWhole seen Faulty → ⊥
  detect_not_faulty h = never_put Faulty tt (λ e. cc e) (λ e. cc e) h

  pub detect_not_judged : PutWhole seen Judged → ⊥
  detect_not_judged h = never_put Judged tt (λ e. cc e) (λ e. cc e) h
