-- How a call that makes a workload ends.

use Rattle.std.proofs.Common.{◌≡◌, ◌⊎◌, inl, inr, ⊎_elim, Some, refl, ap, subst}
use Rattle.onll_outside.specs.Views.{Puts}
use Rattle.onll_task.specs.declared.ending.Ending.{Ending}
use Rattle.onll_task.specs.declared.ending.Ending.TheVariants.{Done, WriteFault}
use Rattle.onll_task.specs.declared.ending.Exit.{Exit}
use Rattle.onll_task.specs.declared.ending.Exit.TheVariants.{Said, SinkFault, NoMemory}
use Rattle.onll_task.specs.Printed.{status_of, exit_status}
use Rattle.onll_task.specs.Job.{JobEnds}
use Rattle.onll_workload.specs.declared.workload.Workload.{Workload}
use Rattle.onll_workload.specs.Made.{made_text}
use Rattle.onll_jobs.specs.Command.{Make, form_of}
use Rattle.onll_jobs.specs.Says.{job_of, PutWhole, SinkFailed, ExitSays}
use Rattle.onll_jobs.specs.Seen.{Seen}
use Rattle.onll_jobs.proofs.ExitCauses.{failed_of}

module _ (seen : Seen) (w : Workload) (form : form_of seen.words ≡ Some (Make w)) where
  -- what was put whole is its four lines
  ends_done : (ending : Ending) → (h : PutWhole seen ending) → (ending ≡ Done) × (h.text ≡ made_text w)
  ends_done ending h = let e = subst (λ form. JobEnds seen.store seen.store_after (job_of form) ending h.text) form h.allowed in (e.0, e.1)

  pub make_put : PutWhole seen Done → Puts seen.sink seen.sink_after (made_text w)
  make_put h = subst (Puts seen.sink seen.sink_after) (ends_done Done h).1 h.put

  no_write : WriteFault ≡ Done → ⊥
  no_write e = cc e

  pub make_sink : (x : Exit) → exit_status x ≡ 6 → ExitSays seen x → SinkFailed seen
  make_sink x e says = ⊎_elim (λ (s : SinkFailed seen). s) (λ (h : PutWhole seen WriteFault). absurd (no_write (ends_done WriteFault h).0)) (failed_of seen x e says)

  pub make_answers : (x : Exit) → ExitSays seen x → (exit_status x ≡ 0) ⊎ (exit_status x ≡ 6) ⊎ (exit_status x ≡ 9)
  make_answers (Said ending) h = inl (ap status_of (ends_done ending h).0)
  make_answers SinkFault s = inr (inl refl)
  make_answers NoMemory s = inr (inr refl)
