-- What an audit promises: what it finds is said, and every report of a run is found legal.

use Rattle.std.proofs.Common.{ℕ, List, ◌≡◌, ◌≤◌, inl, inr, length, Result, Ok, Some, None, refl, sym, subst, arith}
use Rattle.onll_text.specs.declared.any_object.AnyObject.{AnyObject}
use Rattle.onll_text.specs.Init.{init_of}
use Rattle.onll_text.specs.Kinds.{ObjectKind, kind_at}
use Rattle.onll_text.specs.Refusal.{Refusal}
use Rattle.onll_text.proofs.EachKind.{kind_goes}
use Rattle.onll_audit.specs.declared.verdict.Verdict.{Verdict}
use Rattle.onll_audit.specs.declared.verdict.Verdict.TheVariants.{Legal}
use Rattle.onll_outside.specs.Views.{StoreView}
use Rattle.onll_task.specs.declared.ending.Ending.TheVariants.{Done, Faulty, Judged}
use Rattle.onll_task.specs.declared.ending.Exit.{Exit}
use Rattle.onll_task.specs.Doing.{Task}
use Rattle.onll_task.specs.Job.{Job, Threads, Decides, on_value}
use Rattle.onll_task.specs.Printed.{exit_status}
use Rattle.onll_task.specs.Reading.{FileIsTold}
use Rattle.onll_runner.specs.RunJob.{run_plan}
use Rattle.onll_runner.specs.RunReport.{plan_report}
use Rattle.onll_jobs.specs.AuditJob.{judged_of, verdict_task, report_judged_task, audit_task, legal_text}
use Rattle.onll_jobs.specs.AuditPromises.{IsReportOfRun, FindsRunsLegal, HasLegalReport, HasLegalOrNoHeader, RunIsLegal, AuditPromises}
use Rattle.onll_jobs.specs.Command.{Audit, form_of, AuditOver, over_task, object_task, over_work}
use Rattle.onll_jobs.specs.RunPromises.{HasReported, RanBroken, RanWhole}
use Rattle.onll_jobs.specs.Says.{job_of, ExitSays, NoneRose, SaysThis}
use Rattle.onll_jobs.specs.Seen.{Seen}
use Rattle.onll_jobs.proofs.AgainDone.{decides_scripts}
use Rattle.onll_jobs.proofs.AuditEnds.{audit_legal, audit_wrong}
use Rattle.onll_jobs.proofs.ExitCauses.{said_of, judged_audit, decided_exactly}
use Rattle.onll_jobs.proofs.Forms.{few-audited, few-run}
use Rattle.onll_jobs.proofs.RunEnds.{run_put, whole_of, broken_of}
use Rattle.onll_jobs.proofs.RunJudged.{run_judged}
use Rattle.onll_jobs.proofs.SaidEnds.{many_scripts}
use Rattle.onll_jobs.proofs.Told.{told_read}

-- ---- reports that are told
module _ (k : ObjectKind) (init : List ℕ) (s : k.State) (store : StoreView) (report : List ℕ) (names : List (List ℕ)) (few : length names ≤ 16) where
  -- the report of a run decides that it is found legal
  report_decides : IsReportOfRun k init s store report names → Decides store (audit_task k report names s).job Done legal_text
  report_decides of_run =
      let scripts = of_run.scripts in
      let read = told_read k.wording store names scripts of_run.tell in
      let bytes = plan_report (run_plan k init of_run.logs s scripts) of_run.left in
      let judged = run_judged k init of_run.logs s scripts of_run.left of_run.run of_run.reads store names read
      (subst (λ (n : ℕ). n ≤ 16) (sym (many_scripts k.wording store names scripts read)) few) in
      let on : Result Verdict Refusal → Job = λ r. on_value report (λ verdict. (verdict_task verdict).job) r in
      decides_scripts Done legal_text k.wording store names scripts (λ scripts. (report_judged_task k s report scripts).job) of_run.tell
      (bytes, (of_run.told, subst (λ (r : Result Verdict Refusal). Decides store (on r) Done legal_text) (sym judged) (refl, refl)))

-- the call says what the told files decide
module _ (seen : Seen) (x : Exit) (says : ExitSays seen x) (init report bytes : List ℕ) (names : List (List ℕ)) (object : AnyObject)
    (form : form_of seen.words ≡ Some (Audit init report names)) (told : FileIsTold seen.store init bytes) (accepted : init_of bytes ≡ Ok object) (none : NoneRose seen) where
  object_says : (text : List ℕ) → Decides seen.store (object_task (AuditOver report names) bytes object).job Done text → SaysThis seen (exit_status x) Done text
  object_says text d =
      let on : Result AnyObject Refusal → Job = λ r. on_value init (λ o. (object_task (AuditOver report names) bytes o).job) r in
      let job : Decides seen.store (over_work init (AuditOver report names)).task.job Done text =
      (bytes, (told, subst (λ (r : Result AnyObject Refusal). Decides seen.store (on r) Done text) (sym accepted) d)) in
      decided_exactly seen x Done text (subst (λ f. Decides seen.store (job_of f) Done text) (sym form) job) none says

finds_runs : (seen : Seen) (x : Exit) → ExitSays seen x → FindsRunsLegal seen (exit_status x)
finds_runs seen x says init report bytes names object form told accepted none =
    kind_goes {A = Task} (λ kind s. over_task (AuditOver report names) (kind_at kind) (Threads kind) bytes s)
    (λ task. (text : List ℕ) → Decides seen.store task.job Done text → SaysThis seen (exit_status x) Done text)
    (λ k s. IsReportOfRun k bytes s seen.store report names → SaysThis seen (exit_status x) Done legal_text)
    (λ says. says)
    (λ kind s known say of_run. say legal_text (report_decides (kind_at kind) bytes s seen.store report names (few-audited seen.words init report names form) of_run))
    object (object_says seen x says init report bytes names object form told accepted none)

-- ---- reports that are put
module _ (k : ObjectKind) (init : List ℕ) (s : k.State) (store after : StoreView) (logs : List ℕ) (names : List (List ℕ)) (text : List ℕ) (few : length names ≤ 16) where
  reported_legal : HasReported None k init s store after logs names text → HasLegalReport k init s store after logs names text
  reported_legal r = record {
    reported = r;
    legal = subst (λ (printed : List ℕ). judged_of k s r.scripts printed ≡ Ok Legal) (sym r.printed)
        (run_judged k init logs s r.scripts r.left r.run r.reads store names r.read (subst (λ (n : ℕ). n ≤ 16) (sym r.many) few));
  }

  whole_legal : RanWhole None k init s store after logs names text → HasLegalReport k init s store after logs names text
  whole_legal r = reported_legal r.0

  broken_legal : RanBroken None k init s store after logs names text → HasLegalOrNoHeader k init s store after logs names text
  broken_legal (inl r) = inl (reported_legal r.0)
  broken_legal (inr header) = inr header

runs_legal : (seen : Seen) (x : Exit) → ExitSays seen x → RunIsLegal seen (exit_status x)
runs_legal seen x says init logs names form =
    let few = few-run seen.words init logs names form in (
      (λ e. let h = said_of seen x Done (λ e. omega arith) e says in
          run_put seen init logs names form Done (tt, λ e. cc e) h HasLegalReport
          (λ k bytes s ran. whole_legal k bytes s seen.store seen.store_after logs names h.text few
          (whole_of None k bytes s seen.store seen.store_after logs names h.text ran))),
      (λ e. let h = said_of seen x Faulty (λ e. omega arith) e says in
          run_put seen init logs names form Faulty (tt, λ e. cc e) h HasLegalOrNoHeader
          (λ k bytes s ran. broken_legal k bytes s seen.store seen.store_after logs names h.text few
          (broken_of None k bytes s seen.store seen.store_after logs names h.text ran))),
    )

pub audit_kept : (seen : Seen) (x : Exit) → ExitSays seen x → AuditPromises seen (exit_status x)
audit_kept seen x says = record {
  done = λ init report names form e. audit_legal seen init report names form (said_of seen x Done (λ e. omega arith) e says);
  wrong = λ init report names form e. audit_wrong seen init report names form (said_of seen x Judged (λ e. omega arith) e says);
  only = λ e. judged_audit seen (said_of seen x Judged (λ e. omega arith) e says);
  run = finds_runs seen x says;
  put = runs_legal seen x says;
}
