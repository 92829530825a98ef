-- How an audit ends, where each file is read and no text is refused: the report is found legal, or wrong.

use Rattle.std.proofs.Common.{ℕ, List, ◌≡◌, ◌⊎◌, inl, inr, Bool, true, false, Result, Ok, Err, Some, refl, subst, length, nat_lt, cond}
use Rattle.onll_model.specs.declared.call.Call.{Call}
use Rattle.onll_text.specs.declared.reason.Reason.TheVariants.{BadLine}
use Rattle.onll_text.specs.Init.{init_of}
use Rattle.onll_text.specs.Kinds.{ObjectKind, kind_at}
use Rattle.onll_text.specs.Refusal.{refused}
use Rattle.onll_text.proofs.EachKind.{kind_goes, each_kind}
use Rattle.onll_audit.specs.declared.verdict.Verdict.{Verdict}
use Rattle.onll_audit.specs.declared.verdict.Verdict.TheVariants.{Legal, Wrong}
use Rattle.onll_audit.specs.Verdict.{verdict_of}
use Rattle.onll_audit.proofs.Judged.{legal_exactly}
use Rattle.onll_outside.specs.Views.{StoreView}
use Rattle.onll_task.specs.declared.ending.Ending.{Ending}
use Rattle.onll_task.specs.declared.ending.Ending.TheVariants.{Done, Usage, Faulty, Judged}
use Rattle.onll_task.specs.Doing.{Task}
use Rattle.onll_task.specs.Job.{JobEnds, Threads}
use Rattle.onll_task.specs.Reading.{ReadsWhole}
use Rattle.onll_task.specs.Scripts.{ReadScripts}
use Rattle.onll_audit.specs.Printed.{longest_report}
use Rattle.onll_jobs.specs.AuditJob.{or_bad_line, judged_of, verdict_task, report_judged_task, audit_task}
use Rattle.onll_jobs.specs.AuditPromises.{HasFoundLegal, HasFoundWrong}
use Rattle.onll_jobs.specs.Command.{Audit, form_of, AuditOver, over_task, object_task}
use Rattle.onll_jobs.specs.Says.{job_of, PutOverInit, PutWhole}
use Rattle.onll_jobs.specs.Seen.{Seen}
use Rattle.onll_jobs.proofs.SaidEnds.{IsSaid, said_read, whole_ends, scripts_end}

-- ---- the verdict on a text
within_limit : (b : Bool) (r : Result Verdict ℕ) (verdict : Verdict) → or_bad_line (cond b (Err 0) r) ≡ Ok verdict → r ≡ Ok verdict
within_limit true r verdict e = absurd (let no : Err (refused 0 BadLine) ≡ Ok verdict = e in cc)
within_limit false (Ok v) verdict e = (cc)
within_limit false (Err line) verdict e = absurd (let no : Err (refused line BadLine) ≡ Ok verdict = e in cc)

-- a text that is judged has that verdict
pub judged_verdict : (k : ObjectKind) (s : k.State) (scripts : List (List (Call k.State k.Op k.Query k.Reply))) (text : List ℕ) (verdict : Verdict)
    → judged_of k s scripts text ≡ Ok verdict → verdict_of k.means k.wording s scripts text ≡ Ok verdict
judged_verdict k s scripts text verdict e = within_limit (nat_lt longest_report (length text)) (verdict_of k.means k.wording s scripts text) verdict e

-- ---- how it ends
-- the report that a file holds was judged, and this said of it
record IsJudgedSo (k : ObjectKind) (s : k.State) (store after : StoreView) (report : List ℕ) (names : List (List ℕ)) (ending : Ending) (text : List ℕ) : Type 0 where
  scripts : List (List (Call k.State k.Op k.Query k.Reply))
  read : ReadScripts k.wording store names scripts
  bytes : List ℕ
  verdict : Verdict
  judged : ReadsWhole store (judged_of k s scripts) report bytes verdict
  ends : JobEnds store after (verdict_task verdict).job ending text

module _ (k : ObjectKind) (s : k.State) (store after : StoreView) (report : List ℕ) (names : List (List ℕ)) where
  judged_so : (ending : Ending) (text : List ℕ) → IsSaid ending → JobEnds store after (audit_task k report names s).job ending text
      → IsJudgedSo k s store after report names ending text
  judged_so ending text said h =
      let was = said_read ending said in
      let read = scripts_end after ending text was k.wording store names (λ scripts. (report_judged_task k s report scripts).job) h in
      let judged = whole_ends after ending text was store report (judged_of k s read.scripts) (λ bytes verdict. (verdict_task verdict).job) read.ends in
      record { scripts = read.scripts; read = read.read; bytes = judged.bytes; verdict = judged.value; judged = judged.read; ends = judged.ends }

  verdict_said : (ending : Ending) (text : List ℕ) (verdict : Verdict) → JobEnds store after (verdict_task verdict).job ending text → (ending ≡ Done) ⊎ (ending ≡ Judged)
  verdict_said ending text Legal h = inl h.0
  verdict_said ending text (Wrong line why) h = inr h.0

  audit_said : (ending : Ending) (text : List ℕ) → IsSaid ending → JobEnds store after (audit_task k report names s).job ending text → (ending ≡ Done) ⊎ (ending ≡ Judged)
  audit_said ending text said h = let j = judged_so ending text said h in verdict_said ending text j.verdict j.ends

  module _ (init text : List ℕ) where
    found_legal : JobEnds store after (audit_task k report names s).job Done text → HasFoundLegal report names k init s store after text
    found_legal h = let j = judged_so Done text tt h in by j j.verdict j.judged j.ends
      where
        by : (j : IsJudgedSo k s store after report names Done text) (verdict : Verdict) → ReadsWhole store (judged_of k s j.scripts) report j.bytes verdict
            → JobEnds store after (verdict_task verdict).job Done text → HasFoundLegal report names k init s store after text
        by j Legal judged ends = record {
          scripts = j.scripts;
          read = j.read;
          bytes = j.bytes;
          judged = judged;
          is_legal = (legal_exactly k.means k.wording s j.scripts j.bytes Legal (judged_verdict k s j.scripts j.bytes Legal judged.accepted)).0 refl;
          says = ends.1;
        }
        by j (Wrong line why) judged ends = absurd (let e = ends.0 in cc)

    found_wrong : JobEnds store after (audit_task k report names s).job Judged text → HasFoundWrong report names k init s store after text
    found_wrong h = let j = judged_so Judged text tt h in by j j.verdict j.judged j.ends
      where
        by : (j : IsJudgedSo k s store after report names Judged text) (verdict : Verdict) → ReadsWhole store (judged_of k s j.scripts) report j.bytes verdict
            → JobEnds store after (verdict_task verdict).job Judged text → HasFoundWrong report names k init s store after text
        by j Legal judged ends = absurd (let e = ends.0 in cc)
        by j (Wrong line why) judged ends =
            let is_wrong = judged_verdict k s j.scripts j.bytes (Wrong line why) judged.accepted in
            record {
              scripts = j.scripts;
              read = j.read;
              bytes = j.bytes;
              line = line;
              why = why;
              judged = judged;
              is_wrong = is_wrong;
              not_legal = λ legal. let e : Wrong line why ≡ Legal = (legal_exactly k.means k.wording s j.scripts j.bytes (Wrong line why) is_wrong).1 legal in cc;
              says = ends.1;
            }

-- ---- the call
module _ (seen : Seen) (init report : List ℕ) (names : List (List ℕ)) (form : form_of seen.words ≡ Some (Audit init report names)) where
  -- what is said over an object of each kind, where the call ends so, was put over the initial state of the file
  audit_put : (Says : (k : ObjectKind) → List ℕ → k.State → StoreView → StoreView → List ℕ → Type 0) (ending : Ending) → IsSaid ending → (h : PutWhole seen ending)
      → ((k : ObjectKind) (bytes : List ℕ) (s : k.State) → JobEnds seen.store seen.store_after (audit_task k report names s).job ending h.text → Says k bytes s seen.store seen.store_after h.text)
      → PutOverInit seen init Says
  audit_put Says ending said h step =
      let read = whole_ends seen.store_after ending h.text (said_read ending said) seen.store init init_of (λ bytes object. (object_task (AuditOver report names) bytes object).job)
      (subst (λ form. JobEnds seen.store seen.store_after (job_of form) ending h.text) form h.allowed) in
      record {
        bytes = read.bytes;
        object = read.value;
        read = read.read;
        text = h.text;
        says = kind_goes {A = Task} (λ kind s. over_task (AuditOver report names) (kind_at kind) (Threads kind) read.bytes s)
            (λ task. JobEnds seen.store seen.store_after task.job ending h.text)
            (λ k s. Says k read.bytes s seen.store seen.store_after h.text) (λ says. says)
            (λ kind s known ends. step (kind_at kind) read.bytes s ends) read.value read.ends;
        put = h.put;
      }

  pub audit_legal : PutWhole seen Done → PutOverInit seen init (HasFoundLegal report names)
  audit_legal h = audit_put (HasFoundLegal report names) Done tt h (λ k bytes s ends. found_legal k s seen.store seen.store_after report names bytes h.text ends)

  pub audit_wrong : PutWhole seen Judged → PutOverInit seen init (HasFoundWrong report names)
  audit_wrong h = audit_put (HasFoundWrong report names) Judged tt h (λ k bytes s ends. found_wrong k s seen.store seen.store_after report names bytes h.text ends)

  audit_never : (ending : Ending) → IsSaid ending → ((ending ≡ Done) ⊎ (ending ≡ Judged) → ⊥) → PutWhole seen ending → ⊥
  audit_never ending said neither h =
      let read = whole_ends seen.store_after ending h.text (said_read ending said) seen.store init init_of (λ bytes object. (object_task (AuditOver report names) bytes object).job)
      (subst (λ form. JobEnds seen.store seen.store_after (job_of form) ending h.text) form h.allowed) in
      each_kind {A = Task} (λ kind s. over_task (AuditOver report names) (kind_at kind) (Threads kind) read.bytes s)
      (λ task. JobEnds seen.store seen.store_after task.job ending h.text → ⊥)
      (λ kind s ends. neither (audit_said (kind_at kind) s seen.store seen.store_after report names ending h.text said ends)) read.value read.ends

  -- the usage is never said, nor that a fence failed
  pub audit_not_usage : PutWhole seen Usage → ⊥
  audit_not_usage h = audit_never Usage tt (λ e. elim e [
    | inl done ↦ cc done
    | inr judged ↦ cc judged
  ]) h

  pub audit_not_faulty : PutWhole seen Faulty → ⊥
  audit_not_faulty h = audit_never Faulty tt (λ e. elim e [
    | inl done ↦ cc done
    | inr judged ↦ cc judged
  ]) h
