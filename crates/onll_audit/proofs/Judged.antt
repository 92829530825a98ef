-- The verdict on a report, from its form and its least wrong line.
use Rattle.std.proofs.Common.{ℕ, List, ◌≡◌, ◌↔◌, length, Option, Some, None, Result, Ok, Err, IfOk, MatchResult, refl, ap, sym, ◌∙◌}
use Rattle.onll_model.specs.declared.call.Call.{Call}
use Rattle.onll_model.specs.Object.{Behaviour}
use Rattle.onll_text.specs.Refusal.{◌>>=◌}
use Rattle.onll_text.specs.Wording.{Wording}
use Rattle.onll_audit.specs.declared.verdict.Why.{Why}
use Rattle.onll_audit.specs.declared.verdict.Verdict.{Verdict}
use Rattle.onll_audit.specs.declared.verdict.Verdict.TheVariants.{Legal}
use Rattle.onll_audit.specs.declared.verdict.AuditFault.{AuditFault}
use Rattle.onll_audit.specs.declared.verdict.AuditFault.TheVariants.{Refused, NoMemory}
use Rattle.onll_audit.specs.Form.{ReportForm, report_form}
use Rattle.onll_audit.specs.Values.{IsFault}
use Rattle.onll_audit.specs.Verdict.{wrong_in, verdict_by, verdict_of}
use Rattle.onll_audit.specs.Legality.{IsLegalReport}
use Rattle.onll_audit.proofs.Counting.{accepted, same_ok, form_many}
use Rattle.onll_audit.proofs.Whole.{legal_law}

legal_none : (o : Option (ℕ × Why)) → verdict_by o ≡ Legal → o ≡ None
legal_none None e = refl
legal_none (Some x) e = cc e

module _ {State Op Query Reply : Type 0} (b : Behaviour State Op Query Reply) (w : Wording State Op Query Reply) (s : State)
    (scripts : List (List (Call State Op Query Reply))) (text : List ℕ) where
  -- the same for as many threads as there are scripts
  pub refused_form : (n : ℕ) (fault : AuditFault) → n ≡ length scripts → IsFault fault (report_form b w n text) → IsFault fault (verdict_of b w s scripts text)
  refused_form n NoMemory many h = tt
  refused_form n (Refused line) many h =
      ap (λ (r : Result ReportForm ℕ). r >>= λ f. Ok (verdict_by (wrong_in b w s scripts f))) (ap (λ (k : ℕ). report_form b w k text) (sym many) ∙ h)

  pub judged_form : (n : ℕ) (f : ReportForm) (wrong : Option (ℕ × Why)) → n ≡ length scripts → report_form b w n text ≡ Ok f → wrong ≡ wrong_in b w s scripts f
      → verdict_of b w s scripts text ≡ Ok (verdict_by wrong)
  judged_form n f wrong many e h =
      ap (λ (r : Result ReportForm ℕ). r >>= λ f. Ok (verdict_by (wrong_in b w s scripts f))) (ap (λ (k : ℕ). report_form b w k text) (sym many) ∙ e)
      ∙ ap (λ (o : Option (ℕ × Why)). Ok (verdict_by o)) (sym h)

  legal_report : (verdict : Verdict) → verdict_of b w s scripts text ≡ Ok verdict → verdict ≡ Legal → IsLegalReport b w s scripts text
  legal_report verdict e same =
      let form = accepted (report_form b w (length scripts) text) (λ f. Ok (verdict_by (wrong_in b w s scripts f))) verdict e in
      let right = legal_none (wrong_in b w s scripts form.0) (same_ok _ verdict _ refl form.2 ∙ same) in
      record {
        form = form.0;
        form_is = form.1;
        is_legal = (legal_law b w s scripts form.0 (form_many b w (length scripts) text form.0 form.1)).0 right;
      }

  pub legal_verdict : IsLegalReport b w s scripts text → verdict_of b w s scripts text ≡ Ok Legal
  legal_verdict h =
      let right = (legal_law b w s scripts h.form (form_many b w (length scripts) text h.form h.form_is)).1 h.is_legal in
      judged_form (length scripts) h.form None refl h.form_is (sym right)

  report_legal : (verdict : Verdict) → verdict_of b w s scripts text ≡ Ok verdict → IsLegalReport b w s scripts text → verdict ≡ Legal
  report_legal verdict e h = same_ok verdict Legal (verdict_of b w s scripts text) e (legal_verdict h)

  -- the verdict is legal exactly where the report is
  pub legal_exactly : (verdict : Verdict) → verdict_of b w s scripts text ≡ Ok verdict → (verdict ≡ Legal) ↔ IsLegalReport b w s scripts text
  legal_exactly verdict e = (legal_report verdict e, report_legal verdict e)

  pub legal_result : (result : Result Verdict AuditFault)
      → MatchResult result (λ verdict. verdict_of b w s scripts text ≡ Ok verdict) (λ fault. IsFault fault (verdict_of b w s scripts text))
      → IfOk result (λ verdict. (verdict ≡ Legal) ↔ IsLegalReport b w s scripts text)
  legal_result (Ok verdict) h = legal_exactly verdict h
  legal_result (Err fault) h = tt

pub ruleset judged = (refused_form, judged_form)

pub ruleset legality = (legal_result)
