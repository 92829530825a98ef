-- What a report of the form says of the calls, as outcomes, and when it is legal.

use Rattle.std.specs.Prelude.{ℕ, List, [], ◌∷◌, ◌≡◌, ◌+◌, Some, Ok, length}
use Rattle.std.specs.List.{flat_map}
use Rattle.onll_words.specs.Texts.{joined, line_text}
use Rattle.onll_model.specs.declared.call.Call.{Call}
use Rattle.onll_model.specs.declared.call.CallEnd.{CallEnd}
use Rattle.onll_model.specs.declared.call.CallEnd.TheVariants as ends
use Rattle.onll_model.specs.Object.{Behaviour}
use Rattle.onll_model.specs.Trace.{state_after}
use Rattle.onll_model.specs.Legal.{IsLegal}
use Rattle.onll_text.specs.Wording.{Wording}
use Rattle.onll_text.specs.Lines.{call_line, end_words}
use Rattle.onll_audit.specs.declared.said.Said.{Said}
use Rattle.onll_audit.specs.declared.said.Said.TheVariants as said
use Rattle.onll_audit.specs.Form.{ReportForm, said_of, report_form}

-- the same outcome, at the same place
abbrev pub SameOutcome : {State Op Query Reply : Type 0} → Said → CallEnd State Op Query Reply → Type 0
SameOutcome (said.Answered place) (ends.Answered reply p) = place ≡ p
SameOutcome (said.FenceFailed place) (ends.FenceFailed p) = place ≡ p
SameOutcome (said.Broken place) (ends.Broken p) = place ≡ p
SameOutcome x e = ⊥

-- the line says that this call number ended so
pub record SaysCall {State Op Query Reply : Type 0} (w : Wording State Op Query Reply) (t number : ℕ) (c : Call State Op Query Reply)
    (line : List ℕ) (end : CallEnd State Op Query Reply) : Type 0 where
  pub line_is : line ≡ joined (call_line w t number c end)
  pub outcome : Said
  pub read : said_of (joined (end_words w end)) ≡ Some outcome
  pub same : SameOutcome outcome end

-- lines say what became of the first calls of a script, the first of them of call number k + 1
abbrev pub SaysCalls : {State Op Query Reply : Type 0} → Wording State Op Query Reply → ℕ → ℕ → List (Call State Op Query Reply)
    → List (List ℕ)
    → List (CallEnd State Op Query Reply) → Type 0
SaysCalls w t k script [] [] = Unit {0}
SaysCalls w t k [] (l ∷ lines) ends = ⊥
SaysCalls w t k script [] (e ∷ ends) = ⊥
SaysCalls w t k (c ∷ script) (l ∷ lines) [] = ⊥
SaysCalls w t k (c ∷ script) (l ∷ lines) (e ∷ ends) = SaysCall w t (k + 1) c l e × SaysCalls w t (k + 1) script lines ends

-- so do those of each thread, from thread t on
abbrev pub SaysGroups : {State Op Query Reply : Type 0} → Wording State Op Query Reply → ℕ → List (List (Call State Op Query Reply))
    → List (List (List ℕ)) → List (List (CallEnd State Op Query Reply)) → Type 0
SaysGroups w t [] [] [] = Unit {0}
SaysGroups w t (script ∷ scripts) (lines ∷ groups) (ends ∷ more) = SaysCalls w t 0 script lines ends
    × SaysGroups w (t + 1) scripts groups more
SaysGroups w t scripts groups ends = ⊥

-- What the report says is one legal history of the object from this state, and its state is that after the trace.
pub record IsLegalForm {State Op Query Reply : Type 0} (b : Behaviour State Op Query Reply) (w : Wording State Op Query Reply) (s : State)
    (scripts : List (List (Call State Op Query Reply))) (f : ReportForm) : Type 0 where
  pub ends : List (List (CallEnd State Op Query Reply))
  pub says : SaysGroups w 0 scripts f.calls ends
  pub legal : IsLegal b s [] scripts f.nodes ends
  pub state : f.state ≡ flat_map line_text (w.state_lines (state_after b s f.nodes))

-- The text is a report of the form, for as many threads as there are scripts, and what it says is legal.
pub record IsLegalReport {State Op Query Reply : Type 0} (b : Behaviour State Op Query Reply) (w : Wording State Op Query Reply) (s : State)
    (scripts : List (List (Call State Op Query Reply))) (text : List ℕ) : Type 0 where
  pub form : ReportForm
  pub form_is : report_form b w (length scripts) text ≡ Ok form
  pub is_legal : IsLegalForm b w s scripts form
