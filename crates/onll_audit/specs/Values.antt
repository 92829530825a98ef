-- What the values of the code stand for.

use Rattle.std.specs.Prelude.{ℕ, List, ◌≡◌, ◌+◌, Option, Some, None, Result, Ok, Err, map, slice_get}
use Rattle.std.specs.List.{slice_split}
use Rattle.std.specs.declared.vec.Vec.{Vec}
use Rattle.onll_words.specs.Texts.{is_line_end}
use Rattle.onll_model.specs.declared.call.Call.{Call}
use Rattle.onll_text.specs.Wording.{Wording}
use Rattle.onll_audit.specs.declared.lines.LinesLeft as code
use Rattle.onll_audit.specs.declared.groups.CallLine.{CallLine}
use Rattle.onll_audit.specs.declared.groups.EndText.{EndText}
use Rattle.onll_audit.specs.declared.said.Said.{Said}
use Rattle.onll_audit.specs.declared.judge.Wrong.{Wrong}
use Rattle.onll_audit.specs.declared.verdict.Why.{Why}
use Rattle.onll_audit.specs.declared.verdict.AuditFault.{AuditFault}
use Rattle.onll_audit.specs.declared.verdict.AuditFault.TheVariants.{Refused, NoMemory}
use Rattle.onll_audit.specs.declared.read.ReportForm as code_form
use Rattle.onll_audit.specs.Form.{LinesLeft, ReportForm}
use Rattle.onll_audit.specs.Verdict.{end_of_call}

abbrev pub as_left : code.LinesLeft → LinesLeft
as_left left = record { number = left.number; parts = slice_split is_line_end left.rest.now }

-- judging failed for this: the text is refused so, or memory could not be had
abbrev pub IsFault : {A : Type 0} → AuditFault → Result A ℕ → Type 0
IsFault NoMemory read = Unit {0}
IsFault (Refused line) read = read ≡ Err line

-- what was read of the lines of a thread's calls, of those of all, and of all that is judged
abbrev pub as_lines : {A : Type 0} → Vec CallLine A → List (List ℕ)
as_lines group = map (λ (l : CallLine). l.line.now) group.items

abbrev pub as_groups : {A : Type 0} → List (Vec CallLine A) → List (List (List ℕ))
as_groups {A} groups = map (λ (group : Vec CallLine A). as_lines group) groups

abbrev pub as_form : code_form.ReportForm → ReportForm
as_form form = record { calls = as_groups form.calls.items; nodes = form.nodes.items; state_line = form.state_line; state = form.state.now }

-- what a line says of a call
abbrev pub as_end : Option EndText → Option (List ℕ × Said)
as_end None = None
as_end (Some end) = Some (end.text.now, end.said)

-- the lines of a thread's calls were read beside its script, and those of each thread beside its own
abbrev pub AreReadWith : {State Op Query Reply : Type 0} → Wording State Op Query Reply → ℕ → List (Call State Op Query Reply)
    → List CallLine → Type 0
AreReadWith {State} {Op} {Query} {Reply} w t script lines = (i : ℕ) (c : Call State Op Query Reply) (l : CallLine)
    → slice_get script i ≡ Some c → slice_get lines i ≡ Some l → as_end l.end ≡ end_of_call w t (i + 1) c l.line.now

abbrev pub EachReadWith : {State Op Query Reply : Type 0} → Wording State Op Query Reply → List (List (Call State Op Query Reply))
    → List (List CallLine) → Type 0
EachReadWith {State} {Op} {Query} {Reply} w scripts groups = (t : ℕ) (script : List (Call State Op Query Reply)) (lines : List CallLine)
    → slice_get scripts t ≡ Some script → slice_get groups t ≡ Some lines → AreReadWith w t script lines

-- a wrong line, as line and reason
abbrev pub as_wrong : Option Wrong → Option (ℕ × Why)
as_wrong None = None
as_wrong (Some wrong) = Some (wrong.line, wrong.why)

-- the wrong line, where judging ended at one
abbrev pub as_judged : {A : Type 0} → Result A Wrong → Option (ℕ × Why)
as_judged (Ok x) = None
as_judged (Err wrong) = Some (wrong.line, wrong.why)
