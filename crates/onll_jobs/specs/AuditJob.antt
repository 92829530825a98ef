-- What `audit INIT REPORT SCRIPT..` does: it judges a printed report of a run of these scripts, and runs nothing.

use Rattle.std.specs.Prelude.{ℕ, List, [], ◌∷◌, ◌≡◌, Result, Ok, Err, if◌then◌else◌, nat_lt, length, codes, decimal}
use Rattle.onll_words.specs.Texts.{line_text}
use Rattle.onll_model.specs.declared.call.Call.{Call}
use Rattle.onll_text.specs.declared.reason.Reason.TheVariants.{BadLine}
use Rattle.onll_text.specs.Kinds.{ObjectKind}
use Rattle.onll_text.specs.Refusal.{Refusal, refused}
use Rattle.onll_audit.specs.declared.verdict.Verdict.{Verdict}
use Rattle.onll_audit.specs.declared.verdict.Verdict.TheVariants.{Legal, Wrong}
use Rattle.onll_audit.specs.declared.verdict.Why.{Why}
use Rattle.onll_audit.specs.declared.verdict.Why.TheVariants as whys
use Rattle.onll_audit.specs.Printed.{longest_report}
use Rattle.onll_audit.specs.Verdict.{verdict_of}
use Rattle.onll_task.specs.declared.ending.Ending.TheVariants.{Judged}
use Rattle.onll_task.specs.Doing.{Task, after_stage, report_task, say_task, text_stage}
use Rattle.onll_task.specs.Scripts.{scripts_stage}

-- ---- the report that is read
-- the verdict on a text, or its first line that is none of a report; line 0 where it is too long
abbrev pub verdict_within : (k : ObjectKind) → k.State → List (List (Call k.State k.Op k.Query k.Reply)) → List ℕ → Result Verdict ℕ
verdict_within k s scripts text = if nat_lt longest_report (length text) then Err 0 else verdict_of k.means k.wording s scripts text

-- a line that is none of a report is why the text is refused
abbrev pub or_bad_line : Result Verdict ℕ → Result Verdict Refusal
or_bad_line (Ok verdict) = Ok verdict
or_bad_line (Err line) = Err (refused line BadLine)

-- the verdict on a text, as the report of a run of these scripts
abbrev pub judged_of : (k : ObjectKind) → k.State → List (List (Call k.State k.Op k.Query k.Reply)) → List ℕ → Result Verdict Refusal
judged_of k s scripts text = or_bad_line (verdict_within k s scripts text)

-- ---- what is said of it
abbrev pub why_words : Why → List (List ℕ)
why_words whys.Script = codes "not" ∷ codes "the" ∷ codes "script" ∷ []
why_words whys.Outcome = codes "wrong" ∷ codes "outcome" ∷ []
why_words whys.Place = codes "wrong" ∷ codes "place" ∷ []
why_words whys.Reply = codes "wrong" ∷ codes "reply" ∷ []
why_words whys.Node = codes "wrong" ∷ codes "node" ∷ []
why_words whys.State = codes "wrong" ∷ codes "state" ∷ []

-- `line L WHY`
abbrev pub wrong_line : ℕ → Why → List (List ℕ)
wrong_line line why = codes "line" ∷ decimal line ∷ why_words why

abbrev pub legal_text : List ℕ
legal_text = line_text (codes "legal" ∷ [])

-- the text that is put of a verdict
abbrev pub verdict_task : Verdict → Task
verdict_task Legal = report_task legal_text (λ text. text ≡ legal_text)
verdict_task (Wrong line why) = say_task Judged (line_text (wrong_line line why))

-- ---- the work
-- the report is read and judged by these scripts
abbrev pub report_judged_task : (k : ObjectKind) → k.State → (report : List ℕ) → List (List (Call k.State k.Op k.Query k.Reply)) → Task
report_judged_task k s report scripts = after_stage (text_stage report (judged_of k s scripts)) verdict_task

-- the scripts are read before it
abbrev pub audit_task : (k : ObjectKind) → (report : List ℕ) → List (List ℕ) → k.State → Task
audit_task k report names s = after_stage (scripts_stage k.wording names) (report_judged_task k s report)
