-- The form of a report of `run`, as a grammar over its lines.

use Rattle.std.specs.Prelude.{ℕ, zero, suc, Bool, true, false, List, [], ◌∷◌, ◌+◌, Option, Some, None, Result, Ok, Err, codes, decimal, length, take, drop, ◌&&◌, ◌||◌, if◌then◌else◌, nat_eq, nat_le, nat_lt, is_some}
use Rattle.std.specs.List.{slice_split, starts_with, join_with_byte}
use Rattle.std.specs.Option.{option_or}
use Rattle.std.specs.Str.{bytes_eq}
use Rattle.onll_words.specs.Texts.{is_line_end, words_of, joined}
use Rattle.onll_model.specs.declared.node.Node.{Node}
use Rattle.onll_model.specs.declared.call.Call.{Call}
use Rattle.onll_model.specs.declared.call.Call.TheVariants.{Update, Ask}
use Rattle.onll_model.specs.Object.{Behaviour}
use Rattle.onll_text.specs.declared.reason.Reason.{Reason}
use Rattle.onll_text.specs.Refusal.{◌>>=◌}
use Rattle.onll_text.specs.Wording.{Wording}
use Rattle.onll_text.specs.Lines.{call_words}
use Rattle.onll_audit.specs.declared.said.Said.{Said}
use Rattle.onll_audit.specs.declared.said.Said.TheVariants.{Answered, FenceFailed, Broken}
use Rattle.onll_audit.specs.Fields.{◌>?◌, some_if, next_field, after_word, number_word, number_field, after_text, last_field, are_words}

-- ---- single lines
-- what becomes of a call by the text after the arrow: `fence failed at P` and `broken at P` are always these outcomes, and any other
-- words before `at P` are a reply
abbrev pub answered_said : List ℕ → Option Said
answered_said text = last_field text >? λ f. number_word f.1 >? λ place. last_field f.0 >? λ g.
    some_if (bytes_eq g.1 (codes "at") && are_words true g.0) (Answered place)

abbrev pub failed_said : List ℕ → Option Said
failed_said text = after_text (codes "fence failed at ") text >? λ rest. number_word rest >? λ place. Some (FenceFailed place)

abbrev pub broken_said : List ℕ → Option Said
broken_said text = after_text (codes "broken at ") text >? λ rest. number_word rest >? λ place. Some (Broken place)

abbrev pub said_of : List ℕ → Option Said
said_of text = option_or (failed_said text) (option_or (broken_said text) (answered_said text))

-- what follows the front of the line of a call of this thread, up to its number
abbrev pub after_number : ℕ → List ℕ → Option (List ℕ)
after_number thread line = after_word (codes "call") line >? λ rest. after_word (decimal thread) rest >? λ more.
    number_field more >? λ number. Some number.1

module _ {State Op Query Reply : Type 0} (w : Wording State Op Query Reply) where
  -- the text is a call of the object, as it is printed
  abbrev pub is_printed : List ℕ → Result (Call State Op Query Reply) Reason → Bool
  is_printed text (Ok c) = bytes_eq (joined (call_words w c)) text
  is_printed text (Err reason) = false

  abbrev pub is_call : List ℕ → Bool
  is_call text = is_printed text (w.call_of (words_of text))

  -- the arrow after a call stands there, and after it what became of the call
  abbrev pub is_arrow : List ℕ → ℕ → Bool
  is_arrow text i = starts_with nat_eq (drop i text) (codes " -> ") && (is_call (take i text) && is_some (said_of (drop (i + 4) text)))

  -- it does at one of so many places
  abbrev pub has_arrow : List ℕ → ℕ → Bool
  has_arrow text zero = false
  has_arrow text (suc n) = has_arrow text n || is_arrow text n

  -- the arrow stands somewhere in a text, where there is one
  abbrev pub some_arrow : Option (List ℕ) → Bool
  some_arrow None = false
  some_arrow (Some text) = has_arrow text (length text)

  -- the line of a call of this thread
  abbrev pub is_call_line : ℕ → List ℕ → Bool
  is_call_line thread line = some_arrow (after_number thread line)

  -- the operation of an update, as it is printed
  abbrev pub op_printed : List ℕ → Result (Call State Op Query Reply) Reason → Option Op
  op_printed text (Ok (Update op)) = some_if (bytes_eq (joined (w.op_words op)) text) op
  op_printed text (Ok (Ask query)) = None
  op_printed text (Err reason) = None

  abbrev pub op_said : List ℕ → Option Op
  op_said text = op_printed text (w.call_of (words_of text))

abbrev pub trace_said : List ℕ → Option ℕ
trace_said line = after_word (codes "trace") line >? λ rest. number_word rest

-- what follows a flag
abbrev pub past_flag : List ℕ → Option (List ℕ)
past_flag line = next_field line >? λ f. some_if (bytes_eq f.0 (codes "set") || bytes_eq f.0 (codes "unset")) f.1

-- the thread and the number of the line of a node at this place, and the text of its operation
abbrev pub node_front : ℕ → List ℕ → Option (ℕ × ℕ × List ℕ)
node_front place line = after_word (codes "node") line >? λ r₁. after_word (decimal place) r₁ >? λ r₂. number_field r₂ >? λ thread.
    number_field thread.1 >? λ number. past_flag number.1 >? λ text. Some (thread.0, number.0, text)

-- the node of a line at this place
abbrev pub node_said : {State Op Query Reply : Type 0} → Behaviour State Op Query Reply → Wording State Op Query Reply → ℕ → List ℕ
    → Option Node
node_said b w place line = node_front place line >? λ f. op_said w f.2 >? λ op.
    Some (record { thread = f.0; number = f.1; row = b.row_of op })

-- the fences of a thread's log, by its line
abbrev pub log_said : ℕ → List ℕ → Option ℕ
log_said thread line = after_word (codes "log") line >? λ r₁. after_word (decimal thread) r₁ >? λ r₂.
    after_word (codes "entries") r₂ >? λ r₃. number_field r₃ >? λ entries.
    after_word (codes "lines") entries.1 >? λ r₄. number_field r₄ >? λ lines.
    after_word (codes "fences") lines.1 >? λ r₅. number_word r₅

abbrev pub recovered_said : List ℕ → Option ℕ
recovered_said line = after_word (codes "recovered") line >? λ rest. number_word rest

abbrev pub is_log_line : ℕ → List ℕ → Bool
is_log_line thread line = is_some (log_said thread line)

abbrev pub is_recovered_line : List ℕ → Bool
is_recovered_line line = is_some (recovered_said line)

abbrev pub is_state_line : List ℕ → Bool
is_state_line line = bytes_eq line (codes "state")

-- the thread of a fault line, from this one on and below that count
abbrev pub fault_said : (least threads : ℕ) → List ℕ → Option ℕ
fault_said least threads line = after_word (codes "fault") line >? λ r₁.
    after_word (codes "thread") r₁ >? λ r₂. number_field r₂ >? λ thread.
    after_word (codes "place") thread.1 >? λ r₃. number_word r₃ >? λ place.
    some_if (nat_le least thread.0 && nat_lt thread.0 threads) thread.0

-- ---- lines in order
-- The lines that are left, and the number of the first: the parts between line ends, the last of which has no end.
pub record LinesLeft : Type 0 where
  pub number : ℕ
  pub parts : List (List ℕ)

abbrev pub all_lines : List ℕ → LinesLeft
all_lines text = record { number = 1; parts = slice_split is_line_end text }

-- the next whole line, and those after it
abbrev pub next_part : ℕ → List (List ℕ) → Option (List ℕ × LinesLeft)
next_part n [] = None
next_part n (x ∷ []) = None
next_part n (x ∷ y ∷ more) = Some (x, record { number = n + 1; parts = y ∷ more })

abbrev pub next_line : LinesLeft → Option (List ℕ × LinesLeft)
next_line left = next_part left.number left.parts

-- what the next line says, which is refused where it says nothing
abbrev pub wanted : {A : Type 0} → ℕ → Option A → Result A ℕ
wanted n None = Err n
wanted n (Some x) = Ok x

abbrev pub one_line : {A : Type 0} → (List ℕ → Option A) → LinesLeft → Result (A × LinesLeft) ℕ
one_line {A} read left = wanted left.number (next_line left >? λ l. read l.0 >? λ (x : A). Some (x, l.1))

-- the lines after the next, which is refused where it fails the test
abbrev pub line_that : (List ℕ → Bool) → LinesLeft → Result LinesLeft ℕ
line_that p left = wanted left.number (next_line left >? λ l. some_if (p l.0) l.1)

abbrev pub before_lines : List ℕ → List (List ℕ) × LinesLeft → List (List ℕ) × LinesLeft
before_lines line rest = (line ∷ rest.0, rest.1)

-- the whole lines up to the first that fails the test
abbrev pub lines_while : (List ℕ → Bool) → ℕ → List (List ℕ) → List (List ℕ) × LinesLeft
lines_while p n [] = ([], record { number = n; parts = [] })
lines_while p n (x ∷ []) = ([], record { number = n; parts = x ∷ [] })
lines_while p n (x ∷ y ∷ more) =
    if p x then before_lines x (lines_while p (n + 1) (y ∷ more)) else ([], record { number = n; parts = x ∷ y ∷ more })

abbrev pub before_groups : List (List ℕ) → List (List (List ℕ)) × LinesLeft → List (List (List ℕ)) × LinesLeft
before_groups lines rest = (lines ∷ rest.0, rest.1)

-- the lines of calls of so many threads, from thread t on
abbrev pub call_groups : {State Op Query Reply : Type 0} → Wording State Op Query Reply → ℕ → ℕ → LinesLeft
    → List (List (List ℕ)) × LinesLeft
call_groups w t zero left = ([], left)
call_groups w t (suc count) left =
    let group = lines_while (is_call_line w t) left.number left.parts in
    before_groups group.0 (call_groups w (t + 1) count group.1)

-- the nodes of so many lines, the first of them at place p + 1
abbrev pub node_run : {State Op Query Reply : Type 0} → Behaviour State Op Query Reply → Wording State Op Query Reply → ℕ → ℕ → LinesLeft
    → Result (List Node × LinesLeft) ℕ
node_run b w p zero left = Ok ([], left)
node_run b w p (suc count) left = one_line (node_said b w (p + 1)) left >>= λ n.
    node_run b w (p + 1) count n.1 >>= λ rest. Ok (n.0 ∷ rest.0, rest.1)

-- the lines of so many logs, from thread t on
abbrev pub log_run : ℕ → ℕ → LinesLeft → Result LinesLeft ℕ
log_run t zero left = Ok left
log_run t (suc count) left = line_that (is_log_line t) left >>= λ after. log_run (t + 1) count after

-- what is left after a line of a fault, if it is one
abbrev pub after_fault : LinesLeft → (ℕ → LinesLeft) → Option ℕ → LinesLeft
after_fault left rest None = left
after_fault left rest (Some t) = rest t

-- what is left after fault lines, whose threads rise
abbrev pub fault_run : (threads least : ℕ) → ℕ → List (List ℕ) → LinesLeft
fault_run threads least n [] = record { number = n; parts = [] }
fault_run threads least n (x ∷ []) = record { number = n; parts = x ∷ [] }
fault_run threads least n (x ∷ y ∷ more) =
    after_fault (record { number = n; parts = x ∷ y ∷ more }) (λ t. fault_run threads (t + 1) (n + 1) (y ∷ more))
    (fault_said least threads x)

-- ---- the whole form
-- What a report of the form says that is judged: the lines of the calls of each thread, the nodes, and the text after the line `state`,
-- with that line's number.
pub record ReportForm : Type 0 where
  pub calls : List (List (List ℕ))
  pub nodes : List Node
  pub state_line : ℕ
  pub state : List ℕ

-- what the lines after those of calls say, where those are these
abbrev pub rest_of : {State Op Query Reply : Type 0} → Behaviour State Op Query Reply → Wording State Op Query Reply → ℕ
    → List (List (List ℕ)) → LinesLeft
    → Result ReportForm ℕ
rest_of b w threads calls left =
    one_line trace_said left >>= λ count.
    node_run b w 0 count.0 count.1 >>= λ nodes.
    log_run 0 threads nodes.1 >>= λ logs.
    line_that is_recovered_line logs >>= λ recovered.
    let faults = fault_run threads 0 recovered.number recovered.parts in
    line_that is_state_line faults >>= λ after.
    Ok (record { calls = calls; nodes = nodes.0; state_line = faults.number; state = join_with_byte 10 after.parts })

-- what a text of the form says, for so many threads, or its first line that is none of the form
abbrev pub report_form : {State Op Query Reply : Type 0} → Behaviour State Op Query Reply → Wording State Op Query Reply → ℕ → List ℕ
    → Result ReportForm ℕ
report_form b w threads text = let calls = call_groups w 0 threads (all_lines text) in rest_of b w threads calls.0 calls.1
