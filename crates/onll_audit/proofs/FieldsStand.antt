-- What was read of a line stands there: a line that reads as one of a report has just the words of that line.
use Rattle.std.proofs.Common.{ℕ, Bool, true, false, List, ◌∷◌, ◌++◌, ◌≡◌, ◌+◌, ◌<◌, ◌≤◌, ◌^◌, ◌&&◌, take, drop, get_or, codes, decimal, position, nat_le, nat_lt, Option, Some, None, refl, ap, sym, ◌∙◌, arith}
use Rattle.std.specs.Str.{bytes_eq}
use Rattle.std.proofs.lemmas.List.{take-append-drop, drop_more}
use Rattle.std.proofs.lemmas.List.Quantifiers.{position-Some}
use Rattle.std.proofs.lemmas.Option.{same_Some}
use Rattle.std.proofs.lemmas.Slice.Eq.{bytes_eq-Decides}
use Rattle.onll_words.specs.Texts.{joined}
use Rattle.onll_text.specs.Lines.{LogData, trace_line, log_line, recovered_line, fence_line}
use Rattle.onll_text.specs.Reports.{LogReads}
use Rattle.onll_audit.specs.Fields.{◌>?◌, some_if, is_space, cut_at, next_field, after_word, number_word, number_field}
use Rattle.onll_audit.specs.Form.{trace_said, log_said, recovered_said, fault_said}
use Rattle.onll_audit.proofs.Following.{both, eq_fact, le_fact, lt_fact}
use Rattle.onll_audit.proofs.Reading.{number_word_is, number_word_fits}

-- ---- fields
-- what was read, and what was read after it
pub was_read : {A B : Type 0} (o : Option A) (f : A → Option B) (y : B) → (o >? f) ≡ Some y → (x : A) × (o ≡ Some x) × (f x ≡ Some y)
was_read None f y e = cc e
was_read (Some x) f y e = (x, refl, e)

pub test_held : {A : Type 0} (test : Bool) (x y : A) → some_if test x ≡ Some y → (test ≡ true) × (x ≡ y)
test_held true x y e = (refl, same_Some x y e)
test_held false x y e = cc e

pub field_stands : (line field rest : List ℕ) → next_field line ≡ Some (field, rest) → line ≡ field ++ 32 ∷ rest
field_stands line field rest e = by_place (position is_space line) refl e
  where
    by_place : (o : Option ℕ) → position is_space line ≡ o → cut_at line o ≡ Some (field, rest) → line ≡ field ++ 32 ∷ rest
    by_place None g h = cc h
    by_place (Some i) g h =
        let at = position-Some is_space line i 0 g in
        let pair = same_Some (take i line, drop (i + 1) line) (field, rest) h in
        sym (take-append-drop i line)
        ∙ ap (λ (t : List ℕ). take i line ++ t) (drop_more line i 0 at.0)
        ∙ ap (λ (b : ℕ). take i line ++ b ∷ drop (i + 1) line) (eq_fact (get_or line i 0) 32 at.1)
        ∙ ap (λ (f : List ℕ × List ℕ). f.0 ++ 32 ∷ f.1) pair

pub word_stands : (word line rest : List ℕ) → after_word word line ≡ Some rest → line ≡ word ++ 32 ∷ rest
word_stands word line rest e =
    let f = was_read (next_field line) (λ (f : List ℕ × List ℕ). some_if (bytes_eq f.0 word) f.1) rest e in
    let field : List ℕ × List ℕ = f.0 in
    let k = test_held (bytes_eq field.0 word) field.1 rest f.2 in
    field_stands line field.0 field.1 f.1
    ∙ ap (λ (v : List ℕ). v ++ 32 ∷ field.1) ((bytes_eq-Decides field.0 word).0 k.0)
    ∙ ap (λ (r : List ℕ). word ++ 32 ∷ r) k.1

pub number_stands : (line rest : List ℕ) (n : ℕ) → number_field line ≡ Some (n, rest) → (line ≡ decimal n ++ 32 ∷ rest) × (n < 2 ^ 64)
number_stands line rest n e =
    let f = was_read (next_field line) (λ (f : List ℕ × List ℕ). number_word f.0 >? λ m. Some (m, f.1)) (n, rest) e in
    let field : List ℕ × List ℕ = f.0 in
    let m = was_read (number_word field.0) (λ (m : ℕ). Some (m, field.1)) (n, rest) f.2 in
    let pair = same_Some (m.0, field.1) (n, rest) m.2 in
    let word : number_word field.0 ≡ Some n = m.1 ∙ ap (λ (r : ℕ × List ℕ). Some r.0) pair in (
      field_stands line field.0 field.1 f.1
          ∙ ap (λ (v : List ℕ). v ++ 32 ∷ field.1) (number_word_is field.0 n word)
          ∙ ap (λ (r : ℕ × List ℕ). decimal n ++ 32 ∷ r.1) pair,
      number_word_fits field.0 n word,
    )

-- ---- lines of numbers
pub trace_stands : (line : List ℕ) (n : ℕ) → trace_said line ≡ Some n → (line ≡ joined (trace_line n)) × (n < 2 ^ 64)
trace_stands line n e =
    let f = was_read (after_word (codes "trace") line) (λ (rest : List ℕ). number_word rest) n e in
    (word_stands (codes "trace") line f.0 f.1 ∙ ap (λ (r : List ℕ). codes "trace" ++ 32 ∷ r) (number_word_is f.0 n f.2), number_word_fits f.0 n f.2)

pub recovered_stands : (line : List ℕ) (n : ℕ) → recovered_said line ≡ Some n → (line ≡ joined (recovered_line n)) × (n < 2 ^ 64)
recovered_stands line n e =
    let f = was_read (after_word (codes "recovered") line) (λ (rest : List ℕ). number_word rest) n e in
    (word_stands (codes "recovered") line f.0 f.1 ∙ ap (λ (r : List ℕ). codes "recovered" ++ 32 ∷ r) (number_word_is f.0 n f.2), number_word_fits f.0 n f.2)

-- what follows each word of the line of a log
log_text : (t : ℕ) (log : LogData) (line r₁ r₂ r₃ r₄ r₅ r₆ r₇ : List ℕ) → line ≡ codes "log" ++ 32 ∷ r₁ → r₁ ≡ decimal t ++ 32 ∷ r₂ → r₂ ≡ codes "entries" ++ 32 ∷ r₃
    → r₃ ≡ decimal log.entries ++ 32 ∷ r₄ → r₄ ≡ codes "lines" ++ 32 ∷ r₅ → r₅ ≡ decimal log.lines ++ 32 ∷ r₆ → r₆ ≡ codes "fences" ++ 32 ∷ r₇
    → r₇ ≡ decimal log.fences → line ≡ joined (log_line t log.entries log.lines (Some log.fences))
log_text t log line r₁ r₂ r₃ r₄ r₅ r₆ r₇ e₁ e₂ e₃ e₄ e₅ e₆ e₇ e₈ =
    let six : r₆ ≡ codes "fences" ++ 32 ∷ decimal log.fences = e₇ ∙ ap (λ (r : List ℕ). codes "fences" ++ 32 ∷ r) e₈ in
    let four : r₄ ≡ codes "lines" ++ 32 ∷ (decimal log.lines ++ 32 ∷ r₆) = e₅ ∙ ap (λ (r : List ℕ). codes "lines" ++ 32 ∷ r) e₆ in
    let two : r₂ ≡ codes "entries" ++ 32 ∷ (decimal log.entries ++ 32 ∷ r₄) = e₃ ∙ ap (λ (r : List ℕ). codes "entries" ++ 32 ∷ r) e₄ in
    e₁
    ∙ ap (λ (r : List ℕ). codes "log" ++ 32 ∷ r) e₂
    ∙ ap (λ (r : List ℕ). codes "log" ++ 32 ∷ (decimal t ++ 32 ∷ r)) two
    ∙ ap (λ (r : List ℕ). codes "log" ++ 32 ∷ (decimal t ++ 32 ∷ (codes "entries" ++ 32 ∷ (decimal log.entries ++ 32 ∷ r)))) four
    ∙ ap (λ (r : List ℕ). codes "log" ++ 32 ∷ (decimal t ++ 32 ∷ (codes "entries" ++ 32 ∷ (decimal log.entries ++ 32 ∷ (codes "lines" ++ 32 ∷ (decimal log.lines ++ 32 ∷ r))))))
    six

pub log_stands : (t : ℕ) (line : List ℕ) (fences : ℕ) → log_said t line ≡ Some fences
    → (log : LogData) × LogReads log × (line ≡ joined (log_line t log.entries log.lines (Some log.fences)))
log_stands t line fences e =
    let r₁ = was_read _ _ fences e in
    let r₂ = was_read _ _ fences r₁.2 in
    let r₃ = was_read _ _ fences r₂.2 in
    let entries = was_read _ _ fences r₃.2 in
    let r₄ = was_read _ _ fences entries.2 in
    let lines = was_read _ _ fences r₄.2 in
    let r₅ = was_read _ _ fences lines.2 in
    let many = number_stands r₃.0 entries.0.1 entries.0.0 entries.1 in
    let long = number_stands r₄.0 lines.0.1 lines.0.0 lines.1 in
    let log : LogData = record { entries = entries.0.0; lines = lines.0.0; fences = fences } in (
      log,
      record { entries = many.1; lines = long.1; fences = number_word_fits r₅.0 fences r₅.2 },
      log_text t log line r₁.0 r₂.0 r₃.0 entries.0.1 r₄.0 lines.0.1 r₅.0 (word_stands (codes "log") line r₁.0 r₁.1) (word_stands (decimal t) r₁.0 r₂.0 r₂.1)
          (word_stands (codes "entries") r₂.0 r₃.0 r₃.1) many.0 (word_stands (codes "lines") entries.0.1 r₄.0 r₄.1) long.0
          (word_stands (codes "fences") lines.0.1 r₅.0 r₅.1) (number_word_is r₅.0 fences r₅.2),
    )

-- what follows each word of the line of a fence that failed
fence_text : (t place : ℕ) (line r₁ r₂ r₃ r₄ : List ℕ) → line ≡ codes "fault" ++ 32 ∷ r₁ → r₁ ≡ codes "thread" ++ 32 ∷ r₂ → r₂ ≡ decimal t ++ 32 ∷ r₃
    → r₃ ≡ codes "place" ++ 32 ∷ r₄ → r₄ ≡ decimal place → line ≡ joined (fence_line t place)
fence_text t place line r₁ r₂ r₃ r₄ e₁ e₂ e₃ e₄ e₅ =
    e₁
    ∙ ap (λ (r : List ℕ). codes "fault" ++ 32 ∷ r) e₂
    ∙ ap (λ (r : List ℕ). codes "fault" ++ 32 ∷ (codes "thread" ++ 32 ∷ r)) e₃
    ∙ ap (λ (r : List ℕ). codes "fault" ++ 32 ∷ (codes "thread" ++ 32 ∷ (decimal t ++ 32 ∷ r))) (e₄ ∙ ap (λ (r : List ℕ). codes "place" ++ 32 ∷ r) e₅)

-- the line of a fence that failed, of a thread from the least on and below that count
pub fault_stands : (least threads : ℕ) (line : List ℕ) (t : ℕ) → fault_said least threads line ≡ Some t
    → (place : ℕ) × (least ≤ t) × (t < threads) × (place < 2 ^ 64) × (line ≡ joined (fence_line t place))
fault_stands least threads line t e =
    let r₁ = was_read _ _ t e in
    let r₂ = was_read _ _ t r₁.2 in
    let thread = was_read _ _ t r₂.2 in
    let r₃ = was_read _ _ t thread.2 in
    let place = was_read _ _ t r₃.2 in
    let held = test_held (nat_le least thread.0.0 && nat_lt thread.0.0 threads) thread.0.0 t place.2 in
    let tests = both (nat_le least thread.0.0) (nat_lt thread.0.0 threads) held.0 in
    let low = le_fact least thread.0.0 tests.0 in
    let high = lt_fact thread.0.0 threads tests.1 in
    let same = held.1 in (
      place.0,
      omega (arith, low, same),
      omega (arith, high, same),
      number_word_fits r₃.0 place.0 place.1,
      fence_text t place.0 line r₁.0 r₂.0 thread.0.1 r₃.0 (word_stands (codes "fault") line r₁.0 r₁.1) (word_stands (codes "thread") r₁.0 r₂.0 r₂.1)
          ((number_stands r₂.0 thread.0.1 thread.0.0 thread.1).0 ∙ ap (λ (n : ℕ). decimal n ++ 32 ∷ thread.0.1) same)
          (word_stands (codes "place") thread.0.1 r₃.0 r₃.1) (number_word_is r₃.0 place.0 place.1),
    )
