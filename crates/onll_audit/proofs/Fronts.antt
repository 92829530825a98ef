-- The fields of printed lines read back.
use Rattle.std.proofs.Common.{ℕ, suc, Bool, true, false, List, [], ◌∷◌, ◌++◌, ◌≡◌, ◌≢◌, ◌+◌, ◌<◌, ◌≤◌, ◌^◌, not, length, drop, codes, decimal, cond, nat_lt, nat_le, Option, Some, None, refl, ap, ◌∙◌, arith, length-append}
use Rattle.std.specs.List.{list_all, position_or_len}
use Rattle.std.specs.Str.{bytes_eq}
use Rattle.std.proofs.Math.Seq.{take-append_seam, drop-append-add}
use Rattle.std.proofs.lemmas.Slice.Eq.{bytes_eq-Decides}
use Rattle.std.proofs.lemmas.Bool.Decides.{nat_tests}
use Rattle.onll_words.specs.Texts.{is_word_byte, joined}
use Rattle.onll_words.proofs.Decimals.{IsWord-decimal}
use Rattle.onll_text.specs.Lines.{trace_line, log_line, recovered_line, fence_line}
use Rattle.onll_audit.specs.Fields.{◌>?◌, some_if, is_space, cut_at, next_field, after_word, number_word, number_field}
use Rattle.onll_audit.specs.Form.{trace_said, log_said, recovered_said, fault_said}
use Rattle.onll_audit.proofs.Following.{both, lt_test, le_test}
use Rattle.onll_audit.proofs.Reading.{number_word_reads}
use Rattle.onll_audit.proofs.Threads.{and_true}

-- a byte of a word is no space
pub word_byte : (b : ℕ) → is_word_byte b ≡ true → is_space b ≡ false
word_byte b h = grind (arith, nat_tests)

-- a word ends at the first space
place_of_space : (w rest : List ℕ) → list_all is_word_byte w ≡ true → position_or_len is_space (w ++ 32 ∷ rest) ≡ length w
place_of_space [] rest h = refl
place_of_space (b ∷ w) rest h =
    let parts = both (is_word_byte b) (list_all is_word_byte w) h in
    let up : 1 + length w ≡ suc (length w) = omega arith in
    ap (λ (t : Bool). cond (not t) (1 + position_or_len is_space (w ++ 32 ∷ rest)) 0) (word_byte b parts.0)
    ∙ ap (λ (n : ℕ). 1 + n) (place_of_space w rest parts.1) ∙ up

pub field_reads : (w rest : List ℕ) → list_all is_word_byte w ≡ true → next_field (w ++ 32 ∷ rest) ≡ Some (w, rest)
field_reads w rest h =
    let line = w ++ 32 ∷ rest in
    let within : length w < length line = omega (arith, length-append w (32 ∷ rest)) in
    ap (λ (n : ℕ). cut_at line (cond (nat_lt n (length line)) (Some n) None)) (place_of_space w rest h)
    ∙ ap (λ (t : Bool). cut_at line (cond t (Some (length w)) None)) (lt_test (length w) (length line) within)
    ∙ ap (λ (f : List ℕ). Some (f, drop (length w + 1) line)) (take-append_seam w (32 ∷ rest))
    ∙ ap (λ (r : List ℕ). Some (w, r)) (drop-append-add w (32 ∷ rest) 1)

pub word_reads : (w rest : List ℕ) → list_all is_word_byte w ≡ true → after_word w (w ++ 32 ∷ rest) ≡ Some rest
word_reads w rest h =
    ap (λ (o : Option (List ℕ × List ℕ)). o >? λ f. some_if (bytes_eq f.0 w) f.1) (field_reads w rest h)
    ∙ ap (λ (t : Bool). some_if t rest) ((bytes_eq-Decides w w).1 refl)

-- another word stands there
pub word_differs : (u w rest : List ℕ) → list_all is_word_byte w ≡ true → w ≢ u → after_word u (w ++ 32 ∷ rest) ≡ None
word_differs u w rest h other =
    ap (λ (o : Option (List ℕ × List ℕ)). o >? λ f. some_if (bytes_eq f.0 u) f.1) (field_reads w rest h)
    ∙ ap (λ (t : Bool). some_if t rest) (by_test (bytes_eq w u) refl)
  where
    by_test : (t : Bool) → bytes_eq w u ≡ t → bytes_eq w u ≡ false
    by_test true e = absurd (other ((bytes_eq-Decides w u).0 e))
    by_test false e = e

pub number_reads : (n : ℕ) (rest : List ℕ) → n < 2 ^ 64 → number_field (decimal n ++ 32 ∷ rest) ≡ Some (n, rest)
number_reads n rest h =
    ap (λ (o : Option (List ℕ × List ℕ)). o >? λ f. number_word f.0 >? λ m. Some (m, f.1)) (field_reads (decimal n) rest (IsWord-decimal n).bytes)
    ∙ ap (λ (o : Option ℕ). o >? λ m. Some (m, rest)) (number_word_reads n h)

pub own_number : (n : ℕ) (rest : List ℕ) → after_word (decimal n) (decimal n ++ 32 ∷ rest) ≡ Some rest
own_number n rest = word_reads (decimal n) rest (IsWord-decimal n).bytes

-- what is read, and nothing, goes on with what follows
pub read_on : {A B : Type 0} (o : Option A) (x : A) (f : A → Option B) (r : Option B) → o ≡ Some x → f x ≡ r → (o >? f) ≡ r
read_on o x f r e h = ap (λ p. p >? f) e ∙ h

pub read_none : {A B : Type 0} (o : Option A) (f : A → Option B) → o ≡ None → (o >? f) ≡ None
read_none o f e = ap (λ p. p >? f) e

-- ---- lines of numbers
pub trace_reads : (n : ℕ) → n < 2 ^ 64 → trace_said (joined (trace_line n)) ≡ Some n
trace_reads n h = read_on _ (decimal n) _ (Some n) (word_reads (codes "trace") (decimal n) refl) (number_word_reads n h)

pub recovered_reads : (n : ℕ) → n < 2 ^ 64 → recovered_said (joined (recovered_line n)) ≡ Some n
recovered_reads n h = read_on _ (decimal n) _ (Some n) (word_reads (codes "recovered") (decimal n) refl) (number_word_reads n h)

pub log_reads : (t entries lines fences : ℕ) → entries < 2 ^ 64 → lines < 2 ^ 64 → fences < 2 ^ 64
    → log_said t (joined (log_line t entries lines (Some fences))) ≡ Some fences
log_reads t entries lines fences e l f =
    let fs : List (List ℕ) = codes "fences" ∷ decimal fences ∷ [] in
    let ls : List (List ℕ) = codes "lines" ∷ decimal lines ∷ fs in
    let es : List (List ℕ) = codes "entries" ∷ decimal entries ∷ ls in
    read_on _ _ _ _ (word_reads (codes "log") (joined (decimal t ∷ es)) refl)
    (read_on _ _ _ _ (own_number t (joined es))
    (read_on _ _ _ _ (word_reads (codes "entries") (joined (decimal entries ∷ ls)) refl)
    (read_on _ _ _ _ (number_reads entries (joined ls) e)
    (read_on _ _ _ _ (word_reads (codes "lines") (joined (decimal lines ∷ fs)) refl)
    (read_on _ _ _ _ (number_reads lines (joined fs) l)
    (read_on _ _ _ _ (word_reads (codes "fences") (decimal fences) refl) (number_word_reads fences f)))))))

pub fault_reads : (least threads t place : ℕ) → least ≤ t → t < threads → t < 2 ^ 64 → place < 2 ^ 64
    → fault_said least threads (joined (fence_line t place)) ≡ Some t
fault_reads least threads t place low high fits p =
    let ps : List (List ℕ) = codes "place" ∷ decimal place ∷ [] in
    read_on _ _ _ _ (word_reads (codes "fault") (joined (codes "thread" ∷ decimal t ∷ ps)) refl)
    (read_on _ _ _ _ (word_reads (codes "thread") (joined (decimal t ∷ ps)) refl)
    (read_on _ _ _ _ (number_reads t (joined ps) fits)
    (read_on _ _ _ _ (word_reads (codes "place") (decimal place) refl)
    (read_on _ _ _ _ (number_word_reads place p)
    (ap (λ (test : Bool). some_if test t) (and_true (nat_le least t) (nat_lt t threads) (le_test least t low) (lt_test t threads high)))))))
