-- Texts as lines, and back.
use Rattle.std.proofs.Common.{ℕ, zero, suc, ◌≡◌, ◌+◌, ◌-◌, ◌*◌, ◌<◌, ◌≤◌, List, [], ◌∷◌, ◌++◌, length, take, drop, map, flat_map, replicate, get_or, set, min, refl, sym, ap, ◌∙◌, ◌⊎◌, inl, inr, arith, append_assoc, append-nil, length-append}
use Rattle.std.specs.Simd.{first_chunks}
use Rattle.std.proofs.lemmas.Bool.{cases_lt}
use Rattle.std.proofs.lemmas.List.{take-append-drop, take-append-le, take_all, take_at, drop-append-le, drop-drop, length-take-le, length-drop, length-map, length-replicate, set_at, take_more}
use Rattle.onll_words.specs.Lines.{words_of_bytes, bytes_of_words}
use Rattle.onll_words.proofs.LineBytes.{bytes_of_words-words_of_bytes}
use Rattle.onll_words.proofs.WordBytes.{Bytes, dropped}
use Rattle.onll_pmem.specs.Device.{line_at}
use Rattle.onll_checkpoint.specs.Text.{lines_of_text, filled_text, text_lines, text_in}

-- ---- lines of bytes
length-first_chunks : (n : ℕ) (bytes : List ℕ) → length (first_chunks 64 n bytes) ≡ n
length-first_chunks zero bytes = refl
length-first_chunks (suc n) bytes = ap suc (length-first_chunks n (drop 64 bytes))

pub length-text_lines : (text : List ℕ) → length (text_lines text) ≡ lines_of_text (length text)
length-text_lines text = length-map (first_chunks 64 (lines_of_text (length text)) (filled_text text)) words_of_bytes
    ∙ length-first_chunks (lines_of_text (length text)) (filled_text text)

line_at-chunks : (n : ℕ) (bytes : List ℕ) (i : ℕ) → i < n
    → line_at (map words_of_bytes (first_chunks 64 n bytes)) i ≡ words_of_bytes (take 64 (drop (64 * i) bytes))
line_at-chunks zero bytes i l = absurd (omega arith)
line_at-chunks (suc n) bytes zero l = refl
line_at-chunks (suc n) bytes (suc i) l =
    let e : 64 + 64 * i ≡ 64 * suc i = omega arith in
    line_at-chunks n (drop 64 bytes) i (omega arith) ∙ ap (λ bs. words_of_bytes (take 64 bs)) (drop-drop (64 * i) 64 bytes ∙ ap (λ k. drop k bytes) e)

-- the last bytes of a text, with zeros up to the end of a line
last_bytes : (rest : List ℕ) (zeros : ℕ) → (64 ≤ length rest) ⊎ (length rest + zeros ≡ 64)
    → take 64 (rest ++ replicate zeros 0) ≡ take 64 rest ++ replicate (64 - length rest) 0
last_bytes rest zeros (inl long) =
    let none : 64 - length rest ≡ 0 = omega arith in
    take-append-le 64 rest (replicate zeros 0) long ∙ (sym (append-nil (take 64 rest)) ∙ ap (λ k. take 64 rest ++ replicate k 0) (sym none))
last_bytes rest zeros (inr whole) =
    let left : zeros ≡ 64 - length rest = omega arith in
    take_all 64 (rest ++ replicate zeros 0) (omega (arith, length-append rest (replicate zeros 0), length-replicate {A = ℕ} zeros 0))
    ∙ (ap (λ bs. bs ++ replicate zeros 0) (sym (take_all 64 rest (omega arith))) ∙ ap (λ k. take 64 rest ++ replicate k 0) left)

-- a line of a text
pub line_at-text_lines : (text : List ℕ) (i : ℕ) → i < lines_of_text (length text)
    → line_at (text_lines text) i ≡ words_of_bytes (take 64 (drop (64 * i) text) ++ replicate (64 - length (drop (64 * i) text)) 0)
line_at-text_lines text i l =
    let n = lines_of_text (length text) in
    let zeros : ℕ = 64 * n - length text in
    line_at-chunks n (filled_text text) i l
    ∙ ap (λ bs. words_of_bytes (take 64 bs)) (drop-append-le (64 * i) text (replicate zeros 0) (omega arith))
    ∙ ap words_of_bytes (last_bytes (drop (64 * i) text) zeros (at (cases_lt (length text) (64 * i + 64))))
  where
    at : (length text < 64 * i + 64) ⊎ (64 * i + 64 ≤ length text)
        → (64 ≤ length (drop (64 * i) text)) ⊎ (length (drop (64 * i) text) + (64 * lines_of_text (length text) - length text) ≡ 64)
    at (inl short) = inr (omega (arith, length-drop (64 * i) text))
    at (inr long) = inl (omega (arith, length-drop (64 * i) text))

-- ---- and back
pub taken : (n : ℕ) (bytes : List ℕ) → Bytes bytes → Bytes (take n bytes)
taken zero bytes h i = omega arith
taken (suc n) [] h i = omega arith
taken (suc n) (b ∷ bytes) h zero = h 0
taken (suc n) (b ∷ bytes) h (suc i) = taken n bytes (λ j. h (suc j)) i

pub Bytes-zeros : (n : ℕ) → Bytes (replicate n 0)
Bytes-zeros zero i = omega arith
Bytes-zeros (suc n) zero = omega arith
Bytes-zeros (suc n) (suc i) = Bytes-zeros n i

pub Bytes-append : (xs ys : List ℕ) → Bytes xs → Bytes ys → Bytes (xs ++ ys)
Bytes-append [] ys a b i = b i
Bytes-append (x ∷ xs) ys a b zero = a 0
Bytes-append (x ∷ xs) ys a b (suc i) = Bytes-append xs ys (λ j. a (suc j)) b i

bytes_of_chunks : (n : ℕ) (bytes : List ℕ) → length bytes ≡ 64 * n → Bytes bytes
    → flat_map bytes_of_words (map words_of_bytes (first_chunks 64 n bytes)) ≡ bytes
bytes_of_chunks zero [] l h = refl
bytes_of_chunks zero (b ∷ bytes) l h = absurd (omega arith)
bytes_of_chunks (suc n) bytes l h =
    let less = length-drop 64 bytes in
    let first : bytes_of_words (words_of_bytes (take 64 bytes)) ≡ take 64 bytes = bytes_of_words-words_of_bytes (take 64 bytes) (length-take-le 64 bytes (omega arith)) (taken 64 bytes h) in
    let rest = bytes_of_chunks n (drop 64 bytes) (omega arith) (dropped 64 bytes h) in
    (λ j. first j ++ rest j) ∙ take-append-drop 64 bytes

-- the text is what its lines begin with, whatever follows them
pub text_in-text_lines : (text : List ℕ) (rest : List (List ℕ)) → Bytes text → text_in (length text) (text_lines text ++ rest) ≡ text
text_in-text_lines text rest h =
    let n = lines_of_text (length text) in
    let zeros : ℕ = 64 * n - length text in
    let whole : length (filled_text text) ≡ 64 * n = omega (arith, length-append text (replicate zeros 0), length-replicate {A = ℕ} zeros 0) in
    let back : flat_map bytes_of_words (text_lines text) ≡ filled_text text = bytes_of_chunks n (filled_text text) whole (Bytes-append text (replicate zeros 0) h (Bytes-zeros zeros)) in
    ap (λ ls. take (length text) (flat_map bytes_of_words ls)) (take_at (text_lines text) rest n (length-text_lines text))
    ∙ (ap (take (length text)) back ∙ take_at text (replicate zeros 0) (length text) refl)

-- ---- the bytes of one line
pub filled_more : (text bytes : List ℕ) (i : ℕ) → i < length text → i < 64 → bytes ≡ take i text ++ replicate (64 - i) 0
    → set bytes i (get_or text i 0) ≡ take (i + 1) text ++ replicate (64 - (i + 1)) 0
filled_more text bytes i here few e =
    let x = get_or text i 0 in
    let rest : List ℕ = replicate (64 - (i + 1)) 0 in
    let left : 64 - i ≡ suc (64 - (i + 1)) = omega arith in
    ap (λ bs. set bs i x) (e ∙ ap (λ k. take i text ++ replicate k 0) left)
    ∙ (set_at (take i text) 0 rest x i (length-take-le i text (omega arith))
    ∙ (sym (append_assoc (take i text) (x ∷ []) rest) ∙ ap (λ bs. bs ++ rest) (sym (take_more text i 0 here))))

pub filled_all : (text : List ℕ) (i : ℕ) → i ≡ min (length text) 64 → take i text ++ replicate (64 - i) 0 ≡ take 64 text ++ replicate (64 - length text) 0
filled_all text i e = at (cases_lt (length text) 64)
  where
    at : (length text < 64) ⊎ (64 ≤ length text) → take i text ++ replicate (64 - i) 0 ≡ take 64 text ++ replicate (64 - length text) 0
    at (inl short) =
        let n : i ≡ length text = omega arith in
        ap (λ bs. bs ++ replicate (64 - i) 0) (take_all i text (omega arith) ∙ sym (take_all 64 text (omega arith))) ∙ ap (λ k. take 64 text ++ replicate (64 - k) 0) n
    at (inr long) =
        let n : i ≡ 64 = omega arith in
        let none : 64 - i ≡ 64 - length text = omega arith in
        ap (λ k. take k text ++ replicate (64 - i) 0) n ∙ ap (λ k. take 64 text ++ replicate k 0) none
