-- The device over a file.
use Rattle.std.proofs.Common.{◌≡◌, ℕ, ◌+◌, zero, suc, ◌-◌, ◌<◌, ◌≤◌, ◌++◌, replicate, Bool, false, List, [], ◌∷◌, length, take, set, get_or, refl, sym, ap, ◌∙◌, subst, arith}
use Rattle.std.proofs.lemmas.List.{length-map, length-set, map-append, map-set, take_more, get_or-map, take_all}
use Rattle.onll_words.specs.Bytes.{words_in}
use Rattle.onll_words.specs.Lines.{words_of_bytes}
use Rattle.onll_words.specs.declared.line.Line.{Line}
use Rattle.onll_pmem.specs.Device.{line_at, zero_line, zero_lines}
use Rattle.onll_pmem.specs.Pmem.{words_of, EightWords}
use Rattle.onll_pmem.specs.File.{words_in_file, KeepsFile}
use Rattle.onll_pmem.proofs.Lines.{length-words_of}

pub length-words_of_bytes : (bytes : List ℕ) → length (words_of_bytes bytes) ≡ 8
unfolding words_in
length-words_of_bytes bytes = refl

pub length-words_in_file : (bytes : List (List ℕ)) → length (words_in_file bytes) ≡ length bytes
length-words_in_file bytes = length-map bytes words_of_bytes

pub EightWords-words_in_file : (bytes : List (List ℕ)) → EightWords (words_in_file bytes)
EightWords-words_in_file bytes k d l = ap length (get_or-map words_of_bytes bytes k [] d (omega (arith, length-words_in_file bytes))) ∙ length-words_of_bytes (get_or bytes k [])

-- one line more is laid out in bytes
pub Bytes-more : (bytes : List (List ℕ)) (lines : List Line) (i : ℕ) (more : List ℕ) (d : Line) → i < length lines → words_in_file bytes ≡ take i (words_of lines)
    → words_of_bytes more ≡ (get_or lines i d).w → words_in_file (bytes ++ more ∷ []) ≡ take (i + 1) (words_of lines)
Bytes-more bytes lines i more d here same e =
    let this : words_of_bytes more ≡ line_at (words_of lines) i = e ∙ sym (get_or-map (λ (line : Line). line.w) lines i d [] here) in
    map-append words_of_bytes bytes (more ∷ []) ∙ ((λ j. same j ++ this j ∷ []) ∙ sym (take_more (words_of lines) i [] (omega (arith, length-words_of lines))))

-- lines of zeros follow
words_in_file-zeros : (n : ℕ) (zero_bytes : List ℕ) → words_of_bytes zero_bytes ≡ zero_line → words_in_file (replicate n zero_bytes) ≡ zero_lines n
words_in_file-zeros zero zero_bytes e = refl
words_in_file-zeros (suc n) zero_bytes e = let rest = words_in_file-zeros n zero_bytes e in λ i. e i ∷ rest i

pub Bytes-resized : (bytes : List (List ℕ)) (front : List Line) (n m : ℕ) (zero_bytes : List ℕ) → words_in_file bytes ≡ words_of front → length front ≤ n → m ≡ length bytes → words_of_bytes zero_bytes ≡ zero_line
    → words_in_file (take n bytes ++ replicate (n - m) zero_bytes) ≡ words_of front ++ zero_lines (n - length front)
Bytes-resized bytes front n m zero_bytes same few len e =
    let count : length bytes ≡ length front = sym (length-words_in_file bytes) ∙ (ap length same ∙ length-words_of front) in
    let left : n - m ≡ n - length front = omega arith in
    map-append words_of_bytes (take n bytes) (replicate (n - m) zero_bytes)
    ∙ (λ i. (ap words_in_file (take_all n bytes (omega arith)) ∙ same) i ++ (words_in_file-zeros (n - m) zero_bytes e ∙ ap zero_lines left) i)

pub words_in_file-set : (bytes : List (List ℕ)) (line : ℕ) (value words : List ℕ) → words_of_bytes value ≡ words → words_in_file (set bytes line value) ≡ set (words_in_file bytes) line words
words_in_file-set bytes line value words e = map-set words_of_bytes bytes line value ∙ ap (λ (ws : List ℕ). set (words_in_file bytes) line ws) e

pub KeepsFile-write : (bytes : List (List ℕ)) (waiting : List Bool) (to passed failed line : ℕ) (value : List ℕ) → KeepsFile (words_in_file bytes) waiting to passed failed
    → KeepsFile (words_in_file (set bytes line value)) (set waiting line false) to passed failed
KeepsFile-write bytes waiting to passed failed line value k =
    subst (λ (ls : List (List ℕ)). KeepsFile ls (set waiting line false) to passed failed) (sym (words_in_file-set bytes line value (words_of_bytes value) refl)) (record {
      as_marked = omega (arith, k.as_marked, length-set waiting line false, length-set (words_in_file bytes) line (words_of_bytes value));
      within = omega (arith, k.within, length-set (words_in_file bytes) line (words_of_bytes value));
      few = omega (arith, k.few, length-set (words_in_file bytes) line (words_of_bytes value));
      fences = k.fences;
    })
