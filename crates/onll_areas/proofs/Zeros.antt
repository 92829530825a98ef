-- Zeros hold no checkpoint.
use Rattle.std.proofs.Common.{ℕ, zero, suc, ◌≡◌, ◌*◌, ◌/◌, ◌≤◌, List, [], ◌∷◌, length, map, take, drop, replicate, refl, sym, ap, ◌∙◌, arith}
use Rattle.std.specs.Prelude.{None}
use Rattle.std.specs.Simd.{first_chunks}
use Rattle.std.proofs.lemmas.List.{ext_get_or, get_or-take, get_or-replicate, length-take-le, length-replicate}
use Rattle.onll_words.specs.Lines.{words_of_bytes}
use Rattle.onll_pmem.specs.Device.{zero_line}
use Rattle.onll_outside.specs.Views.{AreZeros}
use Rattle.onll_outside.proofs.WholeLines.{zeros_whole, line_back}
use Rattle.onll_checkpoint.specs.Grammar.{checkpoint_in}
use Rattle.onll_areas.specs.Newest.{longest_area, area_lines}

zeros_front : (n : ℕ) (bytes : List ℕ) → n ≤ length bytes → AreZeros bytes → take n bytes ≡ replicate n 0
zeros_front n bytes l h = ext_get_or 0 (take n bytes) (replicate n 0) (length-take-le n bytes l ∙ sym (length-replicate {A = ℕ} n 0))
    (λ i k. let m = length-take-le n bytes l in
    get_or-take n bytes i 0 (omega arith) ∙ (h i 0 (omega arith) ∙ sym (get_or-replicate {A = ℕ} n i 0 0 (omega arith))))

zeros_taken : (n : ℕ) (bytes : List ℕ) → AreZeros bytes → AreZeros (take n bytes)
zeros_taken zero bytes h k d l = absurd (omega arith)
zeros_taken (suc n) [] h k d l = absurd (omega arith)
zeros_taken (suc n) (b ∷ bytes) h zero d l = h 0 d (omega arith)
zeros_taken (suc n) (b ∷ bytes) h (suc k) d l = zeros_taken n bytes (λ i e m. h (suc i) e (omega arith)) k d (omega arith)

zero_words : words_of_bytes (replicate 64 0) ≡ zero_line
zero_words = line_back zero_line (zeros_whole 1).0

none_in_chunks : (n : ℕ) (bytes : List ℕ) → 64 * n ≤ length bytes → AreZeros bytes → checkpoint_in (map words_of_bytes (first_chunks 64 n bytes)) ≡ None
none_in_chunks zero bytes l h = refl
none_in_chunks (suc n) bytes l h =
    let first : words_of_bytes (take 64 bytes) ≡ zero_line = ap words_of_bytes (zeros_front 64 bytes (omega arith) h) ∙ zero_words in
    ap (λ (line : List ℕ). checkpoint_in (line ∷ map words_of_bytes (first_chunks 64 n (drop 64 bytes)))) first

pub none_in_zeros : (bytes : List ℕ) → AreZeros bytes → checkpoint_in (area_lines bytes) ≡ None
none_in_zeros bytes h =
    let part : List ℕ = take longest_area bytes in
    none_in_chunks (length part / 64) part (omega arith) (zeros_taken longest_area bytes h)
