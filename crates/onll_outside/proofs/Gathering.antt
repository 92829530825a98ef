-- Lines that are gathered from bytes, with those of zeros at their end counted alone.

use Rattle.std.proofs.Common.{ℕ, zero, suc, ◌≡◌, ◌+◌, ◌-◌, ◌*◌, ◌/◌, ◌<◌, ◌≤◌, List, [], ◌∷◌, ◌++◌, length, length-append, map, take, drop, get_or, refl, sym, ap, ◌∙◌, subst, append_assoc, arith}
use Rattle.std.specs.List.{AllByRecursion}
use Rattle.std.specs.Simd.{first_chunks}
use Rattle.std.proofs.lemmas.List.{take-append-drop, length-take-le, length-drop, length-map, map-append, take-map, take_more, drop-drop, get_or-append-add, replicate-append-replicate}
use Rattle.onll_words.specs.Lines.{bytes_of_words, words_of_bytes}
use Rattle.onll_words.proofs.LineBytes.{bytes_of_words-words_of_bytes}
use Rattle.onll_words.proofs.WordBytes.{Bytes, dropped}
use Rattle.onll_pmem.specs.Device.{zero_line, zero_lines, line_at}
use Rattle.onll_pmem.proofs.Fronts.{length-followed}
use Rattle.onll_outside.specs.Views.{with_zeros, image_bytes}
use Rattle.onll_outside.specs.LineFiles.{IsWholeLine, EndsInWords, IsGathered, HasLines}

-- ---- zeros at the end of lines
-- one of the lines of zeros at the end less
pub one_less : (chunks : List (List ℕ)) (count : ℕ) (line bytes none : List ℕ) → 1 ≤ count → count ≤ length chunks → line ≡ words_of_bytes bytes → bytes ≡ get_or chunks (count - 1) none → line ≡ zero_line
    → map words_of_bytes chunks ≡ take count (map words_of_bytes chunks) ++ zero_lines (length chunks - count)
    → map words_of_bytes chunks ≡ take (count - 1) (map words_of_bytes chunks) ++ zero_lines (length chunks - (count - 1))
one_less chunks count line bytes none some_ within read same nil is =
    let lines = map words_of_bytes chunks in
    let k = count - 1 in
    let up : count ≡ k + 1 = omega (arith, some_) in
    let left : length chunks - k ≡ suc (length chunks - count) = omega (arith, some_, within) in
    let less : k < length chunks = omega (arith, some_, within) in
    let more : take count lines ≡ take k lines ++ zero_line ∷ [] =
    ap (λ n. take n lines) up ∙ (take-map words_of_bytes (k + 1) chunks ∙ (ap (map words_of_bytes) (take_more chunks k none less ∙ ap (λ b. take k chunks ++ b ∷ []) (sym same))
    ∙ (map-append words_of_bytes (take k chunks) (bytes ∷ []) ∙ (ap (λ l. map words_of_bytes (take k chunks) ++ l ∷ []) (sym read ∙ nil) ∙ ap (λ ls. ls ++ zero_line ∷ []) (sym (take-map words_of_bytes k chunks)))))) in
    is ∙ (ap (λ ls. ls ++ zero_lines (length chunks - count)) more ∙ (append_assoc (take k lines) (zero_line ∷ []) (zero_lines (length chunks - count)) ∙ ap (λ n. take k lines ++ zero_lines n) (sym left)))

-- more lines of zeros
pub zeros_after : (front : List (List ℕ)) (count more : ℕ) → length front ≤ count → with_zeros front (count + more) ≡ with_zeros front count ++ zero_lines more
zeros_after front count more within =
    let e : count + more - length front ≡ (count - length front) + more = omega (arith, within) in
    ap (λ n. front ++ zero_lines n) e
    ∙ (ap (λ (ls : List (List ℕ)). front ++ ls) (sym (replicate-append-replicate (count - length front) more zero_line))
    ∙ sym (append_assoc front (zero_lines (count - length front)) (zero_lines more)))

-- ---- lines that are gathered
pub none_gathered : IsGathered [] 0
none_gathered = record { each = tt; within = omega arith; least = λ some_. absurd (omega arith) }

-- none but zeros
pub only_zeros : (front lines : List (List ℕ)) (count k n : ℕ) → length front ≤ count → k ≡ 0 → lines ≡ take k lines ++ zero_lines (n - k) → with_zeros front (count + n) ≡ with_zeros front count ++ lines
only_zeros front lines count k n within none is =
    let all : n - k ≡ n = omega (arith, none) in
    zeros_after front count n within ∙ ap (λ (ls : List (List ℕ)). with_zeros front count ++ ls) (sym (is ∙ (ap (λ i. take i lines ++ zero_lines (n - k)) none ∙ ap zero_lines all)))

-- the last line of two lists is that of the second
ends_after : (before lines : List (List ℕ)) → 0 < length lines → EndsInWords lines → EndsInWords (before ++ lines)
ends_after before lines long ends all last =
    let e : length (before ++ lines) - 1 ≡ length before + (length lines - 1) = omega (arith, long, length-append before lines) in
    ends long (sym (get_or-append-add before lines (length lines - 1) []) ∙ (ap (λ i. line_at (before ++ lines) i) (sym e) ∙ last))

-- lines after those that were gathered, and zeros after them
module _ (front new : List (List ℕ)) (count k : ℕ) (chunks : List (List ℕ)) (within : length front ≤ count) (fits : k ≤ length chunks)
    (is : map words_of_bytes chunks ≡ take k (map words_of_bytes chunks) ++ zero_lines (length chunks - k))
    (put : new ≡ with_zeros front count ++ map words_of_bytes (take k chunks)) where
  abbrev lines : List (List ℕ)
  lines = map words_of_bytes chunks

  same : new ≡ with_zeros front count ++ take k lines
  same = put ∙ ap (λ (ls : List (List ℕ)). with_zeros front count ++ ls) (sym (take-map words_of_bytes k chunks))

  taken_long : length (take k lines) ≡ k
  taken_long = length-take-le k lines (omega (arith, fits, length-map chunks words_of_bytes))

  long : length new ≡ count + k
  long = ap length same ∙ (length-append (with_zeros front count) (take k lines) ∙ omega (arith, length-followed zero_line front count within, taken_long))

  pub gathered_lines : with_zeros new (count + length chunks) ≡ with_zeros front count ++ map words_of_bytes chunks
  gathered_lines =
      let left : count + length chunks - length new ≡ length chunks - k = omega (arith, long, fits) in
      ap (λ n. new ++ zero_lines n) left
      ∙ (ap (λ (ls : List (List ℕ)). ls ++ zero_lines (length chunks - k)) same
      ∙ (append_assoc (with_zeros front count) (take k lines) (zero_lines (length chunks - k)) ∙ ap (λ (ls : List (List ℕ)). with_zeros front count ++ ls) (sym is)))

  pub gathered_so : 0 < k → AllByRecursion IsWholeLine new → EndsInWords (take k (map words_of_bytes chunks)) → IsGathered new (count + length chunks)
  gathered_so some_ each ends = record {
    each = each;
    within = omega (arith, long, fits);
    least = subst EndsInWords (sym same) (ends_after (with_zeros front count) (take k lines) (omega (arith, some_, taken_long)) ends);
  }

-- ---- the bytes of lines
taken : (n : ℕ) (bytes : List ℕ) → Bytes bytes → Bytes (take n bytes)
taken zero bytes h i = omega arith
taken (suc n) [] h i = omega arith
taken (suc n) (b ∷ bytes) h zero = h 0
taken (suc n) (b ∷ bytes) h (suc i) = taken n bytes (λ j. h (suc j)) i

-- whole lines stand at the beginning of their bytes
whole_front : (n : ℕ) (bytes : List ℕ) → 64 * n ≤ length bytes → Bytes bytes → bytes ≡ image_bytes (map words_of_bytes (first_chunks 64 n bytes)) ++ drop (64 * n) bytes
whole_front zero bytes long h = refl
whole_front (suc n) bytes long h =
    let less = length-drop 64 bytes in
    let more = whole_front n (drop 64 bytes) (omega (arith, long, less)) (dropped 64 bytes h) in
    let first : bytes_of_words (words_of_bytes (take 64 bytes)) ≡ take 64 bytes = bytes_of_words-words_of_bytes (take 64 bytes) (length-take-le 64 bytes (omega (arith, long))) (taken 64 bytes h) in
    let rest = image_bytes (map words_of_bytes (first_chunks 64 n (drop 64 bytes))) in
    let up : 64 + 64 * n ≡ 64 * suc n = omega arith in
    sym (take-append-drop 64 bytes)
    ∙ (ap (λ bs. take 64 bytes ++ bs) (more ∙ ap (λ bs. rest ++ bs) (drop-drop (64 * n) 64 bytes ∙ ap (λ i. drop i bytes) up))
    ∙ (ap (λ bs. bs ++ (rest ++ drop (64 * suc n) bytes)) (sym first) ∙ sym (append_assoc (bytes_of_words (words_of_bytes (take 64 bytes))) rest (drop (64 * suc n) bytes))))

pub has_lines : (bytes : List ℕ) (front : List (List ℕ)) (count : ℕ) → Bytes bytes → with_zeros front count ≡ map words_of_bytes (first_chunks 64 (length bytes / 64) bytes) → HasLines bytes front count
has_lines bytes front count h is = record {
  rest = drop (64 * (length bytes / 64)) bytes;
  whole = whole_front (length bytes / 64) bytes (omega arith) h ∙ ap (λ ls. image_bytes ls ++ drop (64 * (length bytes / 64)) bytes) (sym is);
  short = omega (arith, length-drop (64 * (length bytes / 64)) bytes);
}
