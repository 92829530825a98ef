-- The lines of bytes, and of more bytes after them.
use Rattle.std.proofs.Common.{◌≡◌, ℕ, zero, suc, ◌+◌, ◌-◌, ◌*◌, ◌/◌, ◌<◌, List, [], ◌∷◌, ◌++◌, length, take, drop, map, sym, refl, ap, ◌∙◌, arith, append_assoc, length-append}
use Rattle.std.specs.Simd.{first_chunks}
use Rattle.std.proofs.lemmas.List.{length-map, length-take-le, length-drop, take-append-le, drop-append-le, take-append-drop, take_all, drop_all, drop_at}
use Rattle.onll_words.specs.Lines.{words_of_bytes}
use Rattle.onll_log.specs.ImageFile.{whole_lines}
use Rattle.onll_standby.specs.Standby.{part_of}

pub map_append : (xs ys : List (List ℕ)) → map words_of_bytes (xs ++ ys) ≡ map words_of_bytes xs ++ map words_of_bytes ys
map_append [] ys = refl
map_append (x ∷ xs) ys = ap (λ (l : List (List ℕ)). words_of_bytes x ∷ l) (map_append xs ys)

chunks_length : (k : ℕ) (xs : List ℕ) → length (first_chunks 64 k xs) ≡ k
chunks_length zero xs = refl
chunks_length (suc k) xs = ap suc (chunks_length k (drop 64 xs))

chunks_front : (k : ℕ) (xs ys : List ℕ) → length xs ≡ 64 * k → first_chunks 64 k (xs ++ ys) ≡ first_chunks 64 k xs
chunks_front zero xs ys e = refl
chunks_front (suc k) xs ys e =
    let n = length-drop 64 xs in
    let a = take-append-le 64 xs ys (omega arith) in let b = drop-append-le 64 xs ys (omega arith) in
    let rest = ap (first_chunks 64 k) b ∙ chunks_front k (drop 64 xs) ys (omega arith) in
    λ i. a i ∷ rest i

chunks_snoc : (k : ℕ) (xs c : List ℕ) → length xs ≡ 64 * k → length c ≡ 64 → first_chunks 64 (suc k) (xs ++ c) ≡ first_chunks 64 k xs ++ c ∷ []
chunks_snoc zero [] c e n = ap (λ (z : List ℕ). z ∷ []) (take_all 64 c (omega arith))
chunks_snoc zero (x ∷ xs) c e n = absurd (omega arith)
chunks_snoc (suc k) xs c e n =
    let m = length-drop 64 xs in
    let a = take-append-le 64 xs c (omega arith) in let b = drop-append-le 64 xs c (omega arith) in
    let rest = ap (first_chunks 64 (suc k)) b ∙ chunks_snoc k (drop 64 xs) c (omega arith) n in
    λ i. a i ∷ rest i

count_lines : (bytes : List ℕ) → length (whole_lines bytes) ≡ length bytes / 64
count_lines bytes = length-map (first_chunks 64 (length bytes / 64) bytes) words_of_bytes ∙ chunks_length (length bytes / 64) bytes

module _ (bytes : List ℕ) where
  abbrev count : ℕ
  count = length bytes / 64

  abbrev pub front : List ℕ
  front = take (64 * count) bytes

  abbrev pub left : List ℕ
  left = drop (64 * count) bytes

  pub front_length : length front ≡ 64 * count
  front_length = length-take-le (64 * count) bytes (omega arith)

  left_length : length left ≡ length bytes - 64 * count
  left_length = length-drop (64 * count) bytes

  part_is : part_of bytes ≡ left
  part_is = ap (λ (k : ℕ). drop (64 * k) bytes) (count_lines bytes)

  pub split : (more : List ℕ) → bytes ++ more ≡ front ++ (left ++ more)
  split more = ap (λ (z : List ℕ). z ++ more) (sym (take-append-drop (64 * count) bytes)) ∙ append_assoc front left more

  pub lines_are : whole_lines bytes ≡ map words_of_bytes (first_chunks 64 count front)
  lines_are = ap (λ (z : List ℕ). map words_of_bytes (first_chunks 64 count z)) (sym (take-append-drop (64 * count) bytes)) ∙ ap (map words_of_bytes) (chunks_front count front left front_length)

  -- how many bytes are left
  pub part_length : length bytes ≡ 64 * length (whole_lines bytes) + length (part_of bytes)
  part_length = let n = count_lines bytes in let a = ap (λ (z : List ℕ). length z) part_is in let l = left_length in omega arith

  pub part_short : length (part_of bytes) < 64
  part_short = let a = ap (λ (z : List ℕ). length z) part_is in let l = left_length in omega arith

  -- bytes that do not complete a line
  module _ (more : List ℕ) (short : length (part_of bytes) + length more < 64) where
    same_count : length (bytes ++ more) / 64 ≡ count
    same_count = let a = ap (λ (z : List ℕ). length z) part_is in let l = left_length in let n = length-append bytes more in omega arith

    pub same_lines : whole_lines (bytes ++ more) ≡ whole_lines bytes
    same_lines = ap (λ (k : ℕ). map words_of_bytes (first_chunks 64 k (bytes ++ more))) same_count
        ∙ (ap (λ (z : List ℕ). map words_of_bytes (first_chunks 64 count z)) (split more) ∙ (ap (map words_of_bytes) (chunks_front count front (left ++ more) front_length) ∙ sym lines_are))

    pub longer_part : part_of (bytes ++ more) ≡ part_of bytes ++ more
    longer_part = ap (λ (k : ℕ). drop (64 * k) (bytes ++ more)) (count_lines (bytes ++ more) ∙ same_count)
        ∙ (ap (drop (64 * count)) (split more) ∙ (drop_at front (left ++ more) (64 * count) front_length ∙ ap (λ (z : List ℕ). z ++ more) (sym part_is)))

  -- bytes that complete one
  module _ (more : List ℕ) (full : length (part_of bytes) + length more ≡ 64) where
    next_count : length (bytes ++ more) / 64 ≡ suc count
    next_count = let a = ap (λ (z : List ℕ). length z) part_is in let l = left_length in let n = length-append bytes more in omega arith

    pub one_line : whole_lines (bytes ++ more) ≡ whole_lines bytes ++ words_of_bytes (part_of bytes ++ more) ∷ []
    one_line =
        let a = ap (λ (z : List ℕ). length z) part_is in let l = left_length in let n = length-append left more in
        let c : length (left ++ more) ≡ 64 = omega arith in
        ap (λ (k : ℕ). map words_of_bytes (first_chunks 64 k (bytes ++ more))) next_count
        ∙ (ap (λ (z : List ℕ). map words_of_bytes (first_chunks 64 (suc count) z)) (split more)
        ∙ (ap (map words_of_bytes) (chunks_snoc count front (left ++ more) front_length c)
        ∙ (map_append (first_chunks 64 count front) ((left ++ more) ∷ [])
        ∙ (λ i. sym lines_are i ++ words_of_bytes (sym part_is i ++ more) ∷ []))))

    pub no_part : part_of (bytes ++ more) ≡ []
    no_part = let n = length-append bytes more in let c = next_count in let a = ap (λ (z : List ℕ). length z) part_is in let l = left_length in
        ap (λ (k : ℕ). drop (64 * k) (bytes ++ more)) (count_lines (bytes ++ more) ∙ next_count) ∙ drop_all (64 * suc count) (bytes ++ more) (omega arith)
