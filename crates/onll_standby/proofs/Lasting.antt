-- A fault that a stream shows is that of every longer stream.
use Rattle.std.proofs.Common.{◌≡◌, ℕ, zero, suc, ◌+◌, ◌-◌, ◌*◌, ◌/◌, ◌≤◌, Bool, true, false, List, [], ◌∷◌, ◌++◌, length, drop, map, refl, sym, ap, ◌∙◌, arith, Option, Some, None, cond, length-append}
use Rattle.std.specs.Simd.{first_chunks}
use Rattle.std.proofs.lemmas.List.{length-drop, take-append-le, drop-append-le}
use mathlib.Core.Logic.{dite}
use Rattle.onll_words.specs.Lines.{words_of_bytes}
use Rattle.onll_model.specs.Object.{Behaviour}
use Rattle.onll_log.specs.declared.head.LogHead.{LogHead}
use Rattle.onll_log.specs.Head.{head_line}
use Rattle.onll_log.specs.Grammar.{same_words}
use Rattle.onll_log.specs.ImageFile.{whole_lines}
use Rattle.onll_standby.specs.Stream.{Course, Shown, foreign_line, entries_course, after_heads, lines_course, course}
use Rattle.onll_standby.specs.Laws.{goes_on}
use Rattle.onll_standby.proofs.Cut.{cut}
use Rattle.onll_standby.proofs.Cutting.{map_append, front, left, front_length, lines_are, split}
use Rattle.onll_standby.proofs.Lining.{foreign_long, short_course}

-- ---- the lines of bytes are the first lines of more bytes
chunks_more : (k m : ℕ) (xs ys : List ℕ) → length xs ≡ 64 * k → first_chunks 64 (k + m) (xs ++ ys) ≡ first_chunks 64 k xs ++ first_chunks 64 m ys
chunks_more zero m [] ys e = let n : 0 + m ≡ m = omega arith in ap (λ (z : ℕ). first_chunks 64 z ys) n
chunks_more zero m (x ∷ xs) ys e = absurd (omega arith)
chunks_more (suc k) m xs ys e =
    let s : suc k + m ≡ suc (k + m) = omega arith in
    let n = length-drop 64 xs in
    let a = take-append-le 64 xs ys (omega arith) in let b = drop-append-le 64 xs ys (omega arith) in
    let rest = ap (first_chunks 64 (k + m)) b ∙ chunks_more k m (drop 64 xs) ys (omega arith) in
    ap (λ (z : ℕ). first_chunks 64 z (xs ++ ys)) s ∙ (λ i. a i ∷ rest i)

module _ (bytes more : List ℕ) where
  -- how many lines are more, and these lines
  abbrev count : ℕ
  count = length (bytes ++ more) / 64 - length bytes / 64

  abbrev later : List (List ℕ)
  later = map words_of_bytes (first_chunks 64 count (left bytes ++ more))

  longer : whole_lines (bytes ++ more) ≡ whole_lines bytes ++ later
  longer =
      let n = length-append bytes more in
      let s : length (bytes ++ more) / 64 ≡ length bytes / 64 + count = omega arith in
      ap (λ (k : ℕ). map words_of_bytes (first_chunks 64 k (bytes ++ more))) s
      ∙ (ap (λ (z : List ℕ). map words_of_bytes (first_chunks 64 (length bytes / 64 + count) z)) (split bytes more)
      ∙ (ap (map words_of_bytes) (chunks_more (length bytes / 64) count (front bytes) (left bytes ++ more) (front_length bytes))
      ∙ (map_append (first_chunks 64 (length bytes / 64) (front bytes)) (first_chunks 64 count (left bytes ++ more))
      ∙ ap (λ (ls : List (List ℕ)). ls ++ later) (sym (lines_are bytes)))))

-- ---- header lines
-- the first one that is not the expected one stays the first
foreign_stays : (i : ℕ) (hs : List LogHead) (ls more : List (List ℕ)) (j : ℕ) → foreign_line i hs ls ≡ Some j → foreign_line i hs (ls ++ more) ≡ Some j
foreign_stays i [] ls more j e = absurd (cc)
foreign_stays i (h ∷ hs) [] more j e = absurd (cc)
foreign_stays i (h ∷ hs) (l ∷ ls) more j e = by_test (same_words l (head_line h)) (λ q. foreign_stays (suc i) hs ls more j q) e
  where
    by_test : (t : Bool) → (foreign_line (suc i) hs ls ≡ Some j → foreign_line (suc i) hs (ls ++ more) ≡ Some j)
        → cond {A = Option ℕ} t (foreign_line (suc i) hs ls) (Some i) ≡ Some j → cond {A = Option ℕ} t (foreign_line (suc i) hs (ls ++ more)) (Some i) ≡ Some j
    by_test true rest q = rest q
    by_test false rest q = q

module _ {State Op Query Reply : Type 0} (b : Behaviour State Op Query Reply) (heads : List LogHead) where
  -- ---- lines
  module _ (ls more : List (List ℕ)) (x : Shown) where
    abbrev entries : List (List ℕ) → Course
    entries lines = entries_course b heads [] (length heads) (length heads) lines

    -- a fault after the header lines
    stays_entries : (entries ls).shown ≡ Some x → length heads ≤ length ls → entries (ls ++ more) ≡ entries ls
    stays_entries e many =
        cut b heads [] (length heads) (length heads) ls more many
        ∙ ap (λ (o : Option Shown). goes_on b heads o (entries ls) more (length heads + length ls - length heads)) e

    many_lines : (entries ls).shown ≡ Some x → length heads ≤ length ls
    many_lines e = dite (native.Mathlib.Decide.dec_le (length heads) (length ls)) (λ many. many)
        (λ few. absurd (let c = ap (λ (z : Course). z.shown) (short_course b heads [] (length heads) (length heads) ls (omega arith)) in let n : None ≡ Some x = sym c ∙ e in (cc)))

    pub lines_stay : (lines_course b heads ls).shown ≡ Some x → lines_course b heads (ls ++ more) ≡ lines_course b heads ls
    lines_stay e = by_heads (foreign_line 0 heads ls) refl
      where
        by_heads : (o : Option ℕ) → foreign_line 0 heads ls ≡ o → lines_course b heads (ls ++ more) ≡ lines_course b heads ls
        by_heads (Some j) is = ap (λ (o : Option ℕ). after_heads b heads o (ls ++ more)) (foreign_stays 0 heads ls more j is) ∙ sym (ap (λ (o : Option ℕ). after_heads b heads o ls) is)
        by_heads None is =
            let c = ap (λ (o : Option ℕ). after_heads b heads o ls) is in
            let shown : (entries ls).shown ≡ Some x = sym (ap (λ (z : Course). z.shown) c) ∙ e in
            let many = many_lines shown in
            ap (λ (o : Option ℕ). after_heads b heads o (ls ++ more)) (foreign_long 0 heads ls more many ∙ is) ∙ (stays_entries shown many ∙ sym c)

  -- ---- bytes
  pub course_stays : (bytes more : List ℕ) (x : Shown) → (course b heads bytes).shown ≡ Some x → course b heads (bytes ++ more) ≡ course b heads bytes
  course_stays bytes more x e = ap (lines_course b heads) (longer bytes more) ∙ lines_stay (whole_lines bytes) (later bytes more) x e

  pub course_clean : (bytes more : List ℕ) → (course b heads (bytes ++ more)).shown ≡ None → (course b heads bytes).shown ≡ None
  course_clean bytes more clean = by_shown (course b heads bytes).shown refl
    where
      by_shown : (o : Option Shown) → (course b heads bytes).shown ≡ o → (course b heads bytes).shown ≡ None
      by_shown None e = e
      by_shown (Some x) e = sym (ap (λ (z : Course). z.shown) (course_stays bytes more x e)) ∙ clean
