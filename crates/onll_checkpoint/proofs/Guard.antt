-- The last word of a first line, by its bits.
use Rattle.std.proofs.Common.{ℕ, zero, suc, ◌≡◌, ◌+◌, ◌*◌, ◌/◌, ◌%◌, ◌<◌, ◌≤◌, ◌^◌, ◌==◌, List, [], ◌∷◌, ◌++◌, length, take, refl, sym, ap, ◌∙◌, ◌⊎◌, inl, inr, arith, cond, length-append}
use Rattle.std.specs.Prelude.{not, if◌then◌else◌}
use Rattle.std.specs.Int.{bit_at}
use Rattle.std.proofs.lemmas.Bool.{cases_lt}
use Rattle.std.proofs.lemmas.List.{get_or-take, get_or_append_left, get_or_at, length-take-le}
use Rattle.std.proofs.lemmas.Nat.Bits.{bit_at_lowest, bit_at-suc}
use Rattle.onll_log.specs.Head.{word}
use Rattle.onll_log.specs.Masks.{bits, marks_in, mask_of}
use Rattle.onll_log.specs.MaskBits.{AreMasks, IsBitOf}
use Rattle.onll_log.proofs.MaskBits.{AreMasks-masks}
use Rattle.onll_checkpoint.specs.Grammar.{guard_of}
use Rattle.onll_checkpoint.specs.Laws.{IsGuard, GuardIsByBits}

-- numbers of the same bits are the same
bits_tell : (n a b : ℕ) → a ≤ n → b ≤ n → ((j : ℕ) → bit_at a j ≡ bit_at b j) → a ≡ b
bits_tell zero a b l m h = omega arith
bits_tell (suc n) a b l m h =
    let low : a % 2 ≡ b % 2 = sym (bit_at_lowest a) ∙ (h 0 ∙ bit_at_lowest b) in
    let rest : a / 2 ≡ b / 2 = bits_tell n (a / 2) (b / 2) (omega arith) (omega arith) (λ j. sym (bit_at-suc a j) ∙ (h (suc j) ∙ bit_at-suc b j)) in
    omega arith

-- a word of zero more sets no bit
bits-zero : (ws : List ℕ) → bits (marks_in (ws ++ 0 ∷ []) ++ []) ≡ bits (marks_in ws)
bits-zero [] = refl
bits-zero (w ∷ ws) = ap (λ (n : ℕ). cond {A = ℕ} (not (w == 0)) 1 0 + 2 * n) (bits-zero ws)

module _ (words : List ℕ) (seven : length words ≡ 7) where
  -- the last word is the mask of these and a zero
  abbrev lines : List (List ℕ)
  lines = (words ++ 0 ∷ []) ∷ []

  same : guard_of words ≡ mask_of lines
  same = ap (λ (n : ℕ). n + 2 ^ 63) (sym (bits-zero words))

  masked : AreMasks lines
  masked = AreMasks-masks lines (omega (arith, seven, length-append words (0 ∷ [])), tt) (omega arith)

  bit_of : (j : ℕ) → j < 8 → IsBitOf lines 0 j 1 j
  bit_of j l = record { from_one = omega arith; a_line = omega arith; a_word = l; mask_word = refl; place = omega arith }

  guard_each : (j : ℕ) → j < 7 → bit_at (guard_of words) j ≡ (if word words j == 0 then 0 else 1)
  guard_each j l =
      let here : word (words ++ 0 ∷ []) j ≡ word words j = get_or_append_left words (0 ∷ []) 0 j (omega (arith, seven)) in
      ap (λ n. bit_at n j) same ∙ (masked.each 0 j 1 j (bit_of j (omega arith)) ∙ ap (λ (w : ℕ). if w == 0 then 0 else 1) here)

  guard_top : bit_at (guard_of words) 63 ≡ 1
  guard_top = ap (λ n. bit_at n 63) same ∙ masked.top 0 (omega arith)

  guard_others : (j : ℕ) → 7 ≤ j → (j ≡ 63 → ⊥) → bit_at (guard_of words) j ≡ 0
  guard_others j l n = ap (λ n. bit_at n j) same ∙ at (cases_lt j 8)
    where
      at : (j < 8) ⊎ (8 ≤ j) → bit_at (mask_of lines) j ≡ 0
      at (inl b) =
          let last : j ≡ 7 = omega arith in
          let none : word (words ++ 0 ∷ []) j ≡ 0 = ap (word (words ++ 0 ∷ [])) last ∙ get_or_at words 0 [] 0 7 seven in
          masked.each 0 j 1 j (bit_of j b) ∙ ap (λ (w : ℕ). if w == 0 then 0 else 1) none
      at (inr b) = masked.others 0 j (omega arith) n (λ line word i. absurd (let p = i.place in let w = i.a_word in let from = i.from_one in let to = i.a_line in omega arith))

module _ (line : List ℕ) (eight : length line ≡ 8) where
  abbrev front : List ℕ
  front = take 7 line

  long : length front ≡ 7
  long = length-take-le 7 line (omega arith)

  front_bit : (j : ℕ) → j < 7 → bit_at (guard_of front) j ≡ (if word line j == 0 then 0 else 1)
  front_bit j l = guard_each front long j l ∙ ap (λ (w : ℕ). if w == 0 then 0 else 1) (get_or-take 7 line j 0 l)

  forth : word line 7 ≡ guard_of front → IsGuard line
  forth is = record {
    each = λ j l. ap (λ n. bit_at n j) is ∙ front_bit j l;
    top = ap (λ n. bit_at n 63) is ∙ guard_top front long;
    others = λ j l n. ap (λ n. bit_at n j) is ∙ guard_others front long j l n;
  }

  back : IsGuard line → word line 7 ≡ guard_of front
  back g = bits_tell (word line 7 + guard_of front) (word line 7) (guard_of front) (omega arith) (omega arith) (λ j. at j (cases_lt j 7))
    where
      behind : (j : ℕ) → 7 ≤ j → (j < 63) ⊎ (63 ≤ j) → bit_at (word line 7) j ≡ bit_at (guard_of front) j
      behind j l (inl b) = g.others j l (λ e. omega arith) ∙ sym (guard_others front long j l (λ e. omega arith))
      behind j l (inr b) = beyond (cases_lt j 64)
        where
          beyond : (j < 64) ⊎ (64 ≤ j) → bit_at (word line 7) j ≡ bit_at (guard_of front) j
          beyond (inl m) = let e : j ≡ 63 = omega arith in
              ap (bit_at (word line 7)) e ∙ (g.top ∙ (sym (guard_top front long) ∙ ap (bit_at (guard_of front)) (sym e)))
          beyond (inr m) = g.others j l (λ e. omega arith) ∙ sym (guard_others front long j l (λ e. omega arith))

      at : (j : ℕ) → (j < 7) ⊎ (7 ≤ j) → bit_at (word line 7) j ≡ bit_at (guard_of front) j
      at j (inl l) = g.each j l ∙ sym (front_bit j l)
      at j (inr l) = behind j l (cases_lt j 63)

  pub guard_by_bits : GuardIsByBits line
  guard_by_bits = record { forth = forth; back = back }
