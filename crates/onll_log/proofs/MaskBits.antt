-- The bits of masks.
use Rattle.std.proofs.Common.{ℕ, zero, suc, ◌≡◌, ◌≢◌, ◌+◌, ◌-◌, ◌*◌, ◌/◌, ◌%◌, ◌<◌, ◌≤◌, Bool, true, false, List, [], ◌∷◌, ◌++◌, length, get_or, take, drop, sym, refl, ap, ◌∙◌, ⊎_elim, arith, cond, ◌==◌, length-append}
use Rattle.std.specs.Prelude.{not, ◌^◌, min}
use Rattle.std.specs.Int.{bit_at}
use Rattle.std.proofs.lemmas.Bool.{cases_lt}
use Rattle.std.proofs.lemmas.List.{get_or_append_left, get_or_past, get_or-take, get_or-drop, length-take, length-drop}
use Rattle.std.proofs.lemmas.Nat.Bits.{bit_at_lowest, bit_at-suc, bit_at-zero}
use Rattle.onll_pmem.specs.Device.{line_at, word_at}
use Rattle.onll_log.specs.Head.{word}
use Rattle.onll_log.specs.Masks.{bits, marks_in, marks, mask_of, masks}
use Rattle.onll_log.specs.MaskBits.{mask_bit, IsBitOf, AreMasks}
use Rattle.onll_log.specs.Torn.{AreLines}
use Rattle.onll_log.proofs.Lines.{AreLines-take, AreLines-drop}

-- ---- bits of a number
abbrev one_of : Bool → ℕ
one_of b = cond {A = ℕ} b 1 0

lowest : (b : Bool) (n : ℕ) → ((one_of b + 2 * n) % 2 ≡ one_of b) × ((one_of b + 2 * n) / 2 ≡ n)
lowest true n = (omega arith, omega arith)
lowest false n = (omega arith, omega arith)

bit_at-bits : (bs : List Bool) (k : ℕ) → bit_at (bits bs) k ≡ one_of (get_or bs k false)
bit_at-bits [] k = bit_at-zero k
bit_at-bits (b ∷ bs) zero = bit_at_lowest (bits (b ∷ bs)) ∙ (lowest b (bits bs)).0
bit_at-bits (b ∷ bs) (suc k) = bit_at-suc (bits (b ∷ bs)) k ∙ (ap (λ (n : ℕ). bit_at n k) (lowest b (bits bs)).1 ∙ bit_at-bits bs k)

-- bits, and then one that is set at this place
abbrev with_top : ℕ → List Bool → List Bool
with_top zero bs = true ∷ []
with_top (suc n) [] = false ∷ with_top n []
with_top (suc n) (b ∷ bs) = b ∷ with_top n bs

bits-with_top : (n : ℕ) (bs : List Bool) → length bs ≤ n → bits bs + 2 ^ n ≡ bits (with_top n bs)
bits-with_top zero [] l = refl
bits-with_top zero (b ∷ bs) l = absurd (omega arith)
bits-with_top (suc n) [] l = let h = bits-with_top n [] (omega arith) in let p = Rattle.std.proofs.Math.Nat.pow-suc 2 n in omega arith
bits-with_top (suc n) (b ∷ bs) l = let h = bits-with_top n bs (omega arith) in let p = Rattle.std.proofs.Math.Nat.pow-suc 2 n in omega arith

with_top-below : (n : ℕ) (bs : List Bool) (k : ℕ) → k < n → get_or (with_top n bs) k false ≡ get_or bs k false
with_top-below zero bs k l = absurd (omega arith)
with_top-below (suc n) [] zero l = refl
with_top-below (suc n) [] (suc k) l = with_top-below n [] k (omega arith)
with_top-below (suc n) (b ∷ bs) zero l = refl
with_top-below (suc n) (b ∷ bs) (suc k) l = with_top-below n bs k (omega arith)

with_top-at : (n : ℕ) (bs : List Bool) → get_or (with_top n bs) n false ≡ true
with_top-at zero bs = refl
with_top-at (suc n) [] = with_top-at n []
with_top-at (suc n) (b ∷ bs) = with_top-at n bs

with_top-above : (n : ℕ) (bs : List Bool) (k : ℕ) → n < k → get_or (with_top n bs) k false ≡ false
with_top-above zero bs zero l = absurd (omega arith)
with_top-above zero bs (suc k) l = refl
with_top-above (suc n) bs zero l = absurd (omega arith)
with_top-above (suc n) [] (suc k) l = with_top-above n [] k (omega arith)
with_top-above (suc n) (b ∷ bs) (suc k) l = with_top-above n bs k (omega arith)

-- ---- marks by lines and words
length-marks_in : (l : List ℕ) → length (marks_in l) ≡ length l
length-marks_in [] = refl
length-marks_in (w ∷ ws) = let h = length-marks_in ws in omega arith

length-marks : (ls : List (List ℕ)) → AreLines ls → length (marks ls) ≡ 8 * length ls
length-marks [] e = refl
length-marks (l ∷ ls) e = let h = length-marks ls e.1 in let a = e.0 in omega (arith, length-append (marks_in l) (marks ls), length-marks_in l)

get_or-marks_in : (l : List ℕ) (j : ℕ) → j < length l → get_or (marks_in l) j false ≡ not (word l j == 0)
get_or-marks_in [] j l = absurd (omega arith)
get_or-marks_in (w ∷ ws) zero l = refl
get_or-marks_in (w ∷ ws) (suc j) l = get_or-marks_in ws j (omega arith)

get_or-after : (xs ys : List Bool) (n k : ℕ) → n ≡ length xs + k → get_or (xs ++ ys) n false ≡ get_or ys k false
get_or-after [] ys n k e = let z : n ≡ k = omega arith in ap (λ (m : ℕ). get_or ys m false) z
get_or-after (x ∷ xs) ys zero k e = absurd (omega arith)
get_or-after (x ∷ xs) ys (suc n) k e = get_or-after xs ys n k (omega arith)

get_or-marks : (ls : List (List ℕ)) (i j : ℕ) → AreLines ls → i < length ls → j < 8 → get_or (marks ls) (8 * i + j) false ≡ not (word_at ls i j == 0)
get_or-marks [] i j e l k = absurd (omega arith)
get_or-marks (w ∷ ws) zero j e l k =
    let z : 8 * 0 + j ≡ j = omega arith in let a = e.0 in
    ap (λ (n : ℕ). get_or (marks_in w ++ marks ws) n false) z ∙ (get_or_append_left (marks_in w) (marks ws) false j (omega (arith, length-marks_in w)) ∙ get_or-marks_in w j (omega arith))
get_or-marks (w ∷ ws) (suc i) j e l k =
    let a = e.0 in get_or-after (marks_in w) (marks ws) (8 * suc i + j) (8 * i + j) (omega (arith, length-marks_in w)) ∙ get_or-marks ws i j e.1 (omega arith) k

-- ---- one mask
bit_at-mask_of : (ls : List (List ℕ)) (k : ℕ) → AreLines ls → length ls ≤ 7 → bit_at (mask_of ls) k ≡ one_of (get_or (with_top 63 (marks ls)) k false)
bit_at-mask_of ls k e l = ap (λ (n : ℕ). bit_at n k) (bits-with_top 63 (marks ls) (omega (arith, length-marks ls e))) ∙ bit_at-bits (with_top 63 (marks ls)) k

-- the bit for a word
bit_at-word : (ls : List (List ℕ)) (i j : ℕ) → AreLines ls → length ls ≤ 7 → i < length ls → j < 8 → bit_at (mask_of ls) (8 * i + j) ≡ one_of (not (word_at ls i j == 0))
bit_at-word ls i j e l a b = bit_at-mask_of ls (8 * i + j) e l ∙ ap one_of (with_top-below 63 (marks ls) (8 * i + j) (omega arith) ∙ get_or-marks ls i j e a b)

bit_at-top : (ls : List (List ℕ)) → AreLines ls → length ls ≤ 7 → bit_at (mask_of ls) 63 ≡ 1
bit_at-top ls e l = bit_at-mask_of ls 63 e l ∙ ap one_of (with_top-at 63 (marks ls))

-- a bit past the lines
bit_at-past : (ls : List (List ℕ)) (k : ℕ) → AreLines ls → length ls ≤ 7 → k ≢ 63 → 8 * length ls ≤ k → bit_at (mask_of ls) k ≡ 0
bit_at-past ls k e l n p = bit_at-mask_of ls k e l ∙ ap one_of (⊎_elim
    (λ (b : k < 63). with_top-below 63 (marks ls) k b ∙ get_or_past (marks ls) k false (omega (arith, length-marks ls e)))
    (λ (b : 63 ≤ k). with_top-above 63 (marks ls) k (above b))
    (cases_lt k 63))
  where
    above : 63 ≤ k → 63 < k
    above b = omega (arith, n)

-- ---- the three masks
-- the lines of a mask
abbrev part : List (List ℕ) → ℕ → List (List ℕ)
part lines m = take 7 (drop (7 * m) lines)

take-all : (n : ℕ) (xs : List (List ℕ)) → length xs ≤ n → take n xs ≡ xs
take-all zero [] l = refl
take-all zero (x ∷ xs) l = absurd (omega arith)
take-all (suc n) [] l = refl
take-all (suc n) (x ∷ xs) l = ap (λ (z : List (List ℕ)). x ∷ z) (take-all n xs (omega arith))

word-masks : (lines : List (List ℕ)) (m : ℕ) → length lines ≤ 16 → m < 3 → word (masks lines) m ≡ mask_of (part lines m)
word-masks lines zero few l = refl
word-masks lines (suc zero) few l = refl
word-masks lines (suc (suc zero)) few l = ap mask_of (sym (take-all 7 (drop 14 lines) (omega (arith, length-drop 14 lines))))
word-masks lines (suc (suc (suc m))) few l = absurd (omega arith)

AreLines-part : (lines : List (List ℕ)) (m : ℕ) → AreLines lines → AreLines (part lines m)
AreLines-part lines m e = AreLines-take 7 (drop (7 * m) lines) (AreLines-drop (7 * m) lines e)

length-part : (lines : List (List ℕ)) (m : ℕ) → length (part lines m) ≡ min 7 (length lines - 7 * m)
length-part lines m = length-take 7 (drop (7 * m) lines) ∙ ap (λ (n : ℕ). min 7 n) (length-drop (7 * m) lines)

line_at-part : (lines : List (List ℕ)) (m i : ℕ) → i < 7 → line_at (part lines m) i ≡ line_at lines (7 * m + i)
line_at-part lines m i l = get_or-take 7 (drop (7 * m) lines) i [] l ∙ get_or-drop (7 * m) lines i []

mask_bit-part : (lines : List (List ℕ)) (m k : ℕ) → length lines ≤ 16 → m < 3 → mask_bit lines m k ≡ bit_at (mask_of (part lines m)) k
mask_bit-part lines m k few l = ap (λ (n : ℕ). bit_at n k) (word-masks lines m few l)

length-part-le : (lines : List (List ℕ)) (m : ℕ) → length (part lines m) ≤ 7
length-part-le lines m = omega (arith, length-part lines m)

turned : (b : Bool) → one_of (not b) ≡ cond {A = ℕ} b 0 1
turned true = refl
turned false = refl

-- the bit for word j of the line at place i of mask m
mask_bit-word : (lines : List (List ℕ)) (m i j : ℕ) → AreLines lines → length lines ≤ 16 → m < 3 → i < 7 → 7 * m + i < length lines → j < 8
    → mask_bit lines m (8 * i + j) ≡ cond {A = ℕ} (word_at lines (7 * m + i) j == 0) 0 1
mask_bit-word lines m i j e few l a b c =
    mask_bit-part lines m (8 * i + j) few l ∙ (bit_at-word (part lines m) i j (AreLines-part lines m e) (length-part-le lines m) (omega (arith, length-part lines m)) c ∙
    (ap (λ (z : List ℕ). one_of (not (word z j == 0))) (line_at-part lines m i a) ∙ turned (word_at lines (7 * m + i) j == 0)))

mask_bit-each : (lines : List (List ℕ)) → AreLines lines → length lines ≤ 16 → (mask bit line j : ℕ) → IsBitOf lines mask bit line j
    → mask_bit lines mask bit ≡ cond {A = ℕ} (word_at lines (line - 1) j == 0) 0 1
mask_bit-each lines e few mask bit line j is =
    let low = is.from_one in let high = is.a_line in let small = is.a_word in let here = is.mask_word in let at = is.place in
    let i : ℕ = (line - 1) % 7 in let back : 7 * mask + (line - 1) % 7 ≡ line - 1 = omega arith in
    ap (mask_bit lines mask) at ∙ (mask_bit-word lines mask i j e few (omega arith) (omega arith) (omega arith) small ∙
    ap (λ (n : ℕ). cond {A = ℕ} (word_at lines n j == 0) 0 1) back)

mask_bit-top : (lines : List (List ℕ)) → AreLines lines → length lines ≤ 16 → (mask : ℕ) → mask < 3 → mask_bit lines mask 63 ≡ 1
mask_bit-top lines e few mask l = mask_bit-part lines mask 63 few l ∙ bit_at-top (part lines mask) (AreLines-part lines mask e) (length-part-le lines mask)

mask_bit-others : (lines : List (List ℕ)) → AreLines lines → length lines ≤ 16 → (mask bit : ℕ) → mask < 3 → (bit ≡ 63 → ⊥) → ((line j : ℕ) → IsBitOf lines mask bit line j → ⊥) → mask_bit lines mask bit ≡ 0
mask_bit-others lines e few mask bit l n free = mask_bit-part lines mask bit few l ∙ ⊎_elim
    (λ (a : bit < 8 * length (part lines mask)). absurd (free (7 * mask + bit / 8 + 1) (bit % 8) (within a)))
    (λ (a : 8 * length (part lines mask) ≤ bit). bit_at-past (part lines mask) bit (AreLines-part lines mask e) (length-part-le lines mask) n a)
    (cases_lt bit (8 * length (part lines mask)))
  where
    within : bit < 8 * length (part lines mask) → IsBitOf lines mask bit (7 * mask + bit / 8 + 1) (bit % 8)
    within a = let s : bit / 8 < length (part lines mask) = omega arith in let seven = length-part-le lines mask in let size = length-part lines mask in record {
      from_one = omega arith;
      a_line = omega arith;
      a_word = omega arith;
      mask_word = omega arith;
      place = omega arith;
    }

-- the masks of an entry's lines are what they are said to be
pub AreMasks-masks : (lines : List (List ℕ)) → AreLines lines → length lines ≤ 16 → AreMasks lines
AreMasks-masks lines e few = record { each = mask_bit-each lines e few; top = mask_bit-top lines e few; others = mask_bit-others lines e few }
