-- Bits below a number, and the marks of lines.
use Rattle.std.proofs.Common.{◌≡◌, ℕ, suc, ◌+◌, ◌-◌, ◌*◌, ◌^◌, ◌<◌, ◌≤◌, cond, Bool, true, false, List, [], ◌∷◌, ◌++◌, length, get_or, drop, sym, refl, ap, ◌∙◌, subst, arith}
use Rattle.std.proofs.Math.Nat.{pow-suc, pow-le-pow_right}
use Rattle.std.proofs.lemmas.List.{length-drop, drop_more}
use Rattle.onll_words.specs.declared.line.Line.{Line}
use Rattle.onll_pmem.specs.Pmem.{words_of}
use Rattle.onll_log.specs.Masks.{bits, bits_on, marks_in, marks}

pub bits_on-append : (xs ys : List Bool) (above : ℕ) → bits_on (xs ++ ys) above ≡ bits_on xs (bits_on ys above)
bits_on-append [] ys above = refl
bits_on-append (x ∷ xs) ys above = ap (λ (n : ℕ). cond {A = ℕ} x 1 0 + 2 * n) (bits_on-append xs ys above)

pub bits_on-none : (xs : List Bool) → bits_on xs 0 ≡ bits xs
bits_on-none [] = refl
bits_on-none (x ∷ xs) = ap (λ (n : ℕ). cond {A = ℕ} x 1 0 + 2 * n) (bits_on-none xs)

two_pow : (a k : ℕ) → 2 ^ (suc a + k) ≡ 2 * 2 ^ (a + k)
two_pow a k = let e : suc a + k ≡ suc (a + k) = omega arith in ap (λ (n : ℕ). 2 ^ n) e ∙ (let p = pow-suc 2 (a + k) in omega arith)

-- as many bits more than the number has
pub bits_on_lt : (bs : List Bool) (above k : ℕ) → above < 2 ^ k → bits_on bs above < 2 ^ (length bs + k)
bits_on_lt [] above k l = let e : 0 + k ≡ k = omega arith in subst (λ (n : ℕ). above < 2 ^ n) (sym e) l
bits_on_lt (true ∷ bs) above k l = let h = bits_on_lt bs above k l in let e = two_pow (length bs) k in omega arith
bits_on_lt (false ∷ bs) above k l = let h = bits_on_lt bs above k l in let e = two_pow (length bs) k in omega arith

pub length-marks_in : (ws : List ℕ) → length (marks_in ws) ≡ length ws
length-marks_in [] = refl
length-marks_in (w ∷ ws) = ap suc (length-marks_in ws)

-- the bits of the last words of a line
pub marks_lt : (ws : List ℕ) (i n above k : ℕ) → length ws ≡ i + n → above < 2 ^ k → bits_on (marks_in (drop i ws)) above < 2 ^ (n + k)
marks_lt ws i n above k e l = let len : length (marks_in (drop i ws)) ≡ n = omega (arith, length-marks_in (drop i ws), length-drop i ws) in
    subst (λ (m : ℕ). bits_on (marks_in (drop i ws)) above < 2 ^ (m + k)) len (bits_on_lt (marks_in (drop i ws)) above k l)

-- one line more, from the end
pub marks-line : (lines : List Line) (i j : ℕ) (d : Line) → suc i ≡ j → i < length lines
    → bits_on (marks (words_of (drop i lines))) 0 ≡ bits_on (marks_in (get_or lines i d).w) (bits_on (marks (words_of (drop j lines))) 0)
marks-line lines i j d e l = let next : i + 1 ≡ j = omega arith in
    ap (λ (ls : List Line). bits_on (marks (words_of ls)) 0) (drop_more lines i d l)
    ∙ bits_on-append (marks_in (get_or lines i d).w) (marks (words_of (drop (i + 1) lines))) 0
    ∙ ap (λ (n : ℕ). bits_on (marks_in (get_or lines i d).w) (bits_on (marks (words_of (drop n lines))) 0)) next

-- the bits of up to six lines leave room for one line more
pub lines_lt : (n i above : ℕ) → n ≤ 7 → 0 < i → above < 2 ^ (8 * (n - i)) → above < 2 ^ 48
lines_lt n i above few some_left l = let e : 8 * (n - i) ≤ 48 = omega arith in let p = pow-le-pow_right {n = 2} (omega arith) e in omega arith
