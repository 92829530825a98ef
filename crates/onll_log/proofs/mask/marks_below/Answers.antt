use Rattle.std.proofs.Common.{rules, ◌≡◌, ℕ, ◌+◌, ◌<◌, ◌≤◌, ◌^◌, ◌-◌, List, length, drop, arith, subst, sym}
use Rattle.onll_log.specs.Masks.{marks_in, bits_on}
use Rattle.std.proofs.Math.Nat.{pow-le-pow_right}
use Rattle.onll_log.proofs.Bits.{marks_lt}
use Rattle.onll_log.proofs.mask.marks_below.Goals as goal

-- eight words
words_lt : (ws : List ℕ) (word mask above k : ℕ) → length ws ≡ 8 → word ≤ 8 → mask ≡ bits_on (marks_in (drop (8 - word) ws)) above → above < 2 ^ k → mask < 2 ^ (word + k)
words_lt ws word mask above k eight few e l = subst (λ (n : ℕ). n < 2 ^ (word + k)) (sym e) (marks_lt ws (8 - word) word above k (omega arith) l)

room : (ws : List ℕ) (word mask above : ℕ) → length ws ≡ 8 → word < 8 → mask ≡ bits_on (marks_in (drop (8 - word) ws)) above → above < 2 ^ 48 → mask < 2 ^ 55
room ws word mask above eight few e l = let low = words_lt ws word mask above 48 eight (omega arith) e l in
    let most : word + 48 ≤ 55 = omega arith in let p = pow-le-pow_right {n = 2} (omega arith) most in omega arith

pub overflow_mul-mask : goal.overflow_mul-mask
overflow_mul-mask c = let low = room c.args.line.now.w c.loop-word.word c.loop-word.mask c.args.above (search rules) c.loop-word-test.true c.loop-word.invariant c.requires in omega arith

pub overflow_add-mask : goal.overflow_add-mask
overflow_add-mask c = let low = room c.args.line.now.w c.loop-word.word c.loop-word.mask c.args.above (search rules) c.loop-word-test.true c.loop-word.invariant c.requires in
    let few : c.from.result ≤ 1 = search rules in omega arith

pub returns-clause-low : goal.returns-clause-low
returns-clause-low c = λ k l. let e : c.loop-word.word ≡ 8 = omega arith in
    subst (λ (n : ℕ). c.loop-word.mask < 2 ^ (n + k)) e (words_lt c.args.line.now.w c.loop-word.word c.loop-word.mask c.args.above k (search rules) (omega arith) c.loop-word.invariant l)
