use Rattle.std.proofs.Common.{ℕ, true, [], ◌∷◌, ◌≡◌, ◌==◌, ◌&&◌, arith}
use Rattle.std.proofs.lemmas.Bool.Decides.{nat_tests}

-- The words of an operation's row, a code n and its arguments, where the test of the row holds: the code is n, and the
-- words behind the arguments are zero.

pub one_argument : (n k a b c d e f : ℕ) → (k == n && (b == 0) && (c == 0) && (d == 0) && (e == 0) && (f == 0)) ≡ true → n ∷ a ∷ 0 ∷ 0 ∷ 0 ∷ 0 ∷ 0 ∷ [] ≡ k ∷ a ∷ b ∷ c ∷ d ∷ e ∷ f ∷ []
one_argument n k a b c d e f h =
    let hk : k ≡ n = grind (arith, nat_tests) in
    let hb : b ≡ 0 = grind (arith, nat_tests) in
    let hc : c ≡ 0 = grind (arith, nat_tests) in
    let hd : d ≡ 0 = grind (arith, nat_tests) in
    let he : e ≡ 0 = grind (arith, nat_tests) in
    let hf : f ≡ 0 = grind (arith, nat_tests) in
    cc

pub two_arguments : (n k a b c d e f : ℕ) → (k == n && (c == 0) && (d == 0) && (e == 0) && (f == 0)) ≡ true → n ∷ a ∷ b ∷ 0 ∷ 0 ∷ 0 ∷ 0 ∷ [] ≡ k ∷ a ∷ b ∷ c ∷ d ∷ e ∷ f ∷ []
two_arguments n k a b c d e f h =
    let hk : k ≡ n = grind (arith, nat_tests) in
    let hc : c ≡ 0 = grind (arith, nat_tests) in
    let hd : d ≡ 0 = grind (arith, nat_tests) in
    let he : e ≡ 0 = grind (arith, nat_tests) in
    let hf : f ≡ 0 = grind (arith, nat_tests) in
    cc

pub three_arguments : (n k a b c d e f : ℕ) → (k == n && (d == 0) && (e == 0) && (f == 0)) ≡ true → n ∷ a ∷ b ∷ c ∷ 0 ∷ 0 ∷ 0 ∷ [] ≡ k ∷ a ∷ b ∷ c ∷ d ∷ e ∷ f ∷ []
three_arguments n k a b c d e f h =
    let hk : k ≡ n = grind (arith, nat_tests) in
    let hd : d ≡ 0 = grind (arith, nat_tests) in
    let he : e ≡ 0 = grind (arith, nat_tests) in
    let hf : f ≡ 0 = grind (arith, nat_tests) in
    cc

pub four_arguments : (n k a b c d e f : ℕ) → (k == n && (e == 0) && (f == 0)) ≡ true → n ∷ a ∷ b ∷ c ∷ d ∷ 0 ∷ 0 ∷ [] ≡ k ∷ a ∷ b ∷ c ∷ d ∷ e ∷ f ∷ []
four_arguments n k a b c d e f h =
    let hk : k ≡ n = grind (arith, nat_tests) in
    let he : e ≡ 0 = grind (arith, nat_tests) in
    let hf : f ≡ 0 = grind (arith, nat_tests) in
    cc
