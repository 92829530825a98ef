-- Where no fence fails there is no fault.

use Rattle.std.proofs.Common.{ℕ, zero, suc, ◌≡◌, List, [], refl, ap, ◌∙◌, arith}
use Rattle.onll_pmem.specs.Memory.{faults_in}

none_fail : (fences : ℕ) → faults_in [] fences ≡ 0
none_fail zero = refl
none_fail (suc fences) = let rest = none_fail fences in omega (arith, rest)

pub no_faults : (failing : List ℕ) (fences : ℕ) → failing ≡ [] → faults_in failing fences ≡ 0
no_faults failing fences e = ap (λ (fs : List ℕ). faults_in fs fences) e ∙ none_fail fences
