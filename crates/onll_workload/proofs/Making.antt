-- Scripts that are made call by call, and what was done with them in the end.

use Rattle.std.proofs.Common.{ℕ, suc, ◌≡◌, ◌+◌, ◌-◌, ◌<◌, ◌≤◌, List, [], ◌∷◌, ◌++◌, map, refl, sym, ap, ◌∙◌, arith, append_assoc, append-nil}
use Rattle.onll_model.specs.declared.call.Call.TheVariants.{Update}
use Rattle.onll_workload.specs.declared.workload.Workload.{Workload}
use Rattle.onll_text.specs.BankText.{BankCall}
use Rattle.onll_workload.specs.Workload.{transfer_from, after_transfer, reads_after, calls_from, script_of, scripts_from, scripts_of}

pub calls_end : (updates made x : ℕ) (calls all : List BankCall) → updates ≤ made → calls ++ calls_from (updates - made) made x ≡ all → calls ≡ all
calls_end updates made x calls all over e =
    let none : updates - made ≡ 0 = omega arith in
    sym (append-nil calls) ∙ ap (λ n. calls ++ calls_from n made x) (sym none) ∙ e

-- the next update, and a read where it is a fourth
pub more_calls : (updates made x next : ℕ) (calls pushed all : List BankCall) → made < updates → next ≡ after_transfer x → pushed ≡ calls ++ (Update (transfer_from x) ∷ reads_after (made + 1))
    → calls ++ calls_from (updates - made) made x ≡ all → pushed ++ calls_from (updates - (made + 1)) (made + 1) next ≡ all
more_calls updates made x next calls pushed all low n p e =
    let one : updates - made ≡ suc (updates - (made + 1)) = omega arith in
    let here : List BankCall = Update (transfer_from x) ∷ reads_after (made + 1) in
    let rest : List BankCall = calls_from (updates - (made + 1)) (made + 1) (after_transfer x) in
    ap (λ y. pushed ++ calls_from (updates - (made + 1)) (made + 1) y) n
    ∙ ap (λ (l : List BankCall). l ++ rest) p
    ∙ append_assoc calls here rest
    ∙ ap (λ k. calls ++ calls_from k made x) (sym one) ∙ e

-- ---- all scripts
module _ {V : Type 0} (items : V → List BankCall) (w : Workload) where
  map_push : (xs : List V) (x : V) → map items (xs ++ x ∷ []) ≡ map items xs ++ items x ∷ []
  map_push [] x = refl
  map_push (y ∷ xs) x = ap (λ (l : List (List BankCall)). items y ∷ l) (map_push xs x)

  pub more_scripts : (t : ℕ) (scripts pushed : List V) (script : V) → t < w.threads → pushed ≡ scripts ++ script ∷ [] → items script ≡ script_of w t
      → map items scripts ++ scripts_from w (w.threads - t) t ≡ scripts_of w → map items pushed ++ scripts_from w (w.threads - (t + 1)) (t + 1) ≡ scripts_of w
  more_scripts t scripts pushed script low p is e =
      let rest : List (List BankCall) = scripts_from w (w.threads - (t + 1)) (t + 1) in
      let one : w.threads - t ≡ suc (w.threads - (t + 1)) = omega arith in
      ap (λ (l : List V). map items l ++ rest) p
      ∙ ap (λ (l : List (List BankCall)). l ++ rest) (map_push scripts script)
      ∙ append_assoc (map items scripts) (items script ∷ []) rest
      ∙ ap (λ (s : List BankCall). map items scripts ++ s ∷ rest) is
      ∙ ap (λ n. map items scripts ++ scripts_from w n t) (sym one) ∙ e
