-- What is recovered of logs whose rows are operations.

use Rattle.std.proofs.Common.{ℕ, Bool, true, List, [], ◌∷◌, ◌≡◌, ◌+◌, ◌==◌, cond, length, Option, Some, None, IsSome, refl, ap, ◌∙◌, arith, Result, Ok, Err}
use Rattle.std.proofs.lemmas.Bool.Decides.{nat_tests}
use Rattle.std.specs.List.{AllByRecursion}
use Rattle.onll_model.specs.declared.node.Node.{Node}
use Rattle.onll_model.specs.Object.{Behaviour}
use Rattle.onll_model.specs.Recovered.{operations_front, where_some}
use Rattle.onll_log.specs.declared.head.LogHead.{LogHead}
use Rattle.onll_log.specs.Grammar.{Content}
use Rattle.onll_merge.specs.Merge.{merge}
use Rattle.onll_merge.specs.declared.fault.StateFault.{StateFault}
use Rattle.onll_merge.specs.declared.fault.StateFault.TheVariants.{NotOperation}
use Rattle.onll_merge.specs.declared.fault.RecoverFault.{RecoverFault}
use Rattle.onll_merge.specs.declared.fault.ImagesFault.{ImagesFault}
use Rattle.onll_merge.specs.Recovered.{Recovered, recovered_with, contents_from, with_logs, merged, with_operations, state_recovered}

-- each row is an operation's
abbrev AllOperations : {State Op Query Reply : Type 0} → Behaviour State Op Query Reply → List Node → Type 0
AllOperations b nodes = AllByRecursion (λ (n : Node). IsSome (b.op_at n.row)) nodes

where_is : {A : Type 0} (o : Option A) (nodes : List Node) → IsSome o → where_some o nodes ≡ nodes
where_is None nodes h = absurd (cc)
where_is (Some x) nodes h = refl

equal : {A : Type 0} (n : ℕ) (x y : A) → cond (n == n) x y ≡ x
equal {A} n x y = let e : (n == n) ≡ true = grind (arith, nat_tests) in ap (λ (t : Bool). cond t x y) e

module _ {State Op Query Reply : Type 0} (b : Behaviour State Op Query Reply) where
  pub front_is : (nodes : List Node) → AllOperations b nodes → operations_front b nodes ≡ nodes
  front_is [] h = refl
  front_is (n ∷ nodes) h = where_is (b.op_at n.row) (n ∷ operations_front b nodes) h.0 ∙ ap (λ (l : List Node). n ∷ l) (front_is nodes h.1)

  abbrev rows_by : Recovered → List Node → Result Recovered StateFault
  rows_by r front = cond (length front == length r.nodes) (Ok r) (Err (NotOperation (length front + 1)))

  operations_are : (r : Recovered) → AllOperations b r.nodes → with_operations b (Ok r) ≡ Ok r
  operations_are r h = ap (rows_by r) (front_is r.nodes h) ∙ equal (length r.nodes) (Ok r) (Err (NotOperation (length r.nodes + 1)))

  pub recovered_is : (images : List (List (List ℕ))) (heads : List LogHead) (logs : List Content) (nodes : List Node)
      → contents_from 0 images ≡ Ok logs → merge heads logs ≡ Ok nodes → AllOperations b nodes → state_recovered b heads images ≡ Ok (recovered_with logs nodes)
  recovered_is images heads logs nodes c m o =
      ap (λ (cs : Result (List Content) ImagesFault). with_operations b (merged heads cs)) c
      ∙ ap (λ (r : Result (List Node) RecoverFault). with_operations b (with_logs logs r)) m ∙ operations_are (recovered_with logs nodes) o
