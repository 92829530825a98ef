use Rattle.std.proofs.Common.{ℕ, suc, ◌≡◌, ◌==◌, Bool, true, false, List, [], ◌∷◌, length, Option, Some, None, Result, Ok, Err, IsSome, refl, subst, arith, eqb-true}
use Rattle.std.specs.Prelude.{if◌then◌else◌}
use Rattle.std.specs.List.{AllByRecursion}
use Rattle.onll_model.specs.declared.node.Node.{Node}
use Rattle.onll_model.specs.Object.{Behaviour}
use Rattle.onll_model.specs.Recovered.{where_some, operations_front}
use Rattle.onll_log.specs.declared.head.LogHead.{LogHead}
use Rattle.onll_log.specs.Grammar.{Content}
use Rattle.onll_merge.specs.declared.fault.RecoverFault.{RecoverFault}
use Rattle.onll_merge.specs.declared.fault.ImagesFault.{ImagesFault}
use Rattle.onll_merge.specs.Merge.{merge}
use Rattle.onll_merge.specs.Recovered.{contents_from}
use Rattle.onll_start.specs.declared.fault.ResumeFault.{ResumeFault}
use Rattle.onll_start.specs.Start.{Found, old_format, found_merged, found_newer, found_logs, found_in}

-- What was found in images.

module _ {State Op Query Reply : Type 0} (b : Behaviour State Op Query Reply) (heads : List LogHead) where
  -- the images are logs of the newest format, which merge to operations' nodes
  pub record HasFound (images : List (List (List ℕ))) (f : Found) : Type 0 where
    pub contents : contents_from 0 images ≡ Ok f.logs
    pub newer : old_format 0 f.logs ≡ None
    pub merged : merge heads f.logs ≡ Ok f.nodes
    pub rows : length (operations_front b f.nodes) ≡ length f.nodes

  of_operations : (logs : List Content) (nodes : List Node) (f : Found) (q : Bool) (e : ResumeFault) → (if q then Ok (record { logs = logs; nodes = nodes }) else Err e) ≡ Ok f → (q ≡ true) × (record { logs = logs; nodes = nodes } ≡ f)
  of_operations logs nodes f true e h = (refl, (cc))
  of_operations logs nodes f false e h = absurd (cc)

  of_merged : (logs : List Content) (m : Result (List Node) RecoverFault) (f : Found) → found_merged b heads logs m ≡ Ok f
      → (nodes : List Node) × (m ≡ Ok nodes) × (length (operations_front b nodes) == length nodes ≡ true) × (record { logs = logs; nodes = nodes } ≡ f)
  of_merged logs (Ok nodes) f h = let x = of_operations logs nodes f (length (operations_front b nodes) == length nodes) _ h in (nodes, refl, x.0, x.1)
  of_merged logs (Err e) f h = absurd (cc)

  of_newer : (logs : List Content) (o : Option ResumeFault) (f : Found) → found_newer b heads logs o ≡ Ok f → (o ≡ None) × (found_merged b heads logs (merge heads logs) ≡ Ok f)
  of_newer logs None f h = (refl, h)
  of_newer logs (Some e) f h = absurd (cc)

  of_logs : (cs : Result (List Content) ImagesFault) (f : Found) → found_logs b heads cs ≡ Ok f → (logs : List Content) × (cs ≡ Ok logs) × (found_newer b heads logs (old_format 0 logs) ≡ Ok f)
  of_logs (Ok logs) f h = (logs, refl, h)
  of_logs (Err e) f h = absurd (cc)

  pub has_found : (images : List (List (List ℕ))) (f : Found) → found_in b heads images ≡ Ok f → HasFound images f
  has_found images f h =
      let x = of_logs (contents_from 0 images) f h in
      let y = of_newer x.0 (old_format 0 x.0) f x.2 in
      let z = of_merged x.0 (merge heads x.0) f y.1 in
      subst (HasFound images) z.3 (record { contents = x.1; newer = y.0; merged = z.1; rows = eqb-true (length (operations_front b z.0)) (length z.0) z.2 })

-- ---- rows
module _ {State Op Query Reply : Type 0} (b : Behaviour State Op Query Reply) where
  where_short : (o : Option Op) (nodes : List Node) (n : ℕ) → length (where_some o nodes) ≡ suc n → (IsSome o) × (length nodes ≡ suc n)
  where_short None nodes n e = absurd (omega arith)
  where_short (Some op) nodes n e = (refl, e)

  pub whole_operations : (nodes : List Node) → length (operations_front b nodes) ≡ length nodes → AllByRecursion (λ (n : Node). IsSome (b.op_at n.row)) nodes
  whole_operations [] e = tt
  whole_operations (n ∷ nodes) e = let x = where_short (b.op_at n.row) (n ∷ operations_front b nodes) (length nodes) e in (x.0, whole_operations nodes (omega (arith, x.1)))
