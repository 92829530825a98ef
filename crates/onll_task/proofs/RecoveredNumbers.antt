-- The nodes that logs give are numbered.

use Rattle.std.proofs.Common.{Bool, true, false, List, ◌≡◌, ◌∙◌, Result, Ok, Err, refl, ap, subst, cond, ℕ}
use Rattle.onll_model.specs.declared.node.Node.{Node}
use Rattle.onll_model.specs.Object.{Behaviour}
use Rattle.onll_model.specs.Trace.{IsNumbered}
use Rattle.onll_log.specs.declared.head.LogHead.{LogHead}
use Rattle.onll_log.specs.Grammar.{Content}
use Rattle.onll_merge.specs.declared.fault.RecoverFault.{RecoverFault}
use Rattle.onll_merge.specs.declared.fault.ImagesFault.{ImagesFault}
use Rattle.onll_merge.specs.declared.fault.StateFault.{StateFault}
use Rattle.onll_merge.specs.Merge.{merge}
use Rattle.onll_merge.specs.Recovered.{Recovered, contents_from, merged, with_logs, with_operations, state_recovered}
use Rattle.onll_merge.proofs.Backs.{merge-back}

of_operations : {State Op Query Reply : Type 0} (b : Behaviour State Op Query Reply) (q r : Recovered) (test : Bool) (fault : StateFault)
    → cond {A = Result Recovered StateFault} test (Ok q) (Err fault) ≡ Ok r → q ≡ r
of_operations b q r true fault e = (cc)
of_operations b q r false fault e = absurd (cc)

of_nodes : (heads : List LogHead) (logs : List Content) (m : Result (List Node) RecoverFault) (r : Recovered) → merge heads logs ≡ m
    → with_logs logs m ≡ Ok r → IsNumbered r.nodes
of_nodes heads logs (Ok nodes) r e f =
    let same : nodes ≡ r.nodes = (cc) in subst IsNumbered same (merge-back nodes heads logs e).numbered
of_nodes heads logs (Err fault) r e f = absurd (cc)

of_merged : (heads : List LogHead) (contents : Result (List Content) ImagesFault) (r : Recovered) → merged heads contents ≡ Ok r → IsNumbered r.nodes
of_merged heads (Ok logs) r e = of_nodes heads logs (merge heads logs) r refl e
of_merged heads (Err fault) r e = absurd (cc)

of_state : {State Op Query Reply : Type 0} (b : Behaviour State Op Query Reply) (heads : List LogHead) (contents : Result (List Content) ImagesFault)
    (found : Result Recovered ImagesFault) (r : Recovered) → merged heads contents ≡ found → with_operations b found ≡ Ok r → IsNumbered r.nodes
of_state b heads contents (Ok q) r e f =
    let same : q ≡ r = of_operations b q r _ _ f in of_merged heads contents r (e ∙ ap (λ (x : Recovered). let y : Result Recovered ImagesFault = Ok x in y) same)
of_state b heads contents (Err fault) r e f = absurd (cc)

pub recovered_numbered : {State Op Query Reply : Type 0} (b : Behaviour State Op Query Reply) (heads : List LogHead) (images : List (List (List ℕ)))
    (r : Recovered) → state_recovered b heads images ≡ Ok r → IsNumbered r.nodes
recovered_numbered b heads images r e = of_state b heads (contents_from 0 images) (merged heads (contents_from 0 images)) r refl e
