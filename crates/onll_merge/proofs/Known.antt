-- What logs give that are known to be of one run, place by place.
use Rattle.std.proofs.Common.{◌≡◌, ℕ, suc, ◌≤◌, Bool, true, false, List, [], ◌∷◌, ◌++◌, length, sym, refl, ap, ◌∙◌, Option, Some, None, option_to_list, Result, Ok, Err, cond}
use Rattle.std.specs.Prelude.{IsOk}
use Rattle.onll_model.specs.declared.node.Node.{Node}
use Rattle.onll_model.specs.Object.{Behaviour}
use Rattle.onll_model.specs.Trace.{after_row, state_after}
use Rattle.onll_model.proofs.States.{state_after-append}
use Rattle.onll_log.specs.declared.head.LogHead.{LogHead}
use Rattle.onll_log.specs.Grammar.{Content}
use Rattle.onll_merge.specs.declared.fault.RecoverFault.{RecoverFault}
use Rattle.onll_merge.specs.declared.fault.ImagesFault.{ImagesFault}
use Rattle.onll_merge.specs.Merge.{node_in_logs, nodes_to, top_of, foreign, disorder, first_to, clash_at, gap_at, unlike, refusal, merge}
use Rattle.onll_merge.specs.Recovered.{recovered_with, contents_from, with_logs, merged, with_operations, state_recovered}
use Rattle.onll_merge.proofs.Fronts.{Has}
use Rattle.onll_merge.proofs.Backs.{none_both, none_at, has_all, accepted, merge-back}

-- logs that are alike up to a place hold each place up to it, and hold it alike
pub alike_at : (logs : List Content) (top p : ℕ) → unlike logs top ≡ None → 1 ≤ p → p ≤ top → (clash_at logs p ≡ None) × Has logs p
alike_at logs top p h a b =
    let e = none_both (first_to (clash_at logs) top) (first_to (gap_at logs) top) h in
    (none_at (clash_at logs) top e.0 p a b, has_all logs p (none_at (gap_at logs) top e.1 p a b))

only_ok : {A E : Type 0} (t : Bool) (x : A) (e : E) → IsOk (cond {A = Result A E} t (Ok x) (Err e)) → cond {A = Result A E} t (Ok x) (Err e) ≡ Ok x
only_ok true x e h = refl
only_ok false x e h = absurd (cc)

module _ {State Op Query Reply : Type 0} (b : Behaviour State Op Query Reply) where
  -- the node of a place more is applied
  pub applied_more : (s : State) (logs : List Content) (below p : ℕ) (node : Node) → p ≡ suc below → Some node ≡ node_in_logs logs p
      → after_row b (state_after b s (nodes_to logs below)) (b.op_at node.row) ≡ state_after b s (nodes_to logs p)
  applied_more s logs below p node e is =
      sym (state_after-append b s (nodes_to logs below) (node ∷ []))
      ∙ (ap (λ (o : Option Node). state_after b s (nodes_to logs below ++ option_to_list o)) (is ∙ ap (node_in_logs logs) e)
      ∙ ap (λ (q : ℕ). state_after b s (nodes_to logs q)) (sym e))

  -- what images give from which something is recovered, where they hold these logs
  pub record Gives (heads : List LogHead) (images : List (List (List ℕ))) (logs : List Content) : Type 0 where
    pub alike : unlike logs (top_of logs) ≡ None
    pub recovered : state_recovered b heads images ≡ Ok (recovered_with logs (nodes_to logs (top_of logs)))
    pub whole : length (nodes_to logs (top_of logs)) ≡ top_of logs

  module _ (heads : List LogHead) (images : List (List (List ℕ))) (logs : List Content) (held : contents_from 0 images ≡ Ok logs) where
    gives_by : (r : Result (List Node) RecoverFault) → merge heads logs ≡ r → state_recovered b heads images ≡ with_operations b (with_logs logs r)
        → IsOk (with_operations b (with_logs logs r)) → Gives heads images logs
    gives_by (Err fault) m is known = absurd (cc)
    gives_by (Ok nodes) m is known =
        let all = nodes_to logs (top_of logs) in
        let a = accepted (refusal heads logs) all nodes m in
        let e0 = none_both (foreign 0 logs heads) _ a.0 in
        let e1 = none_both (disorder 0 logs) _ e0.1 in
        let e2 = none_both (unlike logs (top_of logs)) _ e1.1 in
        record {
          alike = e2.0;
          recovered = is ∙ (only_ok _ (recovered_with logs nodes) _ known ∙ ap (λ (ns : List Node). Ok (recovered_with logs ns)) (sym a.1));
          whole = ap length a.1 ∙ (merge-back nodes heads logs m).whole;
        }

    pub gives : IsOk (state_recovered b heads images) → Gives heads images logs
    gives known =
        let is : state_recovered b heads images ≡ with_operations b (with_logs logs (merge heads logs)) = ap (λ (r : Result (List Content) ImagesFault). with_operations b (merged heads r)) held in
        gives_by (merge heads logs) refl is (rw is at known)
