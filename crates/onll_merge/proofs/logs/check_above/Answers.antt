use Rattle.std.proofs.Common.{◌≡◌, ◌≢◌, arith, ap, ◌∙◌}
use Rattle.std.proofs.lemmas.Result.{err_from_is_err_and}
use mathlib.Core.Logic.{dite}
use native.Mathlib.Decide.{ℕ_discrete}
use Rattle.onll_merge.specs.Merge.{contents_in, clash_at}
use Rattle.onll_merge.proofs.Asked.{first_to-more, first_to-found, clash_from-none}
use Rattle.onll_merge.proofs.logs.check_above.Goals as goal

pub loop-at-preserved : goal.loop-at-preserved
loop-at-preserved c = let cs = contents_in c.args.logs.now in let at = c.next_of_logs-at.result in record {
  bound = c.next_of_logs-at.ensures.bound;
  none = first_to-more (clash_at cs) c.loop-at.at at c.loop-at.invariant.none (let h = c.next_of_logs-at.ensures.above in omega arith)
      (λ q a b. dite (ℕ_discrete q at) (λ (is : q ≡ at). ap (clash_at cs) is ∙ c.in_ok-node_of_place.ensures.clash) (λ (not : q ≢ at). clash_from-none 0 cs q (c.next_of_logs-at.ensures.none q a (omega arith))));
  passed = c.in_ok-node_of_place.ensures.passed;
}

pub returns-in_err-node_of_place : goal.returns-in_err-node_of_place
returns-in_err-node_of_place c = let cs = contents_in c.args.logs.now in let at = c.next_of_logs-at.result in
    let p = err_from_is_err_and c.from_residual.result c.from_residual.ensures.1 in
    rw (p.1, p.2) (first_to-found (clash_at cs) c.loop-at.at at c.args.top c.in_err-node_of_place.field-0.0 c.loop-at.invariant.none c.next_of_logs-at.ensures.above c.next_of_logs-at.ensures.bound
    (λ q a b. clash_from-none 0 cs q (c.next_of_logs-at.ensures.none q a b)) c.in_err-node_of_place.ensures.clash)
