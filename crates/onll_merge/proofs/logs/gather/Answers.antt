use Rattle.std.proofs.Common.{◌+◌, arith, ap, sym, ◌∙◌, None, Some, inr}
use Rattle.std.specs.Option.{option_map_or, option_or}
use Rattle.std.proofs.lemmas.Result.{err_from_is_err_and}
use Rattle.onll_merge.specs.declared.fault.RecoverFault.TheVariants.{Gap}
use Rattle.onll_merge.specs.Merge.{contents_in, clash_at, gap_at, first_to}
use Rattle.onll_merge.proofs.Asked.{first_to-found}
use Rattle.onll_merge.proofs.logs.gather.Goals as goal

pub returns-in_err-node-clause-places : goal.returns-in_err-node-clause-places
returns-in_err-node-clause-places c = let cs = contents_in c.args.logs.now in let d = c.loop-below.below in let top = c.args.top in
    let p = err_from_is_err_and c.from_residual.result c.from_residual.ensures.1 in
    rw (p.1, p.2) (inr (ap (λ o. option_or o (first_to (gap_at cs) top))
    (first_to-found (clash_at cs) d (d + 1) top c.in_err-node.field-0.0 c.loop-below.invariant.clash (omega arith) (omega arith) (λ q a b. absurd (omega arith)) c.in_err-node.ensures.clash)))

pub returns-in-None-clause-places : goal.returns-in-None-clause-places
returns-in-None-clause-places c = let cs = contents_in c.args.logs.now in let d = c.loop-below.below in let p = d + 1 in let top = c.args.top in
    inr (ap (λ o. option_or o (first_to (gap_at cs) top)) c.in_ok-check_above-in-None.ensures
    ∙ first_to-found (gap_at cs) d p top (Gap p) c.loop-below.invariant.gap (omega arith) (omega arith) (λ q a b. absurd (omega arith))
    (ap (λ o. option_map_or (λ x. None) o (Some (Gap p))) (sym (sym c.in-None.is ∙ c.in_ok-node.ensures.node))))
