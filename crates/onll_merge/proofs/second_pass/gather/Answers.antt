use Rattle.std.proofs.Common.{◌≡◌, ◌+◌, None, Some, inr, ap, ◌∙◌, subst, arith, List}
use Rattle.std.specs.Option.{option_or}
use Rattle.std.proofs.lemmas.Result.{err_from_is_err_and}
use Rattle.onll_log.specs.Grammar.{Content}
use Rattle.onll_merge.specs.Merge.{clash_at, gap_at, first_to, node_in_logs}
use Rattle.onll_merge.specs.Standing.{contents_under}
use Rattle.onll_merge.proofs.Asked.{first_to-found}
use Rattle.onll_merge.proofs.Standings.{gather_more, stand_higher}
use Rattle.onll_merge.proofs.second_pass.gather.Goals as goal

pub returns-in_err-node-clause-places : goal.returns-in_err-node-clause-places
returns-in_err-node-clause-places c =
    let logs = contents_under c.args.readers.now in
    let below = c.loop-below.below in
    let top = c.args.top in
    let clash = subst (λ (ls : List Content). clash_at ls (below + 1) ≡ Some c.in_err-node.field-0.0) c.loop-below.invariant.same c.in_err-node.ensures.clash in
    let p = err_from_is_err_and c.from_residual.result c.from_residual.ensures.1 in
    rw (p.1, p.2) (inr (ap (λ o. option_or o (first_to (gap_at logs) top))
    (first_to-found (clash_at logs) below (below + 1) top c.in_err-node.field-0.0 c.loop-below.invariant.clash (omega arith) (omega arith) (λ q a b. absurd (omega arith)) clash)))

pub loop-below-preserved : goal.loop-below-preserved
loop-below-preserved c =
    let logs = contents_under c.args.readers.now in
    let below = c.loop-below.below in
    let same = c.loop-below.invariant.same in
    let clash = subst (λ (ls : List Content). clash_at ls (below + 1) ≡ None) same c.in_ok-node.ensures.clash in
    let node = subst (λ (ls : List Content). c.in_ok-node.node ≡ node_in_logs ls (below + 1)) same c.in_ok-node.ensures.node in
    let g = gather_more logs below (below + 1) c.loop-below.nodes.items c.add.new.nodes.items c.loop-below.gap c.in_ok-gap.gap c.in_ok-node.node (omega arith)
    c.loop-below.invariant.nodes c.loop-below.invariant.clash c.loop-below.invariant.gap clash node c.in_ok-gap.ensures.nodes c.in_ok-gap.ensures.gap in
    record {
      nodes = g.nodes_are;
      clash = g.clash_is;
      gap = g.gap_is;
      same = c.in_ok-node.ensures.same ∙ same;
      below = stand_higher (below + 1) (below + 1 + 1) c.node_of_place.new.readers (omega arith) c.in_ok-node.ensures.below;
    }
