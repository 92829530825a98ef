use Rattle.std.proofs.Common.{◌≡◌, ◌+◌, suc, drop, get_or, sym, ap, ◌∙◌, subst, arith, Option, List}
use Rattle.std.specs.Option.{option_or}
use Rattle.std.proofs.lemmas.Result.{err_from_is_err_and}
use Rattle.onll_model.specs.declared.node.Node.{Node}
use Rattle.onll_log.specs.Grammar.{Content}
use Rattle.onll_merge.specs.Merge.{AllRise, node_in_logs}
use Rattle.onll_merge.specs.Standing.{contents_under, StandsBelow, clash_with, held_node}
use Rattle.onll_merge.proofs.Standings.{rise_at, log_left, same_under, all_set, or_or}
use Rattle.onll_merge.proofs.second_pass.node_of_place.Goals as goal

pub node_at-node-requires-clause-rises : goal.node_at-node-requires-clause-rises
node_at-node-requires-clause-rises c =
    rise_at c.loop-log.readers c.loop-log.log c.index-readers-log.result (subst AllRise (sym c.loop-log.invariant.same) c.requires.rise) (omega arith)

pub returns-in_err-found-clause-clash : goal.returns-in_err-found-clause-clash
returns-in_err-found-clause-clash c =
    let logs = contents_under c.args.readers.now in
    let log = c.loop-log.log in
    let d = c.index-readers-log.result in
    let here = get_or c.loop-log.readers log d in
    let left = log_left c.loop-log.readers logs log d c.loop-log.invariant.same (omega arith) in
    let p = err_from_is_err_and c.from_residual.result c.from_residual.ensures.1 in
    rw (p.1, p.2) (sym c.loop-log.invariant.clash ∙ (ap (λ (cs : List Content). clash_with c.loop-log.found log cs c.args.place) left
    ∙ c.in_err-found.ensures.clash here.content (drop (log + 1) logs) (sym c.node_at-node.ensures.node)))

pub returns-in_err-found-clause-same : goal.returns-in_err-found-clause-same
returns-in_err-found-clause-same c =
    same_under c.loop-log.readers c.loop-log.log c.node_at-node.new.reader c.index-readers-log.result (omega arith) c.node_at-node.ensures.same ∙ c.loop-log.invariant.same

pub loop-log-preserved : goal.loop-log-preserved
loop-log-preserved c =
    let logs = contents_under c.args.readers.now in
    let log = c.loop-log.log in
    let place = c.args.place in
    let d = c.index-readers-log.result in
    let here = get_or c.loop-log.readers log d in
    let rest = drop (log + 1) logs in
    let next = c.in_ok-found.found in
    let left = log_left c.loop-log.readers logs log d c.loop-log.invariant.same (omega arith) in
    let up : suc log ≡ log + 1 = omega arith in
    record {
      clash = sym (ap (λ n. clash_with next n rest place) up) ∙ (sym (c.in_ok-found.ensures.clash here.content rest (sym c.node_at-node.ensures.node))
          ∙ (sym (ap (λ (cs : List Content). clash_with c.loop-log.found log cs place) left) ∙ c.loop-log.invariant.clash));
      node = ap (λ (o : Option Node). option_or o (node_in_logs rest place)) c.in_ok-found.ensures.node
          ∙ (or_or (held_node c.loop-log.found) c.node_at-node.result (node_in_logs rest place)
          ∙ (ap (λ (o : Option Node). option_or (held_node c.loop-log.found) (option_or o (node_in_logs rest place))) c.node_at-node.ensures.node
          ∙ (sym (ap (λ (cs : List Content). option_or (held_node c.loop-log.found) (node_in_logs cs place)) left) ∙ c.loop-log.invariant.node)));
      same = same_under c.loop-log.readers log c.node_at-node.new.reader d (omega arith) c.node_at-node.ensures.same ∙ c.loop-log.invariant.same;
      below = all_set (StandsBelow place) c.loop-log.readers log c.node_at-node.new.reader c.loop-log.invariant.below c.node_at-node.ensures.below;
    }
