use Rattle.std.specs.List.{slice_get}
use Rattle.std.proofs.Common.{◌-◌, ◌≤◌, List, Some, sym, ap, ◌∙◌, subst, arith}
use Rattle.onll_model.specs.declared.node.Node.{Node}
use Rattle.onll_model.specs.Segment.{Segment, Rises}
use Rattle.onll_log.specs.Grammar.{Content}
use Rattle.onll_log.specs.Cursor.{entries_left, lines_passed, first_nodes}
use Rattle.onll_log.proofs.Cursors.{viewed, not_viewed}
use Rattle.onll_merge.specs.Merge.{node_in_log}
use Rattle.onll_merge.specs.Standing.{Reaches}
use Rattle.onll_merge.proofs.Places.{node_among-at, node_among-below}
use Rattle.onll_merge.proofs.Standings.{node_at_first, node_at_end, get_is}
use Rattle.onll_merge.proofs.second_pass.node_of_log.Goals as goal

pub returns-in-None-clause-node : goal.returns-in-None-clause-node
returns-in-None-clause-node c =
    let cur = c.pass_below.new.cursor in
    let place = c.args.place in
    let none = not_viewed (lines_passed cur) (entries_left cur) (sym c.in-None.is ∙ c.peek.ensures) in
    sym (ap (λ (x : Content). node_in_log x.entries place) (sym c.pass_below.ensures.same) ∙ node_at_end cur.content.entries cur.passed place none c.pass_below.ensures.below)

pub returns-then-above-entry-clause-node : goal.returns-then-above-entry-clause-node
returns-then-above-entry-clause-node c =
    let cur = c.pass_below.new.cursor in
    let place = c.args.place in
    let e = c.in-Some.entry in
    let v = viewed (lines_passed cur) (entries_left cur) e (sym c.in-Some.is ∙ c.peek.ensures) in
    let reach : place ≤ v.s.place = subst (Reaches place) v.split c.pass_below.ensures.reaches in
    let rises : Rises 0 cur.content.entries = subst (λ (x : Content). Rises 0 x.entries) (sym c.pass_below.ensures.same) c.requires.rises in
    let here = node_at_first cur.content.entries cur.passed place v.s v.more rises v.split c.pass_below.ensures.below reach in
    let k = e.count - 1 - (e.place - place) in
    let node = get_is v.s.nodes k c.node.result c.node.result (ap (λ (ss : List Segment). slice_get (first_nodes ss) k) (sym v.split) ∙ c.node.ensures) in
    let p = v.place in
    let n = v.count in
    let t = c.if-above-entry.true in
    let at = node_among-at v.s.place v.s.nodes place k c.node.result (omega (arith, p, n, t, reach)) (omega (arith, p, n, t, reach)) in
    sym (ap (λ (x : Content). node_in_log x.entries place) (sym c.pass_below.ensures.same) ∙ (here ∙ (at ∙ ap (λ (x : Node). Some x) node)))

pub returns-else-above-entry-clause-node : goal.returns-else-above-entry-clause-node
returns-else-above-entry-clause-node c =
    let cur = c.pass_below.new.cursor in
    let place = c.args.place in
    let e = c.in-Some.entry in
    let v = viewed (lines_passed cur) (entries_left cur) e (sym c.in-Some.is ∙ c.peek.ensures) in
    let reach : place ≤ v.s.place = subst (Reaches place) v.split c.pass_below.ensures.reaches in
    let rises : Rises 0 cur.content.entries = subst (λ (x : Content). Rises 0 x.entries) (sym c.pass_below.ensures.same) c.requires.rises in
    let here = node_at_first cur.content.entries cur.passed place v.s v.more rises v.split c.pass_below.ensures.below reach in
    sym (ap (λ (x : Content). node_in_log x.entries place) (sym c.pass_below.ensures.same) ∙ (here ∙ node_among-below v.s.place v.s.nodes place (omega (arith, v.place, v.count, c.if-above-entry.false, reach))))
