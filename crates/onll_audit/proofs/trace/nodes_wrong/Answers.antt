use Rattle.std.proofs.Common.{ℕ, List, [], ◌≡◌, ◌<◌, ◌∙◌, sym, ap, subst, length, map, take, get_or, true, false}
use Rattle.std.specs.declared.vec.Vec.{Vec}
use Rattle.std.specs.declared.alloc.Global.{Global}
use Rattle.onll_words.specs.declared.line.OpRow.{OpRow}
use Rattle.onll_model.specs.declared.node.Node.{Node}
use Rattle.onll_audit.specs.Verdict.{node_after, node_right}
use Rattle.onll_audit.proofs.Tallied.{right_by, left_wrong, left_right, tally_more}
use Rattle.onll_audit.proofs.trace.nodes_wrong.Goals as goal

abbrev none : Node
none = record { thread = 0; number = 0; row = record { w = [] } }

pub returns-then-not-node_right : goal.returns-then-not-node_right
returns-then-not-node_right c =
    let rows = map (λ (own : Vec OpRow Global). own.items) c.args.rows.now in
    let nodes = c.args.nodes.now in
    let below = c.loop-below.below in
    let x = get_or nodes below none in
    let test : node_right rows (take below nodes) x ≡ false =
    sym (right_by rows c.loop-below.counts.items nodes below x c.loop-below.invariant.tally)
    ∙ sym (ap (λ (counts : List ℕ). node_after rows (get_or counts x.thread 0) x) c.deref.ensures.value)
    ∙ sym c.node_right.ensures.right ∙ c.if-not-node_right.true in
    sym (left_wrong rows c.args.number nodes below none c.loop-below-test.true test) ∙ c.loop-below.invariant.rest

pub loop-below-preserved : goal.loop-below-preserved
loop-below-preserved c =
    let rows = map (λ (own : Vec OpRow Global). own.items) c.args.rows.now in
    let nodes = c.args.nodes.now in
    let below = c.loop-below.below in
    let x = get_or nodes below none in
    let test : node_right rows (take below nodes) x ≡ true =
    sym (right_by rows c.loop-below.counts.items nodes below x c.loop-below.invariant.tally)
    ∙ sym (ap (λ (counts : List ℕ). node_after rows (get_or counts x.thread 0) x) c.deref.ensures.value)
    ∙ sym c.node_right.ensures.right ∙ c.if-not-node_right.false in
    let within : x.thread < length c.loop-below.counts.items =
    subst (λ (counts : List ℕ). x.thread < length counts) c.deref.ensures.value (c.node_right.ensures.within c.if-not-node_right.false) in
    record {
      tally = tally_more rows c.args.number nodes below none c.loop-below-test.true c.loop-below.counts.items test within c.loop-below.invariant.tally;
      rest = sym (left_right rows c.args.number nodes below none c.loop-below-test.true test) ∙ c.loop-below.invariant.rest;
    }
