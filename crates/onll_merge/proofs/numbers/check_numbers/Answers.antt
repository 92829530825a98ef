use Rattle.std.proofs.Common.{ℕ, ◌+◌, [], List, set, sym, ap, ◌∙◌, subst}
use Rattle.onll_model.specs.declared.node.Node.{Node}
use Rattle.onll_merge.proofs.Numbered.{Counted, counted_more, counted_other}
use Rattle.onll_merge.proofs.numbers.check_numbers.Goals.{then-node-lt-MOST_THREADS, else-node-lt-MOST_THREADS}
use Rattle.onll_merge.proofs.numbers.check_numbers.Goals as goal

pub loop-below-preserved : goal.loop-below-preserved
loop-below-preserved c =
    let none : Node = record { thread = 0; number = 0; row = record { w = [] } } in
    let i = c.loop-below.invariant in
    let h : Counted c.loop-below.counts c.args.nodes.now c.loop-below.below = record { many = i.many; counts_are = i.counts; rest_is = i.rest } in
    let next = c.if-node-wanted.false ∙ ap (λ (n : ℕ). n + 1) c.count_known-wanted.ensures in
    let more : Counted c.if-node-lt-MOST_THREADS.counts c.args.nodes.now (c.loop-below.below + 1) = elim c.if-node-lt-MOST_THREADS.branch [
      | then-node-lt-MOST_THREADS w ↦ subst (λ (ns : List ℕ). Counted ns c.args.nodes.now (c.loop-below.below + 1)) (sym (w.counts-is ∙ ap (set c.loop-below.counts _) (sym c.if-node-wanted.false)))
          (counted_more c.args.nodes.now c.loop-below.below none c.loop-below-test.true next c.loop-below.counts w.if-node-lt-MOST_THREADS.true h)
      | else-node-lt-MOST_THREADS w ↦ subst (λ (ns : List ℕ). Counted ns c.args.nodes.now (c.loop-below.below + 1)) (sym w.counts-is)
          (counted_other c.args.nodes.now c.loop-below.below none c.loop-below-test.true next c.loop-below.counts w.if-node-lt-MOST_THREADS.false h)
    ] in
    record { many = more.many; counts = more.counts_are; rest = more.rest_is }
