use Rattle.std.proofs.Common.{sym, ap, ◌∙◌, arith}
use Rattle.onll_log.specs.declared.decoded.Entry.{Entry}
use Rattle.onll_log.specs.Decoded.{segment_in}
use Rattle.onll_merge.specs.Merge.{node_in_segment}
use Rattle.onll_merge.proofs.Places.{node_in_log-at, node_in_log-high}
use Rattle.onll_merge.proofs.entries.node_of_log.Goals as goal

pub returns-then-at-entries-clause-node : goal.returns-then-at-entries-clause-node
returns-then-at-entries-clause-node c = let es = c.args.entries.now in let at = c.first_from-at.result in let e = c.index-entries-at.result in
    c.node_of_entry.ensures ∙ (ap (λ (x : Entry). node_in_segment (segment_in x) c.args.place) c.index-entries-at.is
    ∙ sym (node_in_log-at 0 es c.args.place at e c.requires.rises c.if-at-entries.true (λ k d l. c.first_from-at.ensures.passed k d (omega arith) l) (c.first_from-at.ensures.reached e c.if-at-entries.true)))

pub returns-else-at-entries-clause-node : goal.returns-else-at-entries-clause-node
returns-else-at-entries-clause-node c = let f = c.if-at-entries.false in
    sym (node_in_log-high c.args.entries.now c.args.place (λ k d l. c.first_from-at.ensures.passed k d (omega arith) (omega arith)))
