use Rattle.std.proofs.Common.{length, ap, arith}
use Rattle.onll_log.specs.declared.decoded.Entry.{Entry}
use Rattle.onll_merge.proofs.Places.{node_in_log-high, node_in_log-between, Rises-above}
use Rattle.onll_merge.proofs.entries.next_of_log.Goals as goal

pub returns-then-at-entries-clause-none : goal.returns-then-at-entries-clause-none
returns-then-at-entries-clause-none c = let t = c.if-at-entries.true in
    λ q a b. node_in_log-high c.args.entries.now q (λ k d l. let h = c.first_from-at.ensures.passed k d (omega arith) (omega arith) in omega arith)

pub overflow_sub-entry : goal.overflow_sub-entry
overflow_sub-entry c = let e = c.index-entries-at.result in let es = c.args.entries.now in let at = c.first_from-at.result in let f = c.if-at-entries.false in
    let p = ap (λ (x : Entry). x.place) c.index-entries-at.is in let n = ap (λ (x : Entry). length x.nodes) c.index-entries-at.is in let s = ap length c.as_slice.ensures in
    let r = Rises-above 0 es at e c.requires.rises (omega arith) in omega arith

pub returns-then-below-end-clause-none : goal.returns-then-below-end-clause-none
returns-then-below-end-clause-none c = let e = c.index-entries-at.result in let es = c.args.entries.now in let at = c.first_from-at.result in let f = c.if-at-entries.false in
    let p = ap (λ (x : Entry). x.place) c.index-entries-at.is in let n = ap (λ (x : Entry). length x.nodes) c.index-entries-at.is in let s = ap length c.as_slice.ensures in
    let r = Rises-above 0 es at e c.requires.rises (omega arith) in let m = c.max-below.ensures in
    λ q a b. node_in_log-between es c.args.place at q e c.requires.rises (omega arith) (λ k d l. c.first_from-at.ensures.passed k d (omega arith) l) a (omega arith)

pub returns-else-below-end-clause-none : goal.returns-else-below-end-clause-none
returns-else-below-end-clause-none c = let e = c.index-entries-at.result in let es = c.args.entries.now in let at = c.first_from-at.result in let f = c.if-at-entries.false in let g = c.if-below-end.false in
    let p = ap (λ (x : Entry). x.place) c.index-entries-at.is in let n = ap (λ (x : Entry). length x.nodes) c.index-entries-at.is in let s = ap length c.as_slice.ensures in
    let r = Rises-above 0 es at e c.requires.rises (omega arith) in let m = c.max-below.ensures in
    λ q a b. node_in_log-between es c.args.place at q e c.requires.rises (omega arith) (λ k d l. c.first_from-at.ensures.passed k d (omega arith) l) a (omega arith)
