use Rattle.std.proofs.Common.{◌≡◌, ◌+◌, sym, ap, ◌∙◌, arith, List, Some, None}
use Rattle.onll_model.specs.Trace.{after_row}
use Rattle.onll_log.specs.Grammar.{Content}
use Rattle.onll_merge.specs.Merge.{clash_at, node_in_logs}
use Rattle.onll_merge.specs.Standing.{contents_under}
use Rattle.onll_merge.proofs.Known.{alike_at, applied_more}
use Rattle.onll_merge.proofs.Standings.{stand_higher}
use Rattle.onll_merge.proofs.applied.apply_places.Goals as goal

pub unreachable-requires : goal.unreachable-requires
unreachable-requires g c =
    let p = c.loop-below.below + 1 in
    let held = alike_at (contents_under c.args.readers.now) c.args.top p c.requires.alike (omega arith) (omega arith) in
    let node = sym c.in-Ok-None.field-0-is ∙ (c.in-Ok-None.ensures.node ∙ ap (λ (ls : List Content). node_in_logs ls p) c.loop-below.invariant.same) in
    let bad : None ≡ Some held.1.0 = node ∙ held.1.1 in
    absurd (cc)

pub unreachable-requires-in-Err : goal.unreachable-requires-in-Err
unreachable-requires-in-Err g c =
    let p = c.loop-below.below + 1 in
    let held = alike_at (contents_under c.args.readers.now) c.args.top p c.requires.alike (omega arith) (omega arith) in
    let clash = sym held.0 ∙ (sym (ap (λ (ls : List Content). clash_at ls p) c.loop-below.invariant.same) ∙ c.in-Err.ensures.clash) in
    let bad : None ≡ Some c.in-Err.field-0 = clash in
    absurd (cc)

pub loop-below-preserved : goal.loop-below-preserved
loop-below-preserved g c =
    let logs = contents_under c.args.readers.now in
    let below = c.loop-below.below in
    let same = c.loop-below.invariant.same in
    let node = sym c.in-Ok-Some.field-0-is ∙ (c.in-Ok-Some.ensures.node ∙ ap (λ (ls : List Content). node_in_logs ls (below + 1)) same) in
    record {
      object = c.apply_node.ensures ∙ (ap (λ s. after_row g.O.Object.means s (g.O.Object.means.op_at c.in-Ok-Some.node.row)) c.loop-below.invariant.object
          ∙ applied_more g.O.Object.means c.args.object.now logs below (below + 1) c.in-Ok-Some.node (omega arith) node);
      same = c.node_of_place.ensures.same ∙ same;
      below = stand_higher (below + 1) (below + 1 + 1) c.node_of_place.new.readers (omega arith) c.node_of_place.ensures.below;
    }
