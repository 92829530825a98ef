use Rattle.std.proofs.Common.{◌∙◌}
use Rattle.onll_text.proofs.KindList.{kind_in_more}
use Rattle.onll_text.proofs.any_object.read_kind.Goals as goal

-- src/any_object.rt:44:5
pub loop-kind-preserved : goal.loop-kind-preserved
loop-kind-preserved c =
    kind_in_more _ _ c.loop-kind.kind-index _ c.loop-kind-test.true c.args.word.now c.is_text.result c.is_text.ensures c.if-is_text.false ∙ c.loop-kind.invariant
