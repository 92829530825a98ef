use Rattle.std.proofs.Common.{◌+◌, ap, ◌∙◌}
use Rattle.onll_text.proofs.KindList.{name_in_more}
use Rattle.onll_text.proofs.any_object.object_name.Goals as goal

-- src/any_object.rt:57:5
pub loop-name-preserved : goal.loop-name-preserved
loop-name-preserved c = record {
  left = name_in_more _ _ c.loop-name.name-index c.loop-name-test.true c.loop-name.next c.args.code c.if-code-next.false ∙ c.loop-name.invariant.left;
  next = ap (λ n. n + 1) c.loop-name.invariant.next;
}
