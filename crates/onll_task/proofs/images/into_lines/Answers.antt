use Rattle.std.proofs.Common.{◌∙◌, rules}
use Rattle.std.specs.Vec.Iter.{into_iter_items}
use Rattle.onll_task.proofs.ImageFiles.{lines_more}
use Rattle.onll_task.proofs.images.into_lines.Goals as goal

pub loop-image-preserved : goal.loop-image-preserved
loop-image-preserved c =
    lines_more c.loop-image.lines.items c.push.new.self.items c.in_ok-into_lines.field-0 c.in-Some.image (into_iter_items c.next.new.self) (into_iter_items c.loop-image.image-iterator)
    (search rules) c.in_ok-into_lines.ensures c.in-Some.ensures.steps.0 ∙ c.loop-image.invariant
