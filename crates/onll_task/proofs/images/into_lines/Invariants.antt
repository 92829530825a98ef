use Rattle.std.proofs.Common.{◌≡◌, ◌++◌}
use Rattle.std.specs.Vec.Iter.{into_iter_items}
use Rattle.onll_task.specs.Images.{images_in}
use Rattle.onll_task.proofs.images.into_lines.Given as goal

-- the lines of the images before, and the images that are left
abbrev pub invariant-loop-image : goal.invariant-loop-image
invariant-loop-image l = images_in l.lines.items ++ into_iter_items l.image-iterator ≡ l.fn.images.items
