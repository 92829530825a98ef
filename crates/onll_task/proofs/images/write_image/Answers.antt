use Rattle.std.specs.Cow.{cow_slice_items}
use Rattle.std.proofs.Common.{subst}
use Rattle.onll_pmem.specs.Pmem.{words_of}
use Rattle.onll_task.specs.Images.{Decides}
use Rattle.onll_task.proofs.Staying.{stands_front}
use Rattle.onll_task.proofs.images.write_image.Goals as goal

pub returns-in-Ok-clause-stands : goal.returns-in-Ok-clause-stands
returns-in-Ok-clause-stands g c =
    let image = c.of_lines.result in
    let lines = c.in_ok-lines.lines in
    subst (Decides image) c.in_ok-lines.ensures.same
    (stands_front image (words_of (cow_slice_items lines)) c.args.count c.in_ok-lines.ensures.some c.of_lines.ensures)
