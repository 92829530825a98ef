use Rattle.onll_shared.proofs.Marked.{marks_next}
use Rattle.onll_shared.proofs.found.mark_images.Goals as goal

pub loop-thread-preserved : goal.loop-thread-preserved
loop-thread-preserved c = marks_next c.args.images.now c.loop-thread.thread c.index-images-thread.result c.loop-thread.marks.items c.mark_image.new.marks.items _
    c.loop-thread-test.true c.index-images-thread.is c.loop-thread.invariant c.in_ok-mark_image.ensures
