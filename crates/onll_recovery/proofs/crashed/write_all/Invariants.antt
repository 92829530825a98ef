use Rattle.std.proofs.Common.{take}
use Rattle.onll_core.specs.Crash.{images_of}
use Rattle.onll_task.specs.Images.{AllDecide}
use Rattle.onll_task.proofs.Onwards.{WroteSo}
use Rattle.onll_recovery.proofs.crashed.write_all.Given as goal

-- the images of the threads before were written, and lines that stand for them are kept
abbrev pub invariant-loop-thread : goal.invariant-loop-thread
invariant-loop-thread g l =
    let images = images_of l.keep l.core.threads in
    record {
      so : WroteSo (g.S.Store.seen l.fn.store) (g.S.Store.seen l.store) l.logs images l.thread;
      stand : AllDecide l.kept.items (take l.thread images);
    }
