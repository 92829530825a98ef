use Rattle.onll_threads.proofs.Sitting.{done_none}
use Rattle.onll_threads.proofs.job.sit.Goals as goal

pub invariant_of-seat : goal.invariant_of-seat
invariant_of-seat g c =
    done_none g.O.Object.means g.P.Pmem.means g.B.Begun.first c.args.at.now.onll c.args.pass c.requires.first c.requires.unused
