use Rattle.std.proofs.Common.{sym}
use Rattle.onll_threads.specs.Acts.{calls_of, ends_of, seen_in}
use Rattle.onll_threads.proofs.Sitting.{acts_at, done_more}
use Rattle.onll_threads.proofs.seat.Seat.update.Goals as goal

pub invariant_of-self : goal.invariant_of-self
invariant_of-self g c =
    done_more g.O.Object.means g.P.Pmem.means g.B.Begun.first (calls_of c.args.op c.update_on.result)
    (ends_of (seen_in c.update_on.new.pass) c.update_on.result) c.self.inside.at.now.onll c.self.inside.pass
    c.update_on.new.pass c.self.invariant c.update_on.ensures.acts

pub returns-clause-acts : goal.returns-clause-acts
returns-clause-acts g c =
    acts_at g.O.Object.means g.P.Pmem.means g.B.Begun.first (calls_of c.args.op c.update_on.result)
    (ends_of (seen_in c.update_on.new.pass) c.update_on.result) c.self.inside.at.now.onll c.self.inside.pass
    c.update_on.new.pass c.args.self.now (sym c.self.view_is) c.update_on.ensures.acts
