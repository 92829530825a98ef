use Rattle.std.proofs.Common.{sym, [], ◌∷◌}
use Rattle.onll_model.specs.declared.call.Call.TheVariants.{Ask}
use Rattle.onll_model.specs.declared.call.CallEnd.TheVariants.{Answered}
use Rattle.onll_threads.specs.Acts.{seen_in}
use Rattle.onll_threads.proofs.Sitting.{acts_at, done_more}
use Rattle.onll_threads.proofs.seat.Seat.read.Goals as goal

pub invariant_of-self : goal.invariant_of-self
invariant_of-self g c =
    done_more g.O.Object.means g.P.Pmem.means g.B.Begun.first (Ask c.args.query ∷ [])
    (Answered c.read_on.result (seen_in c.read_on.new.pass) ∷ []) c.self.inside.at.now.onll c.self.inside.pass
    c.read_on.new.pass c.self.invariant c.read_on.ensures.acts

pub returns-clause-acts : goal.returns-clause-acts
returns-clause-acts g c =
    acts_at g.O.Object.means g.P.Pmem.means g.B.Begun.first (Ask c.args.query ∷ [])
    (Answered c.read_on.result (seen_in c.read_on.new.pass) ∷ []) c.self.inside.at.now.onll c.self.inside.pass
    c.read_on.new.pass c.args.self.now (sym c.self.view_is) c.read_on.ensures.acts
