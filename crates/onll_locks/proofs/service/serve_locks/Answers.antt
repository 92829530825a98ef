use Rattle.std.proofs.lemmas.Result.{IfOk-weaker}
use Rattle.onll_locks.proofs.Standing.{stand_closed}
use Rattle.onll_locks.proofs.service.serve_locks.Goals as goal

pub returns-clause-answers : goal.returns-clause-answers
returns-clause-answers g c = IfOk-weaker c.serve.result _ _ (λ s served h.
    stand_closed g.S.Dev.Pmem.means h.onll h.worked.ended.runs h.worked.afters c.args.name.now h.opened (g.S.Store.seen c.serve.new.store)
    s.kept h.worked.closed) c.serve.ensures.served
