use Rattle.std.proofs.Common.{◌≡◌, Some}
use Rattle.std.proofs.lemmas.Result.{IfErr-weaker, IfOk-weaker}
use Rattle.onll_live.specs.Eras.{IsInEra, era_of}
use Rattle.onll_live.specs.Faults.{CannotFind, IsBadState}
use Rattle.onll_live.proofs.FaultSteps.{bad_refused}
use Rattle.onll_live.proofs.finding.find_era.Goals as goal

pub returns-clause-found : goal.returns-clause-found
returns-clause-found g c =
    let read_of = g.O.Saved.read_of in
    let store = g.S.Store.seen c.args.store.now in
    IfOk-weaker c.era_from.result (λ era. era_of read_of c.args.object c.in_ok-found.found ≡ Some era) (IsInEra read_of c.args.object store c.args.name.now)
    (λ era h. record { newest = c.in_ok-found.found; given = c.in_ok-found.ensures.found; era_is = h }) c.era_from.ensures.found

pub returns-clause-refused : goal.returns-clause-refused
returns-clause-refused g c =
    let read_of = g.O.Saved.read_of in
    let store = g.S.Store.seen c.args.store.now in
    IfErr-weaker c.era_from.result (IsBadState read_of c.in_ok-found.found) (CannotFind read_of store c.args.name.now)
    (λ fault h. bad_refused read_of store c.args.name.now c.in_ok-found.found fault c.in_ok-found.ensures.found h) c.era_from.ensures.refused
