use Rattle.std.proofs.Common.{rules, inl}
use Rattle.std.proofs.lemmas.Result.{IfOk-weaker}
use Rattle.onll_areas.specs.Newest.{AreaHolds}
use Rattle.onll_live.specs.Eras.{AreaGives}
use Rattle.onll_live.proofs.Areas.{gives_since, none_given}
use Rattle.onll_live.proofs.finding.checkpoint_of.Goals as goal

pub returns-in_default-clause-found : goal.returns-in_default-clause-found
returns-in_default-clause-found g c =
    none_given (g.S.Store.seen c.args.store.now) c.args.name.now c.in_ok-size.field-0 c.in_ok-size.ensures.size (inl (search rules))

pub returns-clause-found : goal.returns-clause-found
returns-clause-found g c =
    let old = g.S.Store.seen c.args.store.now in
    let mid = g.S.Store.seen c.size.new.self in
    IfOk-weaker c.read_area.result (AreaHolds mid c.args.name.now) (AreaGives old c.args.name.now)
    (λ found h. gives_since old mid c.args.name.now found c.in_ok-size.ensures.same (inl h)) c.read_area.ensures.found
