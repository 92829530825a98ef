use Rattle.std.proofs.Common.{rules, sym, ◌∙◌, subst}
use Rattle.onll_live.specs.Eras.{area_name}
use Rattle.onll_live.specs.Faults.{IsSettleFault}
use Rattle.onll_live.proofs.FaultSteps.{unkept_settles, unread_settles}
use Rattle.onll_live.proofs.Areas.{same_keeps}
use Rattle.onll_live.proofs.Settled.{untorn_there, zeros_keep}
use Rattle.onll_live.specs.Settled.{IsUntorn}
use Rattle.onll_live.proofs.settling.settle_other.Goals as goal

pub returns-in-Ok-false-clause-kept : goal.returns-in-Ok-false-clause-kept
returns-in-Ok-false-clause-kept g c = same_keeps (g.S.Store.seen c.args.store.now) (g.S.Store.seen c.is_torn.new.store) (area_name c.args.name.now c.args.area) c.in-Ok-false.ensures.same

pub returns-in-Err-clause-kept : goal.returns-in-Err-clause-kept
returns-in-Err-clause-kept g c = same_keeps (g.S.Store.seen c.args.store.now) (g.S.Store.seen c.is_torn.new.store) (area_name c.args.name.now c.args.area) c.in-Err.ensures.same

pub returns-in-Ok-clause-kept : goal.returns-in-Ok-clause-kept
returns-in-Ok-clause-kept g c =
    let seen = g.S.Store.seen in let r = c.in-Ok-true.ensures in let w = c.in-Ok.ensures in
    zeros_keep (seen c.args.store.now) (seen c.is_torn.new.store) (seen c.wipe.new.store) (area_name c.args.name.now c.args.area) c.deref.result.now c.deref-2.result.now r.same
    (c.deref.ensures ∙ c.in_ok-file.ensures) (c.deref-2.ensures ∙ c.in_ok-file.ensures) (r.torn (search rules)) w.others w.zeros

pub returns-clause-kept : goal.returns-clause-kept
returns-clause-kept g c =
    let seen = g.S.Store.seen in let r = c.in-Ok-true.ensures in let w = c.in-Err-wipe.ensures in
    zeros_keep (seen c.args.store.now) (seen c.is_torn.new.store) (seen c.wipe.new.store) (area_name c.args.name.now c.args.area) c.deref.result.now c.deref-2.result.now r.same
    (c.deref.ensures ∙ c.in_ok-file.ensures) (c.deref-2.ensures ∙ c.in_ok-file.ensures) (r.torn (search rules)) w.others w.zeros

pub returns-in-Ok-false-clause-untorn : goal.returns-in-Ok-false-clause-untorn
returns-in-Ok-false-clause-untorn g c =
    let seen = g.S.Store.seen in let r = c.in-Ok-false.ensures in
    untorn_there (seen c.args.store.now) (seen c.is_torn.new.store) c.deref.result.now (area_name c.args.name.now c.args.area) r.same (c.deref.ensures ∙ c.in_ok-file.ensures) (r.untorn (search rules))

pub returns-in-Ok-clause-untorn : goal.returns-in-Ok-clause-untorn
returns-in-Ok-clause-untorn g c = subst (λ n. IsUntorn (g.S.Store.seen c.wipe.new.store) n) (c.deref-2.ensures ∙ c.in_ok-file.ensures) c.in-Ok.ensures.wiped

pub returns-in-Err-clause-refused : goal.returns-in-Err-clause-refused
returns-in-Err-clause-refused g c = subst IsSettleFault (sym c.not_read.ensures) (unread_settles c.args.area c.in-Err.fault)

pub returns-clause-refused : goal.returns-clause-refused
returns-clause-refused g c = subst IsSettleFault (sym c.not_settled.ensures) (unkept_settles c.args.area c.in-Err-wipe.fault)
