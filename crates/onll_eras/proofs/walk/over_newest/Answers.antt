use Rattle.std.proofs.Common.{ℕ, ◌∙◌, ap}
use Rattle.std.specs.Prelude.{◌%◌}
use Rattle.onll_open.specs.Names.{log_name}
use Rattle.onll_task.proofs.Stages.{none_does}
use Rattle.onll_eras.specs.EraCall.{call_next, call_work}
use Rattle.onll_eras.specs.EraJob.{era_task}
use Rattle.onll_eras.specs.Names.{names_of}
use Rattle.onll_eras.proofs.Asking.{some_does, first_does, object_does}
use Rattle.onll_eras.proofs.walk.over_newest.Goals as goal

pub returns-in_err-area-in-Some : goal.returns-in_err-area-in-Some
returns-in_err-area-in-Some g c =
    none_does (call_work c.args.call).writes (g.S.Store.seen c.args.store.now)
    (era_task (names_of c.args.call.files) c.args.first.text.items c.args.call.threads c.args.first.object c.args.newest (call_next c.args.call)) c.from_residual.ensures.1

pub returns-in-Some : goal.returns-in-Some
returns-in-Some g c =
    let names = names_of c.args.call.files in
    let area = c.in_ok-area-in-Some.ensures ∙ ap (λ (n : ℕ). log_name names.ckpt (n % 2)) c.number.ensures in
    some_does (call_work c.args.call).writes (g.S.Store.seen c.args.store.now) (g.S.Store.seen c.over_text.new.store) names c.args.first.text.items c.args.call.threads c.args.first.object
    (call_next c.args.call) c.args.newest c.over_text.result c.in-Some.checkpoint c.text.result.now c.deref.result.now c.deref-in-Some.result.now c.in-Some.is c.text.ensures.text
    (c.deref.ensures ∙ area) (c.deref-in-Some.ensures ∙ area) c.over_text.ensures

pub returns : goal.returns
returns g c =
    let names = names_of c.args.call.files in
    first_does (call_work c.args.call).writes (g.S.Store.seen c.args.store.now) (g.S.Store.seen c.over_any.new.store) names c.args.first.text.items c.args.call.threads c.args.first.object
    (call_next c.args.call) c.args.newest c.over_any.result c.deref-in-None.result.now c.in-None.is c.deref-in-None.ensures.value
    (object_does c.args.call _ (g.S.Store.seen c.args.store.now) (g.S.Store.seen c.over_any.new.store) c.over_any.result c.args.first.object c.over_any.ensures)
