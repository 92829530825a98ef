use Rattle.std.proofs.Common.{map, ◌∙◌}
use Rattle.std.proofs.lemmas.Result.{on_ok_weaker, IfErr-weaker}
use Rattle.onll_open.specs.Keeping.{KeepFails}
use Rattle.onll_open.proofs.Handing.{faults_more, same_after}
use Rattle.onll_open.proofs.Kept.{kept_same, fails_then, handed_then}
use Rattle.onll_open.proofs.keeping.keep_and_unlock.Goals as goal

pub returns-clause-kept : goal.returns-clause-kept
returns-clause-kept g c =
    let ds = map g.S.Dev.Pmem.means c.args.devices.items in
    let mid = g.S.Store.seen c.keep_devices-kept.new.store in
    on_ok_weaker c.keep_devices-kept.result (kept_same c.args.logs.now 0 ds mid (g.S.Store.seen c.unlock_logs.new.store) c.unlock_logs.ensures.same) c.keep_devices-kept.ensures.kept

pub returns-clause-faults : goal.returns-clause-faults
returns-clause-faults g c =
    let old = g.S.Store.seen c.args.store.now in
    let mid = g.S.Store.seen c.keep_devices-kept.new.store in
    on_ok_weaker c.keep_devices-kept.result (λ h. faults_more old mid (g.S.Store.seen c.unlock_logs.new.store) h c.unlock_logs.ensures.faults) c.keep_devices-kept.ensures.faults

pub returns-clause-failed : goal.returns-clause-failed
returns-clause-failed g c =
    let ds = map g.S.Dev.Pmem.means c.args.devices.items in
    let logs = c.args.logs.now in
    let old = g.S.Store.seen c.args.store.now in
    let mid = g.S.Store.seen c.keep_devices-kept.new.store in
    let new = g.S.Store.seen c.unlock_logs.new.store in
    IfErr-weaker c.keep_devices-kept.result (λ e. KeepFails logs ds old mid e.thread e.fault) (λ e. KeepFails logs ds old new e.thread e.fault)
    (λ e h. fails_then logs ds old mid new e.thread e.fault c.unlock_logs.ensures.same c.unlock_logs.ensures.faults h) c.keep_devices-kept.ensures.failed

pub returns-clause-handed : goal.returns-clause-handed
returns-clause-handed g c =
    let ds = map g.S.Dev.Pmem.means c.args.devices.items in
    handed_then ds (g.S.Store.seen c.args.store.now) (g.S.Store.seen c.keep_devices-kept.new.store) (g.S.Store.seen c.unlock_logs.new.store) c.unlock_logs.ensures.devices c.keep_devices-kept.ensures.handed

pub returns-clause-others : goal.returns-clause-others
returns-clause-others g c =
    same_after _ (g.S.Store.seen c.args.store.now) (g.S.Store.seen c.keep_devices-kept.new.store) (g.S.Store.seen c.unlock_logs.new.store) c.keep_devices-kept.ensures.others c.unlock_logs.ensures.same

pub returns-clause-free : goal.returns-clause-free
returns-clause-free g c on = c.unlock_logs.ensures.free (c.keep_devices-kept.ensures.others.tells ∙ on)
