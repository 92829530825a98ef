use Rattle.std.proofs.Common.{length, arith}
use Rattle.onll_open.specs.Names.{log_names}
use Rattle.onll_open.proofs.Handing.{others_on, same_after}
use Rattle.onll_open.proofs.Kept.{kept_start, kept_next, kept_low, keep_fails, hands_all}
use Rattle.onll_open.proofs.keeping.keep_devices.Goals as goal

pub loop-device-init : goal.loop-device-init
loop-device-init g c = kept_start g.S.Dev.Pmem.means c.args.logs.now c.args.devices.items c.reverse.new.self.items (g.S.Store.seen c.args.store.now) c.reverse.ensures.items

pub loop-device-preserved : goal.loop-device-preserved
loop-device-preserved g c =
    kept_next g.S.Dev.Pmem.means c.args.logs.now c.args.devices.items c.loop-device.devices.items c.pop.new.self.items c.in-Some.device c.loop-device.thread
    (g.S.Store.seen c.args.store.now) (g.S.Store.seen c.loop-device.store) (g.S.Store.seen c.keep_device.new.store) c.in-Some.ensures.items (omega arith) c.loop-device.invariant
    c.in-Ok.ensures.kept c.in-Ok.ensures.faults c.in-Ok.ensures.devices c.in-Ok.ensures.others

pub returns-in-Err-clause-others : goal.returns-in-Err-clause-others
returns-in-Err-clause-others g c =
    same_after (log_names c.args.logs.now 0 (length c.args.devices.items)) (g.S.Store.seen c.args.store.now) (g.S.Store.seen c.keep_device.new.store) (g.S.Store.seen c.give_up_all.new.store)
    (others_on (g.S.Store.seen c.args.store.now) (g.S.Store.seen c.loop-device.store) (g.S.Store.seen c.keep_device.new.store) c.args.logs.now (length c.args.devices.items) c.loop-device.thread
    (kept_low g.S.Dev.Pmem.means c.args.logs.now c.args.devices.items c.loop-device.devices.items c.pop.new.self.items c.in-Some.device c.loop-device.thread _ _ c.in-Some.ensures.items c.loop-device.invariant)
    c.loop-device.invariant.others c.in-Err.ensures.others)
    c.give_up_all.ensures.files

pub returns-in-Err-clause-failed : goal.returns-in-Err-clause-failed
returns-in-Err-clause-failed g c =
    keep_fails g.S.Dev.Pmem.means c.args.logs.now c.args.devices.items c.loop-device.devices.items c.pop.new.self.items c.in-Some.device c.loop-device.thread
    (g.S.Store.seen c.args.store.now) (g.S.Store.seen c.loop-device.store) (g.S.Store.seen c.keep_device.new.store) (g.S.Store.seen c.give_up_all.new.store) c.in-Err.fault c.in-Some.ensures.items (omega arith) c.loop-device.invariant
    c.in-Err.ensures.file c.in-Err.ensures.others c.give_up_all.ensures.files c.give_up_all.ensures.faults c.in-Err.ensures.faults

pub returns-in-Err-clause-handed : goal.returns-in-Err-clause-handed
returns-in-Err-clause-handed g c =
    hands_all g.S.Dev.Pmem.means c.args.logs.now c.args.devices.items c.loop-device.devices.items c.pop.new.self.items c.in-Some.device c.loop-device.thread
    (g.S.Store.seen c.args.store.now) (g.S.Store.seen c.loop-device.store) (g.S.Store.seen c.keep_device.new.store) (g.S.Store.seen c.give_up_all.new.store) c.in-Some.ensures.items c.loop-device.invariant c.in-Err.ensures.devices c.give_up_all.ensures.devices
