use Rattle.std.proofs.Common.{rules, ◌≡◌, ◌∷◌, ◌<◌, ◌≤◌, [], length, refl, ap, arith, length-append}
use Rattle.onll_run.proofs.Headers.{device_left, base_left, logs_many, can_here, log_more, header_fails, logs_open}
use Rattle.onll_run.proofs.logs.open_logs.Goals as goal

pub unreachable-requires : goal.unreachable-requires
unreachable-requires g c =
    let low : 1 ≤ length c.loop-thread.devices.items = device_left g.P.Pmem.means c.args.heads.now c.args.base.now c.args.devices.items c.requires c.loop-thread.logs.items c.loop-thread.thread c.loop-thread.devices.items c.loop-thread.invariant.opened c.loop-thread-test.true in
    search (rules, low, arith)

pub bounds-base-thread : goal.bounds-base-thread
bounds-base-thread g c = base_left g.P.Pmem.means c.args.heads.now c.args.base.now c.args.devices.items c.requires c.loop-thread.logs.items c.loop-thread.thread c.loop-thread.devices.items c.loop-thread.invariant.opened c.loop-thread-test.true

pub open_log-requires : goal.open_log-requires
open_log-requires g c = can_here g.P.Pmem.means c.args.heads.now c.args.base.now c.args.devices.items c.requires c.loop-thread.logs.items c.loop-thread.thread c.loop-thread.devices.items c.loop-thread.invariant.opened c.loop-thread-test.true
    _ (record { thread = 0; threads = 0; object = 0; digest = []; format = 0 }) refl c.index-base-thread.result c.index-base-thread.is c.pop.new.self.items c.in-Some.device c.in-Some.ensures.items

pub push_reserved-requires : goal.push_reserved-requires
push_reserved-requires g c =
    let many : length c.loop-thread.logs.items ≡ c.loop-thread.thread = logs_many g.P.Pmem.means c.args.heads.now c.args.base.now c.args.devices.items c.requires c.loop-thread.logs.items c.loop-thread.thread c.loop-thread.devices.items c.loop-thread.invariant.opened c.loop-thread-test.true in
    let low : c.loop-thread.thread < length c.args.heads.now = c.loop-thread-test.true in
    let room = c.loop-thread.invariant.logs_room in
    search (rules, many, low, room, arith)

pub loop-thread-preserved : goal.loop-thread-preserved
loop-thread-preserved g c = record {
  opened = log_more g.P.Pmem.means c.args.heads.now c.args.base.now c.args.devices.items c.requires c.loop-thread.logs.items c.loop-thread.thread c.loop-thread.devices.items c.loop-thread.invariant.opened c.loop-thread-test.true
      _ (record { thread = 0; threads = 0; object = 0; digest = []; format = 0 }) refl c.index-base-thread.result c.index-base-thread.is c.pop.new.self.items c.in-Some.device c.in-Some.ensures.items
      c.in-Ok.log _ c.in-Ok.ensures.open c.push_reserved.ensures.items;
  logs_room = let k = c.push_reserved.ensures.capacity in let r = c.loop-thread.invariant.logs_room in omega arith;
  room = let a = ap length c.in-Some.ensures.items in let b = ap length c.push_reserved.ensures.items in let r = c.loop-thread.invariant.room in let k = c.in-Some.ensures.capacity in
      omega (arith, length-append c.pop.new.self.items (c.in-Some.device ∷ []), length-append c.loop-thread.logs.items (c.in-Ok.log ∷ []));
}

pub returns-in-Err-clause-refused : goal.returns-in-Err-clause-refused
returns-in-Err-clause-refused g c = header_fails g.P.Pmem.means c.args.heads.now c.args.base.now c.args.devices.items c.requires c.loop-thread.logs.items c.loop-thread.thread c.loop-thread.devices.items c.loop-thread.invariant.opened c.loop-thread-test.true
    _ (record { thread = 0; threads = 0; object = 0; digest = []; format = 0 }) refl c.index-base-thread.result c.index-base-thread.is c.pop.new.self.items c.in-Some.device c.in-Some.ensures.items
    c.in-Err.failed _ c.in-Err.ensures.failed c.devices_back-devices.ensures

pub returns-clause-open : goal.returns-clause-open
returns-clause-open g c =
    let end : c.loop-thread.thread ≡ length c.args.heads.now = search (rules, arith) in
    logs_open g.P.Pmem.means c.args.heads.now c.args.base.now c.args.devices.items c.loop-thread.logs.items c.loop-thread.thread c.loop-thread.devices.items c.requires end c.loop-thread.invariant.opened
