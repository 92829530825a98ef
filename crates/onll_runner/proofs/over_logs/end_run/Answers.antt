use Rattle.std.proofs.Common.{length, map, refl, sym, ap, ◌∙◌, arith}
use Rattle.std.proofs.lemmas.List.{length-map}
use Rattle.std.specs.List.{list_any}
use Rattle.onll_log.specs.Log.{LogState}
use Rattle.onll_merge.specs.Merge.{contents_in}
use Rattle.onll_run.specs.Making.{device_of}
use Rattle.onll_run.specs.Ran.{script_in, ends_in}
use Rattle.onll_runner.proofs.Keeping.{kept_many, none_broken, some_broken}
use Rattle.onll_runner.proofs.Ending.{ended_whole, ended_broken, ended_unkept, stored_by, stored_to, others_many}
use Rattle.onll_runner.proofs.over_logs.end_run.Goals as goal

pub keep_devices-requires-after_bounds : goal.keep_devices-requires-after_bounds
keep_devices-requires-after_bounds g c κs within =
    let mapped = ap length c.in_ok-devices.ensures in
    let long = length-map c.args.ran.logs.items device_of in
    let many = kept_many g.S.Dev.Pmem.means (contents_in c.args.base.now) (map ends_in c.args.ran.threads.items) c.requires.kept.0 c.args.ran.logs.items c.requires.kept.1 in
    let ends = length-map c.args.ran.threads.items ends_in in
    let few = c.requires.few in
    omega (arith, mapped, long, many, ends, few)

pub returns-in-Ok : goal.returns-in-Ok
returns-in-Ok g c =
    let means = g.S.Dev.Pmem.means in
    let scripts = length-map c.args.ran.threads.items script_in in
    let ends = length-map c.args.ran.threads.items ends_in in
    let some = c.requires.some in
    ended_broken _ _ (g.S.Store.seen c.args.store.now) (g.S.Store.seen c.keep_devices.new.store) c.in_ok-report.report
    (stored_by c.image_laws.ensures.same means _ _ c.requires.kept.0 c.args.ran.logs.items (g.S.Store.seen c.args.store.now) (g.S.Store.seen c.keep_devices.new.store) refl (omega (arith, scripts, some)) (ends ∙ sym scripts) c.requires.kept.1
    c.in_ok-report.ensures.whole c.requires.small c.in_ok-devices.devices.items c.in_ok-devices.ensures (λ on d. c.told_law.ensures d ∙ g.met.S.Store.devices_tell c.keep_devices.new.store on) c.in-Ok.ensures.kept c.in-Ok.ensures.faults c.in-Ok.ensures.handed c.keep_devices.ensures.others)
    (some_broken means (contents_in c.args.base.now) (map ends_in c.args.ran.threads.items) c.requires.kept.0 c.args.ran.logs.items c.requires.kept.1 (ap (list_any (λ (log : LogState _). log.broken)) (sym c.deref-3.ensures.value) ∙ sym c.is_broken-broken.ensures ∙ c.if-broken.true))
    (rw c.deref.ensures.value at (rw c.resumed_by-resumed.ensures at c.in_ok-report.ensures.report)) (rw c.deref.ensures.value at (rw c.resumed_by-resumed.ensures at c.in_ok-report.ensures.reads))
    (others_many means (contents_in c.args.base.now) (map ends_in c.args.ran.threads.items) c.requires.kept.0 c.args.ran.logs.items c.args.ran.threads.items c.in_ok-devices.devices.items c.args.ground.now.logs.now (g.S.Store.seen c.args.store.now) (g.S.Store.seen c.keep_devices.new.store)
    script_in ends c.in_ok-devices.ensures c.requires.kept.1 c.keep_devices.ensures.others)

pub returns-in-Ok-2 : goal.returns-in-Ok-2
returns-in-Ok-2 g c =
    let means = g.S.Dev.Pmem.means in
    let scripts = length-map c.args.ran.threads.items script_in in
    let ends = length-map c.args.ran.threads.items ends_in in
    let some = c.requires.some in
    ended_whole _ _ (g.S.Store.seen c.args.store.now) (g.S.Store.seen c.keep_devices.new.store) c.in_ok-report.report
    (stored_by c.image_laws.ensures.same means _ _ c.requires.kept.0 c.args.ran.logs.items (g.S.Store.seen c.args.store.now) (g.S.Store.seen c.keep_devices.new.store) refl (omega (arith, scripts, some)) (ends ∙ sym scripts) c.requires.kept.1
    c.in_ok-report.ensures.whole c.requires.small c.in_ok-devices.devices.items c.in_ok-devices.ensures (λ on d. c.told_law.ensures d ∙ g.met.S.Store.devices_tell c.keep_devices.new.store on) c.in-Ok.ensures.kept c.in-Ok.ensures.faults c.in-Ok.ensures.handed c.keep_devices.ensures.others)
    (none_broken means (contents_in c.args.base.now) (map ends_in c.args.ran.threads.items) c.requires.kept.0 c.args.ran.logs.items c.requires.kept.1 (ap (list_any (λ (log : LogState _). log.broken)) (sym c.deref-3.ensures.value) ∙ sym c.is_broken-broken.ensures ∙ c.if-broken.false))
    (rw c.deref.ensures.value at (rw c.resumed_by-resumed.ensures at c.in_ok-report.ensures.report)) (rw c.deref.ensures.value at (rw c.resumed_by-resumed.ensures at c.in_ok-report.ensures.reads))
    (others_many means (contents_in c.args.base.now) (map ends_in c.args.ran.threads.items) c.requires.kept.0 c.args.ran.logs.items c.args.ran.threads.items c.in_ok-devices.devices.items c.args.ground.now.logs.now (g.S.Store.seen c.args.store.now) (g.S.Store.seen c.keep_devices.new.store)
    script_in ends c.in_ok-devices.ensures c.requires.kept.1 c.keep_devices.ensures.others)

pub returns : goal.returns
returns g c =
    let means = g.S.Dev.Pmem.means in
    let scripts = length-map c.args.ran.threads.items script_in in
    let ends = length-map c.args.ran.threads.items ends_in in
    let some = c.requires.some in
    ended_unkept _ _ (g.S.Store.seen c.args.store.now) (g.S.Store.seen c.keep_devices.new.store) c.not_kept.result
    (stored_to c.image_laws.ensures.same means _ _ c.requires.kept.0 c.args.ran.logs.items (g.S.Store.seen c.args.store.now) (g.S.Store.seen c.keep_devices.new.store) refl (omega (arith, scripts, some)) (ends ∙ sym scripts) c.requires.kept.1
    c.in_ok-report.ensures.whole c.requires.small c.in_ok-devices.devices.items c.in_ok-devices.ensures (λ on d. c.told_law.ensures d ∙ g.met.S.Store.devices_tell c.keep_devices.new.store on)
    c.not_kept.result c.in-Err.fault.thread c.in-Err.fault.fault c.not_kept.ensures c.in-Err.ensures.failed c.in-Err.ensures.handed c.in-Err.ensures.others)
    (others_many means (contents_in c.args.base.now) (map ends_in c.args.ran.threads.items) c.requires.kept.0 c.args.ran.logs.items c.args.ran.threads.items c.in_ok-devices.devices.items c.args.ground.now.logs.now (g.S.Store.seen c.args.store.now) (g.S.Store.seen c.keep_devices.new.store)
    script_in ends c.in_ok-devices.ensures c.requires.kept.1 c.in-Err.ensures.others)
