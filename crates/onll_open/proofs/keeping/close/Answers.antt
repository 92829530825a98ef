use Rattle.std.proofs.Common.{map, ap, ◌∙◌, subst}
use Rattle.onll_outside.specs.Views.{HandsEach}
use Rattle.onll_run.specs.Making.{device_of}
use Rattle.onll_open.specs.Keeping.{AreKept, AreWhole, KeepFails}
use Rattle.onll_open.proofs.Kept.{devices_are}
use Rattle.onll_open.proofs.keeping.close.Goals as goal

pub returns-in-Ok-keep_and_unlock-clause-kept : goal.returns-in-Ok-keep_and_unlock-clause-kept
returns-in-Ok-keep_and_unlock-clause-kept g c =
    let means = g.S.Dev.Pmem.means in
    let same = ap (map means) (c.devices_of-devices.ensures ∙ ap (map device_of) c.in-Ok-end.ensures.logs) ∙ devices_are means c.args.passes.items in
    subst (λ ds. AreKept c.args.logs.now 0 ds (g.S.Store.seen c.keep_and_unlock.new.store)) same c.in-Ok-keep_and_unlock.ensures.kept

pub returns-in-Ok-keep_and_unlock-clause-handed : goal.returns-in-Ok-keep_and_unlock-clause-handed
returns-in-Ok-keep_and_unlock-clause-handed g c =
    let means = g.S.Dev.Pmem.means in
    let same = ap (map means) (c.devices_of-devices.ensures ∙ ap (map device_of) c.in-Ok-end.ensures.logs) ∙ devices_are means c.args.passes.items in
    subst (λ ds. HandsEach ds (g.S.Store.seen c.args.store.now) (g.S.Store.seen c.keep_and_unlock.new.store)) same c.in-Ok-keep_and_unlock.ensures.handed

pub returns-in-Ok-keep_and_unlock-clause-whole : goal.returns-in-Ok-keep_and_unlock-clause-whole
returns-in-Ok-keep_and_unlock-clause-whole g c =
    let means = g.S.Dev.Pmem.means in
    let same = ap (map means) (c.devices_of-devices.ensures ∙ ap (map device_of) c.in-Ok-end.ensures.logs) ∙ devices_are means c.args.passes.items in
    subst AreWhole (ap (map means) c.deref.ensures.value ∙ same) c.whole_devices.ensures

pub returns-in-Ok-end-clause-refused : goal.returns-in-Ok-end-clause-refused
returns-in-Ok-end-clause-refused g c =
    let means = g.S.Dev.Pmem.means in
    let old = g.S.Store.seen c.args.store.now in
    let new = g.S.Store.seen c.keep_and_unlock.new.store in
    let fault = c.in-Err-keep_and_unlock.fault in
    let same = ap (map means) (c.devices_of-devices.ensures ∙ ap (map device_of) c.in-Ok-end.ensures.logs) ∙ devices_are means c.args.passes.items in (
      subst (λ ds. KeepFails c.args.logs.now ds old new fault.thread fault.fault) same c.in-Err-keep_and_unlock.ensures.failed,
      subst (λ ds. HandsEach ds old new) same c.in-Err-keep_and_unlock.ensures.handed,
      c.in-Ok-end.ensures.closed,
    )
