use Rattle.std.proofs.Common.{[], ◌∷◌, ◌∙◌, sym, ap, subst}
use Rattle.onll_pmem.specs.Pmem.{DeviceView}
use Rattle.onll_log.specs.Head.{head_line}
use Rattle.onll_areas.proofs.KeptDevices.{HoldsDurable, was_kept, not_kept, given_up, header_alone, header_failed}
use Rattle.onll_areas.proofs.keeping.keep_header.Goals as goal

pub returns-in-Ok-keep-clause-ends : goal.returns-in-Ok-keep-clause-ends
returns-in-Ok-keep-clause-ends g c =
    let means = g.S.Dev.Pmem.means in let seen = g.S.Store.seen in let head = c.args.head in
    let m = c.in-Ok.ensures in let k = c.in-Ok-keep.ensures in
    let lines = header_alone (means c.in-Ok.device) (means c.in-Ok-make.log.device) head m.made c.in-Ok-make.ensures.made in
    let has = subst (λ (d : DeviceView). HoldsDurable d (head_line head ∷ []) 1) (ap means (sym c.into_device.ensures.device)) lines in
    was_kept c.args.name.now (head_line head ∷ []) 1 (seen c.args.store.now)
    (seen c.device.new.self) m.faults m.devices m.file m.others (seen c.keep.new.self) (means c.into_device.result) has
    (λ on. c.told_law.ensures c.into_device.result ∙ g.met.S.Store.devices_tell c.keep.new.self on) k.others k.devices k.kept k.faults

pub returns-in-Err-keep-clause-ends : goal.returns-in-Err-keep-clause-ends
returns-in-Err-keep-clause-ends g c =
    let means = g.S.Dev.Pmem.means in let seen = g.S.Store.seen in let head = c.args.head in
    let m = c.in-Ok.ensures in let k = c.in-Err-keep.ensures in
    let lines = header_alone (means c.in-Ok.device) (means c.in-Ok-make.log.device) head m.made c.in-Ok-make.ensures.made in
    let has = subst (λ (d : DeviceView). HoldsDurable d (head_line head ∷ []) 1) (ap means (sym c.into_device.ensures.device)) lines in
    not_kept c.args.name.now (head_line head ∷ []) 1 (seen c.args.store.now)
    (seen c.device.new.self) m.faults m.devices m.file m.others (seen c.keep.new.self) (means c.into_device.result) has
    (λ on. c.told_law.ensures c.into_device.result ∙ g.met.S.Store.devices_tell c.keep.new.self on) k.others k.devices c.in-Err-keep.fault k.file k.faults

pub returns-in-Err-make-clause-ends : goal.returns-in-Err-make-clause-ends
returns-in-Err-make-clause-ends g c =
    let means = g.S.Dev.Pmem.means in let seen = g.S.Store.seen in let head = c.args.head in
    let m = c.in-Ok.ensures in let u = c.give_up.ensures in
    given_up c.args.name.now (head_line head ∷ []) 1 (seen c.args.store.now)
    (seen c.device.new.self) m.faults m.devices m.file m.others (seen c.give_up.new.self) (means c.in-Err-make.unmade.device)
    (header_failed (means c.in-Ok.device) (means c.in-Err-make.unmade.device) c.in-Err-make.unmade.cause head m.made c.in-Err-make.ensures.refused)
    u.same u.faults u.devices
