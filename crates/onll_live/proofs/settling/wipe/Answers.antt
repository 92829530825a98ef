use Rattle.std.proofs.Common.{◌∙◌}
use Rattle.onll_pmem.specs.Device.{zero_lines}
use Rattle.onll_live.proofs.Settled.{kept_alone, kept_zeros, zero_bytes, zeros_whole}
use Rattle.std.proofs.lemmas.Result.{on_ok_weaker}
use Rattle.onll_live.proofs.settling.wipe.Goals as goal

pub returns-clause-zeros : goal.returns-clause-zeros
returns-clause-zeros g c =
    let means = g.S.Dev.Pmem.means in let seen = g.S.Store.seen in
    let m = c.in_ok-device.ensures in let k = c.keep.ensures in
    kept_zeros c.args.file.now (seen c.args.store.now) (seen c.device.new.self) (seen c.keep.new.self) (means c.in_ok-device.device) (zero_lines 1) m.made
    (λ on. c.told_law.ensures c.in_ok-device.device ∙ g.met.S.Store.devices_tell c.keep.new.self on) k.file m.others k.others zero_bytes m.file

pub returns-clause-wiped : goal.returns-clause-wiped
returns-clause-wiped g c =
    let means = g.S.Dev.Pmem.means in let seen = g.S.Store.seen in
    let m = c.in_ok-device.ensures in let k = c.keep.ensures in
    on_ok_weaker c.keep.result (λ kept. zeros_whole (seen c.keep.new.self) c.args.file.now
    (kept_alone c.args.file.now (seen c.args.store.now) (seen c.device.new.self) (seen c.keep.new.self) (means c.in_ok-device.device) (zero_lines 1) m.made
    (λ on. c.told_law.ensures c.in_ok-device.device ∙ g.met.S.Store.devices_tell c.keep.new.self on) k.file m.others k.others kept)) k.kept
