use Rattle.std.proofs.Common.{[], ◌∷◌, map, take, get_or, sym, ap, ◌∙◌, subst, arith}
use Rattle.std.specs.List.{AllByRecursion}
use Rattle.std.proofs.lemmas.List.{map-append, take_all, take_more}
use Rattle.onll_model.proofs.Lists.{all_append}
use Rattle.onll_pmem.specs.Pmem.{DeviceView}
use Rattle.onll_outside.specs.LineFiles.{IsWholeLine}
use Rattle.onll_open.specs.Keeping.{AreWhole}
use Rattle.onll_open.proofs.keeping.whole_devices.Goals as goal

pub loop-device-preserved : goal.loop-device-preserved
loop-device-preserved g c =
    let means = g.P.Pmem.means in
    let devices = c.args.devices.now in
    let i = c.loop-device.device-index in
    let d = c.device-item.result in
    let Whole = λ (v : DeviceView). AllByRecursion IsWholeLine v.read in
    let more = ap (map means) (take_more devices i d (omega arith)) ∙ map-append means (take i devices) (get_or devices i d ∷ []) in
    let here = subst (λ x. Whole (means x)) c.device-item.is c.whole_lines.ensures in
    subst AreWhole (sym more) (all_append Whole (map means (take i devices)) (means (get_or devices i d) ∷ []) c.loop-device.invariant (here, tt))

pub returns : goal.returns
returns g c =
    let devices = c.args.devices.now in
    subst (λ ds. AreWhole (map g.P.Pmem.means ds)) (take_all c.loop-device.device-index devices (omega arith)) c.loop-device.invariant
