use Rattle.std.proofs.Common.{◌∙◌}
use Rattle.onll_pmem.specs.Pmem.{words_of}
use Rattle.onll_live.proofs.Settled.{kept_alone, kept_begins, all_fresh}
use Rattle.std.proofs.lemmas.Result.{on_ok_weaker}
use Rattle.onll_live.proofs.settling.rewrite.Goals as goal

pub returns-clause-begins : goal.returns-clause-begins
returns-clause-begins g c =
    let means = g.S.Dev.Pmem.means in let seen = g.S.Store.seen in
    let r = c.in_ok-device.ensures in let k = c.keep.ensures in
    let fresh = all_fresh c.args.lines.now (means c.in_ok-device.device) r.made in
    kept_begins c.args.file.now (seen c.args.store.now) (seen c.reopen.new.self) (seen c.keep.new.self) (means c.in_ok-device.device) (words_of c.args.lines.now) fresh
    (λ on. c.told_law.ensures c.in_ok-device.device ∙ g.met.S.Store.devices_tell c.keep.new.self on) k.file r.others k.others r.file

pub returns-clause-alone : goal.returns-clause-alone
returns-clause-alone g c =
    let means = g.S.Dev.Pmem.means in let seen = g.S.Store.seen in
    let r = c.in_ok-device.ensures in let k = c.keep.ensures in
    let fresh = all_fresh c.args.lines.now (means c.in_ok-device.device) r.made in
    on_ok_weaker c.keep.result (λ kept. kept_alone c.args.file.now (seen c.args.store.now) (seen c.reopen.new.self) (seen c.keep.new.self) (means c.in_ok-device.device) (words_of c.args.lines.now) fresh
    (λ on. c.told_law.ensures c.in_ok-device.device ∙ g.met.S.Store.devices_tell c.keep.new.self on) k.file r.others k.others kept) k.kept
