use Rattle.std.proofs.Common.{List, ℕ, ◌∙◌, ap, subst, length}
use Rattle.onll_pmem.specs.Device.{zero_lines}
use Rattle.onll_outside.specs.Views.{IsFresh}
use Rattle.onll_checkpoint.specs.Text.{lines_for}
use Rattle.onll_checkpoint.specs.Grammar.{checkpoint_image}
use Rattle.onll_areas.proofs.KeptDevices.{was_kept, not_kept, given_up, checkpoint_alone, checkpoint_failed}
use Rattle.onll_areas.proofs.keeping.keep_checkpoint.Goals as goal

pub returns-in-Ok-keep-clause-ends : goal.returns-in-Ok-keep-clause-ends
returns-in-Ok-keep-clause-ends g c =
    let means = g.S.Dev.Pmem.means in let seen = g.S.Store.seen in let this = c.args.checkpoint.now in
    let m = c.in-Ok.ensures in let k = c.in-Ok-keep.ensures in
    let count = c.lines_for-lines.ensures ∙ ap (λ (text : List ℕ). lines_for (length text)) c.text.ensures.text in
    let fresh = subst (λ (n : ℕ). IsFresh (zero_lines n) (means c.in-Ok.device)) count m.made in
    let has = checkpoint_alone this (means c.in-Ok.device) (means c.in-Ok-save.saved) fresh c.in-Ok-save.ensures.saved in
    was_kept c.args.name.now (checkpoint_image this (lines_for (length this.text))) 2 (seen c.args.store.now)
    (seen c.device.new.self) m.faults m.devices m.file m.others (seen c.keep.new.self) (means c.in-Ok-save.saved) has
    (λ on. c.told_law.ensures c.in-Ok-save.saved ∙ g.met.S.Store.devices_tell c.keep.new.self on) k.others k.devices k.kept k.faults

pub returns-in-Err-keep-clause-ends : goal.returns-in-Err-keep-clause-ends
returns-in-Err-keep-clause-ends g c =
    let means = g.S.Dev.Pmem.means in let seen = g.S.Store.seen in let this = c.args.checkpoint.now in
    let m = c.in-Ok.ensures in let k = c.in-Err-keep.ensures in
    let count = c.lines_for-lines.ensures ∙ ap (λ (text : List ℕ). lines_for (length text)) c.text.ensures.text in
    let fresh = subst (λ (n : ℕ). IsFresh (zero_lines n) (means c.in-Ok.device)) count m.made in
    let has = checkpoint_alone this (means c.in-Ok.device) (means c.in-Ok-save.saved) fresh c.in-Ok-save.ensures.saved in
    not_kept c.args.name.now (checkpoint_image this (lines_for (length this.text))) 2 (seen c.args.store.now)
    (seen c.device.new.self) m.faults m.devices m.file m.others (seen c.keep.new.self) (means c.in-Ok-save.saved) has
    (λ on. c.told_law.ensures c.in-Ok-save.saved ∙ g.met.S.Store.devices_tell c.keep.new.self on) k.others k.devices c.in-Err-keep.fault k.file k.faults

pub returns-in-Err-save-clause-ends : goal.returns-in-Err-save-clause-ends
returns-in-Err-save-clause-ends g c =
    let means = g.S.Dev.Pmem.means in let seen = g.S.Store.seen in let this = c.args.checkpoint.now in
    let m = c.in-Ok.ensures in let u = c.give_up.ensures in
    let count = c.lines_for-lines.ensures ∙ ap (λ (text : List ℕ). lines_for (length text)) c.text.ensures.text in
    let fresh = subst (λ (n : ℕ). IsFresh (zero_lines n) (means c.in-Ok.device)) count m.made in
    given_up c.args.name.now (checkpoint_image this (lines_for (length this.text))) 2 (seen c.args.store.now)
    (seen c.device.new.self) m.faults m.devices m.file m.others (seen c.give_up.new.self) (means c.in-Err-save.unsaved.device)
    (checkpoint_failed this (means c.in-Ok.device) (means c.in-Err-save.unsaved.device) fresh c.in-Err-save.unsaved.cause c.in-Err-save.ensures.refused)
    u.same u.faults u.devices
