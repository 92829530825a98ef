use Rattle.std.proofs.Common.{◌≡◌, length, map, string_bytes, sym, ◌∙◌, rules}
use Rattle.std.proofs.lemmas.List.{length-map}
use Rattle.onll_text.specs.declared.schedule.Schedule.{Schedule}
use Rattle.onll_text.specs.Kinds.{kind_by}
use Rattle.onll_recovery.specs.AgainJob.{goes_on_task}
use Rattle.onll_task.proofs.Stages.{read_does, unread_does}
use Rattle.onll_recovery.proofs.again.play_again.Goals as goal

pub returns-in-Ok : goal.returns-in-Ok
returns-in-Ok g c =
    let k = kind_by g.O.Object.means g.O.Texted.wording g.O.Object.CODE in
    let scripts = map (λ script. script.items) c.args.scripts.items in
    let count : c.len.result ≡ length c.args.scripts.items = search rules in
    read_does (λ (plan : Schedule). goes_on_task k c.args.texts.now.init.now c.args.object c.args.texts.now.logs.now (map string_bytes c.args.texts.now.scripts.now) scripts plan)
    (rw (count ∙ sym (length-map c.args.scripts.items (λ script. script.items))) at c.in-Ok.ensures.begins) c.read_on.ensures

pub returns-in-Err : goal.returns-in-Err
returns-in-Err g c =
    let k = kind_by g.O.Object.means g.O.Texted.wording g.O.Object.CODE in
    let scripts = map (λ script. script.items) c.args.scripts.items in
    let count : c.len.result ≡ length c.args.scripts.items = search rules in
    unread_does _ (λ (plan : Schedule). goes_on_task k c.args.texts.now.init.now c.args.object c.args.texts.now.logs.now (map string_bytes c.args.texts.now.scripts.now) scripts plan)
    (rw (count ∙ sym (length-map c.args.scripts.items (λ script. script.items))) at c.in-Err.ensures.begins)
