use Rattle.std.proofs.Common.{None, ◌≡◌, length, map, sym, ◌∙◌, rules}
use Rattle.std.proofs.lemmas.List.{length-map}
use Rattle.onll_text.specs.declared.schedule.Schedule.{Schedule}
use Rattle.onll_recovery.specs.ReplayJob.{played, crash_task}
use Rattle.onll_recovery.proofs.Replays.{schedule_does}
use Rattle.onll_task.proofs.Stages.{read_does, unread_does, none_does}
use Rattle.onll_recovery.proofs.replay.replay_scripts.Goals as goal

pub returns-in_ok-core-in-Ok : goal.returns-in_ok-core-in-Ok
returns-in_ok-core-in-Ok g c =
    let scripts = map (λ script. script.items) c.args.scripts.items in
    let count : c.len.result ≡ length c.args.scripts.items = search rules in
    schedule_does g.O.Object.means g.O.Texted.wording c.args.texts.now.logs.now g.O.Object.CODE c.args.texts.now.init.now c.args.object c.args.texts.now.schedule.now scripts (length c.args.scripts.items) c.in-Ok.plan c.in_ok-core-in-Ok.core c.crash.result
    (rw (count ∙ sym (length-map c.args.scripts.items (λ script. script.items))) at c.in-Ok.ensures.begins) c.in_ok-core-in-Ok.ensures.core c.in_ok-core-in-Ok.ensures.threads c.crash.ensures

pub returns-in_err-core-in-Ok : goal.returns-in_err-core-in-Ok
returns-in_err-core-in-Ok g c =
    let scripts = map (λ script. script.items) c.args.scripts.items in
    let count : c.len.result ≡ length c.args.scripts.items = search rules in
    read_does (λ (plan : Schedule). crash_task g.O.Object.means g.O.Texted.wording c.args.texts.now.logs.now None scripts (played g.O.Object.means g.O.Object.CODE c.args.texts.now.init.now c.args.object scripts plan.turns) plan.keep)
    (rw (count ∙ sym (length-map c.args.scripts.items (λ script. script.items))) at c.in-Ok.ensures.begins)
    (none_does _ (g.S.Store.seen c.schedule_file.new.store) _ c.from_residual.ensures.1)

pub returns-in-Err : goal.returns-in-Err
returns-in-Err g c =
    let scripts = map (λ script. script.items) c.args.scripts.items in
    let count : c.len.result ≡ length c.args.scripts.items = search rules in
    unread_does _ (λ (plan : Schedule). crash_task g.O.Object.means g.O.Texted.wording c.args.texts.now.logs.now None scripts (played g.O.Object.means g.O.Object.CODE c.args.texts.now.init.now c.args.object scripts plan.turns) plan.keep)
    (rw (count ∙ sym (length-map c.args.scripts.items (λ script. script.items))) at c.in-Err.ensures.begins)
