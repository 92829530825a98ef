use Rattle.std.proofs.Common.{[], map, sym}
use Rattle.std.proofs.lemmas.List.{length-map}
use Rattle.onll_text.specs.Kinds.{kind_by}
use Rattle.onll_task.proofs.Stages.{read_does, stop_does, none_does}
use Rattle.onll_recovery.specs.DetectJob.{detected_task}
use Rattle.onll_recovery.proofs.detect.detect_scripts.Goals as goal

pub returns-in_err-recovered : goal.returns-in_err-recovered
returns-in_err-recovered g c = none_does [] (g.S.Store.seen c.args.store.now) _ c.from_residual.ensures.1

pub returns-in-Ok : goal.returns-in-Ok
returns-in-Ok g c =
    let k = kind_by g.O.Object.means g.O.Texted.wording g.O.Object.CODE in
    let calls = map (λ script. script.items) c.args.scripts.now in
    read_does (detected_task k c.args.object calls) (rw (sym (length-map c.args.scripts.now (λ script. script.items))) at c.in-Ok.ensures.stage)
    (rw c.deref.ensures.value at (c.detect_nodes.ensures (g.S.Store.seen c.recover_files.new.store)))

pub returns-in-Err : goal.returns-in-Err
returns-in-Err g c =
    let calls = map (λ script. script.items) c.args.scripts.now in
    stop_does (detected_task (kind_by g.O.Object.means g.O.Texted.wording g.O.Object.CODE) c.args.object calls)
    (rw (sym (length-map c.args.scripts.now (λ script. script.items))) at c.in-Err.ensures.stage)
