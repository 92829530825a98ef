use Rattle.std.proofs.Common.{[], sym}
use Rattle.onll_text.specs.Reports.{fold_data_lines, FoldDataReads}
use Rattle.onll_text.proofs.Determined.{fold_determined, says_only}
use Rattle.onll_jobs.specs.FoldJob.{fold_data, calls_task}
use Rattle.onll_task.proofs.Stages.{read_does, stop_does, report_does, none_does}
use Rattle.onll_jobs.proofs.fold.fold_object.Goals as goal

pub returns-in_ok-fold_script-in-Ok : goal.returns-in_ok-fold_script-in-Ok
returns-in_ok-fold_script-in-Ok g c =
    let b = g.O.Object.means in
    let w = g.O.Texted.wording in
    let s = c.args.object.now in
    let calls = c.deref.result.now in
    let text = c.in_ok-fold_script-in-Ok.field-0 in
    let ensures = c.in_ok-fold_script-in-Ok.ensures in
    read_does (calls_task b w s) c.in-Ok.ensures.begins (rw (sym c.deref.ensures.value) (report_does (g.S.Store.seen c.script_file.new.store) text ensures.report
    (says_only (fold_data_lines b w calls) (FoldDataReads b w calls) (fold_determined b w calls) text.items (fold_data b s calls) ensures.report ensures.reads)))

pub returns-in_err-fold_script-in-Ok : goal.returns-in_err-fold_script-in-Ok
returns-in_err-fold_script-in-Ok g c =
    read_does (calls_task g.O.Object.means g.O.Texted.wording c.args.object.now) c.in-Ok.ensures.begins
    (none_does [] (g.S.Store.seen c.script_file.new.store) _ c.from_residual.ensures.1)

pub returns-in-Err : goal.returns-in-Err
returns-in-Err g c = stop_does (calls_task g.O.Object.means g.O.Texted.wording c.args.object.now) c.in-Err.ensures.begins
