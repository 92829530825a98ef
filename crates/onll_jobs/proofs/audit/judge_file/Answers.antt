use Rattle.std.proofs.Common.{◌+◌, map, sym, ap, ◌∙◌}
use Rattle.onll_text.specs.declared.reason.Reason.TheVariants.{BadLine}
use Rattle.onll_text.specs.Kinds.{kind_by}
use Rattle.onll_task.proofs.Stages.{read_begins, refused_begins, stops_begins, unread_stops}
use Rattle.onll_audit.specs.Printed.{longest_report}
use Rattle.onll_jobs.specs.AuditJob.{or_bad_line, judged_of}
use Rattle.onll_jobs.proofs.AuditReading.{judged_front, reads_like, reads_as, refused_as}
use Rattle.onll_jobs.proofs.audit.judge_file.Goals as goal

pub returns-in-Err : goal.returns-in-Err
returns-in-Err g c = stops_begins c.in-Err.stop (λ next. unread_stops _ _ _ _ c.in-Err.stop c.in-Err.ensures.stop c.in-Err.ensures.same) c.in-Err.ensures.same

pub returns-in-Ok-judge : goal.returns-in-Ok-judge
returns-in-Ok-judge g c =
    let k = kind_by g.O.Object.means g.O.Texted.wording g.O.Object.CODE in
    let scripts = map (λ script. script.items) c.args.scripts.now in
    let store = g.S.Store.seen c.args.store.now in
    let like = reads_like store (judged_of k c.args.object scripts) c.args.report.now c.in-Ok.text.items (longest_report + 1)
    (judged_front k c.args.object scripts) c.in-Ok.ensures.bytes in
    read_begins _ (reads_as like c.in-Ok-judge.verdict
    (sym (ap (judged_of k c.args.object scripts) c.deref.ensures.value) ∙ ap or_bad_line c.in-Ok-judge.ensures)) c.in-Ok.ensures.same c.in-Ok.ensures.counts

pub returns-in-Err-Refused : goal.returns-in-Err-Refused
returns-in-Err-Refused g c =
    let k = kind_by g.O.Object.means g.O.Texted.wording g.O.Object.CODE in
    let scripts = map (λ script. script.items) c.args.scripts.now in
    let store = g.S.Store.seen c.args.store.now in
    let like = reads_like store (judged_of k c.args.object scripts) c.args.report.now c.in-Ok.text.items (longest_report + 1)
    (judged_front k c.args.object scripts) c.in-Ok.ensures.bytes in
    refused_begins c.args.report.now (judged_of k c.args.object scripts) c.refused.result
    (refused_as like (g.S.Store.seen c.read_bytes.new.store) c.in-Err-Refused.line BadLine c.refused.result
    (sym (ap (judged_of k c.args.object scripts) c.deref.ensures.value) ∙ ap or_bad_line (rw c.in-Err-Refused.field-0-is at c.in-Err-Refused.ensures))
    c.in-Ok.ensures.counts c.refused.ensures) c.in-Ok.ensures.same
