use Rattle.std.proofs.Common.{◌≡◌, List, length, map, Ok, subst, sym, ap, ◌∙◌}
use Rattle.onll_log.specs.Log.{LogState}
use Rattle.onll_model.specs.declared.mark.Mark.{Mark}
use Rattle.onll_model.specs.Marks.{marked}
use Rattle.onll_merge.specs.Merge.{merge}
use Rattle.onll_trace.specs.Plans.{CanResume}
use Rattle.onll_shared.specs.Starts.{AreLogs, entries_of}
use Rattle.onll_shared.specs.Found.{content_held, head_held}
use Rattle.onll_shared.proofs.onll.Onll.resume.Goals as goal

pub mark_logs-requires-clause-logs : goal.mark_logs-requires-clause-logs
mark_logs-requires-clause-logs g c = subst AreLogs (sym c.deref.ensures.value) c.requires.logs

pub resume_marked-requires-clause-resume : goal.resume_marked-requires-clause-resume
resume_marked-requires-clause-resume g c κs within =
    let merged = subst (λ (logs : List (LogState _)). merge (map head_held logs) (map content_held logs) ≡ Ok c.args.base.now) (sym c.deref.ensures.value) c.requires.merged in
    let held = c.in_ok-marks.ensures c.args.base.now merged in
    subst (λ (ms : List Mark). CanResume c.args.base.now ms c.args.rooms.now) (sym c.deref-2.ensures.value)
    (held.resumable c.args.rooms.now (c.requires.count ∙ sym (ap length c.deref.ensures.value)) c.requires.rooms)

pub resume_marked-requires-clause-entries : goal.resume_marked-requires-clause-entries
resume_marked-requires-clause-entries g c κs within =
    let merged = subst (λ (logs : List (LogState _)). merge (map head_held logs) (map content_held logs) ≡ Ok c.args.base.now) (sym c.deref.ensures.value) c.requires.merged in
    let held = c.in_ok-marks.ensures c.args.base.now merged in
    ap (map entries_of) (sym c.deref.ensures.value)
    ∙ (held.entries ∙ (λ i. marked ((ap length c.deref.ensures.value ∙ sym c.requires.count) i) c.args.base.now (sym c.deref-2.ensures.value i)))
