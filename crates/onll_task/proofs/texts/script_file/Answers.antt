use Rattle.std.proofs.Common.{◌∙◌, sym, ap}
use Rattle.onll_text.specs.Script.{script_of}
use Rattle.onll_task.proofs.Cuts.{script_of-cut}
use Rattle.onll_task.proofs.Stages.{read_begins, refused_begins, stops_begins, unread_stops}
use Rattle.onll_task.proofs.Stops.{reads_cut, stops_refused}
use Rattle.onll_task.proofs.texts.script_file.Goals as goal

pub returns-in-Err-clause-begins : goal.returns-in-Err-clause-begins
returns-in-Err-clause-begins g c = stops_begins c.in-Err.stop (λ next. unread_stops _ _ _ _ c.in-Err.stop c.in-Err.ensures.stop c.in-Err.ensures.same) c.in-Err.ensures.same

pub returns-in-Ok-read_script-clause-begins : goal.returns-in-Ok-read_script-clause-begins
returns-in-Ok-read_script-clause-begins g c =
    let store = g.S.Store.seen c.args.store.now in
    let w = g.O.Texted.wording in
    let cut = c.in-Ok.ensures.text in
    read_begins _ (reads_cut store (script_of w) c.args.name.now c.in-Ok.text.items c.in-Ok-read_script.calls.items cut (script_of-cut w store c.args.name.now c.in-Ok.text.items cut)
    (sym (ap (script_of w) c.deref.ensures.value) ∙ c.in-Ok-read_script.ensures.calls)) c.in-Ok.ensures.same c.in-Ok.ensures.counts

pub returns-in-Err-Refused-clause-begins : goal.returns-in-Err-Refused-clause-begins
returns-in-Err-Refused-clause-begins g c =
    let store = g.S.Store.seen c.args.store.now in
    let w = g.O.Texted.wording in
    let cut = c.in-Ok.ensures.text in
    refused_begins c.args.name.now (script_of w) c.refused.result
    (stops_refused store (g.S.Store.seen c.read_text.new.store) (script_of w) c.args.name.now c.in-Ok.text.items c.in-Err-Refused.line c.in-Err-Refused.reason c.refused.result
    cut (script_of-cut w store c.args.name.now c.in-Ok.text.items cut)
    (sym (ap (script_of w) c.deref.ensures.value) ∙ (rw c.in-Err-Refused.field-0-is at c.in-Err-Refused.ensures.calls)) c.in-Ok.ensures.counts c.refused.ensures) c.in-Ok.ensures.same
