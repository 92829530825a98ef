use Rattle.std.proofs.Common.{◌∙◌, sym, ap}
use Rattle.onll_text.specs.Init.{init_of}
use Rattle.onll_task.proofs.Cuts.{init_of-cut, init_whole}
use Rattle.onll_task.proofs.Stages.{whole_begins, refused_whole, stops_begins, unread_stops}
use Rattle.onll_task.proofs.Stops.{stops_refused}
use Rattle.onll_task.proofs.texts.init_file.Goals as goal

pub returns-in-Err : goal.returns-in-Err
returns-in-Err g c = stops_begins c.in-Err.stop (λ next. unread_stops _ _ _ _ c.in-Err.stop c.in-Err.ensures.stop c.in-Err.ensures.same) c.in-Err.ensures.same

pub returns-in-Ok-read_init : goal.returns-in-Ok-read_init
returns-in-Ok-read_init g c =
    whole_begins _ (init_whole (g.S.Store.seen c.args.store.now) c.args.name.now c.in-Ok.text.items c.in-Ok-read_init.object c.in-Ok.ensures.text
    (sym (ap init_of c.deref.ensures.value) ∙ c.in-Ok-read_init.ensures)) c.in-Ok.ensures.same c.in-Ok.ensures.counts

pub returns-in-Err-Refused : goal.returns-in-Err-Refused
returns-in-Err-Refused g c =
    let store = g.S.Store.seen c.args.store.now in
    let cut = c.in-Ok.ensures.text in
    refused_whole c.args.name.now init_of c.refused.result
    (stops_refused store (g.S.Store.seen c.read_text.new.store) init_of c.args.name.now c.in-Ok.text.items c.in-Err-Refused.line c.in-Err-Refused.reason c.refused.result
    cut (init_of-cut store c.args.name.now c.in-Ok.text.items cut)
    (sym (ap init_of c.deref.ensures.value) ∙ (rw c.in-Err-Refused.field-0-is at c.in-Err-Refused.ensures)) c.in-Ok.ensures.counts c.refused.ensures) c.in-Ok.ensures.same
