use Rattle.std.proofs.Common.{map, string_bytes, sym}
use Rattle.onll_task.specs.declared.ending.Ending.TheVariants.{Done}
use Rattle.onll_jobs.specs.Seen.{seen_by}
use Rattle.onll_jobs.proofs.ExitCauses.{put_says}
use Rattle.onll_jobs.proofs.FormsDetermined.{put_determined}
use Rattle.onll_task.proofs.Stages.{stay_same}
use Rattle.onll_jobs.proofs.program.run.Goals as goal

pub returns-in-Ok-clause-says : goal.returns-in-Ok-clause-says
returns-in-Ok-clause-says g c =
    put_says (seen_by (map string_bytes c.args.words.now) (g.S.Store.seen c.args.store.now) (g.S.Store.seen c.answer_to.new.store) (g.K.Sink.held c.args.out.now) (g.K.Sink.held c.put.new.out))
    Done c.in-Ok.report.items c.put.result c.in-Ok.ensures.done (rw (sym c.deref.ensures.value) c.put.ensures)

pub returns-in-Ok-clause-determined : goal.returns-in-Ok-clause-determined
returns-in-Ok-clause-determined g c =
    put_determined (seen_by (map string_bytes c.args.words.now) (g.S.Store.seen c.args.store.now) (g.S.Store.seen c.answer_to.new.store) (g.K.Sink.held c.args.out.now) (g.K.Sink.held c.put.new.out))
    Done c.in-Ok.report.items c.put.result (λ e. c.in-Ok.ensures.reports (g.S.Store.seen c.args.store.now) (stay_same (g.S.Store.seen c.args.store.now))) (rw (sym c.deref.ensures.value) c.put.ensures)

pub returns-in-Err-Says-clause-says : goal.returns-in-Err-Says-clause-says
returns-in-Err-Says-clause-says g c =
    put_says (seen_by (map string_bytes c.args.words.now) (g.S.Store.seen c.args.store.now) (g.S.Store.seen c.answer_to.new.store) (g.K.Sink.held c.args.out.now) (g.K.Sink.held c.put-in-Err-Says.new.out))
    c.in-Err-Says.ending c.in-Err-Says.text.items c.put-in-Err-Says.result (rw c.in-Err-Says.field-0-is at c.in-Err-Says.ensures.stops).1 (rw c.deref-in-Err-Says.ensures.value at c.put-in-Err-Says.ensures)
