use Rattle.std.proofs.Common.{sym}
use Rattle.onll_jobs.specs.Command.{over_in, object_task}
use Rattle.onll_jobs.proofs.Dispatched.{over_does}
use Rattle.onll_task.proofs.Stages.{read_does, unread_does}
use Rattle.onll_jobs.proofs.objects.answer.Goals as goal

pub returns-in-Ok : goal.returns-in-Ok
returns-in-Ok g c =
    let over = over_in c.args.over in
    read_does (λ read. object_task over read.0 read.1) c.in-Ok.ensures (rw (sym c.deref.ensures.value)
    (over_does over (g.S.Store.seen c.init_file.new.store) (g.S.Store.seen c.over_any.new.store) c.deref.result.now c.in-Ok.read.object c.over_any.result c.over_any.ensures))

pub returns-in-Err : goal.returns-in-Err
returns-in-Err g c =
    let over = over_in c.args.over in
    unread_does _ (λ read. object_task over read.0 read.1) c.in-Err.ensures
