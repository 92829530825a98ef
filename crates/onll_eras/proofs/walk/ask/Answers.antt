use Rattle.std.proofs.Common.{ℕ, List, Err}
use Rattle.onll_text.specs.declared.any_object.AnyObject.{AnyObject}
use Rattle.onll_task.proofs.Stages.{read_does, unread_does}
use Rattle.onll_eras.specs.EraCall.{areas_task, call_work}
use Rattle.onll_eras.specs.Names.{names_of}
use Rattle.onll_eras.proofs.Asking.{asked_does}
use Rattle.onll_eras.proofs.walk.ask.Goals as goal

pub returns-in-Ok : goal.returns-in-Ok
returns-in-Ok g c =
    asked_does (call_work c.args.call).writes (g.S.Store.seen c.args.store.now) (g.S.Store.seen c.over_init.new.store) c.args.call.asked (names_of c.args.call.files) c.args.call.threads
    c.over_init.result (read_does (λ (read : List ℕ × AnyObject). areas_task c.args.call read.0 read.1) c.in-Ok.ensures c.over_init.ensures)

pub returns-in-Err : goal.returns-in-Err
returns-in-Err g c =
    asked_does (call_work c.args.call).writes (g.S.Store.seen c.args.store.now) (g.S.Store.seen c.init_file.new.store) c.args.call.asked (names_of c.args.call.files) c.args.call.threads
    (Err c.in-Err.stop) (unread_does (call_work c.args.call).writes (λ (read : List ℕ × AnyObject). areas_task c.args.call read.0 read.1) c.in-Err.ensures)
