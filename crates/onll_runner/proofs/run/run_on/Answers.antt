use Rattle.std.proofs.Common.{sym}
use Rattle.onll_text.specs.Kinds.{kind_by}
use Rattle.onll_task.proofs.Stages.{read_does, unread_does}
use Rattle.onll_runner.specs.RunJob.{run_plan, calls_task}
use Rattle.onll_runner.proofs.run.run_on.Goals as goal

pub returns-in-Ok : goal.returns-in-Ok
returns-in-Ok g c = λ threads stands.
    let k = kind_by g.O.Object.means g.O.Texted.wording g.O.Object.CODE in
    read_does (λ scripts. calls_task k threads (run_plan k c.args.init.now c.args.logs.now c.args.object scripts)) c.in-Ok.ensures.begins
    (rw (sym c.in-Ok.ensures.count) (c.run_calls.ensures threads stands))

pub returns-in-Err : goal.returns-in-Err
returns-in-Err g c = λ threads stands.
    let k = kind_by g.O.Object.means g.O.Texted.wording g.O.Object.CODE in
    unread_does _ (λ scripts. calls_task k threads (run_plan k c.args.init.now c.args.logs.now c.args.object scripts)) c.in-Err.ensures.begins
