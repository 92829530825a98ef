use Rattle.std.proofs.Common.{map, string_bytes, sym}
use Rattle.onll_text.specs.Kinds.{kind_by}
use Rattle.onll_task.proofs.Stages.{read_does, unread_does}
use Rattle.onll_runner.specs.ResumeJob.{reopened_task}
use Rattle.onll_runner.proofs.resume.resume_on.Goals as goal

pub returns-in-Ok : goal.returns-in-Ok
returns-in-Ok g c = λ threads stands.
    let k = kind_by g.O.Object.means g.O.Texted.wording g.O.Object.CODE in
    read_does (reopened_task k threads c.args.init.now c.args.logs.now (map string_bytes c.args.scripts.now) c.args.object) c.in-Ok.ensures.begins
    (rw (sym c.in-Ok.ensures.count) (c.read_on.ensures threads stands))

pub returns-in-Err : goal.returns-in-Err
returns-in-Err g c = λ threads stands.
    let k = kind_by g.O.Object.means g.O.Texted.wording g.O.Object.CODE in
    unread_does _ (reopened_task k threads c.args.init.now c.args.logs.now (map string_bytes c.args.scripts.now) c.args.object) c.in-Err.ensures.begins
