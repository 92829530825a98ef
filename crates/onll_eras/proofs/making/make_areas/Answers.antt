use Rattle.std.proofs.Common.{◌≡◌, []}
use Rattle.onll_task.specs.Doing.{report_task}
use Rattle.onll_task.proofs.Stages.{wrote_does, stop_does, report_does, none_does}
use Rattle.onll_eras.specs.EraReports.{areas_text}
use Rattle.onll_eras.proofs.making.make_areas.Goals as goal

pub returns-in-Err : goal.returns-in-Err
returns-in-Err g c = stop_does (λ (_ : Unit {0}). report_task (areas_text c.args.ckpt.now) (λ text. text ≡ areas_text c.args.ckpt.now)) c.in-Err.ensures

pub returns-in_err-text : goal.returns-in_err-text
returns-in_err-text g c = let task = report_task (areas_text c.args.ckpt.now) (λ text. text ≡ areas_text c.args.ckpt.now) in
    wrote_does (λ (_ : Unit {0}). task) c.in-Ok.ensures (λ any. none_does [] any task c.from_residual.ensures.1)

pub returns : goal.returns
returns g c = let task = report_task (areas_text c.args.ckpt.now) (λ text. text ≡ areas_text c.args.ckpt.now) in
    wrote_does (λ (_ : Unit {0}). task) c.in-Ok.ensures
    (λ any. report_does any c.in_ok-text.text c.in_ok-text.ensures c.in_ok-text.ensures)
