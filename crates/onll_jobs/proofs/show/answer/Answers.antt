use Rattle.std.proofs.Common.{ℕ, List, [], subst}
use Rattle.onll_log.specs.Grammar.{content_of}
use Rattle.onll_jobs.specs.ShowJob.{shown_task}
use Rattle.onll_task.specs.Doing.{Fulfils}
use Rattle.onll_task.proofs.Stages.{read_does, stop_does, by_given, by_begins, by_stops}
use Rattle.onll_jobs.proofs.show.answer.Goals as goal

pub returns-in-Ok : goal.returns-in-Ok
returns-in-Ok g c =
    let mid = g.S.Store.seen c.image_file.new.store in
    read_does (λ lines. shown_task (content_of lines)) (by_begins c.in-Ok.ensures)
    (subst (λ content. Fulfils [] mid mid (shown_task content) c.shown.result) (by_given c.in-Ok.ensures).fits.content (c.shown.ensures mid))

pub returns-in-Err : goal.returns-in-Err
returns-in-Err g c = stop_does (λ lines. shown_task (content_of lines)) (by_stops {value = λ (lines : List (List ℕ)). lines} c.in-Err.ensures)
