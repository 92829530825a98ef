use Rattle.std.proofs.Common.{map, length, ap, ◌∙◌}
use Rattle.onll_core.specs.Outcomes.{script_of}
use Rattle.onll_core.specs.Crash.{images_of}
use Rattle.onll_recovery.proofs.Replays.{images_count, crash_does, crash_stops}
use Rattle.onll_task.proofs.Standing.{stand_many}
use Rattle.onll_recovery.proofs.crashed.crash.Goals as goal

pub crash_answer-requires-clause-images : goal.crash_answer-requires-clause-images
crash_answer-requires-clause-images g c κs within =
    let core = c.args.core.now in
    ap length c.deref.ensures.value ∙ (stand_many c.in-Ok.images.items (images_of c.args.keep core.threads) c.in-Ok.ensures.stand ∙ images_count core c.args.keep)

pub returns-in-Ok : goal.returns-in-Ok
returns-in-Ok g c =
    let core = c.args.core.now in
    crash_does g.O.Object.means g.O.Texted.wording c.args.logs.now c.args.resumed (map script_of core.threads) core c.args.keep c.in-Ok.images.items c.crash_answer.result
    c.in-Ok.ensures.stand c.in-Ok.ensures.begins (rw c.deref.ensures.value at c.crash_answer.ensures)

pub returns-in-Err : goal.returns-in-Err
returns-in-Err g c =
    let core = c.args.core.now in
    crash_stops g.O.Object.means g.O.Texted.wording c.args.logs.now c.args.resumed (map script_of core.threads) core c.args.keep c.in-Err.stop c.in-Err.ensures.begins
