use Rattle.onll_task.proofs.LineSteps.{begins_after}
use Rattle.onll_eras.specs.EraReports.{place_line}
use Rattle.onll_eras.proofs.EraSays.{place_in_words}
use Rattle.onll_eras.proofs.restoring.report.Goals as goal

pub line-requires-clause-words : goal.line-requires-clause-words
line-requires-clause-words g c = place_in_words c.args.place

pub state_lines-requires-after_bounds : goal.state_lines-requires-after_bounds
state_lines-requires-after_bounds g c κs within = begins_after c.put_found.new.out c.line.new.self (place_line c.args.place) c.in_ok-line.ensures.ok
