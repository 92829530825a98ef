use Rattle.onll_log.proofs.Cursors.{all_shown}
use Rattle.onll_log.proofs.laws.cursor_law.Goals as goal

pub returns : goal.returns
returns c = record { end = all_shown }
