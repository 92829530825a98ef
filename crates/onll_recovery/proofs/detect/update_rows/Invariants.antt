use Rattle.std.proofs.Common.{◌≡◌, ◌++◌, drop}
use Rattle.onll_recovery.specs.DetectJob.{update_rows}
use Rattle.onll_recovery.proofs.detect.update_rows.Given as goal

abbrev pub invariant-loop-call : goal.invariant-loop-call
invariant-loop-call g l =
    l.rows.items ++ update_rows g.O.Object.means (drop l.call-index l.script) ≡ update_rows g.O.Object.means l.script
