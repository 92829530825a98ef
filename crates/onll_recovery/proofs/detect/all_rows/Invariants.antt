use Rattle.std.proofs.Common.{◌≡◌, ◌++◌, drop, map}
use Rattle.onll_recovery.specs.DetectJob.{update_rows}
use Rattle.onll_recovery.proofs.detect.all_rows.Given as goal

abbrev pub invariant-loop-script : goal.invariant-loop-script
invariant-loop-script g l =
    map (λ own. own.items) l.rows.items ++ map (update_rows g.O.Object.means) (map (λ script. script.items) (drop l.script-index l.scripts))
    ≡ map (update_rows g.O.Object.means) (map (λ script. script.items) l.scripts)
