use Rattle.std.proofs.Common.{arith, ap}
use Rattle.onll_audit.specs.Values.{as_groups}
use Rattle.onll_audit.specs.Verdict.{total_lines}
use Rattle.onll_audit.proofs.auditor.wrong_line.Goals as goal

pub calls_wrong-requires-clause-few : goal.calls_wrong-requires-clause-few
calls_wrong-requires-clause-few g c = omega (arith, c.requires.few)

pub count_lines-number-requires : goal.count_lines-number-requires
count_lines-number-requires g c =
    let same = ap (λ groups. total_lines (as_groups groups)) c.deref.ensures.value in
    omega (arith, c.requires.few, same)

pub overflow_add-number : goal.overflow_add-number
overflow_add-number g c =
    let same = ap (λ groups. total_lines (as_groups groups)) c.deref.ensures.value in
    omega (arith, c.requires.few, c.count_lines-number.ensures, same)
