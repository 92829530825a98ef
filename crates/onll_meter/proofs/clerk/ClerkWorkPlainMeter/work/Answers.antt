use Rattle.std.proofs.Common.{arith}
use Rattle.onll_keeps.proofs.Tallying.{none_tallied}
use Rattle.onll_meter.proofs.clerk.ClerkWorkPlainMeter.work.Goals as goal

pub count_all-ending-requires : goal.count_all-ending-requires
count_all-ending-requires g c = none_tallied c.requires

pub returns : goal.returns
returns g c =
    let before = c.count_all-ending.ensures in
    let at = c.total_at-total.ensures before.many before.tallied in
    let sum = at.sum_is in
    let off = before.off in
    record { calls = at.calls; ends = at.ends; did = at.did; kept = omega (arith, sum, off) }
