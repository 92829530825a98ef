use Rattle.std.proofs.Common.{◌+◌, arith}
use Rattle.onll_meter.proofs.clerk.Clerk.count_all.Goals as goal

pub returns-then-is_err : goal.returns-then-is_err
returns-then-is_err g c =
    let n = c.loop-counted.counted in
    let inv = c.loop-counted.invariant in
    let within = c.loop-counted-test.true in
    record { many = n + 1; tallied = c.in-Ok.ensures.counted n inv.0; off = omega (arith, within) }
