use Rattle.std.proofs.Common.{◌≡◌, ◌+◌, ◌-◌, ap, ◌∙◌, arith}
use Rattle.onll_workload.proofs.Banks.{filled, deposited}
use Rattle.onll_workload.proofs.bank.first_bank.Goals as goal

pub loop-a-preserved : goal.loop-a-preserved
loop-a-preserved c =
    let low = c.loop-a-test.true in
    let one : 64 - c.loop-a.a ≡ 63 - c.loop-a.a + 1 = omega (arith, low) in
    let left : 63 - c.loop-a.a ≡ 64 - (c.loop-a.a + 1) = omega arith in
    c.apply.ensures.next
    ∙ deposited c.loop-a.a (63 - c.loop-a.a) c.loop-a.bank (c.loop-a.invariant ∙ ap (λ n. filled c.loop-a.a n 1000) one) (omega (arith, low))
    ∙ ap (λ n. filled (c.loop-a.a + 1) n 1000) left
