use Rattle.std.proofs.Common.{◌≡◌, ◌-◌}
use Rattle.onll_workload.proofs.Banks.{filled}
use Rattle.onll_workload.proofs.bank.first_bank.Given as goal

-- the accounts before have their balance
abbrev pub invariant-loop-a : goal.invariant-loop-a
invariant-loop-a l = l.bank ≡ filled l.a (64 - l.a) 1000
