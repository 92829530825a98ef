use Rattle.std.proofs.Common.{ℕ, arith, length, slice_set, slice_index_or, ◌-◌, ◌<◌, length-set}
use Rattle.onll_bank.proofs.Sums.{sum_raised, sum_lowered, balance_le}
use Rattle.onll_bank.proofs.bank.move_between.Goals as goal

pub overflow_add-balances : goal.overflow_add-balances
overflow_add-balances c =
    let s = c.args.balances.now in
    let t = slice_set s c.args.a (slice_index_or s c.args.a 0 - c.args.x) in
    let k : c.args.b < length t = omega (arith, length-set {A = ℕ}) in
    omega (arith, sum_lowered s c.args.a c.args.x c.requires.a_in c.requires.enough, balance_le t c.args.b k)

pub returns-clause-total : goal.returns-clause-total
returns-clause-total c =
    let s = c.args.balances.now in
    let t = slice_set s c.args.a (slice_index_or s c.args.a 0 - c.args.x) in
    let k : c.args.b < length t = omega (arith, length-set {A = ℕ}) in
    omega (arith, sum_lowered s c.args.a c.args.x c.requires.a_in c.requires.enough, sum_raised t c.args.b c.args.x k)
