use Rattle.std.proofs.Common.{◌≡◌, drop, true}
use Rattle.onll_text.specs.Bytes.{begins_line, with_lines, IsFront}
use Rattle.onll_text.specs.BankText.{account_lines}
use Rattle.onll_text.proofs.bank.put_accounts.Given as goal

-- the accounts that are left make the lines that all make
abbrev pub invariant-loop-a : goal.invariant-loop-a
invariant-loop-a l = record {
  lines : with_lines l.out (account_lines l.a (drop l.a l.bank)) ≡ with_lines l.fn.out (account_lines 0 l.bank);
  begins : begins_line l.out ≡ true;
  keeps : IsFront l.fn.out l.out;
}
