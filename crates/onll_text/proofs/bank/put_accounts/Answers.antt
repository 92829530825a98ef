use Rattle.std.proofs.Common.{◌+◌, ◌++◌, drop, ap, ◌∙◌, arith}
use Rattle.std.specs.List.{flat_map}
use Rattle.onll_words.specs.Texts.{line_text}
use Rattle.onll_text.specs.Bytes.{with_lines}
use Rattle.onll_text.specs.BankText.{account_line, account_lines}
use Rattle.onll_text.proofs.BankReadBack.{account_lines_more}
use Rattle.onll_text.proofs.Keeping.{part_front}
use Rattle.onll_text.proofs.bank.put_accounts.Goals as goal

pub returns-in_err-put_account-clause-within : goal.returns-in_err-put_account-clause-within
returns-in_err-put_account-clause-within c =
    let a = c.loop-a.a in
    let balances = c.args.bank.now in
    let out = c.loop-a.out in
    let rest = account_lines (a + 1) (drop (a + 1) balances) in
    part_front _ (out ++ line_text (account_line a c.balance_of.result)) (flat_map line_text rest) _
    (ap (λ x. with_lines (out ++ line_text (account_line a x)) rest) c.balance_of.ensures ∙ account_lines_more out balances a (omega arith) ∙ c.loop-a.invariant.lines) c.put_account.ensures.within
