use Rattle.onll_text.proofs.BankReadBack.{bank_reads_back}
use Rattle.onll_text.proofs.bank.bank_reads_back.Goals as goal

pub returns : goal.returns
returns c = bank_reads_back c.args.bank.now c.consistent.ensures
