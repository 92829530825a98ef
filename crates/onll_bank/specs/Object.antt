-- A bank as an object.

use Rattle.std.specs.Prelude.{ℕ, List, length}
use Rattle.onll_model.specs.Object.{Behaviour}
use Rattle.onll_bank.specs.declared.operation.BankOp.{BankOp}
use Rattle.onll_bank.specs.declared.operation.BankQuery.{BankQuery}
use Rattle.onll_bank.specs.declared.operation.BankReply.{BankReply}
use Rattle.onll_bank.specs.Bank.{bank_next, bank_reply, bank_answer, bank_row, bank_op_at}
use Rattle.onll_bank.specs.Laws.{length-bank_next, op_of_its_row, row_of_its_op, seven_words}

-- what a bank does
abbrev pub bank : Behaviour (List ℕ) BankOp BankQuery BankReply
bank = record {
  next = bank_next;
  reply = bank_reply;
  answer = bank_answer;
  row_of = bank_row;
  op_at = bank_op_at;
  capacity = length;
  capacity_stays = length-bank_next;
  op_of_its_row = op_of_its_row;
  row_of_its_op = row_of_its_op;
  seven_words = seven_words;
}
