use Rattle.std.proofs.Common.{refl}
use Rattle.onll_words.proofs.Decimals.{IsWord-decimal}
use Rattle.onll_task.proofs.faults.put_fault.Goals as goal

pub line-requires-clause-words : goal.line-requires-clause-words
line-requires-clause-words c =
    (record { some = refl; bytes = refl }, (IsWord-decimal c.in-NotLog.log, (record { some = refl; bytes = refl }, (record { some = refl; bytes = refl }, (record { some = refl; bytes = refl }, tt)))))

pub line-requires-in-NotOperation-clause-words : goal.line-requires-in-NotOperation-clause-words
line-requires-in-NotOperation-clause-words c =
    (record { some = refl; bytes = refl }, (IsWord-decimal c.in-NotOperation.place, (record { some = refl; bytes = refl }, (record { some = refl; bytes = refl }, (record { some = refl; bytes = refl }, tt)))))
