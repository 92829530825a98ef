use Rattle.std.proofs.Common.{refl}
use Rattle.onll_words.proofs.Decimals.{IsWord-decimal}
use Rattle.onll_shipping.proofs.ship_fault.bad_log.Goals as goal

pub says_line-requires-clause-words : goal.says_line-requires-clause-words
says_line-requires-clause-words c = (record { some = refl; bytes = refl }, (IsWord-decimal c.in-NotLog.log, (record { some = refl; bytes = refl }, (record { some = refl; bytes = refl }, (record { some = refl; bytes = refl }, tt)))))

pub says_line-requires-in-OldFormat-clause-words : goal.says_line-requires-in-OldFormat-clause-words
says_line-requires-in-OldFormat-clause-words c = (record { some = refl; bytes = refl }, (IsWord-decimal c.in-OldFormat.log, (record { some = refl; bytes = refl }, (record { some = refl; bytes = refl }, (IsWord-decimal 1, tt)))))

pub says_line-requires-in-Empty-clause-words : goal.says_line-requires-in-Empty-clause-words
says_line-requires-in-Empty-clause-words c = (record { some = refl; bytes = refl }, (IsWord-decimal c.in-Empty.log, (record { some = refl; bytes = refl }, tt)))
