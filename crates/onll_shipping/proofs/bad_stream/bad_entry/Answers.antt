use Rattle.std.proofs.Common.{refl}
use Rattle.onll_words.proofs.Decimals.{IsWord-decimal}
use Rattle.onll_shipping.proofs.bad_stream.bad_entry.Goals as goal

pub says_line-requires-clause-words : goal.says_line-requires-clause-words
says_line-requires-clause-words c = (record { some = refl; bytes = refl }, (record { some = refl; bytes = refl }, (IsWord-decimal c.args.at, (c.requires, tt))))
