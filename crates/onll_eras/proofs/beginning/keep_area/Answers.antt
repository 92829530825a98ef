use Rattle.std.proofs.Common.{refl, length}
use Rattle.onll_words.proofs.Decimals.{IsWord-decimal}
use Rattle.onll_checkpoint.specs.Text.{lines_for}
use Rattle.onll_checkpoint.specs.Grammar.{checkpoint_image}
use Rattle.onll_eras.proofs.beginning.keep_area.Goals as goal

pub kept_or-requires-clause-words : goal.kept_or-requires-clause-words
kept_or-requires-clause-words g c = (record { some = refl; bytes = refl }, (record { some = refl; bytes = refl }, (IsWord-decimal c.args.area, tt)))

pub returns : goal.returns
returns g c = let this = c.args.checkpoint.now in
    c.kept_or.ensures (g.S.Store.seen c.args.store.now) (g.S.Store.seen c.keep_checkpoint-kept.new.store) (checkpoint_image this (lines_for (length this.text))) 2
    c.keep_checkpoint-kept.ensures.ends c.keep_checkpoint-kept.ensures.others
