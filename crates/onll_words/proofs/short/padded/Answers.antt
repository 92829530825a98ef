use Rattle.std.proofs.Common.{ap, ◌∙◌, ◌++◌, set, drop, length, replicate}
use Rattle.onll_words.proofs.Packing.{padded-written}
use Rattle.onll_words.proofs.short.padded.Goals as goal

pub returns : goal.returns
returns c =
    ap (λ front. set (front ++ drop (length c.args.text.now) (replicate 24 0)) 23 (length c.args.text.now)) c.copy_from_slice.ensures.after
    ∙ padded-written c.args.text.now c.requires
