use Rattle.std.proofs.Common.{◌<◌, length, subst, rules}
use Rattle.onll_words.specs.declared.line.Line.{Line}
use Rattle.std.proofs.Common.{List}
use Rattle.onll_pmem.specs.Pmem.{words_of}
use Rattle.onll_log.specs.Torn.{AreLines}
use Rattle.onll_start.proofs.Lines.{lines_more}
use Rattle.onll_start.proofs.found.told_lines.Goals as goal

pub loop-image-preserved : goal.loop-image-preserved
loop-image-preserved c =
    let low : c.loop-image.image-index < length c.args.images.now = search rules in
    lines_more (λ image. image.items) c.args.images.now c.loop-image.image-index c.image-item.result low c.image-item.is (subst (λ (ls : List Line). AreLines (words_of ls)) c.deref.ensures.value c.eight_words.ensures) c.loop-image.invariant
