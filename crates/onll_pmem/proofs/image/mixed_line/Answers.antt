use Rattle.std.proofs.Common.{rules, arith}
use Rattle.onll_pmem.proofs.Images.{KeptWords-more}
use Rattle.onll_pmem.proofs.image.mixed_line.Goals as goal

pub loop-word-preserved : goal.loop-word-preserved
loop-word-preserved c = record {
  eight = search rules;
  so_far = KeptWords-more _ _ _ _ _ _ _ _ _ (omega arith) (omega arith) (omega arith) c.kept_word.ensures c.pending_word-next.ensures.value c.loop-word.invariant.so_far;
  few = omega arith;
}
