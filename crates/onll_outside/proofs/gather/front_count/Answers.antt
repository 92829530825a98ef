use Rattle.std.proofs.Common.{◌≡◌, refl, arith, rules}
use Rattle.onll_pmem.specs.Device.{zero_line}
use Rattle.onll_outside.proofs.Gathering.{one_less}
use Rattle.onll_outside.proofs.gather.front_count.Goals as goal

pub loop-count-preserved : goal.loop-count-preserved
loop-count-preserved c =
    let nil : c.line_of_bytes-line.result.w ≡ zero_line = search rules in
    record {
      within = omega arith;
      zeros = one_less c.args.chunks.now c.loop-count.count c.line_of_bytes-line.result.w _ _ (omega arith) (omega arith) c.line_of_bytes-line.ensures.words refl nil c.loop-count.invariant.zeros;
    }
