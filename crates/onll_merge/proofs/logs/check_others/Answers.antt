use Rattle.std.proofs.Common.{ap, sym, ◌∙◌}
use Rattle.onll_log.specs.declared.decoded.Decoded.{Decoded}
use Rattle.onll_merge.proofs.Asked.{Rises-of}
use Rattle.onll_merge.proofs.logs.check_others.Goals as goal

pub agrees-requires-clause-rises : goal.agrees-requires-clause-rises
agrees-requires-clause-rises c = let e = ap (λ (x : Decoded). x.entries) (sym c.index-logs-other.is) in
    Rises-of c.args.logs.now c.loop-other.other c.index-logs-other.result c.as_slice-entries.result.now c.requires.rise c.loop-other-test.true c.index-logs-other.is (c.as_slice-entries.ensures ∙ e)
