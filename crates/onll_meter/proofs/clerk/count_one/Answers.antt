use Rattle.std.proofs.Common.{◌+◌, ap, sym, ◌∙◌, subst}
use Rattle.onll_keeps.proofs.Tallying.{tallied_out}
use Rattle.onll_meter.specs.Counting.{HasCounted, one_counted}
use Rattle.onll_meter.proofs.Counts.{said_counts}
use Rattle.onll_meter.proofs.clerk.count_one.Goals as goal

pub returns-clause-said : goal.returns-clause-said
returns-clause-said g c = (c.update.result, c.update.ensures.acts, c.total_of.ensures)

pub returns-clause-counted : goal.returns-clause-counted
returns-clause-counted g c n counted =
    subst (λ k. HasCounted g.P.Pmem.means g.B.Begun.first (n + k) c.update.new.self) (sym (ap one_counted c.total_of.ensures ∙ said_counts c.update.result))
    (tallied_out _ _ c.update.result c.update.ensures.acts counted)
