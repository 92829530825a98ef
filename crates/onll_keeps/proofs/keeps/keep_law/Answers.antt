use Rattle.onll_keeps.proofs.Telling.{fact_so, told_so}
use Rattle.onll_keeps.proofs.keeps.keep_law.Goals as goal

pub returns-clause-fact : goal.returns-clause-fact
returns-clause-fact g c = fact_so g.O.Object.means g.O.Keeps.holds c.kept_so.ensures.stays

pub returns-clause-told : goal.returns-clause-told
returns-clause-told g c = told_so g.O.Object.means g.O.Keeps.holds c.kept_so.ensures.stays g.O.Keeps.says c.kept_so.ensures.told
