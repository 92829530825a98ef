use Rattle.onll_live.proofs.Cuts as cuts
use Rattle.onll_live.proofs.laws.era_cut_law.Goals as goal

pub returns-clause-cut : goal.returns-clause-cut
returns-clause-cut g c = cuts.era_cut_law g.O.Object.means

pub returns-clause-stands : goal.returns-clause-stands
returns-clause-stands g c = cuts.stands_law g.O.Object.means
