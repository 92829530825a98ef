use Rattle.onll_log.proofs.Remains.{HasRemains-Mixed, Holds-wiped, IsCut-Holds, HoldsAlone-Holds}
use Rattle.onll_log.proofs.laws.remains_laws.Goals as goal

pub returns : goal.returns
returns c = record { leaves = HasRemains-Mixed; wiped = Holds-wiped; cut = IsCut-Holds; used = HoldsAlone-Holds }
