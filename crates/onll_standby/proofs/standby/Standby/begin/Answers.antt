use Rattle.onll_standby.proofs.Feeding.{fed_first}
use Rattle.onll_standby.proofs.standby.Standby.begin.Goals as goal

pub returns : goal.returns
returns g c = fed_first g.O.Object.means c.args.object c.args.heads.items _ _ c.new-3.ensures c.new-2.ensures.at
