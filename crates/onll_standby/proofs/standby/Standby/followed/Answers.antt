use Rattle.std.proofs.Common.{◌∙◌, ap}
use Rattle.onll_standby.specs.Standby.{StandbyState}
use Rattle.onll_standby.proofs.standby.Standby.followed.Goals as goal

pub returns : goal.returns
returns g c start heads bytes so = ap (λ (s : StandbyState _ _ _ _). s.follower.holdings.applied.followed) c.self.view_is ∙ so.applied.followed
