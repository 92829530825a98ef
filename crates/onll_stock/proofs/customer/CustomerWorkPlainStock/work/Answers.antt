use Rattle.std.proofs.Common.{refl}
use Rattle.onll_keeps.proofs.Tallying.{both_again, none_both}
use Rattle.onll_stock.proofs.customer.CustomerWorkPlainStock.work.Goals as goal

pub visit-visited-requires : goal.visit-visited-requires
visit-visited-requires g c = none_both _ _ _ _ _ refl refl c.requires

pub returns : goal.returns
returns g c = both_again _ _ _ _ _ c.visit-visited.new.deal refl refl c.visit-visited.ensures
