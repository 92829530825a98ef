use Rattle.onll_keeps.proofs.Tallying.{both_updated}
use Rattle.onll_stock.proofs.customer.Customer.change.Goals as goal

pub returns-in_err-reply : goal.returns-in_err-reply
returns-in_err-reply g c = both_updated _ _ _ _ _ _ _ _ c.update-done.ensures.acts c.count.ensures.bought c.count.ensures.back c.requires

pub returns-in_err-or : goal.returns-in_err-or
returns-in_err-or g c = both_updated _ _ _ _ _ _ _ _ c.update-done.ensures.acts c.count.ensures.bought c.count.ensures.back c.requires

pub returns : goal.returns
returns g c = both_updated _ _ _ _ _ _ _ _ c.update-done.ensures.acts c.count.ensures.bought c.count.ensures.back c.requires
