use Rattle.std.proofs.Common.{false, ◌≡◌, sym, subst}
use Rattle.onll_outside.specs.Directory.{is_locked}
use Rattle.onll_open.proofs.Locked.{locked_no_more}
use Rattle.onll_open.proofs.locking.unlock_logs.Goals as goal

pub returns-clause-free : goal.returns-clause-free
returns-clause-free g c on = subst (λ ls. is_locked ls c.args.name.now ≡ false) (sym (c.unlock.ensures.locks on)) (locked_no_more (g.S.Directory.locked c.args.store.now) c.args.name.now)
