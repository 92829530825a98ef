use Rattle.std.proofs.Common.{subst, ◌∙◌}
use Rattle.onll_live.specs.Eras.{AreaGives}
use Rattle.onll_live.proofs.finding.checkpoint_in_area.Goals as goal

pub returns-in-Ok-clause-found : goal.returns-in-Ok-clause-found
returns-in-Ok-clause-found g c = subst (λ n. AreaGives (g.S.Store.seen c.args.store.now) n c.in-Ok.found) (c.deref.ensures ∙ c.in_ok-file.ensures) c.in-Ok.ensures.found
