use Rattle.std.proofs.Common.{subst}
use Rattle.onll_locked.specs.Kept.{IsLegalLocked, EachLocked, AgreeCounts}
use Rattle.onll_locked.proofs.Keeping.{keeps_legal, keeps_counts}
use Rattle.onll_locked.proofs.locked.Locked.lawful.Goals as goal

pub returns-clause-legal : goal.returns-clause-legal
returns-clause-legal g c = subst (IsLegalLocked g.O.Object.means) c.self.view_is (keeps_legal g.O.Object.means _ _ _ _ c.self.invariant)

pub returns-clause-counts : goal.returns-clause-counts
returns-clause-counts g c = subst (λ s. EachLocked s (AgreeCounts s.trace)) c.self.view_is (keeps_counts g.O.Object.means _ _ _ _ c.self.invariant)
