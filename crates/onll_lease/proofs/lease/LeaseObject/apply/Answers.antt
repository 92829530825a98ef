use Rattle.std.proofs.Common.{sym, subst}
use Rattle.onll_lease.specs.declared.lease.Lease.TheInside.{Inside}
use Rattle.onll_lease.specs.Lease.{IsLease}
use Rattle.onll_lease.proofs.Tables.{lease_applied}
use Rattle.onll_lease.proofs.lease.LeaseObject.apply.Goals as goal
use Rattle.onll_lease.proofs.lease.LeaseObject.apply.Goals.{in-Some, in-None}

pub invariant_of-self : goal.invariant_of-self
invariant_of-self c = elim c.match-get_mut.branch [
  | in-Some w ↦
      subst (λ (x : Inside). IsLease x.entries.items) (sym w.self-inside-is)
      (lease_applied c.self.inside.entries.items c.match-op.r w.in-Some.entry.now w.apply.new.self c.match-op.op c.self.invariant w.in-Some.ensures.item.3.0 w.in-Some.ensures.value w.apply.ensures.next w.apply.ensures.numbers)
  | in-None w ↦ subst (λ (x : Inside). IsLease x.entries.items) (sym w.self-inside-is) c.self.invariant
]
