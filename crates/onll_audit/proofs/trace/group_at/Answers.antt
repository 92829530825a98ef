use Rattle.onll_audit.proofs.Indexed.{at_mapped, got_mapped}
use Rattle.onll_audit.proofs.trace.group_at.Goals as goal

pub returns-clause-rest : goal.returns-clause-rest
returns-clause-rest c = rw c.deref.ensures.value (at_mapped _ c.args.groups.now c.args.i c.index-groups-i.result c.requires c.index-groups-i.is)

pub returns-clause-there : goal.returns-clause-there
returns-clause-there c = rw c.deref.ensures.value (got_mapped _ c.args.groups.now c.args.i c.index-groups-i.result c.requires c.index-groups-i.is)
