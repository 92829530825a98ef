use Rattle.onll_audit.proofs.Indexed.{at_mapped, got_mapped}
use Rattle.onll_audit.proofs.trace.script_at.Goals as goal

pub returns-clause-rest : goal.returns-clause-rest
returns-clause-rest g c = rw c.deref.ensures.value (at_mapped _ c.args.scripts.now c.args.i c.index-scripts-i.result c.requires c.index-scripts-i.is)

pub returns-clause-there : goal.returns-clause-there
returns-clause-there g c = rw c.deref.ensures.value (got_mapped _ c.args.scripts.now c.args.i c.index-scripts-i.result c.requires c.index-scripts-i.is)
