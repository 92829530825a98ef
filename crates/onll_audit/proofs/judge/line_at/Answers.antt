use Rattle.std.proofs.lemmas.Option.{slice_get-get_or}
use Rattle.onll_audit.specs.declared.groups.CallLine.{CallLine}
use Rattle.onll_audit.proofs.Indexed.{at_mapped_or}
use Rattle.onll_audit.proofs.judge.line_at.Goals as goal

pub returns-clause-rest : goal.returns-clause-rest
returns-clause-rest c = at_mapped_or (λ (l : CallLine). l.line.now) c.args.lines.now c.args.i _ c.requires

pub returns-clause-there : goal.returns-clause-there
returns-clause-there c = slice_get-get_or c.args.lines.now c.args.i _ c.requires
