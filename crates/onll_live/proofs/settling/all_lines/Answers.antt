use Rattle.std.proofs.Common.{rules, ◌∙◌, ap}
use Rattle.onll_pmem.specs.Pmem.{words_of}
use Rattle.onll_areas.proofs.AreaReads.{words_of-filled}
use Rattle.onll_live.proofs.settling.all_lines.Goals as goal

pub returns-clause-lines : goal.returns-clause-lines
returns-clause-lines c = ap words_of c.in_ok-resize.ensures.items ∙ words_of-filled c.args.read.front.items c.args.read.count _ c.requires (search rules)
