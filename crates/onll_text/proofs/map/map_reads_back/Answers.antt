use Rattle.onll_text.proofs.MapReadBack.{map_reads_back}
use Rattle.onll_text.proofs.map.map_reads_back.Goals as goal

pub returns : goal.returns
returns c = map_reads_back c.args.map.now c.consistent.ensures
