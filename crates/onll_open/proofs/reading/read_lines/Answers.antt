use Rattle.onll_pmem.specs.Pmem.{words_of}
use Rattle.onll_open.proofs.ReadImages.{made_read}
use Rattle.onll_open.proofs.reading.read_lines.Goals as goal

pub returns-in-Ok-clause-read : goal.returns-in-Ok-clause-read
returns-in-Ok-clause-read g c =
    made_read (g.S.Store.seen c.args.store.now) c.args.name.now c.of_lines.result (words_of c.in-Ok.read.front.items) c.in-Ok.read.count c.requires.made c.in-Ok.ensures.front.each c.in-Ok.ensures.front.empty c.in-Ok.ensures.lines c.of_lines.ensures
