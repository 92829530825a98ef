use Rattle.onll_pmem.specs.Pmem.{words_of}
use Rattle.onll_areas.proofs.AreaReads.{area_holds}
use Rattle.onll_areas.proofs.area.read_area.Goals as goal

pub returns-in-Ok-found_in-clause-found : goal.returns-in-Ok-found_in-clause-found
returns-in-Ok-found_in-clause-found g c =
    let r = c.in-Ok.ensures in
    area_holds (g.S.Store.seen c.args.store.now) c.args.name.now (words_of c.in-Ok.read.front.items) c.in-Ok.read.count c.in-Ok-found_in.found
    r.front r.few r.lines c.in-Ok-found_in.ensures
