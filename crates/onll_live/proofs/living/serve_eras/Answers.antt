use Rattle.std.proofs.Common.{refl, arith}
use Rattle.onll_live.proofs.LiveCauses.{serving_stops}
use Rattle.onll_live.proofs.Turning.{handed_back, last_served, next_come, none_come}
use Rattle.onll_live.proofs.living.serve_eras.Goals as goal

pub loop-eras-init : goal.loop-eras-init
loop-eras-init g c first i =
    let old = g.S.Store.seen c.args.store.now in
    let none = none_come g.O.Object.means g.S.Dev.Pmem.means g.W.Work.promise g.O.Object.CODE g.O.Described.description g.O.Saved.read_of first c.args.name.now old old c.args.era c.args.era c.args.works.items c.args.works.items in
    (none.0, none.1, i)

pub returns-in-Last-clause-served : goal.returns-in-Last-clause-served
returns-in-Last-clause-served g c first i =
    let old = g.S.Store.seen c.args.store.now in let now = g.S.Store.seen c.loop-eras.store in let new = g.S.Store.seen c.serve_era.new.store in
    let so = c.loop-eras.invariant first i in let t = c.in-Last.ensures.turns first so.2 in
    last_served g.O.Object.means g.S.Dev.Pmem.means g.W.Work.promise g.O.Object.CODE g.O.Described.description g.O.Saved.read_of first c.args.name.now old now c.args.era c.loop-eras.era c.args.works.items c.loop-eras.works.items t.0 c.in-Last.lived.served so.0 t.1 new c.in-Last.lived refl t.2 t.3 t.4

pub loop-eras-preserved : goal.loop-eras-preserved
loop-eras-preserved g c first i =
    let old = g.S.Store.seen c.args.store.now in let now = g.S.Store.seen c.loop-eras.store in let new = g.S.Store.seen c.serve_era.new.store in
    let so = c.loop-eras.invariant first i in let t = c.in-Next.ensures.turns first so.2 in
    let more = next_come g.O.Object.means g.S.Dev.Pmem.means g.W.Work.promise g.O.Object.CODE g.O.Described.description g.O.Saved.read_of first c.args.name.now old now c.args.era c.loop-eras.era c.args.works.items c.loop-eras.works.items t.0 t.1 so.0 t.2 new c.in-Next.next c.in-Next.same.items t.3 t.4 t.5 t.6 c.loop-eras.eras so.1 in
    (more.0, more.1, t.3.in_next)

pub returns-in-HandedBack-clause-refused : goal.returns-in-HandedBack-clause-refused
returns-in-HandedBack-clause-refused g c first i =
    let old = g.S.Store.seen c.args.store.now in let now = g.S.Store.seen c.loop-eras.store in let new = g.S.Store.seen c.serve_era.new.store in
    let so = c.loop-eras.invariant first i in let t = c.in-HandedBack.ensures.turns first so.2 in
    let back = handed_back g.O.Object.means g.S.Dev.Pmem.means g.W.Work.promise g.O.Object.CODE g.O.Described.description g.O.Saved.read_of first c.args.name.now old now c.args.era c.loop-eras.era c.args.works.items c.loop-eras.works.items so.0 c.loop-eras.eras so.1
    c.in-HandedBack.field-0.works.items t.0 new c.in-HandedBack.field-0.fault t.1 in
    record { now = now; next = c.loop-eras.era; came = back.0; eras = back.1; cause = back.2 }

pub returns-clause-refused : goal.returns-clause-refused
returns-clause-refused g c first i =
    let so = c.loop-eras.invariant first i in
    record { now = g.S.Store.seen c.loop-eras.store; next = c.loop-eras.era; came = so.0; eras = (let many = so.1 in omega (arith, many)); cause = refl }

pub returns-in-HandedBack-clause-stops : goal.returns-in-HandedBack-clause-stops
returns-in-HandedBack-clause-stops g c = serving_stops c.in-HandedBack.field-0.fault c.loop-eras.eras c.in-HandedBack.ensures.back

pub returns-clause-stops : goal.returns-clause-stops
returns-clause-stops g c = (refl, refl)
