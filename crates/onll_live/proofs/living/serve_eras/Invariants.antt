use Rattle.std.proofs.Common.{◌≡◌, length}
use Rattle.onll_live.specs.Eras.{IsInEra}
use Rattle.onll_live.specs.Living.{HaveComeTo}
use Rattle.onll_live.proofs.living.serve_eras.Given as goal

-- the works have come over so many eras, whatever the object was at first
abbrev pub invariant-loop-eras : goal.invariant-loop-eras
invariant-loop-eras g l =
    let old = g.S.Store.seen l.fn.store in let now = g.S.Store.seen l.store in
    (first : g.row.O.Denot) → IsInEra g.O.Saved.read_of first old l.name l.fn.era
    → (h : HaveComeTo g.O.Object.means g.S.Dev.Pmem.means g.W.Work.promise g.O.Object.CODE g.O.Described.description g.O.Saved.read_of first
    l.name old now l.fn.era l.era l.fn.works.items l.works.items)
    × (length h.services ≡ l.eras) × IsInEra g.O.Saved.read_of first now l.name l.era
