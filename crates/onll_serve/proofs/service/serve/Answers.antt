use Rattle.std.proofs.Common.{◌≡◌, length, arith, subst}
use Rattle.onll_threads.specs.Crews.{HasSpace}
use Rattle.onll_open.specs.Heads.{heads_of}
use Rattle.onll_serve.proofs.Working.{cannot_open, given_back, others_kept, served}
use Rattle.onll_serve.proofs.service.serve.Goals as goal

pub returns-in-Ok-open-clause-served : goal.returns-in-Ok-open-clause-served
returns-in-Ok-open-clause-served g c =
    let many : c.len-count.result ≡ length c.args.works.items = omega arith in
    let o = c.in-Ok-open.opened in
    let e = c.in-Ok-open.ensures in
    served g.O.Object.means g.S.Dev.Pmem.means g.W.Work.promise (g.S.Store.seen c.args.store.now) c.args.name.now
    (heads_of g.O.Object.CODE (g.O.Described.description c.args.object)) c.args.object c.args.works.items
    (g.S.Store.seen c.open.new.store) (g.S.Store.seen c.serve_opened.new.store) o.onll o.passes.items c.len-count.result o.recovered
    c.serve_opened.result many e.opened e.recovered e.kept e.faults c.serve_opened.ensures.before c.serve_opened.ensures.worked

pub returns-in-Ok-open-clause-locks : goal.returns-in-Ok-open-clause-locks
returns-in-Ok-open-clause-locks g c =
    let e = c.in-Ok-open.ensures in (
      e.locks,
      given_back c.args.name.now (g.S.Store.seen c.args.store.now) (g.S.Store.seen c.open.new.store)
          (g.S.Directory.locked c.open.new.store) (g.S.Directory.locked c.serve_opened.new.store) e.others.tells
          c.serve_opened.result.kept c.serve_opened.ensures.locks,
    )

pub returns-in-Ok-open-clause-others : goal.returns-in-Ok-open-clause-others
returns-in-Ok-open-clause-others g c =
    let many : c.len-count.result ≡ length c.args.works.items = omega arith in
    others_kept c.args.name.now c.len-count.result (length c.args.works.items) (g.S.Store.seen c.args.store.now)
    (g.S.Store.seen c.open.new.store) (g.S.Store.seen c.serve_opened.new.store) many c.in-Ok-open.ensures.others
    c.serve_opened.ensures.others

pub returns-in-Err-clause-refused : goal.returns-in-Err-clause-refused
returns-in-Err-clause-refused g c =
    let many : c.len-count.result ≡ length c.args.works.items = omega arith in
    let e = c.in-Err.ensures in
    cannot_open g.O.Object.means c.args.name.now (heads_of g.O.Object.CODE (g.O.Described.description c.args.object))
    c.len-count.result (length c.args.works.items) (g.S.Store.seen c.args.store.now) (g.S.Store.seen c.open.new.store) c.in-Err.fault
    many e.refused e.faults e.kept

pub serve_opened-requires-clause-space : goal.serve_opened-requires-clause-space
serve_opened-requires-clause-space g c κs within =
    let many : c.len.result ≡ length c.args.works.items = omega arith in
    subst (λ n. HasSpace n c.in-Ok.space) many c.in-Ok.ensures
