use Rattle.std.proofs.Common.{◌≡◌, ◌≤◌, rules, sym, ap, ◌∙◌, subst}
use Rattle.onll_model.specs.Limits.{most_threads}
use Rattle.onll_open.specs.Files.{SameBut}
use Rattle.onll_open.specs.Names.{log_names}
use Rattle.onll_serve.specs.Serving.{any_spent}
use Rattle.onll_serve.proofs.Working.{as_many, closed_so}
use Rattle.onll_serve.proofs.service.serve_opened.Goals as goal

pub close-kept-requires-clause-few : goal.close-kept-requires-clause-few
close-kept-requires-clause-few g c κs within =
    let first = c.requires.first in
    let r = c.run_works-works.result in
    let ended = c.works_law.ensures c.args.opened.onll first.opened first.rooms c.args.crew.works.items c.args.opened.passes.items
    r.works.items r.passes.items r.answers.items first.logs_are first.begun c.run_works-works.ensures in
    let many = as_many g.O.Object.means g.S.Dev.Pmem.means g.W.Work.promise c.args.opened.onll c.args.crew.works.items
    c.args.opened.passes.items r.works.items r.passes.items r.answers.items ended in
    subst (λ n. n ≤ most_threads) (sym (many ∙ c.requires.many)) c.requires.few

pub close-kept-requires-clause-all : goal.close-kept-requires-clause-all
close-kept-requires-clause-all g c κs within =
    let first = c.requires.first in
    let r = c.run_works-works.result in
    (c.works_law.ensures c.args.opened.onll first.opened first.rooms c.args.crew.works.items c.args.opened.passes.items
    r.works.items r.passes.items r.answers.items first.logs_are first.begun c.run_works-works.ensures).all_there

pub close-kept-requires-clause-tied : goal.close-kept-requires-clause-tied
close-kept-requires-clause-tied g c κs within =
    let first = c.requires.first in
    let r = c.run_works-works.result in
    (c.works_law.ensures c.args.opened.onll first.opened first.rooms c.args.crew.works.items c.args.opened.passes.items
    r.works.items r.passes.items r.answers.items first.logs_are first.begun c.run_works-works.ensures).tied

pub returns-clause-worked : goal.returns-clause-worked
returns-clause-worked g c =
    let first = c.requires.first in
    let r = c.run_works-works.result in
    let ended = c.works_law.ensures c.args.opened.onll first.opened first.rooms c.args.crew.works.items c.args.opened.passes.items
    r.works.items r.passes.items r.answers.items first.logs_are first.begun c.run_works-works.ensures in
    let same : c.deref.result.now ≡ r.passes.items = search rules in
    record {
      afters = r.passes.items;
      ended = ended;
      spent_is = c.any_spent-spent.ensures ∙ ap any_spent same;
      closed = closed_so g.O.Object.means g.S.Dev.Pmem.means g.W.Work.promise c.args.opened.onll c.args.crew.works.items
          c.args.opened.passes.items r.works.items r.passes.items r.answers.items (c.run_law.ensures c.args.opened.onll) ended
          c.args.name.now (g.S.Store.seen c.args.store.now) (g.S.Store.seen c.close-kept.new.store) c.close-kept.result
          c.close-kept.ensures.closed c.close-kept.ensures.kept c.close-kept.ensures.faults c.close-kept.ensures.whole
          c.close-kept.ensures.refused;
    }

pub returns-clause-others : goal.returns-clause-others
returns-clause-others g c =
    let first = c.requires.first in
    let r = c.run_works-works.result in
    let ended = c.works_law.ensures c.args.opened.onll first.opened first.rooms c.args.crew.works.items c.args.opened.passes.items
    r.works.items r.passes.items r.answers.items first.logs_are first.begun c.run_works-works.ensures in
    let many = as_many g.O.Object.means g.S.Dev.Pmem.means g.W.Work.promise c.args.opened.onll c.args.crew.works.items
    c.args.opened.passes.items r.works.items r.passes.items r.answers.items ended in
    subst (λ n. SameBut (log_names c.args.name.now 0 n) (g.S.Store.seen c.args.store.now) (g.S.Store.seen c.close-kept.new.store))
    (many ∙ c.requires.many) c.close-kept.ensures.others
