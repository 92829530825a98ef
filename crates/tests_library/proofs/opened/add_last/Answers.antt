use Rattle.std.proofs.Common.{map, subst, sym}
use Rattle.std.specs.List.{AllByRecursion}
use Rattle.onll_trace.specs.Closing.{AreAll}
use Rattle.onll_shared.specs.Passes.{IsTied, spot_of}
use Rattle.onll_rows.specs.Sketch.{behaviour_of}
use Rattle.onll_counter.specs.Counter.{counter}
use Rattle.tests_library.proofs.LastPass.{last_of, back_with, all_back}
use Rattle.tests_library.proofs.opened.add_last.Goals as goal

pub update-done-requires-clause-tied : goal.update-done-requires-clause-tied
update-done-requires-clause-tied g c κs bounds =
    let P = IsTied (behaviour_of counter) g.P.Pmem.means c.args.onll.now in
    last_of P c.pop.new.self.items c.in-Some.pass (subst (AllByRecursion P) c.in-Some.ensures.items c.requires.tied)

pub returns-in-Some-clause-tied : goal.returns-in-Some-clause-tied
returns-in-Some-clause-tied g c =
    let P = IsTied (behaviour_of counter) g.P.Pmem.means c.args.onll.now in
    let old = subst (AllByRecursion P) c.in-Some.ensures.items c.requires.tied in
    subst (AllByRecursion P) (sym c.push_reserved.ensures.items) (back_with P c.pop.new.self.items c.in-Some.pass c.update-done.new.pass old c.update-done.ensures.tied)

pub returns-in-Some-clause-all : goal.returns-in-Some-clause-all
returns-in-Some-clause-all g c =
    let P = IsTied (behaviour_of counter) g.P.Pmem.means c.args.onll.now in
    let old = subst (AllByRecursion P) c.in-Some.ensures.items c.requires.tied in
    let tied = back_with P c.pop.new.self.items c.in-Some.pass c.update-done.new.pass old c.update-done.ensures.tied in
    let all = subst (λ ps. AreAll c.args.onll.now.trace (map spot_of ps)) c.in-Some.ensures.items c.requires.all in
    subst (λ ps. AreAll c.args.onll.now.trace (map spot_of ps)) (sym c.push_reserved.ensures.items)
    (all_back (behaviour_of counter) g.P.Pmem.means c.args.onll.now c.pop.new.self.items c.in-Some.pass c.update-done.new.pass c.update-done.ensures.same.thread tied all)
