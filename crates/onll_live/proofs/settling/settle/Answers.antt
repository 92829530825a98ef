use Rattle.std.proofs.Common.{◌≡◌, ◌<◌, ◌-◌, ◌%◌, rules, refl, arith}
use Rattle.onll_live.proofs.Areas.{newest_kept, other_kept, settled_both, settled_none}
use Rattle.std.proofs.lemmas.Result.{on_ok_weaker}
use Rattle.onll_live.proofs.settling.settle.Goals as goal

pub returns-then-number-eq0-clause-kept : goal.returns-then-number-eq0-clause-kept
returns-then-number-eq0-clause-kept g c newest given is =
    let seen = g.S.Store.seen in let o = c.settle_other.ensures in
    other_kept (seen c.args.store.now) (seen c.settle_other.new.store) c.args.name.now 1 newest (omega arith) o.kept o.others given

pub returns-in_err-settle_newest-clause-kept : goal.returns-in_err-settle_newest-clause-kept
returns-in_err-settle_newest-clause-kept g c newest given is =
    let seen = g.S.Store.seen in let n = c.settle_newest.ensures in
    let some : 0 < c.args.number = search rules in
    newest_kept (seen c.args.store.now) (seen c.settle_newest.new.store) c.args.name.now c.args.number (c.args.number % 2) newest some refl n.kept n.others given is

pub returns-clause-kept : goal.returns-clause-kept
returns-clause-kept g c newest given is =
    let seen = g.S.Store.seen in let n = c.settle_newest.ensures in let o = c.settle_other-2.ensures in
    let some : 0 < c.args.number = search rules in
    other_kept (seen c.settle_newest.new.store) (seen c.settle_other-2.new.store) c.args.name.now (1 - c.args.number % 2) newest (omega arith) o.kept o.others
    (newest_kept (seen c.args.store.now) (seen c.settle_newest.new.store) c.args.name.now c.args.number (c.args.number % 2) newest some refl n.kept n.others given is)

pub returns-then-number-eq0-clause-settled : goal.returns-then-number-eq0-clause-settled
returns-then-number-eq0-clause-settled g c =
    let none : c.args.number ≡ 0 = search rules in
    on_ok_weaker c.settle_other.result (settled_none (g.S.Store.seen c.args.store.now) (g.S.Store.seen c.settle_other.new.store) c.args.name.now c.args.number none) c.settle_other.ensures.untorn

pub returns-clause-settled : goal.returns-clause-settled
returns-clause-settled g c =
    let seen = g.S.Store.seen in let n = c.in_ok-settle_newest.ensures in let o = c.settle_other-2.ensures in
    on_ok_weaker c.settle_other-2.result
    (settled_both (seen c.args.store.now) (seen c.settle_newest.new.store) (seen c.settle_other-2.new.store) c.args.name.now c.args.number n.others o.others n.rewritten) o.untorn
