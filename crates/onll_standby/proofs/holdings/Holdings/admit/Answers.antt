use Rattle.std.proofs.Common.{rules, ◌+◌, sym, refl, ap, ◌∙◌}
use Rattle.std.proofs.lemmas.Result.{err_from_is_err_and}
use Rattle.onll_standby.specs.declared.holdings.LogTail.{LogTail}
use Rattle.onll_standby.specs.Held.{HeldEntry}
use Rattle.onll_standby.proofs.Judging.{logs_more, admitted_in, stopped_in}
use Rattle.onll_standby.proofs.holdings.Holdings.admit.Goals as goal

pub returns-in_err-advance-clause-admitted : goal.returns-in_err-advance-clause-admitted
returns-in_err-advance-clause-admitted g c start threads es at keeps clean =
    let e : HeldEntry = record { thread = c.args.thread; segment = record { place = c.args.place; nodes = c.args.nodes.now } } in
    let p = err_from_is_err_and c.from_residual.result c.from_residual.ensures.1 in
    rw (p.1, p.2) (stopped_in g.O.Object.means start threads es e at c.args.self.now keeps clean c.requires.places.0 c.requires.places.1 c.put.new.self c.put.ensures.nodes c.advance.new.self c.args.self.now.logs c.in_err-advance.field-0.0
    (λ room. c.in_err-advance.ensures start _ _ keeps.applied room))

pub returns-clause-admitted : goal.returns-clause-admitted
returns-clause-admitted g c start threads es at keeps clean =
    let e : HeldEntry = record { thread = c.args.thread; segment = record { place = c.args.place; nodes = c.args.nodes.now } } in
    let d : LogTail = record { entries = 0; last = 0 } in
    admitted_in g.O.Object.means start threads es e at c.args.self.now keeps clean c.requires.places.0 c.requires.places.1 c.put.new.self c.put.ensures.nodes c.advance.new.self _ _
    (λ room. c.in_ok-advance.ensures start _ _ keeps.applied room)
    (logs_more es e c.args.self.now.logs _ keeps.logs (search rules) c.requires.thread (λ z. ap (λ (t : LogTail). t.entries + 1) (keeps.logs c.args.thread d c.requires.thread ∙ sym (keeps.logs c.args.thread z c.requires.thread)))) refl
