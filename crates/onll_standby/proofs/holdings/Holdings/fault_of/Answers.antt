use Rattle.std.proofs.Common.{get_or, sym, ap, ◌∙◌, arith, Some, None}
use Rattle.onll_standby.specs.declared.holdings.LogTail.{LogTail}
use Rattle.onll_standby.proofs.Judging.{fault_clash}
use Rattle.onll_standby.proofs.holdings.Holdings.fault_of.Goals as goal

pub returns-in-Some : goal.returns-in-Some
returns-in-Some g c es logs held =
    let d : LogTail = record { entries = 0; last = 0 } in
    let is = ap (λ (z : LogTail). z.last) (logs c.args.thread d c.requires.thread) in
    let a = c.if-place-tail.false in let b = c.if-place-tail-2.false in
    fault_clash es c.args.at (record { thread = c.args.thread; segment = record { place = c.args.place; nodes = c.args.nodes.now } })
    (get_or c.args.self.now.logs c.args.thread d).last c.args.self.now.places (Some c.in-Some.place) is (omega arith) held (sym c.in-Some.is ∙ c.clash.ensures)

pub returns-in-None : goal.returns-in-None
returns-in-None g c es logs held =
    let d : LogTail = record { entries = 0; last = 0 } in
    let is = ap (λ (z : LogTail). z.last) (logs c.args.thread d c.requires.thread) in
    let a = c.if-place-tail.false in let b = c.if-place-tail-2.false in
    fault_clash es c.args.at (record { thread = c.args.thread; segment = record { place = c.args.place; nodes = c.args.nodes.now } })
    (get_or c.args.self.now.logs c.args.thread d).last c.args.self.now.places None is (omega arith) held (sym c.in-None.is ∙ c.clash.ensures)
