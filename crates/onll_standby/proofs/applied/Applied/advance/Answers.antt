use Rattle.std.proofs.Common.{◌∙◌, sym}
use Rattle.std.proofs.lemmas.Result.{err_from_is_err_and}
use Rattle.onll_standby.proofs.Advancing.{comes_first, comes_more, comes_last, comes_stop}
use Rattle.onll_standby.proofs.applied.Applied.advance.Goals as goal

pub loop-node-init : goal.loop-node-init
loop-node-init g c start nodes room s l = comes_first g.O.Object.means start nodes room c.args.places.now c.args.self.now s l

pub loop-node-preserved : goal.loop-node-preserved
loop-node-preserved g c start nodes room s l = let i = c.loop-node.invariant start nodes room s l in
    comes_more g.O.Object.means start nodes room c.args.places.now c.loop-node.self c.follow.new.self c.in-Some.node i (sym c.above.ensures.node ∙ c.in-Some.is) (c.in_ok-follow.ensures.followed start _ i.stands)

pub returns-in_err-follow : goal.returns-in_err-follow
returns-in_err-follow g c start nodes room s l = let i = c.loop-node.invariant start nodes room s l in
    let p = err_from_is_err_and c.from_residual.result c.from_residual.ensures.1 in
    rw (p.1, p.2) (comes_stop g.O.Object.means start nodes room c.args.places.now c.loop-node.self c.follow.new.self c.in-Some.node c.in_err-follow.field-0.0 i (sym c.above.ensures.node ∙ c.in-Some.is) (c.in_err-follow.ensures.followed start _ i.stands))

pub returns : goal.returns
returns g c start nodes room s l = let i = c.loop-node.invariant start nodes room s l in
    comes_last g.O.Object.means start nodes room c.args.places.now c.loop-node.self i (sym c.above.ensures.node ∙ c.in_default.is)
