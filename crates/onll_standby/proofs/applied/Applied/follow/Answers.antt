use Rattle.std.proofs.Common.{◌∙◌, rules, sym, arith}
use Rattle.onll_standby.proofs.Advancing.{followed_one}
use Rattle.onll_standby.proofs.applied.Applied.follow.Goals as goal

pub returns-clause-followed : goal.returns-clause-followed
returns-clause-followed g c start nodes s =
    followed_one g.O.Object.means start nodes c.args.node c.in-Some.op c.args.self.now c.apply.new.self s c.requires.thread (search rules)
    (let z = c.if-node-eq0.false in let n = c.if-node-self.false in omega arith) (sym c.op_of_row.ensures ∙ c.in-Some.is) c.apply.ensures.next
