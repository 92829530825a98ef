use Rattle.std.proofs.Common.{[], length, sym, arith, eqb-true}
use Rattle.onll_log.specs.declared.head.LogHead.{LogHead}
use Rattle.onll_standby.proofs.Stepping.{takes_head, takes_header, header_ready, no_lines}
use Rattle.onll_standby.proofs.follower.Follower.take.Goals as goal

pub returns-then-self-len-clause-took : goal.returns-then-self-len-clause-took
returns-then-self-len-clause-took g c start heads ls is =
    let d : LogHead = record { thread = 0; threads = 0; object = 0; digest = []; format = 0 } in
    let n = c.len.ensures in let t = c.if-self-len.true in
    takes_head g.O.Object.means start heads ls c.args.line.now.w c.args.self.now is d (omega arith) c.take_head.result (c.take_head.ensures.head d) (c.take_head.ensures.foreign d)

pub returns-then-is_empty-clause-ready : goal.returns-then-is_empty-clause-ready
returns-then-is_empty-clause-ready g c =
    let n = c.len.ensures in let t = c.if-self-len.false in
    let e = no_lines c.lines.result.now c.args.self.now.entry c.lines.ensures (eqb-true (length c.lines.result.now) 0 (sym c.if-is_empty.ensures)) in
    header_ready c.args.self.now c.args.line.now.w c.requires.ready e (omega arith) c.take_header.result c.take_header.new.self
    c.take_header.ensures.opened c.take_header.ensures.begun c.take_header.ensures.same

pub returns-then-is_empty-clause-took : goal.returns-then-is_empty-clause-took
returns-then-is_empty-clause-took g c start heads ls is =
    let n = c.len.ensures in let t = c.if-self-len.false in
    let e = no_lines c.lines.result.now c.args.self.now.entry c.lines.ensures (eqb-true (length c.lines.result.now) 0 (sym c.if-is_empty.ensures)) in
    takes_header g.O.Object.means start heads ls c.args.line.now.w c.args.self.now is c.requires.ready e (omega arith) c.take_header.result c.take_header.new.self
    c.take_header.ensures.opened c.take_header.ensures.begun c.take_header.ensures.refused c.take_header.ensures.same
