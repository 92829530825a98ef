use Rattle.std.proofs.Common.{◌≡◌, ◌+◌, List, length, sym, ◌∙◌, subst, arith, refl}
use Rattle.onll_model.specs.declared.call.CallEnd.{CallEnd}
use Rattle.onll_run.proofs.Calling.{Keeps, keeps_first, keeps_room, keeps_more, keeps_all}
use Rattle.onll_run.proofs.worker.do_calls.Goals as goal

pub loop-call-init : goal.loop-call-init
loop-call-init g c = record {
  keeps = subst (λ (es : List (CallEnd _ _ _ _)). Keeps g.O.Object.means g.P.Pmem.means c.args.onll.now c.args.script.now c.args.pass.now es 0 c.args.pass.now) (sym c.requires.empty)
      (keeps_first g.O.Object.means g.P.Pmem.means c.args.onll.now c.args.script.now c.args.pass.now c.requires.ready);
  room = refl;
}

pub do_call-end-requires-clause-room : goal.do_call-end-requires-clause-room
do_call-end-requires-clause-room g c κs within = keeps_room g.O.Object.means g.P.Pmem.means c.args.onll.now c.args.script.now c.args.pass.now _ _ _ c.loop-call.invariant.keeps _ c.call-item.is c.loop-call-test.true

pub loop-call-preserved : goal.loop-call-preserved
loop-call-preserved g c = record {
  keeps = subst (λ (es : List (CallEnd _ _ _ _)). Keeps g.O.Object.means g.P.Pmem.means c.args.onll.now c.args.script.now c.args.pass.now es (c.loop-call.call-index + 1) c.do_call-end.new.pass) (sym c.push_reserved.ensures.items)
      (keeps_more g.O.Object.means g.P.Pmem.means c.args.onll.now c.args.script.now c.args.pass.now _ _ _ c.loop-call.invariant.keeps _ c.call-item.is c.loop-call-test.true c.do_call-end.result c.do_call-end.new.pass c.do_call-end.ensures.tied c.do_call-end.ensures.done);
  room = c.push_reserved.ensures.capacity ∙ c.loop-call.invariant.room;
}

pub returns : goal.returns
returns g c =
    let low = c.loop-call-test.false in let high = c.loop-call.auto.call-index-end in
    let e : c.loop-call.call-index ≡ length c.args.script.now = omega arith in
    keeps_all g.O.Object.means g.P.Pmem.means c.args.onll.now c.args.script.now c.args.pass.now _ _ _ c.loop-call.invariant.keeps e
