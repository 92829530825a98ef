use Rattle.std.proofs.Common.{rules, arith}
use Rattle.onll_log.proofs.NewHeads.{heads_start, heads_next, heads_end, heads_fit}
use Rattle.onll_log.proofs.heads.new_heads.Goals as goal

pub loop-thread-init : goal.loop-thread-init
loop-thread-init c = record { so = heads_start c.args.object c.args.init.now c.args.threads c.in_ok-heads.heads.items c.in_ok-heads.ensures.items; room = c.in_ok-heads.ensures.capacity }

pub push_reserved-requires : goal.push_reserved-requires
push_reserved-requires c = let room = c.loop-thread.invariant.room in let count = c.loop-thread.invariant.so.count in search (rules, arith)

pub loop-thread-preserved : goal.loop-thread-preserved
loop-thread-preserved c = record {
  so = heads_next c.args.object c.args.init.now c.args.threads c.loop-thread.thread c.loop-thread.heads.items c.push_reserved.new.self.items c.new.result (omega arith) c.push_reserved.ensures.items c.new.ensures.head c.new.ensures.fits c.loop-thread.invariant.so;
  room = let room = c.loop-thread.invariant.room in let same = c.push_reserved.ensures.capacity in omega (arith, room, same);
}

pub returns-clause-heads : goal.returns-clause-heads
returns-clause-heads c = heads_end c.args.object c.args.init.now c.args.threads c.loop-thread.thread c.loop-thread.heads.items (omega arith) c.loop-thread.invariant.so

pub returns-clause-fit : goal.returns-clause-fit
returns-clause-fit c = heads_fit c.args.object c.args.init.now c.args.threads c.loop-thread.thread c.loop-thread.heads.items (omega arith) c.loop-thread.invariant.so

pub returns-clause-count : goal.returns-clause-count
returns-clause-count c = let count = c.loop-thread.invariant.so.count in omega (arith, count)
