use Rattle.std.proofs.Common.{rules, arith}
use Rattle.onll_pmem.proofs.Images.{KeptLines-more, KeptLines-held}
use Rattle.onll_pmem.proofs.image.kept_front.Goals as goal

pub loop-i-preserved : goal.loop-i-preserved
loop-i-preserved c = record {
  so_far = rw c.push_reserved.ensures.items (KeptLines-more _ _ _ _ _ _ _ _ _ _ (search rules) (search rules) (search rules) (search rules)
      c.kept_line-next.ensures.line c.kept_line-next.ensures.mixed c.kept_line-next.ensures.next c.loop-i.invariant.so_far);
  done = search rules;
  few = omega arith;
}

pub returns-clause-lines : goal.returns-clause-lines
returns-clause-lines c = (KeptLines-held c.args.keep c.loop-i.number c.loop-i.i c.args.fenced.now c.args.read.now c.held.result.now c.held-2.result.now
    c.loop-i.front.items c.requires.same c.held.ensures.zeros c.held-2.ensures.zeros (omega (arith, c.max-count.ensures)) (omega (arith, c.max-count.ensures))
    c.loop-i.invariant.done c.loop-i.invariant.so_far).0

pub returns-clause-mixed : goal.returns-clause-mixed
returns-clause-mixed c = (KeptLines-held c.args.keep c.loop-i.number c.loop-i.i c.args.fenced.now c.args.read.now c.held.result.now c.held-2.result.now
    c.loop-i.front.items c.requires.same c.held.ensures.zeros c.held-2.ensures.zeros (omega (arith, c.max-count.ensures)) (omega (arith, c.max-count.ensures))
    c.loop-i.invariant.done c.loop-i.invariant.so_far).1
