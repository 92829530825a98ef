use Rattle.std.proofs.Common.{◌∙◌, length, ap, arith, rules}
use Rattle.std.proofs.lemmas.List.{length_push}
use Rattle.onll_core.proofs.Heads.{locals_more}
use Rattle.onll_core.proofs.step_core.resume.found_locals.Goals as goal

pub loop-thread-preserved : goal.loop-thread-preserved
loop-thread-preserved g c =
    let i = c.loop-thread.invariant in
    let pushed = c.push_reserved.ensures.items in
    record {
      all = locals_more c.args.object.now c.args.nodes.now c.loop-thread.thread c.args.threads c.loop-thread.locals.items c.push_reserved.new.self.items _ (search rules) (search rules) pushed ∙ i.all;
      made = (let e = ap length pushed ∙ length_push c.loop-thread.locals.items _ in let m = i.made in omega arith);
      room = c.push_reserved.ensures.capacity ∙ i.room;
    }
