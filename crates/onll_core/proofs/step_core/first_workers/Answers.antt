use Rattle.std.proofs.Common.{◌≡◌, ◌+◌, ◌≤◌, ◌∙◌, ◌∷◌, length, ap, subst, arith}
use Rattle.std.specs.List.{All}
use Rattle.std.proofs.lemmas.List.{length_push}
use Rattle.std.proofs.lemmas.List.Elements.{All-tail}
use Rattle.onll_model.specs.Calls.{updates_in}
use Rattle.std.specs.Vec.Iter.{into_iter_items}
use Rattle.onll_log.specs.Head.{head_for}
use Rattle.onll_core.specs.First.{first_thread}
use Rattle.onll_core.proofs.Firsts.{one_made}
use Rattle.onll_core.proofs.step_core.first_workers.Goals as goal

pub loop-script-preserved : goal.loop-script-preserved
loop-script-preserved g c =
    let split : into_iter_items c.loop-script.script-iterator ≡ c.in-Some.script ∷ into_iter_items c.next.new.self = c.in-Some.ensures.steps.0 in
    let head : c.new-head.result ≡ head_for 2 c.loop-script.thread c.len-threads.result g.O.Object.CODE c.args.init.now = rw c.CODE.ensures at c.new-head.ensures.head in
    let same : c.in_ok-new.field-0 ≡ first_thread (head_for 2 c.loop-script.thread c.len-threads.result g.O.Object.CODE c.args.init.now) c.in-Some.script.items = rw head at c.in_ok-new.ensures in
    let i = c.loop-script.invariant in
    let count = i.count in
    let longer : length (into_iter_items c.loop-script.script-iterator) ≡ length (into_iter_items c.next.new.self) + 1 = (let e = ap length split in omega arith) in
    record {
      all = one_made (λ script. script.items) c.len-threads.result g.O.Object.CODE c.args.init.now c.loop-script.thread c.loop-script.workers.items c.push_reserved.new.self.items c.in-Some.script (into_iter_items c.next.new.self) (into_iter_items c.loop-script.script-iterator) c.in_ok-new.field-0 split same c.push_reserved.ensures.items ∙ i.all;
      count = omega arith;
      made = (let e : length c.push_reserved.new.self.items ≡ length c.loop-script.workers.items + 1 = ap length c.push_reserved.ensures.items ∙ length_push c.loop-script.workers.items c.in_ok-new.field-0 in let m = i.made in omega arith);
      room = c.push_reserved.ensures.capacity ∙ i.room;
      few = i.few;
      updates = All-tail (λ script. updates_in script.items ≤ 4096) c.in-Some.script (into_iter_items c.next.new.self) (subst (All (λ script. updates_in script.items ≤ 4096)) split i.updates);
    }
