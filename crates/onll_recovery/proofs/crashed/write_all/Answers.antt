use Rattle.std.proofs.Common.{[], ◌∷◌, ◌++◌, ◌≡◌, ◌≤◌, ◌<◌, ◌+◌, get_or, length, refl, sym, subst, arith, rules}
use Rattle.onll_core.specs.Crash.{images_of}
use Rattle.onll_task.specs.Images.{AllDecide}
use Rattle.onll_task.proofs.Onwards.{none_wrote, wrote_next}
use Rattle.onll_task.proofs.Stages.{cut_begins, unwritten_begins, wrote_begins}
use Rattle.onll_recovery.proofs.Replays.{images_count}
use Rattle.onll_task.proofs.Standing.{stand_next, all_stand}
use Rattle.onll_recovery.proofs.crashed.write_all.Goals as goal

pub loop-thread-init : goal.loop-thread-init
loop-thread-init g c = record {
  so = none_wrote (g.S.Store.seen c.args.store.now) c.args.logs.now (images_of c.args.keep c.args.core.now.threads);
  stand = subst (λ kept. AllDecide kept []) (sym c.new-kept.ensures.items) tt;
}

pub loop-thread-preserved : goal.loop-thread-preserved
loop-thread-preserved g c =
    let i = c.loop-thread.thread in
    let kept = c.loop-thread.kept.items in
    let images = images_of c.args.keep c.args.core.now.threads in
    let count = images_count c.args.core.now c.args.keep in
    let less : i < length images = omega (arith, count) in
    let pushed : c.push.new.self.items ≡ kept ++ c.in-Ok.lines ∷ [] = search rules in
    record {
      so = wrote_next (g.S.Store.seen c.args.store.now) (g.S.Store.seen c.loop-thread.store) (g.S.Store.seen c.write_at.new.store) c.args.logs.now images (get_or images i []) i less
          refl c.loop-thread.invariant.so c.in-Ok.ensures.written c.in-Ok.ensures.others;
      stand = stand_next kept c.push.new.self.items images c.in-Ok.lines i less c.loop-thread.invariant.stand c.in-Ok.ensures.stands pushed;
    }

pub returns-in_err-push-in-Ok-clause-begins : goal.returns-in_err-push-in-Ok-clause-begins
returns-in_err-push-in-Ok-clause-begins g c =
    let i = c.loop-thread.thread in
    let images = images_of c.args.keep c.args.core.now.threads in
    let count = images_count c.args.core.now c.args.keep in
    let less : i < length images = omega (arith, count) in
    cut_begins (g.S.Store.seen c.args.store.now) (g.S.Store.seen c.write_at.new.store) c.args.logs.now images (i + 1)
    (wrote_next (g.S.Store.seen c.args.store.now) (g.S.Store.seen c.loop-thread.store) (g.S.Store.seen c.write_at.new.store) c.args.logs.now images (get_or images i []) i less refl
    c.loop-thread.invariant.so c.in-Ok.ensures.written c.in-Ok.ensures.others) c.from_residual.ensures.1

pub returns-in-Err-clause-begins : goal.returns-in-Err-clause-begins
returns-in-Err-clause-begins g c =
    let i = c.loop-thread.thread in
    let images = images_of c.args.keep c.args.core.now.threads in
    let count = images_count c.args.core.now c.args.keep in
    let less : i < length images = omega (arith, count) in
    unwritten_begins (g.S.Store.seen c.args.store.now) (g.S.Store.seen c.loop-thread.store) (g.S.Store.seen c.write_at.new.store) c.args.logs.now images i c.in-Err.stop less
    c.loop-thread.invariant.so c.in-Err.ensures.stop c.in-Err.ensures.cut c.in-Err.ensures.others

pub returns-clause-begins : goal.returns-clause-begins
returns-clause-begins g c =
    let images = images_of c.args.keep c.args.core.now.threads in
    let count = images_count c.args.core.now c.args.keep in
    let most : length images ≤ c.loop-thread.thread = omega (arith, count) in
    wrote_begins _ (g.S.Store.seen c.args.store.now) (g.S.Store.seen c.loop-thread.store) c.args.logs.now images c.loop-thread.thread most c.loop-thread.invariant.so

pub returns-clause-stand : goal.returns-clause-stand
returns-clause-stand g c =
    let images = images_of c.args.keep c.args.core.now.threads in
    let count = images_count c.args.core.now c.args.keep in
    let most : length images ≤ c.loop-thread.thread = omega (arith, count) in
    all_stand c.loop-thread.kept.items images c.loop-thread.thread most c.loop-thread.invariant.stand
