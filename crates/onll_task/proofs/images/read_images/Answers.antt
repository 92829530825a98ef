use Rattle.std.proofs.Common.{◌≡◌, ◌+◌, ◌-◌, ◌++◌, ◌∷◌, ◌*◌, ◌≤◌, [], length, ap, ◌∙◌, sym, subst, arith, rules, length-append}
use Rattle.std.specs.List.{All}
use Rattle.std.proofs.lemmas.List.Elements.{All-nil}
use Rattle.onll_log.specs.ImageFile.{longest_image}
use Rattle.onll_open.specs.Names.{log_names}
use Rattle.onll_task.specs.Images.{AllBeginWith}
use Rattle.onll_task.proofs.FileFronts.{fronts_more}
use Rattle.onll_task.proofs.Stages.{none_by, none_then}
use Rattle.onll_task.proofs.ImageFiles.{ReadStanding, none_standing, standing_next, standing_stops, standing_read, names_more, few_more}
use Rattle.onll_task.proofs.images.read_images.Goals as goal

pub loop-thread-init : goal.loop-thread-init
loop-thread-init g c =
    let store = g.S.Store.seen c.args.store.now in
    let names = log_names c.args.logs.now 0 c.args.threads in
    let images = c.new-images.result.items in
    let counts = c.new-counts.result.items in
    let none : images ≡ [] = c.new-images.ensures.items in
    let nothing : counts ≡ [] = c.new-counts.ensures.items in
    let all : c.args.threads ≡ c.args.threads - 0 = omega arith in
    record {
      so = subst (λ n. ReadStanding names (log_names c.args.logs.now 0 n) store store images counts) all (none_standing names store images counts none nothing);
      fronts = subst (λ ls. AllBeginWith c.args.logs.now 0 ls store) (sym none) tt;
      few = subst (All (λ count. 64 * count ≤ longest_image)) (sym nothing) (All-nil (λ count. 64 * count ≤ longest_image));
      count = ap length none;
      many = ap length nothing;
    }

pub returns-in_err-name-clause-begins : goal.returns-in_err-name-clause-begins
returns-in_err-name-clause-begins g c = none_by c.from_residual.ensures.1 c.loop-thread.invariant.so.so.same

pub returns-in_err-push-in-Ok-clause-begins : goal.returns-in_err-push-in-Ok-clause-begins
returns-in_err-push-in-Ok-clause-begins g c = none_by c.from_residual-in_err-push-in-Ok.ensures.1 (none_then c.loop-thread.invariant.so.so.same c.in-Ok.ensures.begins.files)

pub returns-in_err-push-in-Ok-2-clause-begins : goal.returns-in_err-push-in-Ok-2-clause-begins
returns-in_err-push-in-Ok-2-clause-begins g c = none_by c.from_residual-in_err-push-in-Ok-2.ensures.1 (none_then c.loop-thread.invariant.so.so.same c.in-Ok.ensures.begins.files)

pub returns-in-Err-clause-begins : goal.returns-in-Err-clause-begins
returns-in-Err-clause-begins g c = standing_stops c.loop-thread.invariant.so (names_more c.args.logs.now c.loop-thread.thread c.args.threads (omega arith)) (rw (c.deref.ensures ∙ c.in_ok-name.ensures) at c.in-Err.ensures.begins)

pub loop-thread-preserved : goal.loop-thread-preserved
loop-thread-preserved g c =
    let images = c.loop-thread.images.items in
    let counts = c.loop-thread.counts.items in
    let mid = g.S.Store.seen c.loop-thread.store in
    let new = g.S.Store.seen c.kept_image.new.store in
    let named = c.deref.ensures ∙ c.in_ok-name.ensures in
    let pushed : c.push.new.self.items ≡ images ++ c.in-Ok.field-0.image ∷ [] = (search rules) ∙ ap (λ i. images ++ i ∷ []) (sym c.in-Ok.image-is) in
    let counted : c.push-in-Ok.new.self.items ≡ counts ++ c.in-Ok.field-0.count ∷ [] = (search rules) ∙ ap (λ n. counts ++ n ∷ []) (sym c.in-Ok.count-is) in
    record {
      so = standing_next c.loop-thread.invariant.so (names_more c.args.logs.now c.loop-thread.thread c.args.threads (omega arith)) (rw named at c.in-Ok.ensures.begins) pushed counted;
      fronts = fronts_more c.args.logs.now c.loop-thread.thread images c.push.new.self.items c.in-Ok.field-0.image mid new
          c.loop-thread.invariant.count c.in-Ok.ensures.begins.files c.loop-thread.invariant.fronts (rw named at c.in-Ok.ensures.front) pushed;
      few = few_more counts c.push-in-Ok.new.self.items c.in-Ok.field-0.count c.loop-thread.invariant.few c.in-Ok.ensures.few counted;
      count = ap length pushed ∙ length-append images (c.in-Ok.field-0.image ∷ []) ∙ ap (λ n. n + 1) c.loop-thread.invariant.count;
      many = ap length counted ∙ length-append counts (c.in-Ok.field-0.count ∷ []) ∙ ap (λ n. n + 1) c.loop-thread.invariant.many;
    }

pub returns-clause-begins : goal.returns-clause-begins
returns-clause-begins g c =
    let none : c.args.threads - c.loop-thread.thread ≡ 0 = omega arith in
    standing_read (record { images = c.loop-thread.images; counts = c.loop-thread.counts }) c.loop-thread.invariant.so (ap (log_names c.args.logs.now c.loop-thread.thread) none)
