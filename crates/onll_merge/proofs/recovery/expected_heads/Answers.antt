use Rattle.std.proofs.Common.{◌≡◌, ◌++◌, ◌∷◌, [], length, ap, ◌∙◌, arith, rules, length-append}
use Rattle.onll_log.specs.Head.{head_for}
use Rattle.onll_log.specs.Grammar.{format_in}
use Rattle.onll_merge.proofs.Decoding.{head_more}
use Rattle.onll_merge.proofs.recovery.expected_heads.Goals as goal

pub loop-thread-preserved : goal.loop-thread-preserved
loop-thread-preserved g c =
    let thread = c.loop-thread.thread in
    let heads = c.loop-thread.heads.items in
    let images = c.args.images.now in
    let lines = g.I.LogImage.lines_of in
    let pushed : c.push.new.self.items ≡ heads ++ c.of_format.result ∷ [] = search rules in
    let head : c.of_format.result ≡ head_for (format_in (lines c.index-images-thread.result)) thread (length images) c.args.object c.args.init.now =
    c.of_format.ensures.head ∙ ap (λ f. head_for f thread (length images) c.args.object c.args.init.now) c.format.ensures in
    record {
      all = rw pushed (head_more lines c.args.object (length images) thread c.args.init.now heads images c.index-images-thread.result c.of_format.result (omega arith) c.index-images-thread.is head ∙ c.loop-thread.invariant.all);
      count = omega (arith, ap length pushed, length-append heads (c.of_format.result ∷ []), c.loop-thread.invariant.count);
    }
