use Rattle.std.proofs.Common.{◌≡◌, ◌+◌, ◌∷◌, ◌++◌, [], take, length, get_or, Some, subst, sym, ap, ◌∙◌, arith, length-append}
use Rattle.std.specs.List.{All, AllByRecursion}
use Rattle.std.proofs.lemmas.List.{take_more}
use Rattle.std.proofs.lemmas.List.Elements.{All-push}
use Rattle.onll_log.specs.Grammar.{content_of}
use Rattle.onll_log.specs.Log.{LogState}
use Rattle.onll_run.specs.Left.{content_in}
use Rattle.onll_run.specs.Ended.{log_left}
use Rattle.onll_outside.specs.LineFiles.{IsWholeLine}
use Rattle.onll_task.proofs.WholeLines.{map_more}
use Rattle.onll_task.proofs.recovered.images_of.Goals as goal

pub loop-log-preserved : goal.loop-log-preserved
loop-log-preserved g c =
    let means = g.P.Pmem.means in
    let Whole = λ (log : LogState _). AllByRecursion IsWholeLine (means log.device).read in
    let logs = c.args.logs.now in
    let i = c.loop-log.log-index in
    let log = c.log-item.result in
    let image = c.in_ok-image_of.field-0 in
    let pushed : c.push.new.self.items ≡ c.loop-log.images.items ++ image ∷ [] = c.in_ok-push.ensures.items in
    record {
      contents = map_more content_of (λ (log : LogState _). Some (content_in (log_left means log))) c.loop-log.images.items c.push.new.self.items image logs i log (omega arith)
          (sym c.log-item.is) pushed c.in_ok-image_of.ensures.content c.loop-log.invariant.contents;
      count = ap length pushed ∙ length-append c.loop-log.images.items (image ∷ []) ∙ ap (λ n. n + 1) c.loop-log.invariant.count;
      whole = subst (All Whole) (sym (take_more logs i log (omega arith)))
          (All-push Whole (take i logs) (get_or logs i log) c.loop-log.invariant.whole (subst Whole c.log-item.is c.in_ok-image_of.ensures.whole));
    }
