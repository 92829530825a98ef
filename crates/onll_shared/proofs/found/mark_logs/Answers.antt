use Rattle.std.proofs.Common.{ap, map, ◌∙◌}
use Rattle.std.proofs.lemmas.Result.{IfOk-weaker}
use Rattle.onll_log.specs.Grammar.{content_of}
use Rattle.onll_shared.specs.Found.{marks_from}
use Rattle.onll_shared.proofs.Marked.{holds_base, images_have}
use Rattle.onll_shared.proofs.found.mark_logs.Goals as goal

pub returns : goal.returns
returns g c =
    let logs = c.args.logs.now in
    let images = c.deref.result.now in
    let held = ap (map content_of) c.deref.ensures.value ∙ c.in_ok-images.ensures.contents in
    IfOk-weaker c.mark_images.result _ _ (λ marks is base merged. holds_base logs base marks.items c.requires.many c.requires.logs c.in_ok-images.ensures.fit merged (is ∙ ap (marks_from 0) (images_have images logs held))) c.mark_images.ensures
