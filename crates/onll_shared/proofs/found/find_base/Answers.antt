use Rattle.std.proofs.Common.{ap, map, ◌∙◌}
use Rattle.onll_log.specs.Grammar.{content_of}
use Rattle.onll_shared.specs.Found.{marks_from}
use Rattle.onll_shared.proofs.Marked.{holds_base, images_have}
use Rattle.onll_shared.proofs.found.find_base.Goals as goal

pub returns : goal.returns
returns g c =
    let logs = c.args.logs.now in
    let images = c.deref-2.result.now in
    let held = ap (map content_of) c.deref-2.ensures.value ∙ c.in-Ok.ensures.contents in
    holds_base logs c.in_ok-nodes.nodes.items c.in-Ok-mark_images.marks.items c.requires.many c.requires.logs c.in-Ok.ensures.fit
    c.in_ok-nodes.ensures (c.in-Ok-mark_images.ensures ∙ ap (marks_from 0) (images_have images logs held))
