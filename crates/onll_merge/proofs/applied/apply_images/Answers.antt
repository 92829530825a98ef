use Rattle.std.proofs.Common.{◌≡◌, map, sym, ap, ◌∙◌, List}
use Rattle.onll_log.specs.Cursor.{CursorState}
use Rattle.onll_merge.specs.Merge.{top_of}
use Rattle.onll_merge.specs.Standing.{contents_under}
use Rattle.onll_merge.proofs.Known.{gives}
use Rattle.onll_merge.proofs.applied.apply_images.Goals as goal

pub returns-clause-nodes : goal.returns-clause-nodes
returns-clause-nodes g c =
    let logs = contents_under c.in-Ok.cursors.items in
    let given = gives g.O.Object.means c.args.heads.now (map g.I.LogImage.lines_of c.args.images.now) logs c.in-Ok.ensures.logs c.requires.known in
    let top : c.in-Ok-survey_logs.found.top ≡ top_of logs = c.in-Ok-survey_logs.ensures.top ∙ ap (λ (cs : List CursorState). top_of (contents_under cs)) c.deref_mut.ensures.value in
    rw given.recovered (top ∙ sym given.whole)
