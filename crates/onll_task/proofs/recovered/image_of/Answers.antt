use Rattle.std.proofs.Common.{length, sym, subst, ◌∙◌}
use Rattle.std.specs.List.{AllByRecursion}
use Rattle.onll_log.specs.Encoding.{log_lines}
use Rattle.onll_log.specs.Log.{free_of}
use Rattle.onll_outside.specs.LineFiles.{IsWholeLine}
use Rattle.onll_outside.proofs.WholeLines.{whole_to_end}
use Rattle.onll_task.proofs.WholeLines.{words_whole}
use Rattle.onll_task.proofs.recovered.image_of.Goals as goal

pub returns-clause-whole : goal.returns-clause-whole
returns-clause-whole g c =
    let log = c.args.log.now in
    let whole = words_whole c.as_slice.result.now c.whole_lines.ensures in
    subst (AllByRecursion IsWholeLine) (sym c.device.ensures.holds.read)
    (whole_to_end (log_lines log.head log.entries) (free_of (length (g.P.Pmem.means log.device).read) log.entries)
    (subst (AllByRecursion IsWholeLine) (c.as_slice.ensures ∙ c.in_ok-image.ensures.lines) whole))
