use Rattle.std.proofs.Common.{◌≡◌, true}
use Rattle.onll_pmem.specs.Pmem.{words_of}
use Rattle.onll_log.specs.Grammar.{is_entry}
use Rattle.onll_log.proofs.Cursors.{entry_seen, entry_known}
use Rattle.onll_log.proofs.cursor.entry_at.Goals as goal
use Rattle.onll_log.proofs.cursor.entry_at.Goals.{then-before-known, else-before-known}

pub returns-then-is_entry : goal.returns-then-is_entry
returns-then-is_entry c =
    let head = c.args.head.now in
    let line = c.in_ok-line.line.now in
    let rest = c.in_ok-line.rest.now in
    let left = c.split_at.result.1.now in
    let accepted : is_entry head c.args.before line.w (words_of rest) ≡ true = elim c.if-before-known.branch [
      | then-before-known w ↦ entry_known head c.args.before c.args.at c.args.lines.now left rest line c.split_at.ensures.back c.in_ok-line.ensures.cases.0 (c.requires.known w.if-before-known.true)
      | else-before-known w ↦ cc (w.is_entry.ensures, w.value-is, c.if-is_entry.true)
    ] in
    entry_seen head c.args.before c.args.at c.args.lines.now left rest line c.split_at.ensures.back c.in_ok-line.ensures.cases.0 accepted
