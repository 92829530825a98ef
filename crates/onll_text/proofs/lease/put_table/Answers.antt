use Rattle.std.proofs.Common.{◌+◌, drop, ap, ◌∙◌, arith}
use Rattle.std.specs.List.{flat_map}
use Rattle.onll_words.specs.Texts.{line_text}
use Rattle.onll_text.specs.Bytes.{with_lines}
use Rattle.onll_text.specs.LeaseText.{entry_lines, held_lines}
use Rattle.onll_text.proofs.LeaseReadBack.{held_lines_more}
use Rattle.onll_text.proofs.Keeping.{part_front}
use Rattle.onll_text.proofs.lease.put_table.Goals as goal

pub returns-in_err-put_entry-clause-within : goal.returns-in_err-put_entry-clause-within
returns-in_err-put_entry-clause-within c =
    let r = c.loop-r.r in
    let entries = c.args.lease.now in
    let out = c.loop-r.out in
    let rest = held_lines (r + 1) (drop (r + 1) entries) in
    part_front _ (with_lines out (entry_lines r c.entry.result)) (flat_map line_text rest) _
    (ap (λ e. with_lines (with_lines out (entry_lines r e)) rest) c.entry.ensures.entry ∙ held_lines_more out entries r (omega arith) ∙ c.loop-r.invariant.lines) c.put_entry.ensures.within
